-- Plans of commands that set strings at many keys, or take many keys away.
use Rattle.std.proofs.Common.{ℕ, ◌≡◌, ◌+◌, ◌-◌, refl, sym, ap, subst, ◌∙◌, Bool, true, false, cond, List, [], ◌∷◌, arith}
use Rattle.std.proofs.lemmas.Bool.{not-false, and_right}
use Rattle.std.proofs.lemmas.List.Elements.{All-head, All-tail}
use Rattle.std.specs.Prelude.{Option, Some, None, Ok, IsTrue, is_some, ◌&&◌, ◌||◌, not, if◌then◌else◌, All, fold, option_and_then}
use Rattle.kv_base.specs.Map.{Bytes, Map, same, same_itself, same_is, kept, get, has, empty, insert, remove, get-empty, get-insert, get-remove, get-keep, size-empty, size-insert, size-remove, same_map, size}
use Rattle.kv_base.specs.MetaValues.{is_payload}
use Rattle.kv_base.specs.InversionLaws.{both_first, both_second}
use Rattle.kv_base.specs.RawKeys.{is_key}
use Rattle.batch_codec.specs.Batches.{Batch}
use Rattle.redis_model.specs.declared.reply.Reply.{Reply}
use Rattle.redis_model.specs.declared.command.Command.{Command}
use Rattle.redis_model.specs.Value.{Str, Entry, RedisMap, deadline_at}
use Rattle.redis_model.specs.Outcome.{put_string, number}
use Rattle.redis_model.specs.Keys.{among}
use Rattle.redis_model.specs.About.{keys_of}
use Rattle.redis_model.specs.Apply.{apply, carried_out}
use Rattle.redis_model.specs.Touched.{is_touched, written_again, differs}
use Rattle.redis_model.specs.TouchedLaws.{among_touched_done, same_entry_decides}
use Rattle.lives_model.specs.Rows.{Rows, meta_key}
use Rattle.lives_model.specs.Clean.{live_at}
use Rattle.lives_model.specs.Means.{Means}
use Rattle.lives_model.specs.Plans.{IsPlanOf, least_above, touches}
use Rattle.plan_base.specs.SeenLaws.{seen_there}
use Rattle.plan_base.specs.Ahead.{seen_deadlines}
use Rattle.plan_base.specs.AheadLaws.{ahead_cleared}
use Rattle.plan_base.specs.MetaRows.{string_row, HasOnlyMeta}
use Rattle.plan_base.specs.MetaRowLaws.{only_meta_empty, only_meta_insert, meta_insert}
use Rattle.plan_base.specs.KeySteps.{TellsKey, alive_entry}
use Rattle.plan_base.specs.KeyStepLaws.{apply_done, keys_step}
use Rattle.plan_base.specs.KeyPlanLaws.{string_tells}
use Rattle.plan_base.specs.ManyKeys.{with_string, strings_batch, with_strings, names_of, IsPair, with_delete, deletes_batch, without_keys}

-- ---- strings at many keys

-- the batch puts the string that the map has at the key
record IsPut (t : ℕ) (n : RedisMap) (b : Batch) (q : Bytes) : Type 0 where
  value : Bytes
  short : IsTrue (is_payload value)
  row : get b (meta_key q) ≡ Some (string_row t None value)
  entry : get n q ≡ Some (record { value = Str value; deadline = None })

-- the key that is put has its string
put_here : (t : ℕ) (n : RedisMap) (b : Batch) (k v q : Bytes) → IsTrue (is_payload v) → same q k ≡ true → IsPut t (put_string n k v None) (with_string t b (k, v)) q
put_here t n b k v q short e = record {
  value = v;
  short = short;
  row = meta_insert b k (string_row t None v) q ∙ ap (λ s. cond s (Some (string_row t None v)) (get b (meta_key q))) e;
  entry = get-insert n k (record { value = Str v; deadline = None }) q ∙ ap (λ s. cond s (Some (record { value = Str v; deadline = None })) (get n q)) e;
}

-- any other key has the string that it had
put_still : (t : ℕ) (n : RedisMap) (b : Batch) (k v q : Bytes) → same q k ≡ false → IsPut t n b q → IsPut t (put_string n k v None) (with_string t b (k, v)) q
put_still t n b k v q e put = record {
  value = put.value;
  short = put.short;
  row = meta_insert b k (string_row t None v) q ∙ ap (λ s. cond s (Some (string_row t None v)) (get b (meta_key q))) e ∙ put.row;
  entry = get-insert n k (record { value = Str v; deadline = None }) q ∙ ap (λ s. cond s (Some (record { value = Str v; deadline = None })) (get n q)) e ∙ put.entry;
}

-- what is put stays put, as the same string or a later one
put_on : (t : ℕ) (es : List (Bytes × Bytes)) (n : RedisMap) (b : Batch) (q : Bytes) → All IsPair es → IsPut t n b q → IsPut t (with_strings n es) (fold (with_string t) b es) q
put_on t [] n b q pairs put = put
put_on t (e ∷ es) n b q pairs put =
    put_on t es (put_string n e.0 e.1 None) (with_string t b e) q (All-tail IsPair e es pairs) (by_test (same q e.0) refl)
  where
    by_test : (s : Bool) → same q e.0 ≡ s → IsPut t (put_string n e.0 e.1 None) (with_string t b e) q
    by_test true is = put_here t n b e.0 e.1 q (All-head IsPair e es pairs).1 is
    by_test false is = put_still t n b e.0 e.1 q is put

-- each key that is named is put
put_all : (t : ℕ) (es : List (Bytes × Bytes)) (n : RedisMap) (b : Batch) (q : Bytes) → All IsPair es → IsTrue (among (names_of es) q) → IsPut t (with_strings n es) (fold (with_string t) b es) q
put_all t [] n b q pairs named = absurd (cc)
put_all t (e ∷ es) n b q pairs named = by_test (same q e.0) refl named (put_all t es (put_string n e.0 e.1 None) (with_string t b e) q (All-tail IsPair e es pairs))
  where
    by_test : (s : Bool) → same q e.0 ≡ s → (s || among (names_of es) q) ≡ true
        → (among (names_of es) q ≡ true → IsPut t (with_strings (put_string n e.0 e.1 None) es) (fold (with_string t) (with_string t b e) es) q)
        → IsPut t (with_strings (put_string n e.0 e.1 None) es) (fold (with_string t) (with_string t b e) es) q
    by_test true is h rest = put_on t es (put_string n e.0 e.1 None) (with_string t b e) q (All-tail IsPair e es pairs) (put_here t n b e.0 e.1 q (All-head IsPair e es pairs).1 is)
    by_test false is h rest = rest h

-- and no other
put_none : (t : ℕ) (es : List (Bytes × Bytes)) (b : Batch) (q : Bytes) → among (names_of es) q ≡ false → get b (meta_key q) ≡ None → get (fold (with_string t) b es) (meta_key q) ≡ None
put_none t [] b q named none = none
put_none t (e ∷ es) b q named none = by_test (same q e.0) refl named (put_none t es (with_string t b e) q)
  where
    by_test : (s : Bool) → same q e.0 ≡ s → (s || among (names_of es) q) ≡ false
        → (among (names_of es) q ≡ false → get (with_string t b e) (meta_key q) ≡ None → get (fold (with_string t) (with_string t b e) es) (meta_key q) ≡ None)
        → get (fold (with_string t) (with_string t b e) es) (meta_key q) ≡ None
    by_test true is h rest = absurd (cc)
    by_test false is h rest =
        rest h (meta_insert b e.0 (string_row t None e.1) q ∙ ap (λ s. cond s (Some (string_row t None e.1)) (get b (meta_key q))) is ∙ none)

-- there are no other rows
put_only : (t : ℕ) (es : List (Bytes × Bytes)) (b : Batch) → All IsPair es → HasOnlyMeta b → HasOnlyMeta (fold (with_string t) b es)
put_only t [] b pairs only = only
put_only t (e ∷ es) b pairs only =
    put_only t es (with_string t b e) (All-tail IsPair e es pairs) (only_meta_insert b e.0 (string_row t None e.1) only (All-head IsPair e es pairs).0)

-- A command that sets strings at all of its keys, over whatever they held and without deadlines.
pub strings_plan : {c : Rows} {t : ℕ} {m : RedisMap} (fresh : ℕ) (d : Command) (es : List (Bytes × Bytes)) (answer : Reply)
    → Means c t m → carried_out m t d ≡ Ok (answer, with_strings m es) → keys_of d ≡ names_of es → All IsPair es
    → ((q : Bytes) → IsTrue (among (names_of es) q) → IsTrue (is_touched m (with_strings m es) d q))
    → IsPlanOf c t fresh m d (strings_batch t es) answer (least_above t (seen_deadlines c t (keys_of d)))
strings_plan {c} {t} {m} fresh d es answer means is named pairs touch = record {
  step = keys_step fresh d (strings_batch t es) answer (with_strings m es) means done (record {
    only = put_only t es empty pairs only_meta_empty;
    told = λ q h.
        let put = put_all t es m empty q pairs (sym (touched_is q) ∙ h) in
        subst (λ (x : Option (Option Bytes)). TellsKey c t fresh m d q x (alive_entry t (get (with_strings m es) q))) (sym put.row)
        (subst (λ (o : Option Entry). TellsKey c t fresh m d q (Some (string_row t None put.value)) (alive_entry t o)) (sym put.entry)
        (string_tells c t fresh m d q put.value None refl put.short));
    still = λ q h. put_none t es empty q (sym (touched_is q) ∙ h) (get-empty (meta_key q));
  });
  ahead = ahead_cleared means d (λ q h.
      let put = put_all t es m empty q pairs (ap (λ ks. among ks q) (sym named) ∙ h) in
      ap (λ r. deadline_at r.1 q) done ∙ ap (option_and_then (λ e. e.deadline)) put.entry);
}
  where
    done : apply m t d ≡ (answer, with_strings m es)
    done = apply_done m t d (answer, with_strings m es) is

    by_test : (q : Bytes) (a : Bool) → among (names_of es) q ≡ a → (is_touched m (with_strings m es) d q && a) ≡ a
    by_test q true e = ap (λ b. b && true) (touch q e)
    by_test q false e = and_right (is_touched m (with_strings m es) d q) false refl

    touched_is : (q : Bytes) → touches m t d q ≡ among (names_of es) q
    touched_is q =
        among_touched_done m t d (answer, with_strings m es) q is
        ∙ ap (λ ks. is_touched m (with_strings m es) d q && among ks q) named
        ∙ by_test q (among (names_of es) q) refl

-- ---- many keys that go

-- what a batch has at each key after one more that goes
delete_at : (c : Rows) (t : ℕ) (b : Batch) (k q : Bytes) → get (with_delete c t b k) (meta_key q) ≡ (if same q k && is_some (live_at c t k) then Some None else get b (meta_key q))
delete_at c t b k q = by_tests (is_some (live_at c t k)) (same q k) refl
  where
    by_tests : (h s : Bool) → same q k ≡ s → get (cond h (insert b (meta_key k) None) b) (meta_key q) ≡ cond (s && h) (Some None) (get b (meta_key q))
    by_tests true true e = meta_insert b k None q ∙ ap (λ s. cond s (Some None) (get b (meta_key q))) e
    by_tests true false e = meta_insert b k None q ∙ ap (λ s. cond s (Some None) (get b (meta_key q))) e
    by_tests false true e = refl
    by_tests false false e = refl

-- at each key that is named and there stands the delete
deletes_at : (c : Rows) (t : ℕ) (ks : List Bytes) (b : Batch) (q : Bytes) → get (fold (with_delete c t) b ks) (meta_key q) ≡ (if among ks q && is_some (live_at c t q) then Some None else get b (meta_key q))
deletes_at c t [] b q = refl
deletes_at c t (k ∷ ks) b q =
    deletes_at c t ks (with_delete c t b k) q
    ∙ ap (cond (among ks q && is_some (live_at c t q)) (Some None)) (delete_at c t b k q)
    ∙ by_test (same q k) refl
  where
    both : (a h : Bool) (x : Option (Option Bytes)) → cond (a && h) (Some None) (cond h (Some None) x) ≡ cond h (Some None) x
    both true true x = refl
    both true false x = refl
    both false h x = refl

    by_test : (s : Bool) → same q k ≡ s
        → cond (among ks q && is_some (live_at c t q)) (Some None) (cond (s && is_some (live_at c t k)) (Some None) (get b (meta_key q))) ≡ cond ((s || among ks q) && is_some (live_at c t q)) (Some None) (get b (meta_key q))
    by_test true e =
        ap (λ x. cond (among ks q && is_some (live_at c t q)) (Some None) (cond (is_some (live_at c t x)) (Some None) (get b (meta_key q)))) (sym (same_is q k e))
        ∙ both (among ks q) (is_some (live_at c t q)) (get b (meta_key q))
    by_test false e = refl

-- there are no other rows
deletes_only : (c : Rows) (t : ℕ) (ks : List Bytes) (b : Batch) → All (λ k. IsTrue (is_key k)) ks → HasOnlyMeta b → HasOnlyMeta (fold (with_delete c t) b ks)
deletes_only c t [] b short only = only
deletes_only c t (k ∷ ks) b short only =
    deletes_only c t ks (with_delete c t b k) (All-tail (λ k. IsTrue (is_key k)) k ks short) (by_test (is_some (live_at c t k)))
  where
    by_test : (h : Bool) → HasOnlyMeta (cond h (insert b (meta_key k) None) b)
    by_test true = only_meta_insert b k None only (All-head (λ k. IsTrue (is_key k)) k ks short)
    by_test false = only

-- nothing is left at a key that is named
without_at : (m : RedisMap) (ks : List Bytes) (q : Bytes) → IsTrue (among ks q) → get (without_keys m ks) q ≡ None
without_at m ks q named = get-keep (λ k _. not (among ks k)) m q ∙ by_entry (get m q)
  where
    by_entry : (o : Option Entry) → kept (λ _. not (among ks q)) o ≡ None
    by_entry None = refl
    by_entry (Some e) = ap (λ b. cond (not b) (Some e) None) named

-- ---- how many go

-- whether one of two is there
is_some_cond : {X : Type 0} (s : Bool) (x y : Option X) → is_some (cond s x y) ≡ cond s (is_some x) (is_some y)
is_some_cond true x y = refl
is_some_cond false x y = refl

-- a map that has a key is larger by one than without it
has_one : {X : Type 0} (n : Map X) (k : Bytes) → has n k ≡ true → size n ≡ size (remove n k) + 1
has_one {X} n k there = by_entry (get n k) refl there
  where
    by_entry : (o : Option X) → get n k ≡ o → is_some o ≡ true → size n ≡ size (remove n k) + 1
    by_entry None e h = absurd (cc)
    by_entry (Some x) e h =
        let back : insert (remove n k) k x ≡ n = same_map _ n (λ q. get-insert (remove n k) k x q ∙ ap (cond (same q k) (Some x)) (get-remove n k q) ∙ by_test q (same q k) refl) in
        let gone : has (remove n k) k ≡ false = ap is_some (get-remove n k k) ∙ ap (λ s. is_some (cond s None (get n k))) (same_itself k) in
        sym (ap size back) ∙ size-insert (remove n k) k x ∙ ap (λ b. cond b (size (remove n k)) (size (remove n k) + 1)) gone
      where
        by_test : (q : Bytes) (s : Bool) → same q k ≡ s → cond s (Some x) (cond s None (get n q)) ≡ get n q
        by_test q true is = sym (ap (get n) (same_is q k is) ∙ e)
        by_test q false is = refl

-- what the map n has is what m had and the batch does not delete, and the deletes and what is left are as many as there were
record AreApart (m n : RedisMap) (b : Batch) : Type 0 where
  left : (q : Bytes) → has n q ≡ (has m q && not (has b (meta_key q)))
  sum : size b + size n ≡ size m

-- this stays so with one more key that goes
apart_step : {c : Rows} {t : ℕ} {m : RedisMap} (means : Means c t m) (n : RedisMap) (b : Batch) (k : Bytes) → AreApart m n b → AreApart m (remove n k) (with_delete c t b k)
apart_step {c} {t} {m} means n b k apart = record {
  left = λ q. ap is_some (get-remove n k q) ∙ is_some_cond (same q k) None (get n q) ∙ ap (cond (same q k) false) (apart.left q) ∙ by_key q (same q k) refl ∙ sym (ap (λ o. has m q && not (is_some o)) (delete_at c t b k q));
  sum = by_there (has m k) (has b (meta_key k)) refl refl;
}
  where
    there : is_some (live_at c t k) ≡ has m k
    there = sym (seen_there means k)

    none : (b : Bool) → false ≡ (b && false)
    none true = refl
    none false = refl

    by_key : (q : Bytes) (s : Bool) → same q k ≡ s
        → cond s false (has m q && not (has b (meta_key q))) ≡ (has m q && not (is_some (cond (s && is_some (live_at c t k)) (Some None) (get b (meta_key q)))))
    by_key q true e = by_entry (has m q) refl
      where
        by_entry : (h : Bool) → has m q ≡ h → false ≡ (h && not (is_some (cond (is_some (live_at c t k)) (Some None) (get b (meta_key q)))))
        by_entry true is = sym (ap (λ l. not (is_some (cond l (Some None) (get b (meta_key q))))) (there ∙ ap (has m) (sym (same_is q k e)) ∙ is))
        by_entry false is = refl
    by_key q false e = refl

    by_there : (h p : Bool) → has m k ≡ h → has b (meta_key k) ≡ p → size (with_delete c t b k) + size (remove n k) ≡ size m
    by_there true false is pending =
        let here : has n k ≡ true = apart.left k ∙ ap (λ x. x && not (has b (meta_key k))) is ∙ ap not pending in
        let more : size (with_delete c t b k) ≡ size b + 1 =
        ap (λ l. size (cond l (insert b (meta_key k) None) b)) (there ∙ is) ∙ size-insert b (meta_key k) None ∙ ap (λ p. cond p (size b) (size b + 1)) pending in
        let less = has_one n k here in
        let all = apart.sum in
        omega (arith, more, less, all)
    by_there true true is pending =
        let gone : has n k ≡ false = apart.left k ∙ ap (λ x. x && not (has b (meta_key k))) is ∙ ap not pending in
        let more : size (with_delete c t b k) ≡ size b =
        ap (λ l. size (cond l (insert b (meta_key k) None) b)) (there ∙ is) ∙ size-insert b (meta_key k) None ∙ ap (λ p. cond p (size b) (size b + 1)) pending in
        let less : size (remove n k) ≡ size n = size-remove n k ∙ ap (λ p. cond p (size n - 1) (size n)) gone in
        let all = apart.sum in
        omega (arith, more, less, all)
    by_there false p is pending =
        let gone : has n k ≡ false = apart.left k ∙ ap (λ x. x && not (has b (meta_key k))) is in
        let more : size (with_delete c t b k) ≡ size b = ap (λ l. size (cond l (insert b (meta_key k) None) b)) (there ∙ is) in
        let less : size (remove n k) ≡ size n = size-remove n k ∙ ap (λ p. cond p (size n - 1) (size n)) gone in
        let all = apart.sum in
        omega (arith, more, less, all)

-- and with all of them
apart_all : {c : Rows} {t : ℕ} {m : RedisMap} (means : Means c t m) (ks : List Bytes) (n : RedisMap) (b : Batch) → AreApart m n b → AreApart m (fold remove n ks) (fold (with_delete c t) b ks)
apart_all {c} {t} {m} means [] n b apart = apart
apart_all {c} {t} {m} means (k ∷ ks) n b apart = apart_all means ks (remove n k) (with_delete c t b k) (apart_step means n b k apart)

-- what is left when keys are taken away one by one
removed_at : (ks : List Bytes) (n : RedisMap) (q : Bytes) → get (fold remove n ks) q ≡ kept (λ _. not (among ks q)) (get n q)
removed_at [] n q = by_entry (get n q)
  where
    by_entry : (o : Option Entry) → o ≡ kept (λ _. true) o
    by_entry None = refl
    by_entry (Some e) = refl
removed_at (k ∷ ks) n q = removed_at ks (remove n k) q ∙ ap (kept (λ _. not (among ks q))) (get-remove n k q) ∙ by_test (same q k) (among ks q) (get n q)
  where
    by_test : (s a : Bool) (o : Option Entry) → kept (λ _. not a) (cond s None o) ≡ kept (λ _. not (s || a)) o
    by_test true a None = refl
    by_test true a (Some e) = refl
    by_test false a o = refl

-- the deletes are as many as the keys that go
pub deletes_count : {c : Rows} {t : ℕ} {m : RedisMap} (means : Means c t m) (ks : List Bytes) → size (deletes_batch c t ks) ≡ size m - size (without_keys m ks)
deletes_count {c} {t} {m} means ks =
    let start : AreApart m m (empty {X = Option Bytes}) = record {
      left = λ q. yes (has m q) ∙ ap (λ o. has m q && not (is_some o)) (sym (get-empty (meta_key q)));
      sum = let none = size-empty (Option Bytes) in omega (arith, none);
    } in
    let apart = apart_all means ks m empty start in
    let same : size (fold remove m ks) ≡ size (without_keys m ks) = ap size (same_map _ (without_keys m ks) (λ q. removed_at ks m q ∙ sym (get-keep (λ k _. not (among ks k)) m q))) in
    let all = apart.sum in
    omega (arith, all, same)
  where
    yes : (b : Bool) → b ≡ (b && true)
    yes true = refl
    yes false = refl

-- A command that takes away those of its keys that are there, of any type, and answers how many.
pub deleted_plan : {c : Rows} {t : ℕ} {m : RedisMap} (fresh : ℕ) (d : Command)
    → Means c t m → carried_out m t d ≡ Ok (number (size m - size (without_keys m (keys_of d))), without_keys m (keys_of d))
    → written_again m (without_keys m (keys_of d)) d ≡ [] → All (λ k. IsTrue (is_key k)) (keys_of d)
    → IsPlanOf c t fresh m d (deletes_batch c t (keys_of d)) (number (size (deletes_batch c t (keys_of d)))) (least_above t (seen_deadlines c t (keys_of d)))
deleted_plan {c} {t} {m} fresh d means is none short = record {
  step = keys_step fresh d (deletes_batch c t (keys_of d)) (number (size (deletes_batch c t (keys_of d)))) (without_keys m (keys_of d)) means
      (done ∙ (λ i. (number (sym (deletes_count means (keys_of d)) i), without_keys m (keys_of d))))
      (record {
        only = deletes_only c t (keys_of d) empty short only_meta_empty;
        told = λ q h.
            let both = sym (touched_is q) ∙ h in
            let named = both_second (differs m (without_keys m (keys_of d)) q) (among (keys_of d) q) both in
            let gone = without_at m (keys_of d) q named in
            let there = is_there q gone (both_first (differs m (without_keys m (keys_of d)) q) (among (keys_of d) q) both) in
            subst (λ (o : Option Entry). TellsKey c t fresh m d q (get (deletes_batch c t (keys_of d)) (meta_key q)) (alive_entry t o)) (sym gone)
            (deletes_at c t (keys_of d) empty q ∙ ap (λ a. cond (a && is_some (live_at c t q)) (Some None) (get empty (meta_key q))) named
            ∙ ap (λ a. cond a (Some None) (get empty (meta_key q))) (sym (seen_there means q) ∙ there));
        still = λ q h.
            deletes_at c t (keys_of d) empty q ∙ by_test q (among (keys_of d) q) refl (sym (touched_is q) ∙ h) ∙ get-empty (meta_key q);
      });
  ahead = ahead_cleared means d (λ q named. ap (λ r. deadline_at r.1 q) done ∙ ap (option_and_then (λ e. e.deadline)) (without_at m (keys_of d) q named));
}
  where
    done : apply m t d ≡ (number (size m - size (without_keys m (keys_of d))), without_keys m (keys_of d))
    done = apply_done m t d _ is

    touched_is : (q : Bytes) → touches m t d q ≡ (differs m (without_keys m (keys_of d)) q && among (keys_of d) q)
    touched_is q =
        among_touched_done m t d _ q is
        ∙ ap (λ ks. (among ks q || differs m (without_keys m (keys_of d)) q) && among (keys_of d) q) none

    is_there : (q : Bytes) → get (without_keys m (keys_of d)) q ≡ None → differs m (without_keys m (keys_of d)) q ≡ true → has m q ≡ true
    is_there q gone h = by_entry (get m q) refl
      where
        by_entry : (o : Option Entry) → get m q ≡ o → is_some o ≡ true
        by_entry None e =
            let equal : differs m (without_keys m (keys_of d)) q ≡ false = ap not ((same_entry_decides (get m q) (get (without_keys m (keys_of d)) q)).1 (e ∙ sym gone)) in
            absurd (cc)
        by_entry (Some x) e = refl

    by_test : (q : Bytes) (a : Bool) → among (keys_of d) q ≡ a → (differs m (without_keys m (keys_of d)) q && a) ≡ false
        → cond (a && is_some (live_at c t q)) (Some None) (get (empty {X = Option Bytes}) (meta_key q)) ≡ get empty (meta_key q)
    by_test q true named h =
        let stays = differs_not (differs m (without_keys m (keys_of d)) q) h in
        let equal : get m q ≡ get (without_keys m (keys_of d)) q = (same_entry_decides (get m q) (get (without_keys m (keys_of d)) q)).0 (not-false _ stays) in
        let gone : has m q ≡ false = ap is_some (equal ∙ without_at m (keys_of d) q named) in
        ap (λ a. cond a (Some None) (get empty (meta_key q))) (sym (seen_there means q) ∙ gone)
      where
        differs_not : (b : Bool) → (b && true) ≡ false → b ≡ false
        differs_not true e = absurd (cc)
        differs_not false e = refl
    by_test q false named h = refl
