-- Plans of commands that write the metadata of keys and nothing else: the step, and how far ahead it is right.
use Rattle.std.proofs.Common.{◌≡◌, ℕ, refl, sym, ap, subst, ◌∙◌, Bool, true, false, cond, List, [], ◌∷◌, arith}
use Rattle.std.proofs.lemmas.Bool.{and_from, le-leb}
use Rattle.std.proofs.lemmas.Int.{ints}
use Rattle.std.specs.Prelude.{Option, Some, None, Ok, Err, IsTrue, IsFalse, ◌&&◌, ◌||◌, ◌==◌, not, ◌^◌, ℤ, pos, negsuc, option_and_then}
use Rattle.kv_base.specs.Map.{Bytes, same, same_itself, same_is, get, empty, insert, remove, get-insert, get-remove, same_map}
use Rattle.kv_base.specs.InversionLaws.{both_first}
use Rattle.kv_base.specs.RawKeys.{is_key}
use Rattle.kv_base.specs.MetaValues.{MetaValue, StringValue, LifeValue, ListValue, is_deadline, is_payload, is_meta_within, meta_text, expire_of}
use Rattle.meta_codec.specs.Metas.{with_expire}
use Rattle.redis_model.specs.declared.reply.Reply.{Reply}
use Rattle.redis_model.specs.declared.reply.Reply.TheVariants as reply
use Rattle.redis_model.specs.declared.reply.ReplyError.{ReplyError}
use Rattle.redis_model.specs.declared.command.Command.{Command}
use Rattle.redis_model.specs.declared.command.Expiry.{Expiry}
use Rattle.redis_model.specs.declared.command.Expiry.TheVariants as expiry
use Rattle.redis_model.specs.Value.{Str, Entry, RedisMap, deadline_at, lives}
use Rattle.redis_model.specs.Outcome.{put_string}
use Rattle.redis_model.specs.Strings.{deadline_of, moment_of}
use Rattle.redis_model.specs.Keys.{among}
use Rattle.redis_model.specs.About.{writes, keys_of}
use Rattle.redis_model.specs.Apply.{apply, carried_out}
use Rattle.redis_model.specs.Limits.{IsTime}
use Rattle.redis_model.specs.Touched.{touched, is_touched, written_again, differs}
use Rattle.redis_model.specs.TouchedLaws.{among_touched_done, touched_refused, reading_touches_nothing, same_entry_decides, apply-untouched}
use Rattle.lives_model.specs.Rows.{Rows}
use Rattle.lives_model.specs.Clean.{live_at, deadline_from}
use Rattle.lives_model.specs.Means.{Means}
use Rattle.lives_model.specs.Plans.{IsPlanOf, least_above}
use Rattle.lives_model.specs.StepLaws.{live_fits}
use Rattle.plan_base.specs.Seen.{deadline_in, IsFoundMeta}
use Rattle.plan_base.specs.SeenLaws.{seen_some}
use Rattle.plan_base.specs.Ahead.{seen_deadlines}
use Rattle.plan_base.specs.AheadLaws.{ahead_still, ahead_one}
use Rattle.plan_base.specs.MetaRows.{expire_number, live_row, string_row, meta_batch}
use Rattle.plan_base.specs.MetaRowLaws.{deadline_is_back}
use Rattle.plan_base.specs.KeySteps.{TellsKey, alive_entry}
use Rattle.plan_base.specs.KeyStepLaws.{apply_done, apply_refused, idle_step, meta_step, touched_differs}
use Rattle.plan_base.specs.Retimed.{KeepsLife}
use Rattle.plan_base.specs.RetimedLaws.{retimed_step}

-- ---- nothing is touched

-- a list that no key is among is empty
no_members : (ks : List Bytes) → ((k : Bytes) → among ks k ≡ false) → ks ≡ []
no_members [] none = refl
no_members (k ∷ ks) none =
    let no = none k in
    let yes : among (k ∷ ks) k ≡ true = ap (λ b. b || among ks k) (same_itself k) in
    absurd (cc)

-- a command that is carried out, leaves the map and writes nothing again touches nothing
pub still_touches_nothing : (m : RedisMap) (t : ℕ) (d : Command) (answer : Reply) → carried_out m t d ≡ Ok (answer, m) → written_again m m d ≡ [] → touched m t d ≡ []
still_touches_nothing m t d answer is none = no_members (touched m t d) (λ k.
    among_touched_done m t d (answer, m) k is
    ∙ ap (λ ks. (among ks k || differs m m k) && among (keys_of d) k) none
    ∙ ap (λ b. b && among (keys_of d) k) (ap not ((same_entry_decides (get m k) (get m k)).1 refl)))

-- A command that touches nothing writes nothing, and looks ahead to the deadlines of its keys.
pub idle_plan : {c : Rows} {t : ℕ} {m : RedisMap} (fresh : ℕ) (d : Command) (answer : Reply)
    → Means c t m → touched m t d ≡ [] → answer ≡ (apply m t d).0
    → IsPlanOf c t fresh m d empty answer (least_above t (seen_deadlines c t (keys_of d)))
idle_plan {c} {t} {m} fresh d answer means none reply = record {
  step = idle_step fresh d answer means none reply;
  ahead = ahead_still means d (apply-untouched m t d none);
}

-- so does one that only reads
pub reading_plan : {c : Rows} {t : ℕ} {m : RedisMap} (fresh : ℕ) (d : Command) (answer : Reply)
    → Means c t m → IsFalse (writes d) → answer ≡ (apply m t d).0
    → IsPlanOf c t fresh m d empty answer (least_above t (seen_deadlines c t (keys_of d)))
reading_plan {c} {t} {m} fresh d answer means reads reply = idle_plan fresh d answer means (reading_touches_nothing m t d reads) reply

-- one that answers an error
pub refused_plan : {c : Rows} {t : ℕ} {m : RedisMap} (fresh : ℕ) (d : Command) (e : ReplyError)
    → Means c t m → carried_out m t d ≡ Err e
    → IsPlanOf c t fresh m d empty (reply.Error e) (least_above t (seen_deadlines c t (keys_of d)))
refused_plan {c} {t} {m} fresh d e means is = idle_plan fresh d (reply.Error e) means (touched_refused m t d e is) (sym (ap (λ r. r.0) (apply_refused m t d e is)))

-- and one that leaves the map as it is
pub still_plan : {c : Rows} {t : ℕ} {m : RedisMap} (fresh : ℕ) (d : Command) (answer : Reply)
    → Means c t m → carried_out m t d ≡ Ok (answer, m) → written_again m m d ≡ []
    → IsPlanOf c t fresh m d empty answer (least_above t (seen_deadlines c t (keys_of d)))
still_plan {c} {t} {m} fresh d answer means is none =
    idle_plan fresh d answer means (still_touches_nothing m t d answer is none) (sym (ap (λ r. r.0) (apply_done m t d (answer, m) is)))

-- ---- one key

-- A command with one key that it touches writes one row at the key's metadata, and looks ahead to the deadline that it
-- finds and the one that it leaves.
pub meta_plan : {c : Rows} {t : ℕ} {m : RedisMap} (fresh : ℕ) (d : Command) (k : Bytes) (row : Option Bytes) (answer : Reply) (n : RedisMap) (dl : Option ℕ)
    → Means c t m → carried_out m t d ≡ Ok (answer, n) → keys_of d ≡ k ∷ [] → IsTrue (is_key k) → IsTrue (is_touched m n d k)
    → deadline_at n k ≡ dl → TellsKey c t fresh m d k (Some row) (alive_entry t (get n k))
    → IsPlanOf c t fresh m d (meta_batch k row) answer (least_above t (deadline_in (live_at c t k) ∷ dl ∷ []))
meta_plan {c} {t} {m} fresh d k row answer n dl means is one short touch new tells = record {
  step = meta_step fresh d k row answer n means is one short touch tells;
  ahead =
      ap (λ o. least_above t (deadline_in (live_at c t k) ∷ o ∷ [])) (sym (ap (λ r. deadline_at r.1 k) (apply_done m t d (answer, n) is) ∙ new))
      ∙ ahead_one means d k one;
}

-- what is put at a key stands there
put_there : (m : RedisMap) (k : Bytes) (e : Entry) → get (insert m k e) k ≡ Some e
put_there m k e = get-insert m k e k ∙ ap (λ b. cond b (Some e) (get m k)) (same_itself k)

-- the row of a string says what a command leaves that sets one
pub string_tells : (c : Rows) (t fresh : ℕ) (m : RedisMap) (d : Command) (k v : Bytes) (dl : Option ℕ) → IsTrue (is_deadline (expire_number dl)) → IsTrue (is_payload v)
    → TellsKey c t fresh m d k (Some (string_row t dl v)) (alive_entry t (Some (record { value = Str v; deadline = dl })))
unfolding is_meta_within
string_tells c t fresh m d k v dl fits short = by_test (lives t dl) refl
  where
    by_test : (b : Bool) → lives t dl ≡ b
        → TellsKey c t fresh m d k (Some (cond b (Some (meta_text (StringValue (expire_number dl) v))) None)) (cond b (Some (record { value = Str v; deadline = dl })) None)
    by_test false is = refl
    by_test true is = record {
      expire = expire_number dl;
      deadline = deadline_is_back t dl is;
      fits = and_from (is_deadline (expire_number dl)) (is_payload v) fits short;
      scores = tt;
      meta = refl;
      rows = λ has side subkey. absurd (cc);
    }

-- A command that sets a string over whatever its key held.
pub string_plan : {c : Rows} {t : ℕ} {m : RedisMap} (fresh : ℕ) (d : Command) (k v : Bytes) (dl : Option ℕ) (answer : Reply)
    → Means c t m → carried_out m t d ≡ Ok (answer, put_string m k v dl) → keys_of d ≡ k ∷ [] → IsTrue (is_key k)
    → IsTrue (is_touched m (put_string m k v dl) d k) → IsTrue (is_deadline (expire_number dl)) → IsTrue (is_payload v)
    → IsPlanOf c t fresh m d (meta_batch k (string_row t dl v)) answer (least_above t (deadline_in (live_at c t k) ∷ dl ∷ []))
string_plan {c} {t} {m} fresh d k v dl answer means is one short touch fits low =
    meta_plan fresh d k (string_row t dl v) answer (put_string m k v dl) dl means is one short touch
    (ap (option_and_then (λ e. e.deadline)) (put_there m k (record { value = Str v; deadline = dl })))
    (subst (λ (o : Option Entry). TellsKey c t fresh m d k (Some (string_row t dl v)) (alive_entry t o)) (sym (put_there m k (record { value = Str v; deadline = dl })))
    (string_tells c t fresh m d k v dl fits low))

-- what is taken away is not there
remove_there : (m : RedisMap) (k : Bytes) → get (remove m k) k ≡ None
remove_there m k = get-remove m k k ∙ ap (λ b. cond b None (get m k)) (same_itself k)

-- where there is no entry, taking it away changes nothing
pub remove_nothing : (m : RedisMap) (k : Bytes) → get m k ≡ None → remove m k ≡ m
remove_nothing m k none = same_map (remove m k) m (λ q. get-remove m k q ∙ by_test q (same q k) refl)
  where
    by_test : (q : Bytes) (s : Bool) → same q k ≡ s → cond s None (get m q) ≡ get m q
    by_test q true e = sym (ap (get m) (same_is q k e) ∙ none)
    by_test q false e = refl

-- A command that takes a key away that is there.
pub removed_plan : {c : Rows} {t : ℕ} {m : RedisMap} (fresh : ℕ) (d : Command) (k : Bytes) (meta : MetaValue) (answer : Reply)
    → Means c t m → live_at c t k ≡ Some meta → carried_out m t d ≡ Ok (answer, remove m k) → keys_of d ≡ k ∷ [] → IsTrue (is_key k)
    → IsPlanOf c t fresh m d (meta_batch k None) answer (least_above t (deadline_in (live_at c t k) ∷ None ∷ []))
removed_plan {c} {t} {m} fresh d k meta answer means found is one short =
    let there = seen_some means k meta found in
    meta_plan fresh d k None answer (remove m k) None means is one short
    (touched_differs m (remove m k) d k (λ e. let no : Some there.0 ≡ None = sym there.1 ∙ e ∙ remove_there m k in cc))
    (ap (option_and_then (λ e. e.deadline)) (remove_there m k))
    (subst (λ (o : Option Entry). TellsKey c t fresh m d k (Some None) (alive_entry t o)) (sym (remove_there m k)) refl)

-- A command that leaves the value of its key, of any type, and gives it another deadline.
pub retimed_plan : {c : Rows} {t : ℕ} {m : RedisMap} (fresh : ℕ) (d : Command) (k : Bytes) (e : Entry) (dl : Option ℕ) (meta : MetaValue) (answer : Reply)
    → Means c t m → get m k ≡ Some e → live_at c t k ≡ Some meta
    → carried_out m t d ≡ Ok (answer, insert m k (record { value = e.value; deadline = dl }))
    → keys_of d ≡ k ∷ [] → IsTrue (is_key k) → IsTrue (is_touched m (insert m k (record { value = e.value; deadline = dl })) d k)
    → KeepsLife m d k → IsTrue (is_deadline (expire_number dl))
    → IsPlanOf c t fresh m d (meta_batch k (live_row t dl (with_expire (expire_number dl) meta))) answer (least_above t (deadline_in (live_at c t k) ∷ dl ∷ []))
retimed_plan {c} {t} {m} fresh d k e dl meta answer means there found is one short touch keeps fits = record {
  step = retimed_step fresh d k e dl meta answer means there found is one short touch keeps fits;
  ahead =
      ap (λ o. least_above t (deadline_in (live_at c t k) ∷ o ∷ []))
      (sym (ap (λ r. deadline_at r.1 k) (apply_done m t d (answer, insert m k (record { value = e.value; deadline = dl })) is)
      ∙ ap (option_and_then (λ x. x.deadline)) (put_there m k (record { value = e.value; deadline = dl }))))
      ∙ ahead_one means d k one;
}

-- ---- deadlines within their limit

-- the deadline in metadata within its limits is within its own
deadline_fits_meta : (meta : MetaValue) → IsTrue (is_meta_within meta) → IsTrue (is_deadline (expire_of meta))
unfolding is_meta_within
deadline_fits_meta (StringValue x payload) h = both_first (is_deadline x) _ h
deadline_fits_meta (LifeValue kind x version size) h = both_first (is_deadline x) _ (both_first _ _ h)
deadline_fits_meta (ListValue x version head tail) h = both_first (is_deadline x) _ (both_first _ _ (both_first _ _ h))

-- read or not
deadline_from_fits : (x : ℕ) → IsTrue (is_deadline x) → IsTrue (is_deadline (expire_number (deadline_from x)))
deadline_from_fits x h = by_test (x == 0)
  where
    by_test : (b : Bool) → is_deadline (expire_number (cond b None (Some x))) ≡ true
    by_test true = refl
    by_test false = h

-- then its deadline is too
pub found_deadline_fits : (found : Option MetaValue) → IsFoundMeta found → IsTrue (is_deadline (expire_number (deadline_in found)))
found_deadline_fits None h = refl
found_deadline_fits (Some meta) h = deadline_from_fits (expire_of meta) (deadline_fits_meta meta h)

-- what is live is within its limits
pub live_is_found : (c : Rows) (t : ℕ) (k : Bytes) → IsFoundMeta (live_at c t k)
live_is_found c t k = by_found (live_at c t k) refl
  where
    by_found : (o : Option MetaValue) → live_at c t k ≡ o → IsFoundMeta o
    by_found None e = tt
    by_found (Some meta) e = live_fits c t k meta e

-- an absolute time within its limits means a deadline within its own
moment_fits : (z : ℤ) → IsTime (expiry.At z) → IsTrue (is_deadline (moment_of z))
moment_fits (pos n) h = let high = h.1 in le-leb n (2 ^ 62) (omega (arith, ints))
moment_fits (negsuc n) h = refl

-- and so is a deadline that a command within its limits sets
pub set_deadline_fits : (x : Expiry) (old : Option ℕ) → IsTime x → IsTrue (is_deadline (expire_number old)) → IsTrue (is_deadline (expire_number (deadline_of x old)))
set_deadline_fits expiry.None old time fits = refl
set_deadline_fits expiry.Keep old time fits = fits
set_deadline_fits (expiry.At z) old time fits = moment_fits z time
set_deadline_fits (expiry.After z) old time fits =
    let low = time.0 in
    let high = time.1 in
    moment_fits z (omega (arith, ints), omega (arith, ints))
