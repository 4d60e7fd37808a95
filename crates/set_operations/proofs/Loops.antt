-- One set, one row or one member more, as loops over them meet it.
use Rattle.std.proofs.Common.{◌≡◌, ℕ, ◌+◌, ◌<◌, ◌≤◌, refl, sym, ap, subst, ◌∙◌, Bool, true, false, cond, List, [], ◌∷◌, ◌++◌, length, take, drop, get_or, reverse, append_assoc, add-one, arith, inl, inr}
use Rattle.std.proofs.Math.Seq.{drop-cons, take-length}
use Rattle.std.proofs.lemmas.List.{map-append, reverse-append}
use Rattle.std.proofs.lemmas.List.Elements.{filter-append}
use Rattle.std.proofs.lemmas.List.Folds.{list_all_more, list_all_at}
use Rattle.std.proofs.lemmas.List.Sums.{fold_more}
use Rattle.std.proofs.lemmas.Slice.Zip.{get_or-zip, length-zip}
use Rattle.std.specs.Prelude.{◌⊎◌, Option, Some, None, IfSome, map, filter, fold, zip, ◌&&◌}
use Rattle.std.specs.BTreeSet.{insert_key}
use Rattle.std.specs.declared.cmp.Ordering.{Ordering}
use Rattle.std.specs.declared.cmp.Ordering.TheVariants.{Less, Equal, Greater}
use Rattle.std.specs.Ordering.{match_ordering}
use Rattle.std.specs.FinMap.Entries.{by_order, put}
use Rattle.kv_base.specs.Map.{Bytes, Set, byte_cmp, empty, insert, keys}
use Rattle.redis_model.specs.declared.reply.Reply.{Reply}
use Rattle.redis_model.specs.declared.reply.Reply.TheVariants as reply
use Rattle.redis_model.specs.Sets.{with_members}
use Rattle.lives_model.specs.declared.view.LiveRow.{LiveRow}
use Rattle.lives_model.specs.Rows.{Rows}
use Rattle.lives_model.specs.LiveRowLists.{pairs}
use Rattle.lives_model.specs.Plans.{least_above, sooner}
use Rattle.plan_base.specs.declared.key_life.KeyLife.{KeyLife}
use Rattle.plan_base.specs.declared.life.LifeSight.{LifeSight}
use Rattle.plan_base.specs.AheadLaws.{least_above-snoc}
use Rattle.plan_base.specs.LoopLaws.{map_next}
use Rattle.life_pages.specs.LifeElements.{element_in, life_rows, subkey_in}
use Rattle.life_plans.specs.SetLives.{has_member}
use Rattle.set_operations.specs.Combined.{all_answer, agrees, error_or, first_error, gathered, kept_members, life_or_none, members_at, members_in, members_of, set_has, soonest}

-- ---- what is found of several sets

-- the soonest of one deadline more
pub soonest_more : (t : ℕ) (lives : List KeyLife) (i : ℕ) (d : KeyLife) → i < length lives → soonest t (take (i + 1) lives) ≡ sooner t (get_or lives i d).deadline (soonest t (take i lives))
soonest_more t lives i d low = ap (least_above t) (map_next (λ (found : KeyLife). found.deadline) lives i d low) ∙ least_above-snoc t (map (λ found. found.deadline) (take i lives)) (get_or lives i d).deadline

-- the first error from a place on
pub error_from : (lives : List KeyLife) (i : ℕ) (d : KeyLife) → i < length lives → first_error (drop i lives) ≡ error_or (get_or lives i d).life (first_error (drop (i + 1) lives))
error_from lives i d low = ap first_error (drop-cons lives i d low) ∙ ap (λ n. error_or (get_or lives i d).life (first_error (drop n lives))) (sym (add-one i))

-- ---- the rows of members

-- the members whose rows are those of a life are its members
members_found : (c : Rows) (k : Bytes) (version : ℕ) (rows : List LiveRow) → pairs rows ≡ life_rows c k version → members_of k rows ≡ map (λ e. e.0) (map (element_in k) (life_rows c k version))
members_found c k version rows is = each rows ∙ ap (λ es. map (λ e. e.0) (map (element_in k) es)) is
  where
    each : (rows : List LiveRow) → members_of k rows ≡ map (λ e. e.0) (map (element_in k) (pairs rows))
    each [] = refl
    each (row ∷ rows) = ap (λ xs. subkey_in k row.raw ∷ xs) (each rows)

-- what is read of the life of a set is its members
pub rows_found : (rows : Option Rows) (k : Bytes) (life : Option LifeSight) (there : LifeSight) (found : List LiveRow) → life ≡ Some there → IfSome rows (λ c. pairs found ≡ life_rows c k there.version) → IfSome rows (λ c. members_of k found ≡ members_in c k life)
rows_found None k life there found is read = tt
rows_found (Some c) k life there found is read = members_found c k there.version found read ∙ ap (members_in c k) (sym is)

-- one member more, where it counts
pub kept_next : (rows now : Option Rows) (p : Rows → Bytes → Bool) (k : Bytes) (all : List LiveRow) (i : ℕ) (d : LiveRow) (x : Bytes) (counts : Bool) (kept next : List Bytes) → i < length all → x ≡ subkey_in k (get_or all i d).raw → now ≡ rows
    → IfSome rows (λ c. kept ≡ filter (p c) (members_of k (take i all))) → IfSome now (λ c. counts ≡ p c x) → next ≡ kept ++ cond counts (x ∷ []) []
    → IfSome rows (λ c. next ≡ filter (p c) (members_of k (take (i + 1) all)))
kept_next None now p k all i d x counts kept next low at same so_far test more = tt
kept_next (Some c) now p k all i d x counts kept next low at same so_far test more =
    let passes : counts ≡ p c x = subst (λ (o : Option Rows). IfSome o (λ c. counts ≡ p c x)) same test in
    more
    ∙ (λ j. so_far j ++ cond (passes j) (x ∷ []) [])
    ∙ ap (λ q. filter (p c) (members_of k (take i all)) ++ filter (p c) (q ∷ [])) at
    ∙ sym (ap (filter (p c)) (map_next (λ row. subkey_in k row.raw) all i d low) ∙ filter-append (p c) (members_of k (take i all)) (subkey_in k (get_or all i d).raw ∷ []))

-- ---- the sets of a combination

-- a key with what is found there, in its place among them
set_here : (ks : List Bytes) (lives : List KeyLife) (i : ℕ) (k : Bytes) (d found : KeyLife) → i < length ks → length lives ≡ length ks → k ≡ get_or ks i k → found ≡ get_or lives i d → get_or (zip ks lives) i (k, d) ≡ (k, found)
set_here ks lives i k d found low count first second =
    let within : i < length lives = omega arith in
    get_or-zip ks lives i (k, d) low within ∙ (λ j. (sym first j, sym second j))

zip_low : (ks : List Bytes) (lives : List KeyLife) (i : ℕ) → i < length ks → length lives ≡ length ks → i < length (zip ks lives)
zip_low ks lives i low count = omega (arith, length-zip ks lives)

zip_all : (ks : List Bytes) (lives : List KeyLife) (i : ℕ) → i ≤ length ks → length ks ≤ i → length lives ≡ length ks → take i (zip ks lives) ≡ zip ks lives
zip_all ks lives i low high count =
    let all : i ≡ length (zip ks lives) = omega (arith, length-zip ks lives) in
    ap (λ n. take n (zip ks lives)) all ∙ take-length (zip ks lives)

-- the sets before the first one are none
pub all_none : (rows : Option Rows) (shared : Bool) (x : Bytes) → IfSome rows (λ c. all_answer c [] shared x ≡ true)
all_none None shared x = tt
all_none (Some c) shared x = refl

-- what is found of one of them
found_here : {A : Type 0} (rows : Option Rows) (c : Rows) (f : Rows → Option LifeSight → A) (x : A) (found : KeyLife) (life : Option LifeSight) → rows ≡ Some c → life ≡ life_or_none found.life → IfSome rows (λ c. x ≡ f c life) → x ≡ f c (life_or_none found.life)
found_here rows c f x found life same of read = subst (λ (o : Option Rows). IfSome o (λ c. x ≡ f c life)) same read ∙ ap (f c) of

-- one set more answers so
pub all_next : (rows now : Option Rows) (ks : List Bytes) (lives : List KeyLife) (i : ℕ) (k x : Bytes) (d found : KeyLife) (life : Option LifeSight) (shared there : Bool) → i < length ks → length lives ≡ length ks → k ≡ get_or ks i k → found ≡ get_or lives i d → life ≡ life_or_none found.life → now ≡ rows
    → IfSome rows (λ c. all_answer c (take i (zip ks lives)) shared x ≡ true) → IfSome now (λ c. there ≡ has_member c k life x) → agrees shared there ≡ true → IfSome rows (λ c. all_answer c (take (i + 1) (zip ks lives)) shared x ≡ true)
all_next None now ks lives i k x d found life shared there low count first second of same so_far test so = tt
all_next (Some c) now ks lives i k x d found life shared there low count first second of same so_far test so =
    let here : there ≡ set_has c x (k, found) = found_here now c (λ c l. has_member c k l x) there found life same of test in
    list_all_more (λ s. agrees shared (set_has c x s)) (zip ks lives) i (k, d) (zip_low ks lives i low count)
    ∙ (λ j. so_far j && agrees shared (set_has c x (set_here ks lives i k d found low count first second j)))
    ∙ ap (agrees shared) (sym here)
    ∙ so

-- one that does not decides it
pub all_fails : (rows now : Option Rows) (ks : List Bytes) (lives : List KeyLife) (i : ℕ) (k x : Bytes) (d found : KeyLife) (life : Option LifeSight) (shared there : Bool) → i < length ks → length lives ≡ length ks → k ≡ get_or ks i k → found ≡ get_or lives i d → life ≡ life_or_none found.life → now ≡ rows
    → IfSome now (λ c. there ≡ has_member c k life x) → agrees shared there ≡ false → IfSome rows (λ c. false ≡ all_answer c (zip ks lives) shared x)
all_fails None now ks lives i k x d found life shared there low count first second of same test not_so = tt
all_fails (Some c) now ks lives i k x d found life shared there low count first second of same test not_so =
    let here : there ≡ set_has c x (k, found) = found_here now c (λ c l. has_member c k l x) there found life same of test in
    sym (list_all_at (λ s. agrees shared (set_has c x s)) (zip ks lives) i (k, d) (zip_low ks lives i low count)
    (ap (λ s. agrees shared (set_has c x s)) (set_here ks lives i k d found low count first second) ∙ ap (agrees shared) (sym here) ∙ not_so))

-- all of them answer so
pub all_done : (rows : Option Rows) (ks : List Bytes) (lives : List KeyLife) (i : ℕ) (x : Bytes) (shared : Bool) → i ≤ length ks → length ks ≤ i → length lives ≡ length ks
    → IfSome rows (λ c. all_answer c (take i (zip ks lives)) shared x ≡ true) → IfSome rows (λ c. true ≡ all_answer c (zip ks lives) shared x)
all_done None ks lives i x shared low high count so_far = tt
all_done (Some c) ks lives i x shared low high count so_far = sym so_far ∙ ap (λ ss. all_answer c ss shared x) (zip_all ks lives i low high count)

-- the first set and the others
pub kept_first : (rows now : Option Rows) (shared : Bool) (ks others : List Bytes) (lives rest : List KeyLife) (k : Bytes) (found : KeyLife) (life : Option LifeSight) (row_list : List LiveRow) (members : List Bytes) → ks ≡ k ∷ others → lives ≡ found ∷ rest → now ≡ rows
    → life ≡ life_or_none found.life → IfSome rows (λ c. members_of k row_list ≡ members_in c k life) → IfSome now (λ c. members ≡ filter (all_answer c (zip others rest) shared) (members_of k row_list))
    → IfSome rows (λ c. members ≡ kept_members c shared (zip ks lives))
kept_first None now shared ks others lives rest k found life row_list members first second same of read kept = tt
kept_first (Some c) now shared ks others lives rest k found life row_list members first second same of read kept =
    let here : members ≡ filter (all_answer c (zip others rest) shared) (members_of k row_list) = subst (λ (o : Option Rows). IfSome o (λ c. members ≡ filter (all_answer c (zip others rest) shared) (members_of k row_list))) same kept in
    here ∙ ap (filter (all_answer c (zip others rest) shared)) (read ∙ ap (members_in c k) of) ∙ (λ j. kept_members c shared (zip (sym first j) (sym second j)))

-- no sets have no members
pub kept_none : (rows : Option Rows) (shared : Bool) (ks : List Bytes) (lives : List KeyLife) (members : List Bytes) → (length ks ≡ 0) ⊎ (length lives ≡ 0) → members ≡ [] → IfSome rows (λ c. members ≡ kept_members c shared (zip ks lives))
kept_none None shared ks lives members empty none = tt
kept_none (Some c) shared [] lives members empty none = none
kept_none (Some c) shared (k ∷ ks) [] members empty none = none
kept_none (Some c) shared (k ∷ ks) (found ∷ lives) members (inl is) none = absurd (omega arith)
kept_none (Some c) shared (k ∷ ks) (found ∷ lives) members (inr is) none = absurd (omega arith)

-- ---- members in a tree

-- a member in its place among those of a set
keys_put : (x : Bytes) (es : List (Bytes × Unit {0})) → map (λ e. e.0) (put byte_cmp x tt es) ≡ insert_key byte_cmp (map (λ e. e.0) es) x
keys_put x [] = refl
keys_put x (e ∷ es) = by_place (byte_cmp x e.0) (keys_put x es)
  where
    by_place : (o : Ordering) → map (λ a. a.0) (put byte_cmp x tt es) ≡ insert_key byte_cmp (map (λ a. a.0) es) x
        → map (λ a. a.0) (by_order o ((x, tt) ∷ e ∷ es) ((e.0, tt) ∷ es) (e ∷ put byte_cmp x tt es)) ≡ match_ordering o (x ∷ e.0 ∷ map (λ a. a.0) es) (e.0 ∷ map (λ a. a.0) es) (e.0 ∷ insert_key byte_cmp (map (λ a. a.0) es) x)
    by_place Less rest = refl
    by_place Equal rest = refl
    by_place Greater rest = ap (λ xs. e.0 ∷ xs) rest

keys_insert : (s : Set) (x : Bytes) → keys (insert s x tt) ≡ insert_key byte_cmp (keys s) x
unfolding insert
keys_insert s x = keys_put x s.entries

-- several members
keys_with_members : (s : Set) (xs : List Bytes) → fold (insert_key byte_cmp) (keys s) xs ≡ keys (with_members s xs)
keys_with_members s [] = refl
keys_with_members s (x ∷ xs) = ap (λ ks. fold (insert_key byte_cmp) ks xs) (sym (keys_insert s x)) ∙ keys_with_members (insert s x tt) xs

-- nothing is gathered at the start
pub gathered_none : (rows : Option Rows) (all : List Bytes) → all ≡ [] → IfSome rows (λ c. all ≡ keys (gathered c []))
unfolding empty
gathered_none None all none = tt
gathered_none (Some c) all none = none

-- and then the members of one set more
pub gathered_next : (rows now : Option Rows) (ks : List Bytes) (lives : List KeyLife) (i : ℕ) (k : Bytes) (d found : KeyLife) (life : Option LifeSight) (found_rows : List LiveRow) (all next : List Bytes) → i < length ks → length lives ≡ length ks → k ≡ get_or ks i k → found ≡ get_or lives i d → life ≡ life_or_none found.life → now ≡ rows
    → IfSome rows (λ c. all ≡ keys (gathered c (take i (zip ks lives)))) → IfSome now (λ c. members_of k found_rows ≡ members_in c k life) → next ≡ fold (insert_key byte_cmp) all (members_of k found_rows)
    → IfSome rows (λ c. next ≡ keys (gathered c (take (i + 1) (zip ks lives))))
gathered_next None now ks lives i k d found life found_rows all next low count first second of same so_far read more = tt
gathered_next (Some c) now ks lives i k d found life found_rows all next low count first second of same so_far read more =
    let here : members_of k found_rows ≡ members_at c (k, found) = found_here now c (λ c l. members_in c k l) (members_of k found_rows) found life same of read in
    more
    ∙ (λ j. fold (insert_key byte_cmp) (so_far j) (here j))
    ∙ keys_with_members (gathered c (take i (zip ks lives))) (members_at c (k, found))
    ∙ ap (λ s. keys (with_members (gathered c (take i (zip ks lives))) (members_at c s))) (sym (set_here ks lives i k d found low count first second))
    ∙ sym (ap keys (fold_more (λ a s. with_members a (members_at c s)) empty (zip ks lives) i (k, d) (zip_low ks lives i low count)))

-- all are gathered
pub gathered_done : (rows : Option Rows) (ks : List Bytes) (lives : List KeyLife) (i : ℕ) (all : List Bytes) → i ≤ length ks → length ks ≤ i → length lives ≡ length ks
    → IfSome rows (λ c. all ≡ keys (gathered c (take i (zip ks lives)))) → IfSome rows (λ c. all ≡ keys (gathered c (zip ks lives)))
gathered_done None ks lives i all low high count so_far = tt
gathered_done (Some c) ks lives i all low high count so_far = so_far ∙ ap (λ ss. keys (gathered c ss)) (zip_all ks lives i low high count)

-- ---- members as answers, from the last one on

pub bulks_next : (all old new : List Bytes) (x : Bytes) (answers more : List Reply) → old ≡ new ++ x ∷ [] → map reply.Bulk old ++ reverse answers ≡ map reply.Bulk all → more ≡ answers ++ reply.Bulk x ∷ []
    → map reply.Bulk new ++ reverse more ≡ map reply.Bulk all
bulks_next all old new x answers more is so_far pushed =
    ap (λ rs. map reply.Bulk new ++ reverse rs) pushed
    ∙ ap (λ rs. map reply.Bulk new ++ rs) (reverse-append answers (reply.Bulk x ∷ []))
    ∙ sym (append_assoc (map reply.Bulk new) (reply.Bulk x ∷ []) (reverse answers))
    ∙ sym (ap (λ rs. rs ++ reverse answers) (ap (map reply.Bulk) is ∙ map-append reply.Bulk new (x ∷ [])))
    ∙ so_far
