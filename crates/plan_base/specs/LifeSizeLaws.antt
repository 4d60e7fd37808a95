-- How many rows stand under a test after a batch of rows that pass it, and so how many elements a life has after its changes.
use Rattle.std.proofs.Common.{ℕ, ◌≡◌, ◌+◌, ◌-◌, ◌<◌, refl, sym, ap, subst, ◌∙◌, Bool, true, false, cond, List, [], ◌∷◌, length, arith}
use Rattle.std.proofs.lemmas.List.{length-map}
use Rattle.std.proofs.lemmas.List.Sums.{sum_by-cons}
use Rattle.std.specs.Prelude.{Option, Some, None, T, is_some, not, ◌&&◌, count_by, fold}
use Rattle.std.specs.FinMap.Entries.{find, below_all, is_sorted}
use Rattle.std.specs.Ordering.{is_eq}
use Rattle.std.specs.declared.cmp.Ordering.TheVariants.{Less}
use Rattle.std.specs.List.{list_all}
use Rattle.kv_base.specs.Map.{Bytes, Map, byte_cmp, same, same_is, same_itself, kept, get, has, insert, remove, keep, size, get-insert, get-remove, get-keep, size-insert, size-remove, same_map}
use Rattle.kv_base.specs.InversionLaws.{both_first, both_second}
use Rattle.kv_base.specs.TestLaws.{first, second, less}
use Rattle.batch_codec.specs.Batches.{Batch, after, written}
use Rattle.kv_base.specs.RawKeys.{life_prefix}
use Rattle.redis_model.specs.Value.{Value}
use Rattle.lives_model.specs.Rows.{Rows, Elements, space_of, row_key}
use Rattle.lives_model.specs.Means.{LifeAt}
use Rattle.lives_model.specs.Passing.{is_asked}
use Rattle.lives_model.specs.LifeRows.{HasRowsOf, value_rows}
use Rattle.lives_model.specs.LifePageLaws.{life_whole}
use Rattle.plan_base.specs.LifeChanges.{adds_row, removes_row, added_rows, removed_rows}

-- how many rows have raw keys that pass
unfoldable pub rows_passing : (Bytes → Bool) → Rows → ℕ
rows_passing p c = size (keep (λ raw _. p raw) c)

-- a map that has a key has an entry
some_entry : {X : Type 0} (k : Bytes) (es : List (Bytes × X)) → is_some (find byte_cmp k es) ≡ true → 0 < length es
some_entry k [] h = absurd (cc)
some_entry k (e ∷ es) h = omega arith

some_size : {X : Type 0} (m : Map X) (k : Bytes) → has m k ≡ true → 0 < size m
unfolding get size
some_size m k h = some_entry k m.entries h

module _ (p : Bytes → Bool) where
  kept_pass : {X : Type 0} (raw : Bytes) (o : Option X) → p raw ≡ true → kept (λ _. p raw) o ≡ o
  kept_pass raw None h = refl
  kept_pass raw (Some x) h = ap (λ b. cond b (Some x) None) h

  -- what passes is put among those that pass
  keep_put : (c : Rows) (raw v : Bytes) → p raw ≡ true → keep (λ q _. p q) (insert c raw v) ≡ insert (keep (λ q _. p q) c) raw v
  keep_put c raw v h = same_map _ _ (λ q.
      get-keep (λ q _. p q) (insert c raw v) q
      ∙ ap (kept (λ _. p q)) (get-insert c raw v q)
      ∙ by_test q (same q raw) refl
      ∙ ap (λ o. cond (same q raw) (Some v) o) (sym (get-keep (λ q _. p q) c q))
      ∙ sym (get-insert (keep (λ q _. p q) c) raw v q))
    where
      by_test : (q : Bytes) (s : Bool) → same q raw ≡ s → kept (λ _. p q) (cond s (Some v) (get c q)) ≡ cond s (Some v) (kept (λ _. p q) (get c q))
      by_test q true is = ap (λ b. cond b (Some v) None) (ap p (same_is q raw is) ∙ h)
      by_test q false is = refl

  keep_taken : (c : Rows) (raw : Bytes) → keep (λ q _. p q) (remove c raw) ≡ remove (keep (λ q _. p q) c) raw
  keep_taken c raw = same_map _ _ (λ q.
      get-keep (λ q _. p q) (remove c raw) q
      ∙ ap (kept (λ _. p q)) (get-remove c raw q)
      ∙ by_test q (same q raw)
      ∙ ap (λ o. cond (same q raw) None o) (sym (get-keep (λ q _. p q) c q))
      ∙ sym (get-remove (keep (λ q _. p q) c) raw q))
    where
      by_test : (q : Bytes) (s : Bool) → kept (λ _. p q) (cond s None (get c q)) ≡ cond s None (kept (λ _. p q) (get c q))
      by_test q true = refl
      by_test q false = refl

  has_kept : (c : Rows) (raw : Bytes) → p raw ≡ true → has (keep (λ q _. p q) c) raw ≡ has c raw
  has_kept c raw h = ap is_some (get-keep (λ q _. p q) c raw ∙ kept_pass raw (get c raw) h)

  -- one entry adds a row, takes one away, or does neither
  passing_one : (c : Rows) (e : Bytes × Option Bytes) → p e.0 ≡ true → rows_passing p (written c e.0 e.1) + cond (removes_row c e) 1 0 ≡ rows_passing p c + cond (adds_row c e) 1 0
  unfolding rows_passing
  passing_one c (raw, Some v) h =
      let put : size (keep (λ q _. p q) (insert c raw v)) ≡ cond (has c raw) (size (keep (λ q _. p q) c)) (size (keep (λ q _. p q) c) + 1) =
      ap size (keep_put c raw v h) ∙ size-insert (keep (λ q _. p q) c) raw v ∙ ap (λ b. cond b (size (keep (λ q _. p q) c)) (size (keep (λ q _. p q) c) + 1)) (has_kept c raw h) in
      by_test (has c raw) put
    where
      by_test : (b : Bool) → size (keep (λ q _. p q) (insert c raw v)) ≡ cond b (size (keep (λ q _. p q) c)) (size (keep (λ q _. p q) c) + 1)
          → size (keep (λ q _. p q) (insert c raw v)) + 0 ≡ size (keep (λ q _. p q) c) + cond (not b) 1 0
      by_test true is = omega (arith, is)
      by_test false is = omega (arith, is)
  passing_one c (raw, None) h =
      let taken : size (keep (λ q _. p q) (remove c raw)) ≡ cond (has c raw) (size (keep (λ q _. p q) c) - 1) (size (keep (λ q _. p q) c)) =
      ap size (keep_taken c raw) ∙ size-remove (keep (λ q _. p q) c) raw ∙ ap (λ b. cond b (size (keep (λ q _. p q) c) - 1) (size (keep (λ q _. p q) c))) (has_kept c raw h) in
      by_test (has c raw) refl taken
    where
      by_test : (b : Bool) → has c raw ≡ b → size (keep (λ q _. p q) (remove c raw)) ≡ cond b (size (keep (λ q _. p q) c) - 1) (size (keep (λ q _. p q) c))
          → size (keep (λ q _. p q) (remove c raw)) + cond b 1 0 ≡ size (keep (λ q _. p q) c) + 0
      by_test true there is =
          let some = some_size (keep (λ q _. p q) c) raw (has_kept c raw h ∙ there) in
          omega (arith, is, some)
      by_test false there is = omega (arith, is)

-- ---- all entries of a batch

-- a row at another raw key stays
get_other : (c : Rows) (k q : Bytes) (row : Option Bytes) → same q k ≡ false → get (written c k row) q ≡ get c q
get_other c k q None apart = get-remove c k q ∙ ap (λ s. cond s None (get c q)) apart
get_other c k q (Some v) apart = get-insert c k v q ∙ ap (λ s. cond s (Some v) (get c q)) apart

-- what stands above differs
apart_above : (k q : Bytes) → byte_cmp k q ≡ Less → same q k ≡ false
apart_above k q above = by_test (same q k) refl
  where
    by_test : (s : Bool) → same q k ≡ s → s ≡ false
    by_test true is =
        let here : byte_cmp k k ≡ Less = subst (λ (x : Bytes). byte_cmp k x ≡ Less) (same_is q k is) above in
        let no : same k k ≡ false = ap is_eq here in
        let yes : same k k ≡ true = same_itself k in
        absurd (cc)
    by_test false is = refl

count-cons : {X : Type 0} (p : X → Bool) (x : X) (xs : List X) → count_by p (x ∷ xs) ≡ cond (p x) 1 0 + count_by p xs
count-cons p x xs = sum_by-cons (λ y. cond (p y) 1 0) x xs

-- what the later entries add and take away is not changed by an earlier one
adds_still : (c : Rows) (k : Bytes) (row : Option Bytes) (es : List (Bytes × Option Bytes)) → T (below_all byte_cmp k es) → count_by (adds_row (written c k row)) es ≡ count_by (adds_row c) es
adds_still c k row [] h = refl
adds_still c k row (e ∷ es) h =
    let here = get_other c k e.0 row (apart_above k e.0 (less _ (first _ _ h))) in
    let rest = adds_still c k row es (second _ _ h) in
    count-cons (adds_row (written c k row)) e es ∙ (λ i. cond (is_some e.1 && not (is_some (here i))) 1 0 + rest i) ∙ sym (count-cons (adds_row c) e es)

removes_still : (c : Rows) (k : Bytes) (row : Option Bytes) (es : List (Bytes × Option Bytes)) → T (below_all byte_cmp k es) → count_by (removes_row (written c k row)) es ≡ count_by (removes_row c) es
removes_still c k row [] h = refl
removes_still c k row (e ∷ es) h =
    let here = get_other c k e.0 row (apart_above k e.0 (less _ (first _ _ h))) in
    let rest = removes_still c k row es (second _ _ h) in
    count-cons (removes_row (written c k row)) e es ∙ (λ i. cond (not (is_some e.1) && is_some (here i)) 1 0 + rest i) ∙ sym (count-cons (removes_row c) e es)

-- The rows that pass after entries in order that all pass: those before, with those that are added, without those that go.
pub passing_after : (p : Bytes → Bool) (c : Rows) (es : List (Bytes × Option Bytes)) → T (is_sorted byte_cmp es) → list_all (λ e. p e.0) es ≡ true
    → rows_passing p (fold (λ now e. written now e.0 e.1) c es) + count_by (removes_row c) es ≡ rows_passing p c + count_by (adds_row c) es
passing_after p c [] h all = refl
passing_after p c (e ∷ es) h all =
    let rest = passing_after p (written c e.0 e.1) es (second _ _ h) (both_second (p e.0) _ all) in
    let here = passing_one p c e (both_first (p e.0) _ all) in
    let adds = adds_still c e.0 e.1 es (first _ _ h) in
    let removes = removes_still c e.0 e.1 es (first _ _ h) in
    let added = count-cons (adds_row c) e es in
    let removed = count-cons (removes_row c) e es in
    omega (arith, rest, here, adds, removes, added, removed)

-- so after a batch
pub passing_after_batch : (p : Bytes → Bool) (c : Rows) (b : Batch) → list_all (λ e. p e.0) b.entries ≡ true → rows_passing p (after c b) + removed_rows c b ≡ rows_passing p c + added_rows c b
unfolding after removed_rows added_rows
passing_after_batch p c b all = passing_after p c b.entries b.sorted all

-- ---- the rows of a life

-- those that begin with the prefix of a life are as many as its value has elements
pub rows_of_life : (c : Rows) (k : Bytes) (life : LifeAt) (v : Value) → HasRowsOf c k life v
    → rows_passing (is_asked (life_prefix (space_of Elements) k life.version) (life_prefix (space_of Elements) k life.version)) c ≡ length (value_rows v life.head Elements)
unfolding rows_passing size keep
rows_of_life c k life v has = ap length (life_whole c k life v has Elements) ∙ length-map (value_rows v life.head Elements) (λ row. (row_key Elements k life.version row.0, row.1))
