-- What batches that have rows of metadata alone have where.
use Rattle.std.proofs.Common.{ℕ, ◌≡◌, refl, sym, ap, subst, ◌∙◌, Bool, true, false, cond, arith}
use Rattle.std.proofs.lemmas.Bool.Decides.{nat_tests}
use Rattle.std.specs.Prelude.{Option, Some, None, IsTrue, IsSome, is_some, nat_lt, ◌==◌}
use Rattle.kv_base.specs.Map.{Bytes, same, same_is, same_itself, get, empty, insert, get-empty, get-insert}
use Rattle.kv_base.specs.RawKeys.{is_key, is_raw_text}
use Rattle.batch_codec.specs.Batches.{Batch}
use Rattle.redis_model.specs.Value.{lives}
use Rattle.lives_model.specs.Rows.{Side, meta_key, row_key}
use Rattle.lives_model.specs.Clean.{deadline_from}
use Rattle.lives_model.specs.RowKeyLaws.{meta_key_is, same_meta_key, meta_key_is_read, same_row_meta}
use Rattle.plan_base.specs.MetaRows.{expire_number, meta_batch, IsMetaKey, HasOnlyMeta}

-- ---- one row

-- a deadline above a moment is not 0
not_zero : (t d : ℕ) → nat_lt t d ≡ true → (d == 0) ≡ false
not_zero t d e = grind (arith, nat_tests)

-- a deadline above a moment is read back from its number
pub deadline_is_back : (t : ℕ) (d : Option ℕ) → lives t d ≡ true → d ≡ deadline_from (expire_number d)
deadline_is_back t None e = refl
deadline_is_back t (Some d) e = ap (λ b. cond b None (Some d)) (sym (not_zero t d e))

-- ---- a batch

-- nothing has no other rows
pub only_meta_empty : HasOnlyMeta empty
only_meta_empty = record { at = λ raw there. let no : is_some (get (empty {X = Option Bytes}) raw) ≡ false = ap is_some (get-empty raw) in absurd (cc) }

-- and what is put at metadata is no other row
pub only_meta_insert : (b : Batch) (k : Bytes) (row : Option Bytes) → HasOnlyMeta b → IsTrue (is_key k) → HasOnlyMeta (insert b (meta_key k) row)
only_meta_insert b k row only short = record { at = λ raw there. by_test raw (same raw (meta_key k)) refl there }
  where
    by_test : (raw : Bytes) (s : Bool) → same raw (meta_key k) ≡ s → IsSome (get (insert b (meta_key k) row) raw) → IsMetaKey raw
    by_test raw true e there = record { key = k; short = short; is = same_is raw (meta_key k) e }
    by_test raw false e there = only.at raw (sym (ap is_some (get-insert b (meta_key k) row raw ∙ ap (λ s. cond s (Some row) (get b raw)) e)) ∙ there)

-- so a batch of one row of metadata has no other rows
pub only_meta_one : (k : Bytes) (row : Option Bytes) → IsTrue (is_key k) → HasOnlyMeta (meta_batch k row)
only_meta_one k row short = only_meta_insert empty k row only_meta_empty short

-- what stands at the metadata of each key after a put at one
pub meta_insert : (b : Batch) (k : Bytes) (row : Option Bytes) (q : Bytes) → get (insert b (meta_key k) row) (meta_key q) ≡ cond (same q k) (Some row) (get b (meta_key q))
meta_insert b k row q = get-insert b (meta_key k) row (meta_key q) ∙ ap (λ s. cond s (Some row) (get b (meta_key q))) (same_meta_key q k)

-- in a batch of one row this stands at its key, and nothing at another one
pub meta_here : (k : Bytes) (row : Option Bytes) → get (meta_batch k row) (meta_key k) ≡ Some row
meta_here k row = meta_insert empty k row k ∙ ap (λ s. cond s (Some row) (get empty (meta_key k))) (same_itself k)

-- nothing stands at another key
pub meta_elsewhere : (k : Bytes) (row : Option Bytes) (q : Bytes) → same q k ≡ false → get (meta_batch k row) (meta_key q) ≡ None
meta_elsewhere k row q apart = meta_insert empty k row q ∙ ap (λ s. cond s (Some row) (get empty (meta_key q))) apart ∙ get-empty (meta_key q)

-- ---- what follows of rows of metadata alone

-- raw keys are on their grammar
pub only_meta_raw : (b : Batch) → HasOnlyMeta b → (raw : Bytes) → IsSome (get b raw) → IsTrue (is_raw_text raw)
only_meta_raw b only raw there =
    let row = only.at raw there in
    ap is_raw_text row.is ∙ ap is_some (meta_key_is_read row.key row.short)

-- there are no rows of lives
pub only_meta_no_rows : (b : Batch) → HasOnlyMeta b → (side : Side) (k : Bytes) (version : ℕ) (subkey : Bytes) → get b (row_key side k version subkey) ≡ None
only_meta_no_rows b only side k version subkey = by_row (get b (row_key side k version subkey)) refl
  where
    by_row : (o : Option (Option Bytes)) → get b (row_key side k version subkey) ≡ o → o ≡ None
    by_row None e = refl
    by_row (Some x) e =
        let row = only.at (row_key side k version subkey) (ap is_some e) in
        let yes : same (row_key side k version subkey) (meta_key row.key) ≡ true = ap (λ raw. same raw (meta_key row.key)) row.is ∙ same_itself (meta_key row.key) in
        let no = same_row_meta side k version subkey row.key in
        absurd (cc)

-- a key whose metadata is written is no longer than a key may be
pub only_meta_key : (b : Batch) → HasOnlyMeta b → (k : Bytes) (x : Option Bytes) → get b (meta_key k) ≡ Some x → IsTrue (is_key k)
only_meta_key b only k x e =
    let row = only.at (meta_key k) (ap is_some e) in
    subst (λ (q : Bytes). is_key q ≡ true) (sym (meta_key_is k row.key row.is)) row.short
