-- How raw keys are noted, and rows are taken for those of a block.
use Rattle.std.proofs.Common.{◌≡◌, ℕ, zero, suc, ◌-◌, ◌<◌, ◌≤◌, List, [], ◌∷◌, ◌++◌, refl, sym, ap, ◌∙◌, Bool, true, false, cond, length, map, drop, get_or, Option, Some, None, append_assoc, arith}
use Rattle.std.specs.Prelude.{◌&&◌, ◌||◌, not}
use Rattle.std.specs.List.{slice_get}
use Rattle.kv_base.specs.Map.{Bytes, same}
use Rattle.kv_base.specs.declared.row.Row.{Row}
use Rattle.kv_base.specs.declared.row.RowRef.{RowRef}
use Rattle.kv_base.specs.RowRefs.{row_seen}
use Rattle.sst_parts.specs.declared.key_hash.KeyHash.{KeyHash}
use Rattle.sst_parts.specs.declared.index.Spot.{Spot}
use Rattle.sst_parts.specs.Blocks.{is_full}
use Rattle.sst_parts.specs.Filter.{hash_of}
use Rattle.sst_parts.specs.Index.{last_raw}
use Rattle.sst_parts.specs.Tables.{raw_keys_of, keys_behind}
use Rattle.sst_grammar.specs.Judging.{has_none, are_of_spot}
use Rattle.sst_sums.specs.Summing.{is_new, new_keys}

-- ---- raw keys

not_true : (b : Bool) → not b ≡ true → b ≡ false
not_true true h = absurd (cc)
not_true false h = refl

not_false : (b : Bool) → not b ≡ false → b ≡ true
not_false true h = refl
not_false false h = absurd (cc)

key_is_new : (last : Option Bytes) (row : Row) (rest : List Row) → is_new last row.raw ≡ true → new_keys last (row ∷ rest) ≡ row.raw ∷ new_keys (Some row.raw) rest
unfolding raw_keys_of
key_is_new None row rest h = refl
key_is_new (Some last) row rest h = ap (λ b. cond b (keys_behind last rest) (row.raw ∷ keys_behind row.raw rest)) (not_true (same last row.raw) h)

key_is_old : (last : Option Bytes) (row : Row) (rest : List Row) → is_new last row.raw ≡ false → new_keys last (row ∷ rest) ≡ new_keys last rest
key_is_old None row rest h = absurd (cc)
key_is_old (Some last) row rest h = ap (λ b. cond b (keys_behind last rest) (row.raw ∷ keys_behind row.raw rest)) (not_false (same last row.raw) h)

-- the rows that are left, behind a place
abbrev pub still_new : Option Bytes → ℕ → List RowRef → List KeyHash
still_new last at rows = map hash_of (new_keys last (map row_seen (drop at rows)))

next_row : (rows : List RowRef) (i : ℕ) (d x : RowRef) → x ≡ get_or rows i d → i < length rows → drop i rows ≡ x ∷ drop (suc i) rows
next_row [] i d x is low = let never : ⊥ = omega arith in absurd never
next_row (y ∷ rows) zero d x is low = ap (λ (z : RowRef). z ∷ rows) (sym is)
next_row (y ∷ rows) (suc i) d x is low = next_row rows i d x is (omega arith)

pub noted_new : (keys now : List KeyHash) (hash : KeyHash) (last : Option Bytes) (rows : List RowRef) (i next : ℕ) (d x : RowRef) → x ≡ get_or rows i d → i < length rows → next ≡ suc i → is_new last x.raw.now ≡ true → hash ≡ hash_of x.raw.now → now ≡ keys ++ hash ∷ []
    → now ++ still_new (Some x.raw.now) next rows ≡ keys ++ still_new last i rows
noted_new keys now hash last rows i next d x is low moved new hashed pushed =
    ap (λ (k : List KeyHash). k ++ still_new (Some x.raw.now) next rows) pushed ∙ append_assoc keys (hash ∷ []) (still_new (Some x.raw.now) next rows)
    ∙ (λ j. keys ++ hashed j ∷ still_new (Some x.raw.now) (moved j) rows)
    ∙ ap (λ (ks : List Bytes). keys ++ map hash_of ks) (sym (key_is_new last (row_seen x) (map row_seen (drop (suc i) rows)) new))
    ∙ ap (λ (l : List RowRef). keys ++ map hash_of (new_keys last (map row_seen l))) (sym (next_row rows i d x is low))

pub noted_old : (keys : List KeyHash) (last : Option Bytes) (rows : List RowRef) (i next : ℕ) (d x : RowRef) → x ≡ get_or rows i d → i < length rows → next ≡ suc i → is_new last x.raw.now ≡ false
    → keys ++ still_new last next rows ≡ keys ++ still_new last i rows
noted_old keys last rows i next d x is low moved old =
    (λ j. keys ++ still_new last (moved j) rows)
    ∙ ap (λ (ks : List Bytes). keys ++ map hash_of ks) (sym (key_is_old last (row_seen x) (map row_seen (drop (suc i) rows)) old))
    ∙ ap (λ (l : List RowRef). keys ++ map hash_of (new_keys last (map row_seen l))) (sym (next_row rows i d x is low))

none_new : (last : Option Bytes) → new_keys last [] ≡ []
unfolding raw_keys_of
none_new None = refl
none_new (Some last) = refl

no_more : (rows : List RowRef) (i : ℕ) → length rows ≤ i → drop i rows ≡ []
no_more [] zero high = refl
no_more [] (suc i) high = refl
no_more (y ∷ rows) zero high = let never : ⊥ = omega arith in absurd never
no_more (y ∷ rows) (suc i) high = no_more rows i (omega arith)

as_they_are : (keys : List KeyHash) → keys ++ [] ≡ keys
as_they_are [] = refl
as_they_are (k ∷ keys) = ap (λ (l : List KeyHash). k ∷ l) (as_they_are keys)

pub all_noted : (keys whole : List KeyHash) (last : Option Bytes) (rows : List RowRef) (i : ℕ) → length rows ≤ i → keys ++ still_new last i rows ≡ whole → keys ≡ whole
all_noted keys whole last rows i high is =
    sym (as_they_are keys) ∙ ap (λ (ks : List Bytes). keys ++ map hash_of ks) (sym (none_new last)) ∙ ap (λ (l : List RowRef). keys ++ map hash_of (new_keys last (map row_seen l))) (sym (no_more rows i high)) ∙ is

-- ---- the last row

last_at : (raw : Bytes) (rows : List RowRef) (k : ℕ) (x : RowRef) → length rows ≡ suc k → slice_get rows k ≡ Some x → last_raw raw (map row_seen rows) ≡ x.raw.now
last_at raw [] k x long h = absurd (omega arith)
last_at raw (r ∷ []) zero x long h = let e : r ≡ x = cc in ap (λ (y : RowRef). y.raw.now) e
last_at raw (r ∷ q ∷ rows) zero x long h = absurd (omega arith)
last_at raw (r ∷ rows) (suc k) x long h = last_at r.raw.now rows k x (omega arith) h

pub last_raw_seen : (raw : Bytes) (rows : List RowRef) (x : RowRef) → slice_get rows (length rows - 1) ≡ Some x → last_raw raw (map row_seen rows) ≡ x.raw.now
last_raw_seen raw [] x h = absurd (cc)
last_raw_seen raw (r ∷ rows) x h =
    let k : length (r ∷ rows) - 1 ≡ length rows = omega arith in
    last_at raw (r ∷ rows) (length rows) x refl (ap (slice_get (r ∷ rows)) (sym k) ∙ h)

pub has_some : (rows : List RowRef) (x : RowRef) → slice_get rows (length rows - 1) ≡ Some x → not (has_none (map row_seen rows)) ≡ true
has_some [] x h = absurd (cc)
has_some (r ∷ rows) x h = refl

there : (rows : List RowRef) (k : ℕ) → k < length rows → slice_get rows k ≡ None → ⊥
there [] k low h = omega arith
there (r ∷ rows) zero low h = absurd (cc)
there (r ∷ rows) (suc k) low h = there rows k (omega arith) h

pub has_no : (rows : List RowRef) → slice_get rows (length rows - 1) ≡ None → not (has_none (map row_seen rows)) ≡ false
has_no [] h = refl
has_no (r ∷ rows) h = absurd (there (r ∷ rows) (length (r ∷ rows) - 1) (omega arith) h)

-- ---- rows of a spot

both : (a b : Bool) → a ≡ true → b ≡ true → (a && b) ≡ true
both a b e f = rw (e, f) refl

pub of_spot : (is_last full named : Bool) (spot : Spot) (rows : List RowRef) (x : RowRef) → slice_get rows (length rows - 1) ≡ Some x → full ≡ is_full (map row_seen rows) → named ≡ same x.raw.now spot.last
    → (named && (is_last || full)) ≡ are_of_spot is_last spot (map row_seen rows)
of_spot is_last full named spot rows x h full_is named_is =
    (λ i. (named_is ∙ ap (λ (k : Bytes). same k spot.last) (sym (last_raw_seen [] rows x h))) i && (is_last || full_is i))
    ∙ ap (λ b. (b && same (last_raw [] (map row_seen rows)) spot.last) && (is_last || is_full (map row_seen rows))) (sym (has_some rows x h))

pub not_of_spot : (is_last : Bool) (spot : Spot) (rows : List RowRef) → slice_get rows (length rows - 1) ≡ None → false ≡ are_of_spot is_last spot (map row_seen rows)
not_of_spot is_last spot rows h = ap (λ b. (b && same (last_raw [] (map row_seen rows)) spot.last) && (is_last || is_full (map row_seen rows))) (sym (has_no rows h))
