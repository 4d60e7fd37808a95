-- Rows that are issued and rows that are not, and the rows of values, spelled out.
use Rattle.std.proofs.Common.{◌≡◌, ℕ, ◌+◌, ◌-◌, ◌^◌, ◌<◌, [], ◌∷◌, refl, sym, subst, arith}
use Rattle.std.specs.Prelude.{Option, Some, IfSome, codes, ℤ, pos, negsuc}
use Rattle.kv_base.specs.Map.{Bytes, Map, empty, insert}
use Rattle.kv_base.specs.Fields.{u64}
use Rattle.kv_base.specs.MetaValues.{ListValue, is_meta_within, meta_text}
use Rattle.kv_base.specs.MetaValueLaws.{meta_is_read}
use Rattle.kv_base.specs.declared.row.Row.{Row}
use Rattle.redis_model.specs.Value.{ListOf, ZSet}
use Rattle.lives_model.specs.LifeRows.{value_rows}
use Rattle.lives_model.specs.Rows.{Elements, Scores, meta_key, row_key}
use Rattle.lives_model.specs.RowKeyLaws.{row_key_is, row_key_is_no_meta_key}
use Rattle.lives_model.specs.Plans.{version}
use Rattle.lives_model.specs.Issued.{IsIssuedMeta, IsIssuedRow}

-- the row of the field f of the hash h under the sequence 2
field_row : ℕ → Option Bytes → Row
field_row version value = record { raw = row_key Elements (codes "h") version (codes "f"); seq = 2; value = value }

-- a store with one batch gives the version 4096 to a life that the next batch starts
first_version : version 1 0 ≡ 4096
first_version = refl

-- its rows are issued by that batch's own sequence, a put as well as a delete
field_is_issued : (value : Option Bytes) → IsIssuedRow (field_row 4096 value)
unfolding field_row
field_is_issued value = record {
  raw = λ side k v subkey key fits is. let same = (row_key_is Elements side (codes "h") k 4096 v (codes "f") subkey refl key refl fits is).version_is in omega (arith, same);
  meta = λ k is. absurd (row_key_is_no_meta_key Elements (codes "h") 4096 (codes "f") k is);
}

-- the next batch's versions are not
later_field_is_not : (value : Option Bytes) → IsIssuedRow (field_row 6144 value) → ⊥
unfolding field_row
later_field_is_not value issued = let low : 6144 < version 2 0 = issued.raw Elements (codes "h") 6144 (codes "f") refl refl refl in omega (arith, low)

-- the metadata of a list l of one item under the sequence 2, with this version and this index of its item
list_row : ℕ → ℕ → Row
list_row version head = record { raw = meta_key (codes "l"); seq = 2; value = Some (meta_text (ListValue 0 version head (head + 1))) }

-- the first index that a list may have by then is 2^21 below the middle
near_list_is_issued : IsIssuedRow (list_row 4096 (2 ^ 63 - 2 ^ 21))
unfolding list_row is_meta_within
near_list_is_issued = record {
  raw = λ side k v subkey key fits is. absurd (row_key_is_no_meta_key side k v subkey (codes "l") (sym is));
  meta = λ k is. subst (λ o. IfSome o (IsIssuedMeta 2)) (sym (meta_is_read (ListValue 0 4096 (2 ^ 63 - 2 ^ 21) (2 ^ 63 - 2 ^ 21 + 1)) refl)) (omega arith, (omega arith, omega arith));
}

-- and not one before it
far_list_is_not : IsIssuedRow (list_row 4096 (2 ^ 63 - 2 ^ 21 - 1)) → ⊥
unfolding list_row is_meta_within
far_list_is_not issued =
    let meta = ListValue 0 4096 (2 ^ 63 - 2 ^ 21 - 1) (2 ^ 63 - 2 ^ 21) in
    let near = subst (λ o. IfSome o (IsIssuedMeta 2)) (meta_is_read meta refl) (issued.meta (codes "l") refl) in
    omega (arith, near.1.0)

-- nor one with a version of the next batch
later_list_is_not : IsIssuedRow (list_row 6144 (2 ^ 63)) → ⊥
unfolding list_row is_meta_within
later_list_is_not issued =
    let meta = ListValue 0 6144 (2 ^ 63) (2 ^ 63 + 1) in
    let low = subst (λ o. IfSome o (IsIssuedMeta 2)) (meta_is_read meta refl) (issued.meta (codes "l") refl) in
    omega (arith, low.0)

-- ---- the rows of a value

-- a sorted set of the members a, b and c with the scores 3, -1 and 3
example : Map ℤ
example = insert (insert (insert empty (codes "a") (pos 3)) (codes "b") (negsuc 0)) (codes "c") (pos 3)

-- stands by score, and then by member
by_rank : value_rows (ZSet example) 0 Scores ≡
    (127 ∷ 255 ∷ 255 ∷ 255 ∷ 255 ∷ 255 ∷ 255 ∷ 255 ∷ codes "b", [])
    ∷ (128 ∷ 0 ∷ 0 ∷ 0 ∷ 0 ∷ 0 ∷ 0 ∷ 3 ∷ codes "a", [])
    ∷ (128 ∷ 0 ∷ 0 ∷ 0 ∷ 0 ∷ 0 ∷ 0 ∷ 3 ∷ codes "c", [])
    ∷ []
unfolding example empty insert u64
by_rank = refl

-- a list of two items stands by index
by_place : value_rows (ListOf (codes "x" ∷ codes "y" ∷ [])) (2 ^ 63 - 1) Elements ≡
    (127 ∷ 255 ∷ 255 ∷ 255 ∷ 255 ∷ 255 ∷ 255 ∷ 255 ∷ [], codes "x") ∷ (128 ∷ 0 ∷ 0 ∷ 0 ∷ 0 ∷ 0 ∷ 0 ∷ 0 ∷ [], codes "y") ∷ []
unfolding u64
by_place = refl
