-- Rows are read back from their bytes as they were written, and nothing else is read.
use Rattle.std.proofs.Common.{◌≡◌, ℕ, ◌+◌, ◌<◌, ◌≤◌, ◌^◌, [], ◌∷◌, ◌++◌, refl, sym, ap, subst, ◌∙◌, Bool, true, false, cond, length, Option, Some, None, option_map, option_and_then, append_assoc, length-append, arith}
use Rattle.std.specs.Prelude.{◌==◌}
use Rattle.kv_base.specs.Map.{Bytes}
use Rattle.kv_base.specs.Fields.{u64, text, read_u64, read_text}
use Rattle.kv_base.specs.FieldLaws.{u64_is_read, text_is_read, only_u64_is_read, only_text_is_read, length-u64, length-text}
use Rattle.kv_base.specs.InversionLaws.{same_some, and_then_is, map_is, number_is}
use Rattle.kv_base.specs.declared.row.Row.{Row}
use Rattle.sst_parts.specs.RowTexts.{row_parts, row_text, row_value_behind, row_seq_behind, read_row}

-- ---- a row as code writes it, piece by piece

pub row_put_written : (old one two three new raw value : Bytes) (seq : ℕ) → one ≡ old ++ 1 ∷ [] → two ≡ one ++ text raw → three ≡ two ++ u64 seq → new ≡ three ++ text value
    → new ≡ old ++ row_parts raw seq (Some value)
row_put_written old one two three new raw value seq a b c d =
    d ∙ ap (λ w. w ++ text value) (c ∙ ap (λ w. w ++ u64 seq) (b ∙ ap (λ w. w ++ text raw) a))
    ∙ append_assoc ((old ++ 1 ∷ []) ++ text raw) (u64 seq) (text value)
    ∙ append_assoc (old ++ 1 ∷ []) (text raw) (u64 seq ++ text value)
    ∙ append_assoc old (1 ∷ []) (text raw ++ (u64 seq ++ text value))

pub row_delete_written : (old one two new raw : Bytes) (seq : ℕ) → one ≡ old ++ 0 ∷ [] → two ≡ one ++ text raw → new ≡ two ++ u64 seq → new ≡ old ++ row_parts raw seq None
row_delete_written old one two new raw seq a b c =
    c ∙ ap (λ w. w ++ u64 seq) (b ∙ ap (λ w. w ++ text raw) a)
    ∙ append_assoc (old ++ 0 ∷ []) (text raw) (u64 seq)
    ∙ append_assoc old (0 ∷ []) (text raw ++ u64 seq)

-- ---- how long it is

length-parts : (raw : Bytes) (seq : ℕ) (value : Option Bytes) → length raw + 13 ≤ length (row_parts raw seq value)
length-parts raw seq (Some value) =
    let a = length-append (text raw) (u64 seq ++ text value) in
    let b = length-append (u64 seq) (text value) in
    let r = length-text raw in
    let s = length-u64 seq in
    omega (arith, a, b, r, s)
length-parts raw seq None =
    let a = length-append (text raw) (u64 seq) in
    let r = length-text raw in
    let s = length-u64 seq in
    omega (arith, a, r, s)

-- thirteen bytes stand around the raw key at least
pub length-row : (row : Row) → length row.raw + 13 ≤ length (row_text row)
unfolding row_text
length-row row = length-parts row.raw row.seq row.value

-- ---- it is read back

parts_are_read : (raw : Bytes) (seq : ℕ) (value : Option Bytes) (bytes : Bytes) → length (row_parts raw seq value) < 2 ^ 32 → seq < 2 ^ 64
    → read_row (row_parts raw seq value ++ bytes) ≡ Some (record { raw = raw; seq = seq; value = value }, bytes)
unfolding read_row
parts_are_read raw seq (Some value) bytes short low =
    let a = length-append (text raw) (u64 seq ++ text value) in
    let b = length-append (u64 seq) (text value) in
    let r = length-text raw in
    let v = length-text value in
    ap (λ b. option_and_then (row_seq_behind 1) (read_text b)) (append_assoc (text raw) (u64 seq ++ text value) bytes ∙ ap (λ b. text raw ++ b) (append_assoc (u64 seq) (text value) bytes))
    ∙ ap (λ o. option_and_then (row_seq_behind 1) o) (text_is_read raw (omega (arith, short, a, b, r, v)) (u64 seq ++ (text value ++ bytes)))
    ∙ ap (λ o. option_and_then (row_value_behind 1 raw) o) (u64_is_read seq low (text value ++ bytes))
    ∙ ap (λ o. option_map (λ v. (record { raw = raw; seq = seq; value = Some v.0 }, v.1)) o) (text_is_read value (omega (arith, short, a, b, r, v)) bytes)
parts_are_read raw seq None bytes short low =
    let a = length-append (text raw) (u64 seq) in
    let r = length-text raw in
    ap (λ b. option_and_then (row_seq_behind 0) (read_text b)) (append_assoc (text raw) (u64 seq) bytes)
    ∙ ap (λ o. option_and_then (row_seq_behind 0) o) (text_is_read raw (omega (arith, short, a, r)) (u64 seq ++ bytes))
    ∙ ap (λ o. option_and_then (row_value_behind 0 raw) o) (u64_is_read seq low bytes)

pub row_text_is_read : (row : Row) (bytes : Bytes) → length (row_text row) < 2 ^ 32 → row.seq < 2 ^ 64 → read_row (row_text row ++ bytes) ≡ Some (row, bytes)
unfolding row_text
row_text_is_read row bytes short low = parts_are_read row.raw row.seq row.value bytes short low

-- ---- nothing else is read

pub record IsRowIn (bytes : Bytes) (front : Row × Bytes) : Type 0 where
  pub spelled : bytes ≡ row_text front.0 ++ front.1
  pub low : front.0.seq < 2 ^ 64

by_mark : (mark : ℕ) (raw rest : Bytes) (seq : ℕ) (front : Row × Bytes) (put del : Bool) → (mark == 1) ≡ put → (mark == 0) ≡ del → seq < 2 ^ 64
    → cond put (option_map (λ (v : Bytes × Bytes). (record { raw = raw; seq = seq; value = Some v.0 }, v.1)) (read_text rest)) (cond del (Some (record { raw = raw; seq = seq; value = None }, rest)) None) ≡ Some front
    → IsRowIn (mark ∷ (text raw ++ (u64 seq ++ rest))) front
unfolding row_text
by_mark mark raw rest seq front true del put_is del_is low h =
    let value = map_is (λ (v : Bytes × Bytes). (record { raw = raw; seq = seq; value = Some v.0 }, v.1)) (read_text rest) front h in
    let v = (only_text_is_read rest value.0.0 value.0.1 value.1).0 in
    let whole : text raw ++ (u64 seq ++ rest) ≡ (text raw ++ (u64 seq ++ text value.0.0)) ++ value.0.1 =
    ap (λ b. text raw ++ (u64 seq ++ b)) v ∙ ap (λ b. text raw ++ b) (sym (append_assoc (u64 seq) (text value.0.0) value.0.1)) ∙ sym (append_assoc (text raw) (u64 seq ++ text value.0.0) value.0.1) in
    subst (λ (f : Row × Bytes). IsRowIn (mark ∷ (text raw ++ (u64 seq ++ rest))) f) value.2 (record { spelled = (λ i. number_is mark 1 put_is i ∷ whole i); low = low })
by_mark mark raw rest seq front false true put_is del_is low h =
    subst (λ (f : Row × Bytes). IsRowIn (mark ∷ (text raw ++ (u64 seq ++ rest))) f) (same_some (record { raw = raw; seq = seq; value = None }, rest) front h)
    (record { spelled = (λ i. number_is mark 0 del_is i ∷ sym (append_assoc (text raw) (u64 seq) rest) i); low = low })
by_mark mark raw rest seq front false false put_is del_is low h = absurd (cc)

pub only_row_text_is_read : (bytes : Bytes) (front : Row × Bytes) → read_row bytes ≡ Some front → IsRowIn bytes front
unfolding read_row
only_row_text_is_read [] front h = absurd (cc)
only_row_text_is_read (mark ∷ bytes) front h =
    let raw = and_then_is (row_seq_behind mark) (read_text bytes) front h in
    let seq = and_then_is (row_value_behind mark raw.0.0) (read_u64 raw.0.1) front raw.2 in
    let r = (only_text_is_read bytes raw.0.0 raw.0.1 raw.1).0 in
    let s = only_u64_is_read raw.0.1 seq.0.0 seq.0.1 seq.1 in
    let whole : mark ∷ (text raw.0.0 ++ (u64 seq.0.0 ++ seq.0.1)) ≡ mark ∷ bytes = ap (λ b. mark ∷ (text raw.0.0 ++ b)) (sym s.0) ∙ ap (λ b. mark ∷ b) (sym r) in
    subst (λ (b : Bytes). IsRowIn b front) whole (by_mark mark raw.0.0 seq.0.1 seq.0.0 front _ _ refl refl s.1 seq.2)

-- what is behind a row is shorter
pub row_shortens : (bytes : Bytes) (front : Row × Bytes) → read_row bytes ≡ Some front → length front.1 < length bytes
row_shortens bytes front h =
    let is = only_row_text_is_read bytes front h in
    let whole = ap (λ (b : Bytes). length b) is.spelled in
    let parts = length-append (row_text front.0) front.1 in
    let some = length-row front.0 in
    omega (arith, whole, parts, some)
