-- The bytes of entries, one after another.
use Rattle.std.proofs.Common.{◌≡◌, ℕ, zero, suc, ◌+◌, ◌*◌, ◌<◌, ◌≤◌, ◌^◌, List, [], ◌∷◌, ◌++◌, refl, sym, ap, ◌∙◌, length, drop, get_or, Some, None, append_assoc, length-append, arith}
use Rattle.std.specs.Prelude.{IsTrue}
use Rattle.kv_base.specs.Map.{Bytes}
use Rattle.kv_base.specs.Fields.{text}
use Rattle.kv_base.specs.FieldLaws.{length-text}
use Rattle.kv_base.specs.InversionLaws.{both_first, both_second}
use Rattle.kv_base.specs.RowLaws.{raw_is_short, value_is_short, value_has_raw}
use Rattle.batch_codec.specs.declared.slot.Entry.{Entry}
use Rattle.batch_codec.specs.Batches as batches
use Rattle.batch_codec.specs.Batches.{is_row, are_rows}
use Rattle.batch_codec.specs.declared.slot.Slot.TheVariants.{Put, Del}
use Rattle.batch_codec.specs.Slots.{slot_value, slot_entry, slot_entries}
use Rattle.batch_codec.specs.Bodies.{entry_text, entries_text}

pub length-put : (raw value : Bytes) → length (entry_text (raw, Some value)) ≡ 9 + length raw + length value
length-put raw value =
    let a = length-append (text raw) (text value) in
    let r = length-text raw in
    let v = length-text value in
    omega (arith, a, r, v)

pub length-delete : (raw : Bytes) → length (entry_text (raw, None)) ≡ 5 + length raw
length-delete raw = let r = length-text raw in omega (arith, r)

short_entry : (e : batches.BatchEntry) → IsTrue (is_row e) → length (entry_text e) ≤ 2 ^ 21
short_entry (raw, Some value) h =
    let l = length-put raw value in
    let r = raw_is_short raw (value_has_raw raw value h) in
    let v = value_is_short raw value h in
    omega (arith, l, r, v)
short_entry (raw, None) h =
    let l = length-delete raw in
    let r = raw_is_short raw h in
    omega (arith, l, r)

pub short_entries : (es : List batches.BatchEntry) → IsTrue (are_rows es) → length (entries_text es) ≤ 2 ^ 21 * length es
short_entries [] h = omega arith
short_entries (e ∷ es) h =
    let parts = length-append (entry_text e) (entries_text es) in
    let one = short_entry e (both_first (is_row e) (are_rows es) h) in
    let rest = short_entries es (both_second (is_row e) (are_rows es) h) in
    omega (arith, parts, one, rest)

length-pairs : (xs : List Entry) → length (slot_entries xs) ≡ length xs
length-pairs [] = refl
length-pairs (x ∷ xs) = let rest = length-pairs xs in omega (arith, rest)

pub short_pairs : (xs : List Entry) → IsTrue (are_rows (slot_entries xs)) → length (entries_text (slot_entries xs)) ≤ 2 ^ 21 * length xs
short_pairs xs h = let bound = short_entries (slot_entries xs) h in let same = length-pairs xs in omega (arith, bound, same)

-- ---- one entry more

pub next_text : (xs : List Entry) (i : ℕ) (x : Entry) → x ≡ get_or xs i x → i < length xs → entries_text (slot_entries (drop i xs)) ≡ entry_text (slot_entry x) ++ entries_text (slot_entries (drop (suc i) xs))
next_text [] i x is low = let never : ⊥ = omega arith in absurd never
next_text (y ∷ xs) zero x is low = ap (λ (z : Entry). entry_text (slot_entry z) ++ entries_text (slot_entries xs)) (sym is)
next_text (y ∷ xs) (suc i) x is low = next_text xs i x is (omega arith)

pub next_length : (xs : List Entry) (i : ℕ) (x : Entry) → x ≡ get_or xs i x → i < length xs → length (entries_text (slot_entries (drop i xs))) ≡ length (entry_text (slot_entry x)) + length (entries_text (slot_entries (drop (suc i) xs)))
next_length xs i x is low = ap length (next_text xs i x is low) ∙ length-append (entry_text (slot_entry x)) (entries_text (slot_entries (drop (suc i) xs)))

pub front_length : (xs : List Entry) (i : ℕ) → length (entries_text (slot_entries (drop i xs))) ≤ length (entries_text (slot_entries xs))
front_length xs zero = omega arith
front_length [] (suc i) = omega arith
front_length (x ∷ xs) (suc i) = let rest = front_length xs i in let parts = length-append (entry_text (slot_entry x)) (entries_text (slot_entries xs)) in omega (arith, rest, parts)

-- ---- an entry as code writes it, piece by piece

pub put_length : (e : Entry) (value raw v : Bytes) → e.slot ≡ Put value → raw ≡ e.raw → v ≡ value → length (entry_text (slot_entry e)) ≡ 9 + length raw + length v
put_length e value raw v is raw_is v_is =
    let r = ap (λ (b : Bytes). length b) raw_is in
    let l = ap (λ (b : Bytes). length b) v_is in
    let whole = ap (λ s. length (entry_text (e.raw, slot_value s))) is ∙ length-put e.raw value in
    omega (arith, r, l, whole)

pub delete_length : (e : Entry) (raw : Bytes) → e.slot ≡ Del → raw ≡ e.raw → length (entry_text (slot_entry e)) ≡ 5 + length raw
delete_length e raw is raw_is =
    let r = ap (λ (b : Bytes). length b) raw_is in
    let whole = ap (λ s. length (entry_text (e.raw, slot_value s))) is ∙ length-delete e.raw in
    omega (arith, r, whole)

pub put_written : (old one two new : Bytes) (e : Entry) (value raw v : Bytes) → e.slot ≡ Put value → raw ≡ e.raw → v ≡ value
    → one ≡ old ++ 1 ∷ [] → two ≡ one ++ text raw → new ≡ two ++ text v → new ≡ old ++ entry_text (slot_entry e)
put_written old one two new e value raw v is raw_is v_is a b c =
    c ∙ ap (λ w. w ++ text v) (b ∙ ap (λ w. w ++ text raw) a)
    ∙ append_assoc (old ++ 1 ∷ []) (text raw) (text v) ∙ append_assoc old (1 ∷ []) (text raw ++ text v)
    ∙ ap (λ (r : Bytes). old ++ 1 ∷ (text r ++ text v)) raw_is ∙ ap (λ (w : Bytes). old ++ 1 ∷ (text e.raw ++ text w)) v_is
    ∙ ap (λ s. old ++ entry_text (e.raw, slot_value s)) (sym is)

pub delete_written : (old one new : Bytes) (e : Entry) (raw : Bytes) → e.slot ≡ Del → raw ≡ e.raw → one ≡ old ++ 0 ∷ [] → new ≡ one ++ text raw → new ≡ old ++ entry_text (slot_entry e)
delete_written old one new e raw is raw_is a b =
    b ∙ ap (λ w. w ++ text raw) a ∙ append_assoc old (0 ∷ []) (text raw)
    ∙ ap (λ (r : Bytes). old ++ 0 ∷ text r) raw_is
    ∙ ap (λ s. old ++ entry_text (e.raw, slot_value s)) (sym is)
