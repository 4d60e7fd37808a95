-- Laws on what stands in `BatchMaps.antt`.
use Rattle.std.proofs.Common.{◌≡◌, ℕ, zero, suc, ◌<◌, ◌≤◌, List, [], ◌∷◌, refl, sym, ap, subst, ◌∙◌, length, get_or, arith}
use Rattle.std.specs.Prelude.{Option, Some, None, IsTrue}
use Rattle.std.specs.List.{insert as insert_at, slice_get}
use Rattle.std.proofs.Math.ListN.{set}
use Rattle.std.specs.FinMap.Entries.{put, find}
use Rattle.kv_base.specs.Map.{Bytes, byte_cmp, get, size}
use Rattle.batch_codec.specs.declared.slot.Entry.{Entry}
use Rattle.batch_codec.specs.Batches.{are_rows, is_row}
use Rattle.batch_codec.specs.Slots.{slot_value, slot_entry, slot_entries, batch_of}
use Rattle.batch_codec.specs.EntryListLaws.{entries_from_list, put_in_map, all_put, put_at, put_over, find_at, find_none}
use Rattle.batch_codec.specs.BatchMaps.{IsThere, IsBetween, AreSortedEntries, Sets}

pub there_too : (xs ys : List Entry) (raw same : Bytes) (at : ℕ) → xs ≡ ys → raw ≡ same → IsThere xs raw at → IsThere ys same at
there_too xs ys raw same at e f h = subst (λ (b : Bytes). IsThere ys b at) f (subst (λ (s : List Entry). IsThere s raw at) e h)

pub between_too : (xs ys : List Entry) (raw same : Bytes) (at : ℕ) → xs ≡ ys → raw ≡ same → IsBetween xs raw at → IsBetween ys same at
between_too xs ys raw same at e f h = subst (λ (b : Bytes). IsBetween ys b at) f (subst (λ (s : List Entry). IsBetween s raw at) e h)

sets : (old new : List Entry) (raw : Bytes) (value : Option Bytes) → AreSortedEntries old → IsTrue (is_row (raw, value)) → slot_entries new ≡ put byte_cmp raw value (slot_entries old) → Sets old new raw value
sets old new raw value h row is =
    let there = put_in_map (slot_entries old) (slot_entries new) raw value h.0 is in
    record {
      kept = (there.0, ap are_rows is ∙ all_put is_row raw value (slot_entries old) h.1 row);
      is = there.1;
    }

pub set_there : (old : List Entry) (at : ℕ) (entry : Entry) → AreSortedEntries old → IsTrue (is_row (slot_entry entry)) → IsThere old entry.raw at
    → Sets old (set old at entry) entry.raw (slot_value entry.slot)
set_there old at entry h row there = sets old (set old at entry) entry.raw (slot_value entry.slot) h row (sym (put_over slot_entry old at entry entry.raw (slot_value entry.slot) refl there.0 h.0 there.1))

pub set_between : (old : List Entry) (at : ℕ) (entry : Entry) → AreSortedEntries old → IsTrue (is_row (slot_entry entry)) → IsBetween old entry.raw at
    → Sets old (insert_at old at entry) entry.raw (slot_value entry.slot)
set_between old at entry h row place = sets old (insert_at old at entry) entry.raw (slot_value entry.slot) h row (sym (put_at slot_entry old at entry entry.raw (slot_value entry.slot) refl place.0 place.1))

pub batch_entries : (xs : List Entry) → AreSortedEntries xs → (batch_of xs).entries ≡ slot_entries xs
batch_entries xs h = entries_from_list (slot_entries xs) h.0

length-pairs : (xs : List Entry) → length (slot_entries xs) ≡ length xs
length-pairs [] = refl
length-pairs (x ∷ xs) = let rest = length-pairs xs in omega (arith, rest)

pub batch_size : (xs : List Entry) → AreSortedEntries xs → size (batch_of xs) ≡ length xs
unfolding size
batch_size xs h = ap length (batch_entries xs h) ∙ length-pairs xs

pub are_batch_rows : (xs : List Entry) → AreSortedEntries xs → IsTrue (are_rows (batch_of xs).entries)
are_batch_rows xs h = ap are_rows (batch_entries xs h) ∙ h.1

pub get_there : (xs : List Entry) (at : ℕ) (raw : Bytes) (d : Entry) → AreSortedEntries xs → IsThere xs raw at → get (batch_of xs) raw ≡ Some (slot_value (get_or xs at d).slot)
unfolding get
get_there xs at raw d h there = ap (find byte_cmp raw) (batch_entries xs h) ∙ find_at slot_entry xs at raw d there.0 h.0 there.1

pub get_between : (xs : List Entry) (at : ℕ) (raw : Bytes) → AreSortedEntries xs → IsBetween xs raw at → get (batch_of xs) raw ≡ None
unfolding get
get_between xs at raw h place = ap (find byte_cmp raw) (batch_entries xs h) ∙ find_none slot_entry xs at raw place.0 place.1

pub entry_at : (xs : List Entry) (at : ℕ) (d : Entry) → AreSortedEntries xs → at < length xs → slice_get (batch_of xs).entries at ≡ Some (slot_entry (get_or xs at d))
entry_at xs at d h low = ap (λ es. slice_get es at) (batch_entries xs h) ∙ in_pairs xs at low
  where
    in_pairs : (ys : List Entry) (i : ℕ) → i < length ys → slice_get (slot_entries ys) i ≡ Some (slot_entry (get_or ys i d))
    in_pairs [] i low = let never : ⊥ = omega arith in absurd never
    in_pairs (y ∷ ys) zero low = refl
    in_pairs (y ∷ ys) (suc i) low = in_pairs ys i (omega arith)

pub no_entry_at : (xs : List Entry) (at : ℕ) → AreSortedEntries xs → length xs ≤ at → slice_get (batch_of xs).entries at ≡ None
no_entry_at xs at h high = ap (λ es. slice_get es at) (batch_entries xs h) ∙ in_pairs xs at high
  where
    in_pairs : (ys : List Entry) (i : ℕ) → length ys ≤ i → slice_get (slot_entries ys) i ≡ None
    in_pairs [] i high = refl
    in_pairs (y ∷ ys) zero high = let never : ⊥ = omega arith in absurd never
    in_pairs (y ∷ ys) (suc i) high = in_pairs ys i (omega arith)
