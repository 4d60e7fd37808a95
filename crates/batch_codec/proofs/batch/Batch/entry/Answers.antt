use Rattle.std.proofs.Common.{◌≡◌, ℕ, ◌<◌, List, Option, Some, length, get_or, ap, sym, ◌∙◌, arith}
use Rattle.std.specs.List.{slice_get}
use Rattle.kv_base.specs.Map.{Bytes}
use Rattle.batch_codec.specs.declared.slot.Entry.{Entry}
use Rattle.batch_codec.specs.Slots.{slot_entry, slot_value, batch_of}
use Rattle.batch_codec.specs.BatchMaps.{AreSortedEntries}
use Rattle.batch_codec.specs.BatchMapLaws.{entry_at, no_entry_at}
use Rattle.batch_codec.proofs.batch.Batch.entry.Goals as goal

seen : (xs slice : List Entry) (at : ℕ) (entry : Entry) (raw : Bytes) (value : Option Bytes) → AreSortedEntries xs → slice ≡ xs → at < length slice → entry ≡ get_or slice at entry
    → raw ≡ entry.raw → value ≡ slot_value entry.slot → Some (raw, value) ≡ slice_get (batch_of xs).entries at
seen xs slice at entry raw value h same low is raw_is value_is =
    let lengths = ap length same in
    let there = entry_at xs at entry h (omega (arith, lengths, low)) in
    (λ i. Some (raw_is i, value_is i)) ∙ ap (λ e. Some (slot_entry e)) (is ∙ ap (λ s. get_or s at entry) same) ∙ sym there

pub returns-in_err-entry : goal.returns-in_err-entry
returns-in_err-entry c =
    let high = c.in_err-entry.ensures.lookup.3 in
    let same = ap length c.as_slice.ensures.value in
    rw c.from_residual.ensures (sym (no_entry_at c.self.inside.entries.items c.args.at c.self.invariant (omega (arith, high, same))) ∙ ap (λ b. slice_get b.entries c.args.at) c.self.view_is)

pub returns : goal.returns
returns c =
    let there = c.in_ok-entry.ensures.lookup in
    seen c.self.inside.entries.items c.as_slice.result.now c.args.at c.in_ok-entry.entry.now c.bytes.result.now _ c.self.invariant c.as_slice.ensures.value there.3.0 there.1 c.bytes.ensures c.value.ensures
    ∙ ap (λ b. slice_get b.entries c.args.at) c.self.view_is
