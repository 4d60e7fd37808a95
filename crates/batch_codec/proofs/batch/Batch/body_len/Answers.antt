use Rattle.std.proofs.Common.{refl, length, add-one, ap, ◌∙◌, arith, IsTrue}
use Rattle.std.proofs.lemmas.List.{drop_all}
use Rattle.batch_codec.specs.Batches.{are_rows}
use Rattle.batch_codec.specs.Bodies.{entries_text}
use Rattle.batch_codec.specs.BodyLaws.{length-body}
use Rattle.batch_codec.specs.Slots.{slot_entries}
use Rattle.batch_codec.specs.EntryTextLaws.{short_pairs, next_length}
use Rattle.batch_codec.proofs.batch.Batch.body_len.Goals as goal

pub loop-entry-init : goal.loop-entry-init
loop-entry-init c = refl

pub overflow_add-total : goal.overflow_add-total
overflow_add-total c =
    let items = c.entries-entry-items.result.now in
    let next = next_length items c.loop-entry.entry-index c.entry-item.result c.entry-item.is (omega arith) in
    let rows : IsTrue (are_rows (slot_entries items)) = ap are_rows c.entries-entry-items.ensures.all ∙ c.entries-entry-items.ensures.grammar in
    let bound = short_pairs items rows in
    omega (arith, next, bound, c.loop-entry.invariant, c.entry_len-total.ensures, c.entries-entry-items.type_inv)

pub loop-entry-preserved : goal.loop-entry-preserved
loop-entry-preserved c =
    let next = next_length c.entries-entry-items.result.now c.loop-entry.entry-index c.entry-item.result c.entry-item.is (omega arith) in
    let before = c.loop-entry.invariant in
    rw add-one (omega (arith, next, before, c.entry_len-total.ensures))

pub returns : goal.returns
returns c = λ seq moment.
    let end = drop_all c.loop-entry.entry-index c.entries-entry-items.result.now (omega arith) in
    let none = ap (λ xs. length (entries_text (slot_entries xs))) end in
    let whole = length-body seq moment c.args.self.now in
    let same = ap (λ es. length (entries_text es)) c.entries-entry-items.ensures.all in
    omega (arith, none, whole, same, c.loop-entry.invariant)
