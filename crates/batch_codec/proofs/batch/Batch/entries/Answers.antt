use Rattle.std.proofs.Common.{ap, sym, ◌∙◌, subst, IsTrue}
use Rattle.batch_codec.specs.Batches.{Batch, are_rows}
use Rattle.batch_codec.specs.Slots.{slot_entries}
use Rattle.batch_codec.specs.BatchMapLaws.{batch_entries, are_batch_rows}
use Rattle.batch_codec.proofs.batch.Batch.entries.Goals as goal

pub returns-clause-all : goal.returns-clause-all
returns-clause-all c = ap slot_entries c.as_slice.ensures.value ∙ sym (batch_entries c.self.inside.entries.items c.self.invariant) ∙ ap (λ b. b.entries) c.self.view_is

pub returns-clause-grammar : goal.returns-clause-grammar
returns-clause-grammar c = subst (λ (b : Batch). IsTrue (are_rows b.entries)) c.self.view_is (are_batch_rows c.self.inside.entries.items c.self.invariant)
