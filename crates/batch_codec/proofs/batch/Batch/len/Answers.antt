use Rattle.std.proofs.Common.{length, ap, sym, ◌∙◌, subst, IsTrue}
use Rattle.kv_base.specs.Map.{size}
use Rattle.batch_codec.specs.Batches.{Batch, are_rows}
use Rattle.batch_codec.specs.BatchMapLaws.{batch_size, are_batch_rows}
use Rattle.batch_codec.proofs.batch.Batch.len.Goals as goal

pub returns-clause-count : goal.returns-clause-count
returns-clause-count c = ap length c.as_slice.ensures.value ∙ sym (batch_size c.self.inside.entries.items c.self.invariant) ∙ ap size c.self.view_is

pub returns-clause-grammar : goal.returns-clause-grammar
returns-clause-grammar c = subst (λ (b : Batch). IsTrue (are_rows b.entries)) c.self.view_is (are_batch_rows c.self.inside.entries.items c.self.invariant)
