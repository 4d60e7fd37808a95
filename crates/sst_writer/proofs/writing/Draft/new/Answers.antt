use Rattle.std.proofs.Common.{◌++◌, List, ℕ, ap, ◌∙◌}
use Rattle.sst_parts.specs.Tables.{table_head}
use Rattle.sst_writer.specs.WritingLaws.{head_waits}
use Rattle.sst_writer.proofs.writing.Draft.new.Goals as goal

pub returns-clause-file : goal.returns-clause-file
returns-clause-file c = head_waits c.extend_from_slice.new.self.items (c.in_ok-extend_from_slice.ensures.items ∙ ap (λ (b : List ℕ). b ++ table_head) c.in_ok-waiting.ensures.items)
