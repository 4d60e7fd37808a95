use Rattle.std.proofs.Common.{◌∙◌}
use Rattle.gated_log.proofs.Reading.{number_of-head}
use Rattle.gated_log.proofs.record.body_length.Goals as goal

pub returns-clause-number : goal.returns-clause-number
returns-clause-number c = c.from_be_bytes.ensures ∙ number_of-head c.args.head.now c.requires
