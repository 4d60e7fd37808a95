use Rattle.std.proofs.Common.{◌∙◌}
use Rattle.kv_outside.specs.WritingLaws.{writes_as}
use Rattle.session.proofs.Lines.{numbered_pieces}
use Rattle.session.proofs.answer.write_damaged_segment.Goals as goal

pub returns : goal.returns
returns g c = writes_as _ _ _ _ _ _ _ (numbered_pieces _ _ c.args.number c.args.place (c.as_bytes-name.ensures.value ∙ c.format.ensures.text) (c.as_bytes-at.ensures.value ∙ c.format-2.ensures.text)) c.write_pieces.ensures
