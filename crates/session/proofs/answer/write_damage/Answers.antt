use Rattle.std.proofs.Common.{◌∙◌}
use Rattle.kv_outside.specs.WritingLaws.{writes_as}
use Rattle.session.proofs.Lines.{damage_pieces}
use Rattle.session.proofs.answer.write_damage.Goals as goal

pub returns : goal.returns
returns g c = writes_as _ _ _ _ _ _ _ (damage_pieces c.args.name.now _ c.args.place (c.as_bytes-at.ensures.value ∙ c.format.ensures.text)) c.write_pieces.ensures
