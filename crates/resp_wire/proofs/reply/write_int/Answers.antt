use Rattle.std.proofs.Common.{ap, ◌∙◌}
use Rattle.std.proofs.lemmas.Int.{to_z-of_z}
use mir.Syntax.{w64}
use Rattle.kv_base.specs.Number.{int_text}
use Rattle.kv_outside.specs.WritingLaws.{writes_as}
use Rattle.resp_wire.proofs.ReplyPieces.{int_pieces}
use Rattle.resp_wire.proofs.reply.write_int.Goals as goal

pub returns : goal.returns
returns g c = writes_as _ _ _ _ _ _ _ (int_pieces c.args.number _ (c.as_bytes-digits.ensures.value ∙ c.format.ensures.text ∙ ap int_text (to_z-of_z w64 c.args.number c.ranges.number))) c.write_pieces.ensures
