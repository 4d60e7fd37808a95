use Rattle.std.proofs.Common.{◌∙◌}
use Rattle.kv_outside.specs.WritingLaws.{writes_as}
use Rattle.resp_wire.proofs.ReplyPieces.{array_line_pieces}
use Rattle.resp_wire.proofs.reply.write_array_line.Goals as goal

pub returns : goal.returns
returns g c = writes_as _ _ _ _ _ _ _ (array_line_pieces c.args.count _ (c.as_bytes-digits.ensures.value ∙ c.format.ensures.text)) c.write_pieces.ensures
