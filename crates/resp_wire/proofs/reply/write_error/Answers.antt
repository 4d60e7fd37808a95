use Rattle.kv_outside.specs.WritingLaws.{writes_as}
use Rattle.resp_wire.proofs.ReplyPieces.{error_pieces}
use Rattle.resp_wire.proofs.reply.write_error.Goals as goal

pub returns : goal.returns
returns g c = writes_as _ _ _ _ _ _ _ (error_pieces c.args.error _ c.text_of_error.ensures) c.write_pieces.ensures
