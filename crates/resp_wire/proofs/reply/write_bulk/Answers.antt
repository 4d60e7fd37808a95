use Rattle.std.proofs.Common.{◌∙◌}
use Rattle.kv_outside.specs.WritingLaws.{writes_as}
use Rattle.resp_wire.proofs.ReplyPieces.{bulk_pieces}
use Rattle.resp_wire.proofs.reply.write_bulk.Goals as goal

pub returns : goal.returns
returns g c = writes_as _ _ _ _ _ _ _ (bulk_pieces c.args.bytes.now _ (c.as_bytes-digits.ensures.value ∙ c.format.ensures.text)) c.write_pieces.ensures
