use Rattle.std.proofs.Common.{◌∙◌}
use Rattle.kv_outside.specs.WritingLaws.{writes_as}
use Rattle.resp_wire.proofs.ReplyPieces.{fault_pieces}
use Rattle.resp_wire.proofs.fault.write_fault.Goals as goal

pub returns : goal.returns
returns g c = writes_as _ _ _ _ _ _ _ (fault_pieces c.args.fault c.args.place _ _ (c.as_bytes.ensures.value ∙ c.text.ensures) (c.as_bytes-digits.ensures.value ∙ c.format.ensures.text)) c.write_pieces.ensures
