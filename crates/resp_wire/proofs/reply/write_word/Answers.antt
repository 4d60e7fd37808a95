use Rattle.kv_outside.specs.WritingLaws.{writes_as}
use Rattle.resp_wire.proofs.ReplyPieces.{word_pieces}
use Rattle.resp_wire.proofs.reply.write_word.Goals as goal

pub returns : goal.returns
returns g c = writes_as _ _ _ _ _ _ _ (word_pieces c.args.word _ c.text_of_word.ensures) c.write_pieces.ensures
