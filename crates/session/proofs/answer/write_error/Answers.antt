use Rattle.kv_outside.specs.WritingLaws.{writes_as}
use Rattle.session.proofs.Lines.{error_pieces}
use Rattle.session.proofs.answer.write_error.Goals as goal

pub returns : goal.returns
returns g c = writes_as _ _ _ _ _ _ _ (error_pieces c.args.before.now c.args.name.now c.args.after.now) c.write_pieces.ensures
