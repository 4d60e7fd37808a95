use Rattle.std.proofs.Common.{true, ap, Some}
use Rattle.key_locks.proofs.Places.{give_held, set_others}
use Rattle.key_locks.proofs.own.OwnSharesShareSet.give.Goals as goal

pub returns-clause-given : goal.returns-clause-given
returns-clause-given c = give_held true c.args.share.stripe _ _ c.args.share (ap (λ v. v.shares) c.given.ensures) c.requires.lent

pub returns-clause-others : goal.returns-clause-others
returns-clause-others c = λ k ne. set_others true c.args.share.stripe k _ _ (Some c.args.share) (ap (λ v. v.shares) c.given.ensures) ne
