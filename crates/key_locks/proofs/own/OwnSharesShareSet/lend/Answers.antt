use Rattle.std.proofs.Common.{true, refl, ap, None}
use Rattle.key_locks.proofs.Places.{lend_share, lend_none, set_others}
use Rattle.key_locks.proofs.own.OwnSharesShareSet.lend.Goals as goal

pub returns-clause-share : goal.returns-clause-share
returns-clause-share c = lend_share _ true _ _ _ _ refl (ap (λ v. v.shares) c.lent.ensures.set) c.lent.ensures.share

pub returns-clause-none : goal.returns-clause-none
returns-clause-none c = lend_none true _ _ _ _ refl (ap (λ v. v.shares) c.lent.ensures.set) c.lent.ensures.none

pub returns-clause-others : goal.returns-clause-others
returns-clause-others c = λ k ne. set_others true c.args.stripe k _ _ None (ap (λ v. v.shares) c.lent.ensures.set) ne
