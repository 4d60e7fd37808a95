use Rattle.std.proofs.Common.{ap, [], ◌∷◌, Some}
use Rattle.redis_model.specs.Stripes.{contains}
use Rattle.key_locks.proofs.Places.{give_held, if_lent, set_others, same_outside}
use Rattle.key_locks.proofs.own.OnlyShareSet.give.Goals as goal

pub returns-clause-given : goal.returns-clause-given
returns-clause-given c = give_held _ c.args.share.stripe _ _ c.args.share (ap (λ v. v.shares) c.given.ensures) c.requires.lent

pub returns-clause-others : goal.returns-clause-others
returns-clause-others c = λ k ne. set_others _ c.args.share.stripe k _ _ (Some c.args.share) (ap (λ v. v.shares) c.given.ensures) ne

pub returns-clause-loans : goal.returns-clause-loans
returns-clause-loans c =
    let has = if_lent _ _ c.requires.lent in
    ap (λ l. (c.args.self.now.all.ghost_name, l) ∷ []) (same_outside (contains c.args.self.now.stripes) c.args.share.stripe _ _ (Some c.args.share) (ap (λ v. v.shares) c.given.ensures) has.0)
