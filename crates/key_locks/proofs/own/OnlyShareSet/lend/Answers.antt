use Rattle.std.proofs.Common.{◌≡◌, true, ap, [], ◌∷◌, None, arith}
use Rattle.redis_model.specs.Stripes.{contains}
use Rattle.key_locks.proofs.Places.{lend_share, lend_none, set_others, same_outside}
use Rattle.key_locks.proofs.own.OnlyShareSet.lend.Goals as goal

pub returns-clause-share : goal.returns-clause-share
returns-clause-share c =
    let has : contains c.args.self.now.stripes c.args.stripe ≡ true = grind arith in
    lend_share _ _ _ _ _ _ has (ap (λ v. v.shares) c.lent.ensures.set) c.lent.ensures.share

pub returns-clause-none : goal.returns-clause-none
returns-clause-none c =
    let has : contains c.args.self.now.stripes c.args.stripe ≡ true = grind arith in
    lend_none _ _ _ _ _ has (ap (λ v. v.shares) c.lent.ensures.set) c.lent.ensures.none

pub returns-clause-others : goal.returns-clause-others
returns-clause-others c = λ k ne. set_others _ c.args.stripe k _ _ None (ap (λ v. v.shares) c.lent.ensures.set) ne

pub returns-clause-loans : goal.returns-clause-loans
returns-clause-loans c =
    let has : contains c.args.self.now.stripes c.args.stripe ≡ true = grind arith in
    ap (λ l. (c.args.self.now.all.ghost_name, l) ∷ []) (same_outside (contains c.args.self.now.stripes) c.args.stripe _ _ None (ap (λ v. v.shares) c.lent.ensures.set) has)
