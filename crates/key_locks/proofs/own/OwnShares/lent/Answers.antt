use Rattle.std.proofs.Common.{ap, ◌∙◌, arith, None}
use Rattle.std.proofs.lemmas.List.{length-set}
use Rattle.key_locks.proofs.Places.{past_none, lent_share, lent_none, own-lent}
use Rattle.key_locks.proofs.own.OwnShares.lent.Goals as goal

pub returns-then-place-len-clause-none : goal.returns-then-place-len-clause-none
returns-then-place-len-clause-none c = past_none c.args.stripe c.from-place.result c.self.inside.shares.items c.args.self.now.shares (ap (λ v. v.shares) c.self.view_is) c.from-place.ensures (omega arith)

pub invariant_of-self : goal.invariant_of-self
invariant_of-self c = rw c.take.ensures.after (length-set c.self.inside.shares.items c.from-place.result None ∙ c.self.invariant.0, own-lent c.self.inside.of.value.table_id 0 c.from-place.result c.self.inside.shares.items c.self.invariant.1)

pub returns-clause-share : goal.returns-clause-share
returns-clause-share c = lent_share _ _ _ _ _ _ _ _ (ap (λ v. v.table) c.self.view_is) (ap (λ v. v.shares) c.self.view_is) c.from-place.ensures (omega arith) c.take.ensures.value c.index_mut.ensures.value c.self.invariant.1

pub returns-clause-none : goal.returns-clause-none
returns-clause-none c = lent_none _ _ _ _ _ _ (ap (λ v. v.shares) c.self.view_is) c.from-place.ensures (omega arith) c.take.ensures.value c.index_mut.ensures.value
