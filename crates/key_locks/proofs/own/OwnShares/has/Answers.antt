use Rattle.std.proofs.Common.{ap, refl, sym, ◌∙◌, arith}
use Rattle.key_locks.specs.Shares.{is_held}
use Rattle.key_locks.proofs.Places.{past_none, spot_seen, some_held}
use Rattle.key_locks.proofs.own.OwnShares.has.Goals as goal

pub returns-then-place-len : goal.returns-then-place-len
returns-then-place-len c = sym (past_none c.args.stripe c.from-place.result c.self.inside.shares.items c.args.self.now.shares (ap (λ v. v.shares) c.self.view_is) c.from-place.ensures (omega arith))

pub returns : goal.returns
returns c = c.is_some.ensures ∙ (some_held c.index.result.now ∙ sym (ap is_held (spot_seen c.args.stripe c.from-place.result c.self.inside.shares.items c.args.self.now.shares c.index.result.now c.index.result.now (ap (λ v. v.shares) c.self.view_is) c.from-place.ensures (omega arith) refl c.index.ensures)))
