use Rattle.std.proofs.Common.{◌≡◌, ◌<◌, length, false, ap, refl, sym, ◌∙◌, arith}
use Rattle.key_locks.specs.Shares.{is_held, spot_of, spot_at, InHand}
use Rattle.key_locks.proofs.Places.{held_there, spot_seen}
use Rattle.key_locks.proofs.own.OwnShares.counted.Goals as goal

pub index-requires : goal.index-requires
index-requires c = omega (arith, held_there c.args.self.now.shares c.args.stripe c.requires, ap length (ap (λ v. v.shares) c.self.view_is), c.from-place.ensures)

pub returns-in-Some : goal.returns-in-Some
returns-in-Some c =
    let lt : c.from-place.result < length c.self.inside.shares.items = omega (arith, held_there c.args.self.now.shares c.args.stripe c.requires, ap length (ap (λ v. v.shares) c.self.view_is), c.from-place.ensures) in
    spot_seen c.args.stripe c.from-place.result c.self.inside.shares.items c.args.self.now.shares c.index.result.now c.index.result.now (ap (λ v. v.shares) c.self.view_is) c.from-place.ensures lt refl c.index.ensures ∙ (ap spot_of c.in-Some.is ∙ ap InHand (sym c.count.ensures))

pub returns-in-None : goal.returns-in-None
returns-in-None c =
    let lt : c.from-place.result < length c.self.inside.shares.items = omega (arith, held_there c.args.self.now.shares c.args.stripe c.requires, ap length (ap (λ v. v.shares) c.self.view_is), c.from-place.ensures) in
    let z : is_held (spot_at c.args.self.now.shares c.args.stripe) ≡ false =
    ap is_held (spot_seen c.args.stripe c.from-place.result c.self.inside.shares.items c.args.self.now.shares c.index.result.now c.index.result.now (ap (λ v. v.shares) c.self.view_is) c.from-place.ensures lt refl c.index.ensures ∙ ap spot_of c.in-None.is) in
    absurd (cc (z, c.requires))
