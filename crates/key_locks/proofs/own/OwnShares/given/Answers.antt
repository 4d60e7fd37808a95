use Rattle.std.proofs.Common.{◌≡◌, ◌+◌, refl, ap, sym, ◌∙◌, arith}
use Rattle.std.proofs.lemmas.List.{length-set}
use Rattle.key_locks.proofs.Places.{own-given}
use Rattle.key_locks.proofs.own.OwnShares.given.Goals as goal

pub invariant_of-self : goal.invariant_of-self
invariant_of-self c =
    let at : 0 + c.from-place.result ≡ c.args.share.stripe = omega (arith, c.from-place.ensures, c.stripe.ensures.value) in
    (length-set _ _ _ ∙ c.self.invariant.0, own-given _ 0 c.args.share.stripe c.from-place.result _ c.args.share at (c.requires.tally ∙ sym (ap (λ v. v.table) c.self.view_is)) refl c.self.invariant.1)
