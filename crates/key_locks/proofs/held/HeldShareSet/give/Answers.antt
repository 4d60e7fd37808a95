use Rattle.std.proofs.Common.{◌/◌, ◌%◌, [], ◌∷◌, arith, inr, ap, sym, ◌∙◌}
use Rattle.std.specs.Prelude.{slice_set}
use Rattle.key_locks.specs.Shares.{InHand}
use Rattle.key_locks.proofs.Rows.{arm_given, arm_others}
use Rattle.key_locks.proofs.held.HeldShareSet.give.Goals as goal

pub returns-in-0-clause-given : goal.returns-in-0-clause-given
returns-in-0-clause-given g c = arm_given c.args.share.stripe 0 c.args.share.count (c.args.self.now.a ∷ c.args.self.now.b ∷ c.args.self.now.c ∷ c.args.self.now.d ∷ []) c.give.new.self (ap (λ n. n / 4) (sym c.stripe-stripe.ensures.value) ∙ c.in-0.is) (omega arith) c.requires.lent (c.give.ensures ∙ ap (λ n. slice_set c.args.self.now.a (n % 4) (InHand c.args.share.count)) c.stripe-stripe.ensures.value)

pub returns-in-0-clause-others : goal.returns-in-0-clause-others
returns-in-0-clause-others g c = λ k ne. arm_others c.args.share.stripe k 0 (c.args.self.now.a ∷ c.args.self.now.b ∷ c.args.self.now.c ∷ c.args.self.now.d ∷ []) c.give.new.self (ap (λ n. n / 4) (sym c.stripe-stripe.ensures.value) ∙ c.in-0.is) (omega arith) ne (inr (_, c.give.ensures ∙ ap (λ n. slice_set c.args.self.now.a (n % 4) (InHand c.args.share.count)) c.stripe-stripe.ensures.value))

pub returns-in-1-clause-given : goal.returns-in-1-clause-given
returns-in-1-clause-given g c = arm_given c.args.share.stripe 1 c.args.share.count (c.args.self.now.a ∷ c.args.self.now.b ∷ c.args.self.now.c ∷ c.args.self.now.d ∷ []) c.give-in-1.new.self (ap (λ n. n / 4) (sym c.stripe-stripe.ensures.value) ∙ c.in-1.is) (omega arith) c.requires.lent (c.give-in-1.ensures ∙ ap (λ n. slice_set c.args.self.now.b (n % 4) (InHand c.args.share.count)) c.stripe-stripe.ensures.value)

pub returns-in-1-clause-others : goal.returns-in-1-clause-others
returns-in-1-clause-others g c = λ k ne. arm_others c.args.share.stripe k 1 (c.args.self.now.a ∷ c.args.self.now.b ∷ c.args.self.now.c ∷ c.args.self.now.d ∷ []) c.give-in-1.new.self (ap (λ n. n / 4) (sym c.stripe-stripe.ensures.value) ∙ c.in-1.is) (omega arith) ne (inr (_, c.give-in-1.ensures ∙ ap (λ n. slice_set c.args.self.now.b (n % 4) (InHand c.args.share.count)) c.stripe-stripe.ensures.value))

pub returns-in-2-clause-given : goal.returns-in-2-clause-given
returns-in-2-clause-given g c = arm_given c.args.share.stripe 2 c.args.share.count (c.args.self.now.a ∷ c.args.self.now.b ∷ c.args.self.now.c ∷ c.args.self.now.d ∷ []) c.give-in-2.new.self (ap (λ n. n / 4) (sym c.stripe-stripe.ensures.value) ∙ c.in-2.is) (omega arith) c.requires.lent (c.give-in-2.ensures ∙ ap (λ n. slice_set c.args.self.now.c (n % 4) (InHand c.args.share.count)) c.stripe-stripe.ensures.value)

pub returns-in-2-clause-others : goal.returns-in-2-clause-others
returns-in-2-clause-others g c = λ k ne. arm_others c.args.share.stripe k 2 (c.args.self.now.a ∷ c.args.self.now.b ∷ c.args.self.now.c ∷ c.args.self.now.d ∷ []) c.give-in-2.new.self (ap (λ n. n / 4) (sym c.stripe-stripe.ensures.value) ∙ c.in-2.is) (omega arith) ne (inr (_, c.give-in-2.ensures ∙ ap (λ n. slice_set c.args.self.now.c (n % 4) (InHand c.args.share.count)) c.stripe-stripe.ensures.value))

pub returns-in-3-clause-given : goal.returns-in-3-clause-given
returns-in-3-clause-given g c = arm_given c.args.share.stripe 3 c.args.share.count (c.args.self.now.a ∷ c.args.self.now.b ∷ c.args.self.now.c ∷ c.args.self.now.d ∷ []) c.give-in-3.new.self (ap (λ n. n / 4) (sym c.stripe-stripe.ensures.value) ∙ c.in-3.is) (omega arith) c.requires.lent (c.give-in-3.ensures ∙ ap (λ n. slice_set c.args.self.now.d (n % 4) (InHand c.args.share.count)) c.stripe-stripe.ensures.value)

pub returns-in-3-clause-others : goal.returns-in-3-clause-others
returns-in-3-clause-others g c = λ k ne. arm_others c.args.share.stripe k 3 (c.args.self.now.a ∷ c.args.self.now.b ∷ c.args.self.now.c ∷ c.args.self.now.d ∷ []) c.give-in-3.new.self (ap (λ n. n / 4) (sym c.stripe-stripe.ensures.value) ∙ c.in-3.is) (omega arith) ne (inr (_, c.give-in-3.ensures ∙ ap (λ n. slice_set c.args.self.now.d (n % 4) (InHand c.args.share.count)) c.stripe-stripe.ensures.value))
