use Rattle.std.proofs.Common.{◌%◌, [], ◌∷◌, arith}
use Rattle.key_locks.proofs.Rows.{arm_share, arm_others, changed}
use Rattle.key_locks.proofs.held.HeldShareSet.lend.Goals as goal

pub returns-in-0-clause-share : goal.returns-in-0-clause-share
returns-in-0-clause-share g c = arm_share g.N.NamesTally.tally c.args.stripe 0 (c.args.self.now.a ∷ c.args.self.now.b ∷ c.args.self.now.c ∷ c.args.self.now.d ∷ []) c.lend.new.self c.lend.result c.in-0.is (omega arith) c.lend.ensures.share

pub returns-in-0-clause-others : goal.returns-in-0-clause-others
returns-in-0-clause-others g c = λ k ne. arm_others c.args.stripe k 0 (c.args.self.now.a ∷ c.args.self.now.b ∷ c.args.self.now.c ∷ c.args.self.now.d ∷ []) c.lend.new.self c.in-0.is (omega arith) ne (changed g.N.NamesTally.tally _ (c.args.stripe % 4) c.args.self.now.a c.lend.new.self c.lend.result c.lend.ensures.share c.lend.ensures.none)

pub returns-in-1-clause-share : goal.returns-in-1-clause-share
returns-in-1-clause-share g c = arm_share g.N.NamesTally.tally c.args.stripe 1 (c.args.self.now.a ∷ c.args.self.now.b ∷ c.args.self.now.c ∷ c.args.self.now.d ∷ []) c.lend-in-1.new.self c.lend-in-1.result c.in-1.is (omega arith) c.lend-in-1.ensures.share

pub returns-in-1-clause-others : goal.returns-in-1-clause-others
returns-in-1-clause-others g c = λ k ne. arm_others c.args.stripe k 1 (c.args.self.now.a ∷ c.args.self.now.b ∷ c.args.self.now.c ∷ c.args.self.now.d ∷ []) c.lend-in-1.new.self c.in-1.is (omega arith) ne (changed g.N.NamesTally.tally _ (c.args.stripe % 4) c.args.self.now.b c.lend-in-1.new.self c.lend-in-1.result c.lend-in-1.ensures.share c.lend-in-1.ensures.none)

pub returns-in-2-clause-share : goal.returns-in-2-clause-share
returns-in-2-clause-share g c = arm_share g.N.NamesTally.tally c.args.stripe 2 (c.args.self.now.a ∷ c.args.self.now.b ∷ c.args.self.now.c ∷ c.args.self.now.d ∷ []) c.lend-in-2.new.self c.lend-in-2.result c.in-2.is (omega arith) c.lend-in-2.ensures.share

pub returns-in-2-clause-others : goal.returns-in-2-clause-others
returns-in-2-clause-others g c = λ k ne. arm_others c.args.stripe k 2 (c.args.self.now.a ∷ c.args.self.now.b ∷ c.args.self.now.c ∷ c.args.self.now.d ∷ []) c.lend-in-2.new.self c.in-2.is (omega arith) ne (changed g.N.NamesTally.tally _ (c.args.stripe % 4) c.args.self.now.c c.lend-in-2.new.self c.lend-in-2.result c.lend-in-2.ensures.share c.lend-in-2.ensures.none)

pub returns-in-3-clause-share : goal.returns-in-3-clause-share
returns-in-3-clause-share g c = arm_share g.N.NamesTally.tally c.args.stripe 3 (c.args.self.now.a ∷ c.args.self.now.b ∷ c.args.self.now.c ∷ c.args.self.now.d ∷ []) c.lend-in-3.new.self c.lend-in-3.result c.in-3.is (omega arith) c.lend-in-3.ensures.share

pub returns-in-3-clause-others : goal.returns-in-3-clause-others
returns-in-3-clause-others g c = λ k ne. arm_others c.args.stripe k 3 (c.args.self.now.a ∷ c.args.self.now.b ∷ c.args.self.now.c ∷ c.args.self.now.d ∷ []) c.lend-in-3.new.self c.in-3.is (omega arith) ne (changed g.N.NamesTally.tally _ (c.args.stripe % 4) c.args.self.now.d c.lend-in-3.new.self c.lend-in-3.result c.lend-in-3.ensures.share c.lend-in-3.ensures.none)
