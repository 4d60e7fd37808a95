-- What is known of the first commands of a transaction, while one after the other is planned.
use Rattle.std.specs.Prelude.{◌≡◌, ℕ, ◌∷◌, [], ◌++◌, List, length, IfSome, None}
use Rattle.batch_codec.specs.Batches.{after, joined}
use Rattle.redis_model.specs.declared.reply.Reply.TheVariants as reply
use Rattle.redis_model.specs.declared.command.Command.{Command}
use Rattle.lives_model.specs.declared.plan.Plan.{Plan}
use Rattle.lives_model.specs.Views.{ViewState, ReadsOnly}
use Rattle.lives_model.specs.Plans.{IsPlan, least, version}
use Rattle.plan_laws.specs.Transactions.{IsBegun}
use Rattle.multi_plans.specs.declared.growing.GrowingPlan.{GrowingPlan}

-- The view has only been read since `old`, and on the rows that it had there these commands are planned.
pub record IsGrowing (old now : ViewState) (t base : ℕ) (ds : List Command) (growing : GrowingPlan) : Type 0 where
  pub reads : ReadsOnly old now None
  pub begun : IfSome old.rows (λ c. IsBegun c t base ds growing.batch growing.replies growing.until)

-- this is the plan of the next command, on the rows after the batches of those before it
abbrev pub IsNextPlan : ViewState → ℕ → ℕ → List Command → GrowingPlan → Command → Plan → Type 0
IsNextPlan now t base ds growing d plan =
    IfSome now.rows (λ c. IsPlan (after c growing.batch) t (version base (length ds)) d plan.batch plan.reply plan.until)

-- one plan more
pub record Grows (growing : GrowingPlan) (plan : Plan) (grown : GrowingPlan) : Type 0 where
  pub batch : grown.batch ≡ joined growing.batch plan.batch
  pub replies : grown.replies ≡ growing.replies ++ plan.reply ∷ []
  pub until : grown.until ≡ least growing.until plan.until

-- the plan of all of them
pub record IsPlanOfAll (growing : GrowingPlan) (plan : Plan) : Type 0 where
  pub batch : plan.batch ≡ growing.batch
  pub reply : plan.reply ≡ reply.Array growing.replies
  pub until : plan.until ≡ growing.until
