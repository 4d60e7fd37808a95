-- Laws on what stands in `Growing.antt`: no command is planned, one more is, and all are.
use Rattle.std.proofs.Common.{◌≡◌, ℕ, ◌+◌, ◌<◌, ◌≤◌, List, [], ◌∷◌, ◌++◌, length, take, get_or, length-take, sym, ap, subst, ◌∙◌, arith}
use Rattle.std.proofs.lemmas.List.{take_more, take_all}
use Rattle.std.specs.Prelude.{Option, Some, None, IfSome}
use Rattle.kv_base.specs.Map.{empty}
use Rattle.batch_codec.specs.Batches.{after}
use Rattle.redis_model.specs.declared.reply.Reply.TheVariants as reply
use Rattle.redis_model.specs.declared.command.Command.{Command}
use Rattle.redis_model.specs.declared.command.Cmds.TheVariants.{Many}
use Rattle.lives_model.specs.declared.plan.Plan.{Plan}
use Rattle.lives_model.specs.Rows.{Rows}
use Rattle.lives_model.specs.Views.{ViewState, ReadsOnly}
use Rattle.lives_model.specs.ViewLaws.{reads_nothing, reads_then}
use Rattle.lives_model.specs.Plans.{IsPlan, IsPlanned, AreAsked, version}
use Rattle.plan_laws.specs.Transactions.{IsBegun}
use Rattle.plan_laws.specs.TransactionLaws.{begun_none, begun_then, begun_is_planned}
use Rattle.multi_plans.specs.declared.growing.GrowingPlan.{GrowingPlan}
use Rattle.multi_plans.specs.Growing.{IsGrowing, IsNextPlan, Grows, IsPlanOfAll}

-- no command is planned
pub growing_none : (s : ViewState) (t base : ℕ) (growing : GrowingPlan) → growing.batch ≡ empty → growing.replies ≡ [] → growing.until ≡ None → IsGrowing s s t base [] growing
growing_none s t base growing batch replies until = record { reads = reads_nothing s; begun = at_rows s.rows }
  where
    at_rows : (rows : Option Rows) → IfSome rows (λ c. IsBegun c t base [] growing.batch growing.replies growing.until)
    at_rows None = tt
    at_rows (Some c) = subst (λ (g : GrowingPlan). IsBegun c t base [] g.batch g.replies g.until) (λ i. record { batch = sym batch i; replies = sym replies i; until = sym until i }) (begun_none c t base)

-- one command more
pub growing_next : (old now new : ViewState) (t base : ℕ) (ds : List Command) (d : Command) (growing grown : GrowingPlan) (plan : Plan)
    → IsGrowing old now t base ds growing → ReadsOnly now new None → IsNextPlan now t base ds growing d plan → Grows growing plan grown → IsGrowing old new t base (ds ++ d ∷ []) grown
growing_next old now new t base ds d growing grown plan is reads next grows = record {
  reads = reads_then old now new None is.reads reads;
  begun = at_rows old.rows is.begun (subst (λ (rows : Option Rows). IfSome rows (λ c. IsPlan (after c growing.batch) t (version base (length ds)) d plan.batch plan.reply plan.until)) is.reads.rows next);
}
  where
    at_rows : (rows : Option Rows) → IfSome rows (λ c. IsBegun c t base ds growing.batch growing.replies growing.until)
        → IfSome rows (λ c. IsPlan (after c growing.batch) t (version base (length ds)) d plan.batch plan.reply plan.until)
        → IfSome rows (λ c. IsBegun c t base (ds ++ d ∷ []) grown.batch grown.replies grown.until)
    at_rows None begun planned = tt
    at_rows (Some c) begun planned =
        subst (λ (g : GrowingPlan). IsBegun c t base (ds ++ d ∷ []) g.batch g.replies g.until) (λ i. record { batch = sym grows.batch i; replies = sym grows.replies i; until = sym grows.until i })
        (begun_then c t base ds growing.batch growing.replies growing.until d plan.batch plan.reply plan.until begun planned)

-- which is the one at the next place
pub growing_at : (old now new : ViewState) (t base i v : ℕ) (items : List Command) (d : Command) (growing grown : GrowingPlan) (plan : Plan)
    → i < length items → d ≡ get_or items i d → v ≡ version base i → IsGrowing old now t base (take i items) growing → ReadsOnly now new None
    → IfSome now.rows (λ c. IsPlan (after c growing.batch) t v d plan.batch plan.reply plan.until) → Grows growing plan grown → IsGrowing old new t base (take (i + 1) items) grown
growing_at old now new t base i v items d growing grown plan low here is growing_is reads next grows =
    let more : take (i + 1) items ≡ take i items ++ d ∷ [] = take_more items i d low ∙ ap (λ (e : Command). take i items ++ e ∷ []) (sym here) in
    let counted = length-take i items in
    let place : length (take i items) ≡ i = omega arith in
    subst (λ (ds : List Command). IsGrowing old new t base ds grown) (sym more)
    (growing_next old now new t base (take i items) d growing grown plan growing_is reads
    (subst (λ (n : ℕ). IfSome now.rows (λ c. IsPlan (after c growing.batch) t n d plan.batch plan.reply plan.until)) (is ∙ ap (version base) (sym place)) next) grows)

-- all of them
pub growing_all : (old now : ViewState) (t base : ℕ) (ds : List Command) (growing : GrowingPlan) → AreAsked (Many ds) → IsGrowing old now t base ds growing
    → IfSome old.rows (λ c. IsPlanned c t base (Many ds) growing.batch (reply.Array growing.replies) growing.until)
growing_all old now t base ds growing asked is = at_rows old.rows is.begun
  where
    at_rows : (rows : Option Rows) → IfSome rows (λ c. IsBegun c t base ds growing.batch growing.replies growing.until)
        → IfSome rows (λ c. IsPlanned c t base (Many ds) growing.batch (reply.Array growing.replies) growing.until)
    at_rows None begun = tt
    at_rows (Some c) begun = begun_is_planned c t base ds growing.batch growing.replies growing.until asked begun

-- which are those of a list of which the last one is planned
pub growing_whole : (old now : ViewState) (t base i : ℕ) (items ds : List Command) (growing : GrowingPlan) (plan : Plan) → AreAsked (Many ds) → items ≡ ds → length items ≤ i
    → IsGrowing old now t base (take i items) growing → IsPlanOfAll growing plan → IfSome old.rows (λ c. IsPlanned c t base (Many ds) plan.batch plan.reply plan.until)
growing_whole old now t base i items ds growing plan asked same high is whole =
    let planned = growing_all old now t base ds growing asked (subst (λ (es : List Command). IsGrowing old now t base es growing) (take_all i items high ∙ same) is) in
    subst (λ (p : Plan). IfSome old.rows (λ c. IsPlanned c t base (Many ds) p.batch p.reply p.until)) (λ j. record { reply = sym whole.reply j; batch = sym whole.batch j; until = sym whole.until j }) planned
