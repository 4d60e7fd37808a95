use Rattle.plan_base.specs.PlannedLaws.{planned}
use Rattle.list_moves.specs.MovePlanLaws.{r_pop_l_push_carries, l_move_carries}
use Rattle.list_moves.proofs.plan.plan_move.Goals as goal

pub returns-in-RPopLPush-clause-plan : goal.returns-in-RPopLPush-clause-plan
returns-in-RPopLPush-clause-plan g c = planned _ _ _ c.args.moment c.args.version _ _ c.in-RPopLPush.is c.requires.within c.move_item.ensures.plan (λ within rows. r_pop_l_push_carries rows c.args.moment c.args.version _ _ _ within)

pub returns-in-LMove-clause-plan : goal.returns-in-LMove-clause-plan
returns-in-LMove-clause-plan g c = planned _ _ _ c.args.moment c.args.version _ _ c.in-LMove.is c.requires.within c.move_item-in-LMove.ensures.plan (λ within rows. l_move_carries rows c.args.moment c.args.version _ _ _ _ _ within)
