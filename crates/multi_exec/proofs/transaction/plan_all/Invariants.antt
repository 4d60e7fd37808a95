use Rattle.std.proofs.Common.{take}
use Rattle.multi_plans.specs.Growing.{IsGrowing}
use Rattle.multi_exec.proofs.transaction.plan_all.Given as goal

abbrev pub invariant-loop-place : goal.invariant-loop-place
invariant-loop-place g l = IsGrowing (g.V.RawView.told l.initial.view) (g.V.RawView.told l.view) l.moment l.base (take l.place l.command-items) l.growing
