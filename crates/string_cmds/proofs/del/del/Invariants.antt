use Rattle.std.proofs.Common.{◌≡◌, ◌≤◌, take}
use Rattle.kv_base.specs.Map.{size}
use Rattle.std.specs.Prelude.{IfSome, None}
use Rattle.lives_model.specs.Views.{ReadsOnly}
use Rattle.lives_model.specs.Plans.{least_above}
use Rattle.plan_base.specs.Ahead.{seen_deadlines}
use Rattle.plan_base.specs.ManyKeys.{deletes_batch}
use Rattle.string_cmds.proofs.del.del.Given as goal

-- the keys so far go, and the soonest of their deadlines is found
abbrev pub invariant-loop-key : goal.invariant-loop-key
invariant-loop-key g l = record {
  gone : IfSome (g.V.RawView.told l.fn.view).rows (λ c. l.deletes ≡ deletes_batch c l.moment (take l.key-index l.keys));
  few : size l.deletes ≤ l.key-index;
  ahead : IfSome (g.V.RawView.told l.fn.view).rows (λ c. l.soonest ≡ least_above l.moment (seen_deadlines c l.moment (take l.key-index l.keys)));
  reads : ReadsOnly (g.V.RawView.told l.fn.view) (g.V.RawView.told l.view) None;
}
