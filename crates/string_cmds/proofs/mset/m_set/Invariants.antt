use Rattle.std.proofs.Common.{◌≡◌, take}
use Rattle.std.specs.Prelude.{IfSome, None, fold, zip}
use Rattle.kv_base.specs.Map.{empty}
use Rattle.lives_model.specs.Views.{ReadsOnly}
use Rattle.lives_model.specs.Plans.{least_above}
use Rattle.plan_base.specs.Ahead.{seen_deadlines}
use Rattle.plan_base.specs.ManyKeys.{with_string}
use Rattle.string_cmds.proofs.mset.m_set.Given as goal

-- the strings of the keys so far are put, and the soonest of their deadlines is found
abbrev pub invariant-loop-at : goal.invariant-loop-at
invariant-loop-at g l = record {
  puts : l.puts ≡ fold (with_string l.moment) empty (take l.at (zip l.keys l.values));
  ahead : IfSome (g.V.RawView.told l.fn.view).rows (λ c. l.soonest ≡ least_above l.moment (seen_deadlines c l.moment (take l.at l.keys)));
  reads : ReadsOnly (g.V.RawView.told l.fn.view) (g.V.RawView.told l.view) None;
}
