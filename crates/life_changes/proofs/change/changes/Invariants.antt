use Rattle.std.proofs.Common.{◌+◌, ◌≤◌, take}
use Rattle.std.specs.Prelude.{IfSome, None}
use Rattle.lives_model.specs.Views.{ReadsOnly}
use Rattle.life_changes.specs.ChangeSteps.{AreTaken}
use Rattle.life_changes.proofs.change.changes.Given as goal

-- the entries so far are taken in, and each counts once at most
abbrev pub invariant-loop-at : goal.invariant-loop-at
invariant-loop-at g l = record {
  taken : IfSome (g.V.RawView.told l.fn.view).rows (λ c. AreTaken c (take l.at l.wanted.entries) l.changing);
  few : l.changing.added + l.changing.removed ≤ l.at;
  reads : ReadsOnly (g.V.RawView.told l.fn.view) (g.V.RawView.told l.view) None;
}
