use Rattle.std.proofs.Common.{◌≡◌, take, true}
use Rattle.std.specs.Prelude.{IfSome, None, zip}
use Rattle.lives_model.specs.Views.{ReadsOnly}
use Rattle.set_operations.specs.Combined as found
use Rattle.set_operations.proofs.kept.all_answer.Given as goal

-- the sets so far answer so
abbrev pub invariant-loop-at : goal.invariant-loop-at
invariant-loop-at g l = record {
  all : IfSome (g.V.RawView.told l.fn.view).rows (λ c. found.all_answer c (take l.at (zip l.keys l.lives)) l.shared l.member ≡ true);
  reads : ReadsOnly (g.V.RawView.told l.fn.view) (g.V.RawView.told l.view) None;
}
