use Rattle.std.proofs.Common.{◌≡◌, take}
use Rattle.std.specs.Prelude.{IfSome, None, zip}
use Rattle.kv_base.specs.Map.{keys}
use Rattle.lives_model.specs.Views.{ReadsOnly}
use Rattle.set_operations.specs.Combined.{gathered}
use Rattle.set_operations.proofs.united.gather.Given as goal

-- the members of the sets so far are gathered
abbrev pub invariant-loop-at : goal.invariant-loop-at
invariant-loop-at g l = record {
  all : IfSome (g.V.RawView.told l.fn.view).rows (λ c. l.all.keys ≡ keys (gathered c (take l.at (zip l.keys l.lives))));
  reads : ReadsOnly (g.V.RawView.told l.fn.view) (g.V.RawView.told l.view) None;
}
