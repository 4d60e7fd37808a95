use Rattle.std.proofs.Common.{◌≡◌, take}
use Rattle.std.specs.Prelude.{All, IfSome, None, filter, zip}
use Rattle.redis_model.specs.Limits.{IsName}
use Rattle.lives_model.specs.Views.{ReadsOnly}
use Rattle.set_operations.specs.Combined.{all_answer, members_of}
use Rattle.set_operations.proofs.kept.kept_rows.Given as goal

-- of the members so far those that count are kept
abbrev pub invariant-loop-row : goal.invariant-loop-row
invariant-loop-row g l = record {
  kept : IfSome (g.V.RawView.told l.fn.view).rows (λ c. l.kept ≡ filter (all_answer c (zip l.keys l.lives) l.shared) (members_of l.first (take l.row-index l.rows)));
  names : All IsName l.kept;
  reads : ReadsOnly (g.V.RawView.told l.fn.view) (g.V.RawView.told l.view) None;
}
