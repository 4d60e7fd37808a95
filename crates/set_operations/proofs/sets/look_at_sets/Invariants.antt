use Rattle.std.proofs.Common.{◌≡◌, take, length}
use Rattle.std.specs.Prelude.{All, IfSome, None, map}
use Rattle.lives_model.specs.Views.{ReadsOnly}
use Rattle.life_plans.specs.SetLives.{set_life}
use Rattle.set_operations.specs.Combined.{HasFoundVersion}
use Rattle.set_operations.proofs.sets.look_at_sets.Given as goal

-- the keys so far are looked at
abbrev pub invariant-loop-key : goal.invariant-loop-key
invariant-loop-key g l = record {
  lives : IfSome (g.V.RawView.told l.fn.view).rows (λ c. l.lives ≡ map (set_life c l.moment) (take l.key-index l.keys));
  count : length l.lives ≡ l.key-index;
  versions : All HasFoundVersion l.lives;
  reads : ReadsOnly (g.V.RawView.told l.fn.view) (g.V.RawView.told l.view) None;
}
