use Rattle.std.specs.Prelude.{IfSome, None}
use Rattle.lives_model.specs.Views.{ReadsOnly}
use Rattle.life_pages.specs.PageWalks.{IsWalk}
use Rattle.life_pages.proofs.Walks.{pages_left}
use Rattle.life_pages.proofs.pages.read_under.Given as goal

-- the walk goes on over the rows that the view told at the start
abbrev pub invariant-loop-walk : goal.invariant-loop-walk
invariant-loop-walk g l = record {
  walks : IfSome (g.V.RawView.told l.fn.view).rows (λ c. IsWalk c l.prefix l.walk);
  reads : ReadsOnly (g.V.RawView.told l.fn.view) (g.V.RawView.told l.view) None;
}

abbrev pub decreases-loop-walk : goal.decreases-loop-walk
decreases-loop-walk g l = pages_left l.walk
