use Rattle.std.proofs.Common.{◌≤◌, ◌<◌}
use Rattle.std.specs.Prelude.{IfSome, IsTrue, None}
use Rattle.lives_model.specs.Views.{ReadsOnly}
use Rattle.zset_pages.specs.Ranks.{rows_between}
use Rattle.zset_pages.specs.RankWalks.{IsRankWalk}
use Rattle.zset_pages.proofs.Walks.{ranks_left}
use Rattle.zset_pages.proofs.walk.walk_ranks.Given as goal

-- the walk goes on over the rows that the view told at the start, while members are wanted
abbrev pub invariant-loop-walk : goal.invariant-loop-walk
invariant-loop-walk g l = record {
  walks : IfSome (g.V.RawView.told l.fn.view).rows (λ c. IsRankWalk c l.key l.range.prefix l.range.until l.skip l.count (rows_between c l.range.prefix l.range.from l.range.until) l.walk);
  wants : IsTrue l.walk.more → 0 < l.walk.left;
  fewer : l.walk.skip ≤ l.skip;
  reads : ReadsOnly (g.V.RawView.told l.fn.view) (g.V.RawView.told l.view) None;
}

abbrev pub decreases-loop-walk : goal.decreases-loop-walk
decreases-loop-walk g l = ranks_left l.walk
