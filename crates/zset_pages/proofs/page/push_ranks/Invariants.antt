use Rattle.std.proofs.Common.{◌≡◌, ◌++◌, map, take}
use Rattle.lives_model.specs.LiveRowLists.{pairs}
use Rattle.zset_pages.specs.Ranks.{rank_in, scored_of}
use Rattle.zset_pages.proofs.page.push_ranks.Given as goal

-- the members of the rows so far are found
abbrev pub invariant-loop-row : goal.invariant-loop-row
invariant-loop-row l = map scored_of l.found ≡ map scored_of l.initial.found ++ map (rank_in l.key) (pairs (take l.row-index l.rows))
