use Rattle.std.proofs.Common.{◌≡◌, map, take}
use Rattle.zset_pages.specs.Ranks.{scored_of}
use Rattle.zset_changes.specs.ScoreTables.{AllStand}
use Rattle.zset_cmds.specs.Taken.{scored_leaving}
use Rattle.zset_cmds.proofs.take.all_leaving.Given as goal

-- the members so far go, and each of them can have rows
abbrev pub invariant-loop-rank : goal.invariant-loop-rank
invariant-loop-rank l = record {
  scorings : l.scorings.items ≡ map scored_leaving (map scored_of (take l.rank-index l.ranks));
  stand : AllStand l.scorings.items;
}
