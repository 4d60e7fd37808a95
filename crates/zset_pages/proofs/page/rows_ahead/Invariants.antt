use Rattle.std.proofs.Common.{◌≡◌, ◌≤◌, length, ◌-◌, ◌+◌}
use Rattle.zset_pages.proofs.Pages.{ahead_from}
use Rattle.zset_pages.proofs.page.rows_ahead.Given as goal

-- the rows so far stand ahead of the edge
abbrev pub invariant-loop-ahead : goal.invariant-loop-ahead
invariant-loop-ahead l = record {
  within : l.ahead ≤ length l.rows;
  ahead : l.ahead + ahead_from l.until l.rows l.ahead ≡ ahead_from l.until l.rows 0;
}

abbrev pub decreases-loop-ahead : goal.decreases-loop-ahead
decreases-loop-ahead l = length l.rows - l.ahead
