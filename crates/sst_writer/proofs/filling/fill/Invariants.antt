use Rattle.std.proofs.Common.{◌≡◌, ◌+◌, ◌≤◌}
use Rattle.std.specs.Prelude.{is_some}
use Rattle.kv_outside.specs.Disk.{Agrees, Touches}
use Rattle.merge_rows.specs.Cursors.{with_held, held_count}
use Rattle.sst_writer.specs.Filling.{IsFilling}
use Rattle.sst_writer.proofs.filling.fill.Given as goal

abbrev pub invariant-loop-draft : goal.invariant-loop-draft
invariant-loop-draft g l = record {
  filling : IsFilling l.limit (with_held l.fn.rows.held (g.C.Upcoming.rows l.fn.rows.cursor)) (with_held l.rows.held (g.C.Upcoming.rows l.rows.cursor)) (g.F.Files.bytes_of l.log) l.draft.written l.draft.waiting.items l.draft.table.end l.draft.table.block l.draft.table.spots.items l.draft.table.sums.rows l.draft.table.sums.keys.items l.draft.table.sums.least l.draft.table.sums.last;
  off : g.C.Upcoming.off l.rows.cursor ≡ g.C.Upcoming.off l.fn.rows.cursor;
  left : g.C.Upcoming.left l.rows.cursor + held_count l.rows.held ≤ g.C.Upcoming.left l.fn.rows.cursor + held_count l.fn.rows.held;
  told : is_some (g.F.Files.bytes_of l.log) ≡ is_some (g.F.Files.bytes_of l.fn.log);
  name : g.F.Files.name_of l.log ≡ g.F.Files.name_of l.fn.log;
  agrees : Agrees (g.F.Files.disk l.fn.files) (g.F.Files.name_of l.fn.log) (g.F.Files.bytes_of l.fn.log) → Agrees (g.F.Files.disk l.files) (g.F.Files.name_of l.fn.log) (g.F.Files.bytes_of l.log);
  touched : Touches (g.F.Files.name_of l.fn.log) (g.F.Files.disk l.fn.files) (g.F.Files.disk l.files) (λ c. Unit {0});
  later : g.F.Files.faults l.fn.files ≤ g.F.Files.faults l.files;
}

abbrev pub decreases-loop-draft : goal.decreases-loop-draft
decreases-loop-draft g l = g.C.Upcoming.left l.rows.cursor + held_count l.rows.held
