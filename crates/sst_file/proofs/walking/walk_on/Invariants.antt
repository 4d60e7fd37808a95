use Rattle.std.proofs.Common.{◌≡◌, ◌≤◌, drop, IfSome}
use Rattle.kv_outside.specs.Disk.{NothingNew}
use Rattle.sst_file.specs.Walking.{AreBlocksAhead, bytes_ahead, rows_unread}
use Rattle.sst_file.proofs.walking.walk_on.Given as goal

-- nothing is left of the block before the next one
abbrev pub invariant-loop-at : goal.invariant-loop-at
invariant-loop-at g l = record {
  next : l.walk.next ≡ l.at;
  ahead : IfSome (g.F.Files.sealed_bytes l.parts.file) (AreBlocksAhead l.walk.rest (drop l.walk.next l.parts.spots.items));
  same : rows_unread l.raw l.walk.rest l.walk.next l.parts.spots.items (g.F.Files.sealed_bytes l.parts.file) ≡ rows_unread l.raw l.fn.walk.rest l.fn.walk.next l.parts.spots.items (g.F.Files.sealed_bytes l.parts.file);
  left : bytes_ahead l.walk.rest l.walk.next l.parts.spots.items ≤ bytes_ahead l.fn.walk.rest l.fn.walk.next l.parts.spots.items;
  disk : NothingNew (g.F.Files.disk l.fn.files) (g.F.Files.disk l.files);
  later : g.F.Files.faults l.fn.files ≤ g.F.Files.faults l.files;
}
