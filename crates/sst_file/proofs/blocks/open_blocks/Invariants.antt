use Rattle.std.proofs.Common.{IfSome, ◌≤◌}
use Rattle.kv_outside.specs.Disk.{NothingNew}
use Rattle.sst_file.specs.BlockReads.{AreRead}
use Rattle.sst_file.proofs.blocks.open_blocks.Given as goal

abbrev pub invariant-loop-at : goal.invariant-loop-at
invariant-loop-at g l = record {
  read : IfSome (g.F.Files.sealed_bytes l.opened.file) (AreRead l.spots l.at l.sums.rows l.sums.keys.items l.sums.least l.sums.last);
  disk : NothingNew (g.F.Files.disk l.fn.files) (g.F.Files.disk l.files);
  later : g.F.Files.faults l.fn.files ≤ g.F.Files.faults l.files;
}
