use Rattle.std.proofs.Common.{drop, IfSome, ◌≤◌}
use Rattle.kv_outside.specs.Disk.{NothingNew}
use Rattle.sst_file.specs.Searching.{AreBlocksLeft}
use Rattle.sst_file.proofs.searching.find_from.Given as goal

-- what is sought is in the blocks that are left
abbrev pub invariant-loop-at : goal.invariant-loop-at
invariant-loop-at g l = record {
  left : IfSome (g.F.Files.sealed_bytes l.parts.file) (AreBlocksLeft l.raw l.seq (drop l.at l.parts.spots.items));
  disk : NothingNew (g.F.Files.disk l.fn.files) (g.F.Files.disk l.files);
  later : g.F.Files.faults l.fn.files ≤ g.F.Files.faults l.files;
}
