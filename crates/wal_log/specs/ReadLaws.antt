-- Laws on what stands in `Reads.antt`.
use Rattle.std.proofs.Common.{subst, sym}
use Rattle.kv_base.specs.declared.name.FileName.{FileName}
use Rattle.kv_outside.specs.Disk.{Disk, CrashLeaves}
use Rattle.gated_log.specs.Gated.{records as bodies_in, EndsAt}
use Rattle.wal_log.specs.declared.segment.Found.{Found}
use Rattle.wal_log.specs.declared.segment.Stamp.{Stamp}
use Rattle.wal_log.specs.Reads.{IsFound, ReadsFile}

-- ---- laws

-- where a segment was found, each crash leaves its bodies and their end, so a log may be resumed behind them
pub found_leaves : (before : Stamp) (name : FileName) (old new : Disk) (found : Found) (read : ReadsFile name old new (IsFound before found)) → CrashLeaves new name (EndsAt found.end (bodies_in read.bytes))
found_leaves before name old new found read = record {
  each = λ c image. subst (EndsAt found.end (bodies_in read.bytes)) (sym (read.left.each c image)) read.are.ends;
}
