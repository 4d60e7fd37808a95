use Rattle.std.proofs.Common.{◌-◌, length}
use Rattle.wal_log.proofs.Walking.{IsRead}
use Rattle.wal_log.proofs.read.read_bytes.Given as goal

abbrev pub invariant-loop-open : goal.invariant-loop-open
invariant-loop-open l = IsRead l.fn.before l.place l.last l.records l.bytes

abbrev pub decreases-loop-open : goal.decreases-loop-open
decreases-loop-open l = length l.bytes - l.place
