use Rattle.std.proofs.Common.{length, ◌-◌}
use Rattle.gated_log.proofs.Filling.{HasRead}
use Rattle.gated_log.proofs.read.fill.Given as goal

abbrev pub invariant-loop-done : goal.invariant-loop-done
invariant-loop-done g l =
    HasRead l.done l.buffer (g.F.Files.bytes_of l.log) (g.F.Files.disk l.fn.files) (g.F.Files.disk l.files) (g.F.Files.faults l.fn.files) (g.F.Files.faults l.files)

abbrev pub decreases-loop-done : goal.decreases-loop-done
decreases-loop-done g l = length l.buffer - l.done
