use Rattle.std.proofs.Common.{◌≡◌, drop}
use Rattle.kv_fakes.specs.Crash.{is_settled}
use Rattle.kv_fakes.proofs.crash.is_settled.Given as goal

abbrev pub invariant-loop-at : goal.invariant-loop-at
invariant-loop-at l = is_settled (drop l.at l.changes) l.name ≡ is_settled l.changes l.name
