use Rattle.std.proofs.Common.{◌≡◌, ◌++◌, length}
use Rattle.std.specs.Prelude.{All}
use Rattle.redis_model.specs.Limits.{IsName}
use Rattle.set_operations.proofs.united.in_order.Given as goal

-- the members so far stand in front of those that are left, and are names
abbrev pub invariant-loop-bytes : goal.invariant-loop-bytes
invariant-loop-bytes l = record {
  members : l.members ++ l.all.keys ≡ l.initial.all.keys;
  names : All IsName l.members;
}

abbrev pub decreases-loop-bytes : goal.decreases-loop-bytes
decreases-loop-bytes l = length l.all.keys
