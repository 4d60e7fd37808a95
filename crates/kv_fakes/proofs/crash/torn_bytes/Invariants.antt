use Rattle.std.proofs.Common.{◌≡◌, ◌++◌, take, map}
use Rattle.kv_fakes.specs.Crash.{spoilt}
use Rattle.kv_fakes.proofs.crash.torn_bytes.Given as goal

abbrev pub invariant-loop-byte : goal.invariant-loop-byte
invariant-loop-byte l = l.torn.items ≡ l.initial.torn.items ++ map (spoilt l.number) (take l.byte-index l.rest)
