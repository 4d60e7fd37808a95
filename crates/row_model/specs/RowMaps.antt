-- The map that rows are at a sequence.
use Rattle.std.proofs.Common.{Option}
use Rattle.std.specs.Prelude.{option_and_then}
use Rattle.kv_base.specs.Map.{Bytes}
use Rattle.kv_base.specs.declared.row.Row.{Row}

abbrev pub value_seen : Option Row → Option Bytes
value_seen = option_and_then (λ row. row.value)
