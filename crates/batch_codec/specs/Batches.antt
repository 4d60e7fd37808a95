-- Batches: a put or a delete at each of their raw keys.
use Rattle.std.specs.Prelude.{Bool, List, fold, Option, Some, None}
use Rattle.std.specs.List.{list_all}
use Rattle.kv_base.specs.Map.{Bytes, Map, insert, remove, insert_all}
use Rattle.kv_base.specs.RawKeys.{is_raw_text}
use Rattle.kv_base.specs.MetaValues.{is_value_text}

-- a raw key with the value that is put there, or with None for a delete
abbrev pub BatchEntry : Type 0
BatchEntry = Bytes × Option Bytes

abbrev pub Batch : Type 0
Batch = Map (Option Bytes)

-- raw key and value are on the grammar
abbrev pub is_row : BatchEntry → Bool
is_row (raw, Some value) = is_value_text raw value
is_row (raw, None) = is_raw_text raw

abbrev pub are_rows : List BatchEntry → Bool
are_rows = list_all is_row

abbrev pub written : Map Bytes → Bytes → Option Bytes → Map Bytes
written rows raw None = remove rows raw
written rows raw (Some value) = insert rows raw value

-- the rows after a batch
unfoldable pub after : Map Bytes → Batch → Map Bytes
after rows batch = fold (λ now entry. written now entry.0 entry.1) rows batch.entries

-- two batches in one: a later row of a raw key stands in the place of an earlier one
unfoldable pub joined : Batch → Batch → Batch
joined batch later = insert_all batch later.entries

-- what is new, and else what was there
abbrev pub over : {X : Type 0} → Option X → X → X
over None old = old
over (Some new) old = new
