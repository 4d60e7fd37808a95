-- What an opening finds in files: the state, the rows of its tables and the batches of its log; or the first damage.
use Rattle.std.specs.Prelude.{ℕ, ◌++◌, List, flat_map, max, Result, Ok, Err}
use Rattle.kv_base.specs.Map.{Bytes}
use Rattle.kv_base.specs.declared.name.FileName.{FileName}
use Rattle.kv_base.specs.declared.row.Row.{Row}
use Rattle.row_model.specs.Replays.{record_rows}
use Rattle.wal_log.specs.Segments.{last_behind}
use Rattle.wal_log.specs.declared.segment.Stamp.{Stamp}
use Rattle.manifest_set.specs.Slots.{Damage, manifest_state}
use Rattle.edit_codec.specs.declared.state.State.{State}
use Rattle.recovery.specs.Logs.{OpenedLog, batches_in, before_log, log_of}
use Rattle.recovery.specs.Tables.{OpenedTable, tables_of, together}

-- what was found in files
pub record Recovery : Type 0 where
  -- what the manifest says: the levels, the number of the first segment, and the run of the next table
  pub state : State
  -- its tables, in its order, with their rows
  pub tables : List OpenedTable
  -- the batches of its log
  pub log : OpenedLog

-- the stamp of the last batch
abbrev pub last_stamp : Recovery → Stamp
last_stamp found = last_behind (before_log found.state) (batches_in found.log)

-- the last sequence
abbrev pub recovered_last : Recovery → ℕ
recovered_last found = (last_stamp found).seq

-- The floor: the later of the state's and the moment of the last batch. Along a log moments do not fall.
abbrev pub recovered_floor : Recovery → ℕ
recovered_floor found = max found.state.floor (last_stamp found).moment

-- all rows
abbrev pub recovered_rows : Recovery → List Row
recovered_rows found = flat_map (λ table. table.rows) found.tables ++ record_rows (batches_in found.log)

-- ---- step by step

-- what is made of what was found, or the damage before it
abbrev pub then_found : {X Y : Type 0} → Result X Damage → (X → Result Y Damage) → Result Y Damage
then_found (Err damage) next = Err damage
then_found (Ok found) next = next found

abbrev pub with_log : State → List OpenedTable → OpenedLog → Result Recovery Damage
with_log state tables log = Ok (record { state = state; tables = tables; log = log })

abbrev pub behind_tables : (FileName → Bytes) → State → List OpenedTable → Result Recovery Damage
behind_tables files state tables = then_found (log_of files state) (with_log state tables)

abbrev pub behind_each : (FileName → Bytes) → State → List OpenedTable → Result Recovery Damage
behind_each files state tables = then_found (together state.last tables) (behind_tables files state)

-- What is found behind a manifest that says this state: its tables, one by one and then together, and its log.
unfoldable pub recover_from : (FileName → Bytes) → State → Result Recovery Damage
recover_from files state = then_found (tables_of files state.levels) (behind_each files state)

-- What an opening finds in files with these bytes; a file that is not there has no byte. The order is: the slots, each
-- table in the state's order, the tables together, the first segment, the next one. The first damage is answered.
unfoldable pub recover : (FileName → Bytes) → Result Recovery Damage
recover files = then_found (manifest_state files) (recover_from files)
