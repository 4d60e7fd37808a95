-- Which files a recovery reads, and what each of them is where it finds no damage.
use Rattle.std.specs.Prelude.{◌≡◌, ◌⊎◌, nat_lt, false, List, [], ◌∷◌, None, Ok, length, Result}
use Rattle.std.specs.List.{find}
use Rattle.kv_base.specs.Map.{Bytes}
use Rattle.kv_base.specs.declared.name.FileName.{FileName}
use Rattle.kv_base.specs.declared.name.FileName.TheVariants.{SlotA, SlotB, Segment, Table}
use Rattle.kv_outside.specs.Disk.{Disk}
use Rattle.sst_parts.specs.Index.{last_raw}
use Rattle.sst_parts.specs.Tables.{IsTable}
use Rattle.wal_log.specs.Segments.{last_behind, segment_of}
use Rattle.level_set.specs.declared.home.Home.{Home}
use Rattle.manifest_set.specs.Slots.{Damage, IsSlot, manifest_state}
use Rattle.edit_codec.specs.declared.state.State.{State}
use Rattle.recovery.specs.Logs.{OpenedLog, before_log, is_unfounded, next_segment}
use Rattle.recovery.specs.Recover.{Recovery, recover, recover_from}
use Rattle.recovery.specs.Tables.{OpenedTable, first_raw, is_out_of_turn}

-- ---- which files are read

-- two sets of files have the same bytes at each of these tables
abbrev pub AgreeAtTables : (FileName → Bytes) → (FileName → Bytes) → List Home → Type 0
AgreeAtTables files others [] = Unit {0}
AgreeAtTables files others (home ∷ homes) = (files (Table home.desc.id) ≡ others (Table home.desc.id)) × AgreeAtTables files others homes

-- and at the segments of a state; where there is no next one, nothing is said of it
pub record AgreeBehind (state : State) (files others : FileName → Bytes) : Type 0 where
  pub tables : AgreeAtTables files others state.levels
  pub log : files (Segment state.log) ≡ others (Segment state.log)
  pub next : next_segment files state.log ≡ next_segment others state.log

-- and at the slots
pub record AgreeAt (state : State) (files others : FileName → Bytes) : Type 0 where
  pub first : files SlotA ≡ others SlotA
  pub second : files SlotB ≡ others SlotB
  pub behind : AgreeBehind state files others

-- ---- what they are

-- the bytes are a table of these rows, as the manifest records it
pub record IsTableOf (bytes : Bytes) (table : OpenedTable) : Type 0 where
  pub table_is : IsTable bytes table.rows
  pub size : length bytes ≡ table.home.desc.bytes
  pub count : length table.rows ≡ table.home.desc.rows
  pub least : first_raw table.rows ≡ table.home.desc.least
  pub greatest : last_raw [] table.rows ≡ table.home.desc.greatest

-- these tables, in the state's order, each of which is in its file
abbrev pub AreTablesOf : (FileName → Bytes) → List Home → List OpenedTable → Type 0
AreTablesOf files [] [] = Unit {0}
AreTablesOf files (home ∷ homes) (table ∷ tables) = (table.home ≡ home) × IsTableOf (files (Table home.desc.id)) table × AreTablesOf files homes tables
AreTablesOf files _ _ = ⊥

-- both segments have these batches, the second behind the first, and where the first has none the second has no byte
pub record IsLogOf (files : FileName → Bytes) (state : State) (log : OpenedLog) : Type 0 where
  pub first : segment_of (before_log state) (files (Segment state.log)) ≡ Ok log.first
  pub second : segment_of (last_behind (before_log state) log.first) (next_segment files state.log) ≡ Ok log.second
  pub founded : is_unfounded log.first (next_segment files state.log) ≡ false
  pub goes_on : log.goes_on ≡ nat_lt 0 (length (next_segment files state.log))

-- the slots say the state, each of its tables is there with its rows, none is out of turn, and the log goes on behind them
pub record AreFilesOf (files : FileName → Bytes) (found : Recovery) : Type 0 where
  pub state : manifest_state files ≡ Ok found.state
  pub tables : AreTablesOf files found.state.levels found.tables
  pub turns : find (is_out_of_turn found.state.last found.tables) found.tables ≡ None
  pub log : IsLogOf files found.state found.log

-- ---- a crash

-- an image of each file but the slots
abbrev pub AreOtherImages : Disk → (FileName → Bytes) → Type 0
AreOtherImages disk image = (name : FileName) → (IsSlot name → ⊥) → disk.images disk.moment name (image name)

-- behind a manifest that says this state, whatever a crash leaves now of the other files, what is found has P
abbrev pub LeavesFound : Disk → State → (Result Recovery Damage → Type 0) → Type 0
LeavesFound disk state P = (image : FileName → Bytes) → AreOtherImages disk image → P (recover_from image state)

-- what is found has the one or the other
abbrev pub FindsEither : (Result Recovery Damage → Type 0) → (Result Recovery Damage → Type 0) → (FileName → Bytes) → Type 0
FindsEither P Q files = P (recover files) ⊎ Q (recover files)
