-- What the log of a state is found to be in files: the batches of its two segments, or the first damage.
use Rattle.std.specs.Prelude.{ℕ, ◌+◌, ◌-◌, ◌^◌, nat_lt, nat_le, Bool, if◌then◌else◌, ◌&&◌, List, [], ◌++◌, length, Result, Ok, Err}
use Rattle.kv_base.specs.Map.{Bytes}
use Rattle.kv_base.specs.declared.name.FileName.{FileName}
use Rattle.kv_base.specs.declared.name.FileName.TheVariants.{Segment}
use Rattle.batch_codec.specs.declared.record.Record.{Record}
use Rattle.wal_log.specs.Segments.{last_behind, segment_of}
use Rattle.wal_log.specs.declared.segment.Stamp.{Stamp}
use Rattle.sst_grammar.specs.Judging.{has_none}
use Rattle.manifest_set.specs.Slots.{Damage}
use Rattle.edit_codec.specs.declared.state.State.{State}
use Rattle.recovery.specs.Tables.{place_off}

-- ---- the two segments

abbrev pub last_log : ℕ
last_log = 2 ^ 62 - 1

-- The bytes of the segment behind that of this number. There is none behind the last number, which counts as no byte.
abbrev pub next_segment : (FileName → Bytes) → ℕ → Bytes
next_segment files number = if nat_le last_log number then [] else files (Segment (number + 1))

-- the log goes on behind the last sequence of the tables, and the first batch may be of any moment
abbrev pub before_log : State → Stamp
before_log state = record { seq = state.last; moment = 0 }

-- the batches of both segments
pub record OpenedLog : Type 0 where
  pub first : List Record
  pub second : List Record
  -- whether the second segment has any byte: new batches are written there then, and else to the first
  pub goes_on : Bool

-- the batches in their order
abbrev pub batches_in : OpenedLog → List Record
batches_in log = log.first ++ log.second

-- ---- what they are found to be

-- a segment has bytes, and the one before it no batch
abbrev pub is_unfounded : List Record → Bytes → Bool
is_unfounded first bytes = has_none first && nat_lt 0 (length bytes)

abbrev pub with_second : ℕ → List Record → Bool → Result (List Record) ℕ → Result OpenedLog Damage
with_second number first goes_on (Err place) = Err (place_off (Segment number) place)
with_second number first goes_on (Ok second) = Ok (record { first = first; second = second; goes_on = goes_on })

-- what the second segment is found to be behind the batches of the first
abbrev pub and_second : Stamp → ℕ → List Record → Bytes → Result OpenedLog Damage
and_second before number first bytes =
    if is_unfounded first bytes then Err (place_off (Segment number) 0)
    else with_second number first (nat_lt 0 (length bytes)) (segment_of (last_behind before first) bytes)

abbrev pub with_first_segment : Stamp → ℕ → Bytes → Result (List Record) ℕ → Result OpenedLog Damage
with_first_segment before number next (Err place) = Err (place_off (Segment number) place)
with_first_segment before number next (Ok first) = and_second before (number + 1) first next

-- The batches of the segment that the state names, and behind them those of the next one; or the first damage. A second
-- segment that has a byte where the first has no batch is damage at 0.
unfoldable pub log_of : (FileName → Bytes) → State → Result OpenedLog Damage
log_of files state = with_first_segment (before_log state) state.log (next_segment files state.log) (segment_of (before_log state) (files (Segment state.log)))
