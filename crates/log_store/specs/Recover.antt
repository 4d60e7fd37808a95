-- What a log stands for: the rows that its batches come to, one after the other.
use Rattle.std.specs.Prelude.{ℕ, ◌+◌, List, [], ◌∷◌, Result, Ok, Err}
use Rattle.kv_base.specs.Map.{Bytes, empty}
use Rattle.batch_codec.specs.Batches.{Batch, after}
use Rattle.batch_codec.specs.declared.record.Record.{Record}
use Rattle.wal_log.specs.Segments.{segment_of}
use Rattle.wal_log.specs.declared.segment.Stamp.{Stamp}
use Rattle.lives_model.specs.Rows.{Rows}

-- the rows, the floor, which is the moment of the last batch, and its sequence
pub record Recovered : Type 0 where
  pub rows : Rows
  pub floor : ℕ
  pub sequence : ℕ

abbrev pub nothing : Recovered
nothing = record { rows = empty; floor = 0; sequence = 0 }

-- after a batch of this moment, which has the next sequence
abbrev pub with_batch : Recovered → Batch → ℕ → Recovered
with_batch before b moment = record { rows = after before.rows b; floor = moment; sequence = before.sequence + 1 }

abbrev pub with_record : Recovered → Record → Recovered
with_record before r = record { rows = after before.rows r.batch; floor = r.moment; sequence = r.seq }

abbrev pub with_records : Recovered → List Record → Recovered
with_records before [] = before
with_records before (r ∷ rs) = with_records (with_record before r) rs

-- the first record of all has the sequence 1, and any moment
abbrev pub before_all : Stamp
before_all = record { seq = 0; moment = 0 }

abbrev pub recovered_by : Result (List Record) ℕ → Result Recovered ℕ
recovered_by (Ok records) = Ok (with_records nothing records)
recovered_by (Err place) = Err place

-- what the bytes of the log come to, or the place of the first damage
abbrev pub recovered : Bytes → Result Recovered ℕ
recovered bytes = recovered_by (segment_of before_all bytes)
