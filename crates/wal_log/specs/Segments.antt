-- What the bytes of a segment hold, behind a record of this stamp: its records in order, or where the first damage is.
use Rattle.std.specs.Prelude.{ℕ, ◌+◌, nat_le, Bool, if◌then◌else◌, ◌&&◌, ◌==◌, List, [], ◌∷◌, length, Option, Some, None, option_and_then, Result, Ok, Err}
use Rattle.std.specs.Option.{option_map_or}
use Rattle.kv_base.specs.Map.{Bytes}
use Rattle.gated_log.specs.Gated.{records, gated}
use Rattle.batch_codec.specs.Bodies.{read_body}
use Rattle.batch_codec.specs.declared.record.Record.{Record}
use Rattle.wal_log.specs.declared.segment.Stamp.{Stamp}

-- the sequence and the moment of a record
abbrev pub stamp_of : Record → Stamp
stamp_of r = record { seq = r.seq; moment = r.moment }

-- its sequence is one more than that of the record before it, and its moment is not below
abbrev pub is_next_record : Stamp → Record → Bool
is_next_record last next = (next.seq == last.seq + 1) && nat_le last.moment next.moment

-- the record with this body, where it is one's and that record may stand behind the last one
unfoldable pub record_behind : Stamp → Bytes → Option Record
record_behind last body = option_and_then (λ next. if is_next_record last next then Some next else None) (read_body body)

-- a record before what stands behind it, which may be damage
abbrev pub with_first : Record → Result (List Record) ℕ → Result (List Record) ℕ
with_first first (Ok behind) = Ok (first ∷ behind)
with_first first (Err place) = Err place

-- The records with these bodies, where the first gate stands at this place and the record before it has this stamp; or the
-- place of the gate of the first that is damage. A gate and a length take five bytes.
unfoldable pub records_from : ℕ → Stamp → List Bytes → Result (List Record) ℕ
records_from place last [] = Ok []
records_from place last (body ∷ bodies) =
    option_map_or (λ first. with_first first (records_from (place + 5 + length body) (stamp_of first) bodies)) (record_behind last body) (Err place)

-- the records with these bodies, from a file's start on, or the place of the first damage
unfoldable pub records_of : Stamp → List Bytes → Result (List Record) ℕ
records_of before bodies = records_from 0 before bodies

-- the stamp of the last of these records, or of the one before them where there is none
abbrev pub last_behind : Stamp → List Record → Stamp
last_behind last [] = last
last_behind last (next ∷ behind) = last_behind (stamp_of next) behind

-- the records of a segment with these bytes, in their order, or the place of the first damage
unfoldable pub segment_of : Stamp → Bytes → Result (List Record) ℕ
segment_of before bytes = records_of before (records bytes)

-- the place behind the open records of a file with these bytes
unfoldable pub end_of : Bytes → ℕ
end_of bytes = length (gated (records bytes))
