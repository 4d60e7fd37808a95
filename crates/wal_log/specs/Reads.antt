-- What the reading of a segment tells.
use Rattle.std.specs.Prelude.{◌≡◌, ℕ, nat_lt, length, Some, Result, Ok, Err}
use Rattle.kv_base.specs.Map.{Bytes}
use Rattle.kv_base.specs.declared.name.FileName.{FileName}
use Rattle.kv_base.specs.declared.fault.StoreFault.{StoreFault}
use Rattle.kv_base.specs.declared.fault.StoreFault.TheVariants.{Failed, Damaged, NoMem}
use Rattle.kv_outside.specs.Disk.{Disk, CrashLeaves}
use Rattle.gated_log.specs.Gated.{records as bodies_in, EndsAt}
use Rattle.wal_log.specs.Segments.{last_behind, segment_of, end_of}
use Rattle.wal_log.specs.declared.segment.Found.{Found}
use Rattle.wal_log.specs.declared.segment.Stamp.{Stamp}

-- what was found in a segment with these bytes, behind a record of this stamp
pub record IsFound (before : Stamp) (found : Found) (bytes : Bytes) : Type 0 where
  -- its records, in their order
  pub records : segment_of before bytes ≡ Ok found.records
  -- the stamp with which the next segment goes on
  pub last : found.last ≡ last_behind before found.records
  -- the place behind the open records, where a log may be resumed
  pub end : found.end ≡ end_of bytes
  pub ends : EndsAt found.end (bodies_in bytes) bytes
  -- whether there is a byte
  pub any : found.any ≡ nat_lt 0 (length bytes)

-- in these bytes of this file the first damage is there
pub record IsDamaged (before : Stamp) (name file : FileName) (place : ℕ) (bytes : Bytes) : Type 0 where
  pub file_is : file ≡ name
  pub place_is : segment_of before bytes ≡ Err place

-- what each answer says of a segment of this name with these bytes
abbrev pub ReadsBytes : Stamp → FileName → Bytes → Result Found StoreFault → Type 0
ReadsBytes before name bytes (Ok found) = IsFound before found bytes
ReadsBytes before name bytes (Err (Damaged file place)) = IsDamaged before name file place bytes
ReadsBytes before name bytes (Err Failed) = ⊥
ReadsBytes before name bytes (Err NoMem) = Unit {0}

-- A file was read, and its bytes have P: those that it reads as, where the disk tells. From then on a crash leaves them.
pub record ReadsFile (name : FileName) (old new : Disk) (P : Bytes → Type 0) : Type 0 where
  pub bytes : Bytes
  pub told : (own : Bytes) → old.reads name ≡ Some own → bytes ≡ own
  pub left : CrashLeaves new name (λ c. c ≡ bytes)
  pub are : P bytes

-- What each answer says of the segment of this name, which stands behind a record of this stamp: what was found in its
-- bytes, or where they are damaged. The other faults say nothing of it.
abbrev pub ReadsSegment : Stamp → FileName → Disk → Disk → Result Found StoreFault → Type 0
ReadsSegment before name old new (Ok found) = ReadsFile name old new (IsFound before found)
ReadsSegment before name old new (Err (Damaged file place)) = ReadsFile name old new (IsDamaged before name file place)
ReadsSegment before name old new (Err Failed) = Unit {0}
ReadsSegment before name old new (Err NoMem) = Unit {0}
