-- What an open log stands for: by its own bytes, where it tells them, and on the disk, where that tells. Neither needs the
-- other: several values of `Files` may share a disk that none of them tells, and their logs tell what they hold.
use Rattle.std.specs.Prelude.{ℕ, ◌<◌, ◌≤◌, ◌^◌, Bool, true, false, List, length, Option, IfSome}
use Rattle.kv_base.specs.declared.name.FileName.{FileName}
use Rattle.kv_outside.specs.Disk.{Disk, Agrees, CrashLeaves}
use Rattle.gated_log.specs.Gated.{IsShut, IsTried}

-- What contracts see of an open log.
pub record LogState : Type 0 where
  -- the file's name
  pub name : FileName
  -- its bytes, where they are told
  pub held : Option (List ℕ)
  -- the place of the gate behind the last record
  pub end : ℕ
  -- whether that gate may stand open
  pub unsure : Bool

-- ---- what the log tells of itself

-- It has these records, and behind them a gate that is not open. Where it does not tell its bytes, nothing is said.
abbrev pub Tells : LogState → List (List ℕ) → Type 0
Tells log bodies = IfSome log.held (IsShut log.end bodies)

-- it has these records, and behind them this one whole, whose gate was tried
abbrev pub TellsTried : LogState → List (List ℕ) → List ℕ → Type 0
TellsTried log bodies body = IfSome log.held (IsTried log.end bodies body)

-- after an append that failed: the record does not count, but where its gate was tried it may
abbrev pub TellsLeft : Bool → LogState → List (List ℕ) → List ℕ → Type 0
TellsLeft true log bodies body = TellsTried log bodies body
TellsLeft false log bodies body = Tells log bodies

-- ---- what the disk has of it

-- What the log tells agrees with the disk, and each image that a crash may leave of its file now has P. Where the disk
-- does not tell, nothing is said.
pub record Shows (disk : Disk) (name : FileName) (held : Option (List ℕ)) (P : List ℕ → Type 0) : Type 0 where
  pub agrees : Agrees disk name held
  pub images : CrashLeaves disk name P

-- the log has these records on the disk, and behind them a gate that is not open
abbrev pub Rests : Disk → LogState → List (List ℕ) → Type 0
Rests disk log bodies = Shows disk log.name log.held (IsShut log.end bodies)

-- it has these records there, and behind them this one whole, whose gate was tried
abbrev pub Wavers : Disk → LogState → List (List ℕ) → List ℕ → Type 0
Wavers disk log bodies body = Shows disk log.name log.held (IsTried log.end bodies body)

-- after an append that failed
abbrev pub IsLeft : Bool → Disk → LogState → List (List ℕ) → List ℕ → Type 0
IsLeft true disk log bodies body = Wavers disk log bodies body
IsLeft false disk log bodies body = Rests disk log bodies

-- the gate behind the last record is in the file
pub record HasGate (end : ℕ) (held : Option (List ℕ)) : Type 0 where
  pub small : end ≤ 2 ^ 63
  pub in_range : IfSome held (λ bytes. end < length bytes)
