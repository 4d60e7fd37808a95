-- What a value of `Files` tells of its disk: what a file reads as, and what a crash may leave of it at each moment.
use Rattle.std.specs.Prelude.{◌≡◌, ◌≢◌, ℕ, ◌<◌, ◌≤◌, List, Option, Some, None}
use Rattle.kv_base.specs.declared.name.FileName.{FileName}

-- A disk as it is now, and what it was at each earlier moment. Moments are numbered by the calls that change a file or
-- make it durable. A disk that does not tell reads `None` and has no image.
pub record Disk : Type 1 where
  -- the number of this moment
  pub moment : ℕ
  -- what a file that is opened now gives
  pub reads : FileName → Option (List ℕ)
  -- what a crash at that moment may leave of that file
  pub images : ℕ → FileName → List ℕ → Type 0

-- an image of the whole disk at a moment: one image of each file, in any combination
abbrev pub IsImage : Disk → ℕ → (FileName → List ℕ) → Type 0
IsImage disk k image = (name : FileName) → disk.images k name (image name)

-- ---- one file, now

-- where the disk tells what a file that is opened now gives, the log holds that
pub record Agrees (disk : Disk) (name : FileName) (held : Option (List ℕ)) : Type 0 where
  pub told : (bytes : List ℕ) → disk.reads name ≡ Some bytes → held ≡ Some bytes

-- each image that a crash may leave of this file now has P
pub record CrashLeaves (disk : Disk) (name : FileName) (P : List ℕ → Type 0) : Type 0 where
  pub each : (c : List ℕ) → disk.images disk.moment name c → P c

-- a crash now leaves what the log holds
pub record IsDurable (disk : Disk) (name : FileName) (held : Option (List ℕ)) : Type 0 where
  pub only : (c : List ℕ) → disk.images disk.moment name c → held ≡ Some c

-- ---- from one moment to a later one

-- The disk went on: moments do not fall, and what a crash could leave at an earlier moment stays what it was.
pub record GoesOn (old new : Disk) : Type 0 where
  pub later : old.moment ≤ new.moment
  pub past : (k : ℕ) (name : FileName) (c : List ℕ) → k ≤ old.moment → new.images k name c → old.images k name c
  pub kept : (k : ℕ) (name : FileName) (c : List ℕ) → k ≤ old.moment → old.images k name c → new.images k name c

-- One call that changes no file. A crash leaves nothing that it could not have left before.
pub record NothingNew (old new : Disk) : Type 0 where
  pub goes_on : GoesOn old new
  pub since : (k : ℕ) (name : FileName) (c : List ℕ) → old.moment < k → k ≤ new.moment → new.images k name c → old.images old.moment name c
  pub reads : (name : FileName) → new.reads name ≡ old.reads name

-- One call that changes the file of this name by a step. Each of its new images is one step from an old one; every
-- other file is as it was.
pub record Changes (at : FileName) (step : List ℕ → List ℕ → Type 0) (old new : Disk) : Type 0 where
  pub goes_on : GoesOn old new
  pub own : (k : ℕ) (c : List ℕ) → old.moment < k → k ≤ new.moment → new.images k at c → (d : List ℕ) × old.images old.moment at d × step d c
  pub others : (k : ℕ) (name : FileName) (c : List ℕ) → name ≢ at → old.moment < k → k ≤ new.moment → new.images k name c → old.images old.moment name c
  pub reads : (name : FileName) → name ≢ at → new.reads name ≡ old.reads name

-- A run of calls that changes the file of this name alone. At each of its moments, the first and the last among
-- them, each image of that file has P, and every other file is as it may have been at the first moment.
pub record Touches (at : FileName) (old new : Disk) (P : List ℕ → Type 0) : Type 0 where
  pub goes_on : GoesOn old new
  pub own : (k : ℕ) (c : List ℕ) → old.moment ≤ k → k ≤ new.moment → new.images k at c → P c
  pub others : (k : ℕ) (name : FileName) (c : List ℕ) → name ≢ at → old.moment ≤ k → k ≤ new.moment → new.images k name c → old.images old.moment name c
  pub reads : (name : FileName) → name ≢ at → new.reads name ≡ old.reads name

-- A run of calls, on any files. At each of its moments, the first and the last among them, each image of the whole
-- disk has P.
pub record Always (old new : Disk) (P : (FileName → List ℕ) → Type 0) : Type 0 where
  pub goes_on : GoesOn old new
  pub each : (k : ℕ) (image : FileName → List ℕ) → old.moment ≤ k → k ≤ new.moment → IsImage new k image → P image

-- ---- a disk that tells nothing

abbrev pub untold : Disk
untold = record { moment = 0; reads = λ name. None; images = λ k name c. ⊥ }
