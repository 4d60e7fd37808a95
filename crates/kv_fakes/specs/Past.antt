-- A disk in memory, by the record of the calls that changed it, the oldest first.
use Rattle.std.specs.Prelude.{◌≡◌, ℕ, ◌+◌, Bool, true, false, if◌then◌else◌, nat_le, List, [], ◌∷◌, ◌++◌, length, take, drop, Some}
use Rattle.kv_base.specs.declared.name.FileName.{FileName}
use Rattle.kv_base.specs.Name.{same_name}
use Rattle.kv_outside.specs.Disk.{Disk}
use Rattle.kv_outside.specs.Files.{Torn, Shortened, Purged}
use Rattle.kv_fakes.specs.declared.past.Change.{Change}
use Rattle.kv_fakes.specs.declared.past.ChangeKind.{ChangeKind}
use Rattle.kv_fakes.specs.declared.past.ChangeKind.TheVariants.{Written, Cut, Synced, Gone, Placed}

-- ---- what a file reads as

-- These bytes over what stands at this place, and past the end. A write behind the end leaves the file as it was.
abbrev pub overwritten : ℕ → List ℕ → List ℕ → List ℕ
overwritten at bytes old = if nat_le at (length old) then take at old ++ bytes ++ drop (at + length bytes) old else old

-- what a file holds after a change of it
abbrev pub after_change : ChangeKind → List ℕ → List ℕ
after_change (Written at bytes true) old = overwritten at bytes old
after_change (Written at bytes false) old = old
after_change (Cut len true) old = take len old
after_change (Cut len false) old = old
after_change Synced old = old
after_change Gone old = []
after_change (Placed bytes) old = bytes

-- one for the file that a change is of, the other for each other file
abbrev pub own_or : {X : Type 0} → Bool → X → X → X
own_or true own other = own
own_or false own other = other

-- what a file reads as after these changes
abbrev pub read_after : List Change → FileName → List ℕ → List ℕ
read_after [] name old = old
read_after (change ∷ changes) name old = read_after changes name (own_or (same_name change.name name) (after_change change.kind old) old)

-- the record with one change more
abbrev pub with_change : List Change → FileName → ChangeKind → List Change
with_change changes name kind = changes ++ record { name = name; kind = kind } ∷ []

-- ---- what a crash may leave of it

-- An image after a change of the file, which reads as `now`, from the images before it: what was written or cut may be
-- torn, a purge may not be carried out, and what is durable is as it reads.
abbrev pub ImageAfter : ChangeKind → List ℕ → (List ℕ → Type 0) → List ℕ → Type 0
ImageAfter (Written at bytes done) now Image c = (d : List ℕ) × Image d × Torn at (length bytes) d c
ImageAfter (Cut len done) now Image c = (d : List ℕ) × Image d × Shortened len d c
ImageAfter Synced now Image c = c ≡ now
ImageAfter Gone now Image c = (d : List ℕ) × Image d × Purged d c
ImageAfter (Placed bytes) now Image c = c ≡ bytes

-- the same of any file: the images of others are what they were
abbrev pub ImageIf : Bool → ChangeKind → List ℕ → (List ℕ → Type 0) → List ℕ → Type 0
ImageIf true kind now Image c = ImageAfter kind now Image c
ImageIf false kind now Image c = Image c

-- the images of a file after these changes, where it read as `now` before
abbrev pub images_after : List Change → FileName → List ℕ → (List ℕ → Type 0) → List ℕ → Type 0
images_after [] name now Image c = Image c
images_after (change ∷ changes) name now Image c =
    let same = same_name change.name name in
    images_after changes name (own_or same (after_change change.kind now) now) (ImageIf same change.kind now Image) c

-- at first no file is there, which is as good as each being empty
abbrev pub NotThere : List ℕ → Type 0
NotThere c = c ≡ []

-- the disk: a moment is the number of changes up to it
abbrev pub disk_of : List Change → Disk
disk_of changes = record {
  moment = length changes;
  reads = λ name. Some (read_after changes name []);
  images = λ k name c. images_after (take k changes) name [] NotThere c;
}
