-- The files of a disk in memory as they read: a list, in which the first of a name counts.
use Rattle.std.specs.Prelude.{◌≡◌, ℕ, suc, List, [], ◌∷◌}
use Rattle.kv_base.specs.declared.name.FileName.{FileName}
use Rattle.kv_base.specs.Name.{same_name}
use Rattle.kv_fakes.specs.declared.file.File.{File}
use Rattle.kv_fakes.specs.declared.past.Change.{Change}
use Rattle.kv_fakes.specs.Past.{own_or, read_after}

-- the bytes of the file of this name, and others where it is not there
abbrev pub content : List File → FileName → List ℕ → List ℕ
content [] name default = default
content (file ∷ files) name default = own_or (same_name file.name name) file.bytes.items (content files name default)

-- its place, and the number of files where it is not there
abbrev pub file_place : List File → FileName → ℕ
file_place [] name = 0
file_place (file ∷ files) name = own_or (same_name file.name name) 0 (suc (file_place files name))

-- each file reads as it did
pub record SameContent (old new : List File) : Type 0 where
  pub each : (name : FileName) → content new name [] ≡ content old name []

-- the file of this name reads as the step leads, each other as it did
pub record Rewrites (old new : List File) (name : FileName) (step : List ℕ → List ℕ) : Type 0 where
  pub each : (other : FileName) → content new other [] ≡ own_or (same_name name other) (step (content old other [])) (content old other [])

-- the files are what these changes made of an empty disk
pub record Presents (files : List File) (changes : List Change) : Type 0 where
  pub each : (name : FileName) → content files name [] ≡ read_after changes name []
