-- What the files of a folder are seen as.
use Rattle.std.specs.Prelude.{ℕ, List}

-- the folder's path, and how often a call has failed
pub record FolderFiles : Type 0 where
  pub folder : List ℕ
  pub faults : ℕ
