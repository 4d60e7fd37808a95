-- What an open file of a folder is seen as.
use Rattle.std.specs.Prelude.{◌≡◌, Bool, true, false}
use Rattle.kv_base.specs.declared.name.FileName.{FileName}

pub record OpenFile : Type 0 where
  pub name : FileName
  -- whether something may have been written or cut since the last sync
  pub dirty : Bool
  -- whether the folder was synced since the file was opened
  pub named : Bool
  -- whether a sync of the file has failed
  pub lost : Bool

-- what was written is durable, and so is the name
pub record IsOnDisk (file : OpenFile) : Type 0 where
  pub clean : file.dirty ≡ false
  pub named : file.named ≡ true
