-- A write that is followed by a sync, as one step.
use Rattle.std.specs.Prelude.{ℕ, List, Option, length}
use Rattle.kv_base.specs.declared.name.FileName.{FileName}
use Rattle.kv_outside.specs.Disk.{Disk, Agrees, IsDurable, Changes}
use Rattle.kv_outside.specs.Files.{Goes, HasWritten, Torn}

-- these bytes were tried at this place: any of them may be written, and nothing else changed
pub record TriesAt (at : ℕ) (bytes : List ℕ) (name : FileName) (old new : Disk) (held now : Option (List ℕ)) : Type 0 where
  pub torn : Goes (Torn at (length bytes)) held now
  pub agrees : Agrees old name held → Agrees new name now
  pub disk : Changes name (Torn at (length bytes)) old new

-- they stand there, and a crash leaves them
pub record Stores (at : ℕ) (bytes : List ℕ) (name : FileName) (old new : Disk) (held now : Option (List ℕ)) : Type 0 where
  pub written : Goes (HasWritten at bytes) held now
  pub durable : Agrees old name held → IsDurable new name now
