-- Laws on what stands in `Disk.antt`.
use Rattle.std.specs.Prelude.{◌≡◌, ℕ, List, Some}
use Rattle.kv_base.specs.declared.name.FileName.{FileName}
use Rattle.kv_outside.specs.Disk.{untold}

-- ---- a disk that tells nothing

pub untold_law : (name : FileName) (bytes : List ℕ) → untold.reads name ≡ Some bytes → untold.images untold.moment name bytes
untold_law name bytes is = absurd (cc)
