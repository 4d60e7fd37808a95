-- The version that stands in the raw key of a row, and that it was issued by the row's sequence.
use Rattle.std.specs.Prelude.{◌≡◌, ℕ, ◌<◌, IsTrue}
use Rattle.kv_base.specs.Map.{Bytes}
use Rattle.kv_base.specs.RawKeys.{is_key, is_version}
use Rattle.kv_base.specs.declared.row.Row.{Row}
use Rattle.lives_model.specs.Rows.{Side, row_key}
use Rattle.lives_model.specs.Plans.{version}

-- a raw key of a life is where a row of it stands
pub record IsRowOf (raw k : Bytes) (v : ℕ) : Type 0 where
  pub side : Side
  pub subkey : Bytes
  pub key : IsTrue (is_key k)
  pub version : IsTrue (is_version v)
  pub is : raw ≡ row_key side k v subkey

-- the version in a row's raw key was issued by its sequence
abbrev pub HasIssuedVersion : Row → Type 0
HasIssuedVersion row = (side : Side) (k : Bytes) (v : ℕ) (subkey : Bytes) → IsTrue (is_key k) → IsTrue (is_version v) → row.raw ≡ row_key side k v subkey → v < version row.seq 0
