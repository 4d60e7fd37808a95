-- Raw keys of the metadata of keys.
use Rattle.std.proofs.Common.{◌≡◌, [], ◌∷◌}
use Rattle.std.specs.Prelude.{IsTrue}
use Rattle.kv_base.specs.Map.{Bytes}
use Rattle.kv_base.specs.RawKeys.{is_raw_text}
use Rattle.lives_model.specs.Rows.{meta_key}

-- the key in the raw key of its metadata, behind the space and the length of the namespace
abbrev pub key_in : Bytes → Bytes
key_in [] = []
key_in (space ∷ []) = []
key_in (space ∷ namespace ∷ key) = key

-- the raw key of the metadata of the key that is in it
pub record IsMetaRaw (raw : Bytes) : Type 0 where
  pub is : raw ≡ meta_key (key_in raw)
  pub raw_key : IsTrue (is_raw_text raw)
