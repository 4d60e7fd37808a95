-- The raw key of a key's metadata is a raw key.
use Rattle.std.proofs.Common.{refl}
use Rattle.std.specs.Prelude.{IsTrue}
use Rattle.kv_base.specs.Map.{Bytes}
use Rattle.kv_base.specs.RawKeys.{MetaKey, is_key, is_raw_within, raw_text, is_raw_text}
use Rattle.kv_base.specs.RawKeyLaws.{raw_is_read}

-- of a key within its limit
pub meta_key_is_raw : (key : Bytes) → IsTrue (is_key key) → IsTrue (is_raw_text (raw_text (MetaKey key)))
unfolding is_raw_within
meta_key_is_raw key h = rw (raw_is_read (MetaKey key) h) refl
