-- The raw key of the metadata of a key is one.
use Rattle.std.proofs.Common.{◌≡◌, sym, ap, ◌∙◌}
use Rattle.std.specs.Prelude.{IsTrue}
use Rattle.kv_base.specs.Map.{Bytes}
use Rattle.kv_base.specs.RawKeys.{MetaKey, raw_text, is_raw_text}
use Rattle.lives_model.specs.Rows.{meta_key}
use Rattle.plan_base.specs.MetaKeys.{key_in, IsMetaRaw}

-- the key is in the raw key of its metadata
pub key_is_in : (k raw : Bytes) → raw ≡ raw_text (MetaKey k) → key_in raw ≡ k
unfolding raw_text
key_is_in k raw is = ap key_in is

-- which is one
pub meta_is_raw : (k raw : Bytes) → raw ≡ raw_text (MetaKey k) → IsTrue (is_raw_text raw) → IsMetaRaw raw
unfolding meta_key
meta_is_raw k raw is short = record { is = is ∙ ap (λ q. raw_text (MetaKey q)) (sym (key_is_in k raw is)); raw_key = short }
