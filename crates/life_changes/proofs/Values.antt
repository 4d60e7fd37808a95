-- Values as their raw keys ask for them.
use Rattle.std.proofs.Common.{◌≡◌, ℕ, ◌∷◌, [], refl, sym, ap, ◌∙◌, true, arith}
use Rattle.std.proofs.lemmas.Bool.{and_from}
use Rattle.std.proofs.lemmas.Bool.Decides.{nat_tests}
use Rattle.std.specs.Prelude.{Option, Some, None, IsTrue, is_some, ◌<◌, ◌^◌, ◌&&◌}
use Rattle.kv_base.specs.declared.kind.Kind.{Kind}
use Rattle.kv_base.specs.Map.{Bytes}
use Rattle.kv_base.specs.RawKeys.{RawKey, MetaKey, ElementKey, ScoreKey, raw_text, read_raw, is_raw_text, is_version}
use Rattle.kv_base.specs.RawKeyLaws.{only_raw_is_read}
use Rattle.kv_base.specs.MetaValues.{LifeValue, is_deadline, is_size, is_meta_within, is_payload, read_meta, is_value_at, is_value_of, is_value_text}
use Rattle.redis_model.specs.Limits.{IsShort}
use Rattle.lives_model.specs.Rows.{Elements, meta_key, row_key}
use Rattle.lives_model.specs.RowKeyLaws.{only_meta_key_is_read}
use Rattle.plan_base.specs.declared.life.LifeSight.{LifeSight}
use Rattle.plan_base.specs.Lives.{HasVersionIn}
use Rattle.plan_base.specs.LifeSteps.{life_on}
use Rattle.plan_base.specs.MetaRows.{expire_number}
use Rattle.life_plans.specs.WantedLaws.{life_on_fits}
use Rattle.plan_base.specs.KeyLimitLaws.{short_is_payload}

-- a value may stand at a raw key where its shape is that of what the raw key is read as
fits_as_read : (raw value : Bytes) → IsTrue (is_raw_text raw) → ((r : RawKey) → read_raw raw ≡ Some r → is_value_at r value ≡ true) → IsTrue (is_value_text raw value)
unfolding is_value_text
fits_as_read raw value short fits = by_read (read_raw raw) refl short
  where
    by_read : (o : Option RawKey) → read_raw raw ≡ o → is_some o ≡ true → is_value_of (read_raw raw) value ≡ true
    by_read None e f = absurd (cc)
    by_read (Some r) e f = ap (λ o. is_value_of o value) e ∙ fits r e

-- metadata at the raw key of metadata
pub metadata_fits : (k raw value : Bytes) → raw ≡ meta_key k → IsTrue (is_raw_text raw) → IsTrue (is_some (read_meta value)) → IsTrue (is_value_text raw value)
metadata_fits k raw value is short there =
    fits_as_read raw value short (λ r e. ap (λ x. is_value_at x value) (only_meta_key_is_read k r (sym (ap read_raw is) ∙ e)) ∙ there)

-- the first byte
front : Bytes → ℕ
front [] = 0
front (b ∷ bytes) = b

space_byte : RawKey → ℕ
space_byte (MetaKey key) = 109
space_byte (ElementKey key version subkey) = 115
space_byte (ScoreKey key version score member) = 122

front_of_element : (k : Bytes) (version : ℕ) (subkey : Bytes) → front (row_key Elements k version subkey) ≡ 115
unfolding row_key front
front_of_element k version subkey = refl

front_of_raw : (r : RawKey) → front (raw_text r) ≡ space_byte r
unfolding raw_text space_byte front
front_of_raw (MetaKey key) = refl
front_of_raw (ElementKey key version subkey) = refl
front_of_raw (ScoreKey key version score member) = refl

-- the raw key of an element is read as nothing else
fits_element : (value : Bytes) (r : RawKey) → 115 ≡ space_byte r → is_payload value ≡ true → is_value_at r value ≡ true
unfolding space_byte
fits_element value (MetaKey key) e h = absurd (omega (arith, e))
fits_element value (ElementKey key v x) e h = h
fits_element value (ScoreKey key v score member) e h = absurd (omega (arith, e))

-- a short value at the raw key of an element
pub element_fits : (k : Bytes) (version : ℕ) (subkey raw value : Bytes) → raw ≡ row_key Elements k version subkey → IsTrue (is_raw_text raw) → IsShort value → IsTrue (is_value_text raw value)
element_fits k version subkey raw value is short low =
    fits_as_read raw value short (λ r e. fits_element value r (sym (front_of_element k version subkey) ∙ ap front (sym is ∙ (only_raw_is_read raw r e).0) ∙ front_of_raw r) (short_is_payload value low))

-- ---- the metadata of a life

size_fits : (size : ℕ) → 0 < size → size < 2 ^ 32 → is_size size ≡ true
size_fits size low high = grind (arith, nat_tests)

-- metadata of a collection with a deadline, a version and a size within their limits
pub life_fits : (kind : Kind) (deadline : Option ℕ) (fresh : ℕ) (life : Option LifeSight) (expire version size : ℕ) → expire ≡ expire_number deadline → version ≡ (life_on fresh life).version
    → IsTrue (is_deadline (expire_number deadline)) → IsTrue (is_version fresh) → HasVersionIn life → 0 < size → size < 2 ^ 32 → IsTrue (is_meta_within (LifeValue kind expire version size))
unfolding is_meta_within
life_fits kind deadline fresh life expire version size expire_is version_is due new old low high =
    and_from (is_deadline expire && is_version version) (is_size size)
    (and_from (is_deadline expire) (is_version version) (ap is_deadline expire_is ∙ due) (ap is_version version_is ∙ life_on_fits fresh life new old))
    (size_fits size low high)
