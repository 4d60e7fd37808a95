-- Raw keys of elements whose parts are within their limits are raw keys.
use Rattle.std.proofs.Common.{◌≡◌, ℕ, refl, Bool, true, false, arith}
use Rattle.std.specs.Prelude.{◌&&◌, IsTrue, ℤ, pos, negsuc}
use Rattle.std.proofs.lemmas.Bool.Decides.{nat_tests}
use Rattle.kv_base.specs.Map.{Bytes}
use Rattle.kv_base.specs.Number.{fits}
use Rattle.kv_base.specs.MetaValues.{is_score}
use Rattle.kv_base.specs.RawKeys.{RawKey, ElementKey, ScoreKey, is_key, is_version, is_raw_within, raw_text, is_raw_text}
use Rattle.kv_base.specs.RawKeyLaws.{raw_is_read}

both : (a b : Bool) → a ≡ true → b ≡ true → (a && b) ≡ true
both true b p q = q
both false b p q = absurd (cc)

-- a score of the range has 64 bits
pub score_fits : (score : ℤ) → IsTrue (is_score score) → IsTrue (fits score)
score_fits (pos n) h = grind (arith, nat_tests, h)
score_fits (negsuc n) h = grind (arith, nat_tests, h)

-- a raw key within its limits has the bytes of a raw key
pub raw_key_is_raw : (raw : RawKey) → IsTrue (is_raw_within raw) → IsTrue (is_raw_text (raw_text raw))
raw_key_is_raw raw h = rw (raw_is_read raw h) refl

-- so has that of an element
pub element_key_is_raw : (key : Bytes) (version : ℕ) (subkey : Bytes) → IsTrue (is_key key) → IsTrue (is_version version) → IsTrue (is_key subkey)
    → IsTrue (is_raw_text (raw_text (ElementKey key version subkey)))
unfolding is_raw_within
element_key_is_raw key version subkey k v s =
    raw_key_is_raw (ElementKey key version subkey) (both (is_key key && is_version version) (is_key subkey) (both (is_key key) (is_version version) k v) s)

-- and that of a member by its score
pub score_key_is_raw : (key : Bytes) (version : ℕ) (score : ℤ) (member : Bytes) → IsTrue (is_key key) → IsTrue (is_version version) → IsTrue (is_score score) → IsTrue (is_key member)
    → IsTrue (is_raw_text (raw_text (ScoreKey key version score member)))
unfolding is_raw_within
score_key_is_raw key version score member k v s m =
    let life = both (is_key key) (is_version version) k v in
    let scored = both (is_key key && is_version version) (fits score) life (score_fits score s) in
    raw_key_is_raw (ScoreKey key version score member) (both (is_key key && is_version version && fits score) (is_key member) scored m)
