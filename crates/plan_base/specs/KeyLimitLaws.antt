-- The words of a command within its limits, as batches need them.
use Rattle.std.proofs.Common.{◌≡◌, refl, ap, false, List, [], ◌∷◌, length, arith}
use Rattle.std.proofs.lemmas.Bool.Decides.{nat_tests}
use Rattle.std.proofs.lemmas.List.Elements.{All-nil, All-cons, All-head, All-tail}
use Rattle.std.specs.Prelude.{◌||◌, IsTrue, All, zip}
use Rattle.kv_base.specs.Map.{Bytes, same_itself}
use Rattle.kv_base.specs.RawKeys.{is_key}
use Rattle.kv_base.specs.MetaValues.{is_payload}
use Rattle.redis_model.specs.Keys.{among}
use Rattle.redis_model.specs.Limits.{IsName, IsShort}
pub use Rattle.lives_model.specs.AskedKeyLaws.{name_is_key}
use Rattle.plan_base.specs.ManyKeys.{IsPair, names_of}

-- a value is no longer than a string
pub short_is_payload : (v : Bytes) → IsShort v → IsTrue (is_payload v)
short_is_payload v h = grind (arith, nat_tests)

-- the key of a command with one key fits
pub key_is_short : (k : Bytes) → All IsName (k ∷ []) → IsTrue (is_key k)
key_is_short k names = name_is_key k (All-head IsName k [] names)

-- a key is among itself
pub among_itself : (k : Bytes) → IsTrue (among (k ∷ []) k)
among_itself k = ap (λ b. b || false) (same_itself k)

-- several names are keys
pub names_are_keys : (ks : List Bytes) → All IsName ks → All (λ k. IsTrue (is_key k)) ks
names_are_keys [] h = All-nil (λ k. IsTrue (is_key k))
names_are_keys (k ∷ ks) h =
    All-cons (λ k. IsTrue (is_key k)) k ks (name_is_key k (All-head IsName k ks h)) (names_are_keys ks (All-tail IsName k ks h))

-- keys and values in pairs
pub pairs_are_within : (ks vs : List Bytes) → All IsName ks → All IsShort vs → All IsPair (zip ks vs)
pairs_are_within [] vs hk hv = All-nil IsPair
pairs_are_within (k ∷ ks) [] hk hv = All-nil IsPair
pairs_are_within (k ∷ ks) (v ∷ vs) hk hv =
    All-cons IsPair (k, v) (zip ks vs) (name_is_key k (All-head IsName k ks hk), short_is_payload v (All-head IsShort v vs hv))
    (pairs_are_within ks vs (All-tail IsName k ks hk) (All-tail IsShort v vs hv))

-- the keys of pairs, where there are as many values as keys
pub names_of_pairs : (ks vs : List Bytes) → length vs ≡ length ks → names_of (zip ks vs) ≡ ks
names_of_pairs [] vs e = refl
names_of_pairs (k ∷ ks) [] e = absurd (omega arith)
names_of_pairs (k ∷ ks) (v ∷ vs) e = ap (λ rest. k ∷ rest) (names_of_pairs ks vs (omega arith))
