-- The commands on sets that do more than read or change one collection look at their own keys alone.
use Rattle.std.proofs.Common.{◌≡◌, true, List, [], ◌∷◌, refl}
use Rattle.std.specs.Prelude.{not, None, Ok}
use Rattle.kv_base.specs.Map.{Bytes, Set, has, insert, remove, same}
use Rattle.redis_model.specs.Value.{RedisMap}
use Rattle.redis_model.specs.Outcome.{◌>>=◌, sets, seen}
use Rattle.redis_model.specs.Keys.{among}
use Rattle.redis_model.specs.Sets.{s_move, sets_at, combined, stored}
use Rattle.key_locality.specs.Agree.{AgreeOn, Alike}
use Rattle.key_locality.specs.Alike.{agree_first, agree_later, alike_then, alike_if, put_alike, change_alike, at_key_alike}
use Rattle.key_locality.specs.Strings.{same_has}

-- ---- two keys

module _ (ks : List Bytes) (m n : RedisMap) (agree : AgreeOn ks m n) (a b : Bytes) (a_named : among ks a ≡ true) (b_named : among ks b ≡ true) where
  -- SMOVE
  pub s_move_alike : (x : Bytes) → Alike ks (s_move m a b x) (s_move n a b x)
  s_move_alike x =
      alike_if ks (has m a) (has n a) _ _ _ _ (same_has m n a (agree a a_named))
      (at_key_alike ks sets m n agree a (agree a a_named) _ _ (λ s. at_key_alike ks sets m n agree b (agree b b_named) _ _ (λ t.
      alike_if ks (not (has s x)) _ _ _ _ _ refl (refl, agree) (alike_if ks (same a b) _ _ _ _ _ refl (refl, agree)
      (change_alike ks sets m n a (remove s x) _ _ agree (agree a a_named) (λ o p alike.
      change_alike ks sets o p b (insert t x tt) _ _ alike (alike b b_named) (λ q r after. (refl, after))))))))
      (refl, agree)

-- ---- any number of keys

-- the sets at these keys are the same
same_sets_at : (ks : List Bytes) (m n : RedisMap) → AgreeOn ks m n → sets_at m ks ≡ sets_at n ks
same_sets_at [] m n agree = refl
same_sets_at (k ∷ ks) m n agree =
    λ i. seen sets (agree_first k ks m n agree i) >>= λ s. same_sets_at ks m n (agree_later k ks m n agree) i >>= λ ss. Ok (s ∷ ss)

-- SINTER, SUNION and SDIFF
pub combined_alike : (f : List Set → Set) (ks : List Bytes) (m n : RedisMap) → AgreeOn ks m n → Alike ks (combined m f ks) (combined n f ks)
combined_alike f ks m n agree = alike_then ks (sets_at m ks) (sets_at n ks) _ _ (same_sets_at ks m n agree) (λ ss. (refl, agree))

-- SINTERSTORE, SUNIONSTORE and SDIFFSTORE
pub stored_alike : (f : List Set → Set) (d : Bytes) (ks : List Bytes) (m n : RedisMap) → AgreeOn (d ∷ ks) m n → Alike (d ∷ ks) (stored m f d ks) (stored n f d ks)
stored_alike f d ks m n agree =
    alike_then (d ∷ ks) (sets_at m ks) (sets_at n ks) _ _ (same_sets_at ks m n (agree_later d ks m n agree))
    (λ ss. put_alike (d ∷ ks) sets m n d (f ss) None None _ _ agree refl (λ o p alike. (refl, alike)))
