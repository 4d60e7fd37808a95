-- The commands on lists that do more than read or change one collection look at their own keys alone.
use Rattle.std.proofs.Common.{◌≡◌, true, List, [], ◌∷◌, refl}
use Rattle.std.specs.Prelude.{Option, Some, None, ℤ}
use Rattle.kv_base.specs.Map.{Bytes, get, has, same}
use Rattle.redis_model.specs.declared.command.End.{End}
use Rattle.redis_model.specs.Value.{RedisMap}
use Rattle.redis_model.specs.Outcome.{lists}
use Rattle.redis_model.specs.Keys.{among}
use Rattle.redis_model.specs.Lists.{push_items, push_x, set_item, l_set, popped, pushed, moved, l_move}
use Rattle.key_locality.specs.Agree.{AgreeOn, Alike}
use Rattle.key_locality.specs.Alike.{alike_if, change_alike, at_key_alike, changing_alike}
use Rattle.key_locality.specs.Strings.{same_has}

-- ---- one key

module _ (ks : List Bytes) (m n : RedisMap) (agree : AgreeOn ks m n) (k : Bytes) (here : get m k ≡ get n k) where
  -- LPUSHX, RPUSHX and LSET look first whether the key is there
  pub push_x_alike : (end : End) (vs : List Bytes) → Alike ks (push_x m k end vs) (push_x n k end vs)
  push_x_alike end vs =
      alike_if ks (has m k) (has n k) _ _ _ _ (same_has m n k here) (changing_alike ks lists m n agree k here (push_items end vs)) (refl, agree)

  pub l_set_alike : (i : ℤ) (v : Bytes) → Alike ks (l_set m k i v) (l_set n k i v)
  l_set_alike i v =
      alike_if ks (has m k) (has n k) _ _ _ _ (same_has m n k here) (changing_alike ks lists m n agree k here (set_item i v)) refl

-- ---- two keys

module _ (ks : List Bytes) (m n : RedisMap) (agree : AgreeOn ks m n) (a b : Bytes) (a_named : among ks a ≡ true) (b_named : among ks b ≡ true) where
  -- LMOVE of an item, or of none
  moved_alike : (to : End) (o : Option Bytes) (rest target : List Bytes) → Alike ks (moved m a b to (o, rest) target) (moved n a b to (o, rest) target)
  moved_alike to None rest target = (refl, agree)
  moved_alike to (Some v) rest target =
      alike_if ks (same a b) _ _ _ _ _ refl
      (change_alike ks lists m n a (pushed to rest (v ∷ [])) _ _ agree (agree a a_named) (λ o p alike. (refl, alike)))
      (change_alike ks lists m n a rest _ _ agree (agree a a_named) (λ o p alike.
      change_alike ks lists o p b (pushed to target (v ∷ [])) _ _ alike (alike b b_named) (λ r s after. (refl, after))))

  pub l_move_alike : (from to : End) → Alike ks (l_move m a b from to) (l_move n a b from to)
  l_move_alike from to =
      alike_if ks (has m a) (has n a) _ _ _ _ (same_has m n a (agree a a_named))
      (at_key_alike ks lists m n agree a (agree a a_named) _ _ (λ l.
      at_key_alike ks lists m n agree b (agree b b_named) _ _ (λ target. moved_alike to (popped from l).0 (popped from l).1 target)))
      (refl, agree)
