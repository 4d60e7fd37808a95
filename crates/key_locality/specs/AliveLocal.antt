-- A command on what has not expired depends on its own keys alone, also at a later moment by which none of them expires.
use Rattle.std.proofs.Common.{◌≡◌, ℕ, refl, sym, ap, ◌∙◌, arith}
use Rattle.std.specs.Prelude.{map, IsFalse}
use Rattle.kv_base.specs.Map.{Bytes, get}
use Rattle.redis_model.specs.declared.command.Command.{Command}
use Rattle.redis_model.specs.Value.{RedisMap, alive, deadline_at}
use Rattle.redis_model.specs.Keys.{among}
use Rattle.redis_model.specs.About.{keys_of}
use Rattle.redis_model.specs.Apply.{apply}
use Rattle.redis_model.specs.Machine.{apply_alive}
use Rattle.redis_model.specs.Touched.{touched}
use Rattle.redis_model.specs.ElsewhereLaws.{apply_elsewhere}
use Rattle.redis_model.specs.Deadlines.{deadlines}
use Rattle.key_locality.specs.Agree.{AgreeOn}
use Rattle.key_locality.specs.Between.{IsNotBetween, FindsTheSame}
use Rattle.key_locality.specs.Moments.{standing, none_between_itself, standing_later, get-alive-standing, alive-twice, all_front, all_behind, none_between_at, agree_later_moment}
use Rattle.key_locality.specs.Local.{apply_replies, apply_agrees, touched_local}

-- ---- keys that a command does not name

-- they stay as they are, but for those that have expired
pub apply_alive_elsewhere : (m : RedisMap) (t : ℕ) (c : Command) (k : Bytes) → IsFalse (among (keys_of c) k) → get (apply_alive m t c).1 k ≡ get (alive m t) k
unfolding apply_alive
apply_alive_elsewhere m t c k other =
    get-alive-standing (apply (alive m t) t c).1 t k ∙ ap (standing t) (apply_elsewhere (alive m t) t c k other)
    ∙ sym (get-alive-standing (alive m t) t k) ∙ ap (λ (n : RedisMap). get n k) (alive-twice m t)

-- what a command leaves has not expired
pub alive-apply_alive : (m : RedisMap) (t : ℕ) (c : Command) → alive (apply_alive m t c).1 t ≡ (apply_alive m t c).1
unfolding apply_alive
alive-apply_alive m t c = alive-twice (apply (alive m t) t c).1 t

-- ---- its own keys

module _ (m n : RedisMap) (t u : ℕ) (c : Command) (same : FindsTheSame m n t u c) where
  -- what the command finds
  found_agrees : AgreeOn (keys_of c) (alive m t) (alive n u)
  found_agrees k named =
      agree_later_moment (keys_of c) m t u same.later (all_front (IsNotBetween t u) (map (deadline_at (alive m t)) (keys_of c)) _ same.ahead) k named
      ∙ same.agree k named

  -- it answers at u as at t
  pub apply_alive_replies : (apply_alive m t c).0 ≡ (apply_alive n u c).0
  unfolding apply_alive
  apply_alive_replies = apply_replies (alive m t) (alive n u) t u c found_agrees same.clock

  -- and leaves the same at its keys
  pub apply_alive_agrees : AgreeOn (keys_of c) (apply_alive m t c).1 (apply_alive n u c).1
  unfolding apply_alive
  apply_alive_agrees k named =
      get-alive-standing (apply (alive m t) t c).1 t k
      ∙ standing_later t u (get (apply (alive m t) t c).1 k) same.later (none_between_at t u (apply (alive m t) t c).1 (keys_of c) (all_behind (IsNotBetween t u) (map (deadline_at (alive m t)) (keys_of c)) _ same.ahead) k named)
      ∙ ap (standing u) (apply_agrees (alive m t) (alive n u) t u c found_agrees same.clock k named)
      ∙ sym (get-alive-standing (apply (alive n u) u c).1 u k)

  -- both in one
  pub apply_alive_local : ((apply_alive m t c).0 ≡ (apply_alive n u c).0) × AgreeOn (keys_of c) (apply_alive m t c).1 (apply_alive n u c).1
  apply_alive_local = (apply_alive_replies, apply_alive_agrees)

  -- and touches the same keys
  pub touched_later : touched (alive m t) t c ≡ touched (alive n u) u c
  touched_later = touched_local (alive m t) (alive n u) t u c found_agrees same.clock

-- at one moment maps that agree on its keys are all that is asked
pub finds_at_once : (m n : RedisMap) (t : ℕ) (c : Command) → AgreeOn (keys_of c) (alive m t) (alive n t) → FindsTheSame m n t t c
finds_at_once m n t c agree = record { later = omega arith; clock = λ reads. refl; ahead = none_between_itself t (deadlines (alive m t) t c); agree = agree }
