-- The keys and the deadlines that decide whether commands come to the same at a later moment.
use Rattle.std.specs.Prelude.{ℕ, ◌<◌, ◌≤◌, List, [], ◌∷◌, ◌++◌, map, Option, IfSome, All}
use Rattle.kv_base.specs.Map.{Bytes}
use Rattle.redis_model.specs.declared.command.Command.{Command}
use Rattle.redis_model.specs.declared.command.Cmds.{Cmds}
use Rattle.redis_model.specs.declared.command.Cmds.TheVariants.{One, Many}
use Rattle.redis_model.specs.Value.{RedisMap, alive}
use Rattle.redis_model.specs.About.{keys_of}
use Rattle.redis_model.specs.Deadlines.{deadlines, keys_in}
use Rattle.redis_model.specs.Machine.{apply_alive}
use Rattle.key_locality.specs.Agree.{AgreeOn, Covers, SameMoment}

-- ---- deadlines

-- a deadline above t is above u, too
abbrev pub IsNotBetween : ℕ → ℕ → Option ℕ → Type 0
IsNotBetween t u deadline = IfSome deadline (λ d. t < d → u < d)

-- none of these deadlines lies above t and at most u
abbrev pub NoneBetween : ℕ → ℕ → List (Option ℕ) → Type 0
NoneBetween t u deadlines = All (IsNotBetween t u) deadlines

-- What a command finds in m at t, and in n at the same moment or a later one u, is the same at its keys, also once what has
-- expired is gone: none of its deadlines has passed in between. And it does not read the clock, unless the moments are equal.
pub record FindsTheSame (m n : RedisMap) (t u : ℕ) (c : Command) : Type 0 where
  pub later : t ≤ u
  pub clock : SameMoment c t u
  pub ahead : NoneBetween t u (deadlines (alive m t) t c)
  pub agree : AgreeOn (keys_of c) (alive m u) (alive n u)

-- ---- several commands

-- the deadlines of each command, in what has not expired of the map that those before it leave
abbrev pub deadlines_of_each : RedisMap → ℕ → List Command → List (Option ℕ)
deadlines_of_each m t [] = []
deadlines_of_each m t (c ∷ cs) = deadlines (alive m t) t c ++ deadlines_of_each (apply_alive m t c).1 t cs

abbrev pub deadlines_in : RedisMap → ℕ → Cmds → List (Option ℕ)
deadlines_in m t (One c) = deadlines (alive m t) t c
deadlines_in m t (Many cs) = deadlines_of_each m t cs

-- one moment serves each of them as well as the other
abbrev pub SameMoments : Cmds → ℕ → ℕ → Type 0
SameMoments (One c) t u = SameMoment c t u
SameMoments (Many cs) t u = All (λ c. SameMoment c t u) cs

-- what commands find is the same at these keys, which may be more than theirs
pub record FindTheSame (ks : List Bytes) (m n : RedisMap) (t u : ℕ) (cs : Cmds) : Type 0 where
  pub covers : Covers ks (keys_in cs)
  pub later : t ≤ u
  pub clock : SameMoments cs t u
  pub ahead : NoneBetween t u (deadlines_in m t cs)
  pub agree : AgreeOn ks (alive m u) (alive n u)
