-- The keys and the deadlines that decide until when what commands come to stays right.
use Rattle.std.specs.Prelude.{ℕ, nat_lt, nat_le, Bool, true, false, ◌&&◌, if◌then◌else◌, List, [], ◌∷◌, ◌++◌, map, Option, Some, None}
use Rattle.kv_base.specs.Map.{Bytes}
use Rattle.redis_model.specs.declared.command.Command.{Command}
use Rattle.redis_model.specs.declared.command.Command.TheVariants as cmd
use Rattle.redis_model.specs.declared.command.Cmds.{Cmds}
use Rattle.redis_model.specs.declared.command.Cmds.TheVariants.{One, Many}
use Rattle.redis_model.specs.Value.{RedisMap, deadline_at}
use Rattle.redis_model.specs.About.{keys_of}
use Rattle.redis_model.specs.Apply.{apply}

-- the keys that commands name
abbrev pub keys_of_each : List Command → List Bytes
keys_of_each [] = []
keys_of_each (c ∷ cs) = keys_of c ++ keys_of_each cs

abbrev pub keys_in : Cmds → List Bytes
keys_in (One c) = keys_of c
keys_in (Many cs) = keys_of_each cs

-- whether a command reads the moment at which it is carried out (Redis command reference, TTL and PTTL)
abbrev pub reads_clock : Command → Bool
reads_clock (cmd.Ttl k w) = true
reads_clock (cmd.PTtl k w) = true
reads_clock _ = false

-- the deadlines of a command's keys, in the map that it finds and in the one that it leaves
abbrev pub deadlines : RedisMap → ℕ → Command → List (Option ℕ)
deadlines m t c = map (deadline_at m) (keys_of c) ++ map (deadline_at (apply m t c).1) (keys_of c)

-- a deadline, where it lies above t, or a later one that is sooner
abbrev pub sooner : ℕ → Option ℕ → Option ℕ → Option ℕ
sooner t None later = later
sooner t (Some d) None = if nat_lt t d then Some d else None
sooner t (Some d) (Some u) = if nat_lt t d && nat_lt d u then Some d else Some u

-- the least of these above t
abbrev pub least_above : ℕ → List (Option ℕ) → Option ℕ
least_above t [] = None
least_above t (d ∷ ds) = sooner t d (least_above t ds)

-- a deadline that has come
abbrev pub is_past : ℕ → Option ℕ → Bool
is_past moment None = false
is_past moment (Some deadline) = nat_le deadline moment
