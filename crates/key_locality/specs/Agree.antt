-- What it means that two maps, or what two commands come to, are the same on some keys.
use Rattle.std.specs.Prelude.{◌≡◌, ℕ, IsTrue, List, Ok, Err}
use Rattle.kv_base.specs.Map.{Bytes, get}
use Rattle.redis_model.specs.declared.reply.Reply.{Reply}
use Rattle.redis_model.specs.declared.command.Command.{Command}
use Rattle.redis_model.specs.Value.{RedisMap}
use Rattle.redis_model.specs.Outcome.{Outcome}
use Rattle.redis_model.specs.Keys.{among}
use Rattle.redis_model.specs.Deadlines.{reads_clock}

-- two maps have the same value and the same deadline at each of these keys, or both lack the key
abbrev pub AgreeOn : List Bytes → RedisMap → RedisMap → Type 0
AgreeOn ks m n = (k : Bytes) → IsTrue (among ks k) → get m k ≡ get n k

-- each of these keys is among those
abbrev pub Covers : List Bytes → List Bytes → Type 0
Covers ks named = (k : Bytes) → IsTrue (among named k) → IsTrue (among ks k)

-- one moment serves a command as well as the other
abbrev pub SameMoment : Command → ℕ → ℕ → Type 0
SameMoment c t u = IsTrue (reads_clock c) → t ≡ u

-- two outcomes are one error, or they have one reply and maps that agree on these keys
abbrev pub Alike : List Bytes → Outcome (Reply × RedisMap) → Outcome (Reply × RedisMap) → Type 0
Alike ks (Ok r) (Ok s) = (r.0 ≡ s.0) × AgreeOn ks r.1 s.1
Alike ks (Err e) (Err f) = e ≡ f
Alike ks _ _ = ⊥
