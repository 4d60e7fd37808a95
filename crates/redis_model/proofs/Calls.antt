-- Calls of one caller to a server that has just begun, for the worked runs.
use Rattle.std.proofs.Common.{ℕ, List, map}
use Rattle.std.specs.Prelude.{codes, Option, Some}
use Rattle.kv_base.specs.Map.{Bytes}
use Rattle.redis_model.specs.declared.reply.Reply.{Reply}
use Rattle.redis_model.specs.declared.reply.Reply.TheVariants as reply
use Rattle.redis_model.specs.declared.reply.ReplyError.{ReplyError}
use Rattle.redis_model.specs.declared.command.Command.{Command}
use Rattle.redis_model.specs.declared.command.Command.TheVariants as cmd
use Rattle.redis_model.specs.declared.command.When.TheVariants as when
use Rattle.redis_model.specs.declared.command.Expiry.TheVariants as expiry
use Rattle.redis_model.specs.declared.history.Step.{Step}
use Rattle.redis_model.specs.declared.history.Step.TheVariants.{Call}
use Rattle.redis_model.specs.Value.{RedisMap}
use Rattle.redis_model.specs.Outcome.{number}
use Rattle.redis_model.specs.Apply.{due}
use Rattle.redis_model.specs.Machine.{start, run, replies}

-- each call with its reading of the clock
abbrev pub history_of : List (ℕ × Command) → List Step
history_of cs = map (λ c. Call c.0 0 (due c.0 c.1)) cs

abbrev pub calls : List (ℕ × Command) → List (Option Reply)
calls cs = replies start (history_of cs)

abbrev pub keys_after : List (ℕ × Command) → RedisMap
keys_after cs = (run start (history_of cs)).keys

abbrev pub set : Bytes → Bytes → Command
set k v = cmd.Set k v when.Any expiry.None 0

abbrev pub ok : Option Reply
ok = Some reply.Ok

abbrev pub null : Option Reply
null = Some reply.Null

abbrev pub bulk : Bytes → Option Reply
bulk v = Some (reply.Bulk v)

abbrev pub int : ℕ → Option Reply
int i = Some (number i)

abbrev pub refused : ReplyError → Option Reply
refused e = Some (reply.Error e)

-- names of keys, fields and members
abbrev pub a : Bytes
a = codes "a"

abbrev pub b : Bytes
b = codes "b"

abbrev pub h : Bytes
h = codes "h"

abbrev pub l : Bytes
l = codes "l"

abbrev pub n : Bytes
n = codes "n"

abbrev pub s : Bytes
s = codes "s"

abbrev pub t : Bytes
t = codes "t"

abbrev pub z : Bytes
z = codes "z"
