-- The machine: what each entry of a history answers and leaves. Pins, moments that never fall and the capped clock are this
-- server's own; commands and transactions are those of the Redis command reference.
use Rattle.std.specs.Prelude.{ℕ, max, Bool, not, ◌==◌, List, [], ◌∷◌, ◌++◌, filter, find, slice_get, Option, Some, None, option_and_then}
use Rattle.kv_base.specs.Map.{empty}
use Rattle.redis_model.specs.declared.reply.Reply.{Reply}
use Rattle.redis_model.specs.declared.reply.Reply.TheVariants as reply
use Rattle.redis_model.specs.declared.reply.ReplyError.TheVariants.{Pinned, AlreadyPinned, NotPinned}
use Rattle.redis_model.specs.declared.command.Command.{Command}
use Rattle.redis_model.specs.declared.command.Cmds.{Cmds}
use Rattle.redis_model.specs.declared.command.Cmds.TheVariants.{One, Many}
use Rattle.redis_model.specs.declared.history.Step.{Step}
use Rattle.redis_model.specs.declared.history.Step.TheVariants.{Tick, Call, Exec, PinNow, PinnedRead, PinnedRefused, Unpin, Job}
use Rattle.redis_model.specs.Value.{RedisMap, alive}
use Rattle.redis_model.specs.Apply.{apply, counted_now}

-- one command, on what has not expired; what has expired by then is gone afterwards
unfoldable pub apply_alive : RedisMap → ℕ → Command → Reply × RedisMap
apply_alive m t c = let r = apply (alive m t) t c in (r.0, alive r.1 t)

-- several commands, and their replies
abbrev pub apply_each : RedisMap → ℕ → List Command → List Reply × RedisMap
apply_each m t [] = ([], m)
apply_each m t (c ∷ cs) =
    let r = apply_alive m t c in
    let rest = apply_each r.1 t cs in
    (r.0 ∷ rest.0, rest.1)

-- one command with its reply, or several, one after the other at one moment, with the array of theirs (Redis command
-- reference, EXEC). An error in one does not stop those behind it
abbrev pub fold : RedisMap → ℕ → Cmds → Reply × RedisMap
fold m t (One c) = apply_alive m t c
fold m t (Many cs) = let r = apply_each m t cs in (reply.Array r.0, r.1)

-- ---- the state

-- a caller's view of an earlier map, at its moment
pub record Pin : Type 0 where
  pub caller : ℕ
  pub seen : RedisMap
  pub moment : ℕ

-- pins stand in the order in which they were made, at most one of a caller
pub record State : Type 0 where
  pub keys : RedisMap
  pub floor : ℕ
  pub pins : List Pin

-- the state of a server that has just begun: no keys, floor 0 and no pins
abbrev pub start : State
start = record { keys = empty; floor = 0; pins = [] }

-- the pin of a caller
abbrev pub is_of : ℕ → Pin → Bool
is_of caller p = p.caller == caller

abbrev pub pin_of : State → ℕ → Option Pin
pin_of s caller = find (is_of caller) s.pins

-- ---- one step

-- the moment of an entry with this reading
abbrev pub moment_at : State → ℕ → ℕ
moment_at s now = max s.floor (counted_now now)

-- the floor rises to the moment, and what is expired then goes
abbrev pub at_moment : State → ℕ → State
at_moment s now = record s { keys = alive s.keys (moment_at s now); floor = moment_at s now }

-- commands are answered, and change the keys
abbrev pub answer_to : State → Cmds → Option Reply × State
answer_to s cs = let r = fold s.keys s.floor cs in (Some r.0, record s { keys = r.1 })

-- a caller has one pin at most
abbrev pub pinned : State → ℕ → Option Pin → Option Reply × State
pinned s caller (Some p) = (Some (reply.Error AlreadyPinned), s)
pinned s caller None = (Some reply.Ok, record s { pins = s.pins ++ record { caller = caller; seen = s.keys; moment = s.floor } ∷ [] })

-- a pin goes
abbrev pub unpinned : State → ℕ → Option Pin → Option Reply × State
unpinned s caller None = (Some (reply.Error NotPinned), s)
unpinned s caller (Some p) = (Some reply.Ok, record s { pins = filter (λ q. not (is_of caller q)) s.pins })

-- a reading command on the keys of a pin, at its moment; a legal history has a pin there
abbrev pub answer_of_pin : Option Pin → Command → Option Reply
answer_of_pin None c = None
answer_of_pin (Some p) c = Some (apply p.seen p.moment c).0

-- An entry is carried out at its moment, where what has expired is gone. A job changes nothing at all.
unfoldable pub step : State → Step → Option Reply × State
step s (Tick now caller) = (None, at_moment s now)
step s (Call now caller c) = answer_to (at_moment s now) (One c)
step s (Exec now caller cs) = answer_to (at_moment s now) (Many cs)
step s (PinNow now caller) = pinned (at_moment s now) caller (pin_of s caller)
step s (PinnedRead now caller c) = (answer_of_pin (pin_of s caller) c, at_moment s now)
step s (PinnedRefused now caller cs) = (Some (reply.Error Pinned), at_moment s now)
step s (Unpin now caller) = unpinned (at_moment s now) caller (pin_of s caller)
step s (Job caller kind mark) = (None, s)

-- the state after a history, and the reply at each of its places
abbrev pub run : State → List Step → State
run s [] = s
run s (e ∷ es) = run (step s e).1 es

abbrev pub replies : State → List Step → List (Option Reply)
replies s [] = []
replies s (e ∷ es) = (step s e).0 ∷ replies (step s e).1 es

-- the moment of each place, which is the floor after it
abbrev pub moments : State → List Step → List ℕ
moments s [] = []
moments s (e ∷ es) = (step s e).1.floor ∷ moments (step s e).1 es

-- the reply at one place; none where the entry has none, or where there is no such place
abbrev pub reply_at : State → List Step → ℕ → Option Reply
reply_at s es i = option_and_then (λ r. r) (slice_get (replies s es) i)
