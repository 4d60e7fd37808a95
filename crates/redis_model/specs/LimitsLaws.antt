-- A command within the limits can fall due, and stays within them.
use Rattle.std.proofs.Common.{ℕ, arith}
use Rattle.std.specs.Prelude.{ℤ, pos, ◌+ℤ◌}
use Rattle.std.proofs.lemmas.Int.{ints}
use Rattle.redis_model.specs.declared.command.Command.{Command}
use Rattle.redis_model.specs.declared.command.Command.TheVariants as cmd
use Rattle.redis_model.specs.declared.command.Expiry.{Expiry}
use Rattle.redis_model.specs.declared.command.Expiry.TheVariants as expiry
use Rattle.redis_model.specs.Apply.{due, due_time, counted_now}
use Rattle.redis_model.specs.Limits.{CanBeDue, IsTime, IsGivenTime, HasFields, IsWithin, HasDueTime, IsDue, IsDueTime}
use Rattle.redis_model.specs.Valid.{HasShortValues}

given_is_time : (x : Expiry) → IsGivenTime x → IsTime x
given_is_time expiry.None h = absurd h
given_is_time expiry.Keep h = absurd h
given_is_time (expiry.After n) h = h
given_is_time (expiry.At n) h = h

time_can_be_due : (x : Expiry) → IsTime x → CanBeDue x
time_can_be_due expiry.None h = tt
time_can_be_due expiry.Keep h = tt
time_can_be_due (expiry.After n) h = h
time_can_be_due (expiry.At n) h = tt

can_be_due : (c : Command) → HasFields c → HasDueTime c
can_be_due (cmd.Set k v c x w) h = time_can_be_due x h.1
can_be_due (cmd.SetEx k x v w) h = time_can_be_due x (given_is_time x h.0)
can_be_due (cmd.PSetEx k x v w) h = time_can_be_due x (given_is_time x h.0)
can_be_due (cmd.Expire k x w) h = time_can_be_due x (given_is_time x h)
can_be_due (cmd.PExpire k x w) h = time_can_be_due x (given_is_time x h)
can_be_due (cmd.ExpireAt k x w) h = time_can_be_due x (given_is_time x h)
can_be_due (cmd.PExpireAt k x w) h = time_can_be_due x (given_is_time x h)
can_be_due _ h = tt

pub HasDueTime-from_within : (c : Command) → IsWithin c → HasDueTime c
HasDueTime-from_within c h = can_be_due c h.fields

due_deadline : (n : ℤ) (now : ℕ) → IsTime (expiry.After n) → IsTime (expiry.At (n +ℤ pos (counted_now now)))
due_deadline n now h =
    let low = h.0 in
    let high = h.1 in
    (omega (arith, ints), omega (arith, ints))

due_is_time : (x : Expiry) (now : ℕ) → IsTime x → IsTime (due_time now x)
due_is_time expiry.None now h = tt
due_is_time expiry.Keep now h = tt
due_is_time (expiry.After n) now h = due_deadline n now h
due_is_time (expiry.At n) now h = h

due_is_given : (x : Expiry) (now : ℕ) → IsGivenTime x → IsGivenTime (due_time now x)
due_is_given expiry.None now h = absurd h
due_is_given expiry.Keep now h = absurd h
due_is_given (expiry.After n) now h = due_deadline n now h
due_is_given (expiry.At n) now h = h

pub IsWithin-due : (c : Command) (now : ℕ) → IsWithin c → IsWithin (due now c)
IsWithin-due (cmd.Set k v c x w) now h = record { names = h.names; fields = (h.fields.0, due_is_time x now h.fields.1); few = h.few; light = h.light; weighed = h.weighed }
IsWithin-due (cmd.SetEx k x v w) now h = record { names = h.names; fields = (due_is_given x now h.fields.0, h.fields.1); few = h.few; light = h.light; weighed = h.weighed }
IsWithin-due (cmd.PSetEx k x v w) now h = record { names = h.names; fields = (due_is_given x now h.fields.0, h.fields.1); few = h.few; light = h.light; weighed = h.weighed }
IsWithin-due (cmd.Expire k x w) now h = record { names = h.names; fields = due_is_given x now h.fields; few = h.few; light = h.light; weighed = h.weighed }
IsWithin-due (cmd.PExpire k x w) now h = record { names = h.names; fields = due_is_given x now h.fields; few = h.few; light = h.light; weighed = h.weighed }
IsWithin-due (cmd.ExpireAt k x w) now h = record { names = h.names; fields = due_is_given x now h.fields; few = h.few; light = h.light; weighed = h.weighed }
IsWithin-due (cmd.PExpireAt k x w) now h = record { names = h.names; fields = due_is_given x now h.fields; few = h.few; light = h.light; weighed = h.weighed }
IsWithin-due _ now h = h

due_time_is : (x : Expiry) (now : ℕ) → IsDueTime (due_time now x)
due_time_is expiry.None now = tt
due_time_is expiry.Keep now = tt
due_time_is (expiry.After n) now = tt
due_time_is (expiry.At n) now = tt

pub IsDue-due : (c : Command) (now : ℕ) → IsDue (due now c)
IsDue-due (cmd.Set k v c x w) now = due_time_is x now
IsDue-due (cmd.SetEx k x v w) now = due_time_is x now
IsDue-due (cmd.PSetEx k x v w) now = due_time_is x now
IsDue-due (cmd.Expire k x w) now = due_time_is x now
IsDue-due (cmd.PExpire k x w) now = due_time_is x now
IsDue-due (cmd.ExpireAt k x w) now = due_time_is x now
IsDue-due (cmd.PExpireAt k x w) now = due_time_is x now
IsDue-due _ now = tt

short_values : (c : Command) → HasFields c → HasShortValues c
short_values (cmd.Set k v c x w) h = h.0
short_values (cmd.SetNx k v w) h = h
short_values (cmd.SetEx k x v w) h = h.1
short_values (cmd.PSetEx k x v w) h = h.1
short_values (cmd.GetSet k v w) h = h
short_values (cmd.MSet ks vs w) h = h.2
short_values _ h = tt

pub HasShortValues-from_within : (c : Command) → IsWithin c → HasShortValues c
HasShortValues-from_within c h = short_values c h.fields
