-- What a caller asks of a desk.
use Rattle.std.specs.Prelude.{ℕ, Bool, true, false, not, if◌then◌else◌, List, map, Option, Some, None}
use Rattle.std.specs.List.{list_any}
use Rattle.redis_model.specs.declared.command.Command.{Command}
use Rattle.redis_model.specs.declared.command.Cmds.{Cmds}
use Rattle.redis_model.specs.declared.command.Cmds.TheVariants.{One, Many}
use Rattle.redis_model.specs.declared.history.Step.{Step}
use Rattle.redis_model.specs.declared.history.Step.TheVariants as step
use Rattle.redis_model.specs.About.{writes}
use Rattle.redis_model.specs.Apply as deadlines

-- one command, the commands of a transaction, a pin, or that the pin goes
pub data Ask : Type 0 where
  Call : Command → Ask
  Exec : List Command → Ask
  Pin : Ask
  Unpin : Ask

-- the commands that are asked for
abbrev pub commands_of : Ask → Option Cmds
commands_of (Call c) = Some (One c)
commands_of (Exec cs) = Some (Many cs)
commands_of Pin = None
commands_of Unpin = None

-- whether a key may change
abbrev pub may_write : Ask → Bool
may_write (Call c) = writes c
may_write (Exec cs) = list_any writes cs
may_write Pin = false
may_write Unpin = false

-- whether it is one command that only reads
abbrev pub only_reads : Ask → Bool
only_reads (Call c) = not (writes c)
only_reads _ = false

-- amounts of time become deadlines, at this reading of the clock
abbrev pub due : ℕ → Ask → Ask
due now (Call c) = Call (deadlines.due now c)
due now (Exec cs) = Exec (map (deadlines.due now) cs)
due now Pin = Pin
due now Unpin = Unpin

-- the entry that it has in a history, of a caller with a pin or without one
abbrev pub entry_of : Bool → ℕ → ℕ → Ask → Step
entry_of false now caller (Call c) = step.Call now caller c
entry_of true now caller (Call c) = if writes c then step.PinnedRefused now caller (One c) else step.PinnedRead now caller c
entry_of false now caller (Exec cs) = step.Exec now caller cs
entry_of true now caller (Exec cs) = step.PinnedRefused now caller (Many cs)
entry_of pinned now caller Pin = step.PinNow now caller
entry_of pinned now caller Unpin = step.Unpin now caller

-- whether its caller has a pin behind an answer, who had one before or not
abbrev pub pinned_by : Ask → Bool → Bool
pinned_by Pin pinned = true
pinned_by Unpin pinned = false
pinned_by _ pinned = pinned
