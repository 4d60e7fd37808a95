-- Whose entry stands at a place of a history.
use Rattle.std.specs.Prelude.{◌≡◌, ℕ, List}
use Rattle.redis_model.specs.declared.history.Step.{Step}
use Rattle.redis_model.specs.declared.history.Step.TheVariants.{Tick, Call, Exec, PinNow, PinnedRead, PinnedRefused, Unpin, Job}
use Rattle.redis_model.specs.declared.history.Place.{Place}
use Rattle.turn_hall.specs.Hands.{entries_of}

-- the number of an entry's caller
abbrev pub step_caller : Step → ℕ
step_caller (Tick now caller) = caller
step_caller (Call now caller command) = caller
step_caller (Exec now caller commands) = caller
step_caller (PinNow now caller) = caller
step_caller (PinnedRead now caller command) = caller
step_caller (PinnedRefused now caller commands) = caller
step_caller (Unpin now caller) = caller
step_caller (Job caller kind mark) = caller

abbrev pub by_of : Place → ℕ
by_of p = step_caller p.what

-- of this number the histories have the same entries
abbrev pub SameOwn : ℕ → List Place → List Place → Type 0
SameOwn number xs ys = entries_of by_of number xs ≡ entries_of by_of number ys
