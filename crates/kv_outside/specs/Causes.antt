-- When a fault of the outside may be answered.
use Rattle.std.specs.Prelude.{ℕ, ◌+◌, ◌-◌, ◌^◌, ◌≤◌, min, Bool, IsTrue, Result, OnErr}
use Rattle.kv_base.specs.declared.name.FileName.{FileName}
use Rattle.kv_base.specs.declared.fault.StoreFault.{StoreFault}
use Rattle.kv_base.specs.declared.fault.StoreFault.TheVariants.{Failed, Damaged, NoMem}

-- The count rose, or stood at its last value already.
abbrev pub Rose : ℕ → ℕ → Type 0
Rose before now = min (before + 1) (2 ^ 64 - 1) ≤ now

-- The count never falls, and a fault is answered only where it rose.
pub record HasCause {T E : Type 0} (before now : ℕ) (result : Result T E) : Type 0 where
  pub later : before ≤ now
  pub failed : OnErr result (Rose before now)

-- Why something is not given: a call failed where the count rose, damage is at a place that is off its grammar, and memory
-- may run out at any time.
abbrev pub IsCause : ℕ → ℕ → (FileName → ℕ → Bool) → StoreFault → Type 0
IsCause before now off Failed = Rose before now
IsCause before now off (Damaged file place) = IsTrue (off file place)
IsCause before now off NoMem = Unit {0}
