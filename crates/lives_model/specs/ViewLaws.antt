-- Laws on what stands in `Views.antt`.
use Rattle.std.proofs.Common.{◌≡◌, ℕ, ◌≤◌, Bool, Option, Some, None, ◌∙◌, refl, sym, ap, arith}
use Rattle.kv_base.specs.declared.name.FileName.{FileName}
use Rattle.kv_base.specs.declared.fault.StoreFault.{StoreFault}
use Rattle.kv_base.specs.declared.fault.StoreFault.TheVariants.{NoMem}
use Rattle.kv_outside.specs.CauseLaws.{cause_widens}
use Rattle.kv_outside.specs.RunLaws.{nothing_new, nothing_then}
use Rattle.lives_model.specs.Views.{ViewState, IfCaused, ReadsOnly}

-- no call reads nothing
pub reads_nothing : (s : ViewState) → ReadsOnly s s None
reads_nothing s = record { rows = refl; disk = nothing_new s.disk; off = refl; loans = refl; cause = tt; later = omega arith }

-- memory may run out before a call
pub reads_no_mem : (s : ViewState) → ReadsOnly s s (Some NoMem)
reads_no_mem s = record { rows = refl; disk = nothing_new s.disk; off = refl; loans = refl; cause = tt; later = omega arith }

-- and after one
pub reads_then_no_mem : (old new : ViewState) → ReadsOnly old new None → ReadsOnly old new (Some NoMem)
reads_then_no_mem old new r = record { rows = r.rows; disk = r.disk; off = r.off; loans = r.loans; cause = tt; later = r.later }

-- a cause in a later call is one in both
caused_then : (old mid new : ℕ) (off off' : FileName → ℕ → Bool) (fault : Option StoreFault) → old ≤ mid → off' ≡ off → IfCaused mid new off' fault → IfCaused old new off fault
caused_then old mid new off off' None le same c = tt
caused_then old mid new off off' (Some fault) le same c = cause_widens old mid new new off' off fault le (omega arith) (λ file place is. sym (ap (λ o. o file place) same) ∙ is) c

-- two calls, one after the other
pub reads_then : (old mid new : ViewState) (fault : Option StoreFault) → ReadsOnly old mid None → ReadsOnly mid new fault → ReadsOnly old new fault
reads_then old mid new fault first second = record {
  rows = second.rows ∙ first.rows;
  disk = nothing_then old.disk mid.disk new.disk first.disk second.disk;
  off = second.off ∙ first.off;
  loans = second.loans ∙ first.loans;
  cause = caused_then old.faults mid.faults new.faults old.off mid.off fault first.later first.off second.cause;
  later = omega (arith, first.later, second.later);
}

pub ruleset reading = (reads_nothing, reads_no_mem, reads_then_no_mem, reads_then)
