-- Laws on what stands in `Causes.antt`.
use Rattle.std.specs.Prelude.{ℕ, ◌-◌, ◌≤◌, Bool, IsTrue}
use Rattle.std.proofs.Common.{arith}
use Rattle.kv_base.specs.declared.name.FileName.{FileName}
use Rattle.kv_base.specs.declared.fault.StoreFault.{StoreFault}
use Rattle.kv_base.specs.declared.fault.StoreFault.TheVariants.{Failed, Damaged, NoMem}
use Rattle.kv_outside.specs.Causes.{Rose, IsCause}

-- a count that rose in a later call rose since an earlier one, and so it does where it goes on
pub rose_since : (first before now : ℕ) → first ≤ before → Rose before now → Rose first now
rose_since first before now p q = omega arith

pub rose_until : (before now last : ℕ) → Rose before now → now ≤ last → Rose before last
rose_until before now last p q = omega arith

-- a cause in a part of the calls, among some of the places, is one in all calls, among all places
pub cause_widens : (first before now last : ℕ) (off all : FileName → ℕ → Bool) (fault : StoreFault) → first ≤ before → now ≤ last
    → ((file : FileName) (place : ℕ) → IsTrue (off file place) → IsTrue (all file place)) → IsCause before now off fault → IsCause first last all fault
cause_widens first before now last off all Failed p q within cause = rose_until first now last (rose_since first before now p cause) q
cause_widens first before now last off all (Damaged file place) p q within cause = within file place cause
cause_widens first before now last off all NoMem p q within cause = tt
