-- How what was read of each slot joins.
use Rattle.std.proofs.Common.{◌≡◌, inl, inr, ℕ, ◌<◌, ◌≤◌, Bool, true, false, cond, Option, Some, None, Result, Ok, Err, refl, sym, ◌∙◌, ap, subst, arith}
use Rattle.std.specs.Prelude.{nat_lt, if◌then◌else◌}
use Rattle.std.specs.Option.{unwrap_or}
use Rattle.std.proofs.lemmas.Bool.Decides.{nat_tests}
use Rattle.kv_base.specs.Map.{Bytes}
use Rattle.kv_base.specs.declared.name.FileName.{FileName}
use Rattle.kv_base.specs.declared.name.FileName.TheVariants.{SlotA, SlotB}
use Rattle.kv_base.specs.declared.fault.StoreFault.{StoreFault}
use Rattle.kv_base.specs.declared.fault.StoreFault.TheVariants.{Failed, Damaged, NoMem}
use Rattle.gated_log.specs.Gated.{records, EndsAt}
use Rattle.edit_codec.specs.States.{new_state}
use Rattle.edit_codec.specs.declared.state.State.{State}
use Rattle.manifest_set.specs.Slots.{Damage, IsOutdone, slot_of, slots_of, epoch_of, by_first, by_both}
use Rattle.manifest_set.specs.SlotLaws.{said_epoch, said_freely, said_not_taken}
use Rattle.manifest_set.specs.Keeping.{AreFoundSlots}
use Rattle.manifest_set.specs.declared.read.ReadSlot.{ReadSlot}
use Rattle.manifest_set.specs.declared.slots.Slots.{Slots}
use Rattle.manifest_set.specs.Reading.{IsRead, IsSlotDamage, ReadsOne, ReadsBoth, at_slot, newer_slot}

pub both_found : (a b : ReadSlot) (first second : Bytes) → IsRead 0 a first → IsRead (epoch_of a.says) b second → AreFoundSlots (newer_slot a b) first second
both_found a b first second one other = by_epochs (nat_lt (epoch_of b.says) (epoch_of a.says)) refl
  where
    free : slot_of 0 second ≡ Ok b.says
    free = said_freely (epoch_of a.says) (records second) b.says other.says

    less : (m n : ℕ) → nat_lt m n ≡ true → m < n
    less m n is = grind (arith, nat_tests)

    not_less : (m n : ℕ) → nat_lt m n ≡ false → n ≤ m
    not_less m n is = grind (arith, nat_tests)

    outdone : (x y : Option State) → slot_of 0 first ≡ Ok x → slot_of (epoch_of x) second ≡ Ok y → epoch_of x ≤ epoch_of y → IsOutdone y x
    outdone None y one other le = inl refl
    outdone (Some s) None one other le = absurd (omega (arith, le, said_epoch 0 (records first) s one))
    outdone (Some s) (Some t) one other le =
        let apart = said_not_taken s.epoch (records second) t other in
        inr (grind (arith, apart))

    by_epochs : (b_first : Bool) → nat_lt (epoch_of b.says) (epoch_of a.says) ≡ b_first → AreFoundSlots (cond b_first (at_slot SlotA a) (at_slot SlotB b)) first second
    by_epochs true is = record {
      is_slot = tt;
      says = a.says;
      own = one.says;
      state = refl;
      ends = one.ends;
      behind = record { other = b.says; says = free; outdone = inr (less (epoch_of b.says) (epoch_of a.says) is) };
    }
    by_epochs false is = record {
      is_slot = tt;
      says = b.says;
      own = free;
      state = refl;
      ends = other.ends;
      behind = record { other = a.says; says = one.says; outdone = outdone a.says b.says one.says other.says (not_less (epoch_of b.says) (epoch_of a.says) is) };
    }

pub first_damaged : (file : FileName) (place : ℕ) (first second : Bytes) → IsSlotDamage SlotA file 0 place first → slots_of first second ≡ Err (record { file = file; place = place })
unfolding slots_of
first_damaged file place first second is =
    let told : FileName → Result State Damage = λ f. Err (record { file = f; place = place }) in
    ap (λ r. by_first r second) is.place_is ∙ ap told (sym is.file_is)

pub second_damaged : (file : FileName) (place : ℕ) (says : Option State) (first second : Bytes) → slot_of 0 first ≡ Ok says → IsSlotDamage SlotB file (epoch_of says) place second → slots_of first second ≡ Err (record { file = file; place = place })
unfolding slots_of
second_damaged file place says first second one is =
    let told : FileName → Result State Damage = λ f. Err (record { file = f; place = place }) in
    ap (λ r. by_first r second) one ∙ ap (by_both says) is.place_is ∙ ap told (sym is.file_is)

-- a fault of one slot is one of both
pub first_fault : (e : StoreFault) (first second : Bytes) → ReadsOne SlotA 0 first (Err e) → ReadsBoth first second (Err e)
first_fault (Damaged file place) first second is = first_damaged file place first second is
first_fault Failed first second is = absurd is
first_fault NoMem first second is = tt

pub second_fault : (e : StoreFault) (says : Option State) (epoch : ℕ) (first second : Bytes) → slot_of 0 first ≡ Ok says → epoch ≡ epoch_of says → ReadsOne SlotB epoch second (Err e) → ReadsBoth first second (Err e)
second_fault (Damaged file place) says epoch first second one same is =
    second_damaged file place says first second one (record { file_is = is.file_is; place_is = sym (ap (λ (n : ℕ). slot_of n second) same) ∙ is.place_is })
second_fault Failed says epoch first second one same is = absurd is
second_fault NoMem says epoch first second one same is = tt

-- both slots, as they were read
pub both_read : (a b : ReadSlot) (epoch : ℕ) (slots : Slots) (first second : Bytes) → IsRead 0 a first → epoch ≡ epoch_of a.says → IsRead epoch b second → slots ≡ newer_slot a b → AreFoundSlots slots first second
both_read a b epoch slots first second one same other is =
    subst (λ (s : Slots). AreFoundSlots s first second) (sym is)
    (both_found a b first second one (record { says = sym (ap (λ (n : ℕ). slot_of n second) same) ∙ other.says; ends = other.ends }))

pub reads_same : (a b first second : Bytes) (r : Result Slots StoreFault) → a ≡ first → b ≡ second → ReadsBoth a b r → ReadsBoth first second r
reads_same a b first second r same also reads = subst (λ (x : Bytes). ReadsBoth x second r) same (subst (λ (y : Bytes). ReadsBoth a y r) also reads)
