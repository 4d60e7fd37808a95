-- What the slots say at each moment of a call, and what a manifest keeps through it.
use Rattle.std.proofs.Common.{◌≡◌, ◌≢◌, ◌⊎◌, inl, inr, ⊎_elim, ◌<◌, ◌≤◌, Bool, true, false, [], ◌∷◌, ◌++◌, Option, Some, None, Ok, refl, sym, ◌∙◌, ap, subst, arith}
use Rattle.std.specs.Option.{unwrap_or}
use Rattle.kv_base.specs.Map.{Bytes}
use Rattle.kv_base.specs.declared.name.FileName.{FileName}
use Rattle.kv_base.specs.declared.name.FileName.TheVariants.{SlotA, SlotB, Segment, Table}
use Rattle.kv_outside.specs.Disk.{Disk, IsImage, Touches, Always}
use Rattle.kv_outside.specs.RunLaws.{run_widen, run_weaken, others_leave}
use Rattle.gated_log.specs.Gated as gated
use Rattle.gated_log.specs.Gated.{records}
use Rattle.gated_log.specs.States.{LogState, Rests, Wavers}
use Rattle.gated_log.specs.States as states
use Rattle.gated_log.specs.StillLaws.{others_show, rests_records}
use Rattle.edit_codec.specs.States.{new_state}
use Rattle.edit_codec.specs.declared.state.State.{State}
use Rattle.manifest_set.specs.Slots.{edited_state, said_by, slot_of, manifest_state, epoch_of, other_slot, IsSlot}
use Rattle.manifest_set.specs.SlotLaws.{edited_keeps, said_by-edited, first_says, second_says}
use Rattle.manifest_set.specs.Keeping.{SaysEarlierEpoch, IsManifestKept, IsManifestTried, IsManifestLeft, LeavesBehind, SaysBeforeOrAfter}

-- ---- names

pub other_differs : (name : FileName) → IsSlot name → other_slot name ≢ name
other_differs SlotA is same = absurd (cc)
other_differs SlotB is same = absurd (cc)
other_differs (Segment n) is same = is
other_differs (Table t) is same = is

pub other_is_slot : (name : FileName) → IsSlot (other_slot name)
other_is_slot SlotA = tt
other_is_slot SlotB = tt
other_is_slot (Segment n) = tt
other_is_slot (Table t) = tt

pub other_of_other : (name : FileName) → IsSlot name → other_slot (other_slot name) ≡ name
other_of_other SlotA is = refl
other_of_other SlotB is = refl
other_of_other (Segment n) is = absurd is
other_of_other (Table t) is = absurd is

-- ---- both slots together

-- a slot says this, and the other is behind
pub files_say : (files : FileName → Bytes) (name : FileName) (slot : Option State) → IsSlot name → slot_of 0 (files name) ≡ Ok slot → SaysEarlierEpoch slot (files (other_slot name)) → manifest_state files ≡ Ok (unwrap_or slot new_state)
files_say files SlotA slot is says behind = first_says (files SlotA) (files SlotB) slot behind.other says behind.says behind.outdone
files_say files SlotB slot is says behind = second_says (files SlotA) (files SlotB) slot behind.other behind.says says behind.outdone
files_say files (Segment n) slot is says behind = absurd is
files_say files (Table t) slot is says behind = absurd is

pub behind_later : (slot later : Option State) (bytes : Bytes) → epoch_of slot ≤ epoch_of later → SaysEarlierEpoch slot bytes → SaysEarlierEpoch later bytes
behind_later slot later bytes le behind = record {
  other = behind.other;
  says = behind.says;
  outdone = ⊎_elim (λ (none : behind.other ≡ None). inl none) (λ (earlier : epoch_of behind.other < epoch_of slot). inr (omega (arith, earlier, le))) behind.outdone;
}

abbrev SaysEither : State → State → Bytes → Type 0
SaysEither before after c = (slot_of 0 c ≡ Ok (Some before)) ⊎ (slot_of 0 c ≡ Ok (Some after))

-- a run on one slot, which says the state before or the one after
pub always_either : (name : FileName) (old new : Disk) (before after : State) → IsSlot name → Touches name old new (SaysEither before after) → LeavesBehind old (other_slot name) before → before.epoch ≤ after.epoch
    → Always old new (SaysBeforeOrAfter before after)
always_either name old new before after is run behind later =
    run_widen name old new (SaysEither before after) (SaysBeforeOrAfter before after) run (λ image here others.
    let other = behind.each (image (other_slot name)) (others (other_slot name) (other_differs name is)) in
    ⊎_elim
    (λ (says : slot_of 0 (image name) ≡ Ok (Some before)). inl (files_say image name (Some before) is says other))
    (λ (says : slot_of 0 (image name) ≡ Ok (Some after)). inr (files_say image name (Some after) is says (behind_later (Some before) (Some after) (image (other_slot name)) later other)))
    here)

-- ---- an edit

-- where its gate was not tried, the slots say the state before
pub edit_not_tried : (old new : Disk) (log : LogState) (before : State) (kept : IsManifestKept old log before) → Touches log.name old new (λ c. records c ≡ kept.bodies) → Always old new (λ files. manifest_state files ≡ Ok before)
edit_not_tried old new log before kept run =
    run_widen log.name old new (λ c. records c ≡ kept.bodies) (λ files. manifest_state files ≡ Ok before) run (λ image here others.
    files_say image log.name (Some before) kept.is_slot (ap (said_by 0) here ∙ kept.says) (kept.behind.each (image (other_slot log.name)) (others (other_slot log.name) (other_differs log.name kept.is_slot))))

module _ (old new : Disk) (log now : LogState) (before after : State) (body : Bytes) (kept : IsManifestKept old log before) (takes : edited_state before body ≡ Some after) where
  same_epoch : before.epoch ≤ after.epoch
  same_epoch = omega (arith, edited_keeps before after body takes)

  either : (c : Bytes) → gated.HasRecordsOrOneMore kept.bodies body c → SaysEither before after c
  either c is = ⊎_elim
      (λ (same : records c ≡ kept.bodies). inl (ap (said_by 0) same ∙ kept.says))
      (λ (more : records c ≡ kept.bodies ++ body ∷ []). inr (ap (said_by 0) more ∙ said_by-edited 0 kept.bodies before after body kept.says takes))
      is

  -- at each moment the slots say the state before, or the one after
  pub edit_moments : Touches log.name old new (gated.HasRecordsOrOneMore kept.bodies body) → Always old new (SaysBeforeOrAfter before after)
  edit_moments run = always_either log.name old new before after kept.is_slot (run_weaken log.name old new (gated.HasRecordsOrOneMore kept.bodies body) (SaysEither before after) run either) kept.behind same_epoch

  module _ (same : now.name ≡ log.name) (run : Touches log.name old new (gated.HasRecordsOrOneMore kept.bodies body)) where
    slot_now : IsSlot now.name
    slot_now = subst IsSlot (sym same) kept.is_slot

    behind_now : LeavesBehind new (other_slot now.name) before
    behind_now = subst (λ (n : FileName). LeavesBehind new (other_slot n) before) (sym same)
        (others_leave log.name (other_slot log.name) old new (SaysEarlierEpoch (Some before)) (gated.HasRecordsOrOneMore kept.bodies body) (other_differs log.name kept.is_slot) run kept.behind)

    pub edit_added : Rests new now (kept.bodies ++ body ∷ []) → IsManifestKept new now after
    edit_added rests = record {
      is_slot = slot_now;
      bodies = kept.bodies ++ body ∷ [];
      rests = rests;
      says = said_by-edited 0 kept.bodies before after body kept.says takes;
      behind = record { each = λ c image. behind_later (Some before) (Some after) c same_epoch (behind_now.each c image) };
    }

    pub edit_not_added : Rests new now kept.bodies → IsManifestKept new now before
    edit_not_added rests = record { is_slot = slot_now; bodies = kept.bodies; rests = rests; says = kept.says; behind = behind_now }

    pub edit_wavers : Wavers new now kept.bodies body → IsManifestTried new now before after
    edit_wavers wavers = record {
      is_slot = slot_now;
      bodies = kept.bodies;
      body = body;
      wavers = wavers;
      says = kept.says;
      then_says = said_by-edited 0 kept.bodies before after body kept.says takes;
      epoch = edited_keeps before after body takes;
      behind = behind_now;
    }

    pub edit_left : (unsure : Bool) → states.IsLeft unsure new now kept.bodies body → IsManifestLeft unsure new now before after
    edit_left true left = edit_wavers left
    edit_left false left = edit_not_added left

-- ---- a mending

module _ (old new : Disk) (log now : LogState) (before after : State) (tried : IsManifestTried old log before after) where
  pub mend_moments : Touches log.name old new (gated.HasRecordsOrOneMore tried.bodies tried.body) → Always old new (SaysBeforeOrAfter before after)
  mend_moments run =
      always_either log.name old new before after tried.is_slot
      (run_weaken log.name old new (gated.HasRecordsOrOneMore tried.bodies tried.body) (SaysEither before after) run (λ c is. ⊎_elim
      (λ (same : records c ≡ tried.bodies). inl (ap (said_by 0) same ∙ tried.says))
      (λ (more : records c ≡ tried.bodies ++ tried.body ∷ []). inr (ap (said_by 0) more ∙ tried.then_says))
      is))
      tried.behind (omega (arith, tried.epoch))

  module _ (same : now.name ≡ log.name) (run : Touches log.name old new (gated.HasRecordsOrOneMore tried.bodies tried.body)) where
    slot_then : IsSlot now.name
    slot_then = subst IsSlot (sym same) tried.is_slot

    behind_then : LeavesBehind new (other_slot now.name) before
    behind_then = subst (λ (n : FileName). LeavesBehind new (other_slot n) before) (sym same)
        (others_leave log.name (other_slot log.name) old new (SaysEarlierEpoch (Some before)) (gated.HasRecordsOrOneMore tried.bodies tried.body) (other_differs log.name tried.is_slot) run tried.behind)

    pub mend_mended : Rests new now tried.bodies → IsManifestKept new now before
    mend_mended rests = record { is_slot = slot_then; bodies = tried.bodies; rests = rests; says = tried.says; behind = behind_then }

    pub mend_not_mended : Wavers new now tried.bodies tried.body → IsManifestTried new now before after
    mend_not_mended wavers = record { is_slot = slot_then; bodies = tried.bodies; body = tried.body; wavers = wavers; says = tried.says; then_says = tried.then_says; epoch = tried.epoch; behind = behind_then }

-- ---- what stays while other files change, or none does

pub others_keep : (at : FileName) (old new : Disk) (P : Bytes → Type 0) (log : LogState) (state : State) → at ≢ SlotA → at ≢ SlotB → Touches at old new P → IsManifestKept old log state → IsManifestKept new log state
others_keep at old new P log state not_a not_b run kept = record {
  is_slot = kept.is_slot;
  bodies = kept.bodies;
  rests = others_show at log.name old new P (gated.IsShut log.end kept.bodies) log.held (apart log.name kept.is_slot) run kept.rests;
  says = kept.says;
  behind = others_leave at (other_slot log.name) old new (SaysEarlierEpoch (Some state)) P (apart (other_slot log.name) (other_is_slot log.name)) run kept.behind;
}
  where
    apart : (name : FileName) → IsSlot name → name ≢ at
    apart SlotA is same = not_a (sym same)
    apart SlotB is same = not_b (sym same)
    apart (Segment n) is same = is
    apart (Table t) is same = is

-- ---- what a crash leaves now

pub kept_says : (disk : Disk) (log : LogState) (state : State) → IsManifestKept disk log state → (image : FileName → Bytes) → IsImage disk disk.moment image → manifest_state image ≡ Ok state
kept_says disk log state kept image is =
    files_say image log.name (Some state) kept.is_slot
    (ap (said_by 0) ((rests_records disk log kept.bodies kept.rests).each (image log.name) (is log.name)) ∙ kept.says)
    (kept.behind.each (image (other_slot log.name)) (is (other_slot log.name)))

pub mend_alone : (old new : Disk) (inside log : LogState) (before after : State) → inside ≡ log → (tried : IsManifestTried old inside before after) → Touches inside.name old new (gated.HasRecordsOrOneMore tried.bodies tried.body)
    → Touches log.name old new (λ c. Unit {0})
mend_alone old new inside log before after is tried run =
    subst (λ (s : LogState). Touches s.name old new (λ c. Unit {0})) is (run_weaken inside.name old new (gated.HasRecordsOrOneMore tried.bodies tried.body) (λ c. Unit {0}) run (λ c here. tt))
