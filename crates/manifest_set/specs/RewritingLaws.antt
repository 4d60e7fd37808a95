-- What the slots say while one is written anew.
use Rattle.std.proofs.Common.{◌≡◌, ◌⊎◌, inl, inr, ⊎_elim, ℕ, ◌+◌, ◌<◌, ◌≤◌, true, false, List, [], ◌∷◌, Option, Some, None, Ok, refl, sym, ◌∙◌, ap, subst, arith}
use Rattle.std.specs.Prelude.{nat_le, if◌then◌else◌}
use Rattle.std.specs.Option.{unwrap_or}
use Rattle.std.proofs.lemmas.Bool.Decides.{nat_tests}
use Rattle.kv_base.specs.Map.{Bytes}
use Rattle.kv_base.specs.declared.name.FileName.{FileName}
use Rattle.kv_base.specs.declared.name.FileName.TheVariants.{SlotA, SlotB, Segment, Table}
use Rattle.kv_outside.specs.Disk.{Disk, IsImage, CrashLeaves, Touches, Always}
use Rattle.kv_outside.specs.RunLaws.{run_widen, run_weaken, others_leave, begin_run, begin_always}
use Rattle.gated_log.specs.Gated.{records, EndsAt}
use Rattle.gated_log.specs.RecordLaws.{ends_records}
use Rattle.gated_log.specs.States.{LogState, Rests}
use Rattle.edit_codec.specs.Records.{read_state_head}
use Rattle.edit_codec.specs.States.{new_state, with_epoch, last_epoch, is_state_head}
use Rattle.edit_codec.specs.declared.state.State.{State}
use Rattle.manifest_set.specs.Slots.{said_by, slot_of, manifest_state, epoch_of, other_slot, IsSlot}
use Rattle.manifest_set.specs.SlotLaws.{said_by-none, said_by-head, raised_is_head}
use Rattle.manifest_set.specs.Keeping.{slot_bytes, SaysEarlierEpoch, AreFoundSlots, Has, IsManifestKept, LeavesBehind, SaysBeforeOrAfter, next_state}
use Rattle.manifest_set.specs.KeepLaws.{other_differs, other_is_slot, other_of_other, files_say}
use Rattle.manifest_set.specs.declared.slots.Slots.{Slots}
use Rattle.manifest_set.specs.Rewriting.{IsBeforeOrHead, TouchesSlot}

-- what a crash leaves of a slot that was read
pub slot_left : (disk : Disk) (P : Bytes → Bytes → Type 0) (has : Has disk P) (name : FileName) → IsSlot name → CrashLeaves disk name (λ c. c ≡ slot_bytes name has.first has.second)
slot_left disk P has SlotA is = has.first_left
slot_left disk P has SlotB is = has.second_left
slot_left disk P has (Segment n) is = absurd is
slot_left disk P has (Table t) is = absurd is

module _ (old new : Disk) (slots : Slots) (has : Has old (AreFoundSlots slots)) where
  abbrev pub own_bytes : Bytes
  own_bytes = slot_bytes slots.active has.first has.second

  abbrev pub other_bytes : Bytes
  other_bytes = slot_bytes (other_slot slots.active) has.first has.second

  -- the files say the state that was found, as long as the active slot is as it was and the other one is behind
  still_says : (files : FileName → Bytes) → files slots.active ≡ own_bytes → SaysEarlierEpoch has.are.says (files (other_slot slots.active)) → manifest_state files ≡ Ok slots.state
  still_says files own behind =
      files_say files slots.active has.are.says has.are.is_slot (ap (slot_of 0) own ∙ has.are.own) behind
      ∙ ap (λ (s : State). Ok s) (sym has.are.state)

  -- ---- into the other slot

  module _ (head : Bytes) (raised : State) (reads : read_state_head head ≡ Some raised) (later : epoch_of has.are.says < raised.epoch) where
    says_raised : said_by 0 (head ∷ []) ≡ Ok (Some raised)
    says_raised = said_by-head 0 head raised reads (λ none. absurd (omega (arith, later, none)))

    -- at each moment the slots say the state as it was, or in the next epoch
    pub rewrite_moments : Touches (other_slot slots.active) old new (IsBeforeOrHead (records other_bytes) head) → Always old new (SaysBeforeOrAfter slots.state raised)
    rewrite_moments run =
        run_widen (other_slot slots.active) old new (IsBeforeOrHead (records other_bytes) head) (SaysBeforeOrAfter slots.state raised) run (λ image here others.
        let own : image slots.active ≡ own_bytes =
        (slot_left old (AreFoundSlots slots) has slots.active has.are.is_slot).each (image slots.active) (others slots.active (λ same. other_differs slots.active has.are.is_slot (sym same))) in
        ⊎_elim
        (λ (before : records (image (other_slot slots.active)) ≡ records other_bytes). inl (still_says image own (record { other = has.are.behind.other; says = ap (said_by 0) before ∙ has.are.behind.says; outdone = has.are.behind.outdone })))
        (λ (changed : (records (image (other_slot slots.active)) ≡ []) ⊎ (records (image (other_slot slots.active)) ≡ head ∷ [])). ⊎_elim
        (λ (none : records (image (other_slot slots.active)) ≡ []). inl (still_says image own (record { other = None; says = ap (said_by 0) none ∙ said_by-none 0; outdone = inl refl })))
        (λ (is_state_head : records (image (other_slot slots.active)) ≡ head ∷ []). inr
        (files_say image (other_slot slots.active) (Some raised) (other_is_slot slots.active) (ap (said_by 0) is_state_head ∙ says_raised)
        (record { other = has.are.says; says = ap (slot_of 0) (ap image (other_of_other slots.active has.are.is_slot) ∙ own) ∙ has.are.own; outdone = inr later })))
        changed)
        here)

    pub rewrite_kept : (log : LogState) → log.name ≡ other_slot slots.active → Touches (other_slot slots.active) old new (IsBeforeOrHead (records other_bytes) head) → Rests new log (head ∷ []) → IsManifestKept new log raised
    rewrite_kept log same run rests =
        let named : other_slot log.name ≡ slots.active = ap other_slot same ∙ other_of_other slots.active has.are.is_slot in
        let left = others_leave (other_slot slots.active) slots.active old new (λ c. c ≡ own_bytes) (IsBeforeOrHead (records other_bytes) head) (λ same. other_differs slots.active has.are.is_slot (sym same)) run
        (slot_left old (AreFoundSlots slots) has slots.active has.are.is_slot) in
        record {
          is_slot = subst IsSlot (sym same) (other_is_slot slots.active);
          bodies = head ∷ [];
          rests = rests;
          says = says_raised;
          behind = subst (λ (n : FileName). LeavesBehind new n raised) (sym named)
              (record { each = λ c image. record { other = has.are.says; says = ap (slot_of 0) (left.each c image) ∙ has.are.own; outdone = inr later } });
        }

  -- ---- at the last epoch, in the active slot

  module _ (state : State) (is : has.are.says ≡ Some state) where
    found_state : slots.state ≡ state
    found_state = has.are.state ∙ ap (λ (o : Option State). unwrap_or o new_state) is

    pub go_on_moments : Touches slots.active old new (EndsAt slots.end (records own_bytes)) → Always old new (SaysBeforeOrAfter slots.state slots.state)
    go_on_moments run =
        run_widen slots.active old new (EndsAt slots.end (records own_bytes)) (SaysBeforeOrAfter slots.state slots.state) run (λ image here others.
        let other = (slot_left old (AreFoundSlots slots) has (other_slot slots.active) (other_is_slot slots.active)).each (image (other_slot slots.active)) (others (other_slot slots.active) (other_differs slots.active has.are.is_slot)) in
        inl (files_say image slots.active has.are.says has.are.is_slot (ap (said_by 0) (ends_records slots.end (records own_bytes) (image slots.active) here) ∙ has.are.own)
        (subst (λ (c : Bytes). SaysEarlierEpoch has.are.says c) (sym other) has.are.behind)
        ∙ ap (λ (s : State). Ok s) (sym has.are.state)))

    pub go_on_kept : (log : LogState) → log.name ≡ slots.active → Touches slots.active old new (EndsAt slots.end (records own_bytes)) → Rests new log (records own_bytes) → IsManifestKept new log slots.state
    go_on_kept log same run rests =
        let left = others_leave slots.active (other_slot slots.active) old new (λ c. c ≡ other_bytes) (EndsAt slots.end (records own_bytes)) (other_differs slots.active has.are.is_slot) run
        (slot_left old (AreFoundSlots slots) has (other_slot slots.active) (other_is_slot slots.active)) in
        record {
          is_slot = subst IsSlot (sym same) has.are.is_slot;
          bodies = records own_bytes;
          rests = rests;
          says = has.are.own ∙ ap (λ (o : Option State). Ok o) is ∙ ap (λ (s : State). Ok (Some s)) (sym found_state);
          behind = subst (λ (n : FileName). LeavesBehind new (other_slot n) slots.state) (sym same)
              (record {
                each = λ c image. subst (λ (b : Bytes). SaysEarlierEpoch (Some slots.state) b) (sym (left.each c image))
                    (subst (λ (o : Option State). SaysEarlierEpoch o other_bytes) (is ∙ ap (λ (s : State). Some s) (sym found_state)) has.are.behind);
              });
        }

  -- ---- a call that writes the state anew

  -- what a crash leaves now
  pub found_says : (image : FileName → Bytes) → IsImage old old.moment image → manifest_state image ≡ Ok slots.state
  found_says image is =
      still_says image ((slot_left old (AreFoundSlots slots) has slots.active has.are.is_slot).each (image slots.active) (is slots.active))
      (subst (λ (c : Bytes). SaysEarlierEpoch has.are.says c)
      (sym ((slot_left old (AreFoundSlots slots) has (other_slot slots.active) (other_is_slot slots.active)).each (image (other_slot slots.active)) (is (other_slot slots.active))))
      has.are.behind)

  pub nothing_written : (after : State) → Always old old (SaysBeforeOrAfter slots.state after)
  nothing_written after = begin_always old (SaysBeforeOrAfter slots.state after) (λ image is. inl (found_says image is))

  pub nothing_alone : TouchesSlot old old
  nothing_alone = record { slot = slots.active; is_slot = has.are.is_slot; run = begin_run slots.active old (λ c. Unit {0}) (record { each = λ c image. tt }) }

  epoch_is : slots.state.epoch ≡ epoch_of has.are.says
  epoch_is = ap (λ (s : State). s.epoch) has.are.state ∙ of_says has.are.says
    where
      of_says : (o : Option State) → (unwrap_or o new_state).epoch ≡ epoch_of o
      of_says None = refl
      of_says (Some s) = refl

  -- ---- at the last epoch

  module _ (last : last_epoch ≤ slots.state.epoch) where
    stays_the_same : next_state slots.state ≡ slots.state
    stays_the_same = ap (λ b. if b then slots.state else with_epoch (slots.state.epoch + 1) slots.state) (upto last_epoch slots.state.epoch last)
      where
        upto : (m n : ℕ) → m ≤ n → nat_le m n ≡ true
        upto m n le = grind (arith, nat_tests)

    some_state : (o : Option State) → last_epoch ≤ epoch_of o → (state : State) × (o ≡ Some state)
    some_state None le = absurd (omega arith)
    some_state (Some state) le = (state, refl)

    found : (state : State) × (has.are.says ≡ Some state)
    found = some_state has.are.says (omega (arith, last, epoch_is))

    module _ (any_moment : (bodies : List Bytes) → CrashLeaves old slots.active (EndsAt slots.end bodies) → Touches slots.active old new (EndsAt slots.end bodies)) where
      active_left : CrashLeaves old slots.active (EndsAt slots.end (records own_bytes))
      active_left = record {
        each = λ c image.
            subst (λ (b : Bytes). EndsAt slots.end (records own_bytes) b) (sym ((slot_left old (AreFoundSlots slots) has slots.active has.are.is_slot).each c image)) has.are.ends;
      }

      run : Touches slots.active old new (EndsAt slots.end (records own_bytes))
      run = any_moment (records own_bytes) active_left

      pub goes_on_alone : TouchesSlot old new
      goes_on_alone = record { slot = slots.active; is_slot = has.are.is_slot; run = run_weaken slots.active old new (EndsAt slots.end (records own_bytes)) (λ c. Unit {0}) run (λ c is. tt) }

      pub goes_on_moments : Always old new (SaysBeforeOrAfter slots.state (next_state slots.state))
      goes_on_moments = subst (λ (s : State). Always old new (SaysBeforeOrAfter slots.state s)) (sym stays_the_same) (go_on_moments found.0 found.1 run)

      pub goes_on_kept : (log : LogState) → log.name ≡ slots.active → ((bodies : List Bytes) → CrashLeaves old slots.active (EndsAt slots.end bodies) → Rests new log bodies) → IsManifestKept new log (next_state slots.state)
      goes_on_kept log same rests =
          subst (λ (s : State). IsManifestKept new log s) (sym stays_the_same) (go_on_kept found.0 found.1 log same run (rests (records own_bytes) active_left))

  -- ---- before the last epoch

  abbrev pub raised_state : State
  raised_state = with_epoch (slots.state.epoch + 1) slots.state

  module _ (low : slots.state.epoch < last_epoch) where
    goes_up : next_state slots.state ≡ raised_state
    goes_up = ap (λ b. if b then slots.state else raised_state) (above last_epoch slots.state.epoch low)
      where
        above : (m n : ℕ) → n < m → nat_le m n ≡ false
        above m n lt = grind (arith, nat_tests)

    limits : is_state_head raised_state ≡ true
    limits = (λ i. is_state_head (with_epoch (epoch_is i + 1) (has.are.state i))) ∙ raised
      where
        raised : is_state_head (with_epoch (epoch_of has.are.says + 1) (unwrap_or has.are.says new_state)) ≡ true
        raised = raised_is_head (records own_bytes) has.are.says has.are.own (omega (arith, low, epoch_is))

    module _ (head : Bytes) (reads : is_state_head raised_state ≡ true → read_state_head head ≡ Some raised_state)
        (any_moment : (bodies : List Bytes) → CrashLeaves old (other_slot slots.active) (λ c. records c ≡ bodies) → Touches (other_slot slots.active) old new (IsBeforeOrHead bodies head)) where
      later : epoch_of has.are.says < raised_state.epoch
      later = omega (arith, epoch_is)

      head_run : Touches (other_slot slots.active) old new (IsBeforeOrHead (records other_bytes) head)
      head_run = any_moment (records other_bytes) (record { each = λ c image. ap records ((slot_left old (AreFoundSlots slots) has (other_slot slots.active) (other_is_slot slots.active)).each c image) })

      pub anew_alone : TouchesSlot old new
      anew_alone = record {
        slot = other_slot slots.active;
        is_slot = other_is_slot slots.active;
        run = run_weaken (other_slot slots.active) old new (IsBeforeOrHead (records other_bytes) head) (λ c. Unit {0}) head_run (λ c is. tt);
      }

      pub anew_moments : Always old new (SaysBeforeOrAfter slots.state (next_state slots.state))
      anew_moments = subst (λ (s : State). Always old new (SaysBeforeOrAfter slots.state s)) (sym goes_up) (rewrite_moments head raised_state (reads limits) later head_run)

      pub anew_kept : (log : LogState) → log.name ≡ other_slot slots.active → Rests new log (head ∷ []) → IsManifestKept new log (next_state slots.state)
      anew_kept log same rests = subst (λ (s : State). IsManifestKept new log s) (sym goes_up) (rewrite_kept head raised_state (reads limits) later log same head_run rests)
