-- How the calls of a manifest join those of its files.
use Rattle.std.proofs.Common.{◌≡◌, inl, inr, ⊎_elim, Bool, true, List, [], ◌∷◌, Some, Result, Ok, Err, OnOk, OnErr, sym, ◌∙◌, subst}
use Rattle.kv_base.specs.Map.{Bytes}
use Rattle.kv_base.specs.declared.name.FileName.{FileName}
use Rattle.kv_base.specs.declared.name.FileName.TheVariants.{SlotA, SlotB}
use Rattle.kv_base.specs.declared.fault.StoreFault.{StoreFault}
use Rattle.kv_base.specs.declared.fault.StoreFault.TheVariants.{Failed, Damaged, NoMem}
use Rattle.kv_outside.specs.Disk.{Disk, NothingNew, CrashLeaves, Touches}
use Rattle.kv_outside.specs.RunLaws.{run_nothing, run_then, run_weaken, at_end}
use Rattle.gated_log.specs.Gated.{records, HasRecordsOrNone, HasRecordsOrOneMore}
use Rattle.gated_log.specs.States.{LogState, Rests, IsLeft}
use Rattle.edit_codec.specs.declared.state.State.{State}
use Rattle.manifest_set.specs.Keeping.{Has, AreFoundSlots, IsManifestKept, IsManifestTried, ReadsSlots}
use Rattle.manifest_set.specs.Reading.{ReadsBoth}
use Rattle.manifest_set.specs.Rewriting.{IsBeforeOrHead}
use Rattle.manifest_set.specs.declared.slots.Slots.{Slots}

-- ---- both slots are read

module _ (old mid new : Disk) (first second : Bytes) (one : NothingNew old mid) (two : NothingNew mid new)
    (first_told : (own : Bytes) → old.reads SlotA ≡ Some own → first ≡ own) (second_told : (own : Bytes) → mid.reads SlotB ≡ Some own → second ≡ own)
    (first_left : CrashLeaves mid SlotA (λ c. c ≡ first)) (second_left : CrashLeaves new SlotB (λ c. c ≡ second)) where
  has_both : (P : Bytes → Bytes → Type 0) → P first second → Has new P
  has_both P are = record {
    first = first;
    second = second;
    first_told = λ own is. first_told own (sym (two.reads SlotA ∙ one.reads SlotA) ∙ is);
    second_told = λ own is. second_told own (sym (two.reads SlotB) ∙ is);
    first_left = at_end SlotA mid new (λ c. c ≡ first) (run_nothing SlotA mid new (λ c. c ≡ first) two first_left);
    second_left = second_left;
    are = are;
  }

  pub slots_read : (r : Result Slots StoreFault) → ReadsBoth first second r → ReadsSlots new r
  slots_read (Ok slots) reads = has_both (AreFoundSlots slots) reads
  slots_read (Err (Damaged file place)) reads = has_both _ reads
  slots_read (Err Failed) reads = tt
  slots_read (Err NoMem) reads = tt

-- ---- a head is written

pub reset_only : (name : FileName) (old new : Disk) (bodies : List Bytes) (head : Bytes) → Touches name old new (HasRecordsOrNone bodies) → Touches name old new (IsBeforeOrHead bodies head)
reset_only name old new bodies head run =
    run_weaken name old new (HasRecordsOrNone bodies) (IsBeforeOrHead bodies head) run (λ c is. ⊎_elim (λ (before : records c ≡ bodies). inl before) (λ (none : records c ≡ []). inr (inl none)) is)

pub head_run : (name after : FileName) (old mid new : Disk) (bodies : List Bytes) (head : Bytes) → after ≡ name → Touches name old mid (HasRecordsOrNone bodies) → Touches after mid new (HasRecordsOrOneMore [] head)
    → Touches name old new (IsBeforeOrHead bodies head)
head_run name after old mid new bodies head same first second =
    run_then name old mid new (IsBeforeOrHead bodies head) (reset_only name old mid bodies head first)
    (run_weaken name mid new (HasRecordsOrOneMore [] head) (IsBeforeOrHead bodies head) (subst (λ (n : FileName). Touches n mid new (HasRecordsOrOneMore [] head)) same second)
    (λ c is. ⊎_elim (λ (none : records c ≡ []). inr (inl none)) (λ (there : records c ≡ head ∷ []). inr (inr there)) is))

pub on_err : {T E P : Type 0} (r : Result T E) → P → OnErr r P
on_err (Ok x) p = tt
on_err (Err e) p = p

pub on_ok_then : {T E P Q : Type 0} (r : Result T E) → OnOk r P → (P → Q) → OnOk r Q
on_ok_then (Ok x) p leads = leads p
on_ok_then (Err e) p leads = tt

pub on_err_then : {T E P Q : Type 0} (r : Result T E) → OnErr r P → (P → Q) → OnErr r Q
on_err_then (Ok x) p leads = tt
on_err_then (Err e) p leads = leads p

-- ---- what is kept of a manifest is kept of its slot

pub kept_inside : (disk : Disk) (inside log : LogState) (state : State) → inside ≡ log → IsManifestKept disk log state → IsManifestKept disk inside state
kept_inside disk inside log state is kept = subst (λ (s : LogState). IsManifestKept disk s state) (sym is) kept

pub tried_inside : (disk : Disk) (inside log : LogState) (before after : State) → inside ≡ log → IsManifestTried disk log before after → IsManifestTried disk inside before after
tried_inside disk inside log before after is tried = subst (λ (s : LogState). IsManifestTried disk s before after) (sym is) tried

pub tried_left : (disk : Disk) (log : LogState) (before after : State) → log.unsure ≡ true → (tried : IsManifestTried disk log before after) → IsLeft log.unsure disk log tried.bodies tried.body
tried_left disk log before after unsure tried = subst (λ (b : Bool). IsLeft b disk log tried.bodies tried.body) (sym unsure) tried.wavers

pub head_named : (name after : FileName) (old new : Disk) (head : Bytes) → after ≡ name → ((bodies : List Bytes) → CrashLeaves old after (λ c. records c ≡ bodies) → Touches after old new (IsBeforeOrHead bodies head))
    → (bodies : List Bytes) → CrashLeaves old name (λ c. records c ≡ bodies) → Touches name old new (IsBeforeOrHead bodies head)
head_named name after old new head same any_moment =
    subst (λ (n : FileName). (bodies : List Bytes) → CrashLeaves old n (λ c. records c ≡ bodies) → Touches n old new (IsBeforeOrHead bodies head)) same any_moment

pub rests_inside : (disk : Disk) (inside log : LogState) (bodies : List Bytes) → inside ≡ log → Rests disk log bodies → Rests disk inside bodies
rests_inside disk inside log bodies is rests = subst (λ (s : LogState). Rests disk s bodies) (sym is) rests
