-- What the calls of a disk in memory owe the trait, also where nothing was recorded.
use Rattle.std.proofs.Common.{◌≡◌, ℕ, List, [], Some, Result, OnOk, OnErr, refl, sym, subst}
use Rattle.kv_base.specs.declared.name.FileName.{FileName}
use Rattle.kv_outside.specs.Disk.{Changes, Agrees}
use Rattle.kv_outside.specs.RunLaws.{no_change}
use Rattle.kv_fakes.specs.declared.past.Change.{Change}
use Rattle.kv_fakes.specs.declared.past.ChangeKind.{ChangeKind}
use Rattle.kv_fakes.specs.Past.{after_change, with_change, NotThere, disk_of}
use Rattle.kv_fakes.specs.ImageLaws.{image_now, left_is_image}
use Rattle.kv_fakes.specs.Crash.{left_after}
use Rattle.kv_fakes.proofs.Pushed.{agrees_after}
use Rattle.kv_fakes.proofs.Outcomes.{on_each, on_both, err_both}

pub changes_or_none : {T E : Type 0} (r : Result T E) (old new : List Change) (at : FileName) (kind : ChangeKind) (step : List ℕ → List ℕ → Type 0)
    → (new ≡ with_change old at kind → Changes at step (disk_of old) (disk_of new)) → OnOk r (new ≡ with_change old at kind) → OnErr r (new ≡ old) → Changes at step (disk_of old) (disk_of new)
changes_or_none r old new at kind step made = on_each r made (λ (none : new ≡ old). subst (λ (l : List Change). Changes at step (disk_of old) (disk_of l)) (sym none) (no_change at step (disk_of old)))

pub agrees_or_none : {T E : Type 0} (r : Result T E) (old new : List Change) (at : FileName) (kind : ChangeKind) (held now : List ℕ)
    → OnOk r (new ≡ with_change old at kind) → OnErr r (new ≡ old) → OnOk r (now ≡ after_change kind held) → OnErr r (now ≡ held)
    → Agrees (disk_of old) at (Some held) → Agrees (disk_of new) at (Some now)
agrees_or_none r old new at kind held now recorded none made kept agrees =
    on_each {A = Agrees (disk_of new) at (Some now)} {B = Agrees (disk_of new) at (Some now)} r (λ a. a) (λ a. a)
    (on_both r (λ (is : new ≡ with_change old at kind) (same : now ≡ after_change kind held). subst (λ (l : List ℕ). Agrees (disk_of new) at (Some l)) (sym same) (agrees_after old new at kind is held agrees)) recorded made)
    (err_both r (λ (is : new ≡ old) (same : now ≡ held). subst (λ (l : List Change). Agrees (disk_of l) at (Some now)) (sym is) (subst (λ (l : List ℕ). Agrees (disk_of old) at (Some l)) (sym same) agrees)) none kept)

-- a change that leaves the bytes as they are
pub agrees_noted : {T E : Type 0} (r : Result T E) (old new : List Change) (at : FileName) (kind : ChangeKind) (held : List ℕ) → after_change kind held ≡ held
    → OnOk r (new ≡ with_change old at kind) → OnErr r (new ≡ old) → Agrees (disk_of old) at (Some held) → Agrees (disk_of new) at (Some held)
agrees_noted r old new at kind held same recorded none agrees = on_each r
    (λ (is : new ≡ with_change old at kind). subst (λ (l : List ℕ). Agrees (disk_of new) at (Some l)) same (agrees_after old new at kind is held agrees))
    (λ (is : new ≡ old). subst (λ (l : List Change). Agrees (disk_of l) at (Some held)) (sym is) agrees)
    recorded none

-- what a crash leaves is an image
pub crash_image : (changes : List Change) (choice : ℕ) (name : FileName) (left : List ℕ) → left ≡ left_after changes choice name [] → (disk_of changes).images (disk_of changes).moment name left
crash_image changes choice name left is =
    subst (λ (l : List ℕ). (disk_of changes).images (disk_of changes).moment name l) (sym is)
    (image_now changes name (left_after changes choice name []) (left_is_image changes choice name [] [] NotThere refl refl (λ e. refl)))
