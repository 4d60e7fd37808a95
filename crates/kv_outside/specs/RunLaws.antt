-- How calls compose into runs: of each moment of a run, and of each image at it.
use Rattle.std.proofs.Common.{◌≡◌, ◌≢◌, ⊎_elim, Option, ℕ, ◌<◌, ◌≤◌, List, refl, ◌∙◌, sym, subst, arith}
use Rattle.std.proofs.lemmas.Bool.{cases_lt}
use Rattle.kv_base.specs.declared.name.FileName.{FileName}
use Rattle.kv_outside.specs.Disk.{Disk, IsImage, GoesOn, NothingNew, Changes, CrashLeaves, Agrees, Touches, Always}

pub stays : (disk : Disk) → GoesOn disk disk
stays disk = record {
  later = omega arith;
  past = λ k name c le image. image;
  kept = λ k name c le image. image;
}

pub goes_on_then : (old mid new : Disk) → GoesOn old mid → GoesOn mid new → GoesOn old new
goes_on_then old mid new first second = record {
  later = omega (arith, first.later, second.later);
  past = λ k name c le image. first.past k name c le (second.past k name c (omega (arith, first.later)) image);
  kept = λ k name c le image. second.kept k name c (omega (arith, first.later)) (first.kept k name c le image);
}

-- ---- where no call was made

pub nothing_new : (disk : Disk) → NothingNew disk disk
nothing_new disk = record {
  goes_on = stays disk;
  since = λ k name c from to image. absurd (omega arith);
  reads = λ name. refl;
}

-- two calls that change nothing
pub nothing_then : (old mid new : Disk) → NothingNew old mid → NothingNew mid new → NothingNew old new
nothing_then old mid new first second = record {
  goes_on = goes_on_then old mid new first.goes_on second.goes_on;
  since = λ k name c from to image. ⊎_elim
      (λ (lt : mid.moment < k). since_mid name c (second.since k name c lt to image))
      (λ (le : k ≤ mid.moment). first.since k name c from le (second.goes_on.past k name c le image))
      (cases_lt mid.moment k);
  reads = λ name. second.reads name ∙ first.reads name;
}
  where
    since_mid : (name : FileName) (c : List ℕ) → mid.images mid.moment name c → old.images old.moment name c
    since_mid name c image = ⊎_elim
        (λ (lt : old.moment < mid.moment). first.since mid.moment name c lt (omega arith) image)
        (λ (le : mid.moment ≤ old.moment). first.goes_on.past old.moment name c (omega arith) (subst (λ (k : ℕ). mid.images k name c) (same le) image))
        (cases_lt old.moment mid.moment)
      where
        same : mid.moment ≤ old.moment → mid.moment ≡ old.moment
        same le = omega (arith, le, first.goes_on.later)

pub no_change : (at : FileName) (step : List ℕ → List ℕ → Type 0) (disk : Disk) → Changes at step disk disk
no_change at step disk = record {
  goes_on = stays disk;
  own = λ k c from to image. absurd (omega arith);
  others = λ k name c other from to image. absurd (omega arith);
  reads = λ name other. refl;
}

-- ---- runs on one file

-- before the first call
pub begin_run : (at : FileName) (disk : Disk) (P : List ℕ → Type 0) → CrashLeaves disk at P → Touches at disk disk P
begin_run at disk P here = record {
  goes_on = stays disk;
  own = λ k c from to image. let same : k ≡ disk.moment = omega arith in here.each c (subst (λ (n : ℕ). disk.images n at c) same image);
  others = λ k name c other from to image. let same : k ≡ disk.moment = omega arith in subst (λ (n : ℕ). disk.images n name c) same image;
  reads = λ name other. refl;
}

-- a run after a run
pub run_then : (at : FileName) (old mid new : Disk) (P : List ℕ → Type 0) → Touches at old mid P → Touches at mid new P → Touches at old new P
run_then at old mid new P first second = record {
  goes_on = goes_on_then old mid new first.goes_on second.goes_on;
  own = λ k c from to image. ⊎_elim
      (λ (lt : mid.moment < k). second.own k c (omega arith) to image)
      (λ (le : k ≤ mid.moment). first.own k c from le (second.goes_on.past k at c le image))
      (cases_lt mid.moment k);
  others = λ k name c other from to image. ⊎_elim
      (λ (lt : mid.moment < k). first.others mid.moment name c other first.goes_on.later (omega arith) (second.others k name c other (omega arith) to image))
      (λ (le : k ≤ mid.moment). first.others k name c other from le (second.goes_on.past k name c le image))
      (cases_lt mid.moment k);
  reads = λ name other. second.reads name other ∙ first.reads name other;
}

-- one call that changes the file
pub run_change : (at : FileName) (step : List ℕ → List ℕ → Type 0) (old new : Disk) (P : List ℕ → Type 0) → Changes at step old new
    → CrashLeaves old at P → ((d c : List ℕ) → P d → step d c → P c) → Touches at old new P
run_change at step old new P call here next = record {
  goes_on = call.goes_on;
  own = λ k c from to image. ⊎_elim
      (λ (lt : old.moment < k). let was = call.own k c lt to image in next was.0 c (here.each was.0 was.1) was.2)
      (λ (le : k ≤ old.moment). let same : k ≡ old.moment = omega arith in here.each c (subst (λ (n : ℕ). old.images n at c) same (call.goes_on.past k at c le image)))
      (cases_lt old.moment k);
  others = λ k name c other from to image. ⊎_elim
      (λ (lt : old.moment < k). call.others k name c other lt to image)
      (λ (le : k ≤ old.moment). let same : k ≡ old.moment = omega arith in subst (λ (n : ℕ). old.images n name c) same (call.goes_on.past k name c le image))
      (cases_lt old.moment k);
  reads = call.reads;
}

-- a call that changes nothing changes each file by no step
pub nothing_changes : (at : FileName) (old new : Disk) → NothingNew old new → Changes at (λ d c. c ≡ d) old new
nothing_changes at old new call = record {
  goes_on = call.goes_on;
  own = λ k c from to image. (c, call.since k at c from to image, refl);
  others = λ k name c other from to image. call.since k name c from to image;
  reads = λ name other. call.reads name;
}

-- one call that changes nothing
pub run_nothing : (at : FileName) (old new : Disk) (P : List ℕ → Type 0) → NothingNew old new → CrashLeaves old at P → Touches at old new P
run_nothing at old new P call here =
    run_change at (λ d c. c ≡ d) old new P (nothing_changes at old new call) here (λ d c was same. subst P (back d c same) was)
  where
    back : (d c : List ℕ) → c ≡ d → d ≡ c
    back d c same = cc

-- what follows from P
pub run_weaken : (at : FileName) (old new : Disk) (P Q : List ℕ → Type 0) → Touches at old new P → ((c : List ℕ) → P c → Q c) → Touches at old new Q
run_weaken at old new P Q run leads = record {
  goes_on = run.goes_on;
  own = λ k c from to image. leads c (run.own k c from to image);
  others = run.others;
  reads = run.reads;
}

-- what a crash may leave of the file when the run has ended
pub at_end : (at : FileName) (old new : Disk) (P : List ℕ → Type 0) → Touches at old new P → CrashLeaves new at P
at_end at old new P run = record { each = λ c image. run.own new.moment c run.goes_on.later (omega arith) image }

-- what it might leave when the run began
pub at_start : (at : FileName) (old new : Disk) (P : List ℕ → Type 0) → Touches at old new P → CrashLeaves old at P
at_start at old new P run = record {
  each = λ c image. run.own old.moment c (omega arith) run.goes_on.later (run.goes_on.kept old.moment at c (omega arith) image);
}

-- a run, and then one call more
pub more_nothing : (at : FileName) (old mid new : Disk) (P : List ℕ → Type 0) → Touches at old mid P → NothingNew mid new → Touches at old new P
more_nothing at old mid new P run call = run_then at old mid new P run (run_nothing at mid new P call (at_end at old mid P run))

pub more_change : (at after : FileName) (step : List ℕ → List ℕ → Type 0) (old mid new : Disk) (P : List ℕ → Type 0) → after ≡ at → Touches at old mid P → Changes after step mid new
    → ((d c : List ℕ) → P d → step d c → P c) → Touches at old new P
more_change at after step old mid new P same run call keeps =
    let named : Changes at step mid new = subst (λ (n : FileName). Changes n step mid new) same call in
    run_then at old mid new P run (run_change at step mid new P named (at_end at old mid P run) keeps)

-- a log agrees with its disk still where the file reads as it did and the log holds what it held
pub agrees_still : (name : FileName) (old new : Disk) (held now : Option (List ℕ)) → new.reads name ≡ old.reads name → now ≡ held → Agrees old name held → Agrees new name now
agrees_still name old new held now reads same agrees = record { told = λ bytes is. same ∙ agrees.told bytes (sym reads ∙ is) }

-- what a run on one file leaves of another
pub others_leave : (at name : FileName) (old new : Disk) (Q : List ℕ → Type 0) (P : List ℕ → Type 0) → name ≢ at → Touches at old new P → CrashLeaves old name Q → CrashLeaves new name Q
others_leave at name old new Q P other run leaves = record { each = λ c image. leaves.each c (run.others new.moment name c other run.goes_on.later (omega arith) image) }

-- a log of another file, which agreed before the run
pub others_agree : (at name : FileName) (old new : Disk) (P : List ℕ → Type 0) (held : Option (List ℕ)) → name ≢ at → Touches at old new P → Agrees old name held → Agrees new name held
others_agree at name old new P held other run agrees = agrees_still name old new held held (run.reads name other) refl agrees

-- ---- runs on the whole disk

-- before the first call
pub begin_always : (disk : Disk) (Q : (FileName → List ℕ) → Type 0) → ((image : FileName → List ℕ) → IsImage disk disk.moment image → Q image) → Always disk disk Q
begin_always disk Q here = record {
  goes_on = stays disk;
  each = λ k image from to is. let same : k ≡ disk.moment = omega arith in here image (λ name. subst (λ (n : ℕ). disk.images n name (image name)) same (is name));
}

-- a run on one file, as a run on the whole disk
pub run_widen : (at : FileName) (old new : Disk) (P : List ℕ → Type 0) (Q : (FileName → List ℕ) → Type 0) → Touches at old new P
    → ((image : FileName → List ℕ) → P (image at) → ((name : FileName) → name ≢ at → old.images old.moment name (image name)) → Q image)
    → Always old new Q
run_widen at old new P Q run leads = record {
  goes_on = run.goes_on;
  each = λ k image from to is. leads image (run.own k (image at) from to (is at)) (λ name other. run.others k name (image name) other from to (is name));
}

-- a run after a run
pub always_then : (old mid new : Disk) (Q : (FileName → List ℕ) → Type 0) → Always old mid Q → Always mid new Q → Always old new Q
always_then old mid new Q first second = record {
  goes_on = goes_on_then old mid new first.goes_on second.goes_on;
  each = λ k image from to is. ⊎_elim
      (λ (lt : mid.moment < k). second.each k image (omega arith) to is)
      (λ (le : k ≤ mid.moment). first.each k image from le (λ name. second.goes_on.past k name (image name) le (is name)))
      (cases_lt mid.moment k);
}

-- what follows from Q
pub always_weaken : (old new : Disk) (P Q : (FileName → List ℕ) → Type 0) → Always old new P → ((image : FileName → List ℕ) → P image → Q image) → Always old new Q
always_weaken old new P Q run leads = record {
  goes_on = run.goes_on;
  each = λ k image from to is. leads image (run.each k image from to is);
}

-- one call that changes nothing
pub always_nothing : (old new : Disk) (Q : (FileName → List ℕ) → Type 0) → NothingNew old new → ((image : FileName → List ℕ) → IsImage old old.moment image → Q image) → Always old new Q
always_nothing old new Q call here = record {
  goes_on = call.goes_on;
  each = λ k image from to is. ⊎_elim
      (λ (lt : old.moment < k). here image (λ name. call.since k name (image name) lt to (is name)))
      (λ (le : k ≤ old.moment).
      let same : k ≡ old.moment = omega arith in
      here image (λ name. subst (λ (n : ℕ). old.images n name (image name)) same (call.goes_on.past k name (image name) le (is name))))
      (cases_lt old.moment k);
}
