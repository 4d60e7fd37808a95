-- How calls of `Files` join into the steps of a log.
use Rattle.std.proofs.Common.{◌≡◌, ⊎_elim, ℕ, ◌<◌, ◌≤◌, List, length, Option, Some, None, IfSome, Result, Ok, Err, OnOk, OnErr, refl, sym, ◌∙◌, subst, arith}
use Rattle.std.proofs.lemmas.Bool.{cases_lt}
use Rattle.kv_base.specs.declared.name.FileName.{FileName}
use Rattle.kv_outside.specs.Disk.{Disk, NothingNew, Changes, Touches, Agrees, CrashLeaves, IsDurable}
use Rattle.kv_outside.specs.Files.{Goes, HasWritten, Torn}
use Rattle.kv_outside.specs.ToldLaws.{goes_keeps, told_given}
use Rattle.kv_outside.specs.RunLaws.{goes_on_then, run_change, at_end, agrees_still}
use Rattle.gated_log.specs.States.{Shows}
use Rattle.gated_log.specs.Steps.{TriesAt, Stores}
use Rattle.gated_log.proofs.Bytes.{Written, held_written}

pub on_ok : {T E P : Type 0} (r : Result T E) → P → OnOk r P
on_ok (Ok x) p = p
on_ok (Err e) p = tt

pub on_err : {T E P : Type 0} (r : Result T E) → P → OnErr r P
on_err (Ok x) p = tt
on_err (Err e) p = p

-- a call that changes nothing after one that changes the file
change_then_nothing : (at : FileName) (step : List ℕ → List ℕ → Type 0) (old mid new : Disk) → ((c : List ℕ) → step c c) → Changes at step old mid → NothingNew mid new → Changes at step old new
change_then_nothing at step old mid new stays first second = record {
  goes_on = goes_on_then old mid new first.goes_on second.goes_on;
  own = λ k c from to image. ⊎_elim
      (λ (lt : mid.moment < k). own_mid c (second.since k at c lt to image))
      (λ (le : k ≤ mid.moment). first.own k c from le (second.goes_on.past k at c le image))
      (cases_lt mid.moment k);
  others = λ k name c other from to image. ⊎_elim
      (λ (lt : mid.moment < k). others_mid name c other (second.since k name c lt to image))
      (λ (le : k ≤ mid.moment). first.others k name c other from le (second.goes_on.past k name c le image))
      (cases_lt mid.moment k);
  reads = λ name other. second.reads name ∙ first.reads name other;
}
  where
    own_mid : (c : List ℕ) → mid.images mid.moment at c → (d : List ℕ) × old.images old.moment at d × step d c
    own_mid c image = ⊎_elim
        (λ (lt : old.moment < mid.moment). first.own mid.moment c lt (omega arith) image)
        (λ (le : mid.moment ≤ old.moment). (c, first.goes_on.past old.moment at c (omega arith) (subst (λ (k : ℕ). mid.images k at c) (same le) image), stays c))
        (cases_lt old.moment mid.moment)
      where
        same : mid.moment ≤ old.moment → mid.moment ≡ old.moment
        same le = omega (arith, le, first.goes_on.later)

    others_mid : (name : FileName) (c : List ℕ) → (name ≡ at → ⊥) → mid.images mid.moment name c → old.images old.moment name c
    others_mid name c other image = ⊎_elim
        (λ (lt : old.moment < mid.moment). first.others mid.moment name c other lt (omega arith) image)
        (λ (le : mid.moment ≤ old.moment). first.goes_on.past old.moment name c (omega arith) (subst (λ (k : ℕ). mid.images k name c) (same le) image))
        (cases_lt old.moment mid.moment)
      where
        same : mid.moment ≤ old.moment → mid.moment ≡ old.moment
        same le = omega (arith, le, first.goes_on.later)

torn_stays : (at n : ℕ) (c : List ℕ) → Torn at n c c
torn_stays at n c = record { before = refl; after = refl; no_shorter = omega arith; no_longer = omega arith }

-- a write, and a sync after it
pub write_and_sync : (at : ℕ) (bytes : List ℕ) (name : FileName) (old mid new : Disk) (held next now : Option (List ℕ)) → Goes (Torn at (length bytes)) held next → (Agrees old name held → Agrees mid name next)
    → Changes name (Torn at (length bytes)) old mid → NothingNew mid new → now ≡ next → TriesAt at bytes name old new held now
write_and_sync at bytes name old mid new held next now torn agrees change sync same = record {
  torn = subst (λ (o : Option (List ℕ)). Goes (Torn at (length bytes)) held o) (sym same) torn;
  agrees = λ before. agrees_still name mid new next now (sync.reads name) same (agrees before);
  disk = change_then_nothing name (Torn at (length bytes)) old mid new (torn_stays at (length bytes)) change sync;
}

-- one call that changes the file, from what each image has to what it may come to have
pub run_into : (at : FileName) (step : List ℕ → List ℕ → Type 0) (old new : Disk) (P Q : List ℕ → Type 0) → Changes at step old new
    → CrashLeaves old at P → ((c : List ℕ) → P c → Q c) → ((d c : List ℕ) → P d → step d c → Q c) → Touches at old new Q
run_into at step old new P Q call here stays next = record {
  goes_on = call.goes_on;
  own = λ k c from to image. ⊎_elim
      (λ (lt : old.moment < k). let was = call.own k c lt to image in next was.0 c (here.each was.0 was.1) was.2)
      (λ (le : k ≤ old.moment). let same : k ≡ old.moment = omega arith in stays c (here.each c (subst (λ (n : ℕ). old.images n at c) same (call.goes_on.past k at c le image))))
      (cases_lt old.moment k);
  others = (run_change at step old new (λ c. Unit {0}) call (record { each = λ c image. tt }) (λ d c u step. tt)).others;
  reads = call.reads;
}

-- what is durable has what the held bytes have
pub durable_has : (disk : Disk) (name : FileName) (held : Option (List ℕ)) (P : List ℕ → Type 0) → IsDurable disk name held → IfSome held P → CrashLeaves disk name P
durable_has disk name held P durable has = record { each = λ c image. subst (λ (o : Option (List ℕ)). IfSome o P) (durable.only c image) has }

pub shows_named : (disk : Disk) (name after : FileName) (held : Option (List ℕ)) (P : List ℕ → Type 0) → after ≡ name → Shows disk name held P → Shows disk after held P
shows_named disk name after held P same shows = subst (λ (n : FileName). Shows disk n held P) (sym same) shows

pub run_named : (name after : FileName) (old new : Disk) (P : List ℕ → Type 0) → after ≡ name → Touches after old new P → Touches name old new P
run_named name after old new P same run = subst (λ (n : FileName). Touches n old new P) same run

-- what was written stands there, where the bytes are told
pub told_written : (at : ℕ) (bytes : List ℕ) (held now : Option (List ℕ)) → IfSome held (λ d. at ≤ length d) → Goes (HasWritten at bytes) held now → IfSome now (Written at bytes)
told_written at bytes held now within written = goes_keeps (HasWritten at bytes) (λ d. at ≤ length d) (Written at bytes) (λ d c le holds. held_written at bytes d c le holds) held now written within

pub told_both : (P Q R : List ℕ → Type 0) → ((c : List ℕ) → P c → Q c → R c) → (held : Option (List ℕ)) → IfSome held P → IfSome held Q → IfSome held R
told_both P Q R leads None p q = tt
told_both P Q R leads (Some c) p q = leads c p q

-- A store that was tried, where each step keeps P; and one that is done, which leads from P, with the bytes at their place,
-- to Q. Of what the log tells, and of what the disk has.
module _ (at : ℕ) (bytes : List ℕ) (name : FileName) (old new : Disk) (held now : Option (List ℕ)) (P : List ℕ → Type 0)
    (tries : TriesAt at bytes name old new held now) (keeps : (d c : List ℕ) → P d → Torn at (length bytes) d c → P c) where
  pub tries_tell : IfSome held P → IfSome now P
  tries_tell told = goes_keeps (Torn at (length bytes)) P P keeps held now tries.torn told

  pub tries_run : Shows old name held P → Touches name old new P
  tries_run shows = run_change name (Torn at (length bytes)) old new P tries.disk shows.images keeps

  pub tries_shows : Shows old name held P → Shows new name now P
  tries_shows shows = record { agrees = tries.agrees shows.agrees; images = at_end name old new P (tries_run shows) }

  module _ (Q : List ℕ → Type 0) (within : IfSome held (λ d. at ≤ length d)) (stores : Stores at bytes name old new held now) (leads : (c : List ℕ) → P c → Written at bytes c → Q c) where
    pub stores_tell : IfSome held P → IfSome now Q
    stores_tell told = told_both P (Written at bytes) Q leads now (tries_tell told) (told_written at bytes held now within stores.written)

    pub stores_shows : Shows old name held P → Shows new name now Q
    stores_shows shows =
        let after = tries_shows shows in
        record {
          agrees = after.agrees;
          images = record {
            each = λ c image. leads c (after.images.each c image)
                (told_given (Written at bytes) now c ((stores.durable shows.agrees).only c image) (told_written at bytes held now within stores.written));
          };
        }
