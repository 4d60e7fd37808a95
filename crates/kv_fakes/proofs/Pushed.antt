-- One more change in the record.
use Rattle.std.proofs.Common.{◌≡◌, ◌≢◌, ℕ, ◌+◌, ◌<◌, ◌≤◌, Bool, true, false, List, [], ◌∷◌, ◌++◌, length, take, Some, refl, sym, ◌∙◌, ap, subst, arith, length-append}
use Rattle.std.proofs.lemmas.List.{take_all, take-append-le}
use Rattle.kv_base.specs.declared.name.FileName.{FileName}
use Rattle.kv_base.specs.Name.{same_name}
use Rattle.kv_base.specs.NameLaws.{same_name_self, same_name_other}
use Rattle.kv_outside.specs.Disk.{GoesOn, NothingNew, Changes, Agrees, IsDurable}
use Rattle.kv_outside.specs.Files.{Torn, Shortened, Purged}
use Rattle.kv_fakes.specs.declared.past.Change.{Change}
use Rattle.kv_fakes.specs.declared.past.ChangeKind.{ChangeKind}
use Rattle.kv_fakes.specs.declared.past.ChangeKind.TheVariants.{Written, Cut, Synced, Gone, Placed}
use Rattle.kv_fakes.specs.Past.{after_change, own_or, with_change, read_after, ImageAfter, ImageIf, images_after, NotThere, disk_of}
use Rattle.kv_fakes.specs.ImageLaws.{read_is_image, image_now}

pub images-push : (changes : List Change) (change : Change) (name : FileName) (now : List ℕ) (Image : List ℕ → Type 0) (c : List ℕ)
    → images_after (changes ++ change ∷ []) name now Image c ≡ ImageIf (same_name change.name name) change.kind (read_after changes name now) (images_after changes name now Image) c
images-push [] change name now Image c = refl
images-push (first ∷ changes) change name now Image c =
    let same = same_name first.name name in
    images-push changes change name (own_or same (after_change first.kind now) now) (ImageIf same first.kind now Image) c

pub read-push : (changes : List Change) (change : Change) (name : FileName) (old : List ℕ)
    → read_after (changes ++ change ∷ []) name old ≡ own_or (same_name change.name name) (after_change change.kind (read_after changes name old)) (read_after changes name old)
read-push [] change name old = refl
read-push (first ∷ changes) change name old = read-push changes change name (own_or (same_name first.name name) (after_change first.kind old) old)

module _ (old new : List Change) (at : FileName) (kind : ChangeKind) (is : new ≡ with_change old at kind) where
  more : length new ≡ length old + 1
  more = omega (arith, ap length is, length-append old (record { name = at; kind = kind } ∷ []))

  earlier : (k : ℕ) → k ≤ length old → take k new ≡ take k old
  earlier k le = ap (λ (l : List Change). take k l) is ∙ take-append-le k old (record { name = at; kind = kind } ∷ []) le

  last : (k : ℕ) → length old < k → k ≤ length new → take k new ≡ with_change old at kind
  last k from to = take_all k new (omega (arith, more)) ∙ is

  now_image : (name : FileName) (c : List ℕ) → images_after old name [] NotThere c → images_after (take (length old) old) name [] NotThere c
  now_image name c image = image_now old name c image

  pub goes_on : GoesOn (disk_of old) (disk_of new)
  goes_on = record {
    later = omega (arith, more);
    past = λ k name c le image. subst (λ (l : List Change). images_after l name [] NotThere c) (earlier k le) image;
    kept = λ k name c le image. subst (λ (l : List Change). images_after l name [] NotThere c) (sym (earlier k le)) image;
  }

  newest : (k : ℕ) (name : FileName) (c : List ℕ) → length old < k → k ≤ length new → images_after (take k new) name [] NotThere c
      → ImageIf (same_name at name) kind (read_after old name []) (images_after old name [] NotThere) c
  newest k name c from to image =
      let at_last : images_after (with_change old at kind) name [] NotThere c = subst (λ (l : List Change). images_after l name [] NotThere c) (last k from to) image in
      subst (λ (T : Type 0). T) (images-push old (record { name = at; kind = kind }) name [] NotThere c) at_last

  pub reads_if : (name : FileName) → read_after new name [] ≡ own_or (same_name at name) (after_change kind (read_after old name [])) (read_after old name [])
  reads_if name = ap (λ (l : List Change). read_after l name []) is ∙ read-push old (record { name = at; kind = kind }) name []

  pub reads_own : read_after new at [] ≡ after_change kind (read_after old at [])
  reads_own = reads_if at ∙ ap (λ (b : Bool). own_or b (after_change kind (read_after old at [])) (read_after old at [])) (same_name_self at)

  own : (k : ℕ) (c : List ℕ) → length old < k → k ≤ length new → images_after (take k new) at [] NotThere c → ImageAfter kind (read_after old at []) (images_after old at [] NotThere) c
  own k c from to image = subst (λ (b : Bool). ImageIf b kind (read_after old at []) (images_after old at [] NotThere) c) (same_name_self at) (newest k at c from to image)

  others : (k : ℕ) (name : FileName) (c : List ℕ) → name ≢ at → length old < k → k ≤ length new → images_after (take k new) name [] NotThere c → images_after (take (length old) old) name [] NotThere c
  others k name c other from to image =
      let differ : same_name at name ≡ false = same_name_other at name (λ same. other (sym same)) in
      now_image name c (subst (λ (b : Bool). ImageIf b kind (read_after old name []) (images_after old name [] NotThere) c) differ (newest k name c from to image))

  pub reads_others : (name : FileName) → name ≢ at → read_after new name [] ≡ read_after old name []
  reads_others name other =
      let differ : same_name at name ≡ false = same_name_other at name (λ same. other (sym same)) in
      reads_if name ∙ ap (λ (b : Bool). own_or b (after_change kind (read_after old name [])) (read_after old name [])) differ

  -- a change by a step
  pub changes_by : (step : List ℕ → List ℕ → Type 0)
      → ((now c : List ℕ) (Image : List ℕ → Type 0) → ImageAfter kind now Image c → (d : List ℕ) × Image d × step d c)
      → Changes at step (disk_of old) (disk_of new)
  changes_by step cases = record {
    goes_on = goes_on;
    own = λ k c from to image.
        let was = cases (read_after old at []) c (images_after old at [] NotThere) (own k c from to image) in
        (was.0, now_image at was.0 was.1, was.2);
    others = others;
    reads = λ name other. ap (λ (l : List ℕ). Some l) (reads_others name other);
  }

  -- where the disk read as the log did, it does so again
  pub agrees_after : (held : List ℕ) → Agrees (disk_of old) at (Some held) → Agrees (disk_of new) at (Some (after_change kind held))
  agrees_after held agrees = record { told = λ bytes told. ap (λ (l : List ℕ). Some l) (ap (after_change kind) (same held (read_after old at []) (agrees.told (read_after old at []) refl)) ∙ sym reads_own) ∙ told }
    where
      same : (a b : List ℕ) → Some a ≡ Some b → a ≡ b
      same a b is_same = cc

pub write_changes : (old new : List Change) (at : FileName) (place : ℕ) (bytes : List ℕ) (done : Bool) → new ≡ with_change old at (Written place bytes done)
    → Changes at (Torn place (length bytes)) (disk_of old) (disk_of new)
write_changes old new at place bytes done is = changes_by old new at (Written place bytes done) is (Torn place (length bytes)) (λ now c Image image. image)

pub cut_changes : (old new : List Change) (at : FileName) (len : ℕ) (done : Bool) → new ≡ with_change old at (Cut len done) → Changes at (Shortened len) (disk_of old) (disk_of new)
cut_changes old new at len done is = changes_by old new at (Cut len done) is (Shortened len) (λ now c Image image. image)

pub purge_changes : (old new : List Change) (at : FileName) → new ≡ with_change old at Gone → Changes at Purged (disk_of old) (disk_of new)
purge_changes old new at is = changes_by old new at Gone is Purged (λ now c Image image. image)

-- a sync
module _ (old new : List Change) (at : FileName) (is : new ≡ with_change old at Synced) where
  only : (name : FileName) (c : List ℕ) (b : Bool) → same_name at name ≡ b → ImageIf b Synced (read_after old name []) (images_after old name [] NotThere) c → images_after old name [] NotThere c
  only name c true own image = subst (images_after old name [] NotThere) (sym image) (read_is_image old name [] NotThere refl)
  only name c false other image = image

  read_only : (b : Bool) (l : List ℕ) → own_or b l l ≡ l
  read_only true l = refl
  read_only false l = refl

  pub sync_nothing : NothingNew (disk_of old) (disk_of new)
  sync_nothing = record {
    goes_on = goes_on old new at Synced is;
    since = λ k name c from to image. now_image old new at Synced is name c (only name c (same_name at name) refl (newest old new at Synced is k name c from to image));
    reads = λ name. ap (λ (l : List ℕ). Some l) (reads_if old new at Synced is name ∙ read_only (same_name at name) (read_after old name []));
  }

  pub sync_durable : (held : List ℕ) → Agrees (disk_of old) at (Some held) → IsDurable (disk_of new) at (Some held)
  sync_durable held agrees = record {
    only = λ c image.
        let here : c ≡ read_after old at [] = own old new at Synced is (length new) c (omega (arith, more old new at Synced is)) (omega arith) image in
        agrees.told (read_after old at []) refl ∙ ap (λ (l : List ℕ). Some l) (sym here);
  }

-- a file that was put there
module _ (old new : List Change) (at : FileName) (bytes : List ℕ) (is : new ≡ with_change old at (Placed bytes)) where
  pub placed_changes : Changes at (λ d c. c ≡ bytes) (disk_of old) (disk_of new)
  placed_changes = record {
    goes_on = goes_on old new at (Placed bytes) is;
    own = λ k c from to image. (read_after old at [], now_image old new at (Placed bytes) is at (read_after old at []) (read_is_image old at [] NotThere refl), own old new at (Placed bytes) is k c from to image);
    others = others old new at (Placed bytes) is;
    reads = λ name other. ap (λ (l : List ℕ). Some l) (reads_others old new at (Placed bytes) is name other);
  }

  pub placed_durable : IsDurable (disk_of new) at (Some bytes)
  placed_durable = record {
    only = λ c image. ap (λ (l : List ℕ). Some l) (sym (own old new at (Placed bytes) is (length new) c (omega (arith, more old new at (Placed bytes) is)) (omega arith) image));
  }
