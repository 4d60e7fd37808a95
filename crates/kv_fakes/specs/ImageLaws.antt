-- The file as it reads is one of its images, and so is what a crash leaves of it.
use Rattle.std.proofs.Common.{◌≡◌, inl, inr, ℕ, ◌+◌, ◌-◌, ◌≤◌, Bool, true, false, ◌&&◌, ◌||◌, if◌then◌else◌, leb, List, [], ◌∷◌, ◌++◌, length, take, drop, map, Some, refl, sym, ◌∙◌, ap, subst, arith, length-append, length-take, length-drop}
use Rattle.std.proofs.lemmas.List.{take_all, take-take, drop-drop, length-map}
use Rattle.std.proofs.lemmas.Bool.Decides.{nat_tests}
use Rattle.kv_base.specs.declared.name.FileName.{FileName}
use Rattle.kv_base.specs.Name.{same_name}
use Rattle.kv_base.specs.NameLaws.{same_name_true}
use Rattle.kv_outside.specs.Files.{Torn, Shortened, Purged}
use Rattle.kv_outside.specs.ToldLaws.{torn_of_holds}
use Rattle.kv_fakes.specs.declared.fate.Fate.{Fate}
use Rattle.kv_fakes.specs.declared.fate.Fate.TheVariants as fates
use Rattle.kv_fakes.specs.declared.past.Change.{Change}
use Rattle.kv_fakes.specs.declared.past.ChangeKind.{ChangeKind}
use Rattle.kv_fakes.specs.declared.past.ChangeKind.TheVariants.{Written, Cut, Synced, Gone, Placed}
use Rattle.kv_fakes.specs.Past.{overwritten, after_change, own_or, read_after, ImageAfter, ImageIf, images_after, NotThere, disk_of}
use Rattle.kv_fakes.specs.Crash.{draw, fate, reached, sound, spoilt, torn_bytes, struck_write, struck_or, struck, settles, is_settled, left_of, left_after}

-- ---- the steps of a file

pub torn_self : (at n : ℕ) (old : List ℕ) → Torn at n old old
torn_self at n old = record { before = refl; after = refl; no_shorter = omega arith; no_longer = omega arith }

written_if : (b : Bool) (at : ℕ) (bytes old : List ℕ) → leb at (length old) ≡ b → Torn at (length bytes) old (if b then take at old ++ bytes ++ drop (at + length bytes) old else old)
written_if true at bytes old is = torn_of_holds at bytes old _ (grind (arith, nat_tests)) refl
written_if false at bytes old is = torn_self at (length bytes) old

pub written_torn : (at : ℕ) (bytes old : List ℕ) → Torn at (length bytes) old (overwritten at bytes old)
written_torn at bytes old = written_if (leb at (length old)) at bytes old refl

-- a torn write of fewer bytes is one of more
torn_wider : (at m n : ℕ) (old new : List ℕ) → m ≤ n → Torn at m old new → Torn at n old new
torn_wider at m n old new le torn =
    let more : at + n ≡ (at + m) + (n - m) = omega arith in
    record {
      before = torn.before;
      after = rw more (sym (drop-drop (n - m) (at + m) new) ∙ ap (λ (l : List ℕ). drop (n - m) l) torn.after ∙ drop-drop (n - m) (at + m) old);
      no_shorter = torn.no_shorter;
      no_longer = omega (arith, torn.no_longer);
    }

written_within : (at n : ℕ) (bytes old : List ℕ) → length bytes ≤ n → Torn at n old (overwritten at bytes old)
written_within at n bytes old le = torn_wider at (length bytes) n old (overwritten at bytes old) le (written_torn at bytes old)

shortened_cut : (len : ℕ) (old : List ℕ) → Shortened len old (take len old)
shortened_cut len old = record { before = take-take len len old (omega arith); no_shorter = omega (arith, length-take len old); no_longer = omega (arith, length-take len old) }

pub shortened_self : (len : ℕ) (old : List ℕ) → Shortened len old old
shortened_self len old = record { before = refl; no_shorter = omega arith; no_longer = omega arith }

-- ---- the file as it reads

image_holds : (kind : ChangeKind) (now : List ℕ) (Image : List ℕ → Type 0) → Image now → ImageAfter kind now Image (after_change kind now)
image_holds (Written at bytes true) now Image was = (now, was, written_torn at bytes now)
image_holds (Written at bytes false) now Image was = (now, was, torn_self at (length bytes) now)
image_holds (Cut len true) now Image was = (now, was, shortened_cut len now)
image_holds (Cut len false) now Image was = (now, was, shortened_self len now)
image_holds Synced now Image was = refl
image_holds Gone now Image was = (now, was, inr refl)
image_holds (Placed bytes) now Image was = refl

image_if : (same : Bool) (kind : ChangeKind) (now : List ℕ) (Image : List ℕ → Type 0) → Image now → ImageIf same kind now Image (own_or same (after_change kind now) now)
image_if true kind now Image was = image_holds kind now Image was
image_if false kind now Image was = was

pub read_is_image : (changes : List Change) (name : FileName) (now : List ℕ) (Image : List ℕ → Type 0) → Image now → images_after changes name now Image (read_after changes name now)
read_is_image [] name now Image was = was
read_is_image (change ∷ changes) name now Image was =
    let same = same_name change.name name in
    read_is_image changes name (own_or same (after_change change.kind now) now) (ImageIf same change.kind now Image) (image_if same change.kind now Image was)

-- the images now, with and without the count of the moments
pub image_now : (changes : List Change) (name : FileName) (c : List ℕ) → images_after changes name [] NotThere c → (disk_of changes).images (disk_of changes).moment name c
image_now changes name c image = subst (λ (l : List Change). images_after l name [] NotThere c) (sym (take_all (length changes) changes (omega arith))) image

-- the law of the trait
pub reads_law : (changes : List Change) (name : FileName) (bytes : List ℕ) → (disk_of changes).reads name ≡ Some bytes → (disk_of changes).images (disk_of changes).moment name bytes
reads_law changes name bytes is =
    let here : read_after changes name [] ≡ bytes = cc in
    image_now changes name bytes (subst (λ (l : List ℕ). images_after changes name [] NotThere l) here (read_is_image changes name [] NotThere refl))

-- ---- what a crash leaves

torn_length : (number : ℕ) (bytes : List ℕ) → length (torn_bytes number bytes) ≤ length bytes
unfolding torn_bytes
torn_length number bytes =
    let some = take (reached number (length bytes)) bytes in
    let front = sound number (length some) in
    omega (arith, length-append (take front some) (map (spoilt number) (drop front some)), length-take front some, length-map (drop front some) (spoilt number), length-drop front some, length-take (reached number (length bytes)) bytes)

struck_write_torn : (f : Fate) (number at : ℕ) (bytes old : List ℕ) → Torn at (length bytes) old (struck_write f number at bytes old)
struck_write_torn fates.Whole number at bytes old = written_torn at bytes old
struck_write_torn fates.Missing number at bytes old = torn_self at (length bytes) old
struck_write_torn fates.Torn number at bytes old = written_within at (length bytes) (torn_bytes number bytes) old (torn_length number bytes)

struck_cut : (f : Fate) (len : ℕ) (old : List ℕ) → Shortened len old (struck_or f (take len old) old)
struck_cut fates.Whole len old = shortened_cut len old
struck_cut fates.Missing len old = shortened_self len old
struck_cut fates.Torn len old = shortened_self len old

struck_purge : (f : Fate) (old : List ℕ) → Purged old (struck_or f [] old)
struck_purge fates.Whole old = inr refl
struck_purge fates.Missing old = inl refl
struck_purge fates.Torn old = inl refl

struck_image : (kind : ChangeKind) (number : ℕ) (now left : List ℕ) (Image : List ℕ → Type 0) → Image left → (settles kind ≡ true → left ≡ now) → ImageAfter kind now Image (struck number kind left)
struck_image (Written at bytes done) number now left Image was same = (left, was, struck_write_torn (fate number) number at bytes left)
struck_image (Cut len done) number now left Image was same = (left, was, struck_cut (fate number) len left)
struck_image Synced number now left Image was same = same refl
struck_image Gone number now left Image was same = (left, was, struck_purge (fate number) left)
struck_image (Placed bytes) number now left Image was same = refl

-- one change of the file, which is made durable later or not
left_image : (settled : Bool) (kind : ChangeKind) (number : ℕ) (now left : List ℕ) (Image : List ℕ → Type 0) → Image now → Image left
    → ((settles kind || settled) ≡ true → left ≡ now) → ImageAfter kind now Image (left_of settled number kind left)
left_image true kind number now left Image here was same =
    subst (λ (l : List ℕ). ImageAfter kind now Image (after_change kind l)) (sym (same (or_true (settles kind)))) (image_holds kind now Image here)
  where
    or_true : (b : Bool) → (b || true) ≡ true
    or_true true = refl
    or_true false = refl
left_image false kind number now left Image here was same = struck_image kind number now left Image was (λ is. same (ap (λ (b : Bool). b || false) is))

left_settled : (settled : Bool) (kind : ChangeKind) (number : ℕ) (now left : List ℕ) → ((settles kind || settled) ≡ true → left ≡ now) → settled ≡ true → left_of settled number kind left ≡ after_change kind now
left_settled true kind number now left same is = ap (after_change kind) (same (or_true (settles kind)))
  where
    or_true : (b : Bool) → (b || true) ≡ true
    or_true true = refl
    or_true false = refl
left_settled false kind number now left same is = absurd (cc)

-- one change, with what is known of those behind it
module _ (change : Change) (changes : List Change) (number : ℕ) (name : FileName)
    (later : (now left : List ℕ) (Image : List ℕ → Type 0) → Image now → Image left → (is_settled changes name ≡ true → left ≡ now) → images_after changes name now Image (left_after changes number name left))
    (now left : List ℕ) (Image : List ℕ → Type 0) (here : Image now) (was : Image left) (same : is_settled (change ∷ changes) name ≡ true → left ≡ now) where
  left_step : (b : Bool) → same_name change.name name ≡ b
      → images_after changes name (own_or b (after_change change.kind now) now) (ImageIf b change.kind now Image) (left_after changes number name (own_or b (left_of (is_settled changes change.name) number change.kind left) left))
  left_step true is =
      let named : is_settled changes change.name ≡ is_settled changes name = ap (is_settled changes) (same_name_true change.name name is) in
      let kept : (settles change.kind || is_settled changes change.name) ≡ true → left ≡ now =
      λ e. same (ap (λ (b : Bool). (b && settles change.kind) || is_settled changes name) is ∙ ap (λ (b : Bool). settles change.kind || b) (sym named) ∙ e) in
      later (after_change change.kind now) (left_of (is_settled changes change.name) number change.kind left) (ImageAfter change.kind now Image)
      (image_holds change.kind now Image here)
      (left_image (is_settled changes change.name) change.kind number now left Image here was kept)
      (λ e. left_settled (is_settled changes change.name) change.kind number now left kept (named ∙ e))
  left_step false is = later now left Image here was (λ e. same (ap (λ (b : Bool). (b && settles change.kind) || is_settled changes name) is ∙ e))

-- A crash leaves an image. Where the file becomes durable in the changes to come, what is left so far is as it reads.
pub left_is_image : (changes : List Change) (number : ℕ) (name : FileName) (now left : List ℕ) (Image : List ℕ → Type 0) → Image now → Image left
    → (is_settled changes name ≡ true → left ≡ now) → images_after changes name now Image (left_after changes number name left)
left_is_image [] number name now left Image here was same = was
left_is_image (change ∷ changes) number name now left Image here was same =
    left_step change changes (draw number) name (λ now' left' Image' here' was' same'. left_is_image changes (draw number) name now' left' Image' here' was' same') now left Image here was same (same_name change.name name) refl
