-- What the options that clap keeps tell a program is what the grammar says.
use Rattle.std.proofs.Common.{◌≡◌, refl, ℕ, suc, ◌+◌, ◌≤◌, Bool, true, false, not, cond, ◌||◌, ◌&&◌, List, [], ◌∷◌, ◌++◌, map, length, drop, find, Option, Some, None, option_map, option_and_then, is_some, codes, true≢false, ap, ap₂, sym, subst, ◌∙◌, append-nil, append_assoc, arith}
use Rattle.std.specs.Prelude.{slice_get}
use Rattle.std.specs.Bool.{one_answer}
use Rattle.std.specs.List.{list_any}
use Rattle.std.specs.Str.{bytes_eq}
use Rattle.std.proofs.lemmas.Slice.Eq.{bytes_eq-Decides}
use Rattle.clap.specs.Walk.{Row, Text, first_of, has_row}
use Rattle.clap.specs.Takes.{is_given}
use Rattle.kv_base.specs.Map.{Bytes}
use Rattle.kv_base.specs.Unsigned.{read_u64}
use Rattle.kv_conf.specs.CommandLine.{Given, load, load_among, load_of, only_path, path, three, value_of}
use Rattle.kv_conf.specs.Parsed.{load_by, path_of}
use Rattle.kv_conf.proofs.Options.{keep, made, row}
use Rattle.kv_conf.proofs.Steps.{same_refl, same_text}

pub flip : (a b : Bytes) → bytes_eq a b ≡ bytes_eq b a
flip a b = one_answer (bytes_eq a b) (bytes_eq b a) (bytes_eq-Decides a b) (λ e. sym ((bytes_eq-Decides b a).0 e), λ e. (bytes_eq-Decides b a).1 (sym e))

-- ---- one option

module _ (label n : Text) where
  abbrev told_path : List Given → Option Bytes
  told_path os = option_and_then (path_of n) (keep label (n ∷ []) [] os)

  first_one : (v : Text) → first_of n (row n v ∷ []) ≡ Some v
  first_one v = rw (same_refl n) refl

  one_by : (x v : Bytes) (t : Bool) → bytes_eq (45 ∷ 45 ∷ n) x ≡ t → only_path (45 ∷ 45 ∷ n) ((x, v) ∷ []) ≡ told_path ((x, v) ∷ [])
  one_by x v true e = subst (λ (y : Bytes). only_path (45 ∷ 45 ∷ n) ((y, v) ∷ []) ≡ told_path ((y, v) ∷ [])) (same_text (45 ∷ 45 ∷ n) x e) (rw (same_refl n) (sym (ap (option_and_then path) (first_one v))))
  one_by x v false e = rw (flip x (45 ∷ 45 ∷ n) ∙ e, e) refl

  second_by : (y v u : Bytes) (more : List Given) (t : Bool) → bytes_eq (45 ∷ 45 ∷ n) y ≡ t → keep label (n ∷ []) ((n, v) ∷ []) ((y, u) ∷ more) ≡ None
  second_by y v u more true e = subst (λ (z : Bytes). keep label (n ∷ []) ((n, v) ∷ []) ((z, u) ∷ more) ≡ None) (same_text (45 ∷ 45 ∷ n) y e) (rw (same_refl n) refl)
  second_by y v u more false e = rw e refl

  more_by : (x v y u : Bytes) (more : List Given) (t : Bool) → bytes_eq (45 ∷ 45 ∷ n) x ≡ t → None ≡ keep label (n ∷ []) [] ((x, v) ∷ (y, u) ∷ more)
  more_by x v y u more true e =
      subst (λ (z : Bytes). None ≡ keep label (n ∷ []) [] ((z, v) ∷ (y, u) ∷ more)) (same_text (45 ∷ 45 ∷ n) x e)
      (rw (same_refl n) (sym (second_by y v u more (bytes_eq (45 ∷ 45 ∷ n) y) refl)))
  more_by x v y u more false e = rw e refl

  pub only_reads : (os : List Given) → only_path (45 ∷ 45 ∷ n) os ≡ told_path os
  only_reads [] = refl
  only_reads (o ∷ []) = one_by o.0 o.1 (bytes_eq (45 ∷ 45 ∷ n) o.0) refl
  only_reads (o ∷ p ∷ more) = ap (option_and_then (path_of n)) (more_by o.0 o.1 p.0 p.1 more (bytes_eq (45 ∷ 45 ∷ n) o.0) refl)

-- ---- the three options of `load`

abbrev pub load_options : List Text
load_options = codes "dir" ∷ codes "seed" ∷ codes "count" ∷ []

by_name : (P : Bytes → Type 0) → P (codes "--dir") → P (codes "--seed") → P (codes "--count")
    → ((x : Bytes) → bytes_eq (codes "--dir") x ≡ false → bytes_eq (codes "--seed") x ≡ false → bytes_eq (codes "--count") x ≡ false → P x) → (x : Bytes) → P x
by_name P dir seed count other x = by_dir (bytes_eq (codes "--dir") x) refl
  where
    by_count : bytes_eq (codes "--dir") x ≡ false → bytes_eq (codes "--seed") x ≡ false → (t : Bool) → bytes_eq (codes "--count") x ≡ t → P x
    by_count d s true e = subst P (same_text (codes "--count") x e) count
    by_count d s false e = other x d s e

    by_seed : bytes_eq (codes "--dir") x ≡ false → (t : Bool) → bytes_eq (codes "--seed") x ≡ t → P x
    by_seed d true e = subst P (same_text (codes "--seed") x e) seed
    by_seed d false e = by_count d e (bytes_eq (codes "--count") x) refl

    by_dir : (t : Bool) → bytes_eq (codes "--dir") x ≡ t → P x
    by_dir true e = subst P (same_text (codes "--dir") x e) dir
    by_dir false e = by_seed e (bytes_eq (codes "--seed") x) refl

-- the options are known, and with those that are there each is there once
abbrev fits : Bool → Bool → Bool → List Given → Bool
fits d s c [] = d && (s && c)
fits d s c (o ∷ os) =
    cond (bytes_eq (codes "--dir") o.0) (not d && fits true s c os)
    (cond (bytes_eq (codes "--seed") o.0) (not s && fits d true c os)
    (cond (bytes_eq (codes "--count") o.0) (not c && fits d s true os) false))

abbrev bare : Given → Given
bare o = (drop 2 o.0, o.1)

abbrev there : Text → List Given → Bool
there n seen = has_row n (made seen)

given_by : (n : Text) (o : Given) (seen : List Given) (t : Bool) → bytes_eq o.0 n ≡ t → is_given n (made seen) ≡ there n seen → is_given n (made (o ∷ seen)) ≡ there n (o ∷ seen)
given_by n o seen true e h = rw e refl
given_by n o seen false e h = rw e h

given_there : (n : Text) (seen : List Given) → is_given n (made seen) ≡ there n seen
given_there n [] = refl
given_there n (o ∷ seen) = given_by n o seen (bytes_eq o.0 n) refl (given_there n seen)

or_false : (a : Bool) → (a || false) ≡ a
or_false true = refl
or_false false = refl

or_true : (a : Bool) → (a || true) ≡ true
or_true true = refl
or_true false = refl

or_more : (t a b c : Bool) → a ≡ (b || c) → (t || a) ≡ ((t || b) || c)
or_more true a b c h = refl
or_more false a b c h = h

there_more : (m n v : Text) (seen : List Given) → there m (seen ++ (n, v) ∷ []) ≡ (there m seen || (bytes_eq n m || false))
there_more m n v [] = refl
there_more m n v (o ∷ seen) = or_more (bytes_eq o.0 m) _ _ _ (there_more m n v seen)

all_three : {X : Type 0} (d s c : Bool) (x : X) → cond (not d || (not s || (not c || false))) None (Some x) ≡ cond (d && (s && c)) (Some x) None
all_three false s c x = refl
all_three true false c x = refl
all_three true true false x = refl
all_three true true true x = refl

once : {X : Type 0} (d f : Bool) (x y : X) → x ≡ y → cond d None (cond f (Some x) None) ≡ cond (not d && f) (Some y) None
once true f x y e = refl
once false f x y e = ap (λ z. cond f (Some z) None) e

module _ (label : Text) where
  abbrev Keeps : List Given → List Given → Type 0
  Keeps seen os = keep label load_options seen os ≡ cond (fits (there (codes "dir") seen) (there (codes "seed") seen) (there (codes "count") seen) os) (Some (made (seen ++ map bare os))) None

  keeps_none : (seen : List Given) → Keeps seen []
  keeps_none seen =
      ap₂ (λ (d s : Bool). cond (not d || (not s || (not (is_given (codes "count") (made seen)) || false))) None (Some (made seen))) (given_there (codes "dir") seen) (given_there (codes "seed") seen)
      ∙ ap (λ (c : Bool). cond (not (there (codes "dir") seen) || (not (there (codes "seed") seen) || (not c || false))) None (Some (made seen))) (given_there (codes "count") seen)
      ∙ all_three (there (codes "dir") seen) (there (codes "seed") seen) (there (codes "count") seen) (made seen)
      ∙ ap (λ (l : List Given). cond (there (codes "dir") seen && (there (codes "seed") seen && there (codes "count") seen)) (Some (made l)) None) (sym (append-nil seen))

  fits_ap : (d d' s s' c c' : Bool) (os : List Given) → d ≡ d' → s ≡ s' → c ≡ c' → fits d s c os ≡ fits d' s' c' os
  fits_ap d d' s s' c c' os e f g = ap₂ (λ (a b : Bool). fits a b c os) e f ∙ ap (λ (a : Bool). fits d' s' a os) g

  keeps_by : (seen os : List Given) (n v : Text) (d s c : Bool) → there (codes "dir") (seen ++ (n, v) ∷ []) ≡ d → there (codes "seed") (seen ++ (n, v) ∷ []) ≡ s → there (codes "count") (seen ++ (n, v) ∷ []) ≡ c
      → Keeps (seen ++ (n, v) ∷ []) os
      → cond (there n seen) None (keep label load_options (seen ++ (n, v) ∷ []) os) ≡ cond (not (there n seen) && fits d s c os) (Some (made (seen ++ (n, v) ∷ map bare os))) None
  keeps_by seen os n v d s c e f g h =
      ap (cond (there n seen) None) (h ∙ ap (λ (t : Bool). cond t (Some (made ((seen ++ (n, v) ∷ []) ++ map bare os))) None) (fits_ap _ d _ s _ c os e f g))
      ∙ once (there n seen) (fits d s c os) _ _ (ap made (append_assoc seen ((n, v) ∷ []) (map bare os)))

  keeps_front : (seen os : List Given) (o : Given) → ((seen : List Given) → Keeps seen os) → Keeps seen (o ∷ os)
  keeps_front seen os o h = by_name (λ (x : Bytes). Keeps seen ((x, o.1) ∷ os)) dir seed count other o.0
    where
      same : (m n : Text) → bytes_eq n m ≡ true → there m (seen ++ (n, o.1) ∷ []) ≡ true
      same m n e = there_more m n o.1 seen ∙ ap (λ (t : Bool). there m seen || (t || false)) e ∙ or_true (there m seen)

      apart : (m n : Text) → bytes_eq n m ≡ false → there m (seen ++ (n, o.1) ∷ []) ≡ there m seen
      apart m n e = there_more m n o.1 seen ∙ ap (λ (t : Bool). there m seen || (t || false)) e ∙ or_false (there m seen)

      dir : Keeps seen ((codes "--dir", o.1) ∷ os)
      dir = keeps_by seen os (codes "dir") o.1 true (there (codes "seed") seen) (there (codes "count") seen) (same (codes "dir") (codes "dir") refl) (apart (codes "seed") (codes "dir") refl) (apart (codes "count") (codes "dir") refl) (h (seen ++ (codes "dir", o.1) ∷ []))

      seed : Keeps seen ((codes "--seed", o.1) ∷ os)
      seed = keeps_by seen os (codes "seed") o.1 (there (codes "dir") seen) true (there (codes "count") seen) (apart (codes "dir") (codes "seed") refl) (same (codes "seed") (codes "seed") refl) (apart (codes "count") (codes "seed") refl) (h (seen ++ (codes "seed", o.1) ∷ []))

      count : Keeps seen ((codes "--count", o.1) ∷ os)
      count = keeps_by seen os (codes "count") o.1 (there (codes "dir") seen) (there (codes "seed") seen) true (apart (codes "dir") (codes "count") refl) (apart (codes "seed") (codes "count") refl) (same (codes "count") (codes "count") refl) (h (seen ++ (codes "count", o.1) ∷ []))

      other : (x : Bytes) → bytes_eq (codes "--dir") x ≡ false → bytes_eq (codes "--seed") x ≡ false → bytes_eq (codes "--count") x ≡ false → Keeps seen ((x, o.1) ∷ os)
      other x d s c = rw (d, s, c) refl

  keeps : (os seen : List Given) → Keeps seen os
  keeps [] seen = keeps_none seen
  keeps (o ∷ os) seen = keeps_front seen os o (keeps os)

-- ---- how many options fit

abbrev one : Bool → ℕ
one t = cond t 1 0

abbrev Three : Bool → Bool → Bool → ℕ → Type 0
Three d s c k = one d + (one s + one c) + k ≡ 3

abbrev AreThree : List Given → Type 0
AreThree os = (d s c : Bool) → fits d s c os ≡ true → Three d s c (length os)

three_front : (os : List Given) (o : Given) → AreThree os → AreThree (o ∷ os)
three_front os o all = by_name (λ (x : Bytes). (d s c : Bool) → fits d s c ((x, o.1) ∷ os) ≡ true → Three d s c (suc (length os))) dir seed count (λ x e f g d s c h. absurd (true≢false (sym (rw (e, f, g) at h)))) o.0
  where
    dir : (d s c : Bool) → (not d && fits true s c os) ≡ true → Three d s c (suc (length os))
    dir true s c h = absurd (true≢false (sym h))
    dir false s c h = omega (arith, all true s c h)

    seed : (d s c : Bool) → (not s && fits d true c os) ≡ true → Three d s c (suc (length os))
    seed d true c h = absurd (true≢false (sym h))
    seed d false c h = omega (arith, all d true c h)

    count : (d s c : Bool) → (not c && fits d s true os) ≡ true → Three d s c (suc (length os))
    count d s true h = absurd (true≢false (sym h))
    count d s false h = omega (arith, all d s true h)

fits_three : (os : List Given) → AreThree os
fits_three [] true true true h = refl
fits_three [] true true false h = absurd (true≢false (sym h))
fits_three [] true false c h = absurd (true≢false (sym h))
fits_three [] false s c h = absurd (true≢false (sym h))
fits_three (o ∷ os) d s c h = three_front os o (fits_three os) d s c h

abbrev has : Bytes → List Given → Bool
has name os = list_any (λ o. bytes_eq name o.0) os

-- each of the three is there, or among the options
abbrev Have : Bool → Bool → Bool → List Given → Type 0
Have d s c os = ((d || has (codes "--dir") os) ≡ true) × ((s || has (codes "--seed") os) ≡ true) × ((c || has (codes "--count") os) ≡ true)

have_none : (d s c : Bool) → Have d s c [] → (d ≡ true) × (s ≡ true) × (c ≡ true)
have_none d s c h = (sym (or_false d) ∙ h.0, sym (or_false s) ∙ h.1, sym (or_false c) ∙ h.2)

have_other : (x v : Bytes) (os : List Given) (d s c : Bool) → bytes_eq (codes "--dir") x ≡ false → bytes_eq (codes "--seed") x ≡ false → bytes_eq (codes "--count") x ≡ false → Have d s c ((x, v) ∷ os) → Have d s c os
have_other x v os d s c e f g h = (rw e at h.0, rw f at h.1, rw g at h.2)

one_le : (t : Bool) → one t ≤ 1
one_le true = omega arith
one_le false = omega arith

abbrev AreEnough : List Given → Type 0
AreEnough os = (d s c : Bool) → Have d s c os → 3 ≤ one d + (one s + one c) + length os

enough_front : (os : List Given) (o : Given) → AreEnough os → AreEnough (o ∷ os)
enough_front os o all = by_name (λ (x : Bytes). (d s c : Bool) → Have d s c ((x, o.1) ∷ os) → 3 ≤ one d + (one s + one c) + suc (length os))
    (λ d s c h. omega (arith, all true s c (refl, h.1, h.2), one_le d))
    (λ d s c h. omega (arith, all d true c (h.0, refl, h.2), one_le s))
    (λ d s c h. omega (arith, all d s true (h.0, h.1, refl), one_le c))
    (λ x e f g d s c h. omega (arith, all d s c (have_other x o.1 os d s c e f g h)))
    o.0

-- three names want as many options
enough : (os : List Given) → AreEnough os
enough [] d s c h =
    let all = have_none d s c h in
    omega (arith, ap one all.0, ap one all.1, ap one all.2)
enough (o ∷ os) d s c h = enough_front os o (enough os) d s c h

abbrev HaveFits : List Given → Type 0
HaveFits os = (d s c : Bool) → Three d s c (length os) → Have d s c os → fits d s c os ≡ true

have_front : (os : List Given) (o : Given) → HaveFits os → HaveFits (o ∷ os)
have_front os o all = by_name (λ (x : Bytes). (d s c : Bool) → Three d s c (suc (length os)) → Have d s c ((x, o.1) ∷ os) → fits d s c ((x, o.1) ∷ os) ≡ true) dir seed count other o.0
  where
    dir : (d s c : Bool) → Three d s c (suc (length os)) → Have d s c ((codes "--dir", o.1) ∷ os) → (not d && fits true s c os) ≡ true
    dir true s c k h = let no : ⊥ = omega (arith, k, enough os true s c (refl, h.1, h.2)) in absurd no
    dir false s c k h = all true s c (omega (arith, k)) (refl, h.1, h.2)

    seed : (d s c : Bool) → Three d s c (suc (length os)) → Have d s c ((codes "--seed", o.1) ∷ os) → (not s && fits d true c os) ≡ true
    seed d true c k h = let no : ⊥ = omega (arith, k, enough os d true c (h.0, refl, h.2)) in absurd no
    seed d false c k h = all d true c (omega (arith, k)) (h.0, refl, h.2)

    count : (d s c : Bool) → Three d s c (suc (length os)) → Have d s c ((codes "--count", o.1) ∷ os) → (not c && fits d s true os) ≡ true
    count d s true k h = let no : ⊥ = omega (arith, k, enough os d s true (h.0, h.1, refl)) in absurd no
    count d s false k h = all d s true (omega (arith, k)) (h.0, h.1, refl)

    other : (x : Bytes) → bytes_eq (codes "--dir") x ≡ false → bytes_eq (codes "--seed") x ≡ false → bytes_eq (codes "--count") x ≡ false → (d s c : Bool) → Three d s c (suc (length os)) → Have d s c ((x, o.1) ∷ os) → fits d s c ((x, o.1) ∷ os) ≡ true
    other x e f g d s c k h = let no : ⊥ = omega (arith, k, enough os d s c (have_other x o.1 os d s c e f g h)) in absurd no

have_fits : (os : List Given) → HaveFits os
have_fits [] d s c k h =
    let all = have_none d s c h in
    ap₂ (λ (a b : Bool). a && (b && c)) all.0 all.1 ∙ all.2
have_fits (o ∷ os) d s c k h = have_front os o (have_fits os) d s c k h

-- ---- their values

value_by : (t : Bool) (m v x : Text) (r : Option Row) (o : Option Given) → option_and_then (λ (r : Row). slice_get r.values 0) r ≡ option_map (λ (o : Given). o.1) o
    → option_and_then (λ (r : Row). slice_get r.values 0) (cond t (Some (row m v)) r) ≡ option_map (λ (o : Given). o.1) (cond t (Some (x, v)) o)
value_by true m v x r o h = refl
value_by false m v x r o h = h

abbrev HaveValue : Text → List Given → Type 0
HaveValue n os = (d s c : Bool) → fits d s c os ≡ true → first_of n (made (map bare os)) ≡ value_of (45 ∷ 45 ∷ n) os

value_front : (n : Text) (os : List Given) (o : Given) → HaveValue n os → HaveValue n (o ∷ os)
value_front n os o all = by_name (λ (x : Bytes). (d s c : Bool) → fits d s c ((x, o.1) ∷ os) ≡ true → first_of n (made (map bare ((x, o.1) ∷ os))) ≡ value_of (45 ∷ 45 ∷ n) ((x, o.1) ∷ os)) dir seed count (λ x e f g d s c h. absurd (true≢false (sym (rw (e, f, g) at h)))) o.0
  where
    second : (a b : Bool) → (a && b) ≡ true → b ≡ true
    second true b e = e
    second false b e = absurd (true≢false (sym e))

    step : (m x : Text) → first_of n (made (map bare os)) ≡ value_of (45 ∷ 45 ∷ n) os
        → option_and_then (λ (r : Row). slice_get r.values 0) (cond (bytes_eq m n) (Some (row m o.1)) (find (λ r. bytes_eq r.id n) (made (map bare os)))) ≡ option_map (λ (o : Given). o.1) (cond (bytes_eq m n) (Some (x, o.1)) (find (λ option. bytes_eq option.0 (45 ∷ 45 ∷ n)) os))
    step m x h = value_by (bytes_eq m n) m o.1 x (find (λ r. bytes_eq r.id n) (made (map bare os))) (find (λ option. bytes_eq option.0 (45 ∷ 45 ∷ n)) os) h

    dir : (d s c : Bool) → (not d && fits true s c os) ≡ true → first_of n (made (map bare ((codes "--dir", o.1) ∷ os))) ≡ value_of (45 ∷ 45 ∷ n) ((codes "--dir", o.1) ∷ os)
    dir d s c h = step (codes "dir") (codes "--dir") (all true s c (second (not d) _ h))

    seed : (d s c : Bool) → (not s && fits d true c os) ≡ true → first_of n (made (map bare ((codes "--seed", o.1) ∷ os))) ≡ value_of (45 ∷ 45 ∷ n) ((codes "--seed", o.1) ∷ os)
    seed d s c h = step (codes "seed") (codes "--seed") (all d true c (second (not s) _ h))

    count : (d s c : Bool) → (not c && fits d s true os) ≡ true → first_of n (made (map bare ((codes "--count", o.1) ∷ os))) ≡ value_of (45 ∷ 45 ∷ n) ((codes "--count", o.1) ∷ os)
    count d s c h = step (codes "count") (codes "--count") (all d s true (second (not c) _ h))

values : (n : Text) (os : List Given) → HaveValue n os
values n [] d s c h = refl
values n (o ∷ os) d s c h = value_front n os o (values n os) d s c h

has_by : (name : Bytes) (o : Given) (os : List Given) (t : Bool) → bytes_eq name o.0 ≡ t → is_some (value_of name os) ≡ has name os → is_some (value_of name (o ∷ os)) ≡ has name (o ∷ os)
has_by name o os true e h = rw (flip o.0 name ∙ e, e) refl
has_by name o os false e h = rw (flip o.0 name ∙ e, e) h

has_value : (name : Bytes) (os : List Given) → is_some (value_of name os) ≡ has name os
has_value name [] = refl
has_value name (o ∷ os) = has_by name o os (bytes_eq name o.0) refl (has_value name os)

-- ---- `load`

three_is : (os : List Given) → length os ≡ 3 → three os ≡ Some os
three_is [] k = let no : ⊥ = omega (arith, k) in absurd no
three_is (a ∷ []) k = let no : ⊥ = omega (arith, k) in absurd no
three_is (a ∷ b ∷ []) k = let no : ⊥ = omega (arith, k) in absurd no
three_is (a ∷ b ∷ c ∷ []) k = refl
three_is (a ∷ b ∷ c ∷ e ∷ more) k = let no : ⊥ = omega (arith, k) in absurd no

no_second : (x : Option Bytes) (z : Option ℕ) → load_of x None z ≡ None
no_second None z = refl
no_second (Some x) z = refl

no_third : (x : Option Bytes) (y : Option ℕ) → load_of x y None ≡ None
no_third None y = refl
no_third (Some x) None = refl
no_third (Some x) (Some y) = refl

lacking : (p q r : Option Bytes) → (is_some p && (is_some q && is_some r)) ≡ false → load_of (option_and_then path p) (option_and_then read_u64 q) (option_and_then read_u64 r) ≡ None
lacking None q r h = refl
lacking (Some p) None r h = no_second (path p) (option_and_then read_u64 r)
lacking (Some p) (Some q) None h = no_third (path p) (read_u64 q)
lacking (Some p) (Some q) (Some r) h = absurd (true≢false h)

not_all : (a b c : Bool) → (a ≡ true → b ≡ true → c ≡ true → ⊥) → (a && (b && c)) ≡ false
not_all true true true h = absurd (h refl refl refl)
not_all true true false h = refl
not_all true false c h = refl
not_all false b c h = refl

unfit : (os : List Given) → length os ≡ 3 → fits false false false os ≡ false → load_among os ≡ None
unfit os k e =
    let dir = value_of (codes "--dir") os in
    let seed = value_of (codes "--seed") os in
    let count = value_of (codes "--count") os in
    lacking dir seed count (not_all (is_some dir) (is_some seed) (is_some count) (λ d s c.
    true≢false (sym (have_fits os false false false (omega (arith, k)) (sym (has_value (codes "--dir") os) ∙ d, sym (has_value (codes "--seed") os) ∙ s, sym (has_value (codes "--count") os) ∙ c)) ∙ e)))

no_load : (os : List Given) → fits false false false os ≡ false → load os ≡ None
no_load [] e = refl
no_load (a ∷ []) e = refl
no_load (a ∷ b ∷ []) e = refl
no_load (a ∷ b ∷ c ∷ []) e = unfit (a ∷ b ∷ c ∷ []) refl e
no_load (a ∷ b ∷ c ∷ d ∷ more) e = refl

fit : (os : List Given) → fits false false false os ≡ true → load os ≡ load_by (made (map bare os))
fit os e =
    ap (option_and_then load_among) (three_is os (omega (arith, fits_three os false false false e)))
    ∙ ap₂ (λ (p q : Option Bytes). load_of (option_and_then path p) (option_and_then read_u64 q) (option_and_then read_u64 (value_of (codes "--count") os))) (sym (values (codes "dir") os false false false e)) (sym (values (codes "seed") os false false false e))
    ∙ ap (λ (r : Option Bytes). load_of (path_of (codes "dir") (made (map bare os))) (option_and_then read_u64 (first_of (codes "seed") (made (map bare os)))) (option_and_then read_u64 r)) (sym (values (codes "count") os false false false e))

load_as : (os : List Given) (t : Bool) → fits false false false os ≡ t → load os ≡ option_and_then load_by (cond t (Some (made (map bare os))) None)
load_as os true e = fit os e
load_as os false e = no_load os e

pub load_reads : (label : Text) (os : List Given) → load os ≡ option_and_then load_by (keep label load_options [] os)
load_reads label os = load_as os (fits false false false os) refl ∙ ap (option_and_then load_by) (sym (keeps label os []))
