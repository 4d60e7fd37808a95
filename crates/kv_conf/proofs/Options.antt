-- clap's walk gives the options of the grammar.
use Rattle.std.proofs.Common.{◌≡◌, refl, ℕ, zero, suc, ◌+◌, inl, inr, Bool, true, false, not, cond, ◌||◌, ◌&&◌, List, [], ◌∷◌, ◌++◌, map, take, drop, Option, Some, None, option_and_then, is_some, true≢false, ap, ap₂, sym, subst, ◌∙◌, append-nil, arith, eqb-true}
use Rattle.std.proofs.lemmas.List.{map-append}
use Rattle.std.specs.Prelude.{◌==◌}
use Rattle.std.specs.List.{after_first, before_first, list_all, list_any, position_or_len}
use Rattle.std.specs.Str.{bytes_eq}
use Rattle.clap.specs.Lexer.{long_of}
use Rattle.clap.specs.Walk.{Row, Text, at_row, has_row, idle, option, used, with_values, more_values}
use Rattle.clap.specs.Kinds.{or_else}
use Rattle.clap.specs.Faults.{use_fault}
use Rattle.clap.specs.declared.builder.value_parser.Reading.TheVariants as reading
use Rattle.clap.specs.declared.error.kind.ErrorKind.TheVariants.{ArgumentConflict}
use Rattle.clap.specs.declared.parser.matches.ValueSource.TheVariants.{CommandLine}
use Rattle.kv_base.specs.Map.{Bytes}
use Rattle.kv_conf.specs.CommandLine.{Given, and_then, given, has_equals, is_dashed, is_equals, parted}
use Rattle.kv_conf.specs.Parsed.{is_offered, unless}
use Rattle.kv_conf.proofs.Steps.{View, at_end, commit, complete, known, leaf, long_met_is, lookup, meets, plain_from, run, same_text, set_rule, stand, stray, taken, unended, unfilled}
use Rattle.clap.proofs.WalkLemmas.{both}

-- ---- words by their dashes

dashed_view : (bs : Text) → is_offered (45 ∷ bs) ≡ true → View (45 ∷ bs)
dashed_view [] o = absurd (true≢false (sym o))
dashed_view (c ∷ cs) o = by_second cs (c == 45) refl o
  where
    by_third : (ys : Text) → is_offered (45 ∷ 45 ∷ ys) ≡ true → View (45 ∷ 45 ∷ ys)
    by_third [] o = absurd (true≢false (sym o))
    by_third (x ∷ xs) o = inr (x, (xs, refl))

    by_second : (ys : Text) (t : Bool) → (c == 45) ≡ t → is_offered (45 ∷ c ∷ ys) ≡ true → View (45 ∷ c ∷ ys)
    by_second ys true e o = subst (λ (b : ℕ). is_offered (45 ∷ b ∷ ys) ≡ true → View (45 ∷ b ∷ ys)) (sym (eqb-true c 45 e)) (by_third ys) o
    by_second ys false e o = absurd (true≢false (sym (rw e at o)))

view_by : (b : ℕ) (bs : Text) (t : Bool) → (b == 45) ≡ t → is_offered (b ∷ bs) ≡ true → View (b ∷ bs)
view_by b bs true e o = subst (λ (a : ℕ). is_offered (a ∷ bs) ≡ true → View (a ∷ bs)) (sym (eqb-true b 45 e)) (dashed_view bs) o
view_by b bs false e o = inl e

pub view : (w : Text) → is_offered w ≡ true → View w
view [] o = inl refl
view (b ∷ bs) o = view_by b bs (b == 45) refl o

-- ---- names

-- an option's name with its dashes is one of these
abbrev pub named : List Text → Bytes → Bool
named options x = list_any (λ m. bytes_eq (45 ∷ 45 ∷ m) x) options

abbrev has_dashes : Bytes → Bool
has_dashes [] = false
has_dashes (a ∷ []) = false
has_dashes (a ∷ b ∷ bs) = a == 45 && b == 45

named_by : (m : Text) (ms : List Text) (x : Bytes) (t : Bool) → bytes_eq (45 ∷ 45 ∷ m) x ≡ t → has_dashes x ≡ false → named ms x ≡ false → named (m ∷ ms) x ≡ false
named_by m ms x true e d h = absurd (true≢false (ap has_dashes (same_text (45 ∷ 45 ∷ m) x e) ∙ d))
named_by m ms x false e d h = rw e h

no_name : (options : List Text) (x : Bytes) → has_dashes x ≡ false → named options x ≡ false
no_name [] x d = refl
no_name (m ∷ ms) x d = named_by m ms x (bytes_eq (45 ∷ 45 ∷ m) x) refl d (no_name ms x d)

cut_dashes : (k : ℕ) (x : Bytes) → has_dashes x ≡ false → has_dashes (take k x) ≡ false
cut_dashes zero x d = refl
cut_dashes (suc k) [] d = refl
cut_dashes (suc zero) (a ∷ bs) d = refl
cut_dashes (suc (suc k)) (a ∷ []) d = refl
cut_dashes (suc (suc k)) (a ∷ b ∷ bs) d = d

undashed : (x : Bytes) → is_dashed x ≡ false → has_dashes x ≡ false
undashed [] d = refl
undashed (a ∷ []) d = refl
undashed (a ∷ b ∷ bs) d = rw d refl

-- ---- rows, in the order of the words

abbrev pub row : Text → Text → Row
row n v = record { id = n; values = v ∷ []; count = None; source = Some CommandLine; reading = reading.AsWritten }

abbrev pub made : List Given → List Row
made = map (λ o. row o.0 o.1)

pub made_more : (seen : List Given) (n v : Text) → made (seen ++ (n, v) ∷ []) ≡ made seen ++ row n v ∷ []
made_more seen n v = map-append (λ (o : Given). row o.0 o.1) seen ((n, v) ∷ [])

absent_by : (n : Text) (change : Row → List Row) (missing : List Row) (r : Row) (rs : List Row) (t : Bool) → bytes_eq r.id n ≡ t
    → (has_row n rs ≡ false → at_row n change missing rs ≡ rs ++ missing) → has_row n (r ∷ rs) ≡ false → at_row n change missing (r ∷ rs) ≡ (r ∷ rs) ++ missing
absent_by n change missing r rs true e h none = absurd (true≢false (rw e at none))
absent_by n change missing r rs false e h none = rw e (ap (λ l. r ∷ l) (h (rw e at none)))

absent : (n : Text) (change : Row → List Row) (missing rows : List Row) → has_row n rows ≡ false → at_row n change missing rows ≡ rows ++ missing
absent n change missing [] none = refl
absent n change missing (r ∷ rs) none = absent_by n change missing r rs (bytes_eq r.id n) refl (absent n change missing rs) none

used_is : (n v : Text) (rows : List Row) → has_row n rows ≡ false → used (set_rule n) (v ∷ []) rows ≡ rows ++ row n v ∷ []
used_is n v rows none =
    ap (with_values n reading.AsWritten CommandLine (v ∷ [])) (absent n (λ _. []) [] rows none ∙ append-nil rows)
    ∙ absent n (more_values CommandLine (v ∷ [])) (row n v ∷ []) rows none

uses_by : {Z : Type 0} (seen : List Given) (n v : Text) (X : List Row → Option Z) (t : Bool) → has_row n (made seen) ≡ t
    → unless (use_fault false (set_rule n) (v ∷ []) (made seen)) (X (used (set_rule n) (v ∷ []) (made seen))) ≡ cond t None (X (made (seen ++ (n, v) ∷ [])))
uses_by seen n v X true e = ap (λ (t : Bool). unless (or_else (cond (t && true) (ArgumentConflict ∷ []) []) []) (X (used (set_rule n) (v ∷ []) (made seen)))) e
uses_by seen n v X false e =
    ap (λ (t : Bool). unless (or_else (cond (t && true) (ArgumentConflict ∷ []) []) []) (X (used (set_rule n) (v ∷ []) (made seen)))) e
    ∙ ap X (used_is n v (made seen) e ∙ sym (made_more seen n v))

-- an option is used, unless it was used before
uses : {Z : Type 0} (seen : List Given) (n v : Text) (X : List Row → Option Z)
    → unless (use_fault false (set_rule n) (v ∷ []) (made seen)) (X (used (set_rule n) (v ∷ []) (made seen))) ≡ cond (has_row n (made seen)) None (X (made (seen ++ (n, v) ∷ [])))
uses seen n v X = uses_by seen n v X (has_row n (made seen)) refl

-- ---- which options clap keeps

both_none : {X : Type 0} (t u : Bool) → ◌≡◌ {A = Option X} None (cond t (cond u None None) None)
both_none true true = refl
both_none true false = refl
both_none false u = refl

abbrev pair : Bytes → Bytes → Given
pair x v = (x, v)

two_more : (k : ℕ) (ys : Text) → ◌≡◌ {A = Given} (take (1 + (1 + k)) (45 ∷ 45 ∷ ys), drop (1 + (1 + k) + 1) (45 ∷ 45 ∷ ys)) (45 ∷ 45 ∷ take k ys, drop (k + 1) ys)
two_more k ys =
    let e : 1 + (1 + k) ≡ suc (suc k) = omega arith in
    let f : 1 + (1 + k) + 1 ≡ suc (suc (k + 1)) = omega arith in
    ap₂ (λ (a b : ℕ). pair (take a (45 ∷ 45 ∷ ys)) (drop b (45 ∷ 45 ∷ ys))) e f

parted_long : (x : ℕ) (xs : Text) → parted (45 ∷ 45 ∷ x ∷ xs) ≡ (45 ∷ 45 ∷ before_first is_equals (x ∷ xs), after_first is_equals (x ∷ xs))
parted_long x xs = two_more (position_or_len is_equals (x ∷ xs)) (x ∷ xs)

whole_by : (b : ℕ) (bs : Text) (t : Bool) → is_equals b ≡ t → (has_equals bs ≡ false → before_first is_equals bs ≡ bs) → has_equals (b ∷ bs) ≡ false → before_first is_equals (b ∷ bs) ≡ b ∷ bs
whole_by b bs true e h none = absurd (true≢false (rw e at none))
whole_by b bs false e h none =
    let next : 1 + position_or_len is_equals bs ≡ suc (position_or_len is_equals bs) = omega arith in
    ap (λ (t : Bool). take (cond (not t) (1 + position_or_len is_equals bs) 0) (b ∷ bs)) e ∙ ap (λ (k : ℕ). take k (b ∷ bs)) next ∙ ap (λ l. b ∷ l) (h (rw e at none))

whole : (bs : Text) → has_equals bs ≡ false → before_first is_equals bs ≡ bs
whole [] none = refl
whole (b ∷ bs) none = whole_by b bs (is_equals b) refl (whole bs) none

module _ (label : Text) (options : List Text) where
  -- the rows of options that are known, stand there once, and are all there
  abbrev pub keep : List Given → List Given → Option (List Row)
  keep seen [] = complete label options (made seen)
  keep seen (o ∷ os) = cond (named options o.0) (cond (has_row (drop 2 o.0) (made seen)) None (keep (seen ++ (drop 2 o.0, o.1) ∷ []) os)) None

  abbrev pub kept : List Given → Option (List Given) → Option (List Row)
  kept seen = option_and_then (keep seen)

  keep_met : (seen : List Given) (o : Given) (g : Option (List Given))
      → kept seen (and_then o g) ≡ cond (named options o.0) (cond (has_row (drop 2 o.0) (made seen)) None (kept (seen ++ (drop 2 o.0, o.1) ∷ []) g)) None
  keep_met seen o None = both_none (named options o.0) (has_row (drop 2 o.0) (made seen))
  keep_met seen o (Some os) = refl

  unknown : (seen : List Given) (o : Given) (g : Option (List Given)) → named options o.0 ≡ false → kept seen (and_then o g) ≡ None
  unknown seen o g e = keep_met seen o g ∙ ap (λ (t : Bool). cond t (cond (has_row (drop 2 o.0) (made seen)) None (kept (seen ++ (drop 2 o.0, o.1) ∷ []) g)) None) e

  refused_by : (seen : List Given) (w : Bytes) (rest : List Bytes) → named options (parted w).0 ≡ false → named options w ≡ false → (t : Bool) → has_equals w ≡ t → kept seen (given (w ∷ rest)) ≡ None
  refused_by seen w [] p n true e = rw e (unknown seen (parted w) (Some []) p)
  refused_by seen w [] p n false e = rw e refl
  refused_by seen w (value ∷ rest) p n true e = rw e (unknown seen (parted w) (given (value ∷ rest)) p)
  refused_by seen w (value ∷ rest) p n false e = rw e (by_value (is_dashed value))
    where
      by_value : (d : Bool) → kept seen (cond d None (and_then (w, value) (given rest))) ≡ None
      by_value true = refl
      by_value false = unknown seen (w, value) (given rest) n

  -- a word with no known name
  refused : (seen : List Given) (w : Bytes) (rest : List Bytes) → named options (parted w).0 ≡ false → named options w ≡ false → kept seen (given (w ∷ rest)) ≡ None
  refused seen w rest p n = refused_by seen w rest p n (has_equals w) refl

  pub bare_word : (seen : List Given) (w : Bytes) (rest : List Bytes) → has_dashes w ≡ false → kept seen (given (w ∷ rest)) ≡ None
  bare_word seen w rest d = refused seen w rest (no_name options (parted w).0 (cut_dashes (position_or_len is_equals w) w d)) (no_name options w d)

  -- ---- the walk

  abbrev reads : List Given → List Text → Type 0
  reads seen words = run (leaf label options) (stand (made seen) None idle) words ≡ kept seen (given words)

  keep_known : (seen : List Given) (n v : Text) (g : Option (List Given)) → known options n ≡ true
      → kept seen (and_then (45 ∷ 45 ∷ n, v) g) ≡ cond (has_row n (made seen)) None (kept (seen ++ (n, v) ∷ []) g)
  keep_known seen n v g k = keep_met seen (45 ∷ 45 ∷ n, v) g ∙ ap (λ (t : Bool). cond t (cond (has_row n (made seen)) None (kept (seen ++ (n, v) ∷ []) g)) None) k

  -- `--name=value`
  joined : (seen : List Given) (n v : Text) (rest : List Text) → ((seen : List Given) → reads seen rest) → (t : Bool) → known options n ≡ t
      → meets label options (cond t (Some n) None) (Some v) [] (made seen) rest ≡ kept seen (and_then (45 ∷ 45 ∷ n, v) (given rest))
  joined seen n v rest h true k =
      uses seen n v (λ rows. run (leaf label options) (stand rows None idle) rest)
      ∙ ap (cond (has_row n (made seen)) None) (h (seen ++ (n, v) ∷ []))
      ∙ sym (keep_known seen n v (given rest) k)
  joined seen n v rest h false k = sym (unknown seen (45 ∷ 45 ∷ n, v) (given rest) k)

  -- `--name`, and then a word
  apart_known : (seen : List Given) (n w : Text) (rest : List Text) → known options n ≡ true → View w → ((u : Text) (more : List Text) → rest ≡ u ∷ more → View u) → ((seen : List Given) → reads seen rest)
      → run (leaf label options) (stand (made seen) (Some (n, [])) (option n)) (w ∷ rest) ≡ kept seen (cond (is_dashed w) None (and_then (45 ∷ 45 ∷ n, w) (given rest)))
  apart_known seen n w rest k (inl plain) views h =
      taken label options (made seen) n w rest k (plain_from w plain)
      ∙ commit label options (made seen) n w rest k views
      ∙ uses seen n w (λ rows. run (leaf label options) (stand rows None idle) rest)
      ∙ ap (cond (has_row n (made seen)) None) (h (seen ++ (n, w) ∷ []))
      ∙ sym (keep_known seen n w (given rest) k)
      ∙ ap (λ (d : Bool). kept seen (cond d None (and_then (45 ∷ 45 ∷ n, w) (given rest)))) (sym plain)
  apart_known seen n w rest k (inr long) views h =
      subst (λ (u : Text). run (leaf label options) (stand (made seen) (Some (n, [])) (option n)) (u ∷ rest) ≡ kept seen (cond (is_dashed u) None (and_then (45 ∷ 45 ∷ n, u) (given rest)))) (sym long.1.1)
      (unfilled label options (made seen) n long.0 long.1.0 rest k)

  apart : (seen : List Given) (n w : Text) (rest : List Text) → View w → ((u : Text) (more : List Text) → rest ≡ u ∷ more → View u) → ((seen : List Given) → reads seen rest) → (t : Bool) → known options n ≡ t
      → meets label options (cond t (Some n) None) None [] (made seen) (w ∷ rest) ≡ kept seen (cond (is_dashed w) None (and_then (45 ∷ 45 ∷ n, w) (given rest)))
  apart seen n w rest v views h true k = apart_known seen n w rest k v views h
  apart seen n w rest v views h false k = by_value (is_dashed w)
    where
      by_value : (d : Bool) → None ≡ kept seen (cond d None (and_then (45 ∷ 45 ∷ n, w) (given rest)))
      by_value true = refl
      by_value false = sym (unknown seen (45 ∷ 45 ∷ n, w) (given rest) k)

  equal_given : (seen : List Given) (x : ℕ) (xs : Text) (rest : List Text) → has_equals (x ∷ xs) ≡ true
      → kept seen (given ((45 ∷ 45 ∷ x ∷ xs) ∷ rest)) ≡ kept seen (and_then (45 ∷ 45 ∷ before_first is_equals (x ∷ xs), after_first is_equals (x ∷ xs)) (given rest))
  equal_given seen x xs [] e = rw e (ap (λ (o : Given). kept seen (and_then o (given []))) (parted_long x xs))
  equal_given seen x xs (value ∷ more) e = rw e (ap (λ (o : Given). kept seen (and_then o (given (value ∷ more)))) (parted_long x xs))

  with_equals : (seen : List Given) (x : ℕ) (xs : Text) (rest : List Text) → has_equals (x ∷ xs) ≡ true → ((seen : List Given) → reads seen rest) → reads seen ((45 ∷ 45 ∷ x ∷ xs) ∷ rest)
  with_equals seen x xs rest e h =
      let n = before_first is_equals (x ∷ xs) in
      let v = after_first is_equals (x ∷ xs) in
      long_met_is label options (made seen) None x xs rest
      ∙ ap (λ (t : Bool). meets label options (lookup options n) (cond t (Some v) None) [] (made seen) rest) e
      ∙ joined seen n v rest h (known options n) refl
      ∙ sym (equal_given seen x xs rest e)

  last_by : (seen : List Given) (n : Text) (t : Bool) → known options n ≡ t → meets label options (cond t (Some n) None) None [] (made seen) [] ≡ None
  last_by seen n true k = unended label options (made seen) n k
  last_by seen n false k = refl

  last_word : (seen : List Given) (x : ℕ) (xs : Text) → has_equals (x ∷ xs) ≡ false → reads seen ((45 ∷ 45 ∷ x ∷ xs) ∷ [])
  last_word seen x xs e =
      let n = before_first is_equals (x ∷ xs) in
      let v = after_first is_equals (x ∷ xs) in
      long_met_is label options (made seen) None x xs []
      ∙ ap (λ (t : Bool). meets label options (lookup options n) (cond t (Some v) None) [] (made seen) []) e
      ∙ last_by seen n (known options n) refl
      ∙ sym (rw e refl)

  two_words : (seen : List Given) (x : ℕ) (xs value : Text) (more : List Text) → has_equals (x ∷ xs) ≡ false → View value → ((u : Text) (later : List Text) → more ≡ u ∷ later → View u) → ((seen : List Given) → reads seen more)
      → reads seen ((45 ∷ 45 ∷ x ∷ xs) ∷ value ∷ more)
  two_words seen x xs value more e v views h =
      let n = before_first is_equals (x ∷ xs) in
      let after = after_first is_equals (x ∷ xs) in
      long_met_is label options (made seen) None x xs (value ∷ more)
      ∙ ap (λ (t : Bool). meets label options (lookup options n) (cond t (Some after) None) [] (made seen) (value ∷ more)) e
      ∙ apart seen n value more v views h (known options n) refl
      ∙ ap (λ (name : Text). kept seen (cond (is_dashed value) None (and_then (45 ∷ 45 ∷ name, value) (given more)))) (whole (x ∷ xs) e)
      ∙ sym (rw e refl)

  last_reads : (seen : List Given) (w : Text) → View w → reads seen (w ∷ [])
  last_reads seen w (inl plain) = stray label options (made seen) None w [] (plain_from w plain) ∙ sym (bare_word seen w [] (undashed w plain))
  last_reads seen w (inr long) = subst (λ (u : Text). reads seen (u ∷ [])) (sym long.1.1) (by_equals long.0 long.1.0 (has_equals (long.0 ∷ long.1.0)) refl)
    where
      by_equals : (x : ℕ) (xs : Text) (t : Bool) → has_equals (x ∷ xs) ≡ t → reads seen ((45 ∷ 45 ∷ x ∷ xs) ∷ [])
      by_equals x xs true e = with_equals seen x xs [] e (λ s. at_end label options (made s) None idle)
      by_equals x xs false e = last_word seen x xs e

  front_reads : (seen : List Given) (w value : Text) (more : List Text) → View w → View value → ((u : Text) (later : List Text) → more ≡ u ∷ later → View u)
      → ((seen : List Given) → reads seen (value ∷ more)) → ((seen : List Given) → reads seen more) → reads seen (w ∷ value ∷ more)
  front_reads seen w value more (inl plain) v views g h = stray label options (made seen) None w (value ∷ more) (plain_from w plain) ∙ sym (bare_word seen w (value ∷ more) (undashed w plain))
  front_reads seen w value more (inr long) v views g h = subst (λ (u : Text). reads seen (u ∷ value ∷ more)) (sym long.1.1) (by_equals long.0 long.1.0 (has_equals (long.0 ∷ long.1.0)) refl)
    where
      by_equals : (x : ℕ) (xs : Text) (t : Bool) → has_equals (x ∷ xs) ≡ t → reads seen ((45 ∷ 45 ∷ x ∷ xs) ∷ value ∷ more)
      by_equals x xs true e = with_equals seen x xs (value ∷ more) e g
      by_equals x xs false e = two_words seen x xs value more e v views h

  views_of : (words : List Text) → list_all is_offered words ≡ true → (u : Text) (later : List Text) → words ≡ u ∷ later → View u
  views_of words o u later e = view u (both _ _ (ap (list_all is_offered) (sym e) ∙ o)).0

  -- where clap may see the words, its walk gives the options of the grammar
  pub walks : (words : List Text) → list_all is_offered words ≡ true → (seen : List Given) → reads seen words
  walks [] o seen = at_end label options (made seen) None idle
  walks (w ∷ []) o seen = last_reads seen w (view w (both _ _ o).0)
  walks (w ∷ value ∷ more) o seen =
      let rest = (both (is_offered w) (list_all is_offered (value ∷ more)) o).1 in
      let later = (both (is_offered value) (list_all is_offered more) rest).1 in
      front_reads seen w value more (view w (both _ _ o).0) (view value (both _ _ rest).0) (views_of more later) (walks (value ∷ more) rest) (walks more later)

  -- ---- words that clap may not see

  abbrev Poor : Bytes → Type 0
  Poor w = (named options (parted w).0 ≡ false) × (named options w ≡ false)

  poor_by : (w : Bytes) → has_dashes w ≡ false → Poor w
  poor_by w d = (no_name options (parted w).0 (cut_dashes (position_or_len is_equals w) w d), no_name options w d)

  poor_dashed : named options (45 ∷ 45 ∷ []) ≡ false → (bs : Bytes) → is_offered (45 ∷ bs) ≡ false → Poor (45 ∷ bs)
  poor_dashed none [] o = poor_by (45 ∷ []) refl
  poor_dashed none (c ∷ cs) o = by_second cs (c == 45) refl o
    where
      by_third : (ys : Bytes) → is_offered (45 ∷ 45 ∷ ys) ≡ false → Poor (45 ∷ 45 ∷ ys)
      by_third [] o = (none, none)
      by_third (y ∷ ys) o = absurd (true≢false o)

      by_second : (ys : Bytes) (t : Bool) → (c == 45) ≡ t → is_offered (45 ∷ c ∷ ys) ≡ false → Poor (45 ∷ c ∷ ys)
      by_second ys true e o = subst (λ (b : ℕ). is_offered (45 ∷ b ∷ ys) ≡ false → Poor (45 ∷ b ∷ ys)) (sym (eqb-true c 45 e)) (by_third ys) o
      by_second ys false e o = poor_by (45 ∷ c ∷ ys) (rw e refl)

  poor : named options (45 ∷ 45 ∷ []) ≡ false → (w : Bytes) → is_offered w ≡ false → Poor w
  poor none [] o = absurd (true≢false o)
  poor none (b ∷ bs) o = by_first (b == 45) refl
    where
      by_first : (t : Bool) → (b == 45) ≡ t → Poor (b ∷ bs)
      by_first true e = subst (λ (a : ℕ). is_offered (a ∷ bs) ≡ false → Poor (a ∷ bs)) (sym (eqb-true b 45 e)) (poor_dashed none bs) o
      by_first false e = absurd (true≢false (rw e at o))

  later_none : (seen : List Given) (o : Given) (g : Option (List Given)) → ((seen : List Given) → kept seen g ≡ None) → kept seen (and_then o g) ≡ None
  later_none seen o g h =
      keep_met seen o g
      ∙ ap (λ (r : Option (List Row)). cond (named options o.0) (cond (has_row (drop 2 o.0) (made seen)) None r) None) (h (seen ++ (drop 2 o.0, o.1) ∷ []))
      ∙ sym (both_none (named options o.0) (has_row (drop 2 o.0) (made seen)))

  abbrev Unoffered : List Bytes → Type 0
  Unoffered words = list_all is_offered words ≡ false → (seen : List Given) → kept seen (given words) ≡ None

  unoffered_value : (seen : List Given) (w value : Bytes) (more : List Bytes) → Unoffered more → list_all is_offered (value ∷ more) ≡ false → (d : Bool) → is_dashed value ≡ d
      → kept seen (cond d None (and_then (w, value) (given more))) ≡ None
  unoffered_value seen w value more h o true e = refl
  unoffered_value seen w value more h o false e = later_none seen (w, value) (given more) (h (ap (λ (t : Bool). (not t || is_some (long_of value)) && list_all is_offered more) (sym e) ∙ o))

  unoffered_front : (seen : List Given) (w value : Bytes) (more : List Bytes) → Unoffered (value ∷ more) → Unoffered more → list_all is_offered (value ∷ more) ≡ false → (q : Bool) → has_equals w ≡ q
      → kept seen (given (w ∷ value ∷ more)) ≡ None
  unoffered_front seen w value more g h o true e = rw e (later_none seen (parted w) (given (value ∷ more)) (g o))
  unoffered_front seen w value more g h o false e = rw e (unoffered_value seen w value more h o (is_dashed value) refl)

  unoffered_by : named options (45 ∷ 45 ∷ []) ≡ false → (seen : List Given) (w value : Bytes) (more : List Bytes) → Unoffered (value ∷ more) → Unoffered more → (t : Bool) → is_offered w ≡ t
      → list_all is_offered (w ∷ value ∷ more) ≡ false → kept seen (given (w ∷ value ∷ more)) ≡ None
  unoffered_by none seen w value more g h true e o = unoffered_front seen w value more g h (ap (λ (t : Bool). t && list_all is_offered (value ∷ more)) (sym e) ∙ o) (has_equals w) refl
  unoffered_by none seen w value more g h false e o = refused seen w (value ∷ more) (poor none w e).0 (poor none w e).1

  unoffered_last : named options (45 ∷ 45 ∷ []) ≡ false → (seen : List Given) (w : Bytes) (t : Bool) → is_offered w ≡ t → list_all is_offered (w ∷ []) ≡ false → kept seen (given (w ∷ [])) ≡ None
  unoffered_last none seen w true e o = absurd (true≢false (ap (λ (t : Bool). t && true) (sym e) ∙ o))
  unoffered_last none seen w false e o = refused seen w [] (poor none w e).0 (poor none w e).1

  pub unoffered : named options (45 ∷ 45 ∷ []) ≡ false → (words : List Bytes) → Unoffered words
  unoffered none [] o seen = absurd (true≢false o)
  unoffered none (w ∷ []) o seen = unoffered_last none seen w (is_offered w) refl o
  unoffered none (w ∷ value ∷ more) o seen = unoffered_by none seen w value more (unoffered none (value ∷ more)) (unoffered none more) (is_offered w) refl o
