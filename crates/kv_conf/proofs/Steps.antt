-- The steps of clap's walk over the words of a program, each of whose options has to be there once.
use Rattle.std.proofs.Common.{◌≡◌, refl, ℕ, ◌⊎◌, inl, inr, Bool, true, false, not, cond, ◌||◌, ◌&&◌, List, [], ◌∷◌, map, fold, Option, Some, None, option_map, true≢false, ap, ap₂, sym, subst, ◌∙◌}
use Rattle.std.specs.Prelude.{nat_lt}
use Rattle.std.specs.List.{list_any}
use Rattle.std.specs.Option.{option_map_or}
use Rattle.std.specs.Str.{bytes_eq}
use Rattle.std.proofs.lemmas.Slice.Eq.{bytes_eq-Decides}
use Rattle.clap.specs.Lexer.{long_of, short_of, name_and_value}
use Rattle.clap.specs.Walk.{Held, Row, Rule, Step, Text, Waiting, Walk, next, value, idle, option, after_flag, after_step, arg_by_id, arg_by_index, arg_by_long, finished, has_row, long_met, option_word, plain_word, pushed, settled, settled_rows, subcommand_or_other, used, used_by_id, walked, with_default}
use Rattle.clap.specs.Simple.{Shape, filled, new_shape}
use Rattle.clap.specs.Takes.{is_given}
use Rattle.clap.specs.Kinds.{Kinds, or_else}
use Rattle.clap.specs.Faults.{check_fault, default_fault, defaults_fault, long_fault, other_fault, positional_fault, settle_fault, step_fault, stray_fault, turn_fault, use_fault, walk_fault}
use Rattle.clap.specs.declared.error.kind.ErrorKind.TheVariants.{InvalidValue, MissingRequiredArgument}
use Rattle.kv_conf.specs.CommandLine.{is_dashed}
use Rattle.kv_conf.specs.Parsed.{option_rule, unless}

-- ---- a program as it is built

abbrev pub set_rule : Text → Rule
set_rule name = filled (option_rule name)

abbrev pub rules : List Text → List Rule
rules = map set_rule

abbrev pub leaf : Text → List Text → Shape
leaf name options = record (new_shape name) {
  rules = rules options;
  no_binary_name = true;
  disable_help_flag = true;
  disable_help_subcommand = true;
  is_built = true;
}

pub same_text : (a b : Text) → bytes_eq a b ≡ true → a ≡ b
same_text a b = (bytes_eq-Decides a b).0

pub same_refl : (a : Text) → bytes_eq a a ≡ true
same_refl a = (bytes_eq-Decides a a).1 refl

abbrev pub known : List Text → Text → Bool
known options n = list_any (λ m. bytes_eq m n) options

abbrev pub lookup : List Text → Text → Option Text
lookup options n = cond (known options n) (Some n) None

long_by : (m : Text) (ms : List Text) (n : Text) (t : Bool) → bytes_eq m n ≡ t → arg_by_long (rules ms) n ≡ option_map set_rule (lookup ms n)
    → arg_by_long (rules (m ∷ ms)) n ≡ option_map set_rule (lookup (m ∷ ms) n)
long_by m ms n true e h = rw e (ap (λ k. Some (set_rule k)) (same_text m n e))
long_by m ms n false e h = rw e h

pub long_found : (options : List Text) (n : Text) → arg_by_long (rules options) n ≡ option_map set_rule (lookup options n)
long_found [] n = refl
long_found (m ∷ ms) n = long_by m ms n (bytes_eq m n) refl (long_found ms n)

id_by : (m : Text) (ms : List Text) (n : Text) (t : Bool) → bytes_eq m n ≡ t → (known ms n ≡ true → arg_by_id (rules ms) n ≡ Some (set_rule n))
    → known (m ∷ ms) n ≡ true → arg_by_id (rules (m ∷ ms)) n ≡ Some (set_rule n)
id_by m ms n true e h k = rw e (ap (λ k. Some (set_rule k)) (same_text m n e))
id_by m ms n false e h k = rw e (h (rw e at k))

pub id_found : (options : List Text) (n : Text) → known options n ≡ true → arg_by_id (rules options) n ≡ Some (set_rule n)
id_found [] n k = absurd (true≢false (sym k))
id_found (m ∷ ms) n k = id_by m ms n (bytes_eq m n) refl (id_found ms n) k

no_index : (options : List Text) → arg_by_index (rules options) 1 ≡ None
no_index [] = refl
no_index (m ∷ ms) = no_index ms

-- ---- what the rest of a walk comes to

abbrev pub held : List Row → Option (Text × List Text) → Held
held rows pending = record { rows = rows; pending = pending; skip = 0 }

abbrev pub stand : List Row → Option (Text × List Text) → Waiting → Walk
stand rows pending waiting = record { held = held rows pending; waiting = waiting; position = 1; is_trailing = false; stopped = None }

abbrev pub end_fault : Shape → Held → Kinds
end_fault s h = or_else (settle_fault s.rules s.args_override_self h) (or_else (defaults_fault (settled s.rules h).rows s.rules) (check_fault s (finished s.rules h) false))

-- the rows at the end, where nothing is at fault
abbrev pub run : Shape → Walk → List Text → Option (List Row)
run s w words =
    let end = (fold (walked s.rules []) w words).held in
    unless (or_else (walk_fault s [] w words) (end_fault s end)) (Some (finished s.rules end))

pub unless_none : {X : Type 0} (ks : Kinds) → unless {X = X} ks None ≡ None
unless_none [] = refl
unless_none (k ∷ ks) = refl

unless_or : {X : Type 0} (a b : Kinds) (x : Option X) → unless (or_else a b) x ≡ unless a (unless b x)
unless_or [] b x = refl
unless_or (k ∷ ks) b x = refl

unless_three : {X : Type 0} (a b c : Kinds) (x : Option X) → unless (or_else (or_else a b) c) x ≡ unless a (unless (or_else b c) x)
unless_three [] b c x = refl
unless_three (k ∷ ks) b c x = refl

run_step : (s : Shape) (w : Walk) (word : Text) (rest : List Text) → run s w (word ∷ rest) ≡ unless (turn_fault s [] w word) (run s (walked s.rules [] w word) rest)
unfolding walk_fault
run_step s w word rest = unless_three (turn_fault s [] w word) _ _ _

-- ---- words

abbrev pub View : Text → Type 0
View w = (is_dashed w ≡ false) ⊎ ((x : ℕ) × ((xs : Text) × (w ≡ 45 ∷ 45 ∷ x ∷ xs)))

pub record Plain (w : Text) : Type 0 where
  pub no_end : bytes_eq w (45 ∷ 45 ∷ []) ≡ false
  pub no_long : long_of w ≡ None
  pub no_short : short_of w ≡ None

pub plain_from : (w : Text) → is_dashed w ≡ false → Plain w
plain_from [] e = record { no_end = refl; no_long = refl; no_short = refl }
plain_from (b ∷ bs) e = record { no_end = rw e refl; no_long = rw e refl; no_short = rw e refl }

abbrev met : Held → Step → Held × Step
met h step = (h, step)

module _ (label : Text) (options : List Text) where
  abbrev pub the_leaf : Shape
  the_leaf = leaf label options

  abbrev pub the_rules : List Rule
  the_rules = rules options

  sub_plain : (waiting : Waiting) (w : Text) (h : Held) → Plain w → subcommand_or_other the_rules None waiting 1 w h ≡ plain_word the_rules waiting w h
  sub_plain waiting w h p = rw (p.no_end, p.no_long, p.no_short) refl

  fault_plain : (w : Text) (h : Held) → Plain w → other_fault the_leaf None w h ≡ []
  fault_plain w h p = rw (p.no_end, p.no_long, p.no_short) refl

  -- a turn whose word comes to `met` with no fault of its own
  turn_by : (rows : List Row) (p : Option (Text × List Text)) (word : Text) (met : Held × Step) (rest : List Text) → other_fault the_leaf None word (held rows p) ≡ []
      → subcommand_or_other the_rules None idle 1 word (held rows p) ≡ met
      → run the_leaf (stand rows p idle) (word ∷ rest) ≡ unless (step_fault the_leaf 1 met.0 met.1) (run the_leaf (after_step the_rules word (stand rows p idle) met.0 met.1) rest)
  unfolding walked
  turn_by rows p word met rest f m =
      run_step the_leaf (stand rows p idle) word rest
      ∙ ap₂ (λ (a : Kinds) (b : Held × Step). unless (or_else a (step_fault the_leaf 1 b.0 b.1)) (run the_leaf (after_step the_rules word (stand rows p idle) b.0 b.1) rest)) f m

  turn_waiting : (rows : List Row) (p : Option (Text × List Text)) (n word : Text) (met : Held × Step) (rest : List Text) → other_fault the_leaf None word (held rows p) ≡ []
      → subcommand_or_other the_rules None (option n) 1 word (held rows p) ≡ met
      → run the_leaf (stand rows p (option n)) (word ∷ rest) ≡ unless (step_fault the_leaf 1 met.0 met.1) (run the_leaf (after_step the_rules word (stand rows p (option n)) met.0 met.1) rest)
  unfolding walked
  turn_waiting rows p n word met rest f m =
      run_step the_leaf (stand rows p (option n)) word rest
      ∙ ap₂ (λ (a : Kinds) (b : Held × Step). unless (or_else a (step_fault the_leaf 1 b.0 b.1)) (run the_leaf (after_step the_rules word (stand rows p (option n)) b.0 b.1) rest)) f m

  -- no word stands alone
  pub stray : (rows : List Row) (p : Option (Text × List Text)) (w : Text) (rest : List Text) → Plain w → run the_leaf (stand rows p idle) (w ∷ rest) ≡ None
  stray rows p w rest plain =
      turn_by rows p w (held rows p, value) rest (fault_plain w (held rows p) plain) (sub_plain idle w (held rows p) plain)
      ∙ ap (λ (o : Option Rule). unless (option_map_or (λ a. positional_fault the_rules false a (held rows p)) o (stray_fault the_leaf)) (run the_leaf (after_step the_rules w (stand rows p idle) (held rows p) value) rest)) (no_index options)

  -- a word that is the value of the option in front of it
  pub taken : (rows : List Row) (n w : Text) (rest : List Text) → known options n ≡ true → Plain w
      → run the_leaf (stand rows (Some (n, [])) (option n)) (w ∷ rest) ≡ run the_leaf (stand rows (Some (n, w ∷ [])) idle) rest
  taken rows n w rest k plain =
      let h = held rows (Some (n, [])) in
      turn_waiting rows (Some (n, [])) n w (held rows (Some (n, w ∷ [])), next idle) rest (fault_plain w h plain)
      (sub_plain (option n) w h plain
      ∙ ap (λ (o : Option Rule). met (option_word o n w h).0 (next (option_word o n w h).1)) (id_found options n k)
      ∙ ap (λ (t : Bool). met (pushed n w h) (next (cond (nat_lt (cond t 1 0) 1) (option n) idle))) (same_refl n))

  -- ---- words `--name` and `--name=value`

  abbrev long_word : ℕ → Text → Text
  long_word x xs = 45 ∷ 45 ∷ x ∷ xs

  abbrev pub name_in : ℕ → Text → Text
  name_in x xs = (name_and_value (x ∷ xs)).0

  abbrev pub value_in : ℕ → Text → Option Text
  value_in x xs = (name_and_value (x ∷ xs)).1

  abbrev long_turn : Waiting → Option (Text × List Text) → List Row → Text → Option Rule → Option Text → List Text → Option (List Row)
  long_turn waiting p rows word found v rest =
      let h = held rows p in
      let after = after_flag the_rules waiting word (long_met the_rules found v h).0 (long_met the_rules found v h).1 in
      unless (or_else (long_fault the_rules false found v h) (step_fault the_leaf 1 after.0 after.1)) (run the_leaf (after_step the_rules word (stand rows p waiting) after.0 after.1) rest)

  long_idle : (rows : List Row) (p : Option (Text × List Text)) (x : ℕ) (xs : Text) (rest : List Text)
      → run the_leaf (stand rows p idle) (long_word x xs ∷ rest) ≡ long_turn idle p rows (long_word x xs) (arg_by_long the_rules (name_in x xs)) (value_in x xs) rest
  unfolding walked
  long_idle rows p x xs rest = run_step the_leaf (stand rows p idle) (long_word x xs) rest

  long_waiting : (rows : List Row) (p : Option (Text × List Text)) (n : Text) (x : ℕ) (xs : Text) (rest : List Text)
      → run the_leaf (stand rows p (option n)) (long_word x xs ∷ rest) ≡ long_turn (option n) p rows (long_word x xs) (arg_by_long the_rules (name_in x xs)) (value_in x xs) rest
  unfolding walked
  long_waiting rows p n x xs rest = run_step the_leaf (stand rows p (option n)) (long_word x xs) rest

  -- an option that is met, where `fault` is that of the pending one and `rows` are those with it
  abbrev pub meets : Option Text → Option Text → Kinds → List Row → List Text → Option (List Row)
  meets None v fault rows rest = None
  meets (Some n) (Some v) fault rows rest = unless fault (unless (use_fault false (set_rule n) (v ∷ []) rows) (run the_leaf (stand (used (set_rule n) (v ∷ []) rows) None idle) rest))
  meets (Some n) None fault rows rest = unless fault (run the_leaf (stand rows (Some (n, [])) (option n)) rest)

  unless_used : (a b : Kinds) (x : Option (List Row)) → unless (or_else (or_else a b) []) x ≡ unless a (unless b x)
  unless_used [] [] x = refl
  unless_used [] (k ∷ ks) x = refl
  unless_used (k ∷ ks) b x = refl

  unless_more : (a : Kinds) (x : Option (List Row)) → unless (or_else a []) x ≡ unless a x
  unless_more [] x = refl
  unless_more (k ∷ ks) x = refl

  meets_by : (rows : List Row) (p : Option (Text × List Text)) (word : Text) (rest : List Text) (found v : Option Text)
      → long_turn idle p rows word (option_map set_rule found) v rest ≡ meets found v (settle_fault the_rules false (held rows p)) (settled_rows the_rules p rows) rest
  meets_by rows p word rest None v = refl
  meets_by rows p word rest (Some n) (Some v) = unless_used (settle_fault the_rules false (held rows p)) _ _
  meets_by rows p word rest (Some n) None = unless_more (settle_fault the_rules false (held rows p)) _

  pub long_met_is : (rows : List Row) (p : Option (Text × List Text)) (x : ℕ) (xs : Text) (rest : List Text)
      → run the_leaf (stand rows p idle) ((45 ∷ 45 ∷ x ∷ xs) ∷ rest) ≡ meets (lookup options (name_in x xs)) (value_in x xs) (settle_fault the_rules false (held rows p)) (settled_rows the_rules p rows) rest
  long_met_is rows p x xs rest =
      long_idle rows p x xs rest
      ∙ ap (λ (f : Option Rule). long_turn idle p rows (long_word x xs) f (value_in x xs) rest) (long_found options (name_in x xs))
      ∙ meets_by rows p (long_word x xs) rest (lookup options (name_in x xs)) (value_in x xs)

  -- an option that has no value yet is at fault where it is settled
  no_value : (rows : List Row) (n : Text) → known options n ≡ true → settle_fault the_rules false (held rows (Some (n, []))) ≡ InvalidValue ∷ []
  no_value rows n k = ap (λ (o : Option Rule). option_map_or (λ a. use_fault false a [] rows) o []) (id_found options n k)

  nothing : (a : Kinds) (x : Option (List Row)) → a ≡ InvalidValue ∷ [] → unless a x ≡ None
  nothing a x e = ap (λ (k : Kinds). unless k x) e

  unfilled_by : (rows : List Row) (n word : Text) (rest : List Text) (found v : Option Text) → known options n ≡ true
      → long_turn (option n) (Some (n, [])) rows word (option_map set_rule found) v rest ≡ None
  unfilled_by rows n word rest None v k = refl
  unfilled_by rows n word rest (Some m) (Some v) k = unless_used (settle_fault the_rules false (held rows (Some (n, [])))) _ _ ∙ nothing (settle_fault the_rules false (held rows (Some (n, [])))) _ (no_value rows n k)
  unfilled_by rows n word rest (Some m) None k = unless_more (settle_fault the_rules false (held rows (Some (n, [])))) _ ∙ nothing (settle_fault the_rules false (held rows (Some (n, [])))) _ (no_value rows n k)

  -- an option is no value of the one in front of it
  pub unfilled : (rows : List Row) (n : Text) (x : ℕ) (xs : Text) (rest : List Text) → known options n ≡ true
      → run the_leaf (stand rows (Some (n, [])) (option n)) ((45 ∷ 45 ∷ x ∷ xs) ∷ rest) ≡ None
  unfilled rows n x xs rest k =
      long_waiting rows (Some (n, [])) n x xs rest
      ∙ ap (λ (f : Option Rule). long_turn (option n) (Some (n, [])) rows (long_word x xs) f (value_in x xs) rest) (long_found options (name_in x xs))
      ∙ unfilled_by rows n (long_word x xs) rest (lookup options (name_in x xs)) (value_in x xs) k

  -- ---- the end

  abbrev no_kinds : Kinds
  no_kinds = []

  no_default : (rows : List Row) (n : Text) → default_fault rows (set_rule n) ≡ []
  no_default rows n = go (has_row n rows)
    where
      go : (t : Bool) → cond (t || true) no_kinds no_kinds ≡ no_kinds
      go true = refl
      go false = refl

  -- the rows, where each option is among them
  abbrev pub complete : List Row → Option (List Row)
  complete rows = cond (list_any (λ a. a.required && not (is_given a.id rows)) the_rules) None (Some rows)

  complete_by : (rows : List Row) (t : Bool) → unless (cond t (MissingRequiredArgument ∷ []) []) (Some rows) ≡ cond t None (Some rows)
  complete_by rows true = refl
  complete_by rows false = refl

  same_rows : (rows : List Row) (m : Text) → with_default rows (set_rule m) ≡ rows
  same_rows rows m = go (has_row m rows)
    where
      go : (t : Bool) → cond t rows rows ≡ rows
      go true = refl
      go false = refl

  all_same : (rows : List Row) (ms : List Text) → fold with_default rows (rules ms) ≡ rows
  all_same rows [] = refl
  all_same rows (m ∷ ms) = ap (λ (r : List Row). fold with_default r (rules ms)) (same_rows rows m) ∙ all_same rows ms

  no_defaults : (rows : List Row) (ms : List Text) → defaults_fault rows (rules ms) ≡ []
  unfolding defaults_fault
  no_defaults rows [] = refl
  no_defaults rows (m ∷ ms) =
      ap₂ (λ (a : Kinds) (r : List Row). or_else a (defaults_fault r (rules ms))) (no_default rows m) (same_rows rows m) ∙ no_defaults rows ms

  pub at_end : (rows : List Row) (p : Option (Text × List Text)) (waiting : Waiting)
      → run the_leaf (stand rows p waiting) [] ≡ unless (settle_fault the_rules false (held rows p)) (complete (settled_rows the_rules p rows))
  unfolding walk_fault
  at_end rows p waiting =
      let now = settled_rows the_rules p rows in
      let fault = settle_fault the_rules false (held rows p) in
      ap₂ (λ (a : Kinds) (r : List Row). unless (or_else fault (or_else a (check_fault the_leaf r false))) (Some r)) (no_defaults now options) (all_same now options)
      ∙ unless_or fault (check_fault the_leaf now false) (Some now)
      ∙ ap (unless fault) (complete_by now (list_any (λ a. a.required && not (is_given a.id now)) the_rules))

  pub unended : (rows : List Row) (n : Text) → known options n ≡ true → run the_leaf (stand rows (Some (n, [])) (option n)) [] ≡ None
  unended rows n k = at_end rows (Some (n, [])) (option n) ∙ nothing (settle_fault the_rules false (held rows (Some (n, [])))) _ (no_value rows n k)

  -- ---- the option that is pending with its value

  pending_fault : (rows : List Row) (n v : Text) → known options n ≡ true → settle_fault the_rules false (held rows (Some (n, v ∷ []))) ≡ use_fault false (set_rule n) (v ∷ []) rows
  pending_fault rows n v k = ap (λ (o : Option Rule). option_map_or (λ a. use_fault false a (v ∷ []) rows) o []) (id_found options n k)

  pending_rows : (rows : List Row) (n v : Text) → known options n ≡ true → settled_rows the_rules (Some (n, v ∷ [])) rows ≡ used (set_rule n) (v ∷ []) rows
  pending_rows rows n v k = ap (λ (o : Option Rule). used_by_id o (v ∷ []) rows) (id_found options n k)

  meets_split : (found v : Option Text) (fault : Kinds) (rows : List Row) (rest : List Text) → meets found v fault rows rest ≡ unless fault (meets found v [] rows rest)
  meets_split None v fault rows rest = sym (unless_none fault)
  meets_split (Some n) (Some v) fault rows rest = refl
  meets_split (Some n) None fault rows rest = refl

  -- it is as good as used
  pub commit : (rows : List Row) (n v : Text) (words : List Text) → known options n ≡ true → ((w : Text) (rest : List Text) → words ≡ w ∷ rest → View w)
      → run the_leaf (stand rows (Some (n, v ∷ [])) idle) words ≡ unless (use_fault false (set_rule n) (v ∷ []) rows) (run the_leaf (stand (used (set_rule n) (v ∷ []) rows) None idle) words)
  commit rows n v [] k view =
      let fault = use_fault false (set_rule n) (v ∷ []) rows in
      at_end rows (Some (n, v ∷ [])) idle
      ∙ ap₂ (λ (a : Kinds) (r : List Row). unless a (complete r)) (pending_fault rows n v k) (pending_rows rows n v k)
      ∙ ap (unless fault) (sym (at_end (used (set_rule n) (v ∷ []) rows) None idle))
  commit rows n v (w ∷ rest) k view = by_view (view w rest refl)
    where
      by_long : (x : ℕ) (xs : Text) → run the_leaf (stand rows (Some (n, v ∷ [])) idle) ((45 ∷ 45 ∷ x ∷ xs) ∷ rest) ≡ unless (use_fault false (set_rule n) (v ∷ []) rows) (run the_leaf (stand (used (set_rule n) (v ∷ []) rows) None idle) ((45 ∷ 45 ∷ x ∷ xs) ∷ rest))
      by_long x xs =
          long_met_is rows (Some (n, v ∷ [])) x xs rest
          ∙ ap₂ (λ (a : Kinds) (r : List Row). meets (lookup options (name_in x xs)) (value_in x xs) a r rest) (pending_fault rows n v k) (pending_rows rows n v k)
          ∙ meets_split (lookup options (name_in x xs)) (value_in x xs) (use_fault false (set_rule n) (v ∷ []) rows) (used (set_rule n) (v ∷ []) rows) rest
          ∙ ap (unless (use_fault false (set_rule n) (v ∷ []) rows)) (sym (long_met_is (used (set_rule n) (v ∷ []) rows) None x xs rest))

      by_view : View w → run the_leaf (stand rows (Some (n, v ∷ [])) idle) (w ∷ rest) ≡ unless (use_fault false (set_rule n) (v ∷ []) rows) (run the_leaf (stand (used (set_rule n) (v ∷ []) rows) None idle) (w ∷ rest))
      by_view (inl plain) =
          stray rows (Some (n, v ∷ [])) w rest (plain_from w plain) ∙ sym (unless_none (use_fault false (set_rule n) (v ∷ []) rows))
          ∙ ap (unless (use_fault false (set_rule n) (v ∷ []) rows)) (sym (stray (used (set_rule n) (v ∷ []) rows) None w rest (plain_from w plain)))
      by_view (inr long) = subst (λ (u : Text). run the_leaf (stand rows (Some (n, v ∷ [])) idle) (u ∷ rest) ≡ unless (use_fault false (set_rule n) (v ∷ []) rows) (run the_leaf (stand (used (set_rule n) (v ∷ []) rows) None idle) (u ∷ rest))) (sym long.1.1) (by_long long.0 long.1.0)
