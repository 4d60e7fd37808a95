-- Options that are read one after the other.
use Rattle.std.proofs.Common.{◌≡◌, refl, ℕ, ◌≤◌, Bool, true, false, List, [], ◌∷◌, length, get_or, drop, Option, Some, None, ap, sym, ◌∙◌, arith}
use Rattle.std.specs.Prelude.{codes, is_none, is_some}
use Rattle.kv_base.specs.Map.{Bytes}
use Rattle.cmd_words.specs.Words.{is}
use Rattle.cmd_words.specs.Options.{unit, amount, with_time, with_word, set_options, with_scores, limit, range_options}
use Rattle.cmd_words.specs.declared.set_options.SetOptions.{SetOptions}
use Rattle.cmd_words.specs.declared.range_options.RangeOptions.{RangeOptions}

set_timed_at : (o p : SetOptions) (w n : Bytes) (ws : List Bytes) (u : ℕ) → unit w ≡ Some u → with_time o (amount u n) ≡ Some p → set_options o (w ∷ n ∷ ws) ≡ set_options p ws
unfolding set_options
set_timed_at o p w n ws u e f = rw (e, f) refl

set_other_at : (o p : SetOptions) (w n : Bytes) (ws : List Bytes) → unit w ≡ None → with_word o w ≡ Some p → set_options o (w ∷ n ∷ ws) ≡ set_options p (n ∷ ws)
unfolding set_options
set_other_at o p w n ws e f = rw (e, f) refl

pub set_timed : (o p : SetOptions) (ws : List Bytes) (w n : Bytes) (u : ℕ) → 2 ≤ length ws → w ≡ get_or ws 0 w → n ≡ get_or ws 1 n → unit w ≡ Some u → with_time o (amount u n) ≡ Some p → set_options o ws ≡ set_options p (drop 2 ws)
set_timed o p [] w n u h i j e f = let no : ⊥ = omega arith in absurd no
set_timed o p (x ∷ []) w n u h i j e f = let no : ⊥ = omega arith in absurd no
set_timed o p (x ∷ y ∷ ws) w n u h i j e f = set_timed_at o p x y ws u (rw i at e) (rw j at f)

pub set_other : (o p : SetOptions) (ws : List Bytes) (w : Bytes) → 2 ≤ length ws → w ≡ get_or ws 0 w → unit w ≡ None → with_word o w ≡ Some p → set_options o ws ≡ set_options p (drop 1 ws)
set_other o p [] w h i e f = let no : ⊥ = omega arith in absurd no
set_other o p (x ∷ []) w h i e f = let no : ⊥ = omega arith in absurd no
set_other o p (x ∷ y ∷ ws) w h i e f = set_other_at o p x y ws (rw i at e) (rw i at f)

range_limit_at : (o : RangeOptions) (w a b : Bytes) (ws : List Bytes) → is (codes "limit") w ≡ true → is_none o.limit ≡ true → range_options o (w ∷ a ∷ b ∷ ws) ≡ range_options (record o { limit = Some (limit a b) }) ws
unfolding range_options
range_limit_at o w a b ws e f = rw (e, f) refl

range_other_at : (o p : RangeOptions) (w a b : Bytes) (ws : List Bytes) → is (codes "limit") w ≡ false → with_scores o w ≡ Some p → range_options o (w ∷ a ∷ b ∷ ws) ≡ range_options p (a ∷ b ∷ ws)
unfolding range_options
range_other_at o p w a b ws e f = rw (e, f) refl

pub range_limit : (o : RangeOptions) (ws : List Bytes) (w a b : Bytes) → 3 ≤ length ws → w ≡ get_or ws 0 w → a ≡ get_or ws 1 a → b ≡ get_or ws 2 b → is (codes "limit") w ≡ true → is_none o.limit ≡ true → range_options o ws ≡ range_options (record o { limit = Some (limit a b) }) (drop 3 ws)
range_limit o [] w a b h i j k e f = let no : ⊥ = omega arith in absurd no
range_limit o (x ∷ []) w a b h i j k e f = let no : ⊥ = omega arith in absurd no
range_limit o (x ∷ y ∷ []) w a b h i j k e f = let no : ⊥ = omega arith in absurd no
range_limit o (x ∷ y ∷ z ∷ ws) w a b h i j k e f = range_limit_at o x y z ws (rw i at e) f ∙ sym (ap (λ l. range_options (record o { limit = Some l }) ws) (λ t. limit (j t) (k t)))

pub range_other : (o p : RangeOptions) (ws : List Bytes) (w : Bytes) → 3 ≤ length ws → w ≡ get_or ws 0 w → is (codes "limit") w ≡ false → with_scores o w ≡ Some p → range_options o ws ≡ range_options p (drop 1 ws)
range_other o p [] w h i e f = let no : ⊥ = omega arith in absurd no
range_other o p (x ∷ []) w h i e f = let no : ⊥ = omega arith in absurd no
range_other o p (x ∷ y ∷ []) w h i e f = let no : ⊥ = omega arith in absurd no
range_other o p (x ∷ y ∷ z ∷ ws) w h i e f = range_other_at o p x y z ws (rw i at e) (rw i at f)

pub none_from_some : {A : Type 0} (o : Option A) (b : Bool) → b ≡ is_some o → b ≡ false → is_none o ≡ true
none_from_some None b e f = refl
none_from_some (Some x) b e f = cc

pub range_limit_end : (o : RangeOptions) (ws rest : List Bytes) (w a b : Bytes) (r : Option RangeOptions) → 3 ≤ length ws → w ≡ get_or ws 0 w → a ≡ get_or ws 1 a → b ≡ get_or ws 2 b → is (codes "limit") w ≡ true → is_none o.limit ≡ true → rest ≡ drop 3 ws → r ≡ range_options (record o { limit = Some (limit a b) }) rest → r ≡ range_options o ws
range_limit_end o ws rest w a b r h i j k e f d g = g ∙ ap (range_options (record o { limit = Some (limit a b) })) d ∙ sym (range_limit o ws w a b h i j k e f)

pub range_other_end : (o p : RangeOptions) (ws rest : List Bytes) (w : Bytes) (r : Option RangeOptions) → 3 ≤ length ws → w ≡ get_or ws 0 w → is (codes "limit") w ≡ false → with_scores o w ≡ Some p → rest ≡ drop 1 ws → r ≡ range_options p rest → r ≡ range_options o ws
range_other_end o p ws rest w r h i e f d g = g ∙ ap (range_options p) d ∙ sym (range_other o p ws w h i e f)
