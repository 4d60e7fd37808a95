-- What the four rules leave, row by row, and what shows of it at a sequence.
use Rattle.std.proofs.Common.{◌≡◌, ℕ, zero, suc, ◌<◌, ◌≤◌, List, [], ◌∷◌, refl, sym, ap, subst, ◌∙◌, Bool, true, false, cond, Option, Some, None, inl, inr, arith}
use Rattle.std.proofs.lemmas.Bool.Decides.{nat_tests}
use Rattle.std.specs.Prelude.{◌||◌, not, nat_le, map, filter}
use Rattle.std.specs.List.{list_any, list_all, Contains, filter_map, cons_option}
use Rattle.kv_base.specs.Map.{Bytes}
use Rattle.kv_base.specs.InversionLaws.{same_some, both_first, both_second}
use Rattle.kv_base.specs.declared.row.Row.{Row}
use Rattle.row_model.specs.Rows.{seen_at, AreApart}
use Rattle.row_model.specs.RowLaws.{there_first, there_behind, there_cases, there_never, seen_is, seen_least}
use Rattle.filter_laws.specs.Watchers.{Watcher}
use Rattle.filter_laws.specs.Kept.{is_seen, is_dead_to_all, buried, bury, is_orphan, is_idle, IsRowOrBurial}
use Rattle.filter_laws.specs.Kept as rules

-- ---- tests of lists

-- where one passes some do
pub any_there : {X : Type 0} (p : X → Bool) (xs : List X) (x : X) → Contains xs x → p x ≡ true → list_any p xs ≡ true
any_there p [] x (n, low, is) h = absurd (omega arith)
any_there p (y ∷ ys) x (zero, low, is) h = ap (λ b. b || list_any p ys) (ap p is ∙ h)
any_there p (y ∷ ys) x (suc n, low, is) h = by_first (p y) (any_there p ys x (n, omega arith, is) h)
  where
    by_first : (b : Bool) → list_any p ys ≡ true → (b || list_any p ys) ≡ true
    by_first true e = refl
    by_first false e = e

-- where some pass there is one that does
pub any_is : {X : Type 0} (p : X → Bool) (xs : List X) → list_any p xs ≡ true → (x : X) × Contains xs x × (p x ≡ true)
any_is p [] h = absurd (cc)
any_is {X = X} p (y ∷ ys) h = by_first (any_is p ys) (p y) refl h
  where
    Found : List X → Type 0
    Found xs = (x : X) × Contains xs x × (p x ≡ true)

    later : Found ys → Found (y ∷ ys)
    later (x, (n, low, is), t) = (x, (suc n, omega arith, is), t)

    by_first : (list_any p ys ≡ true → Found ys) → (b : Bool) → p y ≡ b → (b || list_any p ys) ≡ true → Found (y ∷ ys)
    by_first rest true e h = (y, (0, omega arith, refl), e)
    by_first rest false e h = later (rest h)

-- what all pass each does
pub all_there : {X : Type 0} (p : X → Bool) (xs : List X) (x : X) → list_all p xs ≡ true → Contains xs x → p x ≡ true
all_there p [] x h (n, low, is) = absurd (omega arith)
all_there p (y ∷ ys) x h (zero, low, is) = ap p (sym is) ∙ both_first (p y) (list_all p ys) h
all_there p (y ∷ ys) x h (suc n, low, is) = all_there p ys x (both_second (p y) (list_all p ys) h) (n, omega arith, is)

-- ---- what a list has of another

module _ (g : Row → Option Row) where
  behind : (o : Option Row) (rows : List Row) (row : Row) → Contains rows row → Contains (cons_option o rows) row
  behind None rows row there = there
  behind (Some z) rows row there = there_behind rows row z there

  -- what is left of a row is among what is left of all
  pub in_left : (rows : List Row) (row o : Row) → Contains rows row → g row ≡ Some o → Contains (filter_map g rows) o
  in_left [] row o there e = absurd (there_never row there)
  in_left (x ∷ xs) row o there e =
      elim (there_cases xs row x there) [
        | inl is ↦ subst (λ (y : Option Row). Contains (cons_option y (filter_map g xs)) o) (sym (ap g is ∙ e)) (there_first (filter_map g xs) o)
        | inr later ↦ behind (g x) (filter_map g xs) o (in_left xs row o later e)
      ]

  -- and what is among that is left of a row
  pub from_left : (rows : List Row) (o : Row) → Contains (filter_map g rows) o → (row : Row) × Contains rows row × (g row ≡ Some o)
  from_left [] o there = absurd (there_never o there)
  from_left (x ∷ xs) o there = by_first (from_left xs o) (g x) refl there
    where
      later : (row : Row) × Contains xs row × (g row ≡ Some o) → (row : Row) × Contains (x ∷ xs) row × (g row ≡ Some o)
      later (row, there, e) = (row, there_behind xs row x there, e)

      by_first : (Contains (filter_map g xs) o → (row : Row) × Contains xs row × (g row ≡ Some o)) → (y : Option Row) → g x ≡ y → Contains (cons_option y (filter_map g xs)) o
          → (row : Row) × Contains (x ∷ xs) row × (g row ≡ Some o)
      by_first rest None e there = later (rest there)
      by_first rest (Some z) e there =
          elim (there_cases (filter_map g xs) o z there) [
            | inl is ↦ (x, there_first xs x, e ∙ ap (λ (r : Row). Some r) is)
            | inr after ↦ later (rest after)
          ]

-- ---- the rules, row by row

-- a test, a change and two tests of lists are those of each row
passes : (p : Row → Bool) (f : Row → Row) (q r : Row → Bool) (rows : List Row)
    → filter r (filter q (map f (filter p rows))) ≡ filter_map (λ row. cond (p row) (cond (q (f row)) (cond (r (f row)) (Some (f row)) None) None) None) rows
passes p f q r [] = refl
passes p f q r (x ∷ xs) = first (p x) ∙ ap (cons_option (cond (p x) (cond (q (f x)) (cond (r (f x)) (Some (f x)) None) None) None)) (passes p f q r xs)
  where
    third : (b : Bool) (rest : List Row) → cond b (f x ∷ rest) rest ≡ cons_option (cond b (Some (f x)) None) rest
    third true rest = refl
    third false rest = refl

    second : (b : Bool) (rest : List Row) → filter r (cond b (f x ∷ rest) rest) ≡ cons_option (cond b (cond (r (f x)) (Some (f x)) None) None) (filter r rest)
    second true rest = third (r (f x)) (filter r rest)
    second false rest = refl

    first : (b : Bool) → filter r (filter q (map f (cond b (x ∷ filter p xs) (filter p xs)))) ≡ cons_option (cond b (cond (q (f x)) (cond (r (f x)) (Some (f x)) None) None) None) (filter r (filter q (map f (filter p xs))))
    first true = second (q (f x)) (filter q (map f (filter p xs)))
    first false = refl

module _ (watch : List Watcher) (inputs deeper all : List Row) where
  -- what the third and the fourth rule leave of a row
  abbrev pub after_bury : Row → Option Row
  after_bury row = cond (not (is_orphan watch all row)) (cond (not (is_idle watch inputs deeper row)) (Some row) None) None

  -- what is left of a row
  abbrev pub by_rules : Row → Option Row
  by_rules row = cond (is_seen watch inputs row) (after_bury (bury watch inputs row)) None

  -- what is kept is what is left row by row
  pub kept_is : rules.kept_rows watch inputs deeper all ≡ filter_map by_rules inputs
  unfolding rules.kept_rows
  kept_is = passes (is_seen watch inputs) (bury watch inputs) (λ row. not (is_orphan watch all row)) (λ row. not (is_idle watch inputs deeper row)) inputs

  twice : (a b : Bool) (r o : Row) → cond a (cond b (Some r) None) None ≡ Some o → r ≡ o
  twice true true r o e = same_some r o e
  twice true false r o e = absurd (cc)
  twice false b r o e = absurd (cc)

  -- what is left of a row is the row or its burial
  pub left_is : (row o : Row) → by_rules row ≡ Some o → IsRowOrBurial watch inputs row o
  left_is row o e = by_seen (is_seen watch inputs row) refl e
    where
      by_expired : is_seen watch inputs row ≡ true → (b : Bool) → is_dead_to_all watch inputs row ≡ b → cond b (buried row) row ≡ o → IsRowOrBurial watch inputs row o
      by_expired seen true t is = record { seen = seen; raw = ap (λ (r : Row). r.raw) (sym is); seq = ap (λ (r : Row). r.seq) (sym is); is = inr (sym is, t) }
      by_expired seen false t is = record { seen = seen; raw = ap (λ (r : Row). r.raw) (sym is); seq = ap (λ (r : Row). r.seq) (sym is); is = inl (sym is) }

      by_seen : (b : Bool) → is_seen watch inputs row ≡ b → cond b (after_bury (bury watch inputs row)) None ≡ Some o → IsRowOrBurial watch inputs row o
      by_seen true t e =
          by_expired t (is_dead_to_all watch inputs row) refl
          (twice (not (is_orphan watch all (bury watch inputs row))) (not (is_idle watch inputs deeper (bury watch inputs row))) (bury watch inputs row) o e)
      by_seen false t e = absurd (cc)

-- ---- what shows

-- the row that is the rule's answer shows
pub newest_unique : (rows : List Row) (s : ℕ) (raw : Bytes) (row : Row) → AreApart rows → Contains rows row → row.raw ≡ raw → row.seq ≤ s
    → ((o : Row) → Contains rows o → o.raw ≡ raw → o.seq ≤ s → o.seq ≤ row.seq) → seen_at rows s raw ≡ Some row
newest_unique rows s raw row apart there of low greatest =
    let least = seen_least rows s raw row there of low in
    let it = seen_is rows s raw least.0 least.1 in
    let up = greatest least.0 it.0 it.1 it.2 in
    let tied : least.0.seq ≡ row.seq = omega (arith, up, least.2) in
    least.1 ∙ ap (λ (r : Row). Some r) (apart least.0 row it.0 there (it.1 ∙ sym of) tied)

-- where all rows of a raw key are above the sequence none shows
pub none_shows : (rows : List Row) (s : ℕ) (raw : Bytes) → ((o : Row) → Contains rows o → o.raw ≡ raw → s < o.seq) → seen_at rows s raw ≡ None
none_shows rows s raw above = by_seen (seen_at rows s raw) refl
  where
    by_seen : (o : Option Row) → seen_at rows s raw ≡ o → o ≡ None
    by_seen None e = refl
    by_seen (Some row) e = let it = seen_is rows s raw row e in let high = above row it.0 it.1 in let low = it.2 in absurd (omega arith)

-- where each row of another list comes from one of these, with its raw key and its sequence
module _ (g : Row → Option Row) (inputs : List Row) (apart : AreApart inputs) (raws : (row o : Row) → g row ≡ Some o → o.raw ≡ row.raw) (seqs : (row o : Row) → g row ≡ Some o → o.seq ≡ row.seq) where
  -- no two of what is left have raw key and sequence equal
  pub apart_left : AreApart (filter_map g inputs)
  apart_left o p there too raw seq =
      let a = from_left g inputs o there in
      let b = from_left g inputs p too in
      let one : a.0 ≡ b.0 = apart a.0 b.0 a.1 b.1 (sym (raws a.0 o a.2) ∙ raw ∙ raws b.0 p b.2) (sym (seqs a.0 o a.2) ∙ seq ∙ seqs b.0 p b.2) in
      same_some o p (sym a.2 ∙ ap g one ∙ b.2)

  -- the row that shows is left
  pub stays : (s : ℕ) (raw : Bytes) (row o : Row) → seen_at inputs s raw ≡ Some row → g row ≡ Some o → seen_at (filter_map g inputs) s raw ≡ Some o
  stays s raw row o e is =
      let it = seen_is inputs s raw row e in
      let seq = seqs row o is in
      let low = it.2 in
      newest_unique (filter_map g inputs) s raw o apart_left (in_left g inputs row o it.0 is) (raws row o is ∙ it.1) (omega arith) (λ p there of under.
      let a = from_left g inputs p there in
      let same : p.seq ≡ a.0.seq = seqs a.0 p a.2 in
      let least = seen_least inputs s raw a.0 a.1 (sym (raws a.0 p a.2) ∙ of) (omega arith) in
      let one : least.0.seq ≡ row.seq = ap (λ (r : Row). r.seq) (same_some least.0 row (sym least.1 ∙ e)) in
      let up = least.2 in
      omega arith)

  -- none of its raw key that is not above s is left
  pub nothing_left : (s : ℕ) (raw : Bytes) → ((a o : Row) → Contains inputs a → a.raw ≡ raw → a.seq ≤ s → g a ≡ Some o → ⊥) → seen_at (filter_map g inputs) s raw ≡ None
  nothing_left s raw never = none_shows (filter_map g inputs) s raw (λ o there of.
      let a = from_left g inputs o there in
      by_low o a.0 a.1 a.2 of (nat_le o.seq s) refl)
    where
      by_low : (o a : Row) → Contains inputs a → g a ≡ Some o → o.raw ≡ raw → (b : Bool) → nat_le o.seq s ≡ b → s < o.seq
      by_low o a there ga of false t = grind (arith, nat_tests)
      by_low o a there ga of true t =
          let low : o.seq ≤ s = grind (arith, nat_tests) in
          let seq = seqs a o ga in
          absurd (never a o there (sym (raws a o ga) ∙ of) (omega arith) ga)

  -- where nothing shows, nothing is left to show
  pub still_nothing : (s : ℕ) (raw : Bytes) → seen_at inputs s raw ≡ None → seen_at (filter_map g inputs) s raw ≡ None
  still_nothing s raw e = nothing_left s raw (λ a o there of low ga. let least = seen_least inputs s raw a there of low in absurd (cc))
