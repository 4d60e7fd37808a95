-- How many members of a sorted set stand before a member, and how many behind it.
use Rattle.std.proofs.Common.{◌≡◌, ℕ, ◌+◌, ◌≤◌, refl, sym, ap, ◌∙◌, Bool, true, false, cond, List, [], ◌∷◌, length, arith}
use Rattle.std.proofs.lemmas.Cmp.{int_cmp_total}
use Rattle.std.proofs.lemmas.List.Sums.{sum_by-cons, count_by-le-length}
use Rattle.std.specs.Prelude.{Some, None, T, not, count_by, ℤ}
use Rattle.std.specs.declared.cmp.Ordering.{Ordering}
use Rattle.std.specs.declared.cmp.Ordering.TheVariants.{Less, Equal, Greater}
use Rattle.std.specs.Ordering.{is_lt, is_eq, int_cmp, ordering_then, ordering_reverse}
use Rattle.std.specs.Cmp.{tied_itself}
use Rattle.std.specs.Cmp.Lexicographic.{nat_list_cmp_total}
use Rattle.std.specs.FinMap.Entries.{find, is_sorted, below_all}
use Rattle.kv_base.specs.Map.{Bytes, Map, byte_cmp, same, same_is, get, size}
use Rattle.kv_base.specs.InversionLaws.{same_some}
use Rattle.kv_base.specs.TestLaws.{first, second}
use Rattle.lives_model.specs.PassingLaws.{find_at}
use Rattle.redis_model.specs.SortedSets.{Scored, rank_cmp, in_place, ascending, ranked, number_behind}

-- ---- by rank stand the same members

counted : (p : Scored → Bool) (e : Scored) (es : List Scored) → count_by p (e ∷ es) ≡ cond (p e) 1 0 + count_by p es
counted p e es = sum_by-cons (λ e. cond (p e) 1 0) e es

count-place : (p : Scored → Bool) (e : Scored) (es : List Scored) → count_by p (in_place e es) ≡ count_by p (e ∷ es)
count-place p e [] = refl
count-place p e (f ∷ fs) = by_test (is_lt (rank_cmp e f)) (count-place p e fs)
  where
    by_test : (b : Bool) → count_by p (in_place e fs) ≡ count_by p (e ∷ fs) → count_by p (cond b (e ∷ f ∷ fs) (f ∷ in_place e fs)) ≡ count_by p (e ∷ f ∷ fs)
    by_test true rest = refl
    by_test false rest = omega (arith, rest, counted p f (in_place e fs), counted p e fs, counted p e (f ∷ fs), counted p f fs)

-- so as many pass a test
count-order : (p : Scored → Bool) (es : List Scored) → count_by p (ascending es) ≡ count_by p es
count-order p [] = refl
count-order p (e ∷ es) = let rest = count-order p es in let here = count-place p e (ascending es) in omega (arith, rest, here, counted p e (ascending es), counted p e es)

pub count-ranked : (p : Scored → Bool) (z : Map ℤ) → count_by p (ranked z) ≡ count_by p z.entries
count-ranked p z = count-order p z.entries

length-place : (e : Scored) (es : List Scored) → length (in_place e es) ≡ length es + 1
length-place e [] = omega arith
length-place e (f ∷ fs) = by_test (is_lt (rank_cmp e f)) (length-place e fs)
  where
    by_test : (b : Bool) → length (in_place e fs) ≡ length fs + 1 → length (cond b (e ∷ f ∷ fs) (f ∷ in_place e fs)) ≡ length (f ∷ fs) + 1
    by_test true rest = omega arith
    by_test false rest = omega (arith, rest)

length-order : (es : List Scored) → length (ascending es) ≡ length es
length-order [] = refl
length-order (e ∷ es) = let rest = length-order es in let here = length-place e (ascending es) in omega (arith, rest, here)

pub length-ranked : (z : Map ℤ) → length (ranked z) ≡ size z
unfolding size
length-ranked z = length-order z.entries

-- and no more than there are
pub count-within : (p : Scored → Bool) (z : Map ℤ) → count_by p z.entries ≤ size z
unfolding size
count-within p z = count_by-le-length p z.entries

-- ---- before a member, and behind it

then_turned : (a b : Ordering) → ordering_reverse (ordering_then a b) ≡ ordering_then (ordering_reverse a) (ordering_reverse b)
then_turned Less b = refl
then_turned Equal b = refl
then_turned Greater b = refl

rank_turned : (a b : Scored) → rank_cmp a b ≡ ordering_reverse (rank_cmp b a)
rank_turned a b = (λ i. ordering_then (int_cmp_total.antisymm a.1 b.1 i) (nat_list_cmp_total.antisymm a.0 b.0 i)) ∙ sym (then_turned (int_cmp b.1 a.1) (byte_cmp b.0 a.0))

-- a member under another name stands before or behind
other_rank : (e : Scored) (x : Bytes) (s : ℤ) → same x e.0 ≡ false → not (is_lt (rank_cmp e (x, s))) ≡ is_lt (rank_cmp (x, s) e)
other_rank e x s apart = ap (λ o. not (is_lt o)) (rank_turned e (x, s)) ∙ by_score (int_cmp s e.1) (byte_cmp x e.0) refl
  where
    by_score : (o r : Ordering) → byte_cmp x e.0 ≡ r → not (is_lt (ordering_reverse (ordering_then o r))) ≡ is_lt (ordering_then o r)
    by_score Less r is = refl
    by_score Greater r is = refl
    by_score Equal Less is = refl
    by_score Equal Greater is = refl
    by_score Equal Equal is = let yes_too : same x e.0 ≡ true = ap is_eq is in absurd (cc)

-- itself does neither
own_rank : (e : Scored) (x : Bytes) (s : ℤ) → e.0 ≡ x → e.1 ≡ s → rank_cmp e (x, s) ≡ Equal
own_rank e x s name score =
    (λ i. ordering_then (int_cmp (score i) s) (byte_cmp (name i) x)) ∙ (λ i. ordering_then (tied_itself int_cmp_total s i) (tied_itself nat_list_cmp_total x i))

module _ (x : Bytes) (s : ℤ) where
  abbrev not_before : Scored → Bool
  not_before e = not (is_lt (rank_cmp e (x, s)))

  abbrev behind : Scored → Bool
  behind e = is_lt (rank_cmp (x, s) e)

  more : (a b : Bool) (n m : ℕ) → a ≡ b → n ≡ m → cond a 1 0 + n ≡ cond b 1 0 + m
  more a b n m e f = (λ i. cond (e i) 1 0 + f i)

  -- where the member is not among them, those that are not before it are behind it
  none_there : (es : List Scored) → find byte_cmp x es ≡ None → count_by not_before es ≡ count_by behind es
  none_there [] none = refl
  none_there (e ∷ es) none = by_test (same x e.0) refl (none_there es) none
    where
      by_test : (b : Bool) → same x e.0 ≡ b → (find byte_cmp x es ≡ None → count_by not_before es ≡ count_by behind es) → cond b (Some e.1) (find byte_cmp x es) ≡ None → count_by not_before (e ∷ es) ≡ count_by behind (e ∷ es)
      by_test true is rest gone = let here : Some e.1 ≡ None = gone in absurd (cc)
      by_test false is rest gone =
          counted not_before e es ∙ more (not_before e) (behind e) (count_by not_before es) (count_by behind es) (other_rank e x s is) (rest gone) ∙ sym (counted behind e es)

  -- and where it is, itself more
  one_there : (es : List Scored) → T (is_sorted byte_cmp es) → find byte_cmp x es ≡ Some s → count_by not_before es ≡ count_by behind es + 1
  one_there [] h there = let no : None ≡ Some s = there in absurd (cc)
  one_there (e ∷ es) h there = by_test (same x e.0) refl (one_there es (second (below_all byte_cmp e.0 es) (is_sorted byte_cmp es) h)) there
    where
      by_test : (b : Bool) → same x e.0 ≡ b → (find byte_cmp x es ≡ Some s → count_by not_before es ≡ count_by behind es + 1) → cond b (Some e.1) (find byte_cmp x es) ≡ Some s → count_by not_before (e ∷ es) ≡ count_by behind (e ∷ es) + 1
      by_test true is others found =
          let name : x ≡ e.0 = same_is x e.0 is in
          let tie : rank_cmp e (x, s) ≡ Equal = own_rank e x s (sym name) (same_some e.1 s found) in
          let own : not_before e ≡ true = ap (λ o. not (is_lt o)) tie in
          let itself : behind e ≡ false = ap is_lt (rank_turned (x, s) e) ∙ ap (λ o. is_lt (ordering_reverse o)) tie in
          let rest = none_there es (ap (λ (q : Bytes). find byte_cmp q es) name ∙ find_at e.0 es (first (below_all byte_cmp e.0 es) (is_sorted byte_cmp es) h)) in
          let one : count_by not_before (e ∷ es) ≡ 1 + count_by not_before es = counted not_before e es ∙ ap (λ b. cond b 1 0 + count_by not_before es) own in
          let none : count_by behind (e ∷ es) ≡ 0 + count_by behind es = counted behind e es ∙ ap (λ b. cond b 1 0 + count_by behind es) itself in
          omega (arith, rest, one, none)
      by_test false is others found =
          let rest = others found in
          let here = more (not_before e) (behind e) (count_by not_before es) (count_by behind es + 1) (other_rank e x s is) rest in
          omega (arith, here, counted not_before e es, counted behind e es)

-- From a member on stand those behind it, and itself.
pub count-onwards : (z : Map ℤ) (x : Bytes) (s : ℤ) → get z x ≡ Some s → count_by (λ e. not (is_lt (rank_cmp e (x, s)))) z.entries ≡ number_behind z x s + 1
unfolding get
count-onwards z x s there = one_there x s z.entries z.sorted there
