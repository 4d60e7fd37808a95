-- How the entries of a map that pass a test go on from key to key.
use Rattle.std.proofs.Common.{◌≡◌, ℕ, refl, sym, ap, subst, ◌∙◌, Bool, true, false, cond, List, [], ◌∷◌, ◌++◌, arith}
use Rattle.std.proofs.lemmas.Bool.{and_right, not-true}
use Rattle.std.proofs.lemmas.Bool.Decides.{nat_tests}
use Rattle.std.specs.Prelude.{Some, None, T, ◌&&◌, ◌==◌, not, filter, nat_eq, nat_lt}
use Rattle.std.specs.declared.cmp.Ordering.{Ordering}
use Rattle.std.specs.declared.cmp.Ordering.TheVariants.{Less, Equal, Greater}
use Rattle.std.specs.Ordering.{is_eq, is_lt, is_gt, ordering_reverse, nat_cmp, ordering_then}
use Rattle.std.specs.List.{starts_with}
use Rattle.std.specs.Cmp.{tied_itself}
use Rattle.std.specs.Cmp.Lexicographic.{nat_list_cmp_total, slice_cmp}
use Rattle.std.specs.FinMap.Entries.{find, is_sorted, below_all, is_sorted-where_key, find-where_key, same_entries}
use Rattle.kv_base.specs.Map.{Bytes, byte_cmp, Map, exact, get}
use Rattle.kv_base.specs.InversionLaws.{if_is, both_first, both_second}
use Rattle.lives_model.specs.Passing.{passing, above, is_asked}
use Rattle.kv_base.specs.TestLaws.{first, second, both, less, is_less}

-- an order is what its test says
greater : (o : Ordering) → is_gt o ≡ true → o ≡ Greater
greater Less e = absurd (cc)
greater Equal e = absurd (cc)
greater Greater e = refl

-- a test that fails in the end
and_false : (b : Bool) → (b && false) ≡ false
and_false b = and_right b false refl

-- a test that holds in the end
and_true : (b : Bool) → (b && true) ≡ b
and_true true = refl
and_true false = refl

-- the order of two raw keys turned round
turned : (a b : Bytes) → byte_cmp a b ≡ Greater → byte_cmp b a ≡ Less
turned a b e = nat_list_cmp_total.antisymm b a ∙ ap ordering_reverse e

-- and back
turned_back : (a b : Bytes) → byte_cmp a b ≡ Less → byte_cmp b a ≡ Greater
turned_back a b e = nat_list_cmp_total.antisymm b a ∙ ap ordering_reverse e

-- what is above what is above is above
far_above : (a b d : Bytes) → byte_cmp a b ≡ Greater → byte_cmp b d ≡ Greater → byte_cmp a d ≡ Greater
far_above a b d e f = turned_back d a (nat_list_cmp_total.trans d b a (turned b d f) (turned a b e))

-- tests that answer alike pass the same entries
pub passing_same : {X : Type 0} (p r : Bytes → Bool) (m : Map X) → ((q : Bytes) → p q ≡ r q) → passing p m ≡ passing r m
passing_same {X} p r m same = by_list m.entries
  where
    by_list : (es : List (Bytes × X)) → filter (λ e. p e.0) es ≡ filter (λ e. r e.0) es
    by_list [] = refl
    by_list (e ∷ es) = let rest = by_list es in λ i. cond (same e.0 i) (e ∷ rest i) (rest i)

module _ {X : Type 0} where
  passing_sorted : (p : Bytes → Bool) (m : Map X) → T (is_sorted byte_cmp (passing p m))
  passing_sorted p m = is_sorted-where_key byte_cmp p m.entries m.sorted

  -- what is found among those that pass
  passing_find : (p : Bytes → Bool) (m : Map X) (q : Bytes) → find byte_cmp q (passing p m) ≡ cond (p q) (get m q) None
  unfolding get
  passing_find p m q = find-where_key byte_cmp p q (λ x e. ap p (sym (exact q x e))) m.entries

  -- a list in order that finds the same is the list of those that pass
  pub passing_is : (p : Bytes → Bool) (m : Map X) (es : List (Bytes × X)) → T (is_sorted byte_cmp es) → ((q : Bytes) → find byte_cmp q es ≡ cond (p q) (get m q) None) → passing p m ≡ es
  passing_is p m es sorted is = same_entries byte_cmp nat_list_cmp_total exact (passing p m) es (passing_sorted p m) sorted (λ q. passing_find p m q ∙ sym (is q))

  -- no key that passes and is below this one is in the map
  pub record NoneBelow (p : Bytes → Bool) (m : Map X) (k : Bytes) : Type 0 where
    pub at : (q : Bytes) → p q ≡ true → byte_cmp q k ≡ Less → get m q ≡ None

  -- a key below all that pass is below each of the list
  below_passing : (p : Bytes → Bool) (k : Bytes) (es : List (Bytes × X)) → ((q : Bytes) → p q ≡ true → byte_cmp k q ≡ Less) → T (below_all byte_cmp k (filter (λ e. p e.0) es))
  below_passing p k [] below = tt
  below_passing p k (e ∷ es) below =
      let rest = below_passing p k es below in
      elim (p e.0) as (λ b. p e.0 ≡ b → T (below_all byte_cmp k (cond b (e ∷ filter (λ e. p e.0) es) (filter (λ e. p e.0) es)))) [
        | true ↦ λ passes. both _ _ (is_less _ (below e.0 passes)) rest
        | false ↦ λ fails. rest
      ] refl

  -- a key that passes, with nothing below it, comes first
  pub head_is : (p : Bytes → Bool) (m : Map X) (k : Bytes) (v : X) → NoneBelow p m k → p k ≡ true → get m k ≡ Some v → passing p m ≡ (k, v) ∷ passing (above p k) m
  head_is p m k v none here got =
      passing_is p m ((k, v) ∷ passing (above p k) m)
      (both _ _ (below_passing (above p k) k m.entries (λ q passes. turned q k (greater _ (both_second (p q) _ passes)))) (passing_sorted (above p k) m))
      (λ q. ap (cond (is_eq (byte_cmp q k)) (Some v)) (passing_find (above p k) m q) ∙ by_order q (byte_cmp q k) refl)
    where
      by_order : (q : Bytes) (o : Ordering) → byte_cmp q k ≡ o → cond (is_eq o) (Some v) (cond (p q && is_gt o) (get m q) None) ≡ cond (p q) (get m q) None
      by_order q Less e = ap (λ b. cond b (get m q) None) (and_false (p q)) ∙ by_test (p q) refl
        where
          by_test : (b : Bool) → p q ≡ b → None ≡ cond b (get m q) None
          by_test true passes = sym (none.at q passes e)
          by_test false fails = refl
      by_order q Equal e = let is = exact q k e in sym (ap (λ x. cond (p x) (get m x) None) is ∙ ap (λ b. cond b (get m k) None) here ∙ got)
      by_order q Greater e = ap (λ b. cond b (get m q) None) (and_true (p q))

  -- a key with nothing below it, and nothing there, is passed over
  pub skip_is : (p : Bytes → Bool) (m : Map X) (k : Bytes) → NoneBelow p m k → get m k ≡ None → passing p m ≡ passing (above p k) m
  skip_is p m k none gone = passing_is p m (passing (above p k) m) (passing_sorted (above p k) m) (λ q. passing_find (above p k) m q ∙ by_order q (byte_cmp q k) refl)
    where
      by_test : (q : Bytes) (b : Bool) → p q ≡ b → get m q ≡ None → None ≡ cond b (get m q) None
      by_test q true passes nothing = sym nothing
      by_test q false fails nothing = refl

      by_order : (q : Bytes) (o : Ordering) → byte_cmp q k ≡ o → cond (p q && is_gt o) (get m q) None ≡ cond (p q) (get m q) None
      by_order q Less e = ap (λ b. cond b (get m q) None) (and_false (p q)) ∙ by_less (p q) refl
        where
          by_less : (b : Bool) → p q ≡ b → None ≡ cond b (get m q) None
          by_less true passes = sym (none.at q passes e)
          by_less false fails = refl
      by_order q Equal e = ap (λ b. cond b (get m q) None) (and_false (p q)) ∙ by_test q (p q) refl (ap (get m) (exact q k e) ∙ gone)
      by_order q Greater e = ap (λ b. cond b (get m q) None) (and_true (p q))

  -- the first of the entries that pass
  pub record IsFirstPassing (p : Bytes → Bool) (m : Map X) (k : Bytes) (v : X) (es : List (Bytes × X)) : Type 0 where
    pub here : p k ≡ true
    pub got : get m k ≡ Some v
    pub below : NoneBelow p m k
    pub rest : es ≡ passing (above p k) m

  -- a key below the first one is not found, nor is one below all
  find_under : (q k : Bytes) (es : List (Bytes × X)) → byte_cmp q k ≡ Less → T (below_all byte_cmp k es) → find byte_cmp q es ≡ None
  find_under q k [] e h = refl
  find_under q k (x ∷ es) e h =
      ap (λ o. cond (is_eq o) (Some x.1) (find byte_cmp q es)) (nat_list_cmp_total.trans q k x.0 e (less _ (first _ _ h))) ∙ find_under q k es e (second _ _ h)

  -- a key below all is not found
  pub find_at : (k : Bytes) (es : List (Bytes × X)) → T (below_all byte_cmp k es) → find byte_cmp k es ≡ None
  find_at k [] h = refl
  find_at k (x ∷ es) h = ap (λ o. cond (is_eq o) (Some x.1) (find byte_cmp k es)) (less _ (first _ _ h)) ∙ find_at k es (second _ _ h)

  -- what is known of the first of those that pass
  pub head_of : (p : Bytes → Bool) (m : Map X) (k : Bytes) (v : X) (es : List (Bytes × X)) → passing p m ≡ (k, v) ∷ es → IsFirstPassing p m k v es
  head_of p m k v es is = record {
    here = own.0;
    got = own.1;
    below = record { at = λ q passes e. sym (ap (λ b. cond b (get m q) None) passes) ∙ found q ∙ ap (λ o. cond (is_eq o) (Some v) (find byte_cmp q es)) e ∙ find_under q k es e (first _ _ sorted) };
    rest = sym (passing_is (above p k) m es (second _ _ sorted) (λ q. by_order q (byte_cmp q k) refl));
  }
    where
      sorted : T (is_sorted byte_cmp ((k, v) ∷ es))
      sorted = subst (λ (xs : List (Bytes × X)). T (is_sorted byte_cmp xs)) is (passing_sorted p m)

      found : (q : Bytes) → cond (p q) (get m q) None ≡ cond (is_eq (byte_cmp q k)) (Some v) (find byte_cmp q es)
      found q = sym (passing_find p m q) ∙ ap (find byte_cmp q) is

      own : (p k ≡ true) × (get m k ≡ Some v)
      own = if_is (p k) (get m k) v (found k ∙ ap (λ o. cond (is_eq o) (Some v) (find byte_cmp k es)) (tied_itself nat_list_cmp_total k))

      by_order : (q : Bytes) (o : Ordering) → byte_cmp q k ≡ o → find byte_cmp q es ≡ cond (p q && is_gt o) (get m q) None
      by_order q Less e = find_under q k es e (first _ _ sorted) ∙ sym (ap (λ b. cond b (get m q) None) (and_false (p q)))
      by_order q Equal e = ap (λ x. find byte_cmp x es) (exact q k e) ∙ find_at k es (first _ _ sorted) ∙ sym (ap (λ b. cond b (get m q) None) (and_false (p q)))
      by_order q Greater e = sym (found q ∙ ap (λ o. cond (is_eq o) (Some v) (find byte_cmp q es)) e) ∙ sym (ap (λ b. cond b (get m q) None) (and_true (p q)))

  -- where none pass there is none
  pub none_of : (p : Bytes → Bool) (m : Map X) → passing p m ≡ [] → (q : Bytes) → p q ≡ true → get m q ≡ None
  none_of p m is q passes = sym (ap (λ b. cond b (get m q) None) passes) ∙ sym (passing_find p m q) ∙ ap (find byte_cmp q) is

  -- behind an entry stand those above it
  split_of : (ys : List (Bytes × X)) (p : Bytes → Bool) (m : Map X) (k : Bytes) (v : X) (es : List (Bytes × X)) → passing p m ≡ ys ++ (k, v) ∷ es → (es ≡ passing (above p k) m) × (p k ≡ true)
  split_of [] p m k v es is = let head = head_of p m k v es is in (head.rest, head.here)
  split_of (y ∷ ys) p m k v es is =
      let head = head_of p m y.0 y.1 (ys ++ (k, v) ∷ es) is in
      let behind = split_of ys (above p y.0) m k v es (sym head.rest) in
      (behind.0 ∙ passing_same (above (above p y.0) k) (above p k) m (λ q. by_order q (greater _ (both_second (p k) _ behind.1)) (byte_cmp q k) refl), both_first (p k) _ behind.1)
    where
      by_order : (q : Bytes) → byte_cmp k y.0 ≡ Greater → (o : Ordering) → byte_cmp q k ≡ o → ((p q && is_gt (byte_cmp q y.0)) && is_gt o) ≡ (p q && is_gt o)
      by_order q e Less f = and_false (p q && is_gt (byte_cmp q y.0)) ∙ sym (and_false (p q))
      by_order q e Equal f = and_false (p q && is_gt (byte_cmp q y.0)) ∙ sym (and_false (p q))
      by_order q e Greater f = and_true (p q && is_gt (byte_cmp q y.0)) ∙ ap (λ r. p q && is_gt r) (far_above q k y.0 f e)

-- ---- page by page

-- no number is below 0
low_test : (n : ℕ) → nat_lt n 0 ≡ false
low_test n = grind (arith, nat_tests)

-- no byte is below 0
low : (n : ℕ) → is_lt (nat_cmp n 0) ≡ false
low n = by_tests (nat_lt n 0) (n == 0) (low_test n)
  where
    by_tests : (l e : Bool) → l ≡ false → is_lt (cond l Less (cond e Equal Greater)) ≡ false
    by_tests true e f = absurd (cc)
    by_tests false true f = refl
    by_tests false false f = refl

-- a byte more: the next bytes above
not_below_next : (q k : Bytes) → not (is_lt (byte_cmp q (k ++ 0 ∷ []))) ≡ is_gt (byte_cmp q k)
not_below_next [] [] = refl
not_below_next [] (b ∷ k) = refl
not_below_next (a ∷ q) [] = by_first (nat_cmp a 0) (low a) q
  where
    by_first : (o : Ordering) → is_lt o ≡ false → (q : Bytes) → not (is_lt (ordering_then o (slice_cmp nat_cmp q []))) ≡ true
    by_first Less e q = absurd (cc)
    by_first Equal e [] = refl
    by_first Equal e (x ∷ q) = refl
    by_first Greater e q = refl
not_below_next (a ∷ q) (b ∷ k) = by_first (nat_cmp a b) (not_below_next q k)
  where
    by_first : (o : Ordering) → not (is_lt (byte_cmp q (k ++ 0 ∷ []))) ≡ is_gt (byte_cmp q k)
        → not (is_lt (ordering_then o (byte_cmp q (k ++ 0 ∷ [])))) ≡ is_gt (ordering_then o (byte_cmp q k))
    by_first Less e = refl
    by_first Equal e = e
    by_first Greater e = refl

-- what is asked for above a raw key is what is asked for from the next bytes on
asked_next : (from prefix k q : Bytes) → is_asked from prefix k ≡ true → above (is_asked from prefix) k q ≡ is_asked (k ++ 0 ∷ []) prefix q
asked_next from prefix k q here =
    by_order (byte_cmp q k) refl ∙ ap (λ b. starts_with nat_eq q prefix && b) (sym (not_below_next q k))
  where
    no_less : (o r : Ordering) → o ≡ r → is_lt r ≡ false → (o ≡ Less) → ⊥
    no_less o Less e f g = let no : true ≡ false = f in cc
    no_less o Equal e f g = let no : Less ≡ Equal = sym g ∙ e in cc
    no_less o Greater e f g = let no : Less ≡ Greater = sym g ∙ e in cc

    not_below : byte_cmp q k ≡ Greater → not (is_lt (byte_cmp q from)) ≡ true
    not_below e = by_from (byte_cmp q from) refl
      where
        by_from : (o : Ordering) → byte_cmp q from ≡ o → not (is_lt o) ≡ true
        by_from Less f =
            let far = nat_list_cmp_total.trans k q from (turned q k e) f in
            let near = not-true _ (both_second (starts_with nat_eq k prefix) _ here) in
            absurd (no_less (byte_cmp k from) (byte_cmp k from) refl near far)
        by_from Equal f = refl
        by_from Greater f = refl

    by_order : (o : Ordering) → byte_cmp q k ≡ o → (is_asked from prefix q && is_gt o) ≡ (starts_with nat_eq q prefix && is_gt o)
    by_order Less e = and_false (is_asked from prefix q) ∙ sym (and_false (starts_with nat_eq q prefix))
    by_order Equal e = and_false (is_asked from prefix q) ∙ sym (and_false (starts_with nat_eq q prefix))
    by_order Greater e =
        and_true (is_asked from prefix q) ∙ ap (λ b. starts_with nat_eq q prefix && b) (not_below e)

-- behind a page stands what is asked for from its last raw key on, and a byte more
pub next_of : {X : Type 0} (m : Map X) (from prefix : Bytes) (ys : List (Bytes × X)) (k : Bytes) (v : X) (es : List (Bytes × X))
    → passing (is_asked from prefix) m ≡ ys ++ (k, v) ∷ es → es ≡ passing (is_asked (k ++ 0 ∷ []) prefix) m
next_of m from prefix ys k v es is =
    let behind = split_of ys (is_asked from prefix) m k v es is in
    behind.0 ∙ passing_same (above (is_asked from prefix) k) (is_asked (k ++ 0 ∷ []) prefix) m (λ q. asked_next from prefix k q behind.1)

-- where nothing that passes is in the map, none pass
pub nothing_is : {X : Type 0} (p : Bytes → Bool) (m : Map X) → ((q : Bytes) → p q ≡ true → get m q ≡ None) → passing p m ≡ []
nothing_is {X} p m none = passing_is p m [] tt (λ q. by_test q (p q) refl)
  where
    by_test : (q : Bytes) (b : Bool) → p q ≡ b → None ≡ cond b (get m q) None
    by_test q true passes = sym (none q passes)
    by_test q false fails = refl
