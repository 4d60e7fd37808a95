-- The entries of a map under a prefix, where what stands behind the prefix is told by a list in order.
use Rattle.std.proofs.Common.{◌≡◌, ℕ, List, [], ◌∷◌, ◌++◌, map, refl, sym, ap, subst, ◌∙◌, Bool, true, false, cond, append-nil, arith}
use Rattle.std.proofs.lemmas.Bool.Decides.{nat_tests}
use Rattle.std.specs.Prelude.{◌&&◌, not, nat_eq, Some, None, T, filter}
use Rattle.std.specs.List.{starts_with}
use Rattle.std.specs.declared.cmp.Ordering.{Ordering}
use Rattle.std.specs.Ordering.{is_lt, is_eq}
use Rattle.std.specs.FinMap.Entries.{find, is_sorted, below_all, is_sorted-where_key, find-where_key}
use Rattle.kv_base.specs.Map.{Bytes, Map, byte_cmp, same, same_is, exact, get}
use Rattle.subkey_codec.specs.OrderLaws.{behind_front}
use Rattle.lives_model.specs.Passing.{passing, is_asked}
use Rattle.lives_model.specs.PassingLaws.{passing_is}
use Rattle.kv_base.specs.TestLaws.{first, second, both}

-- ---- beginnings

-- a number is itself
eq_itself : (n : ℕ) → nat_eq n n ≡ true
eq_itself n = grind (arith, nat_tests)

-- and nothing else
eq_is : (n m : ℕ) → nat_eq n m ≡ true → n ≡ m
eq_is n m e = grind (arith, nat_tests)

-- what stands behind a prefix begins with it
starts_itself : (prefix x : Bytes) → starts_with nat_eq (prefix ++ x) prefix ≡ true
starts_itself [] x = refl
starts_itself (p ∷ prefix) x = ap (λ b. b && starts_with nat_eq (prefix ++ x) prefix) (eq_itself p) ∙ starts_itself prefix x

-- and what begins with it stands behind it
pub record IsBehind (prefix q : Bytes) : Type 0 where
  pub rest : Bytes
  pub is : q ≡ prefix ++ rest

-- so it is taken apart
is_behind : (prefix q : Bytes) → starts_with nat_eq q prefix ≡ true → IsBehind prefix q
is_behind [] q e = record { rest = q; is = refl }
is_behind (p ∷ prefix) [] e = absurd (cc)
is_behind (p ∷ prefix) (b ∷ q) e = by_rest (is_behind prefix q) (nat_eq p b) refl e
  where
    by_rest : (starts_with nat_eq q prefix ≡ true → IsBehind prefix q) → (t : Bool) → nat_eq p b ≡ t → (t && starts_with nat_eq q prefix) ≡ true → IsBehind (p ∷ prefix) (b ∷ q)
    by_rest behind true is f = let own = behind f in record { rest = own.rest; is = λ i. sym (eq_is p b is) i ∷ own.is i }
    by_rest behind false is f = absurd (cc)

module _ {X : Type 0} (prefix : Bytes) where
  -- entries behind the prefix
  abbrev pub under : List (Bytes × X) → List (Bytes × X)
  under rows = map (λ row. (prefix ++ row.0, row.1)) rows

  -- are found there
  find-under : (q : Bytes) (rows : List (Bytes × X)) → find byte_cmp (prefix ++ q) (under rows) ≡ find byte_cmp q rows
  find-under q [] = refl
  find-under q (row ∷ rows) = λ i. cond (is_eq (behind_front prefix q row.0 i)) (Some row.1) (find-under q rows i)

  -- and nowhere else
  find_elsewhere : (q : Bytes) (rows : List (Bytes × X)) → starts_with nat_eq q prefix ≡ false → find byte_cmp q (under rows) ≡ None
  find_elsewhere q [] e = refl
  find_elsewhere q (row ∷ rows) e = by_test (same q (prefix ++ row.0)) refl (find_elsewhere q rows e)
    where
      by_test : (b : Bool) → same q (prefix ++ row.0) ≡ b → find byte_cmp q (under rows) ≡ None → cond b (Some row.1) (find byte_cmp q (under rows)) ≡ None
      by_test true is rest = let yes_too = ap (λ (x : Bytes). starts_with nat_eq x prefix) (same_is q (prefix ++ row.0) is) ∙ starts_itself prefix row.0 in absurd (cc)
      by_test false is rest = rest

  below-under : (q : Bytes) (rows : List (Bytes × X)) → T (below_all byte_cmp q rows) → T (below_all byte_cmp (prefix ++ q) (under rows))
  below-under q [] h = tt
  below-under q (row ∷ rows) h =
      both (is_lt (byte_cmp (prefix ++ q) (prefix ++ row.0))) _
      (subst (λ (o : Ordering). T (is_lt o)) (sym (behind_front prefix q row.0)) (first (is_lt (byte_cmp q row.0)) (below_all byte_cmp q rows) h))
      (below-under q rows (second (is_lt (byte_cmp q row.0)) (below_all byte_cmp q rows) h))

  -- they are in order as they were
  sorted-under : (rows : List (Bytes × X)) → T (is_sorted byte_cmp rows) → T (is_sorted byte_cmp (under rows))
  sorted-under [] h = tt
  sorted-under (row ∷ rows) h =
      both (below_all byte_cmp (prefix ++ row.0) (under rows)) _
      (below-under row.0 rows (first (below_all byte_cmp row.0 rows) (is_sorted byte_cmp rows) h)) (sorted-under rows (second (below_all byte_cmp row.0 rows) (is_sorted byte_cmp rows) h))

  -- A map that has behind the prefix what a list in order has, has from a key behind it on what the list has from there on.
  pub passing_under : (m : Map X) (rows : List (Bytes × X)) (x : Bytes) → T (is_sorted byte_cmp rows) → ((q : Bytes) → get m (prefix ++ q) ≡ find byte_cmp q rows)
      → passing (is_asked (prefix ++ x) prefix) m ≡ under (filter (λ row. not (is_lt (byte_cmp row.0 x))) rows)
  passing_under m rows x sorted is = passing_is (is_asked (prefix ++ x) prefix) m (under left) (sorted-under left (is_sorted-where_key byte_cmp from rows sorted)) (λ q. by_start q (starts_with nat_eq q prefix) refl)
    where
      from : Bytes → Bool
      from q = not (is_lt (byte_cmp q x))

      left : List (Bytes × X)
      left = filter (λ row. from row.0) rows

      behind : (q : Bytes) → find byte_cmp (prefix ++ q) (under left) ≡ cond (is_asked (prefix ++ x) prefix (prefix ++ q)) (get m (prefix ++ q)) None
      behind q =
          find-under q left
          ∙ find-where_key byte_cmp from q (λ k e. ap from (sym (exact q k e))) rows
          ∙ (λ i. cond (from q) (sym (is q) i) None)
          ∙ sym (λ i. cond (starts_itself prefix q i && not (is_lt (behind_front prefix q x i))) (get m (prefix ++ q)) None)

      by_start : (q : Bytes) (b : Bool) → starts_with nat_eq q prefix ≡ b → find byte_cmp q (under left) ≡ cond (b && not (is_lt (byte_cmp q (prefix ++ x)))) (get m q) None
      by_start q true e =
          let own = is_behind prefix q e in
          subst (λ (k : Bytes). find byte_cmp k (under left) ≡ cond (not (is_lt (byte_cmp k (prefix ++ x)))) (get m k) None) (sym own.is)
          (behind own.rest ∙ ap (λ b. cond (b && not (is_lt (byte_cmp (prefix ++ own.rest) (prefix ++ x)))) (get m (prefix ++ own.rest)) None) (starts_itself prefix own.rest))
      by_start q false e = find_elsewhere q left e

  -- nothing is below nothing
  all_from_none : (rows : List (Bytes × X)) → filter (λ row. not (is_lt (byte_cmp row.0 []))) rows ≡ rows
  all_from_none [] = refl
  all_from_none (row ∷ rows) = (λ i. cond (not (none_below row.0 i)) (row ∷ all_from_none rows i) (all_from_none rows i))
    where
      none_below : (q : Bytes) → is_lt (byte_cmp q []) ≡ false
      none_below [] = refl
      none_below (b ∷ q) = refl

  -- so from the prefix on it has all of the list
  pub passing_all : (m : Map X) (rows : List (Bytes × X)) → T (is_sorted byte_cmp rows) → ((q : Bytes) → get m (prefix ++ q) ≡ find byte_cmp q rows) → passing (is_asked prefix prefix) m ≡ under rows
  passing_all m rows sorted is =
      ap (λ (from : Bytes). passing (is_asked from prefix) m) (sym (append-nil prefix))
      ∙ passing_under m rows [] sorted is
      ∙ ap under (all_from_none rows)
