-- In rows in order, the next newer row of a raw key stands right in front.
use Rattle.std.proofs.Common.{◌≡◌, ◌<◌, ◌≤◌, List, [], ◌∷◌, ◌++◌, refl, sym, ap, ◌∙◌, Bool, true, false, cond, Some, None, inl, inr, arith}
use Rattle.std.proofs.lemmas.Bool.Decides.{nat_tests}
use Rattle.std.proofs.lemmas.List.Elements.{Contains-append_right, Contains-append_cases}
use Rattle.std.specs.Prelude.{◌⊎◌, IsTrue}
use Rattle.std.specs.List.{Contains}
use Rattle.std.specs.declared.cmp.Ordering.{Ordering}
use Rattle.std.specs.declared.cmp.Ordering.TheVariants.{Less, Equal, Greater}
use Rattle.std.specs.Ordering.{nat_cmp, ordering_then, is_lt}
use Rattle.std.specs.Cmp.{tied_itself}
use Rattle.std.specs.Cmp.Lexicographic.{nat_list_cmp_total}
use Rattle.kv_base.specs.InversionLaws.{both_first, both_second}
use Rattle.kv_base.specs.Map.{Bytes, byte_cmp, same, same_is, same_itself, exact}
use Rattle.kv_base.specs.declared.row.Row.{Row}
use Rattle.row_model.specs.RowOrder.{row_cmp, leads, is_ordered}
use Rattle.kv_base.specs.TestLaws.{less_is as less}
use Rattle.row_model.specs.RowLaws.{there_first, there_behind, there_cases}
use Rattle.filter_laws.specs.KeptRowLaws.{all_there}
use Rattle.filter_laws.specs.Verdict.{IsNextNewer, newer_note}

-- ---- two rows in order

-- the one in front has the lesser raw key, or the same and the greater sequence
raw_of_less : (x y : Row) → row_cmp x y ≡ Less → (byte_cmp x.raw y.raw ≡ Less) ⊎ (x.raw ≡ y.raw)
raw_of_less x y e = by_raw (byte_cmp x.raw y.raw) refl e
  where
    by_raw : (o : Ordering) → byte_cmp x.raw y.raw ≡ o → ordering_then o (nat_cmp y.seq x.seq) ≡ Less → (byte_cmp x.raw y.raw ≡ Less) ⊎ (x.raw ≡ y.raw)
    by_raw Less is e = inl is
    by_raw Equal is e = inr (exact x.raw y.raw is)
    by_raw Greater is e = absurd (cc)

itself : (raw : Bytes) → byte_cmp raw raw ≡ Equal
itself raw = tied_itself nat_list_cmp_total raw

never_less : (a b : Bytes) → byte_cmp a b ≡ Less → a ≡ b → ⊥
never_less a b e is = let both : Less ≡ Equal = sym e ∙ ap (byte_cmp a) (sym is) ∙ itself a in absurd (cc)

seq_falls : (x y : Row) → row_cmp x y ≡ Less → x.raw ≡ y.raw → y.seq < x.seq
seq_falls x y e is =
    let key : byte_cmp x.raw y.raw ≡ Equal = ap (byte_cmp x.raw) (sym is) ∙ itself x.raw in
    let falls : nat_cmp y.seq x.seq ≡ Less = ap (λ (o : Ordering). ordering_then o (nat_cmp y.seq x.seq)) (sym key) ∙ e in
    grind (arith, nat_tests)

-- between two rows of a raw key stand rows of it alone
between : (x p y : Row) → row_cmp x p ≡ Less → row_cmp p y ≡ Less → x.raw ≡ y.raw → p.raw ≡ y.raw
between x p y front back is = by_back (raw_of_less p y back) (raw_of_less x p front)
  where
    by_back : (byte_cmp p.raw y.raw ≡ Less) ⊎ (p.raw ≡ y.raw) → (byte_cmp x.raw p.raw ≡ Less) ⊎ (x.raw ≡ p.raw) → p.raw ≡ y.raw
    by_back (inr same) f = same
    by_back (inl b) (inl f) = absurd (never_less x.raw y.raw (nat_list_cmp_total.trans x.raw p.raw y.raw f b) is)
    by_back (inl b) (inr f) = absurd (never_less p.raw y.raw b (sym f ∙ is))

-- ---- rows in order

in_front : (front rest : List Row) (x y : Row) → is_ordered (front ++ rest) ≡ true → Contains front x → Contains rest y → row_cmp x y ≡ Less
unfolding is_ordered
in_front [] rest x y h (n, low, is) too = absurd (omega arith)
in_front (f ∷ fs) rest x y h there too = by_place (λ later. in_front fs rest x y (both_second (leads f (fs ++ rest)) (is_ordered (fs ++ rest)) h) later too) (there_cases fs x f there)
  where
    first : row_cmp f y ≡ Less
    first = less (row_cmp f y) (all_there (λ other. is_lt (row_cmp f other)) (fs ++ rest) y (both_first (leads f (fs ++ rest)) (is_ordered (fs ++ rest)) h) (Contains-append_right fs rest y too))

    by_place : (Contains fs x → row_cmp x y ≡ Less) → (f ≡ x) ⊎ Contains fs x → row_cmp x y ≡ Less
    by_place rest (inl is) = ap (λ (r : Row). row_cmp r y) (sym is) ∙ first
    by_place rest (inr later) = rest later

behind : (front rest : List Row) → is_ordered (front ++ rest) ≡ true → is_ordered rest ≡ true
unfolding is_ordered
behind [] rest h = h
behind (f ∷ fs) rest h = behind fs rest (both_second (leads f (fs ++ rest)) (is_ordered (fs ++ rest)) h)

-- a row and those behind it are not newer
not_newer : (row : Row) (back : List Row) (o : Row) → is_ordered (row ∷ back) ≡ true → Contains (row ∷ back) o → o.raw ≡ row.raw → o.seq ≤ row.seq
unfolding is_ordered
not_newer row back o h there is = by_place (there_cases back o row there)
  where
    by_place : (row ≡ o) ⊎ Contains back o → o.seq ≤ row.seq
    by_place (inl one) = let seq : row.seq ≡ o.seq = ap (λ (r : Row). r.seq) one in omega arith
    by_place (inr later) =
        let falls = seq_falls row o (less (row_cmp row o) (all_there (λ other. is_lt (row_cmp row other)) back o (both_first (leads row back) (is_ordered back) h) later)) (sym is) in
        omega arith

-- no row is newer than the first
pub first_has_no_newer : (row : Row) (back : List Row) → IsTrue (is_ordered (row ∷ back)) → IsNextNewer (row ∷ back) row None
first_has_no_newer row back h o there is = not_newer row back o h there is

-- a row behind another has its next newer one right in front, or none
pub next_newer_is_before : (front back : List Row) (before row : Row) → IsTrue (is_ordered (front ++ before ∷ row ∷ back)) → IsNextNewer (front ++ before ∷ row ∷ back) row (newer_note before row)
next_newer_is_before front back before row h = by_same (same before.raw row.raw) refl
  where
    tail : is_ordered (before ∷ row ∷ back) ≡ true
    tail = behind front (before ∷ row ∷ back) h

    step : row_cmp before row ≡ Less
    step = in_front (before ∷ []) (row ∷ back) before row tail (there_first [] before) (there_first back row)

    rest : is_ordered (row ∷ back) ≡ true
    rest = behind (before ∷ []) (row ∷ back) tail

    before_there : Contains (before ∷ row ∷ back) before
    before_there = there_first (row ∷ back) before

    row_there : Contains (before ∷ row ∷ back) row
    row_there = there_behind (row ∷ back) row before (there_first back row)

    -- a row of this raw key in front makes the one before it one of the raw key
    by_front : (o : Row) → Contains front o → o.raw ≡ row.raw → (before.raw ≡ row.raw) × (before.seq < o.seq)
    by_front o there is =
        let first = in_front front (before ∷ row ∷ back) o before h there before_there in
        let one = between o before row first step is in
        (one, seq_falls o before first (is ∙ sym one))

    by_same : (b : Bool) → same before.raw row.raw ≡ b → IsNextNewer (front ++ before ∷ row ∷ back) row (cond b (Some before.seq) None)
    by_same true t = (
      seq_falls before row step (same_is before.raw row.raw t),
      (before, Contains-append_right front (before ∷ row ∷ back) before before_there, same_is before.raw row.raw t, refl),
      (λ o there is high. by_place o is high (Contains-append_cases front (before ∷ row ∷ back) o there)),
    )
      where
        by_tail : (o : Row) → o.raw ≡ row.raw → row.seq < o.seq → (before ≡ o) ⊎ Contains (row ∷ back) o → before.seq ≤ o.seq
        by_tail o is high (inl one) = let seq : before.seq ≡ o.seq = ap (λ (r : Row). r.seq) one in omega arith
        by_tail o is high (inr later) = let low = not_newer row back o rest later is in absurd (omega arith)

        by_place : (o : Row) → o.raw ≡ row.raw → row.seq < o.seq → Contains front o ⊎ Contains (before ∷ row ∷ back) o → before.seq ≤ o.seq
        by_place o is high (inl there) = let it = (by_front o there is).1 in omega arith
        by_place o is high (inr there) = by_tail o is high (there_cases (row ∷ back) o before there)
    by_same false t = λ o there is. by_place o is (Contains-append_cases front (before ∷ row ∷ back) o there)
      where
        never : before.raw ≡ row.raw → ⊥
        never one = let held : same before.raw row.raw ≡ true = ap (same before.raw) (sym one) ∙ same_itself before.raw in let no : false ≡ true = sym t ∙ held in absurd (cc)

        by_tail : (o : Row) → o.raw ≡ row.raw → (before ≡ o) ⊎ Contains (row ∷ back) o → o.seq ≤ row.seq
        by_tail o is (inl one) = absurd (never (ap (λ (r : Row). r.raw) one ∙ is))
        by_tail o is (inr later) = not_newer row back o rest later is

        by_place : (o : Row) → o.raw ≡ row.raw → Contains front o ⊎ Contains (before ∷ row ∷ back) o → o.seq ≤ row.seq
        by_place o is (inl there) = absurd (never (by_front o there is).0)
        by_place o is (inr there) = by_tail o is (there_cases (row ∷ back) o before there)
