-- The rows of a table are taken one after the other.
use Rattle.std.proofs.Common.{◌≡◌, ℕ, List, [], ◌∷◌, ◌++◌, refl, sym, ap, subst, ◌∙◌, Bool, true, false, cond, Option, Some, None, IfSome, append_assoc}
use Rattle.std.specs.List.{slice_get}
use Rattle.kv_base.specs.declared.row.Row.{Row}
use Rattle.merge_rows.specs.Cursors.{Takes}
use Rattle.sst_writer.specs.Cutting.{ends_before, ends_at, cut_from, next_table, TakesNext, AreTakenSoFar, AreNext, AreLeftOver}
use Rattle.sst_writer.specs.Written.{AreBehind}

-- ---- one row

pub ends_here : (limit : Option ℕ) (done : List Row) (old now : Option (List Row)) (next : Option Row) → IfSome old (λ rows. next ≡ slice_get rows 0) → ends_at limit done next ≡ true → now ≡ old → TakesNext limit done old None now
unfolding cut_from
ends_here limit done None now next shown ends same = same
ends_here limit done (Some []) now next shown ends same = (same, refl)
ends_here limit done (Some (row ∷ rows)) now next shown ends same =
    (same, ap (λ b. cond b (done, row ∷ rows) (cut_from limit (done ++ row ∷ []) rows)) (sym (ap (ends_at limit done) shown) ∙ ends))

pub row_taken : (limit : Option ℕ) (done : List Row) (old mid now : Option (List Row)) (next row : Option Row) → IfSome old (λ rows. next ≡ slice_get rows 0) → ends_at limit done next ≡ false → mid ≡ old → Takes mid row now → TakesNext limit done old row now
row_taken limit done None mid now next row shown ends same takes = subst (λ (o : Option (List Row)). Takes o row now) same takes
row_taken limit done (Some []) mid now next row shown ends same takes = let e : true ≡ false = sym (ap (ends_at limit done) shown) ∙ ends in absurd (cc)
row_taken limit done (Some (first ∷ rows)) mid now next row shown ends same takes =
    let took : Takes (Some (first ∷ rows)) row now = subst (λ (o : Option (List Row)). Takes o row now) same takes in
    subst (λ (o : Option Row). TakesNext limit done (Some (first ∷ rows)) o now) (sym took.0) (rows, refl, took.1, sym (ap (ends_at limit done) shown) ∙ ends)

-- ---- all rows

pub none_taken : (limit : Option ℕ) (old : Option (List Row)) → AreTakenSoFar limit [] old old
none_taken limit None = refl
none_taken limit (Some rows) = (rows, refl, refl, refl)

pub one_taken : (limit : Option ℕ) (done : List Row) (old mid now : Option (List Row)) (row : Row) → AreTakenSoFar limit done old mid → TakesNext limit done mid (Some row) now → AreTakenSoFar limit (done ++ row ∷ []) old now
unfolding cut_from
one_taken limit done None mid now row taken next = subst (λ (o : Option (List Row)). TakesNext limit done o (Some row) now) taken next
one_taken limit done (Some rows) mid now row taken next =
    let rest = taken.0 in
    let it : TakesNext limit done (Some rest) (Some row) now = subst (λ (o : Option (List Row)). TakesNext limit done o (Some row) now) taken.1 next in
    let more = it.0 in
    let cut : cut_from limit done (row ∷ more) ≡ cut_from limit (done ++ row ∷ []) more = ap (λ b. cond b (done, row ∷ more) (cut_from limit (done ++ row ∷ []) more)) it.3 in (
      more,
      it.2,
      taken.2 ∙ ap (λ (rs : List Row). done ++ rs) it.1 ∙ sym (append_assoc done (row ∷ []) more),
      taken.3 ∙ ap (λ (rs : List Row). cut_from limit done rs) it.1 ∙ cut,
    )

pub table_taken : (limit : Option ℕ) (done : List Row) (old mid now : Option (List Row)) → AreTakenSoFar limit done old mid → TakesNext limit done mid None now → AreNext limit done old now
table_taken limit done None mid now taken next = subst (λ (o : Option (List Row)). TakesNext limit done o None now) taken next
table_taken limit done (Some rows) mid now taken next =
    let rest = taken.0 in
    let it : TakesNext limit done (Some rest) None now = subst (λ (o : Option (List Row)). TakesNext limit done o None now) taken.1 next in
    let whole : next_table limit rows ≡ (done, rest) = taken.3 ∙ it.1 in
    (sym (ap (λ (p : List Row × List Row). p.0) whole), it.0 ∙ ap (λ (rs : List Row). Some rs) (sym (ap (λ (p : List Row × List Row). p.1) whole)))

pub some_left : (limit : Option ℕ) (done : List Row) (old now : Option (List Row)) → AreTakenSoFar limit done old now → AreLeftOver old now
some_left limit done None now taken = taken
some_left limit done (Some rows) now taken = (done, taken.0, taken.2, taken.1)

-- ---- a table's rows and the others are all rows

whole_if : (b : Bool) (p q : List Row × List Row) (all : List Row) → p.0 ++ p.1 ≡ all → q.0 ++ q.1 ≡ all → (cond b p q).0 ++ (cond b p q).1 ≡ all
whole_if true p q all first second = first
whole_if false p q all first second = second

cut_whole : (limit : Option ℕ) (done rows : List Row) → (cut_from limit done rows).0 ++ (cut_from limit done rows).1 ≡ done ++ rows
unfolding cut_from
cut_whole limit done [] = refl
cut_whole limit done (row ∷ rows) =
    whole_if (ends_before limit done row) (done, row ∷ rows) (cut_from limit (done ++ row ∷ []) rows) (done ++ row ∷ rows) refl
    (cut_whole limit (done ++ row ∷ []) rows ∙ append_assoc done (row ∷ []) rows)

pub next_left : (limit : Option ℕ) (done : List Row) (old now : Option (List Row)) → AreNext limit done old now → AreLeftOver old now
next_left limit done None now taken = taken
next_left limit done (Some rows) now taken = ((next_table limit rows).0, (next_table limit rows).1, sym (cut_whole limit [] rows), taken.1)

-- ---- no row is left

pub none_behind : (limit : Option ℕ) (old now : Option (List Row)) (next : Option Row) → IfSome old (λ rows. next ≡ slice_get rows 0) → next ≡ None → now ≡ old → AreBehind limit old now
unfolding cut_from
none_behind limit None now next shown none same = same
none_behind limit (Some []) now next shown none same = same
none_behind limit (Some (row ∷ rows)) now next shown none same = let e : None ≡ Some row = sym none ∙ shown in absurd (cc)
