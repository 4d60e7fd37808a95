-- How rows are read from a block's body.
use Rattle.std.proofs.Common.{◌≡◌, ℕ, zero, suc, ◌<◌, ◌≤◌, List, [], ◌∷◌, ◌++◌, refl, sym, ap, subst, ◌∙◌, true, false, cond, length, Option, Some, None, option_map, option_and_then, append_assoc, append-nil, arith}
use Rattle.std.specs.Prelude.{◌==◌, ◌&&◌}
use Rattle.std.proofs.lemmas.Bool.Decides.{nat_tests}
use Rattle.kv_base.specs.Map.{Bytes}
use Rattle.kv_base.specs.InversionLaws.{same_some, and_then_is, if_is, both_first, both_second}
use Rattle.kv_base.specs.declared.row.Row.{Row}
use Rattle.sst_parts.specs.RowTexts.{read_row}
use Rattle.sst_parts.specs.RowTextLaws.{row_shortens}
use Rattle.sst_parts.specs.Blocks.{is_next_row, has_room, read_next, then_rows, read_rows, read_block_body}

-- a row that may come next is a row
pub next_is_row : (whole : ℕ) (last : Option Row) (rest : Bytes) (front : Row × Bytes) → read_next whole last rest ≡ Some front
    → (read_row rest ≡ Some front) × (is_next_row last front.0 ≡ true) × (has_room whole rest ≡ true)
unfolding read_next
next_is_row whole last rest front h =
    let found = and_then_is (λ f. cond (is_next_row last f.0 && has_room whole rest) (Some f) None) (read_row rest) front h in
    let test = if_is (is_next_row last found.0.0 && has_room whole rest) (Some found.0) front found.2 in
    let same = same_some found.0 front test.1 in (
      found.1 ∙ ap (λ f. Some f) same,
      subst (λ (f : Row × Bytes). is_next_row last f.0 ≡ true) same (both_first (is_next_row last found.0.0) (has_room whole rest) test.0),
      both_second (is_next_row last found.0.0) (has_room whole rest) test.0,
    )

pub next_shortens : (whole : ℕ) (last : Option Row) (rest : Bytes) (front : Row × Bytes) → read_next whole last rest ≡ Some front → length front.1 < length rest
next_shortens whole last rest front h = row_shortens rest front (next_is_row whole last rest front h).0

-- ---- any number that is not below the length serves

abbrev pub behind_next : ℕ → ℕ → Row × Bytes → Option (List Row)
behind_next whole most front = then_rows front.0 (read_rows whole most (Some front.0) front.1)

same_rows : (whole m n : ℕ) (last : Option Row) (rest : Bytes) → length rest ≤ m → length rest ≤ n → read_rows whole m last rest ≡ read_rows whole n last rest
unfolding read_rows
same_rows whole m n last [] le_m le_n = refl
same_rows whole zero n last (b ∷ rest) le_m le_n = let never : ⊥ = omega arith in absurd never
same_rows whole (suc m) zero last (b ∷ rest) le_m le_n = let never : ⊥ = omega arith in absurd never
same_rows whole (suc m) (suc n) last (b ∷ rest) le_m le_n =
    by_next (λ front le_m le_n. same_rows whole m n (Some front.0) front.1 le_m le_n) (read_next whole last (b ∷ rest)) refl
  where
    by_next : ((front : Row × Bytes) → length front.1 ≤ m → length front.1 ≤ n → read_rows whole m (Some front.0) front.1 ≡ read_rows whole n (Some front.0) front.1)
        → (o : Option (Row × Bytes)) → read_next whole last (b ∷ rest) ≡ o → option_and_then (behind_next whole m) o ≡ option_and_then (behind_next whole n) o
    by_next same None h = refl
    by_next same (Some front) h =
        let short = next_shortens whole last (b ∷ rest) front h in
        ap (then_rows front.0) (same front (omega (arith, short)) (omega (arith, short)))

-- ---- row by row

-- what is still to be read, behind what was read
abbrev pub rows_onto : List Row → Option (List Row) → Option (List Row)
rows_onto done rows = option_map (λ more. done ++ more) rows

onto_row : (done : List Row) (row : Row) (o : Option (List Row)) → rows_onto done (then_rows row o) ≡ rows_onto (done ++ row ∷ []) o
onto_row done row None = refl
onto_row done row (Some rows) = ap (λ l. Some l) (sym (append_assoc done (row ∷ []) rows))

onto_none : (o : Option (List Row)) → rows_onto [] o ≡ o
onto_none None = refl
onto_none (Some rows) = refl

-- the rows of what is left of a body
abbrev pub rows_left : ℕ → Option Row → Bytes → Option (List Row)
rows_left whole last rest = read_rows whole (length rest) last rest

pub body_begins : (last : Option Row) (body : Bytes) → rows_onto [] (rows_left (length body) last body) ≡ read_block_body last body
unfolding read_block_body
body_begins last body = onto_none (rows_left (length body) last body)

pub one_row_more : (whole : ℕ) (done : List Row) (last : Option Row) (rest : Bytes) (front : Row × Bytes) → read_next whole last rest ≡ Some front → (length rest == 0) ≡ false
    → rows_onto done (rows_left whole last rest) ≡ rows_onto (done ++ front.0 ∷ []) (rows_left whole (Some front.0) front.1)
unfolding read_rows
one_row_more whole done last [] front h some = absurd (cc)
one_row_more whole done last (b ∷ rest) front h some =
    let short = next_shortens whole last (b ∷ rest) front h in
    ap (λ o. rows_onto done (option_and_then (behind_next whole (length rest)) o)) h
    ∙ ap (λ o. rows_onto done (then_rows front.0 o)) (same_rows whole (length rest) (length front.1) (Some front.0) front.1 (omega (arith, short)) (omega arith))
    ∙ onto_row done front.0 (rows_left whole (Some front.0) front.1)

pub no_row_more : (whole : ℕ) (done : List Row) (last : Option Row) (rest : Bytes) → read_next whole last rest ≡ None → (length rest == 0) ≡ false → rows_onto done (rows_left whole last rest) ≡ None
unfolding read_rows
no_row_more whole done last [] h some = absurd (cc)
no_row_more whole done last (b ∷ rest) h some = ap (λ o. rows_onto done (option_and_then (behind_next whole (length rest)) o)) h

pub body_ends : (whole : ℕ) (done : List Row) (last : Option Row) (rest : Bytes) → (length rest == 0) ≡ true → rows_onto done (rows_left whole last rest) ≡ Some done
unfolding read_rows
body_ends whole done last [] none = ap (λ l. Some l) (append-nil done)
body_ends whole done last (b ∷ rest) none = let never : length (b ∷ rest) ≡ 0 = grind (arith, nat_tests) in absurd (omega (arith, never))

-- a row, and what is left behind it
pub left_next : (whole : ℕ) (last : Option Row) (rest : Bytes) (front : Row × Bytes) → read_next whole last rest ≡ Some front → (length rest == 0) ≡ false
    → rows_left whole last rest ≡ then_rows front.0 (rows_left whole (Some front.0) front.1)
unfolding read_rows
left_next whole last [] front h some = absurd (cc)
left_next whole last (b ∷ rest) front h some =
    let short = next_shortens whole last (b ∷ rest) front h in
    ap (λ o. option_and_then (behind_next whole (length rest)) o) h
    ∙ ap (λ o. then_rows front.0 o) (same_rows whole (length rest) (length front.1) (Some front.0) front.1 (omega (arith, short)) (omega arith))
