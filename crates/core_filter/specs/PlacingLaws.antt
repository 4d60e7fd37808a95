-- The rows of sources, as those that go and those that stay: each of these is newer than those that go with its raw key, or lies
-- deeper.
use Rattle.std.proofs.Common.{◌≡◌, ◌<◌, List, ◌++◌, sym, ap, ◌∙◌, inl, inr}
use Rattle.std.proofs.lemmas.List.Elements.{Contains-append_left, Contains-append_right, Contains-append_cases}
use Rattle.std.specs.Prelude.{◌⊎◌, IsTrue}
use Rattle.std.specs.List.{Contains}
use Rattle.std.specs.declared.cmp.Ordering.TheVariants.{Less, Equal}
use Rattle.std.specs.Cmp.{tied_itself}
use Rattle.std.specs.Cmp.Lexicographic.{nat_list_cmp_total}
use Rattle.kv_base.specs.Map.{Bytes, byte_cmp}
use Rattle.kv_base.specs.declared.row.Row.{Row}
use Rattle.row_model.specs.Rows.{HaveSameRows}
use Rattle.core_model.specs.Sources.{all_rows, AreNewestFirst, AreBelow}
use Rattle.filter_laws.specs.Replaced.{AreNewer}
use Rattle.filter_laws.specs.Kept.{has_raw}
use Rattle.filter_laws.specs.KeptLaws.{raw_there}
use Rattle.core_events.specs.ListLaws.{all_left, all_right, all_cases, across, last_newest, first_newest}

never_below : (a b : Bytes) → byte_cmp a b ≡ Less → a ≡ b → ⊥
never_below a b less is = let tied : byte_cmp a b ≡ Equal = ap (byte_cmp a) (sym is) ∙ tied_itself nat_list_cmp_total a in cc

module _ (P F C B M N L D : List (List Row)) where
  -- what stays
  abbrev pub staying : List (List Row)
  staying = P ++ ((F ++ B) ++ ((M ++ L) ++ D))

  abbrev before : List (List Row)
  before = P ++ ((F ++ (C ++ B)) ++ ((M ++ (N ++ L)) ++ D))

  -- all rows are those that stay and those that go
  pub before_parts : HaveSameRows (all_rows (P ++ ((F ++ (C ++ B)) ++ ((M ++ (N ++ L)) ++ D)))) (all_rows (P ++ ((F ++ B) ++ ((M ++ L) ++ D))) ++ all_rows (C ++ N))
  before_parts = (apart, together)
    where
      stay : (row : Row) → Contains (all_rows (P ++ ((F ++ B) ++ ((M ++ L) ++ D)))) row → Contains (all_rows (P ++ ((F ++ B) ++ ((M ++ L) ++ D))) ++ all_rows (C ++ N)) row
      stay row h = Contains-append_left (all_rows (P ++ ((F ++ B) ++ ((M ++ L) ++ D)))) (all_rows (C ++ N)) row h

      go : (row : Row) → Contains (all_rows (C ++ N)) row → Contains (all_rows (P ++ ((F ++ B) ++ ((M ++ L) ++ D))) ++ all_rows (C ++ N)) row
      go row h = Contains-append_right (all_rows (P ++ ((F ++ B) ++ ((M ++ L) ++ D)))) (all_rows (C ++ N)) row h

      rest : (row : Row) → Contains (all_rows ((F ++ B) ++ ((M ++ L) ++ D))) row → Contains (all_rows (P ++ ((F ++ B) ++ ((M ++ L) ++ D)))) row
      rest row h = all_right P ((F ++ B) ++ ((M ++ L) ++ D)) row h

      apart : (row : Row) → Contains (all_rows (P ++ ((F ++ (C ++ B)) ++ ((M ++ (N ++ L)) ++ D)))) row → Contains (all_rows (P ++ ((F ++ B) ++ ((M ++ L) ++ D))) ++ all_rows (C ++ N)) row
      apart row there = elim (all_cases P ((F ++ (C ++ B)) ++ ((M ++ (N ++ L)) ++ D)) row there) [
        | inl p ↦ stay row (all_left P ((F ++ B) ++ ((M ++ L) ++ D)) row p)
        | inr t ↦ elim (all_cases (F ++ (C ++ B)) ((M ++ (N ++ L)) ++ D) row t) [
          | inl l ↦ elim (all_cases F (C ++ B) row l) [
            | inl f ↦ stay row (rest row (all_left (F ++ B) ((M ++ L) ++ D) row (all_left F B row f)))
            | inr cb ↦ elim (all_cases C B row cb) [ inl c ↦ go row (all_left C N row c) | inr b ↦ stay row (rest row (all_left (F ++ B) ((M ++ L) ++ D) row (all_right F B row b))) ]
          ]
          | inr nd ↦ elim (all_cases (M ++ (N ++ L)) D row nd) [
            | inl n ↦ elim (all_cases M (N ++ L) row n) [
              | inl m ↦ stay row (rest row (all_right (F ++ B) ((M ++ L) ++ D) row (all_left (M ++ L) D row (all_left M L row m))))
              | inr nl ↦ elim (all_cases N L row nl) [ inl k ↦ go row (all_right C N row k) | inr g ↦ stay row (rest row (all_right (F ++ B) ((M ++ L) ++ D) row (all_left (M ++ L) D row (all_right M L row g)))) ]
            ]
            | inr d ↦ stay row (rest row (all_right (F ++ B) ((M ++ L) ++ D) row (all_right (M ++ L) D row d)))
          ]
        ]
      ]

      back : (row : Row) → Contains (all_rows ((F ++ (C ++ B)) ++ ((M ++ (N ++ L)) ++ D))) row → Contains (all_rows (P ++ ((F ++ (C ++ B)) ++ ((M ++ (N ++ L)) ++ D)))) row
      back row h = all_right P ((F ++ (C ++ B)) ++ ((M ++ (N ++ L)) ++ D)) row h

      of_level : (row : Row) → Contains (all_rows (F ++ (C ++ B))) row → Contains (all_rows (P ++ ((F ++ (C ++ B)) ++ ((M ++ (N ++ L)) ++ D)))) row
      of_level row h = back row (all_left (F ++ (C ++ B)) ((M ++ (N ++ L)) ++ D) row h)

      of_next : (row : Row) → Contains (all_rows (M ++ (N ++ L))) row → Contains (all_rows (P ++ ((F ++ (C ++ B)) ++ ((M ++ (N ++ L)) ++ D)))) row
      of_next row h = back row (all_right (F ++ (C ++ B)) ((M ++ (N ++ L)) ++ D) row (all_left (M ++ (N ++ L)) D row h))

      stayed : (row : Row) → Contains (all_rows (P ++ ((F ++ B) ++ ((M ++ L) ++ D)))) row → Contains (all_rows (P ++ ((F ++ (C ++ B)) ++ ((M ++ (N ++ L)) ++ D)))) row
      stayed row there = elim (all_cases P ((F ++ B) ++ ((M ++ L) ++ D)) row there) [
        | inl p ↦ all_left P ((F ++ (C ++ B)) ++ ((M ++ (N ++ L)) ++ D)) row p
        | inr t ↦ elim (all_cases (F ++ B) ((M ++ L) ++ D) row t) [
          | inl fb ↦ elim (all_cases F B row fb) [ inl f ↦ of_level row (all_left F (C ++ B) row f) | inr b ↦ of_level row (all_right F (C ++ B) row (all_right C B row b)) ]
          | inr md ↦ elim (all_cases (M ++ L) D row md) [
            | inl ml ↦ elim (all_cases M L row ml) [ inl m ↦ of_next row (all_left M (N ++ L) row m) | inr l ↦ of_next row (all_right M (N ++ L) row (all_right N L row l)) ]
            | inr d ↦ back row (all_right (F ++ (C ++ B)) ((M ++ (N ++ L)) ++ D) row (all_right (M ++ (N ++ L)) D row d))
          ]
        ]
      ]

      together : (row : Row) → Contains (all_rows (P ++ ((F ++ B) ++ ((M ++ L) ++ D))) ++ all_rows (C ++ N)) row → Contains (all_rows (P ++ ((F ++ (C ++ B)) ++ ((M ++ (N ++ L)) ++ D)))) row
      together row there = elim (Contains-append_cases (all_rows (P ++ ((F ++ B) ++ ((M ++ L) ++ D)))) (all_rows (C ++ N)) row there) [
        | inl x ↦ stayed row x
        | inr cn ↦ elim (all_cases C N row cn) [ inl c ↦ of_level row (all_right F (C ++ B) row (all_left C B row c)) | inr n ↦ of_next row (all_right M (N ++ L) row (all_left N L row n)) ]
      ]

  module _ (order : AreNewestFirst (P ++ ((F ++ (C ++ B)) ++ ((M ++ (N ++ L)) ++ D)))) (below : AreBelow (all_rows M) (all_rows (C ++ N))) (above : AreBelow (all_rows (C ++ N)) (all_rows L)) (parted : AreNewer (all_rows B) (all_rows C)) where
    tail : AreNewestFirst ((F ++ (C ++ B)) ++ ((M ++ (N ++ L)) ++ D))
    tail = last_newest P ((F ++ (C ++ B)) ++ ((M ++ (N ++ L)) ++ D)) order

    -- rows of the level are newer than those of the next one and those behind
    down : AreNewer (all_rows (F ++ (C ++ B))) (all_rows ((M ++ (N ++ L)) ++ D))
    down = across (F ++ (C ++ B)) ((M ++ (N ++ L)) ++ D) tail

    in_c : (row : Row) → Contains (all_rows C) row → Contains (all_rows (F ++ (C ++ B))) row
    in_c row c = all_right F (C ++ B) row (all_left C B row c)

    in_n : (row : Row) → Contains (all_rows N) row → Contains (all_rows ((M ++ (N ++ L)) ++ D)) row
    in_n row n = all_left (M ++ (N ++ L)) D row (all_right M (N ++ L) row (all_left N L row n))

    in_d : (row : Row) → Contains (all_rows D) row → Contains (all_rows ((M ++ (N ++ L)) ++ D)) row
    in_d row d = all_right (M ++ (N ++ L)) D row d

    abbrev IsPlaced : Row → Row → Type 0
    IsPlaced x row = (row.seq < x.seq) ⊎ ((x.seq < row.seq) × IsTrue (has_raw row.raw (all_rows D)))

    from_front : (x row : Row) → Contains (all_rows P) x → Contains (all_rows (C ++ N)) row → x.raw ≡ row.raw → row.seq < x.seq
    from_front x row there go raw =
        across P ((F ++ (C ++ B)) ++ ((M ++ (N ++ L)) ++ D)) order x row there
        (elim (all_cases C N row go) [ inl c ↦ all_left (F ++ (C ++ B)) ((M ++ (N ++ L)) ++ D) row (in_c row c) | inr n ↦ all_right (F ++ (C ++ B)) ((M ++ (N ++ L)) ++ D) row (in_n row n) ]) raw

    from_f : (x row : Row) → Contains (all_rows F) x → Contains (all_rows (C ++ N)) row → x.raw ≡ row.raw → row.seq < x.seq
    from_f x row there go raw = elim (all_cases C N row go) [
      | inl c ↦ across F (C ++ B) (first_newest (F ++ (C ++ B)) ((M ++ (N ++ L)) ++ D) tail) x row there (all_left C B row c) raw
      | inr n ↦ down x row (all_left F (C ++ B) x there) (in_n row n) raw
    ]

    from_b : (x row : Row) → Contains (all_rows B) x → Contains (all_rows (C ++ N)) row → x.raw ≡ row.raw → row.seq < x.seq
    from_b x row there go raw = elim (all_cases C N row go) [
      | inl c ↦ parted x row there c raw
      | inr n ↦ down x row (all_right F (C ++ B) x (all_right C B x there)) (in_n row n) raw
    ]

    from_d : (x row : Row) → Contains (all_rows D) x → Contains (all_rows (C ++ N)) row → x.raw ≡ row.raw → x.seq < row.seq
    from_d x row there go raw = elim (all_cases C N row go) [
      | inl c ↦ down row x (in_c row c) (in_d x there) (sym raw)
      | inr n ↦ across (M ++ (N ++ L)) D (last_newest (F ++ (C ++ B)) ((M ++ (N ++ L)) ++ D) tail) row x (all_right M (N ++ L) row (all_left N L row n)) there (sym raw)
    ]

    -- a row that stays is newer than those of its raw key that go, or it lies deeper
    pub stays_placed : (x row : Row) → Contains (all_rows (P ++ ((F ++ B) ++ ((M ++ L) ++ D)))) x → Contains (all_rows (C ++ N)) row → x.raw ≡ row.raw → IsPlaced x row
    stays_placed x row there go raw = elim (all_cases P ((F ++ B) ++ ((M ++ L) ++ D)) x there) [
      | inl p ↦ inl (from_front x row p go raw)
      | inr t ↦ elim (all_cases (F ++ B) ((M ++ L) ++ D) x t) [
        | inl fb ↦ elim (all_cases F B x fb) [ inl f ↦ inl (from_f x row f go raw) | inr b ↦ inl (from_b x row b go raw) ]
        | inr md ↦ elim (all_cases (M ++ L) D x md) [
          | inl ml ↦ elim (all_cases M L x ml) [
            | inl m ↦ absurd (never_below x.raw row.raw (below x row m go) raw)
            | inr l ↦ absurd (never_below row.raw x.raw (above row x go l) (sym raw))
          ]
          | inr d ↦ inr (from_d x row d go raw, raw_there (all_rows D) x row.raw d raw)
        ]
      ]
    ]

  -- ---- with others in the place of those that go
  pub after_parts : (O : List (List Row)) → HaveSameRows (all_rows (P ++ ((F ++ B) ++ ((M ++ (O ++ L)) ++ D)))) (all_rows (P ++ ((F ++ B) ++ ((M ++ L) ++ D))) ++ all_rows O)
  after_parts O = (apart, together)
    where
      stay : (row : Row) → Contains (all_rows ((F ++ B) ++ ((M ++ L) ++ D))) row → Contains (all_rows (P ++ ((F ++ B) ++ ((M ++ L) ++ D))) ++ all_rows O) row
      stay row h = Contains-append_left (all_rows (P ++ ((F ++ B) ++ ((M ++ L) ++ D)))) (all_rows O) row (all_right P ((F ++ B) ++ ((M ++ L) ++ D)) row h)

      apart : (row : Row) → Contains (all_rows (P ++ ((F ++ B) ++ ((M ++ (O ++ L)) ++ D)))) row → Contains (all_rows (P ++ ((F ++ B) ++ ((M ++ L) ++ D))) ++ all_rows O) row
      apart row there = elim (all_cases P ((F ++ B) ++ ((M ++ (O ++ L)) ++ D)) row there) [
        | inl p ↦ Contains-append_left (all_rows (P ++ ((F ++ B) ++ ((M ++ L) ++ D)))) (all_rows O) row (all_left P ((F ++ B) ++ ((M ++ L) ++ D)) row p)
        | inr t ↦ elim (all_cases (F ++ B) ((M ++ (O ++ L)) ++ D) row t) [
          | inl fb ↦ stay row (all_left (F ++ B) ((M ++ L) ++ D) row fb)
          | inr nd ↦ elim (all_cases (M ++ (O ++ L)) D row nd) [
            | inl n ↦ elim (all_cases M (O ++ L) row n) [
              | inl m ↦ stay row (all_right (F ++ B) ((M ++ L) ++ D) row (all_left (M ++ L) D row (all_left M L row m)))
              | inr ol ↦ elim (all_cases O L row ol) [
                | inl o ↦ Contains-append_right (all_rows (P ++ ((F ++ B) ++ ((M ++ L) ++ D)))) (all_rows O) row o
                | inr l ↦ stay row (all_right (F ++ B) ((M ++ L) ++ D) row (all_left (M ++ L) D row (all_right M L row l)))
              ]
            ]
            | inr d ↦ stay row (all_right (F ++ B) ((M ++ L) ++ D) row (all_right (M ++ L) D row d))
          ]
        ]
      ]

      back : (row : Row) → Contains (all_rows ((F ++ B) ++ ((M ++ (O ++ L)) ++ D))) row → Contains (all_rows (P ++ ((F ++ B) ++ ((M ++ (O ++ L)) ++ D)))) row
      back row h = all_right P ((F ++ B) ++ ((M ++ (O ++ L)) ++ D)) row h

      of_next : (row : Row) → Contains (all_rows (M ++ (O ++ L))) row → Contains (all_rows (P ++ ((F ++ B) ++ ((M ++ (O ++ L)) ++ D)))) row
      of_next row h = back row (all_right (F ++ B) ((M ++ (O ++ L)) ++ D) row (all_left (M ++ (O ++ L)) D row h))

      together : (row : Row) → Contains (all_rows (P ++ ((F ++ B) ++ ((M ++ L) ++ D))) ++ all_rows O) row → Contains (all_rows (P ++ ((F ++ B) ++ ((M ++ (O ++ L)) ++ D)))) row
      together row there = elim (Contains-append_cases (all_rows (P ++ ((F ++ B) ++ ((M ++ L) ++ D)))) (all_rows O) row there) [
        | inl x ↦ elim (all_cases P ((F ++ B) ++ ((M ++ L) ++ D)) row x) [
          | inl p ↦ all_left P ((F ++ B) ++ ((M ++ (O ++ L)) ++ D)) row p
          | inr t ↦ elim (all_cases (F ++ B) ((M ++ L) ++ D) row t) [
            | inl fb ↦ back row (all_left (F ++ B) ((M ++ (O ++ L)) ++ D) row fb)
            | inr md ↦ elim (all_cases (M ++ L) D row md) [
              | inl ml ↦ elim (all_cases M L row ml) [ inl m ↦ of_next row (all_left M (O ++ L) row m) | inr l ↦ of_next row (all_right M (O ++ L) row (all_right O L row l)) ]
              | inr d ↦ back row (all_right (F ++ B) ((M ++ (O ++ L)) ++ D) row (all_right (M ++ (O ++ L)) D row d))
            ]
          ]
        ]
        | inr o ↦ of_next row (all_right M (O ++ L) row (all_left O L row o))
      ]
