-- Tables that stand in the place of others: the order of sources and the ranges of levels stay, where each new row has the raw key
-- and the sequence of an old one.
use Rattle.std.proofs.Common.{◌≡◌, List, [], ◌∷◌, ◌++◌, refl, sym, ap, subst, ◌∙◌, append_assoc, inl, inr, arith}
use Rattle.std.specs.Prelude.{◌⊎◌}
use Rattle.std.specs.List.{Contains}
use Rattle.std.specs.declared.cmp.Ordering.TheVariants.{Less}
use Rattle.kv_base.specs.Map.{Bytes, byte_cmp}
use Rattle.kv_base.specs.declared.row.Row.{Row}
use Rattle.core_model.specs.Sources.{Table, Sources, all_rows, waiting, in_tables, in_levels, newest_first, AreNewestFirst, AreBelow, AreAscending, EachAscending, AreLevelled, HasRowAt}
use Rattle.filter_laws.specs.Replaced.{AreNewer}
use Rattle.core_events.specs.ListLaws.{all_left, all_right, all_cases, levels-append, newer_less, newer_both, newer_than_both, below_newer, first_newest, last_newest, across, put_first, below_less, ascending_first, ascending_last, ascending_across, ascending_both}

-- ---- rows that have the raw keys and sequences of others

-- each row of the first list has its place among the second
abbrev pub AllAt : List Row → List Row → Type 0
AllAt rows others = (row : Row) → Contains rows row → HasRowAt others row

-- rows have their places among themselves
pub at_itself : (rows : List Row) → AllAt rows rows
at_itself rows row there = record { old = row; there = there; raw = refl; seq = refl }

-- and among more rows
pub at_more : (rows others more : List Row) → ((row : Row) → Contains others row → Contains more row) → AllAt rows others → AllAt rows more
at_more rows others more part at row there = let h = at row there in record { old = h.old; there = part h.old h.there; raw = h.raw; seq = h.seq }

-- newer than those is newer than these
newer_than_at : (rows others instead : List Row) → AllAt instead others → AreNewer rows others → AreNewer rows instead
newer_than_at rows others instead at newer row other there behind is =
    let h = at other behind in
    let low = newer row h.old there h.there (is ∙ sym h.raw) in
    let seq = h.seq in
    omega (arith, low, seq)

-- and these are newer where those are
at_newer_than : (rows instead others : List Row) → AllAt instead rows → AreNewer rows others → AreNewer instead others
at_newer_than rows instead others at newer row other there behind is =
    let h = at row there in
    let low = newer h.old other h.there behind (h.raw ∙ is) in
    let seq = h.seq in
    omega (arith, low, seq)

-- the same of raw keys that are below
below_at : (rows others instead : List Row) → AllAt instead others → AreBelow rows others → AreBelow rows instead
below_at rows others instead at below row other there behind =
    let h = at other behind in
    subst (λ (k : Bytes). byte_cmp row.raw k ≡ Less) h.raw (below row h.old there h.there)

at_below : (rows instead others : List Row) → AllAt instead rows → AreBelow rows others → AreBelow instead others
at_below rows instead others at below row other there behind =
    let h = at row there in
    subst (λ (k : Bytes). byte_cmp k other.raw ≡ Less) h.raw (below h.old other h.there behind)

-- ---- the order of sources

-- P are the sources in front, F, C and B those of a level, M, N and L those of the next one, D those behind. Others, O, come
-- for C and N.
module _ (P F C B M N L D O : List (List Row)) where
  abbrev level : List (List Row)
  level = F ++ (C ++ B)

  abbrev next : List (List Row)
  next = M ++ (N ++ L)

  abbrev before : List (List Row)
  before = P ++ (level ++ (next ++ D))

  abbrev after : List (List Row)
  after = P ++ ((F ++ B) ++ ((M ++ (O ++ L)) ++ D))

  module _ (order : AreNewestFirst before) (at : AllAt (all_rows O) (all_rows (C ++ N))) (below : AreBelow (all_rows M) (all_rows (C ++ N))) (parted : AreNewer (all_rows B) (all_rows C)) (inner : AreNewestFirst O) where
    tail : AreNewestFirst (level ++ (next ++ D))
    tail = last_newest P (level ++ (next ++ D)) order

    of_level : AreNewestFirst level
    of_level = first_newest level (next ++ D) tail

    of_next : AreNewestFirst (next ++ D)
    of_next = last_newest level (next ++ D) tail

    -- which rows are where
    in_f : (row : Row) → Contains (all_rows F) row → Contains (all_rows level) row
    in_f row h = all_left F (C ++ B) row h

    in_c : (row : Row) → Contains (all_rows C) row → Contains (all_rows level) row
    in_c row h = all_right F (C ++ B) row (all_left C B row h)

    in_b : (row : Row) → Contains (all_rows B) row → Contains (all_rows level) row
    in_b row h = all_right F (C ++ B) row (all_right C B row h)

    in_m : (row : Row) → Contains (all_rows M) row → Contains (all_rows next) row
    in_m row h = all_left M (N ++ L) row h

    in_n : (row : Row) → Contains (all_rows N) row → Contains (all_rows next) row
    in_n row h = all_right M (N ++ L) row (all_left N L row h)

    in_l : (row : Row) → Contains (all_rows L) row → Contains (all_rows next) row
    in_l row h = all_right M (N ++ L) row (all_right N L row h)

    next_too : (row : Row) → Contains (all_rows next) row → Contains (all_rows (next ++ D)) row
    next_too row h = all_left next D row h

    d_too : (row : Row) → Contains (all_rows D) row → Contains (all_rows (next ++ D)) row
    d_too row h = all_right next D row h

    -- rows of a level are newer than those of the next one and those behind
    down : (X Y : List (List Row)) → ((row : Row) → Contains (all_rows X) row → Contains (all_rows level) row) → ((row : Row) → Contains (all_rows Y) row → Contains (all_rows (next ++ D)) row) → AreNewer (all_rows X) (all_rows Y)
    down X Y part too = newer_less (all_rows level) (all_rows (next ++ D)) (all_rows X) (all_rows Y) part too (across level (next ++ D) tail)

    deep : (X : List (List Row)) → ((row : Row) → Contains (all_rows X) row → Contains (all_rows next) row) → AreNewer (all_rows X) (all_rows D)
    deep X part = newer_less (all_rows next) (all_rows D) (all_rows X) (all_rows D) part (λ row h. h) (across next D of_next)

    -- what is newer than all that goes is newer than what comes
    than_o : (X : List (List Row)) → AreNewer (all_rows X) (all_rows C) → AreNewer (all_rows X) (all_rows N) → AreNewer (all_rows X) (all_rows O)
    than_o X one two = newer_than_at (all_rows X) (all_rows (C ++ N)) (all_rows O) at (newer_than_both (all_rows X) C N one two)

    o_than : (Y : List Row) → AreNewer (all_rows C) Y → AreNewer (all_rows N) Y → AreNewer (all_rows O) Y
    o_than Y one two = at_newer_than (all_rows (C ++ N)) (all_rows O) Y at (newer_both C N Y one two)

    of_nl : AreNewestFirst (N ++ L)
    of_nl = last_newest M (N ++ L) (first_newest next D of_next)

    m_than_l : AreNewer (all_rows M) (all_rows L)
    m_than_l = newer_less (all_rows M) (all_rows (N ++ L)) (all_rows M) (all_rows L) (λ row h. h) (λ row h. all_right N L row h) (across M (N ++ L) (first_newest next D of_next))

    new_next : AreNewestFirst (M ++ (O ++ L))
    new_next =
        put_first M (O ++ L) (first_newest M (N ++ L) (first_newest next D of_next))
        (put_first O L inner (last_newest N L of_nl) (o_than (all_rows L) (down C L in_c (λ row h. next_too row (in_l row h))) (across N L of_nl)))
        (newer_than_both (all_rows M) O L (newer_than_at (all_rows M) (all_rows (C ++ N)) (all_rows O) at (below_newer (all_rows M) (all_rows (C ++ N)) below)) m_than_l)

    new_tail : AreNewestFirst ((M ++ (O ++ L)) ++ D)
    new_tail =
        put_first (M ++ (O ++ L)) D new_next (last_newest next D of_next)
        (newer_both M (O ++ L) (all_rows D) (deep M in_m) (newer_both O L (all_rows D) (o_than (all_rows D) (down C D in_c d_too) (deep N in_n)) (deep L in_l)))

    -- those that stay of the level are newer than all that stands behind them
    stay_newer : (X : List (List Row)) → ((row : Row) → Contains (all_rows X) row → Contains (all_rows level) row) → AreNewer (all_rows X) (all_rows C) → AreNewer (all_rows X) (all_rows ((M ++ (O ++ L)) ++ D))
    stay_newer X part one =
        newer_than_both (all_rows X) (M ++ (O ++ L)) D
        (newer_than_both (all_rows X) M (O ++ L) (down X M part (λ row h. next_too row (in_m row h)))
        (newer_than_both (all_rows X) O L (than_o X one (down X N part (λ row h. next_too row (in_n row h)))) (down X L part (λ row h. next_too row (in_l row h)))))
        (down X D part d_too)

    new_level : AreNewestFirst (F ++ B)
    new_level =
        put_first F B (first_newest F (C ++ B) of_level) (last_newest C B (last_newest F (C ++ B) of_level))
        (newer_less (all_rows F) (all_rows (C ++ B)) (all_rows F) (all_rows B) (λ row h. h) (λ row h. all_right C B row h) (across F (C ++ B) of_level))

    -- each row of the new sources has its place among the old ones
    new_at : AllAt (all_rows ((F ++ B) ++ ((M ++ (O ++ L)) ++ D))) (all_rows (level ++ (next ++ D)))
    new_at row there = by_level (all_cases (F ++ B) ((M ++ (O ++ L)) ++ D) row there)
      where
        own : Contains (all_rows (level ++ (next ++ D))) row → HasRowAt (all_rows (level ++ (next ++ D))) row
        own h = record { old = row; there = h; raw = refl; seq = refl }

        lower : Contains (all_rows (next ++ D)) row → HasRowAt (all_rows (level ++ (next ++ D))) row
        lower h = own (all_right level (next ++ D) row h)

        chosen : (r : Row) → Contains (all_rows (C ++ N)) r → Contains (all_rows (level ++ (next ++ D))) r
        chosen r h = elim (all_cases C N r h) [ inl c ↦ all_left level (next ++ D) r (in_c r c) | inr n ↦ all_right level (next ++ D) r (next_too r (in_n r n)) ]

        by_ol : Contains (all_rows O) row ⊎ Contains (all_rows L) row → HasRowAt (all_rows (level ++ (next ++ D))) row
        by_ol (inl h) = at_more (all_rows O) (all_rows (C ++ N)) (all_rows (level ++ (next ++ D))) chosen at row h
        by_ol (inr h) = lower (next_too row (in_l row h))

        by_next : Contains (all_rows M) row ⊎ Contains (all_rows (O ++ L)) row → HasRowAt (all_rows (level ++ (next ++ D))) row
        by_next (inl h) = lower (next_too row (in_m row h))
        by_next (inr h) = by_ol (all_cases O L row h)

        by_deep : Contains (all_rows (M ++ (O ++ L))) row ⊎ Contains (all_rows D) row → HasRowAt (all_rows (level ++ (next ++ D))) row
        by_deep (inl h) = by_next (all_cases M (O ++ L) row h)
        by_deep (inr h) = lower (d_too row h)

        by_fb : Contains (all_rows F) row ⊎ Contains (all_rows B) row → HasRowAt (all_rows (level ++ (next ++ D))) row
        by_fb (inl h) = own (all_left level (next ++ D) row (in_f row h))
        by_fb (inr h) = own (all_left level (next ++ D) row (in_b row h))

        by_level : Contains (all_rows (F ++ B)) row ⊎ Contains (all_rows ((M ++ (O ++ L)) ++ D)) row → HasRowAt (all_rows (level ++ (next ++ D))) row
        by_level (inl h) = by_fb (all_cases F B row h)
        by_level (inr h) = by_deep (all_cases (M ++ (O ++ L)) D row h)

    -- the new sources stand newest first
    pub swapped_order : AreNewestFirst after
    swapped_order =
        put_first P ((F ++ B) ++ ((M ++ (O ++ L)) ++ D)) (first_newest P (level ++ (next ++ D)) order)
        (put_first (F ++ B) ((M ++ (O ++ L)) ++ D) new_level new_tail
        (newer_both F B (all_rows ((M ++ (O ++ L)) ++ D))
        (stay_newer F in_f (newer_less (all_rows F) (all_rows (C ++ B)) (all_rows F) (all_rows C) (λ row h. h) (λ row h. all_left C B row h) (across F (C ++ B) of_level)))
        (stay_newer B in_b parted)))
        (newer_than_at (all_rows P) (all_rows (level ++ (next ++ D))) (all_rows ((F ++ B) ++ ((M ++ (O ++ L)) ++ D))) new_at (across P (level ++ (next ++ D)) order))

    -- and each of their rows has its place among the old ones
    pub swapped_at : AllAt (all_rows after) (all_rows before)
    swapped_at row there = by_front (all_cases P ((F ++ B) ++ ((M ++ (O ++ L)) ++ D)) row there)
      where
        by_front : Contains (all_rows P) row ⊎ Contains (all_rows ((F ++ B) ++ ((M ++ (O ++ L)) ++ D))) row → HasRowAt (all_rows before) row
        by_front (inl h) = record { old = row; there = all_left P (level ++ (next ++ D)) row h; raw = refl; seq = refl }
        by_front (inr h) = at_more (all_rows ((F ++ B) ++ ((M ++ (O ++ L)) ++ D))) (all_rows (level ++ (next ++ D))) (all_rows before) (λ r g. all_right P (level ++ (next ++ D)) r g) new_at row h

-- ---- the ranges of levels

-- where tables of the lower level stay on either side of those that go
pub swapped_ranges : (M N L O C : List (List Row)) → AreAscending (M ++ (N ++ L)) → AllAt (all_rows O) (all_rows (C ++ N)) → AreBelow (all_rows M) (all_rows (C ++ N)) → AreBelow (all_rows (C ++ N)) (all_rows L) → AreAscending O
    → AreAscending (M ++ (O ++ L))
swapped_ranges M N L O C old at below above inner =
    ascending_both M (O ++ L) (ascending_first M (N ++ L) old)
    (ascending_both O L inner (ascending_last N L (ascending_last M (N ++ L) old)) (at_below (all_rows (C ++ N)) (all_rows O) (all_rows L) at above))
    (both (below_at (all_rows M) (all_rows (C ++ N)) (all_rows O) at below)
    (below_less (all_rows M) (all_rows (N ++ L)) (all_rows M) (all_rows L) (λ row h. h) (λ row h. all_right N L row h) (ascending_across M (N ++ L) old)))
  where
    both : AreBelow (all_rows M) (all_rows O) → AreBelow (all_rows M) (all_rows L) → AreBelow (all_rows M) (all_rows (O ++ L))
    both one two row other there behind = elim (all_cases O L other behind) [ inl h ↦ one row other there h | inr h ↦ two row other there h ]

-- a level that loses some tables
pub fewer_ranges : (F C B : List (List Row)) → AreAscending (F ++ (C ++ B)) → AreAscending (F ++ B)
fewer_ranges F C B old =
    ascending_both F B (ascending_first F (C ++ B) old) (ascending_last C B (ascending_last F (C ++ B) old))
    (below_less (all_rows F) (all_rows (C ++ B)) (all_rows F) (all_rows B) (λ row h. h) (λ row h. all_right C B row h) (ascending_across F (C ++ B) old))

-- ---- levels

-- the sources of a core with two of its levels named
pub named_levels : (s : Sources) (above : List (List Table)) (one two : List Table) (deeper : List (List Table)) → s.levels ≡ above ++ one ∷ two ∷ deeper
    → newest_first s ≡ (s.memory ∷ (waiting s.frozen ++ in_levels above)) ++ (in_tables one ++ (in_tables two ++ in_levels deeper))
named_levels s above one two deeper is =
    ap (λ (ls : List (List Table)). s.memory ∷ (waiting s.frozen ++ in_levels ls)) is
    ∙ ap (λ (rs : List (List Row)). s.memory ∷ (waiting s.frozen ++ rs)) (levels-append above (one ∷ two ∷ deeper))
    ∙ ap (λ (rs : List (List Row)). s.memory ∷ rs) (sym (append_assoc (waiting s.frozen) (in_levels above) (in_tables one ++ (in_tables two ++ in_levels deeper))))

-- levels stay in order where two of them do
pub levelled_with : (above : List (List Table)) (one two new_one new_two : List Table) (deeper : List (List Table)) → AreLevelled (above ++ one ∷ two ∷ deeper) → (AreAscending (in_tables one) → AreAscending (in_tables new_one))
    → (AreAscending (in_tables two) → AreAscending (in_tables new_two)) → AreLevelled (above ++ new_one ∷ new_two ∷ deeper)
levelled_with [] one two new_one new_two deeper h first second = (second h.0, h.1)
levelled_with (top ∷ above) one two new_one new_two deeper h first second = within above h
  where
    within : (ls : List (List Table)) → EachAscending (ls ++ one ∷ two ∷ deeper) → EachAscending (ls ++ new_one ∷ new_two ∷ deeper)
    within [] g = (first g.0, (second g.1.0, g.1.1))
    within (l ∷ ls) g = (g.0, within ls g.1)

-- the lower of them is one of disjoint ranges, and so is the other where it is not the first of all
pub lower_ascends : (above : List (List Table)) (one two : List Table) (deeper : List (List Table)) → AreLevelled (above ++ one ∷ two ∷ deeper) → AreAscending (in_tables two)
lower_ascends [] one two deeper h = h.0
lower_ascends (top ∷ above) one two deeper h = within above h
  where
    within : (ls : List (List Table)) → EachAscending (ls ++ one ∷ two ∷ deeper) → AreAscending (in_tables two)
    within [] g = g.1.0
    within (l ∷ ls) g = within ls g.1

-- a level below the first ascends
pub upper_ascends : (above : List (List Table)) (one two : List Table) (deeper : List (List Table)) → AreLevelled (above ++ one ∷ two ∷ deeper) → (above ≡ [] → ⊥) → AreAscending (in_tables one)
upper_ascends [] one two deeper h not_first = absurd (not_first refl)
upper_ascends (top ∷ above) one two deeper h not_first = within above h
  where
    within : (ls : List (List Table)) → EachAscending (ls ++ one ∷ two ∷ deeper) → AreAscending (in_tables one)
    within [] g = g.0
    within (l ∷ ls) g = within ls g.1
