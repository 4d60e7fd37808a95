-- Lists of rows in the order of their sources, cut and put together.
use Rattle.std.proofs.Common.{◌≡◌, ◌<◌, List, [], ◌∷◌, ◌++◌, refl, sym, ap, subst, ◌∙◌, append_assoc, inl, inr}
use Rattle.std.proofs.lemmas.List.{map-append}
use Rattle.std.proofs.lemmas.List.Elements.{Contains-append_left, Contains-append_right, Contains-append_cases}
use Rattle.std.specs.Prelude.{◌⊎◌}
use Rattle.std.specs.List.{Contains}
use Rattle.std.specs.declared.cmp.Ordering.TheVariants.{Less, Equal}
use Rattle.std.specs.Cmp.{tied_itself}
use Rattle.std.specs.Cmp.Lexicographic.{nat_list_cmp_total}
use Rattle.kv_base.specs.Map.{Bytes, byte_cmp}
use Rattle.kv_base.specs.declared.row.Row.{Row}
use Rattle.row_model.specs.RowLaws.{there_never}
use Rattle.core_model.specs.Sources.{Table, all_rows, in_tables, in_levels, AreNewestFirst, AreBelow, AreAscending, EachAscending}
use Rattle.filter_laws.specs.Replaced.{AreNewer}

-- ---- rows of lists together

-- all rows of lists behind others
pub all-append : (xs ys : List (List Row)) → all_rows (xs ++ ys) ≡ all_rows xs ++ all_rows ys
all-append [] ys = refl
all-append (x ∷ xs) ys = ap (λ (rows : List Row). x ++ rows) (all-append xs ys) ∙ sym (append_assoc x (all_rows xs) (all_rows ys))

-- a row of the first lists is one of all
pub all_left : (xs ys : List (List Row)) (row : Row) → Contains (all_rows xs) row → Contains (all_rows (xs ++ ys)) row
all_left xs ys row there = subst (λ (rows : List Row). Contains rows row) (sym (all-append xs ys)) (Contains-append_left (all_rows xs) (all_rows ys) row there)

-- and so is one of the others
pub all_right : (xs ys : List (List Row)) (row : Row) → Contains (all_rows ys) row → Contains (all_rows (xs ++ ys)) row
all_right xs ys row there = subst (λ (rows : List Row). Contains rows row) (sym (all-append xs ys)) (Contains-append_right (all_rows xs) (all_rows ys) row there)

-- and each is one of these
pub all_cases : (xs ys : List (List Row)) (row : Row) → Contains (all_rows (xs ++ ys)) row → Contains (all_rows xs) row ⊎ Contains (all_rows ys) row
all_cases xs ys row there = Contains-append_cases (all_rows xs) (all_rows ys) row (subst (λ (rows : List Row). Contains rows row) (all-append xs ys) there)

-- the rows of tables behind others
pub tables-append : (ts us : List Table) → in_tables (ts ++ us) ≡ in_tables ts ++ in_tables us
tables-append ts us = map-append (λ (t : Table). t.rows) ts us

-- and of levels
pub levels-append : (ls ms : List (List Table)) → in_levels (ls ++ ms) ≡ in_levels ls ++ in_levels ms
levels-append [] ms = refl
levels-append (l ∷ ls) ms = ap (λ (rs : List (List Row)). in_tables l ++ rs) (levels-append ls ms) ∙ sym (append_assoc (in_tables l) (in_levels ls) (in_levels ms))

-- ---- newer

-- any rows are newer than none
pub newer_than_none : (rows : List Row) → AreNewer rows []
newer_than_none rows row other there behind is = absurd (there_never other behind)

-- some of the newer are newer than some of the older
pub newer_less : (rows others fewer less : List Row) → ((row : Row) → Contains fewer row → Contains rows row) → ((row : Row) → Contains less row → Contains others row) → AreNewer rows others → AreNewer fewer less
newer_less rows others fewer less part too newer row other there behind is = newer row other (part row there) (too other behind) is

-- both of two are newer, and newer than both
pub newer_both : (xs ys : List (List Row)) (others : List Row) → AreNewer (all_rows xs) others → AreNewer (all_rows ys) others → AreNewer (all_rows (xs ++ ys)) others
newer_both xs ys others one two row other there behind is = by_cases (all_cases xs ys row there)
  where
    by_cases : Contains (all_rows xs) row ⊎ Contains (all_rows ys) row → other.seq < row.seq
    by_cases (inl h) = one row other h behind is
    by_cases (inr h) = two row other h behind is

-- rows that are newer than either are newer than both
pub newer_than_both : (rows : List Row) (xs ys : List (List Row)) → AreNewer rows (all_rows xs) → AreNewer rows (all_rows ys) → AreNewer rows (all_rows (xs ++ ys))
newer_than_both rows xs ys one two row other there behind is = by_cases (all_cases xs ys other behind)
  where
    by_cases : Contains (all_rows xs) other ⊎ Contains (all_rows ys) other → other.seq < row.seq
    by_cases (inl h) = one row other there h is
    by_cases (inr h) = two row other there h is

-- rows of other raw keys are so in either direction
never_below : (a b : Bytes) → byte_cmp a b ≡ Less → a ≡ b → ⊥
never_below a b less is = let tied : byte_cmp a b ≡ Equal = ap (byte_cmp a) (sym is) ∙ tied_itself nat_list_cmp_total a in cc

-- rows with lesser raw keys are newer in the sense that none is of the same raw key
pub below_newer : (rows others : List Row) → AreBelow rows others → AreNewer rows others
below_newer rows others below row other there behind is = absurd (never_below row.raw other.raw (below row other there behind) is)

-- and so are rows with greater ones
pub above_newer : (rows others : List Row) → AreBelow others rows → AreNewer rows others
above_newer rows others below row other there behind is = absurd (never_below other.raw row.raw (below other row behind there) (sym is))

-- ---- newest first

-- the first of lists that stand newest first do
pub first_newest : (xs ys : List (List Row)) → AreNewestFirst (xs ++ ys) → AreNewestFirst xs
first_newest [] ys order = tt
first_newest (x ∷ xs) ys order = (newer_less x (all_rows (xs ++ ys)) x (all_rows xs) (λ row h. h) (λ row h. all_left xs ys row h) order.0, first_newest xs ys order.1)

-- and so do the last ones
pub last_newest : (xs ys : List (List Row)) → AreNewestFirst (xs ++ ys) → AreNewestFirst ys
last_newest [] ys order = order
last_newest (x ∷ xs) ys order = last_newest xs ys order.1

-- the first are newer than the last
pub across : (xs ys : List (List Row)) → AreNewestFirst (xs ++ ys) → AreNewer (all_rows xs) (all_rows ys)
across [] ys order row other there behind is = absurd (there_never row there)
across (x ∷ xs) ys order row other there behind is = by_cases (Contains-append_cases x (all_rows xs) row there) (across xs ys order.1)
  where
    by_cases : Contains x row ⊎ Contains (all_rows xs) row → AreNewer (all_rows xs) (all_rows ys) → other.seq < row.seq
    by_cases (inl h) rest = order.0 row other h (all_right xs ys other behind) is
    by_cases (inr h) rest = rest row other h behind is

-- and with that both together stand newest first
pub put_first : (xs ys : List (List Row)) → AreNewestFirst xs → AreNewestFirst ys → AreNewer (all_rows xs) (all_rows ys) → AreNewestFirst (xs ++ ys)
put_first [] ys one two newer = two
put_first (x ∷ xs) ys one two newer = (
  newer_than_both x xs ys one.0 (newer_less (x ++ all_rows xs) (all_rows ys) x (all_rows ys) (λ row h. Contains-append_left x (all_rows xs) row h) (λ row h. h) newer),
  put_first xs ys one.1 two (newer_less (x ++ all_rows xs) (all_rows ys) (all_rows xs) (all_rows ys) (λ row h. Contains-append_right x (all_rows xs) row h) (λ row h. h) newer),
)

-- ---- ascending

-- lists whose ranges ascend stand newest first in either order
pub ascending_newest : (xs : List (List Row)) → AreAscending xs → AreNewestFirst xs
ascending_newest [] h = tt
ascending_newest (x ∷ xs) h = (below_newer x (all_rows xs) h.0, ascending_newest xs h.1)

-- what is below stays so for fewer rows
pub below_less : (rows others fewer less : List Row) → ((row : Row) → Contains fewer row → Contains rows row) → ((row : Row) → Contains less row → Contains others row) → AreBelow rows others → AreBelow fewer less
below_less rows others fewer less part too below row other there behind = below row other (part row there) (too other behind)

-- the first of lists that ascend do
pub ascending_first : (xs ys : List (List Row)) → AreAscending (xs ++ ys) → AreAscending xs
ascending_first [] ys order = tt
ascending_first (x ∷ xs) ys order = (below_less x (all_rows (xs ++ ys)) x (all_rows xs) (λ row h. h) (λ row h. all_left xs ys row h) order.0, ascending_first xs ys order.1)

-- and so do the last ones
pub ascending_last : (xs ys : List (List Row)) → AreAscending (xs ++ ys) → AreAscending ys
ascending_last [] ys order = order
ascending_last (x ∷ xs) ys order = ascending_last xs ys order.1

-- the first are below the last
pub ascending_across : (xs ys : List (List Row)) → AreAscending (xs ++ ys) → AreBelow (all_rows xs) (all_rows ys)
ascending_across [] ys order row other there behind = absurd (there_never row there)
ascending_across (x ∷ xs) ys order row other there behind = by_cases (Contains-append_cases x (all_rows xs) row there) (ascending_across xs ys order.1)
  where
    by_cases : Contains x row ⊎ Contains (all_rows xs) row → AreBelow (all_rows xs) (all_rows ys) → byte_cmp row.raw other.raw ≡ Less
    by_cases (inl h) rest = order.0 row other h (all_right xs ys other behind)
    by_cases (inr h) rest = rest row other h behind

-- and with that both together ascend
pub ascending_both : (xs ys : List (List Row)) → AreAscending xs → AreAscending ys → AreBelow (all_rows xs) (all_rows ys) → AreAscending (xs ++ ys)
ascending_both [] ys one two below = two
ascending_both (x ∷ xs) ys one two below = (
  first one.0,
  ascending_both xs ys one.1 two (below_less (x ++ all_rows xs) (all_rows ys) (all_rows xs) (all_rows ys) (λ row h. Contains-append_right x (all_rows xs) row h) (λ row h. h) below),
)
  where
    first : AreBelow x (all_rows xs) → AreBelow x (all_rows (xs ++ ys))
    first here row other there behind = by_cases (all_cases xs ys other behind)
      where
        by_cases : Contains (all_rows xs) other ⊎ Contains (all_rows ys) other → byte_cmp row.raw other.raw ≡ Less
        by_cases (inl h) = here row other there h
        by_cases (inr h) = below row other (Contains-append_left x (all_rows xs) row there) h

-- each level of some, and of others
pub each_first : (ls ms : List (List Table)) → EachAscending (ls ++ ms) → EachAscending ls
each_first [] ms h = tt
each_first (l ∷ ls) ms h = (h.0, each_first ls ms h.1)

-- the last of levels that ascend do
pub each_last : (ls ms : List (List Table)) → EachAscending (ls ++ ms) → EachAscending ms
each_last [] ms h = h
each_last (l ∷ ls) ms h = each_last ls ms h.1

-- and so do both together
pub each_both : (ls ms : List (List Table)) → EachAscending ls → EachAscending ms → EachAscending (ls ++ ms)
each_both [] ms one two = two
each_both (l ∷ ls) ms one two = (one.0, each_both ls ms one.1 two)
