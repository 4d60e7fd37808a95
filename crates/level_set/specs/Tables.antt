-- The tables of a store by their levels: which may stand together, and in what order.
use Rattle.std.specs.Prelude.{ℕ, nat_lt, nat_le, Bool, true, not, if◌then◌else◌, ◌==◌, ◌&&◌, List, [], ◌∷◌, filter, length}
use Rattle.std.specs.List.{list_all, prefix_len, sum_by}
use Rattle.std.specs.Ordering.{is_lt, is_le}
use Rattle.kv_base.specs.Map.{byte_cmp}
use Rattle.kv_base.specs.RawKeys.{is_raw_text}
use Rattle.kv_base.specs.declared.name.TableId.{TableId}
use Rattle.level_set.specs.declared.home.Home.{Home}

-- both name one table
abbrev pub same_id : TableId → TableId → Bool
same_id id other = (id.run == other.run) && (id.part == other.part)

-- the level is one of five, and the raw keys reach from a least to a greatest one
abbrev pub is_table : Home → Bool
is_table home = nat_le home.level 4 && is_raw_text home.desc.least && is_raw_text home.desc.greatest && is_le (byte_cmp home.desc.least home.desc.greatest)

-- Of two tables of one level the first is in front: at level 0 it is of a later run, below it all its raw keys are less.
abbrev pub is_in_front : Home → Home → Bool
is_in_front home other = if home.level == 0 then nat_lt other.desc.id.run home.desc.id.run else is_lt (byte_cmp home.desc.greatest other.desc.least)

-- a table stands before those of deeper levels, and before those of its own that it is in front of
abbrev pub stands_before : Home → Home → Bool
stands_before home other = if home.level == other.level then is_in_front home other else nat_lt home.level other.level

-- two different tables, the first of which stands before the second
abbrev pub goes_before : Home → Home → Bool
goes_before home other = not (same_id home.desc.id other.desc.id) && stands_before home other

-- each may go before all that are behind it
unfoldable pub in_order : List Home → Bool
in_order [] = true
in_order (home ∷ behind) = list_all (goes_before home) behind && in_order behind

-- These tables may be all of a store: level after level, level 0 with different runs and newest first, the others with
-- disjoint ranges and ascending.
unfoldable pub are_tables : List Home → Bool
are_tables tables = list_all is_table tables && in_order tables

-- each is of a run before this one
abbrev pub are_runs_below : ℕ → List Home → Bool
are_runs_below next_run tables = list_all (λ home. nat_lt home.desc.id.run next_run) tables

-- ---- one level

abbrev pub at_level : ℕ → List Home → List Home
at_level level tables = filter (λ home. home.level == level) tables

abbrev pub count_at : ℕ → List Home → ℕ
count_at level tables = length (at_level level tables)

-- how many tables in front are of lesser levels
abbrev pub lesser : ℕ → List Home → ℕ
lesser level tables = prefix_len (λ home. nat_lt home.level level) tables

-- how many bytes the files of these tables have
abbrev pub bytes_of : List Home → ℕ
bytes_of tables = sum_by (λ home. home.desc.bytes) tables
