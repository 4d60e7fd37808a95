-- Which tables a compaction takes.
use Rattle.std.specs.Prelude.{◌≡◌, ℕ, zero, suc, ◌+◌, ◌-◌, ◌*◌, ◌^◌, ◌<◌, ◌≤◌, nat_lt, nat_le, Bool, true, false, if◌then◌else◌, ◌==◌, ◌&&◌, List, [], ◌∷◌, filter, length, get_or}
use Rattle.std.specs.List.{list_all, list_any, slice_range}
use Rattle.std.specs.Ordering.{is_lt, is_le}
use Rattle.kv_base.specs.Map.{byte_cmp}
use Rattle.kv_base.specs.declared.name.TableId.{TableId}
use Rattle.level_set.specs.declared.choice.Choice.{Choice}
use Rattle.level_set.specs.declared.home.Home.{Home}
use Rattle.level_set.specs.Tables.{at_level, count_at, bytes_of}

-- ---- what is due

-- with how many bytes in its files a level is due
abbrev pub due_bytes : ℕ → ℕ
due_bytes level = 4194304 * 10 ^ (level - 1)

-- level 0 is due with four tables, levels 1 to 3 with so many bytes, and level 4 never is
abbrev pub is_due : ℕ → List Home → Bool
is_due level tables =
    if level == 0 then nat_le 4 (count_at 0 tables)
    else nat_lt level 4 && nat_le (due_bytes level) (bytes_of (at_level level tables))

-- ---- what goes together

-- its raw keys are all less than those of the other
abbrev pub is_less_than : Home → Home → Bool
is_less_than home other = is_lt (byte_cmp home.desc.greatest other.desc.least)

-- the raw keys reach from a least to a greatest one
abbrev pub is_range : Home → Bool
is_range home = is_le (byte_cmp home.desc.least home.desc.greatest)

-- the ranges are disjoint, and ascend
unfoldable pub rise : List Home → Bool
rise [] = true
rise (home ∷ behind) = is_range home && list_all (is_less_than home) behind && rise behind

-- one of these begins at or before the end of a table
abbrev pub begin_before_end : List Home → Home → Bool
begin_before_end chosen home = list_any (λ c. is_le (byte_cmp c.desc.least home.desc.greatest)) chosen

-- one of these ends at or behind its beginning
abbrev pub end_behind_beginning : List Home → Home → Bool
end_behind_beginning chosen home = list_any (λ c. is_le (byte_cmp home.desc.least c.desc.greatest)) chosen

-- it overlaps the least range that covers these
abbrev pub is_overlapped : List Home → Home → Bool
is_overlapped chosen home = begin_before_end chosen home && end_behind_beginning chosen home

-- the tables that it takes of its level, and of the next one
abbrev pub taken_by : Choice → List Home → List Home
taken_by choice tables = slice_range (at_level choice.level tables) choice.from choice.to

abbrev pub taken_with : Choice → List Home → List Home
taken_with choice tables = slice_range (at_level (choice.level + 1) tables) choice.next_from choice.next_to

-- these places stand in order within the list
pub record ArePlacesWithin (from to : ℕ) (tables : List Home) : Type 0 where
  pub order : from ≤ to
  pub within : to ≤ length tables

-- The places of a choice stand within its level and the next one, and of that it takes the tables that overlap the least
-- range which covers those of its level.
pub record IsChoice (tables : List Home) (level : ℕ) (choice : Choice) : Type 0 where
  pub level_is : choice.level ≡ level
  pub own : ArePlacesWithin choice.from choice.to (at_level level tables)
  pub next : ArePlacesWithin choice.next_from choice.next_to (at_level (level + 1) tables)
  pub overlapped : taken_with choice tables ≡ filter (is_overlapped (taken_by choice tables)) (at_level (level + 1) tables)

-- it takes all tables of the level
pub record IsWholeChoice (tables : List Home) (level : ℕ) (choice : Choice) : Type 0 where
  pub choice_is : IsChoice tables level choice
  pub all : taken_by choice tables ≡ at_level level tables

-- the least run, and then the least part
abbrev pub is_upto : TableId → TableId → Bool
is_upto id other = if id.run == other.run then nat_le id.part other.part else nat_lt id.run other.run

-- the table at this place is the oldest of these
pub record IsOldestAt (homes : List Home) (at : ℕ) : Type 0 where
  pub low : at < length homes
  pub home : Home
  pub is : home ≡ get_or homes at home
  pub least : list_all (λ t. is_upto home.desc.id t.desc.id) homes ≡ true

-- it takes the table of the least run, and then the least part, of the level
pub record IsOldest (tables : List Home) (level : ℕ) (choice : Choice) : Type 0 where
  pub choice_is : IsChoice tables level choice
  pub home : Home
  pub one : taken_by choice tables ≡ home ∷ []
  pub least : list_all (λ t. is_upto home.desc.id t.desc.id) (at_level level tables) ≡ true

-- of level 0 all tables, of another the oldest one
abbrev pub IsTaken : List Home → ℕ → Choice → Type 0
IsTaken tables zero choice = IsWholeChoice tables zero choice
IsTaken tables (suc level) choice = IsOldest tables (suc level) choice

-- the least level that is due, and what is taken of it
pub record IsPicked (tables : List Home) (choice : Choice) : Type 0 where
  pub due : is_due choice.level tables ≡ true
  pub least : (level : ℕ) → level < choice.level → is_due level tables ≡ false
  pub taken : IsTaken tables choice.level choice
