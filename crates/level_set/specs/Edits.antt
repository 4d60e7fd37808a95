-- What an edit makes of the tables of a store.
use Rattle.std.specs.Prelude.{◌≡◌, ◌++◌, true, Bool, false, if◌then◌else◌, List, [], ◌∷◌, Option, Some, None, option_map, option_and_then}
use Rattle.kv_base.specs.Map.{kept}
use Rattle.kv_base.specs.declared.name.TableId.{TableId}
use Rattle.level_set.specs.declared.edit.Edit.{Edit}
use Rattle.level_set.specs.declared.home.Home.{Home}
use Rattle.level_set.specs.Tables.{same_id, goes_before, are_tables, are_runs_below}

-- this is the first of these names
abbrev pub is_first : TableId → List TableId → Bool
is_first id [] = false
is_first id (first ∷ ids) = same_id id first

-- The tables without those of these names; none where a name is not there, or the names don't stand in the tables' order.
abbrev pub tables_without : List Home → List TableId → Option (List Home)
tables_without tables [] = Some tables
tables_without [] (id ∷ ids) = None
tables_without (home ∷ tables) (id ∷ ids) = if same_id home.desc.id id then tables_without tables ids else option_map (λ rest. home ∷ rest) (tables_without tables (id ∷ ids))

-- a table among others, in front of the first that may not go before it
unfoldable pub put_in : Home → List Home → List Home
put_in home [] = home ∷ []
put_in home (first ∷ tables) = if goes_before first home then first ∷ put_in home tables else home ∷ first ∷ tables

-- the tables with one more, where it may stand among them
abbrev pub with_table : List Home → Home → Option (List Home)
with_table tables home = kept are_tables (Some (put_in home tables))

-- the tables and one more are these, with it in the middle
pub record IsPut (tables after : List Home) (home : Home) : Type 0 where
  pub front : List Home
  pub behind : List Home
  pub were : tables ≡ front ++ behind
  pub are : after ≡ front ++ home ∷ behind

-- it was put in, and all may stand together
pub record IsWithTable (tables after : List Home) (home : Home) : Type 0 where
  pub put : IsPut tables after home
  pub may : are_tables after ≡ true

-- the tables with each of these
unfoldable pub with_tables : List Home → List Home → Option (List Home)
with_tables tables [] = Some tables
with_tables tables (home ∷ more) = option_and_then (λ now. with_tables now more) (with_table tables home)

-- The tables after an edit: without those that it removes, and with those that it adds. There are none where it removes a
-- table that isn't there, adds one that may not stand there, or leaves one whose run is not below the next run.
abbrev pub tables_after : List Home → Edit → Option (List Home)
tables_after tables edit = kept (are_runs_below edit.next_run) (option_and_then (λ staying. with_tables staying edit.added) (tables_without tables edit.removed))
