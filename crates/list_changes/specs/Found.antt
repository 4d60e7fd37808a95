-- What is found of a list at a key, and of its items.
use Rattle.std.proofs.Common.{ℕ, ◌+◌, ◌-◌}
use Rattle.std.specs.Prelude.{Option, Some, None, Ok, Err, IfOk, IsTrue, ℤ}
use Rattle.kv_base.specs.Map.{Bytes, get}
use Rattle.kv_base.specs.Fields.{u64}
use Rattle.kv_base.specs.MetaValues.{MetaValue, is_deadline}
use Rattle.redis_model.specs.declared.command.End.{End}
use Rattle.redis_model.specs.Value.{lives}
use Rattle.redis_model.specs.Outcome.{Outcome}
use Rattle.redis_model.specs.Lists.{place}
use Rattle.lives_model.specs.Rows.{Rows, Elements, row_key}
use Rattle.lives_model.specs.Clean.{live_at}
use Rattle.plan_base.specs.MetaRows.{expire_number}
use Rattle.plan_base.specs.Seen.{deadline_in}
use Rattle.list_plans.specs.declared.sight.ListSight.{ListSight}
use Rattle.list_plans.specs.ListLives.{list_found, IsFoundWithin}
use Rattle.list_plans.specs.ListRows.{end_index}
use Rattle.list_changes.specs.declared.found.ListFound.{ListFound}

-- what metadata tells: the deadline of the key, and the list
abbrev pub found_in : Option MetaValue → ListFound
found_in meta = record { deadline = deadline_in meta; list = list_found meta }

-- at a key
abbrev pub found_at : Rows → ℕ → Bytes → ListFound
found_at c t k = found_in (live_at c t k)

-- The deadline is above the moment, and both are within their limits.
pub record IsFoundList (t : ℕ) (found : ListFound) : Type 0 where
  pub lives : IsTrue (lives t found.deadline)
  pub deadline : IsTrue (is_deadline (expire_number found.deadline))
  pub list : IfOk found.list IsFoundWithin

-- the raw key of the item with an index
abbrev pub item_raw : Bytes → ListSight → ℕ → Bytes
item_raw k list index = row_key Elements k list.version (u64 index)

-- the item at a place, where it is one
abbrev pub item_at_place : Rows → Bytes → ListSight → Option ℕ → Option Bytes
item_at_place c k list None = None
item_at_place c k list (Some i) = get c (item_raw k list (list.head + i))

abbrev pub item_of : Rows → Bytes → ℤ → Option ListSight → Option Bytes
item_of c k at None = None
item_of c k at (Some list) = item_at_place c k list (place (list.tail - list.head) at)

-- the item at an end
abbrev pub item_at_end : Rows → Bytes → End → Option ListSight → Option Bytes
item_at_end c k end None = None
item_at_end c k end (Some list) = get c (item_raw k list (end_index end list))

-- an item of what was found, none where it was an error
abbrev pub item_found : (Option ListSight → Option Bytes) → Outcome (Option ListSight) → Option Bytes
item_found f (Ok found) = f found
item_found f (Err e) = None
