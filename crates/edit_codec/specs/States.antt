-- What a manifest says of a store, and what an edit makes of it.
use Rattle.std.specs.Prelude.{ℕ, ◌-◌, ◌^◌, nat_le, Bool, if◌then◌else◌, ◌&&◌, List, [], Option, None, option_map}
use Rattle.std.specs.List.{list_all}
use Rattle.level_set.specs.Edits.{tables_after}
use Rattle.level_set.specs.Tables.{is_table, are_tables, are_runs_below}
use Rattle.level_set.specs.declared.edit.Edit.{Edit}
use Rattle.level_set.specs.declared.home.Home.{Home}
use Rattle.edit_codec.specs.declared.state.State.{State}

-- ---- the limits

abbrev pub last_epoch : ℕ
last_epoch = 2 ^ 62

abbrev pub are_numbers : ℕ → ℕ → ℕ → ℕ → Bool
are_numbers log last floor next_run = nat_le 1 log && nat_le log (2 ^ 62 - 1) && nat_le last (2 ^ 42 - 2) && nat_le floor (2 ^ 61) && nat_le 1 next_run && nat_le next_run (2 ^ 62)

abbrev pub is_edit : Edit → Bool
is_edit edit = are_numbers edit.log edit.last edit.floor edit.next_run && list_all is_table edit.added

-- the epoch is from 1 on, and the tables may stand together and are of runs before the next one
abbrev pub is_state_head : State → Bool
is_state_head state =
    nat_le 1 state.epoch && nat_le state.epoch last_epoch && are_numbers state.log state.last state.floor state.next_run
    && are_tables state.levels && are_runs_below state.next_run state.levels

-- ---- states

-- what a store without a manifest has
abbrev pub new_state : State
new_state = record { epoch = 0; log = 1; last = 0; floor = 0; next_run = 1; levels = [] }

-- the numbers of the edit, and these tables
abbrev pub state_with_edit : State → Edit → List Home → State
state_with_edit state edit tables = record { epoch = state.epoch; log = edit.log; last = edit.last; floor = edit.floor; next_run = edit.next_run; levels = tables }

-- the state after an edit; none where its floor is below, or its tables are off the rules
unfoldable pub state_after : State → Edit → Option State
state_after state edit = if nat_le state.floor edit.floor then option_map (state_with_edit state edit) (tables_after state.levels edit) else None

-- the same in this epoch
abbrev pub with_epoch : ℕ → State → State
with_epoch epoch state = record { epoch = epoch; log = state.log; last = state.last; floor = state.floor; next_run = state.next_run; levels = state.levels }
