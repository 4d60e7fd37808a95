-- What holds of an open compaction, so that what it leaves can stand in the place of its inputs when it ends.
use Rattle.std.specs.Prelude.{◌≡◌, ◌≤◌, List, map, IfSome}
use Rattle.kv_base.specs.declared.row.Row.{Row}
use Rattle.redis_model.specs.declared.history.Place.{Place}
use Rattle.redis_model.specs.Places.{Opening}
use Rattle.filter_laws.specs.Kept.{kept_rows}
use Rattle.filter_laws.specs.Filtered.{Filtering, StaysDead}
use Rattle.core_model.specs.Sources.{rows_in, together, all_rows, in_levels}
use Rattle.core_model.specs.Core.{Compaction, CoreState, inputs_of, current, watcher_of}
use Rattle.core_model.specs.Stands.{Stands}

-- its inputs in order, and the rows that lie deeper than its outputs
abbrev pub inputs_in_order : Compaction → List Row
inputs_in_order job = together (inputs_of job.choice)

-- the rows of deeper levels
abbrev pub deeper_rows : Compaction → List Row
deeper_rows job = all_rows (in_levels job.choice.deeper)

-- the compaction as its filter sees it
abbrev pub filtering_of : Compaction → Filtering
filtering_of job = record { watch = job.watch; now = current job.watch; inputs = inputs_in_order job; all = job.all }

-- It is to leave what the four rules say, and the lives whose rows they take away stay dead, for each pin and in the newest
-- rows.
pub record IsFiltered (core : CoreState) (job : Compaction) : Type 0 where
  pub rows : job.rows ≡ kept_rows job.watch (inputs_in_order job) (deeper_rows job) job.all
  pub past : (current job.watch).moment ≤ core.floor
  pub dead : StaysDead (rows_in core.sources) core.last (map watcher_of core.pins) (filtering_of job)

-- the whole relation
pub record StandsFiltered (opening : Opening) (core : CoreState) (seen : List Place) : Type 0 where
  pub stands : Stands opening core seen
  pub filtered : IfSome core.compact (IsFiltered core)
