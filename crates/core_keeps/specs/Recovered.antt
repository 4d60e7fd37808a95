-- What a recovery may find: the newest rows, or those with an edit that was tried, and maybe behind a batch that was tried. Each counts
-- as the map that the core keeps, or as that map behind the batch.
use Rattle.std.specs.Prelude.{◌≡◌, ℕ, ◌≤◌, List, Option, Some, None, IfSome}
use Rattle.batch_codec.specs.Batches.{after}
use Rattle.row_model.specs.Rows.{at}
use Rattle.redis_model.specs.declared.history.Place.{Place}
use Rattle.redis_model.specs.Places.{Opening}
use Rattle.lives_model.specs.Rows.{Rows}
use Rattle.core_model.specs.Core.{Attempt, TriedEdit, CoreState, newest_rows}
use Rattle.core_keeps.specs.Keeps.{written_at, edited}

-- the rows of the tables and the log, with the edit or without it
abbrev pub rows_with : CoreState → Option TriedEdit → Rows
rows_with core None = newest_rows core
rows_with core (Some e) = at (edited core e) core.last

-- rows behind the batch, or as they are
abbrev pub after_attempt : Option Attempt → Rows → Rows
after_attempt None c = c
after_attempt (Some a) c = after c a.batch

-- Rows and a floor that a recovery may find, and the map that they count as: the floor is from the manifest's on and not before the
-- last batch, nor before what was tried and is there.
pub record IsRecoveredCore (opening : Opening) (core : CoreState) (seen : List Place) (c rows kept : Rows) (floor : ℕ) : Type 0 where
  pub edit : Option TriedEdit
  pub edit_is : IfSome edit (λ e. (core.tried ≡ Some e) × (e.floor ≤ floor))
  pub attempt : Option Attempt
  pub attempt_is : IfSome attempt (λ a. (core.attempt ≡ Some a) × (a.moment ≤ floor))
  pub from : core.manifest_floor ≤ floor
  pub late : written_at opening seen ≤ floor
  pub rows_are : rows ≡ after_attempt attempt (rows_with core edit)
  pub kept_is : kept ≡ after_attempt attempt c
