-- Which map is kept under events: the one that the batches of the calls that were answered come to.
use Rattle.std.specs.Prelude.{List, [], ◌∷◌}
use Rattle.batch_codec.specs.Batches.{after}
use Rattle.lives_model.specs.Rows.{Rows}
use Rattle.core_model.specs.Runs.{Event, Commit, Rerun, Play}

-- the map that is kept after an event, and after a list of them: the batches of those that are answered are carried out
abbrev pub kept_after : Event → Rows → Rows
kept_after (Commit w note) c = after c w.batch
kept_after (Rerun caller now ds view batch answer note) c = after c batch
kept_after (Play caller now ds batch answer note) c = after c batch
kept_after _ c = c

-- and after a list of them
abbrev pub kept_by : List Event → Rows → Rows
kept_by [] c = c
kept_by (e ∷ es) c = kept_by es (kept_after e c)
