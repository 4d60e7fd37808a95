-- What a caller knows of the jobs that it began, by its own marks.
use Rattle.std.specs.Prelude.{ℕ, ◌==◌, if◌then◌else◌, List, [], ◌∷◌, Option, Some, None}
use Rattle.redis_model.specs.declared.history.Step.{Step}
use Rattle.redis_model.specs.declared.history.Step.TheVariants.{Job}
use Rattle.redis_model.specs.declared.history.JobKind.TheVariants as kind
use Rattle.redis_model.specs.declared.history.JobMark.{JobMark}
use Rattle.redis_model.specs.declared.history.JobMark.TheVariants.{Begun, Done, Dropped, Idle, Met}
use Rattle.redis_model.specs.declared.history.Note.{Note}
use Rattle.redis_model.specs.declared.history.Place.{Place}
use Rattle.core_model.specs.Places.{OpenJob}

-- an open job with this caller and note
abbrev pub begun_job : ℕ → Note → OpenJob
begun_job caller note = record { caller = caller; note = note }

-- the note of the last mark, where that is of a beginning; meeting another job is passed over
abbrev pub begun_after : Option Note → JobMark → Note → Option Note
begun_after b Begun note = Some note
begun_after b Done note = None
begun_after b Dropped note = None
begun_after b Idle note = None
begun_after b Met note = b

-- The note of a caller's flush that began, if its last mark but those of meeting another job is that.
abbrev pub begun_flush_after : ℕ → Option Note → Step → Note → Option Note
begun_flush_after caller b (Job other kind.Flush sign) note = if other == caller then begun_after b sign note else b
begun_flush_after caller b _ note = b

-- the same after a list of places
abbrev pub begun_flush : ℕ → Option Note → List Place → Option Note
begun_flush caller b [] = b
begun_flush caller b (p ∷ ps) = begun_flush caller (begun_flush_after caller b p.what p.note) ps

-- The note of a caller's compaction that began, if its last mark but those of meeting another job is that.
abbrev pub begun_compact_after : ℕ → Option Note → Step → Note → Option Note
begun_compact_after caller b (Job other kind.Compact sign) note = if other == caller then begun_after b sign note else b
begun_compact_after caller b _ note = b

-- the same after a list of places
abbrev pub begun_compact : ℕ → Option Note → List Place → Option Note
begun_compact caller b [] = b
begun_compact caller b (p ∷ ps) = begun_compact caller (begun_compact_after caller b p.what p.note) ps
