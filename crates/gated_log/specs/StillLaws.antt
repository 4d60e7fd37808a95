-- What stays as it was for a log while other files change, or none does.
use Rattle.std.proofs.Common.{◌≡◌, ◌≢◌, List, ℕ, Option, refl}
use Rattle.kv_base.specs.declared.name.FileName.{FileName}
use Rattle.kv_outside.specs.Disk.{Disk, NothingNew, Touches, CrashLeaves}
use Rattle.kv_outside.specs.RunLaws.{run_nothing, at_end, agrees_still, others_leave, others_agree}
use Rattle.gated_log.specs.Gated.{records, HasRecordsOrOneMore}
use Rattle.gated_log.specs.RecordLaws.{shut_records, tried_records}
use Rattle.gated_log.specs.States.{LogState, Shows, Rests, Wavers}

-- a run on another file
pub others_show : (at name : FileName) (old new : Disk) (P Q : List ℕ → Type 0) (held : Option (List ℕ)) → name ≢ at → Touches at old new P → Shows old name held Q → Shows new name held Q
others_show at name old new P Q held other run shows = record {
  agrees = others_agree at name old new P held other run shows.agrees;
  images = others_leave at name old new Q P other run shows.images;
}

-- a call that changes no file
pub shows_after : (name : FileName) (old new : Disk) (Q : List ℕ → Type 0) (held : Option (List ℕ)) → NothingNew old new → Shows old name held Q → Shows new name held Q
shows_after name old new Q held call shows = record {
  agrees = agrees_still name old new held held (call.reads name) refl shows.agrees;
  images = at_end name old new Q (run_nothing name old new Q call shows.images);
}

-- the records that a crash now leaves
pub rests_records : (disk : Disk) (log : LogState) (bodies : List (List ℕ)) → Rests disk log bodies → CrashLeaves disk log.name (λ c. records c ≡ bodies)
rests_records disk log bodies rests = record { each = λ c image. shut_records log.end bodies c (rests.images.each c image) }

pub wavers_records : (disk : Disk) (log : LogState) (bodies : List (List ℕ)) (body : List ℕ) → Wavers disk log bodies body → CrashLeaves disk log.name (HasRecordsOrOneMore bodies body)
wavers_records disk log bodies body wavers = record { each = λ c image. tried_records log.end bodies body c (wavers.images.each c image) }
