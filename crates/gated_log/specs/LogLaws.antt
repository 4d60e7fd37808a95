-- What a log tells, and how that meets what the disk has of it.
use Rattle.std.proofs.Common.{◌≡◌, ℕ, List, Option, Some, None, IfSome}
use Rattle.kv_outside.specs.Disk.{Disk, Agrees, IsDurable}
use Rattle.kv_outside.specs.ToldLaws.{told_given, told_is, told_leads}
use Rattle.gated_log.specs.Gated.{records, EndsAt, IsShut, HasShutGate}
use Rattle.gated_log.specs.RecordLaws.{shut_here, shut_records}
use Rattle.gated_log.specs.States.{LogState, Tells, Rests}

-- the records that a log tells
pub tells_records : (log : LogState) (bodies : List (List ℕ)) → Tells log bodies → IfSome log.held (λ c. records c ≡ bodies)
tells_records log bodies tells = told_leads (IsShut log.end bodies) (λ c. records c ≡ bodies) (λ c shut. shut_records log.end bodies c shut) log.held tells

-- a log that was resumed tells the records that it has up to its end
pub resumed_tells : (log : LogState) (bodies : List (List ℕ)) → IfSome log.held (HasShutGate log.end) → IfSome log.held (EndsAt log.end bodies) → Tells log bodies
resumed_tells log bodies gate ends = by_held log.held gate ends
  where
    by_held : (held : Option (List ℕ)) → IfSome held (HasShutGate log.end) → IfSome held (EndsAt log.end bodies) → IfSome held (IsShut log.end bodies)
    by_held None gate ends = tt
    by_held (Some c) gate ends = shut_here log.end bodies c ends gate

-- where a crash leaves what a log tells, it leaves these records
pub durable_rests : (disk : Disk) (log : LogState) (bodies : List (List ℕ)) → Agrees disk log.name log.held → IsDurable disk log.name log.held → Tells log bodies → Rests disk log bodies
durable_rests disk log bodies agrees durable tells = record {
  agrees = agrees;
  images = record { each = λ c image. told_given (IsShut log.end bodies) log.held c (durable.only c image) tells };
}

-- where the disk tells the file, whose bytes are one of its images, a log that rests there tells the same records
pub rests_tells : (disk : Disk) (log : LogState) (bodies : List (List ℕ)) (bytes : List ℕ) → disk.reads log.name ≡ Some bytes → disk.images disk.moment log.name bytes → Rests disk log bodies → Tells log bodies
rests_tells disk log bodies bytes reads image rests =
    told_is (IsShut log.end bodies) log.held bytes (rests.agrees.told bytes reads) (rests.images.each bytes image)
