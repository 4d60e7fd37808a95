-- How a segment is read, record by record.
use Rattle.std.proofs.Common.{◌≡◌, ℕ, ◌≤◌, List, [], ◌∷◌, ◌++◌, length, drop, Option, Some, None, Ok, Err, sym, ◌∙◌, ap, subst, arith}
use Rattle.kv_base.specs.Map.{Bytes}
use Rattle.gated_log.specs.Gated.{records, EndsAt}
use Rattle.gated_log.specs.RecordLaws.{records-gated, ends_records}
use Rattle.gated_log.specs.Walk.{IsPassed, StandsAt}
use Rattle.gated_log.specs.WalkLaws.{walk_begins, walk_goes_on, walk_ends}
use Rattle.batch_codec.specs.declared.record.Record.{Record}
use Rattle.wal_log.specs.Segments.{stamp_of, record_behind, records_from, records_of, last_behind, segment_of}
use Rattle.wal_log.specs.SegmentLaws.{segment_of-records, records_of-push, records_of-damage, last_behind-push}
use Rattle.wal_log.specs.declared.segment.Stamp.{Stamp}

-- these records were read before this place, and the last of them has this stamp
pub record IsRead (before : Stamp) (place : ℕ) (last : Stamp) (rs : List Record) (bytes : Bytes) : Type 0 where
  pub within : place ≤ length bytes
  pub bodies : List Bytes
  pub passed : IsPassed place bodies bytes
  pub read : records_of before bodies ≡ Ok rs
  pub last_is : last ≡ last_behind before rs

pub begins : (before : Stamp) (rs : List Record) (bytes : Bytes) → rs ≡ [] → IsRead before 0 before rs bytes
unfolding records_of records_from
begins before rs bytes none = record {
  within = omega arith;
  bodies = [];
  passed = walk_begins bytes;
  read = ap (λ (xs : List Record). Ok xs) (sym none);
  last_is = ap (last_behind before) (sym none);
}

-- what was decoded of a body is what stands behind the last record
read_last : (before : Stamp) (place : ℕ) (last : Stamp) (rs : List Record) (body bytes : Bytes) (found : Option Record) → IsRead before place last rs bytes → found ≡ record_behind last body → record_behind (last_behind before rs) body ≡ found
read_last before place last rs body bytes found was read = ap (λ (s : Stamp). record_behind s body) (sym was.last_is) ∙ sym read

pub goes_on : (before : Stamp) (place next : ℕ) (last : Stamp) (rs more : List Record) (r : Record) (body bytes : Bytes) → IsRead before place last rs bytes → StandsAt place next body bytes → next ≤ length bytes
    → Some r ≡ record_behind last body → more ≡ rs ++ r ∷ [] → IsRead before next (stamp_of r) more bytes
goes_on before place next last rs more r body bytes was stands within read pushed = record {
  within = within;
  bodies = was.bodies ++ body ∷ [];
  passed = walk_goes_on place next was.bodies body bytes was.passed stands;
  read = records_of-push before was.bodies body rs r was.read (read_last before place last rs body bytes (Some r) was read) ∙ ap (λ (xs : List Record). Ok xs) (sym pushed);
  last_is = sym (last_behind-push before rs r) ∙ ap (last_behind before) (sym pushed);
}

pub damaged : (before : Stamp) (place : ℕ) (last : Stamp) (rs : List Record) (body bytes : Bytes) (more : List Bytes) → IsRead before place last rs bytes → records (drop place bytes) ≡ body ∷ more
    → None ≡ record_behind last body → segment_of before bytes ≡ Err place
damaged before place last rs body bytes more was here damage =
    segment_of-records before bytes (was.bodies ++ body ∷ more) (ap records was.passed.is ∙ records-gated was.bodies (drop place bytes) was.passed.at.fits ∙ ap (λ (bs : List Bytes). was.bodies ++ bs) here)
    ∙ records_of-damage before was.bodies more body rs was.read (read_last before place last rs body bytes None was damage)
    ∙ ap (λ (p : ℕ). Err p) (sym was.passed.at.place)

pub record IsDone (before : Stamp) (place : ℕ) (rs : List Record) (bytes : Bytes) : Type 0 where
  pub ends : EndsAt place (records bytes) bytes
  pub read : segment_of before bytes ≡ Ok rs

pub ended : (before : Stamp) (place : ℕ) (last : Stamp) (rs : List Record) (bytes : Bytes) → IsRead before place last rs bytes → records (drop place bytes) ≡ [] → IsDone before place rs bytes
ended before place last rs bytes was none =
    let ends = walk_ends place was.bodies bytes was.passed none in
    let all = ends_records place was.bodies bytes ends in
    record {
      ends = subst (λ (bs : List Bytes). EndsAt place bs bytes) (sym all) ends;
      read = segment_of-records before bytes was.bodies all ∙ was.read;
    }
