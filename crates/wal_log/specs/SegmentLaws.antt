-- How the reading of a segment grows with its records.
use Rattle.std.proofs.Common.{◌≡◌, ℕ, ◌+◌, ◌<◌, ◌^◌, true, List, [], ◌∷◌, ◌++◌, length, Option, Some, None, option_and_then, Result, Ok, Err, refl, sym, ◌∙◌, ap, arith, length-append}
use Rattle.std.specs.Prelude.{if◌then◌else◌}
use Rattle.std.specs.Option.{option_map_or}
use Rattle.kv_base.specs.Map.{Bytes}
use Rattle.kv_base.specs.Fields.{text}
use Rattle.kv_base.specs.FieldLaws.{length-text}
use Rattle.gated_log.specs.Gated.{records, gated, EndsAt}
use Rattle.gated_log.specs.RecordLaws.{ends_records}
use Rattle.batch_codec.specs.Batches.{Batch}
use Rattle.batch_codec.specs.Bodies.{body_of, read_body}
use Rattle.batch_codec.specs.BodyLaws.{IsWritable, body_is_read}
use Rattle.batch_codec.specs.declared.record.Record.{Record}
use Rattle.wal_log.specs.Segments.{stamp_of, is_next_record, record_behind, with_first, records_from, records_of, last_behind, segment_of, end_of}
use Rattle.wal_log.specs.declared.segment.Stamp.{Stamp}

-- records before what stands behind them, which may be damage
abbrev pub with_records_before : List Record → Result (List Record) ℕ → Result (List Record) ℕ
with_records_before front (Ok behind) = Ok (front ++ behind)
with_records_before front (Err place) = Err place

-- ---- the records of bodies depend on the bodies alone

pub same_reading : (before : Stamp) (a b : Bytes) → records a ≡ records b → segment_of before a ≡ segment_of before b
unfolding segment_of
same_reading before a b same = ap (records_of before) same

pub segment_of-records : (before : Stamp) (bytes : Bytes) (bodies : List Bytes) → records bytes ≡ bodies → segment_of before bytes ≡ records_of before bodies
unfolding segment_of
segment_of-records before bytes bodies is = ap (records_of before) is

pub end_of-ends : (end : ℕ) (bodies : List Bytes) (bytes : Bytes) → EndsAt end bodies bytes → end ≡ end_of bytes
unfolding end_of
end_of-ends end bodies bytes ends = ends.at.place ∙ ap (λ (bs : List Bytes). length (gated bs)) (sym (ends_records end bodies bytes ends))

-- ---- more bodies behind those that were read

-- a body that was read, and what is read behind it
record IsFirst (place : ℕ) (last : Stamp) (body : Bytes) (bodies : List Bytes) (rs : List Record) : Type 0 where
  pub first : Record
  pub behind : List Record
  pub is : record_behind last body ≡ Some first
  pub rest : records_from (place + 5 + length body) (stamp_of first) bodies ≡ Ok behind
  pub all : rs ≡ first ∷ behind

same_ok : (a b : List Record) (read : Result (List Record) ℕ) → read ≡ Ok a → read ≡ Ok b → a ≡ b
same_ok a b read first second = ap value (sym first ∙ second)
  where
    value : Result (List Record) ℕ → List Record
    value (Ok x) = x
    value (Err e) = a

first_of_records : (place : ℕ) (last : Stamp) (body : Bytes) (bodies : List Bytes) (rs : List Record) → records_from place last (body ∷ bodies) ≡ Ok rs → IsFirst place last body bodies rs
unfolding records_from
first_of_records place last body bodies rs read = by_record (record_behind last body) refl read
  where
    by_rest : (r : Record) (more : Result (List Record) ℕ) → record_behind last body ≡ Some r → records_from (place + 5 + length body) (stamp_of r) bodies ≡ more → with_first r more ≡ Ok rs → IsFirst place last body bodies rs
    by_rest r (Ok behind) is rest whole = record { first = r; behind = behind; is = is; rest = rest; all = sym (same_ok (r ∷ behind) rs (with_first r (Ok behind)) refl whole) }
    by_rest r (Err p) is rest whole = absurd (cc)

    by_record : (o : Option Record) → record_behind last body ≡ o → option_map_or (λ r. with_first r (records_from (place + 5 + length body) (stamp_of r) bodies)) o (Err place) ≡ Ok rs → IsFirst place last body bodies rs
    by_record None is whole = absurd (cc)
    by_record (Some r) is whole = by_rest r (records_from (place + 5 + length body) (stamp_of r) bodies) is refl whole

front_first : (r : Record) (rs : List Record) (more : Result (List Record) ℕ) → with_first r (with_records_before rs more) ≡ with_records_before (r ∷ rs) more
front_first r rs (Ok more) = refl
front_first r rs (Err place) = refl

-- what stands behind bodies that were read
pub records_from-append : (place : ℕ) (last : Stamp) (bodies more : List Bytes) (rs : List Record) → records_from place last bodies ≡ Ok rs
    → records_from place last (bodies ++ more) ≡ with_records_before rs (records_from (place + length (gated bodies)) (last_behind last rs) more)
unfolding records_from gated
records_from-append place last [] more rs read =
    let none : [] ≡ rs = same_ok [] rs (records_from place last []) refl read in
    nothing (records_from place last more)
    ∙ (λ i. with_records_before (none i) (records_from (here i) (last_behind last (none i)) more))
  where
    here : place ≡ place + 0
    here = omega arith

    nothing : (o : Result (List Record) ℕ) → o ≡ with_records_before [] o
    nothing (Ok rs) = refl
    nothing (Err p) = refl
records_from-append place last (body ∷ bodies) more rs read =
    let one = first_of_records place last body bodies rs read in
    let r = one.first in
    let there : place + 5 + length body + length (gated bodies) ≡ place + length (gated (body ∷ bodies)) = omega (arith, length-append (text body) (gated bodies), length-text body) in
    ap (λ o. option_map_or (λ r. with_first r (records_from (place + 5 + length body) (stamp_of r) (bodies ++ more))) o (Err place)) one.is
    ∙ ap (with_first r) (records_from-append (place + 5 + length body) (stamp_of r) bodies more one.behind one.rest)
    ∙ front_first r one.behind _
    ∙ (λ i. with_records_before (sym one.all i) (records_from (there i) (last_behind last (sym one.all i)) more))

-- one body more, read as a record that may stand behind the last one
pub records_of-push : (before : Stamp) (bodies : List Bytes) (body : Bytes) (rs : List Record) (r : Record) → records_of before bodies ≡ Ok rs → record_behind (last_behind before rs) body ≡ Some r → records_of before (bodies ++ body ∷ []) ≡ Ok (rs ++ r ∷ [])
unfolding records_of records_from
records_of-push before bodies body rs r read more =
    records_from-append 0 before bodies (body ∷ []) rs read
    ∙ ap (λ o. with_records_before rs (option_map_or (λ r. with_first r (Ok [])) o (Err (0 + length (gated bodies))))) more

pub segment_of-push : (before : Stamp) (old new body : Bytes) (rs : List Record) (r : Record) → segment_of before old ≡ Ok rs → records new ≡ records old ++ body ∷ [] → record_behind (last_behind before rs) body ≡ Some r → segment_of before new ≡ Ok (rs ++ r ∷ [])
unfolding segment_of
segment_of-push before old new body rs r read added more = ap (records_of before) added ∙ records_of-push before (records old) body rs r read more

-- the body of a record that may stand behind the last one
pub record_behind-read : (last : Stamp) (body : Bytes) (r : Record) → read_body body ≡ Some r → is_next_record last r ≡ true → record_behind last body ≡ Some r
unfolding record_behind
record_behind-read last body r read next =
    ap (λ o. option_and_then (λ n. if is_next_record last n then Some n else None) o) read ∙ ap (λ b. if b then Some r else None) next

pub record_behind-written : (last : Stamp) (seq moment : ℕ) (batch : Batch) → IsWritable seq moment batch → length (body_of seq moment batch) < 2 ^ 32
    → is_next_record last (record { seq = seq; moment = moment; batch = batch }) ≡ true → record_behind last (body_of seq moment batch) ≡ Some (record { seq = seq; moment = moment; batch = batch })
record_behind-written last seq moment batch writable fits next = record_behind-read last (body_of seq moment batch) _ (body_is_read seq moment batch writable fits) next

-- one that is damage: its place is behind those before it
pub records_of-damage : (before : Stamp) (bodies more : List Bytes) (body : Bytes) (rs : List Record) → records_of before bodies ≡ Ok rs → record_behind (last_behind before rs) body ≡ None → records_of before (bodies ++ body ∷ more) ≡ Err (length (gated bodies))
unfolding records_of records_from
records_of-damage before bodies more body rs read damage =
    records_from-append 0 before bodies (body ∷ more) rs read
    ∙ ap (λ o. with_records_before rs (option_map_or (λ r. with_first r (records_from (0 + length (gated bodies) + 5 + length body) (stamp_of r) more)) o (Err (0 + length (gated bodies))))) damage
    ∙ ap (λ (p : ℕ). Err p) (omega arith)

-- one record more is the last one
pub last_behind-push : (before : Stamp) (rs : List Record) (r : Record) → last_behind before (rs ++ r ∷ []) ≡ stamp_of r
last_behind-push before [] r = refl
last_behind-push before (s ∷ rs) r = last_behind-push (stamp_of s) rs r
