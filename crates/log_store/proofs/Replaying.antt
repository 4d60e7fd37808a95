-- How the records of a log are carried out, and what they come to.
use Rattle.std.proofs.Common.{◌≡◌, ℕ, ◌+◌, ◌-◌, ◌≤◌, ◌^◌, Bool, true, false, IsTrue, List, [], ◌∷◌, length, Option, Some, None, option_and_then, Result, Ok, Err, refl, sym, ◌∙◌, ap, subst, arith}
use Rattle.std.specs.Prelude.{if◌then◌else◌, ◌&&◌, ◌==◌, nat_le, nat_lt}
use Rattle.std.specs.Option.{option_map_or}
use Rattle.std.proofs.lemmas.Bool.Decides.{nat_tests}
use Rattle.kv_base.specs.InversionLaws.{both_first, both_second}
use Rattle.kv_base.specs.Map.{Bytes, empty}
use Rattle.kv_outside.specs.Disk.{Disk, CrashLeaves}
use Rattle.gated_log.specs.Gated.{records, EndsAt}
use Rattle.gated_log.specs.States.{LogState, Rests}
use Rattle.batch_codec.specs.Bodies.{read_body}
use Rattle.batch_codec.specs.BodyLaws.{only_body_is_read}
use Rattle.batch_codec.specs.declared.record.Record.{Record}
use Rattle.wal_log.specs.Reads.{IsFound, ReadsFile}
use Rattle.wal_log.specs.ReadLaws.{found_leaves}
use Rattle.wal_log.specs.Segments.{stamp_of, is_next_record, record_behind, with_first, records_from, records_of, last_behind, segment_of}
use Rattle.wal_log.specs.declared.segment.Found.{Found}
use Rattle.wal_log.specs.declared.segment.Stamp.{Stamp}
use Rattle.redis_model.specs.Desk.{last_sequence}
use Rattle.kv_base.specs.declared.row.Row.{Row}
use Rattle.row_model.specs.Replays.{do_rise, last_from, rise_above, rows_after}
use Rattle.row_model.specs.Rows.{are_upto, at}
use Rattle.log_store.specs.Recover.{Recovered, before_all, nothing, with_record, with_records, recovered_by}
use Rattle.log_store.specs.Keeping.{log_file, state_of, HoldsBodies, KeptState, IsOpened}

-- ---- record by record

rows_are : (rs : List Record) (before : Recovered) → rows_after before.rows rs ≡ (with_records before rs).rows
rows_are [] before = refl
rows_are (r ∷ rs) before = rows_are rs (with_record before r)

sequence_is : (rs : List Record) (before : Recovered) → last_from before.sequence rs ≡ (with_records before rs).sequence
sequence_is [] before = refl
sequence_is (r ∷ rs) before = sequence_is rs (with_record before r)

-- a table that shows the rows of all batches at the last sequence shows what the records come to
pub replayed_rows : (rs : List Record) (table : List Row) (sequence : ℕ) → sequence ≡ (with_records nothing rs).sequence → at table (last_from 0 rs) ≡ rows_after empty rs → at table sequence ≡ (with_records nothing rs).rows
replayed_rows rs table sequence is shows = ap (at table) (is ∙ sym (sequence_is rs nothing)) ∙ shows ∙ rows_are rs nothing

pub replayed_last : (rs : List Record) (table : List Row) (sequence : ℕ) → sequence ≡ (with_records nothing rs).sequence → IsTrue (are_upto (last_from 0 rs) table) → IsTrue (are_upto sequence table)
replayed_last rs table sequence is last = subst (λ (n : ℕ). IsTrue (are_upto n table)) (sequence_is rs nothing ∙ sym is) last

-- the sequence and the moment of the last record
abbrev pub stamp_in : Recovered → Stamp
stamp_in state = record { seq = state.sequence; moment = state.floor }

pub with_records-stamp : (before : Recovered) (rs : List Record) → last_behind (stamp_in before) rs ≡ stamp_in (with_records before rs)
with_records-stamp before [] = refl
with_records-stamp before (r ∷ rs) = with_records-stamp (with_record before r) rs

-- ---- the limits and the order of records that were read

pub record IsWithin (state : Recovered) : Type 0 where
  pub sequence : state.sequence ≤ last_sequence
  pub floor : state.floor ≤ 2 ^ 61

-- a record that was read: it may stand behind the last one, and it is within the limits
record IsReadBehind (last : Stamp) (body : Bytes) (r : Record) : Type 0 where
  pub next : is_next_record last r ≡ true
  pub is : read_body body ≡ Some r

read_behind : (last : Stamp) (body : Bytes) (r : Record) → record_behind last body ≡ Some r → IsReadBehind last body r
unfolding record_behind
read_behind last body r is = by_read (read_body body) refl is
  where
    by_test : (b : Bool) (n : Record) → is_next_record last n ≡ b → read_body body ≡ Some n → (if b then Some n else None) ≡ Some r → IsReadBehind last body r
    by_test true n test was e = record { next = ap (is_next_record last) (same n e) ∙ test; is = was ∙ e }
      where
        same : (n : Record) → Some n ≡ Some r → r ≡ n
        same n e = cc
    by_test false n test was e = absurd (cc)

    by_read : (o : Option Record) → read_body body ≡ o → option_and_then (λ next. if is_next_record last next then Some next else None) o ≡ Some r → IsReadBehind last body r
    by_read None is e = absurd (cc)
    by_read (Some n) is e = by_test (is_next_record last n) n refl is e

at_most : (low high n : ℕ) → IsTrue (nat_le low n && nat_le n high) → n ≤ high
at_most low high n e = grind (arith, nat_tests)

at_least : (low high n : ℕ) → IsTrue (nat_le low n && nat_le n high) → low ≤ n
at_least low high n e = grind (arith, nat_tests)

below : (high n : ℕ) → IsTrue (nat_le n high) → n ≤ high
below high n e = grind (arith, nat_tests)

-- the record is within the limits, and its sequence above that of the one before it
record IsInOrder (last : Stamp) (r : Record) : Type 0 where
  pub within : (before : Recovered) → IsWithin (with_record before r)
  pub rises : nat_lt last.seq r.seq ≡ true

in_order : (last : Stamp) (body : Bytes) (r : Record) → record_behind last body ≡ Some r → IsInOrder last r
in_order last body r is =
    let read = read_behind last body r is in
    let writable = (only_body_is_read body r read.is).writable in
    record {
      within = λ before. record { sequence = at_most 1 last_sequence r.seq writable.seq_is; floor = below (2 ^ 61) r.moment writable.moment_is };
      rises = rises last read.next;
    }
  where
    rises : (last : Stamp) → is_next_record last r ≡ true → nat_lt last.seq r.seq ≡ true
    rises l next =
        let step = both_first (r.seq == l.seq + 1) (nat_le l.moment r.moment) next in
        grind (arith, nat_tests)

-- records that were read behind a last one
record AreInOrder (last : Stamp) (rs : List Record) : Type 0 where
  pub within : (before : Recovered) → IsWithin before → IsWithin (with_records before rs)
  pub rise : rise_above last.seq rs ≡ true

none_in_order : (last : Stamp) → AreInOrder last []
none_in_order last = record { within = λ before low. low; rise = refl }

one_more : (last : Stamp) (r : Record) (rs : List Record) → IsInOrder last r → AreInOrder (stamp_of r) rs → AreInOrder last (r ∷ rs)
one_more last r rs first behind = record {
  within = λ before low. behind.within (with_record before r) (first.within before);
  rise = ap (λ b. b && rise_above r.seq rs) first.rises ∙ behind.rise;
}

-- whatever record is read before these bodies, theirs are in order
abbrev OrderedBehind : ℕ → List Bytes → Type 0
OrderedBehind place bodies = (r : Record) (behind : List Record) → records_from place (stamp_of r) bodies ≡ Ok behind → AreInOrder (stamp_of r) behind

all_in_order : (place : ℕ) (last : Stamp) (bodies : List Bytes) (rs : List Record) → records_from place last bodies ≡ Ok rs → AreInOrder last rs
unfolding records_from
all_in_order place last [] rs read = subst (λ (xs : List Record). AreInOrder last xs) (value_of (records_from place last []) refl read) (none_in_order last)
  where
    value_of : (o : Result (List Record) ℕ) → o ≡ Ok [] → o ≡ Ok rs → [] ≡ rs
    value_of o none some = cc
all_in_order place last (body ∷ bodies) rs read = by_record (λ r behind rest. all_in_order (place + 5 + length body) (stamp_of r) bodies behind rest) (record_behind last body) refl read
  where
    by_rest : OrderedBehind (place + 5 + length body) bodies → (r : Record) (more : Result (List Record) ℕ) → record_behind last body ≡ Some r → records_from (place + 5 + length body) (stamp_of r) bodies ≡ more → with_first r more ≡ Ok rs → AreInOrder last rs
    by_rest ordered r (Ok behind) is rest whole =
        let same : r ∷ behind ≡ rs = cc in
        subst (λ (xs : List Record). AreInOrder last xs) same (one_more last r behind (in_order last body r is) (ordered r behind rest))
    by_rest ordered r (Err p) is rest whole = absurd (cc)

    by_record : OrderedBehind (place + 5 + length body) bodies → (o : Option Record) → record_behind last body ≡ o → option_map_or (λ r. with_first r (records_from (place + 5 + length body) (stamp_of r) bodies)) o (Err place) ≡ Ok rs → AreInOrder last rs
    by_record ordered None is whole = absurd (cc)
    by_record ordered (Some r) is whole = by_rest ordered r (records_from (place + 5 + length body) (stamp_of r) bodies) is refl whole

segment_in_order : (before : Stamp) (bytes : Bytes) (rs : List Record) → segment_of before bytes ≡ Ok rs → AreInOrder before rs
unfolding segment_of records_of
segment_in_order before bytes rs read = all_in_order 0 before (records bytes) rs read

-- ---- the log

bodies_are_read : (bytes : Bytes) (rs : List Record) → segment_of before_all bytes ≡ Ok rs → records_of before_all (records bytes) ≡ Ok rs
unfolding segment_of
bodies_are_read bytes rs read = read

-- the stamp that was found is what the records come to
found_last : (old middle : Disk) (found : Found) (rs : List Record) → ReadsFile log_file old middle (IsFound before_all found) → rs ≡ found.records → found.last ≡ stamp_in (with_records nothing rs)
found_last old middle found rs read same = read.are.last ∙ ap (last_behind before_all) (sym same) ∙ with_records-stamp nothing rs

pub found_sequence : (old middle : Disk) (found : Found) (rs : List Record) → ReadsFile log_file old middle (IsFound before_all found) → rs ≡ found.records → found.last.seq ≡ (with_records nothing rs).sequence
found_sequence old middle found rs read same = ap (λ (s : Stamp). s.seq) (found_last old middle found rs read same)

pub found_floor : (old middle : Disk) (found : Found) (rs : List Record) → ReadsFile log_file old middle (IsFound before_all found) → rs ≡ found.records → found.last.moment ≡ (with_records nothing rs).floor
found_floor old middle found rs read same = ap (λ (s : Stamp). s.moment) (found_last old middle found rs read same)

-- the records of the log rise
pub found_rises : (old middle : Disk) (found : Found) (rs : List Record) → ReadsFile log_file old middle (IsFound before_all found) → rs ≡ found.records → IsTrue (do_rise rs)
found_rises old middle found rs read same = behind rs (segment_in_order before_all read.bytes rs (read.are.records ∙ ap (λ (xs : List Record). Ok xs) (sym same))).rise
  where
    behind : (rs : List Record) → rise_above 0 rs ≡ true → IsTrue (do_rise rs)
    behind [] rise = refl
    behind (r ∷ rs) rise = both_second (nat_lt 0 r.seq) (rise_above r.seq rs) rise

pub is_opened : (old middle new : Disk) (found : Found) (rs : List Record) (store : KeptState) → ReadsFile log_file old middle (IsFound before_all found) → rs ≡ found.records
    → store.rows ≡ (with_records nothing rs).rows → store.floor ≡ found.last.moment → store.written ≡ found.last.moment → store.sequence ≡ found.last.seq
    → store.log.name ≡ log_file → store.log.unsure ≡ false
    → ((bodies : List Bytes) → CrashLeaves middle log_file (EndsAt found.end bodies) → Rests new store.log bodies)
    → IsOpened old new store
is_opened old middle new found rs store read same rows floor written last name sure rests =
    let segment : segment_of before_all read.bytes ≡ Ok rs = read.are.records ∙ ap (λ (xs : List Record). Ok xs) (sym same) in
    let written_is = written ∙ found_floor old middle found rs read same in
    let last_is = last ∙ found_sequence old middle found rs read same in
    let is : state_of store ≡ with_records nothing rs = λ i. record { rows = rows i; floor = written_is i; sequence = last_is i } in
    let log = rests (records read.bytes) (found_leaves before_all log_file old middle found read) in
    record {
      start = record { bytes = read.bytes; told = read.told; is = ap recovered_by segment ∙ ap (λ (r : Recovered). Ok r) (sym is) };
      floor = floor ∙ sym written;
      keeps = record {
        bodies = records read.bytes;
        records = rs;
        name = name;
        read = bodies_are_read read.bytes rs segment;
        made = sym is;
        holds = subst (λ (b : Bool). HoldsBodies b new store.log (records read.bytes) (state_of store) []) (sym sure) log;
      };
    }

-- what was opened is within the limits of a store
pub opened_within : (old middle : Disk) (found : Found) (rs : List Record) → ReadsFile log_file old middle (IsFound before_all found) → rs ≡ found.records → (found.last.seq ≤ last_sequence) × (found.last.moment ≤ 2 ^ 61)
opened_within old middle found rs read same =
    let ordered = segment_in_order before_all read.bytes rs (read.are.records ∙ ap (λ (xs : List Record). Ok xs) (sym same)) in
    let limits = ordered.within nothing (record { sequence = omega arith; floor = omega arith }) in
    (subst (λ (n : ℕ). n ≤ last_sequence) (sym (found_sequence old middle found rs read same)) limits.sequence, subst (λ (n : ℕ). n ≤ 2 ^ 61) (sym (found_floor old middle found rs read same)) limits.floor)
