-- Nothing that was recovered is above the last sequence, and no batch is later than the floor.
use Rattle.std.proofs.Common.{◌≡◌, ℕ, ◌+◌, ◌≤◌, Bool, true, false, cond, not, List, [], ◌∷◌, ◌++◌, length, Option, Some, None, Result, Ok, Err, refl, ◌∙◌, subst, arith}
use Rattle.std.specs.Prelude.{◌&&◌, ◌||◌, ◌==◌, nat_le, if◌then◌else◌, map, find, flat_map}
use Rattle.std.specs.List.{list_any}
use Rattle.std.specs.Option.{option_map_or}
use Rattle.std.proofs.lemmas.Bool.Decides.{nat_tests}
use Rattle.std.proofs.lemmas.List.Folds.{list_all-append}
use Rattle.kv_base.specs.Map.{Bytes}
use Rattle.kv_base.specs.InversionLaws.{and_then_is, both_first, both_second, if_is, number_is, same_some}
use Rattle.kv_base.specs.declared.name.FileName.{FileName}
use Rattle.kv_base.specs.declared.row.Row.{Row}
use Rattle.gated_log.specs.Gated.{records}
use Rattle.batch_codec.specs.Batches.{BatchEntry}
use Rattle.batch_codec.specs.Bodies.{read_body}
use Rattle.batch_codec.specs.declared.record.Record.{Record}
use Rattle.row_model.specs.Replays.{record_rows}
use Rattle.row_model.specs.RowOrderLaws.{upto_on}
use Rattle.row_model.specs.Rows.{are_upto, batch_rows, entry_row}
use Rattle.wal_log.specs.Segments.{is_next_record, last_behind, record_behind, records_from, records_of, segment_of, stamp_of, with_first}
use Rattle.wal_log.specs.declared.segment.Stamp.{Stamp}
use Rattle.recovery.specs.Bounds.{HasBounds, are_by}
use Rattle.recovery.specs.Logs.{batches_in, before_log}
use Rattle.recovery.specs.Recover.{Recovery, recover, recovered_floor, recovered_last}
use Rattle.recovery.specs.RecoverLaws.{files_are}
use Rattle.recovery.specs.Tables.{OpenedTable, is_out_of_turn, is_outdone_by}

-- ---- records that go on

-- each goes on from the one before it, the first from this stamp
abbrev DoGoOn : Stamp → List Record → Type 0
DoGoOn last [] = Unit {0}
DoGoOn last (r ∷ rs) = (is_next_record last r ≡ true) × DoGoOn (stamp_of r) rs

behind_goes_on : (last : Stamp) (body : Bytes) (r : Record) → record_behind last body ≡ Some r → is_next_record last r ≡ true
unfolding record_behind
behind_goes_on last body r is =
    let read = and_then_is (λ next. if is_next_record last next then Some next else None) (read_body body) r is in
    let here = if_is (is_next_record last read.0) (Some read.0) r read.2 in
    subst (λ (next : Record). is_next_record last next ≡ true) (same_some read.0 r here.1) here.0

read_goes_on : (place : ℕ) (last : Stamp) (bodies : List Bytes) (rs : List Record) → records_from place last bodies ≡ Ok rs → DoGoOn last rs
unfolding records_from
read_goes_on place last [] [] is = tt
read_goes_on place last [] (r ∷ rs) is = absurd (cc)
read_goes_on place last (body ∷ bodies) rs is = by_record (record_behind last body) refl (λ first more e. read_goes_on (place + 5 + length body) (stamp_of first) bodies more e) is
  where
    by_rest : (first : Record) → record_behind last body ≡ Some first → (behind : Result (List Record) ℕ) → ((more : List Record) → behind ≡ Ok more → DoGoOn (stamp_of first) more) → with_first first behind ≡ Ok rs → DoGoOn last rs
    by_rest first here (Err p) rest e = absurd (cc)
    by_rest first here (Ok more) rest e = subst (DoGoOn last) (same (first ∷ more) rs e) (behind_goes_on last body first here, rest more refl)
      where
        same : (a b : List Record) → ◌≡◌ {A = Result (List Record) ℕ} (Ok a) (Ok b) → a ≡ b
        same a b e = cc

    by_record : (o : Option Record) → record_behind last body ≡ o → ((first : Record) (more : List Record) → records_from (place + 5 + length body) (stamp_of first) bodies ≡ Ok more → DoGoOn (stamp_of first) more)
        → option_map_or (λ first. with_first first (records_from (place + 5 + length body) (stamp_of first) bodies)) o (Err place) ≡ Ok rs → DoGoOn last rs
    by_record None here rest e = absurd (cc)
    by_record (Some first) here rest e = by_rest first here (records_from (place + 5 + length body) (stamp_of first) bodies) (rest first) e

segment_goes_on : (before : Stamp) (bytes : Bytes) (rs : List Record) → segment_of before bytes ≡ Ok rs → DoGoOn before rs
unfolding segment_of records_of
segment_goes_on before bytes rs is = read_goes_on 0 before (records bytes) rs is

go_on : (last : Stamp) (rs more : List Record) → DoGoOn last rs → DoGoOn (last_behind last rs) more → DoGoOn last (rs ++ more)
go_on last [] more first second = second
go_on last (r ∷ rs) more first second = (first.0, go_on (stamp_of r) rs more first.1 second)

-- ---- their stamps

next_sequence : (last : Stamp) (r : Record) → is_next_record last r ≡ true → r.seq ≡ last.seq + 1
next_sequence last r is = number_is r.seq (last.seq + 1) (both_first (r.seq == last.seq + 1) (nat_le last.moment r.moment) is)

next_moment : (last : Stamp) (r : Record) → is_next_record last r ≡ true → last.moment ≤ r.moment
next_moment last r is = below last.moment r.moment (both_second (r.seq == last.seq + 1) (nat_le last.moment r.moment) is)
  where
    below : (m n : ℕ) → nat_le m n ≡ true → m ≤ n
    below m n is = grind (arith, nat_tests)

sequences_count : (last : Stamp) (rs : List Record) → DoGoOn last rs → (last_behind last rs).seq ≡ last.seq + length rs
sequences_count last [] go = omega arith
sequences_count last (r ∷ rs) go = omega (arith, sequences_count (stamp_of r) rs go.1, next_sequence last r go.0)

moments_rise : (last : Stamp) (rs : List Record) → DoGoOn last rs → last.moment ≤ (last_behind last rs).moment
moments_rise last [] go = omega arith
moments_rise last (r ∷ rs) go = omega (arith, moments_rise (stamp_of r) rs go.1, next_moment last r go.0)

le_true : (m n : ℕ) → m ≤ n → nat_le m n ≡ true
le_true m n le = grind (arith, nat_tests)

both : (a b : Bool) → a ≡ true → b ≡ true → (a && b) ≡ true
both a b e f = rw (e, f) refl

by_then : (moment : ℕ) (last : Stamp) (rs : List Record) → DoGoOn last rs → (last_behind last rs).moment ≤ moment → are_by moment rs ≡ true
by_then moment last [] go le = refl
by_then moment last (r ∷ rs) go le =
    both (nat_le r.moment moment) (are_by moment rs) (le_true r.moment moment (omega (arith, le, moments_rise (stamp_of r) rs go.1))) (by_then moment (stamp_of r) rs go.1 le)

-- ---- rows

entries_upto : (last seq : ℕ) (entries : List BatchEntry) → seq ≤ last → are_upto last (map (entry_row seq) entries) ≡ true
entries_upto last seq [] le = refl
entries_upto last seq (entry ∷ entries) le = both (nat_le seq last) (are_upto last (map (entry_row seq) entries)) (le_true seq last le) (entries_upto last seq entries le)

upto_append : (last : ℕ) (rows more : List Row) → are_upto last rows ≡ true → are_upto last more ≡ true → are_upto last (rows ++ more) ≡ true
upto_append last rows more first second = list_all-append (λ row. nat_le row.seq last) rows more ∙ both (are_upto last rows) (are_upto last more) first second

records_upto : (sequence : ℕ) (last : Stamp) (rs : List Record) → DoGoOn last rs → (last_behind last rs).seq ≤ sequence → are_upto sequence (record_rows rs) ≡ true
unfolding batch_rows
records_upto sequence last [] go le = refl
records_upto sequence last (r ∷ rs) go le =
    upto_append sequence (batch_rows r.seq r.batch) (record_rows rs)
    (entries_upto sequence r.seq r.batch.entries (omega (arith, le, sequences_count (stamp_of r) rs go.1)))
    (records_upto sequence (stamp_of r) rs go.1 le)

-- the rows of tables none of which is out of turn
tables_upto : (last : ℕ) (all tables : List OpenedTable) → find (is_out_of_turn last all) tables ≡ None → are_upto last (flat_map (λ table. table.rows) tables) ≡ true
tables_upto last all [] none = refl
tables_upto last all (table ∷ tables) none = by_test (is_out_of_turn last all table) refl (tables_upto last all tables) none
  where
    in_turn : (a b : Bool) → (not a || b) ≡ false → a ≡ true
    in_turn true b is = refl
    in_turn false b is = absurd (cc)

    by_test : (b : Bool) → is_out_of_turn last all table ≡ b → (find (is_out_of_turn last all) tables ≡ None → are_upto last (flat_map (λ table. table.rows) tables) ≡ true)
        → cond b (Some table) (find (is_out_of_turn last all) tables) ≡ None → are_upto last (flat_map (λ table. table.rows) (table ∷ tables)) ≡ true
    by_test true is rest e = absurd (cc)
    by_test false is rest e =
        upto_append last table.rows (flat_map (λ table. table.rows) tables) (in_turn (are_upto last table.rows) (list_any (is_outdone_by table) all) is) (rest e)

-- ---- the bounds

pub bounds_are : (files : FileName → Bytes) (found : Recovery) → recover files ≡ Ok found → HasBounds found
bounds_are files found is =
    let are = files_are files found is in
    let before = before_log found.state in
    let batches = batches_in found.log in
    let go = go_on before found.log.first found.log.second (segment_goes_on before _ found.log.first are.log.first) (segment_goes_on (last_behind before found.log.first) _ found.log.second are.log.second) in
    let count = sequences_count before batches go in
    record {
      last = count;
      rows = upto_append (recovered_last found) (flat_map (λ table. table.rows) found.tables) (record_rows batches)
          (upto_on found.state.last (recovered_last found) (flat_map (λ table. table.rows) found.tables) (tables_upto found.state.last found.tables found.tables are.turns) (omega (arith, count)))
          (records_upto (recovered_last found) before batches go (omega arith));
      floor = omega arith;
      moments = by_then (recovered_floor found) before batches go (omega arith);
    }
