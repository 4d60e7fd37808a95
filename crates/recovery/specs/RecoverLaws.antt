-- What a recovery finds: which files it reads, what they are, and what a crash in the middle of an edit leaves of it.
use Rattle.std.proofs.Common.{◌≡◌, inl, inr, ⊎_elim, ℕ, Bool, true, false, cond, List, [], ◌∷◌, ◌++◌, length, Option, Some, None, Result, Ok, Err, refl, sym, ◌∙◌, ap, subst, arith}
use Rattle.std.specs.Prelude.{◌+◌, ◌≤◌, ◌&&◌, ◌==◌, nat_lt, find}
use Rattle.std.proofs.lemmas.Bool.Decides.{nat_tests}
use Rattle.kv_base.specs.InversionLaws.{both_first, both_second, number_is}
use Rattle.kv_base.specs.Map.{Bytes, same, same_is, same_itself}
use Rattle.kv_base.specs.declared.name.FileName.{FileName}
use Rattle.kv_base.specs.declared.name.FileName.TheVariants.{SlotA, SlotB, Segment, Table}
use Rattle.kv_base.specs.declared.row.Row.{Row}
use Rattle.kv_base.specs.declared.table.TableDesc.{TableDesc}
use Rattle.kv_outside.specs.Disk.{Always, Disk, IsImage, Touches}
use Rattle.batch_codec.specs.declared.record.Record.{Record}
use Rattle.gated_log.specs.RecordLaws.{records_none}
use Rattle.sst_parts.specs.Index.{last_raw}
use Rattle.sst_grammar.specs.Judging.{judged_table, then_judged}
use Rattle.sst_grammar.specs.JudgedPartLaws.{then_is}
use Rattle.sst_grammar.specs.OnlyTableLaws.{only_tables}
use Rattle.sst_grammar.specs.WholeTableLaws.{table_is_judged}
use Rattle.wal_log.specs.Segments.{last_behind, records_from, records_of, segment_of}
use Rattle.wal_log.specs.declared.segment.Stamp.{Stamp}
use Rattle.level_set.specs.declared.home.Home.{Home}
use Rattle.edit_codec.specs.States.{new_state}
use Rattle.edit_codec.specs.declared.state.State.{State}
use Rattle.manifest_set.specs.KeepLaws.{files_say}
use Rattle.manifest_set.specs.Keeping.{AreFoundSlots, SaysBeforeOrAfter, SaysEarlierEpoch, slot_bytes}
use Rattle.manifest_set.specs.Slots.{Damage, IsSlot, by_both, by_first, manifest_state, other_slot, slot_of, slots_of, said_by, said_from}
use Rattle.manifest_set.specs.declared.slots.Slots.{Slots}
use Rattle.recovery.specs.Logs.{OpenedLog, and_second, before_log, is_unfounded, log_of, next_segment, with_first_segment, with_second}
use Rattle.recovery.specs.Named.{AgreeAt, AgreeAtTables, AgreeBehind, AreFilesOf, AreOtherImages, AreTablesOf, FindsEither, IsLogOf, IsTableOf, LeavesFound}
use Rattle.recovery.specs.Recover.{Recovery, behind_each, behind_tables, recover, recover_from, then_found, with_log}
use Rattle.recovery.specs.Tables.{OpenedTable, and_tables, first_raw, if_recorded, is_out_of_turn, is_recorded, none_out_of_turn, place_off, table_of, tables_of, together}

-- ---- damage of the slots

pub slots_come_first : (files : FileName → Bytes) (damage : Damage) → manifest_state files ≡ Err damage → recover files ≡ Err damage
unfolding recover
slots_come_first files damage is = ap (λ r. then_found r (recover_from files)) is

pub found_behind : (files : FileName → Bytes) (state : State) → manifest_state files ≡ Ok state → recover files ≡ recover_from files state
unfolding recover
found_behind files state is = ap (λ r. then_found r (recover_from files)) is

-- what the reading of the slots answers is what they say
pub found_slots_say : (files : FileName → Bytes) (slots : Slots) → AreFoundSlots slots (files SlotA) (files SlotB) → manifest_state files ≡ Ok slots.state
found_slots_say files slots found = by_name slots.active refl found.is_slot
  where
    whole : (name : FileName) → slots.active ≡ name → IsSlot name → slot_bytes name (files SlotA) (files SlotB) ≡ files name → slot_bytes (other_slot name) (files SlotA) (files SlotB) ≡ files (other_slot name)
        → manifest_state files ≡ Ok slots.state
    whole name is slot own other =
        files_say files name found.says slot
        (ap (slot_of 0) (sym own) ∙ ap (λ (n : FileName). slot_of 0 (slot_bytes n (files SlotA) (files SlotB))) (sym is) ∙ found.own)
        (subst (λ (bytes : Bytes). SaysEarlierEpoch found.says bytes) (ap (λ (n : FileName). slot_bytes (other_slot n) (files SlotA) (files SlotB)) is ∙ other) found.behind)
        ∙ ap (λ (s : State). Ok s) (sym found.state)

    by_name : (name : FileName) → slots.active ≡ name → IsSlot slots.active → manifest_state files ≡ Ok slots.state
    by_name SlotA is slot = whole SlotA is tt refl refl
    by_name SlotB is slot = whole SlotB is tt refl refl
    by_name (Segment n) is slot = absurd (subst IsSlot is slot)
    by_name (Table t) is slot = absurd (subst IsSlot is slot)

-- ---- only named files are read

tables_alike : (files others : FileName → Bytes) (homes : List Home) → AgreeAtTables files others homes → tables_of files homes ≡ tables_of others homes
unfolding tables_of
tables_alike files others [] agree = refl
tables_alike files others (home ∷ homes) agree =
    (λ i. and_tables home (table_of home.desc (agree.0 i)) (tables_alike files others homes agree.1 i))

log_alike : (files others : FileName → Bytes) (state : State) → AgreeBehind state files others → log_of files state ≡ log_of others state
unfolding log_of
log_alike files others state agree = (λ i. with_first_segment (before_log state) state.log (agree.next i) (segment_of (before_log state) (agree.log i)))

pub found_alike : (files others : FileName → Bytes) (state : State) → AgreeBehind state files others → recover_from files state ≡ recover_from others state
unfolding recover_from
found_alike files others state agree =
    (λ i. then_found (tables_alike files others state.levels agree.tables i)
    (λ tables. then_found (together state.last tables) (λ tables. then_found (log_alike files others state agree i) (with_log state tables))))

pub named_alone : (files others : FileName → Bytes) (state : State) → manifest_state files ≡ Ok state → AgreeAt state files others → recover files ≡ recover others
named_alone files others state is agree =
    let says : manifest_state others ≡ Ok state = (λ i. slots_of (sym agree.first i) (sym agree.second i)) ∙ is in
    found_behind files state is ∙ found_alike files others state agree.behind ∙ sym (found_behind others state says)

-- ---- where nothing is damaged, each file is what was found

found_is : {X Y : Type 0} (r : Result X Damage) (next : X → Result Y Damage) (y : Y) → then_found r next ≡ Ok y → (x : X) × (r ≡ Ok x) × (next x ≡ Ok y)
found_is (Err damage) next y e = absurd (cc)
found_is (Ok x) next y e = (x, refl, e)

same_ok : {X E : Type 0} (x y : X) → ◌≡◌ {A = Result X E} (Ok x) (Ok y) → x ≡ y
same_ok x y e = cc

recorded : (desc : TableDesc) (rows found : List Row) → if_recorded desc rows ≡ Ok found → (rows ≡ found) × (is_recorded desc found ≡ true)
recorded desc rows found is = by_test (is_recorded desc rows) refl is
  where
    by_test : (b : Bool) → is_recorded desc rows ≡ b → cond {A = Result (List Row) ℕ} b (Ok rows) (Err 0) ≡ Ok found → (rows ≡ found) × (is_recorded desc found ≡ true)
    by_test true test e = (same_ok rows found e, subst (λ (l : List Row). is_recorded desc l ≡ true) (same_ok rows found e) test)
    by_test false test e = absurd (cc)

pub table_is_there : (home : Home) (bytes : Bytes) (rows : List Row) → table_of home.desc bytes ≡ Ok rows → IsTableOf bytes (record { home = home; rows = rows })
unfolding table_of
table_is_there home bytes rows is = by_size (length bytes == home.desc.bytes) refl is
  where
    parts : length bytes ≡ home.desc.bytes → (found : List Row) → judged_table bytes ≡ Ok found → (found ≡ rows) × (is_recorded home.desc rows ≡ true) → IsTableOf bytes (record { home = home; rows = rows })
    parts size found judged same_rows =
        let counts = both_first (length rows == home.desc.rows) (same (first_raw rows) home.desc.least) (both_first ((length rows == home.desc.rows) && same (first_raw rows) home.desc.least) (same (last_raw [] rows) home.desc.greatest) same_rows.1) in
        let least = both_second (length rows == home.desc.rows) (same (first_raw rows) home.desc.least) (both_first ((length rows == home.desc.rows) && same (first_raw rows) home.desc.least) (same (last_raw [] rows) home.desc.greatest) same_rows.1) in
        let greatest = both_second ((length rows == home.desc.rows) && same (first_raw rows) home.desc.least) (same (last_raw [] rows) home.desc.greatest) same_rows.1 in
        record {
          table_is = only_tables bytes rows (judged ∙ ap (λ (l : List Row). Ok l) same_rows.0);
          size = size;
          count = number_is (length rows) home.desc.rows counts;
          least = same_is (first_raw rows) home.desc.least least;
          greatest = same_is (last_raw [] rows) home.desc.greatest greatest;
        }

    by_size : (b : Bool) → (length bytes == home.desc.bytes) ≡ b → cond b (then_judged (judged_table bytes) (if_recorded home.desc)) (Err 0) ≡ Ok rows → IsTableOf bytes (record { home = home; rows = rows })
    by_size true size e =
        let found = then_is (judged_table bytes) (if_recorded home.desc) rows e in
        parts (number_is (length bytes) home.desc.bytes size) found.0 found.1 (recorded home.desc found.0 rows found.2)
    by_size false size e = absurd (cc)

tables_are_there : (files : FileName → Bytes) (homes : List Home) (tables : List OpenedTable) → tables_of files homes ≡ Ok tables → AreTablesOf files homes tables
unfolding tables_of
tables_are_there files [] [] is = tt
tables_are_there files [] (table ∷ tables) is = absurd (cc)
tables_are_there files (home ∷ homes) tables is =
    by_parts (table_of home.desc (files (Table home.desc.id))) refl (tables_of files homes) (λ more e. tables_are_there files homes more e) tables is
  where
    by_parts : (r : Result (List Row) ℕ) → table_of home.desc (files (Table home.desc.id)) ≡ r → (behind : Result (List OpenedTable) Damage) → ((more : List OpenedTable) → behind ≡ Ok more → AreTablesOf files homes more)
        → (tables : List OpenedTable) → and_tables home r behind ≡ Ok tables → AreTablesOf files (home ∷ homes) tables
    by_parts (Err place) here behind rest tables e = absurd (cc)
    by_parts (Ok rows) here (Err damage) rest tables e = absurd (cc)
    by_parts (Ok rows) here (Ok more) rest tables e =
        subst (AreTablesOf files (home ∷ homes)) (same_ok (record { home = home; rows = rows } ∷ more) tables e)
        (refl, table_is_there home (files (Table home.desc.id)) rows here, rest more refl)

turns_are : (last : ℕ) (tables found : List OpenedTable) → together last tables ≡ Ok found → (tables ≡ found) × (find (is_out_of_turn last found) found ≡ None)
unfolding together
turns_are last tables found is = by_find (find (is_out_of_turn last tables) tables) refl is
  where
    by_find : (o : Option OpenedTable) → find (is_out_of_turn last tables) tables ≡ o → none_out_of_turn tables o ≡ Ok found → (tables ≡ found) × (find (is_out_of_turn last found) found ≡ None)
    by_find None none e = (same_ok tables found e, subst (λ (l : List OpenedTable). find (is_out_of_turn last l) l ≡ None) (same_ok tables found e) none)
    by_find (Some table) some e = absurd (cc)

log_is_there : (files : FileName → Bytes) (state : State) (log : OpenedLog) → log_of files state ≡ Ok log → IsLogOf files state log
unfolding log_of
log_is_there files state log is = by_first (segment_of (before_log state) (files (Segment state.log))) refl is
  where
    next : Bytes
    next = next_segment files state.log

    by_second : (first : List Record) → segment_of (before_log state) (files (Segment state.log)) ≡ Ok first → is_unfounded first next ≡ false
        → (r : Result (List Record) ℕ) → segment_of (last_behind (before_log state) first) next ≡ r → with_second (state.log + 1) first (nat_lt 0 (length next)) r ≡ Ok log → IsLogOf files state log
    by_second first here founded (Err place) is e = absurd (cc)
    by_second first here founded (Ok second) is e =
        subst (IsLogOf files state) (same_ok (record { first = first; second = second; goes_on = nat_lt 0 (length next) }) log e)
        (record { first = here; second = is; founded = founded; goes_on = refl })

    by_founded : (first : List Record) → segment_of (before_log state) (files (Segment state.log)) ≡ Ok first → (b : Bool) → is_unfounded first next ≡ b
        → cond b (Err (place_off (Segment (state.log + 1)) 0)) (with_second (state.log + 1) first (nat_lt 0 (length next)) (segment_of (last_behind (before_log state) first) next)) ≡ Ok log
        → IsLogOf files state log
    by_founded first here true is e = absurd (cc)
    by_founded first here false is e = by_second first here is (segment_of (last_behind (before_log state) first) next) refl e

    by_first : (r : Result (List Record) ℕ) → segment_of (before_log state) (files (Segment state.log)) ≡ r → with_first_segment (before_log state) state.log next r ≡ Ok log → IsLogOf files state log
    by_first (Err place) is e = absurd (cc)
    by_first (Ok first) is e = by_founded first is (is_unfounded first next) refl e

pub files_are : (files : FileName → Bytes) (found : Recovery) → recover files ≡ Ok found → AreFilesOf files found
unfolding recover recover_from
files_are files found is =
    let manifest = found_is (manifest_state files) (recover_from files) found is in
    let tables = found_is (tables_of files manifest.0.levels) (behind_each files manifest.0) found manifest.2 in
    let turns = found_is (together manifest.0.last tables.0) (behind_tables files manifest.0) found tables.2 in
    let log = found_is (log_of files manifest.0) (with_log manifest.0 turns.0) found turns.2 in
    let stand = turns_are manifest.0.last tables.0 turns.0 turns.1 in
    subst (AreFilesOf files) (same_ok (record { state = manifest.0; tables = turns.0; log = log.0 }) found log.2)
    (record {
      state = manifest.1;
      tables = subst (AreTablesOf files manifest.0.levels) stand.0 (tables_are_there files manifest.0.levels tables.0 tables.1);
      turns = stand.1;
      log = log_is_there files manifest.0 log.0 log.1;
    })

-- ---- and such files are recovered

equal_numbers : (m n : ℕ) → m ≡ n → (m == n) ≡ true
equal_numbers m n is = grind (arith, nat_tests)

same_bytes : (x y : Bytes) → x ≡ y → same x y ≡ true
same_bytes x y is = ap (same x) (sym is) ∙ same_itself x

pub table_is_found : (home : Home) (bytes : Bytes) (table : OpenedTable) → table.home ≡ home → IsTableOf bytes table → table_of home.desc bytes ≡ Ok table.rows
unfolding table_of
table_is_found home bytes table home_is is =
    let size = equal_numbers (length bytes) home.desc.bytes (is.size ∙ ap (λ (h : Home). h.desc.bytes) home_is) in
    let judged = ap judged_table is.table_is.spelled ∙ table_is_judged table.rows is.table_is.lawful in
    let count = equal_numbers (length table.rows) home.desc.rows (is.count ∙ ap (λ (h : Home). h.desc.rows) home_is) in
    let least = same_bytes (first_raw table.rows) home.desc.least (is.least ∙ ap (λ (h : Home). h.desc.least) home_is) in
    let greatest = same_bytes (last_raw [] table.rows) home.desc.greatest (is.greatest ∙ ap (λ (h : Home). h.desc.greatest) home_is) in
    ap (λ b. cond {A = Result (List Row) ℕ} b (then_judged (judged_table bytes) (if_recorded home.desc)) (Err 0)) size
    ∙ ap (λ (r : Result (List Row) ℕ). then_judged r (if_recorded home.desc)) judged
    ∙ (λ i. cond {A = Result (List Row) ℕ} (count i && least i && greatest i) (Ok table.rows) (Err 0))

tables_are_found : (files : FileName → Bytes) (homes : List Home) (tables : List OpenedTable) → AreTablesOf files homes tables → tables_of files homes ≡ Ok tables
unfolding tables_of
tables_are_found files [] [] are = refl
tables_are_found files [] (table ∷ tables) are = absurd are
tables_are_found files (home ∷ homes) [] are = absurd are
tables_are_found files (home ∷ homes) (table ∷ tables) are =
    (λ i. and_tables home (table_is_found home (files (Table home.desc.id)) table are.0 are.1 i) (tables_are_found files homes tables are.2 i))
    ∙ ap (λ (h : Home). Ok (record { home = h; rows = table.rows } ∷ tables)) (sym are.0)

pub log_is_found : (files : FileName → Bytes) (state : State) (log : OpenedLog) → IsLogOf files state log → log_of files state ≡ Ok log
unfolding log_of
log_is_found files state log is =
    let next = next_segment files state.log in
    ap (with_first_segment (before_log state) state.log next) is.first
    ∙ ap (λ b. cond {A = Result OpenedLog Damage} b (Err (place_off (Segment (state.log + 1)) 0)) (with_second (state.log + 1) log.first (nat_lt 0 (length next)) (segment_of (last_behind (before_log state) log.first) next))) is.founded
    ∙ ap (with_second (state.log + 1) log.first (nat_lt 0 (length next))) is.second
    ∙ ap (λ b. Ok (record { first = log.first; second = log.second; goes_on = b })) (sym is.goes_on)

pub files_recover : (files : FileName → Bytes) (found : Recovery) → AreFilesOf files found → recover files ≡ Ok found
unfolding recover_from together
files_recover files found are =
    found_behind files found.state are.state
    ∙ ap (λ r. then_found r (behind_each files found.state)) (tables_are_found files found.state.levels found.tables are.tables)
    ∙ ap (λ o. then_found (none_out_of_turn found.tables o) (behind_tables files found.state)) are.turns
    ∙ ap (λ r. then_found r (with_log found.state found.tables)) (log_is_found files found.state found.log are.log)

-- ---- no files are a new store

no_slots : slots_of [] [] ≡ Ok new_state
unfolding slots_of said_by said_from
no_slots = (λ i. by_first (said_by 0 (records_none i)) []) ∙ ap (λ bodies. by_both None (said_by 0 bodies)) records_none

no_batches : (before : Stamp) → segment_of before [] ≡ Ok []
unfolding segment_of records_of records_from
no_batches before = ap (records_of before) records_none

pub nothing_is_new : recover (λ name. []) ≡ Ok (record { state = new_state; tables = []; log = record { first = []; second = []; goes_on = false } })
nothing_is_new =
    files_recover (λ name. []) (record { state = new_state; tables = []; log = record { first = []; second = []; goes_on = false } })
    (record {
      state = no_slots;
      tables = tt;
      turns = refl;
      log = record { first = no_batches (before_log new_state); second = no_batches (before_log new_state); founded = refl; goes_on = refl };
    })

-- ---- a crash in the middle of an edit

-- at each moment of a run on one slot, what is found is what was found behind the state before, or behind the one after
pub edits_leave : (old new : Disk) (slot : FileName) (before after : State) (P Q : Result Recovery Damage → Type 0) → IsSlot slot → Always old new (SaysBeforeOrAfter before after) → Touches slot old new (λ c. Unit {0})
    → LeavesFound old before P → LeavesFound old after Q → Always old new (FindsEither P Q)
edits_leave old new slot before after P Q is_slot says alone first last = record {
  goes_on = says.goes_on;
  each = λ k image low high is. by_state image (others k image low high is) (says.each k image low high is);
}
  where
    others : (k : ℕ) (image : FileName → Bytes) → old.moment ≤ k → k ≤ new.moment → IsImage new k image → AreOtherImages old image
    others k image low high is name not_slot = alone.others k name (image name) (λ same. not_slot (subst IsSlot (sym same) is_slot)) low high (is name)

    by_state : (image : FileName → Bytes) → AreOtherImages old image → SaysBeforeOrAfter before after image → FindsEither P Q image
    by_state image left either = ⊎_elim
        (λ (is : manifest_state image ≡ Ok before). inl (subst P (sym (found_behind image before is)) (first image left)))
        (λ (is : manifest_state image ≡ Ok after). inr (subst Q (sym (found_behind image after is)) (last image left)))
        either

-- ---- the order of blame

-- one table more
pub tables_push : (files : FileName → Bytes) (front : List Home) (tables : List OpenedTable) (home : Home) (rows : List Row) → tables_of files front ≡ Ok tables → table_of home.desc (files (Table home.desc.id)) ≡ Ok rows
    → tables_of files (front ++ home ∷ []) ≡ Ok (tables ++ record { home = home; rows = rows } ∷ [])
unfolding tables_of
tables_push files [] tables home rows front here =
    ap (λ r. and_tables home r (Ok [])) here ∙ ap (λ (l : List OpenedTable). Ok (l ++ record { home = home; rows = rows } ∷ [])) (same_ok [] tables front)
tables_push files (other ∷ homes) tables home rows front here =
    by_parts (table_of other.desc (files (Table other.desc.id))) (tables_of files homes) (λ more e. tables_push files homes more home rows e here) front
  where
    by_parts : (r : Result (List Row) ℕ) (rest : Result (List OpenedTable) Damage) → ((more : List OpenedTable) → rest ≡ Ok more → tables_of files (homes ++ home ∷ []) ≡ Ok (more ++ record { home = home; rows = rows } ∷ []))
        → and_tables other r rest ≡ Ok tables → and_tables other r (tables_of files (homes ++ home ∷ [])) ≡ Ok (tables ++ record { home = home; rows = rows } ∷ [])
    by_parts (Err place) rest push e = absurd (cc)
    by_parts (Ok own) (Err damage) push e = absurd (cc)
    by_parts (Ok own) (Ok more) push e =
        ap (and_tables other (Ok own)) (push more refl)
        ∙ ap (λ (l : List OpenedTable). Ok (l ++ record { home = home; rows = rows } ∷ [])) (same_ok (record { home = other; rows = own } ∷ more) tables e)

-- behind tables that are found, the first that is damaged
pub tables_damage : (files : FileName → Bytes) (front behind : List Home) (tables : List OpenedTable) (home : Home) (place : ℕ) → tables_of files front ≡ Ok tables → table_of home.desc (files (Table home.desc.id)) ≡ Err place
    → tables_of files (front ++ home ∷ behind) ≡ Err (place_off (Table home.desc.id) place)
unfolding tables_of
tables_damage files [] behind tables home place front here = ap (λ r. and_tables home r (tables_of files behind)) here
tables_damage files (other ∷ homes) behind tables home place front here =
    by_parts (table_of other.desc (files (Table other.desc.id))) (tables_of files homes) (λ more e. tables_damage files homes behind more home place e here) front
  where
    by_parts : (r : Result (List Row) ℕ) (rest : Result (List OpenedTable) Damage) → ((more : List OpenedTable) → rest ≡ Ok more → tables_of files (homes ++ home ∷ behind) ≡ Err (place_off (Table home.desc.id) place))
        → and_tables other r rest ≡ Ok tables → and_tables other r (tables_of files (homes ++ home ∷ behind)) ≡ Err (place_off (Table home.desc.id) place)
    by_parts (Err p) rest damaged e = absurd (cc)
    by_parts (Ok own) (Err damage) damaged e = absurd (cc)
    by_parts (Ok own) (Ok more) damaged e = ap (and_tables other (Ok own)) (damaged more refl)

pub first_table_damage : (files : FileName → Bytes) (state : State) (front behind : List Home) (tables : List OpenedTable) (home : Home) (place : ℕ) → manifest_state files ≡ Ok state → state.levels ≡ front ++ home ∷ behind
    → tables_of files front ≡ Ok tables → table_of home.desc (files (Table home.desc.id)) ≡ Err place → recover files ≡ Err (place_off (Table home.desc.id) place)
unfolding recover_from
first_table_damage files state front behind tables home place says homes found here =
    found_behind files state says
    ∙ ap (λ r. then_found r (behind_each files state)) (ap (tables_of files) homes ∙ tables_damage files front behind tables home place found here)

pub log_damage_last : (files : FileName → Bytes) (state : State) (tables : List OpenedTable) (damage : Damage) → manifest_state files ≡ Ok state → tables_of files state.levels ≡ Ok tables → together state.last tables ≡ Ok tables
    → log_of files state ≡ Err damage → recover files ≡ Err damage
unfolding recover_from
log_damage_last files state tables damage says found turns here =
    found_behind files state says
    ∙ ap (λ r. then_found r (behind_each files state)) found
    ∙ ap (λ r. then_found r (behind_tables files state)) turns
    ∙ ap (λ r. then_found r (with_log state tables)) here

-- ---- one table, by what its reading answers

module _ (desc : TableDesc) (bytes : Bytes) where
  pub other_length : (length bytes == desc.bytes) ≡ false → table_of desc bytes ≡ Err 0
  unfolding table_of
  other_length off = ap (λ b. cond {A = Result (List Row) ℕ} b (then_judged (judged_table bytes) (if_recorded desc)) (Err 0)) off

  judged_by_length : (length bytes == desc.bytes) ≡ true → table_of desc bytes ≡ then_judged (judged_table bytes) (if_recorded desc)
  unfolding table_of
  judged_by_length size = ap (λ b. cond {A = Result (List Row) ℕ} b (then_judged (judged_table bytes) (if_recorded desc)) (Err 0)) size

  pub off_grammar : (place : ℕ) → (length bytes == desc.bytes) ≡ true → judged_table bytes ≡ Err place → table_of desc bytes ≡ Err place
  off_grammar place size is = judged_by_length size ∙ ap (λ (r : Result (List Row) ℕ). then_judged r (if_recorded desc)) is

  pub on_grammar : (rows : List Row) → (length bytes == desc.bytes) ≡ true → judged_table bytes ≡ Ok rows → table_of desc bytes ≡ if_recorded desc rows
  on_grammar rows size is = judged_by_length size ∙ ap (λ (r : Result (List Row) ℕ). then_judged r (if_recorded desc)) is

-- ---- the log, by what the readings of its segments answer

module _ (files : FileName → Bytes) (state : State) where
  pub first_segment_damage : (place : ℕ) → segment_of (before_log state) (files (Segment state.log)) ≡ Err place → log_of files state ≡ Err (place_off (Segment state.log) place)
  unfolding log_of
  first_segment_damage place is = ap (with_first_segment (before_log state) state.log (next_segment files state.log)) is

  behind_first : (first : List Record) → segment_of (before_log state) (files (Segment state.log)) ≡ Ok first → log_of files state ≡ and_second (before_log state) (state.log + 1) first (next_segment files state.log)
  unfolding log_of
  behind_first first is = ap (with_first_segment (before_log state) state.log (next_segment files state.log)) is

  abbrev second_read : List Record → Result OpenedLog Damage
  second_read first =
      with_second (state.log + 1) first (nat_lt 0 (length (next_segment files state.log))) (segment_of (last_behind (before_log state) first) (next_segment files state.log))

  abbrev by_founding : List Record → Bool → Result OpenedLog Damage
  by_founding first unfounded = cond {A = Result OpenedLog Damage} unfounded (Err (place_off (Segment (state.log + 1)) 0)) (second_read first)

  pub unfounded_segment : (first : List Record) → segment_of (before_log state) (files (Segment state.log)) ≡ Ok first → is_unfounded first (next_segment files state.log) ≡ true
      → log_of files state ≡ Err (place_off (Segment (state.log + 1)) 0)
  unfounded_segment first is off = behind_first first is ∙ ap (by_founding first) off

  pub next_segment_damage : (first : List Record) (place : ℕ) → segment_of (before_log state) (files (Segment state.log)) ≡ Ok first → is_unfounded first (next_segment files state.log) ≡ false
      → segment_of (last_behind (before_log state) first) (next_segment files state.log) ≡ Err place → log_of files state ≡ Err (place_off (Segment (state.log + 1)) place)
  next_segment_damage first place is founded damaged =
      behind_first first is ∙ ap (by_founding first) founded
      ∙ ap (with_second (state.log + 1) first (nat_lt 0 (length (next_segment files state.log)))) damaged
