-- What a batch adds to a log, and what a store then keeps.
use Rattle.std.proofs.Common.{◌≡◌, ◌⊎◌, ⊎_elim, inl, inr, ℕ, ◌+◌, ◌<◌, ◌≤◌, ◌^◌, Bool, true, false, cond, List, [], ◌∷◌, ◌++◌, length, Option, Some, None, Result, Ok, Err, refl, sym, ap, subst, ◌∙◌, arith}
use Rattle.std.specs.Prelude.{IsErrAnd, ◌==◌, ◌&&◌, nat_le}
use Rattle.std.proofs.lemmas.Bool.Decides.{nat_tests}
use Rattle.std.proofs.lemmas.List.Elements.{Contains-append_left, Contains-push}
use Rattle.kv_base.specs.Map.{Bytes}
use Rattle.kv_base.specs.declared.name.FileName.{FileName}
use Rattle.kv_outside.specs.Disk.{Disk, CrashLeaves, Touches}
use Rattle.kv_outside.specs.RunLaws.{run_weaken, begin_run}
use Rattle.gated_log.specs.Gated.{records, HasRecordsOrOneMore}
use Rattle.gated_log.specs.States.{LogState, Rests, Wavers, IsLeft}
use Rattle.gated_log.specs.StillLaws.{rests_records, wavers_records}
use Rattle.batch_codec.specs.Batches.{Batch, after}
use Rattle.batch_codec.specs.Bodies.{body_of, is_seq, is_moment}
use Rattle.batch_codec.specs.BodyLaws.{IsWritable}
use Rattle.batch_codec.specs.declared.record.Record.{Record}
use Rattle.wal_log.specs.Segments.{is_next_record, record_behind, records_of, last_behind}
use Rattle.wal_log.specs.SegmentLaws.{segment_of-records, records_of-push, record_behind-written}
use Rattle.wal_log.specs.declared.segment.Stamp.{Stamp}
use Rattle.redis_model.specs.declared.command.Cmds.{Cmds}
use Rattle.redis_model.specs.declared.desk.DeskFault.{DeskFault}
use Rattle.redis_model.specs.Desk.{failed_with}
use Rattle.redis_model.specs.Machine.{State}
use Rattle.lives_model.specs.Rows.{Rows}
use Rattle.log_store.specs.Recover.{Recovered, before_all, nothing, with_batch, with_record, with_records, recovered_by, recovered}
use Rattle.log_store.specs.Planned.{IsBatchOf}
use Rattle.log_store.specs.Keeping.{log_file, KeptState, state_of, StandsFor, IsAttempt, Attempted, HoldsBodies, IsKept, ComesTo, ComesToEither, ComesToKeys, Keeps, KeepsOrMore}
use Rattle.log_store.specs.KeepLaws.{stands_comes}
use Rattle.log_store.specs.Playing.{IsWrite}
use Rattle.log_store.proofs.Replaying.{stamp_in, with_records-stamp}

-- ---- one record more

with_records-push : (before : Recovered) (rs : List Record) (r : Record) → with_records before (rs ++ r ∷ []) ≡ with_record (with_records before rs) r
with_records-push before [] r = refl
with_records-push before (s ∷ rs) r = with_records-push (with_record before s) rs r

may_follow : (last : Stamp) (state : Recovered) (r : Record) → last ≡ stamp_in state → r.seq ≡ state.sequence + 1 → state.floor ≤ r.moment → is_next_record last r ≡ true
may_follow last state r is next later = ap (λ (s : Stamp). is_next_record s r) is ∙ follows state.sequence state.floor r.seq r.moment next later
  where
    follows : (m t n u : ℕ) → n ≡ m + 1 → t ≤ u → ((n == m + 1) && nat_le t u) ≡ true
    follows m t n u next later = grind (arith, nat_tests)

-- ---- a batch that can be written

-- the record of a batch behind the last sequence
abbrev pub record_of : ℕ → ℕ → Batch → Record
record_of sequence moment batch = record { seq = sequence + 1; moment = moment; batch = batch }

is_writable : (sequence floor : ℕ) (batch : Batch) (moment : ℕ) (body : Bytes) → IsWrite sequence floor batch moment body → IsWritable (sequence + 1) moment batch
is_writable sequence floor batch moment body write = record {
  seq_is = seq_is (sequence + 1) (omega (arith, write.room)) (omega (arith, write.room));
  moment_is = moment_is moment write.early;
  some = write.some;
  rows = write.rows;
}
  where
    seq_is : (seq : ℕ) → 1 ≤ seq → seq ≤ 4398046511102 → is_seq seq ≡ true
    seq_is seq low high = grind (arith, nat_tests)

    moment_is : (moment : ℕ) → moment ≤ 2 ^ 61 → is_moment moment ≡ true
    moment_is moment high = grind (arith, nat_tests)

-- the log's bodies and one more are read, as the records and this one
record IsAdded (bodies : List Bytes) (records : List Record) (state : Recovered) (body : Bytes) (r : Record) : Type 0 where
  pub read : records_of before_all (bodies ++ body ∷ []) ≡ Ok (records ++ r ∷ [])
  pub made : with_records nothing (records ++ r ∷ []) ≡ with_record state r

is_added : (bodies : List Bytes) (records : List Record) (state : Recovered) (floor : ℕ) (batch : Batch) (moment : ℕ) (body : Bytes)
    → records_of before_all bodies ≡ Ok records → with_records nothing records ≡ state → state.floor ≤ floor → IsWrite state.sequence floor batch moment body
    → IsAdded bodies records state body (record_of state.sequence moment batch)
is_added bodies records state floor batch moment body read made low write =
    let r : Record = record_of state.sequence moment batch in
    let end = last_behind before_all records in
    let behind : record_behind end body ≡ Some r =
    ap (record_behind end) write.is
    ∙ record_behind-written end (state.sequence + 1) moment batch (is_writable state.sequence floor batch moment body write)
    (short body (body_of (state.sequence + 1) moment batch) write.is write.fits)
    (may_follow end state r (with_records-stamp nothing records ∙ ap stamp_in made) refl (omega (arith, write.later))) in
    record {
      read = records_of-push before_all bodies body records r read behind;
      made = with_records-push nothing records r ∙ ap (λ (s : Recovered). with_record s r) made;
    }
  where
    short : (a b : Bytes) → a ≡ b → length a ≤ 4294967295 → length b < 2 ^ 32
    short a b same fits = let long = ap length same in omega arith

-- ---- what a store keeps

-- what the log was left with, whatever its last append came to
holds_left : (unsure : Bool) (disk : Disk) (log : LogState) (bodies : List Bytes) (state : Recovered) (failed : List Cmds) → HoldsBodies unsure disk log bodies state failed → (tried : Bytes) × IsLeft unsure disk log bodies tried
holds_left true disk log bodies state failed holds = (holds.tried, holds.wavers)
holds_left false disk log bodies state failed holds = ([], holds)

holds_rests : (unsure : Bool) (disk : Disk) (log : LogState) (bodies : List Bytes) (state : Recovered) (failed : List Cmds) → unsure ≡ false → HoldsBodies unsure disk log bodies state failed → Rests disk log bodies
holds_rests true disk log bodies state failed sure holds = absurd (cc)
holds_rests false disk log bodies state failed sure holds = holds

rests_hold : (unsure : Bool) (disk : Disk) (log : LogState) (bodies : List Bytes) (state : Recovered) (failed : List Cmds) → unsure ≡ false → Rests disk log bodies → HoldsBodies unsure disk log bodies state failed
rests_hold true disk log bodies state failed sure rests = absurd (cc)
rests_hold false disk log bodies state failed sure rests = rests

-- where only the floor rose, or nothing changed
pub kept_still : (disk : Disk) (old new : KeptState) (failed : List Cmds) → new.rows ≡ old.rows → new.written ≡ old.written → new.log ≡ old.log → new.sequence ≡ old.sequence → IsKept disk old failed → IsKept disk new failed
kept_still disk old new failed rows written log sequence kept =
    let same : state_of old ≡ state_of new = λ i. record { rows = sym rows i; floor = sym written i; sequence = sym sequence i } in
    record {
      bodies = kept.bodies;
      records = kept.records;
      name = ap (λ (l : LogState). l.name) log ∙ kept.name;
      read = kept.read;
      made = kept.made ∙ same;
      holds = subst (λ (s : Recovered). HoldsBodies new.log.unsure disk new.log kept.bodies s failed) same
          (subst (λ (l : LogState). HoldsBodies l.unsure disk l kept.bodies (state_of old) failed) (sym log) kept.holds);
    }

-- more calls may have failed
holds_more : (unsure : Bool) (disk : Disk) (log : LogState) (bodies : List Bytes) (state : Recovered) (failed : List Cmds) (ds : Cmds) → HoldsBodies unsure disk log bodies state failed → HoldsBodies unsure disk log bodies state (failed ++ ds ∷ [])
holds_more true disk log bodies state failed ds a = record {
  tried = a.tried;
  record_tried = a.record_tried;
  commands = a.commands;
  among = Contains-append_left failed (ds ∷ []) a.commands a.among;
  wavers = a.wavers;
  attempt = a.attempt;
}
holds_more false disk log bodies state failed ds rests = rests

pub kept_more : (disk : Disk) (store : KeptState) (failed : List Cmds) (ds : Cmds) → IsKept disk store failed → IsKept disk store (failed ++ ds ∷ [])
kept_more disk store failed ds kept = record {
  bodies = kept.bodies;
  records = kept.records;
  name = kept.name;
  read = kept.read;
  made = kept.made;
  holds = holds_more store.log.unsure disk store.log kept.bodies (state_of store) failed ds kept.holds;
}

-- as it is after this call, which failed
pub kept_failed : {A : Type 0} (P : DeskFault → Type 0) (r : Result A DeskFault) → IsErrAnd r P → (disk : Disk) (store : KeptState) (failed : List Cmds) (ds : Cmds) → IsKept disk store (failed ++ ds ∷ []) → IsKept disk store (failed_with ds r failed)
kept_failed P (Ok x) is disk store failed ds kept = absurd is
kept_failed P (Err e) is disk store failed ds kept = kept

-- a batch behind what is kept
batch_behind : (disk : Disk) (old : KeptState) (batch : Batch) (moment : ℕ) (body : Bytes) (failed : List Cmds) → old.written ≤ old.floor → IsWrite old.sequence old.floor batch moment body → (kept : IsKept disk old failed)
    → IsAdded kept.bodies kept.records (state_of old) body (record_of old.sequence moment batch)
batch_behind disk old batch moment body failed past write kept =
    is_added kept.bodies kept.records (state_of old) old.floor batch moment body kept.read kept.made past write

-- the batch is in the log
pub kept_added : (before now : Disk) (old new : KeptState) (seen done : LogState) (batch : Batch) (moment : ℕ) (body : Bytes) → old.written ≤ old.floor → IsWrite old.sequence old.floor batch moment body
    → seen ≡ old.log → new.log ≡ done
    → ((bodies : List Bytes) (tried : Bytes) → IsLeft seen.unsure before seen bodies tried → Rests now done (bodies ++ body ∷ []))
    → done.unsure ≡ false → done.name ≡ seen.name → state_of new ≡ with_batch (state_of old) batch moment
    → (failed : List Cmds) → IsKept before old failed → IsKept now new failed
kept_added before now old new seen done batch moment body past write was is added sure name more failed kept =
    let behind = batch_behind before old batch moment body failed past write kept in
    let holds : HoldsBodies seen.unsure before seen kept.bodies (state_of old) failed = subst (λ (l : LogState). HoldsBodies l.unsure before l kept.bodies (state_of old) failed) (sym was) kept.holds in
    let left = holds_left seen.unsure before seen kept.bodies (state_of old) failed holds in
    record {
      bodies = kept.bodies ++ body ∷ [];
      records = kept.records ++ record_of old.sequence moment batch ∷ [];
      name = ap (λ (l : LogState). l.name) is ∙ name ∙ ap (λ (l : LogState). l.name) was ∙ kept.name;
      read = behind.read;
      made = behind.made ∙ sym more;
      holds = subst (λ (l : LogState). HoldsBodies l.unsure now l (kept.bodies ++ body ∷ []) (state_of new) failed) (sym is)
          (rests_hold done.unsure now done (kept.bodies ++ body ∷ []) (state_of new) failed sure (added kept.bodies left.0 left.1));
    }

-- the body that was tried is that of this batch
batch_tried : (disk : Disk) (old : KeptState) (ds : Cmds) (batch : Batch) (moment : ℕ) (body : Bytes) (failed : List Cmds) → old.written ≤ old.floor → IsWrite old.sequence old.floor batch moment body
    → IsBatchOf old.rows moment old.sequence ds batch → (kept : IsKept disk old failed)
    → IsAttempt kept.bodies body (state_of old) (record_of old.sequence moment batch) ds
batch_tried disk old ds batch moment body failed past write of kept =
    let more = batch_behind disk old batch moment body failed past write kept in
    record {
      sequence = refl;
      later = omega (arith, past, write.later);
      of = of;
      made = ap recovered_by more.read ∙ ap (λ (s : Recovered). Ok s) more.made;
    }

still_holds : (was unsure : Bool) (before now : Disk) (old new : LogState) (bodies : List Bytes) (state : Recovered) (r : Record) (body : Bytes) (ds : Cmds) (failed : List Cmds) → IsAttempt bodies body state r ds
    → ((tried : Bytes) → IsLeft was before old bodies tried → IsLeft unsure now new bodies tried ⊎ IsLeft unsure now new bodies body)
    → HoldsBodies was before old bodies state failed → HoldsBodies unsure now new bodies state (failed ++ ds ∷ [])
still_holds was true before now old new bodies state r body ds failed attempt left holds = by_last was left holds
  where
    this : Wavers now new bodies body → Attempted now new bodies state (failed ++ ds ∷ [])
    this w = record { tried = body; record_tried = r; commands = ds; among = Contains-push failed ds; wavers = w; attempt = attempt }

    by_last : (b : Bool) → ((tried : Bytes) → IsLeft b before old bodies tried → Wavers now new bodies tried ⊎ Wavers now new bodies body)
        → HoldsBodies b before old bodies state failed → Attempted now new bodies state (failed ++ ds ∷ [])
    by_last true left a = ⊎_elim
        (λ (w : Wavers now new bodies a.tried). record {
          tried = a.tried;
          record_tried = a.record_tried;
          commands = a.commands;
          among = Contains-append_left failed (ds ∷ []) a.commands a.among;
          wavers = w;
          attempt = a.attempt;
        })
        this
        (left a.tried a.wavers)
    by_last false left rests = ⊎_elim this this (left body rests)
still_holds true false before now old new bodies state r body ds failed attempt left holds = ⊎_elim
    (λ (r : Rests now new bodies). r) (λ (r : Rests now new bodies). r) (left holds.tried holds.wavers)
still_holds false false before now old new bodies state r body ds failed attempt left holds = ⊎_elim
    (λ (r : Rests now new bodies). r) (λ (r : Rests now new bodies). r) (left body holds)

-- the batch is not in the log, or its gate was tried
pub kept_left : (before now : Disk) (old new : KeptState) (seen done : LogState) (batch : Batch) (moment : ℕ) (body : Bytes) → old.written ≤ old.floor → IsWrite old.sequence old.floor batch moment body
    → seen ≡ old.log → new.log ≡ done
    → ((bodies : List Bytes) (tried : Bytes) → IsLeft seen.unsure before seen bodies tried
    → IsLeft done.unsure now done bodies tried ⊎ IsLeft done.unsure now done bodies body)
    → done.name ≡ seen.name → state_of new ≡ state_of old
    → (ds : Cmds) (failed : List Cmds) → IsBatchOf old.rows moment old.sequence ds batch → IsKept before old failed → IsKept now new (failed ++ ds ∷ [])
kept_left before now old new seen done batch moment body past write was is left name same ds failed of kept = record {
  bodies = kept.bodies;
  records = kept.records;
  name = ap (λ (l : LogState). l.name) is ∙ name ∙ ap (λ (l : LogState). l.name) was ∙ kept.name;
  read = kept.read;
  made = kept.made ∙ sym same;
  holds = subst (λ (s : Recovered). HoldsBodies new.log.unsure now new.log kept.bodies s (failed ++ ds ∷ [])) (sym same)
      (subst (λ (l : LogState). HoldsBodies l.unsure now l kept.bodies (state_of old) (failed ++ ds ∷ [])) (sym is)
      (still_holds seen.unsure done.unsure before now seen done kept.bodies (state_of old) (record_of old.sequence moment batch) body ds failed
      (batch_tried before old ds batch moment body failed past write of kept) (left kept.bodies)
      (subst (λ (l : LogState). HoldsBodies l.unsure before l kept.bodies (state_of old) failed) (sym was) kept.holds)));
}

-- ---- what a crash leaves

-- bytes with these bodies come to this state
comes_to : (bytes : Bytes) (bodies : List Bytes) (rs : List Record) (state : Recovered) → records bytes ≡ bodies → records_of before_all bodies ≡ Ok rs → with_records nothing rs ≡ state → recovered bytes ≡ Ok state
comes_to bytes bodies rs state is read made = ap recovered_by (segment_of-records before_all bytes bodies is ∙ read) ∙ ap (λ (s : Recovered). Ok s) made

leaves_at : (disk : Disk) (at name : FileName) (P : Bytes → Type 0) → at ≡ name → CrashLeaves disk at P → CrashLeaves disk name P
leaves_at disk at name P is leaves = subst (λ (n : FileName). CrashLeaves disk n P) is leaves

pub leaves_more : (disk : Disk) (name : FileName) (P Q : Bytes → Type 0) → ((c : Bytes) → P c → Q c) → CrashLeaves disk name P → CrashLeaves disk name Q
leaves_more disk name P Q leads leaves = record { each = λ c image. leads c (leaves.each c image) }

-- bytes with the bodies that are kept come to the rows
kept_comes : (disk : Disk) (old : KeptState) (failed : List Cmds) (kept : IsKept disk old failed) (c : Bytes) → records c ≡ kept.bodies → ComesTo (state_of old) c
kept_comes disk old failed kept c is = comes_to c kept.bodies kept.records (state_of old) is kept.read kept.made

-- at any moment of the append the log comes to the rows before, or to those after
pub either_rows : (before now : Disk) (old : KeptState) (seen : LogState) (batch : Batch) (moment : ℕ) (body : Bytes) → old.written ≤ old.floor → IsWrite old.sequence old.floor batch moment body
    → seen ≡ old.log
    → (seen.unsure ≡ false → (bodies : List Bytes) → Rests before seen bodies → Touches seen.name before now (HasRecordsOrOneMore bodies body))
    → old.log.unsure ≡ false → (failed : List Cmds) → IsKept before old failed
    → Touches log_file before now (ComesToEither (state_of old) batch moment)
either_rows before now old seen batch moment body past write was run sure failed kept =
    let more = batch_behind before old batch moment body failed past write kept in
    let rests : Rests before seen kept.bodies =
    subst (λ (l : LogState). Rests before l kept.bodies) (sym was) (holds_rests old.log.unsure before old.log kept.bodies (state_of old) failed sure kept.holds) in
    let here : Touches log_file before now (HasRecordsOrOneMore kept.bodies body) =
    subst (λ (n : FileName). Touches n before now (HasRecordsOrOneMore kept.bodies body)) (ap (λ (l : LogState). l.name) was ∙ kept.name)
    (run (ap (λ (l : LogState). l.unsure) was ∙ sure) kept.bodies rests) in
    run_weaken log_file before now (HasRecordsOrOneMore kept.bodies body) (ComesToEither (state_of old) batch moment) here (λ c is. ⊎_elim
    (λ (e : records c ≡ kept.bodies). inl (kept_comes before old failed kept c e))
    (λ (e : records c ≡ kept.bodies ++ body ∷ []). inr (comes_to c (kept.bodies ++ body ∷ []) (kept.records ++ record_of old.sequence moment batch ∷ []) (with_batch (state_of old) batch moment) e more.read more.made))
    is)

-- where no call was made, it comes to the rows before
pub still_comes : (disk : Disk) (old : KeptState) (P : Bytes → Type 0) → old.log.unsure ≡ false → (failed : List Cmds) → IsKept disk old failed → ((c : Bytes) → ComesTo (state_of old) c → P c) → Touches log_file disk disk P
still_comes disk old P sure failed kept leads =
    let rests = holds_rests old.log.unsure disk old.log kept.bodies (state_of old) failed sure kept.holds in
    begin_run log_file disk P
    (leaves_more disk log_file (λ c. records c ≡ kept.bodies) P (λ c is. leads c (kept_comes disk old failed kept c is))
    (leaves_at disk old.log.name log_file (λ c. records c ≡ kept.bodies) kept.name (rests_records disk old.log kept.bodies rests)))

-- ---- an end

-- a log that is not unsure any more leaves the rows
pub keeps_mended : (before now : Disk) (old : KeptState) (log : LogState) → log.name ≡ old.log.name
    → ((bodies : List Bytes) (tried : Bytes) → IsLeft old.log.unsure before old.log bodies tried → Rests now log bodies)
    → (failed : List Cmds) → IsKept before old failed → Keeps now old
keeps_mended before now old log name mended failed kept =
    let left = holds_left old.log.unsure before old.log kept.bodies (state_of old) failed kept.holds in
    leaves_more now log_file (λ c. records c ≡ kept.bodies) (ComesTo (state_of old)) (λ c is. kept_comes before old failed kept c is)
    (leaves_at now log.name log_file (λ c. records c ≡ kept.bodies) (name ∙ kept.name) (rests_records now log kept.bodies (mended kept.bodies left.0 left.1)))

-- and so the keys that they hold
pub keeps_keys : (disk : Disk) (old : KeptState) (s : State) → StandsFor old s → Keeps disk old → CrashLeaves disk log_file (ComesToKeys s.floor s.keys)
keeps_keys disk old s stands keeps = leaves_more disk log_file (ComesTo (state_of old)) (ComesToKeys s.floor s.keys) (stands_comes old s stands) keeps

-- one that is unsure still leaves the rows, or those after the batch that was tried
pub keeps_unsure : (before now : Disk) (old : KeptState) (log : LogState) (unsure : Bool) → old.log.unsure ≡ unsure → unsure ≡ true → log.name ≡ old.log.name
    → ((bodies : List Bytes) (tried : Bytes) → IsLeft unsure before old.log bodies tried → Wavers now log bodies tried)
    → (failed : List Cmds) → IsKept before old failed → KeepsOrMore now old failed
keeps_unsure before now old log false is unsure name left failed kept = absurd (cc)
keeps_unsure before now old log true is unsure name left failed kept =
    let a : Attempted before old.log kept.bodies (state_of old) failed = subst (λ (b : Bool). HoldsBodies b before old.log kept.bodies (state_of old) failed) is kept.holds in
    let batch : Batch = a.record_tried.batch in
    let moment : ℕ = a.record_tried.moment in
    record {
      commands = a.commands;
      among = a.among;
      batch = batch;
      moment = moment;
      later = a.attempt.later;
      of = a.attempt.of;
      leaves = leaves_more now log_file (HasRecordsOrOneMore kept.bodies a.tried) (ComesToEither (state_of old) a.record_tried.batch a.record_tried.moment)
          (λ c one. ⊎_elim
          (λ (e : records c ≡ kept.bodies). inl (kept_comes before old failed kept c e))
          (λ (e : records c ≡ kept.bodies ++ a.tried ∷ []). inr (after_tried a c e))
          one)
          (leaves_at now log.name log_file (HasRecordsOrOneMore kept.bodies a.tried) (name ∙ kept.name) (wavers_records now log kept.bodies a.tried (left kept.bodies a.tried a.wavers)));
    }
  where
    after_tried : (a : Attempted before old.log kept.bodies (state_of old) failed) → (c : Bytes) → records c ≡ kept.bodies ++ a.tried ∷ [] → ComesTo (with_batch (state_of old) a.record_tried.batch a.record_tried.moment) c
    after_tried a c is =
        ap recovered_by (segment_of-records before_all c (kept.bodies ++ a.tried ∷ []) is) ∙ a.attempt.made
        ∙ ap (λ (n : ℕ). Ok (record { rows = after old.rows a.record_tried.batch; floor = a.record_tried.moment; sequence = n })) a.attempt.sequence
