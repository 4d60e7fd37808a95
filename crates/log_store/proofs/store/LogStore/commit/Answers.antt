use Rattle.std.proofs.Common.{rules, inl, ◌≡◌, ◌+◌, List, [], ◌∷◌, ◌++◌, false, refl, sym, ap, subst, ◌∙◌, arith}
use Rattle.kv_outside.specs.Disk.{Touches}
use Rattle.batch_codec.specs.Batches.{after}
use Rattle.redis_model.specs.declared.command.Cmds.{Cmds}
use Rattle.row_model.specs.Rows.{at}
use Rattle.lives_model.specs.JoinedBatchLaws.{after-empty}
use Rattle.log_store.specs.Keeping.{log_file, state_of, ComesToEither, IsKept, KeptState}
use Rattle.log_store.specs.Planned.{IsBatchOf}
use Rattle.log_store.proofs.Appending.{either_rows, kept_added, kept_failed, kept_left, kept_more, kept_still, still_comes}
use Rattle.log_store.specs.PlayLaws.{none_planned}
use Rattle.log_store.proofs.store.LogStore.commit.Goals as goal

-- ---- where there is nothing to write

pub returns-then-self-eq0-clause-rows : goal.returns-then-self-eq0-clause-rows
returns-then-self-eq0-clause-rows g c =
    let none = none_planned c.args.batch.now (sym c.bytes_of-self-inside.ensures.planned ∙ c.if-self-eq0.true) in
    ap (λ (s : KeptState). s.rows) c.self.view_is ∙ sym (ap (after c.args.self.now.rows) none ∙ after-empty c.args.self.now.rows)

pub returns-then-self-eq0-clause-kept : goal.returns-then-self-eq0-clause-kept
returns-then-self-eq0-clause-kept g c = λ commands failed of.
    let same = c.self.view_is in
    kept_still (g.F.Files.disk c.args.files.now) c.args.self.now _ failed (ap (λ (s : KeptState). s.rows) same) (ap (λ (s : KeptState). s.written) same) (ap (λ (s : KeptState). s.log) same) (ap (λ (s : KeptState). s.sequence) same)

pub returns-then-self-eq0-clause-any_moment : goal.returns-then-self-eq0-clause-any_moment
returns-then-self-eq0-clause-any_moment g c = λ sure failed kept.
    still_comes (g.F.Files.disk c.args.files.now) c.args.self.now (ComesToEither (state_of c.args.self.now) c.args.batch.now c.args.moment) sure failed kept (λ bytes comes. inl comes)

-- ---- where nothing was written

pub returns-in_err-table-clause-fault : goal.returns-in_err-table-clause-fault
returns-in_err-table-clause-fault g c =
    let fails = c.in_err-table.ensures.fault (g.F.Files.faults c.args.files.now) (g.F.Files.faults c.args.files.now) in
    search (rules, fails)

pub returns-in_err-table-clause-kept : goal.returns-in_err-table-clause-kept
returns-in_err-table-clause-kept g c = λ commands failed of kept.
    let same = c.self.view_is in
    kept_failed _ c.from_residual.result c.from_residual.ensures.1 (g.F.Files.disk c.args.files.now) _ failed commands
    (kept_more (g.F.Files.disk c.args.files.now) _ failed commands
    (kept_still (g.F.Files.disk c.args.files.now) c.args.self.now _ failed (ap (λ (s : KeptState). s.rows) same) (ap (λ (s : KeptState). s.written) same) (ap (λ (s : KeptState). s.log) same) (ap (λ (s : KeptState). s.sequence) same) kept))

pub returns-in_err-table-clause-any_moment : goal.returns-in_err-table-clause-any_moment
returns-in_err-table-clause-any_moment g c = λ sure failed kept.
    still_comes (g.F.Files.disk c.args.files.now) c.args.self.now (ComesToEither (state_of c.args.self.now) c.args.batch.now c.args.moment) sure failed kept (λ bytes comes. inl comes)

-- ---- where the append failed

pub returns-in_err-append-clause-kept : goal.returns-in_err-append-clause-kept
returns-in_err-append-clause-kept g c = λ ds failed of kept.
    let old : KeptState = record { rows = at c.self.inside.table c.self.inside.sequence; floor = c.self.inside.floor; written = c.self.inside.written; log = c.self.inside.log; sequence = c.self.inside.sequence; planned = c.self.inside.planned } in
    let new : KeptState = record { rows = at c.self.inside.table c.self.inside.sequence; floor = c.self.inside.floor; written = c.self.inside.written; log = c.append.new.log; sequence = c.self.inside.sequence; planned = c.bytes_of-self-inside.result } in
    kept_failed _ c.from_residual-in_err-append.result c.from_residual-in_err-append.ensures.1 (g.F.Files.disk c.append.new.files) new failed ds
    (subst (λ (s : KeptState). IsBatchOf s.rows c.args.moment s.sequence ds c.args.batch.now → IsKept (g.F.Files.disk c.args.files.now) s failed → IsKept (g.F.Files.disk c.append.new.files) new (failed ++ ds ∷ [])) c.self.view_is
    (kept_left (g.F.Files.disk c.args.files.now) (g.F.Files.disk c.append.new.files) old new c.self.inside.log c.append.new.log
    c.args.batch.now c.args.moment c.in_ok-table.field-0.body (omega arith) c.in_ok-table.ensures.write refl refl c.in_err-append.ensures.left c.append.ensures.name refl ds failed)
    of kept)

pub returns-in_err-append-clause-any_moment : goal.returns-in_err-append-clause-any_moment
returns-in_err-append-clause-any_moment g c =
    let old : KeptState = record { rows = at c.self.inside.table c.self.inside.sequence; floor = c.self.inside.floor; written = c.self.inside.written; log = c.self.inside.log; sequence = c.self.inside.sequence; planned = c.self.inside.planned } in
    subst (λ (s : KeptState). s.log.unsure ≡ false → (failed : List Cmds) → IsKept (g.F.Files.disk c.args.files.now) s failed
    → Touches log_file (g.F.Files.disk c.args.files.now) (g.F.Files.disk c.append.new.files) (ComesToEither (state_of s) c.args.batch.now c.args.moment)) c.self.view_is
    (either_rows (g.F.Files.disk c.args.files.now) (g.F.Files.disk c.append.new.files) old c.self.inside.log
    c.args.batch.now c.args.moment c.in_ok-table.field-0.body (omega arith) c.in_ok-table.ensures.write refl c.append.ensures.any_moment)

-- ---- where the batch is in the log

pub returns-clause-kept : goal.returns-clause-kept
returns-clause-kept g c = λ commands failed of.
    let old : KeptState = record { rows = at c.self.inside.table c.self.inside.sequence; floor = c.self.inside.floor; written = c.self.inside.written; log = c.self.inside.log; sequence = c.self.inside.sequence; planned = c.self.inside.planned } in
    let new : KeptState = record { rows = at c.in_ok-table.field-0.table (c.self.inside.sequence + 1); floor = c.args.moment; written = c.args.moment; log = c.append.new.log; sequence = c.self.inside.sequence + 1; planned = c.bytes_of-self-inside.result } in
    subst (λ (s : KeptState). IsKept (g.F.Files.disk c.args.files.now) s failed → IsKept (g.F.Files.disk c.append.new.files) new failed) c.self.view_is
    (kept_added (g.F.Files.disk c.args.files.now) (g.F.Files.disk c.append.new.files) old new c.self.inside.log c.append.new.log
    c.args.batch.now c.args.moment c.in_ok-table.field-0.body (omega arith) c.in_ok-table.ensures.write refl refl c.in_ok-append.ensures.added c.in_ok-append.ensures.sure c.append.ensures.name
    (λ i. record { rows = c.in_ok-table.ensures.rows i; floor = c.args.moment; sequence = c.self.inside.sequence + 1 }) failed)

pub returns-clause-any_moment : goal.returns-clause-any_moment
returns-clause-any_moment g c =
    let old : KeptState = record { rows = at c.self.inside.table c.self.inside.sequence; floor = c.self.inside.floor; written = c.self.inside.written; log = c.self.inside.log; sequence = c.self.inside.sequence; planned = c.self.inside.planned } in
    subst (λ (s : KeptState). s.log.unsure ≡ false → (failed : List Cmds) → IsKept (g.F.Files.disk c.args.files.now) s failed
    → Touches log_file (g.F.Files.disk c.args.files.now) (g.F.Files.disk c.append.new.files) (ComesToEither (state_of s) c.args.batch.now c.args.moment)) c.self.view_is
    (either_rows (g.F.Files.disk c.args.files.now) (g.F.Files.disk c.append.new.files) old c.self.inside.log
    c.args.batch.now c.args.moment c.in_ok-table.field-0.body (omega arith) c.in_ok-table.ensures.write refl c.append.ensures.any_moment)
