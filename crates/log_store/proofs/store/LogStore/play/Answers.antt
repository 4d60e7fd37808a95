use Rattle.std.proofs.Common.{inr, Result, Ok, Err}
use Rattle.std.specs.Prelude.{OnErr}
use Rattle.row_model.specs.Rows.{at}
use Rattle.log_store.specs.Keeping.{KeptState}
use Rattle.log_store.proofs.Appending.{kept_failed, kept_more}
use Rattle.log_store.proofs.Carrying.{IsPlanAt, IsSame, keys_come, keys_stay, of_commands, plays, body_is_planned, same_but_planned, same_kept}
use Rattle.log_store.proofs.store.LogStore.play.Goals as goal

-- what holds anyway holds after a fault
anyway : {T E P : Type 0} (r : Result T E) → P → OnErr r P
anyway (Ok x) p = tt
anyway (Err e) p = p

-- ---- where there is no plan

pub returns-in_err-plan-clause-kept : goal.returns-in_err-plan-clause-kept
returns-in_err-plan-clause-kept g c =
    let mid : KeptState = record { rows = at c.self.inside.table c.self.inside.sequence; floor = c.self.inside.floor; written = c.self.inside.written; log = c.self.inside.log; sequence = c.self.inside.sequence; planned = 0 } in
    let same : IsSame c.args.self.now mid = same_but_planned c.args.self.now mid.rows mid.floor mid.written mid.log mid.sequence c.self.inside.planned 0 c.self.view_is in
    λ failed kept. kept_failed _ c.from_residual.result c.from_residual.ensures.1 (g.F.Files.disk c.args.files.now) mid failed c.args.commands.now
    (kept_more (g.F.Files.disk c.args.files.now) mid failed c.args.commands.now (same_kept (g.F.Files.disk c.args.files.now) c.args.self.now mid failed same kept))

pub returns-in_err-plan-clause-any_moment : goal.returns-in_err-plan-clause-any_moment
returns-in_err-plan-clause-any_moment g c =
    λ sure failed kept s stands. keys_stay (g.F.Files.disk c.args.files.now) c.args.self.now c.args.now c.args.commands.now sure failed kept s stands

-- ---- where it was not carried out

pub returns-in_err-commit-clause-sized : goal.returns-in_err-commit-clause-sized
returns-in_err-commit-clause-sized g c =
    let mid : KeptState = record { rows = at c.self.inside.table c.self.inside.sequence; floor = c.self.inside.floor; written = c.self.inside.written; log = c.self.inside.log; sequence = c.self.inside.sequence; planned = 0 } in
    let same : IsSame c.args.self.now mid = same_but_planned c.args.self.now mid.rows mid.floor mid.written mid.log mid.sequence c.self.inside.planned 0 c.self.view_is in
    let plan : IsPlanAt c.args.self.now mid c.args.now c.args.commands.now c.in_ok-plan.plan.batch c.in_ok-plan.plan.reply c.in_ok-plan.plan.until c.moment_at-moment.result =
    record { same = same; at = c.moment_at-moment.ensures.moment; asked = c.requires.asked; planned = c.in_ok-plan.ensures } in
    anyway c.from_residual-in_err-commit.result (λ s stands. inr (body_is_planned c.args.self.now mid c.args.now c.args.commands.now c.in_ok-plan.plan.batch c.in_ok-plan.plan.reply c.in_ok-plan.plan.until c.moment_at-moment.result c.commit.new.self.planned plan c.commit.ensures.planned s stands))

pub returns-in_err-commit-clause-kept : goal.returns-in_err-commit-clause-kept
returns-in_err-commit-clause-kept g c =
    let mid : KeptState = record { rows = at c.self.inside.table c.self.inside.sequence; floor = c.self.inside.floor; written = c.self.inside.written; log = c.self.inside.log; sequence = c.self.inside.sequence; planned = 0 } in
    let same : IsSame c.args.self.now mid = same_but_planned c.args.self.now mid.rows mid.floor mid.written mid.log mid.sequence c.self.inside.planned 0 c.self.view_is in
    let plan : IsPlanAt c.args.self.now mid c.args.now c.args.commands.now c.in_ok-plan.plan.batch c.in_ok-plan.plan.reply c.in_ok-plan.plan.until c.moment_at-moment.result =
    record { same = same; at = c.moment_at-moment.ensures.moment; asked = c.requires.asked; planned = c.in_ok-plan.ensures } in
    λ failed kept. kept_failed _ c.from_residual-in_err-commit.result c.from_residual-in_err-commit.ensures.1 (g.F.Files.disk c.commit.new.files) c.commit.new.self failed c.args.commands.now
    (c.in_err-commit.ensures.kept c.args.commands.now failed
    (of_commands c.args.self.now mid c.args.now c.args.commands.now c.in_ok-plan.plan.batch c.in_ok-plan.plan.reply c.in_ok-plan.plan.until c.moment_at-moment.result plan)
    (same_kept (g.F.Files.disk c.args.files.now) c.args.self.now mid failed same kept))

pub returns-in_err-commit-clause-any_moment : goal.returns-in_err-commit-clause-any_moment
returns-in_err-commit-clause-any_moment g c =
    let mid : KeptState = record { rows = at c.self.inside.table c.self.inside.sequence; floor = c.self.inside.floor; written = c.self.inside.written; log = c.self.inside.log; sequence = c.self.inside.sequence; planned = 0 } in
    let same : IsSame c.args.self.now mid = same_but_planned c.args.self.now mid.rows mid.floor mid.written mid.log mid.sequence c.self.inside.planned 0 c.self.view_is in
    let plan : IsPlanAt c.args.self.now mid c.args.now c.args.commands.now c.in_ok-plan.plan.batch c.in_ok-plan.plan.reply c.in_ok-plan.plan.until c.moment_at-moment.result =
    record { same = same; at = c.moment_at-moment.ensures.moment; asked = c.requires.asked; planned = c.in_ok-plan.ensures } in
    keys_come (g.F.Files.disk c.args.files.now) (g.F.Files.disk c.commit.new.files) c.args.self.now mid c.args.now c.args.commands.now c.in_ok-plan.plan.batch c.in_ok-plan.plan.reply c.in_ok-plan.plan.until c.moment_at-moment.result plan c.commit.ensures.any_moment

-- ---- where it was

pub returns-clause-ok : goal.returns-clause-ok
returns-clause-ok g c =
    let mid : KeptState = record { rows = at c.self.inside.table c.self.inside.sequence; floor = c.self.inside.floor; written = c.self.inside.written; log = c.self.inside.log; sequence = c.self.inside.sequence; planned = 0 } in
    let same : IsSame c.args.self.now mid = same_but_planned c.args.self.now mid.rows mid.floor mid.written mid.log mid.sequence c.self.inside.planned 0 c.self.view_is in
    let plan : IsPlanAt c.args.self.now mid c.args.now c.args.commands.now c.in_ok-plan.plan.batch c.in_ok-plan.plan.reply c.in_ok-plan.plan.until c.moment_at-moment.result =
    record { same = same; at = c.moment_at-moment.ensures.moment; asked = c.requires.asked; planned = c.in_ok-plan.ensures } in
    plays c.args.self.now mid c.commit.new.self c.args.now c.args.commands.now c.in_ok-plan.plan.batch c.in_ok-plan.plan.reply c.in_ok-plan.plan.until c.moment_at-moment.result c.commit.new.self.planned plan
    c.commit.ensures.planned c.in_ok-commit.ensures.rows c.in_ok-commit.ensures.floor c.in_ok-commit.ensures.written c.in_ok-commit.ensures.sequence

pub returns-clause-body : goal.returns-clause-body
returns-clause-body g c =
    let mid : KeptState = record { rows = at c.self.inside.table c.self.inside.sequence; floor = c.self.inside.floor; written = c.self.inside.written; log = c.self.inside.log; sequence = c.self.inside.sequence; planned = 0 } in
    let same : IsSame c.args.self.now mid = same_but_planned c.args.self.now mid.rows mid.floor mid.written mid.log mid.sequence c.self.inside.planned 0 c.self.view_is in
    let plan : IsPlanAt c.args.self.now mid c.args.now c.args.commands.now c.in_ok-plan.plan.batch c.in_ok-plan.plan.reply c.in_ok-plan.plan.until c.moment_at-moment.result =
    record { same = same; at = c.moment_at-moment.ensures.moment; asked = c.requires.asked; planned = c.in_ok-plan.ensures } in
    λ s stands. body_is_planned c.args.self.now mid c.args.now c.args.commands.now c.in_ok-plan.plan.batch c.in_ok-plan.plan.reply c.in_ok-plan.plan.until c.moment_at-moment.result c.commit.new.self.planned plan c.commit.ensures.planned s stands

pub returns-clause-kept : goal.returns-clause-kept
returns-clause-kept g c =
    let mid : KeptState = record { rows = at c.self.inside.table c.self.inside.sequence; floor = c.self.inside.floor; written = c.self.inside.written; log = c.self.inside.log; sequence = c.self.inside.sequence; planned = 0 } in
    let same : IsSame c.args.self.now mid = same_but_planned c.args.self.now mid.rows mid.floor mid.written mid.log mid.sequence c.self.inside.planned 0 c.self.view_is in
    let plan : IsPlanAt c.args.self.now mid c.args.now c.args.commands.now c.in_ok-plan.plan.batch c.in_ok-plan.plan.reply c.in_ok-plan.plan.until c.moment_at-moment.result =
    record { same = same; at = c.moment_at-moment.ensures.moment; asked = c.requires.asked; planned = c.in_ok-plan.ensures } in
    λ failed kept. c.in_ok-commit.ensures.kept c.args.commands.now failed
    (of_commands c.args.self.now mid c.args.now c.args.commands.now c.in_ok-plan.plan.batch c.in_ok-plan.plan.reply c.in_ok-plan.plan.until c.moment_at-moment.result plan)
    (same_kept (g.F.Files.disk c.args.files.now) c.args.self.now mid failed same kept)

pub returns-clause-any_moment : goal.returns-clause-any_moment
returns-clause-any_moment g c =
    let mid : KeptState = record { rows = at c.self.inside.table c.self.inside.sequence; floor = c.self.inside.floor; written = c.self.inside.written; log = c.self.inside.log; sequence = c.self.inside.sequence; planned = 0 } in
    let same : IsSame c.args.self.now mid = same_but_planned c.args.self.now mid.rows mid.floor mid.written mid.log mid.sequence c.self.inside.planned 0 c.self.view_is in
    let plan : IsPlanAt c.args.self.now mid c.args.now c.args.commands.now c.in_ok-plan.plan.batch c.in_ok-plan.plan.reply c.in_ok-plan.plan.until c.moment_at-moment.result =
    record { same = same; at = c.moment_at-moment.ensures.moment; asked = c.requires.asked; planned = c.in_ok-plan.ensures } in
    keys_come (g.F.Files.disk c.args.files.now) (g.F.Files.disk c.commit.new.files) c.args.self.now mid c.args.now c.args.commands.now c.in_ok-plan.plan.batch c.in_ok-plan.plan.reply c.in_ok-plan.plan.until c.moment_at-moment.result plan c.commit.ensures.any_moment
