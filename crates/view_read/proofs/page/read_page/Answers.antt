use Rattle.std.proofs.Common.{◌≡◌, Option, Some, None, sym, ap, subst, ◌∙◌, arith, rules}
use Rattle.std.specs.Prelude.{IfSome, nat_eq}
use Rattle.std.specs.List.{starts_with}
use Rattle.kv_base.specs.Map.{Bytes}
use Rattle.kv_base.specs.declared.row.Row.{Row}
use Rattle.lives_model.specs.LiveRowLists.{pairs}
use Rattle.merge_rows.specs.Cursors.{Takes}
use Rattle.kv_outside.specs.RunLaws.{nothing_then}
use Rattle.view_read.proofs.Paging.{whole_of, read_ends, read_past, read_on}
use Rattle.view_read.proofs.page.read_page.Goals as goal

pub returns-in_default-clause-value : goal.returns-in_default-clause-value
returns-in_default-clause-value g c =
    let rows = g.C.Upcoming.rows in
    let step : Takes (rows c.loop-alloc.rows) None (rows c.step.new.self) = subst (λ (o : Option Row). Takes (rows c.loop-alloc.rows) o (rows c.step.new.self)) c.in_default.is c.in_ok-row.ensures.row in
    let fact : IfSome (rows c.args.rows.now) (λ all. pairs c.loop-alloc.found ≡ whole_of c.args.seq c.args.prefix.now c.args.limit all) =
    read_ends c.args.seq c.args.prefix.now c.args.limit (rows c.args.rows.now) (rows c.loop-alloc.rows) (rows c.step.new.self) c.loop-alloc.found c.loop-alloc.front c.loop-alloc.invariant.0 step in
    search (rules, fact)

pub returns-then-not-starts_with-clause-value : goal.returns-then-not-starts_with-clause-value
returns-then-not-starts_with-clause-value g c =
    let rows = g.C.Upcoming.rows in
    let row = c.in-Some.row in
    let step : Takes (rows c.loop-alloc.rows) (Some row) (rows c.step.new.self) = subst (λ (o : Option Row). Takes (rows c.loop-alloc.rows) o (rows c.step.new.self)) c.in-Some.is c.in_ok-row.ensures.row in
    let past = ap (λ (b : Bytes). starts_with nat_eq b c.args.prefix.now) (sym c.bytes.ensures) ∙ sym c.starts_with.ensures.value ∙ c.if-not-starts_with.true in
    let fact : IfSome (rows c.args.rows.now) (λ all. pairs c.loop-alloc.found ≡ whole_of c.args.seq c.args.prefix.now c.args.limit all) =
    read_past c.args.seq c.args.prefix.now c.args.limit (rows c.args.rows.now) (rows c.loop-alloc.rows) (rows c.step.new.self) c.loop-alloc.found c.loop-alloc.front row c.loop-alloc.invariant.0 step c.in_ok-row.ensures.order past in
    search (rules, fact)

pub loop-alloc-preserved : goal.loop-alloc-preserved
loop-alloc-preserved g c =
    let rows = g.C.Upcoming.rows in
    let was = c.loop-alloc.invariant in
    let row = c.in-Some.row in
    let left = c.in_ok-push_shown.field-0 in
    let step : Takes (rows c.loop-alloc.rows) (Some row) (rows c.step.new.self) = subst (λ (o : Option Row). Takes (rows c.loop-alloc.rows) o (rows c.step.new.self)) c.in-Some.is c.in_ok-row.ensures.row in
    let begins = ap (λ (b : Bytes). starts_with nat_eq b c.args.prefix.now) (sym c.bytes.ensures) ∙ sym c.starts_with.ensures.value ∙ c.if-not-starts_with.false in (
      read_on c.args.seq c.args.prefix.now c.args.limit (rows c.args.rows.now) (rows c.loop-alloc.rows) (rows c.step.new.self) c.loop-alloc.found c.push_shown.new.found c.loop-alloc.front row left was.0 step
          (omega (arith, c.len.ensures, c.loop-alloc-test.true)) begins c.in_ok-push_shown.ensures.shown c.in_ok-push_shown.ensures.same.0 c.in_ok-push_shown.ensures.same.1,
      c.step.ensures.off ∙ was.1,
      nothing_then (g.F.Files.disk c.args.files.now) (g.F.Files.disk c.loop-alloc.files) (g.F.Files.disk c.step.new.files) was.2 c.step.ensures.disk,
      omega (arith, was.3, c.step.ensures.later),
    )
