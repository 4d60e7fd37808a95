use Rattle.std.proofs.Common.{◌∙◌, sym, ap, length, arith}
use Rattle.kv_base.specs.RowRefs.{row_seen}
use Rattle.log_store.proofs.Paging.{none_to_come, page_begins, page_ends, page_goes_on, page_is_full, page_is_past, taken}
use Rattle.log_store.proofs.page.first_rows.Goals as goal

pub loop-row-init : goal.loop-row-init
loop-row-init c =
    page_begins c.args.table.now c.args.sequence c.args.from.now c.args.prefix.now c.greater.result.now c.args.limit c.new-found.result c.rows_from-rows.result
    c.new-found.ensures c.rows_from-rows.ensures.order c.greater.ensures c.rows_from-rows.ensures.rows

pub returns-then-len-limit : goal.returns-then-len-limit
returns-then-len-limit c =
    page_is_full c.args.table.now c.args.sequence c.args.from.now c.args.prefix.now c.args.limit c.loop-row.found _ c.loop-row.rows c.loop-row.invariant (omega (arith, c.len.ensures))

pub returns-then-not-starts_with : goal.returns-then-not-starts_with
returns-then-not-starts_with c =
    page_is_past c.args.table.now c.args.sequence c.args.from.now c.args.prefix.now c.args.limit c.loop-row.found _ c.loop-row.rows c.next.new.self (row_seen c.in-Some.row) c.loop-row.invariant
    (taken c.loop-row.rows c.next.new.self (row_seen c.in-Some.row) c.in-Some.ensures.row c.in-Some.ensures.rest) (sym c.starts_with.ensures.value ∙ c.if-not-starts_with.true)

pub loop-row-preserved : goal.loop-row-preserved
loop-row-preserved c =
    page_goes_on c.args.table.now c.args.sequence c.args.from.now c.args.prefix.now c.args.limit c.loop-row.found c.push_shown.new.found _ c.loop-row.rows c.next.new.self (row_seen c.in-Some.row) c.loop-row.invariant
    (taken c.loop-row.rows c.next.new.self (row_seen c.in-Some.row) c.in-Some.ensures.row c.in-Some.ensures.rest)
    (omega (arith, c.len.ensures, c.loop-row.invariant.room, c.if-len-limit.false)) (sym c.starts_with.ensures.value ∙ c.if-not-starts_with.false) c.in_ok-push_shown.ensures

pub returns : goal.returns
returns c =
    page_ends c.args.table.now c.args.sequence c.args.from.now c.args.prefix.now c.args.limit c.loop-row.found _ c.loop-row.rows c.loop-row.invariant (none_to_come c.loop-row.rows c.in_default.ensures.row)
