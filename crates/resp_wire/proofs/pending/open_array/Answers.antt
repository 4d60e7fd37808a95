use Rattle.std.proofs.Common.{refl, arith}
use Rattle.resp_wire.proofs.WordsRead.{idle_inside, array_stops, array_within, array_begins, array_skips, idle_at, stop_opens, stop_fails}
use Rattle.resp_wire.proofs.pending.open_array.Goals as goal

pub returns-in-Err-clause-ok : goal.returns-in-Err-clause-ok
returns-in-Err-clause-ok c =
    let inside = idle_inside c.args.buf.now c.args.pending.now c.requires.idle in
    rw c.unopened.ensures (stop_opens c.args.buf.now c.args.pending.now c.in-Err.stop c.requires.idle (array_stops c.args.buf.now c.args.pending.now.start c.args.behind.now inside c.requires.here c.in-Err.stop c.in-Err.ensures))

pub returns-in-Err-clause-err : goal.returns-in-Err-clause-err
returns-in-Err-clause-err c =
    let inside = idle_inside c.args.buf.now c.args.pending.now c.requires.idle in
    rw c.unopened.ensures (stop_fails c.args.buf.now c.args.pending.now c.in-Err.stop (array_stops c.args.buf.now c.args.pending.now.start c.args.behind.now inside c.requires.here c.in-Err.stop c.in-Err.ensures))

pub overflow_sub-pending : goal.overflow_sub-pending
overflow_sub-pending c =
    let inside = idle_inside c.args.buf.now c.args.pending.now c.requires.idle in
    omega (arith, array_within c.args.buf.now c.args.pending.now.start c.args.behind.now inside c.requires.here c.in-Ok.found.0 c.in-Ok.found.1.now c.in-Ok.ensures)

pub returns-then-count-eq0-clause-ok : goal.returns-then-count-eq0-clause-ok
returns-then-count-eq0-clause-ok c =
    let inside = idle_inside c.args.buf.now c.args.pending.now c.requires.idle in
    let within = array_within c.args.buf.now c.args.pending.now.start c.args.behind.now inside c.requires.here c.in-Ok.found.0 c.in-Ok.found.1.now c.in-Ok.ensures in (
      idle_at c.args.buf.now _ refl (omega arith) c.requires.idle.idle (c.requires.idle.held.none c.requires.idle.idle),
      omega (arith, within),
      array_skips c.args.buf.now c.args.pending.now.start c.args.behind.now inside c.requires.here c.in-Ok.found.0 c.in-Ok.found.1.now c.in-Ok.ensures (omega arith),
    )

pub returns-clause-ok : goal.returns-clause-ok
returns-clause-ok c =
    let inside = idle_inside c.args.buf.now c.args.pending.now c.requires.idle in
    let begins = array_begins c.args.buf.now c.args.pending.now.start c.args.behind.now inside c.requires.here c.in-Ok.found.0 c.in-Ok.found.1.now c.in-Ok.ensures (omega arith) in
    (rw (c.requires.idle.held.none c.requires.idle.idle) begins, refl)
