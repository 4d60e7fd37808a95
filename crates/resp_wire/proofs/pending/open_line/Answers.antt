use Rattle.std.proofs.Common.{refl, sym, ◌∙◌, arith}
use Rattle.resp_wire.specs.declared.stop.NextFault.TheVariants.{NoMem}
use Rattle.resp_wire.proofs.WordsRead.{idle_inside, line_within, line_headed, line_begins, line_skips, idle_at, search_opens, search_fails, if_err, some_of}
use Rattle.resp_wire.proofs.pending.open_line.Goals as goal

pub returns-in-Err-clause-ok : goal.returns-in-Err-clause-ok
returns-in-Err-clause-ok c =
    let read = rw c.split_at.ensures.back at c.in-Err.ensures in
    rw (c.searched.ensures.answer, c.searched.ensures.pending) (search_opens c.args.buf.now c.args.pending.now c.requires.idle c.requires.begins c.in-Err.stop read)

pub returns-in-Err-clause-err : goal.returns-in-Err-clause-err
returns-in-Err-clause-err c =
    let read = rw c.split_at.ensures.back at c.in-Err.ensures in
    rw (c.searched.ensures.answer, c.searched.ensures.pending) (search_fails c.args.buf.now c.args.pending.now c.requires.idle c.requires.begins c.in-Err.stop read)

pub returns-in_err-words-clause-err : goal.returns-in_err-words-clause-err
returns-in_err-words-clause-err c =
    let inside = idle_inside c.args.buf.now c.args.pending.now c.requires.idle in
    let read = rw c.split_at.ensures.back at c.in-Ok.ensures in
    if_err c.from_residual.result NoMem _ c.from_residual.ensures.1 (refl, tt, line_headed c.args.buf.now c.args.pending.now.start inside c.requires.begins c.in-Ok.found.0.now c.in-Ok.found.1.now read c.in_err-words.ensures.err)

pub overflow_sub-pending-2 : goal.overflow_sub-pending-2
overflow_sub-pending-2 c =
    let inside = idle_inside c.args.buf.now c.args.pending.now c.requires.idle in
    let read = rw c.split_at.ensures.back at c.in-Ok.ensures in
    omega (arith, line_within c.args.buf.now c.args.pending.now.start inside c.requires.begins c.in-Ok.found.0.now c.in-Ok.found.1.now read)

pub returns-then-is_empty-clause-ok : goal.returns-then-is_empty-clause-ok
returns-then-is_empty-clause-ok c =
    let inside = idle_inside c.args.buf.now c.args.pending.now c.requires.idle in
    let read = rw c.split_at.ensures.back at c.in-Ok.ensures in
    let within = line_within c.args.buf.now c.args.pending.now.start inside c.requires.begins c.in-Ok.found.0.now c.in-Ok.found.1.now read in (
      idle_at c.args.buf.now _ refl (omega arith) c.requires.idle.idle (c.requires.idle.held.none c.requires.idle.idle),
      omega (arith, within),
      line_skips c.args.buf.now c.args.pending.now.start inside c.requires.begins c.in-Ok.found.0.now c.in-Ok.found.1.now read (sym c.in_ok-words.ensures.ok ∙ c.if-is_empty.ensures.0 refl),
    )

pub returns-clause-ok : goal.returns-clause-ok
returns-clause-ok c =
    let inside = idle_inside c.args.buf.now c.args.pending.now c.requires.idle in
    let read = rw c.split_at.ensures.back at c.in-Ok.ensures in
    let begins = line_begins c.args.buf.now c.args.pending.now.start inside c.requires.begins c.in-Ok.found.0.now c.in-Ok.found.1.now read c.args.pending.now.room (some_of c.in_ok-words.words _ c.in_ok-words.ensures.ok c.if-is_empty.ensures.1) in
    (rw (c.in_ok-words.ensures.ok, c.requires.idle.idle) begins, refl)
