use Rattle.std.proofs.Common.{arith}
use Rattle.resp_wire.proofs.WordsRead.{word_within, word_begins, request_stops, stop_read, stop_fault_inside}
use Rattle.resp_wire.proofs.pending.read_words.Goals as goal

pub overflow_sub-pending : goal.overflow_sub-pending
overflow_sub-pending c =
    let read = rw c.split_at.ensures.back at c.in-Ok.ensures in
    omega (arith, word_within c.args.buf.now c.loop-pending.pending c.loop-pending.invariant.begun c.in-Ok.word.now c.in-Ok.behind.now read)

pub loop-pending-preserved : goal.loop-pending-preserved
loop-pending-preserved c =
    let read = rw c.split_at.ensures.back at c.in-Ok.ensures in
    record {
      begun = rw (c.in_ok-keep-in-Ok.ensures.ok, c.saturating_sub-pending.ensures)
          (word_begins c.args.buf.now c.loop-pending.pending c.loop-pending.invariant.begun c.in-Ok.word.now c.in-Ok.behind.now read c.loop-pending-test.true);
      start = c.loop-pending.invariant.start;
    }

pub returns-in-Err-clause-read : goal.returns-in-Err-clause-read
returns-in-Err-clause-read c =
    let read = rw c.split_at.ensures.back at c.in-Err.ensures in
    rw c.stopped.ensures (stop_read _ _ c.in-Err.stop c.loop-pending-test.true (request_stops c.args.buf.now c.loop-pending.pending c.loop-pending.invariant.begun c.in-Err.stop c.loop-pending-test.true read))

pub returns-in-Err-clause-fault : goal.returns-in-Err-clause-fault
returns-in-Err-clause-fault c =
    let read = rw c.split_at.ensures.back at c.in-Err.ensures in
    rw c.stopped.ensures (stop_fault_inside _ _ c.in-Err.stop c.loop-pending-test.true (request_stops c.args.buf.now c.loop-pending.pending c.loop-pending.invariant.begun c.in-Err.stop c.loop-pending-test.true read))
