use Rattle.std.proofs.Common.{◌+◌, arith}
use Rattle.std.proofs.lemmas.List.{length-drop}
use Rattle.std.proofs.lemmas.Result.{err_from_is_err_and}
use Rattle.kv_outside.specs.SentLaws.{sent_more, kept_then}
use Rattle.kv_outside.specs.WritingLaws.{front_of}
use Rattle.kv_outside.specs.CauseLaws.{rose_since}
use Rattle.kv_outside.proofs.writing.write_all.Goals as goal

pub loop-done-preserved : goal.loop-done-preserved
loop-done-preserved g c = record {
  sent = sent_more (g.K.Sink.held c.args.sink.now) (g.K.Sink.held c.loop-done.sink) (g.K.Sink.held c.write.new.self) c.loop-done.done c.in_ok-count.count c.args.piece.now c.loop-done.invariant.sent (rw c.split_at.ensures.back at c.in_ok-count.ensures.bytes);
  within = omega (arith, length-drop c.loop-done.done c.args.piece.now, c.in_ok-count.ensures.bound);
  later = omega (arith, c.in_ok-count.ensures.cause.later);
}

pub returns-in_err-count : goal.returns-in_err-count
returns-in_err-count g c =
    let p = err_from_is_err_and c.from_residual.result c.from_residual.ensures.1 in
    rw p.1 (record {
      all = tt;
      front = front_of (g.K.Sink.held c.args.sink.now) (g.K.Sink.held c.write.new.self) c.loop-done.done c.args.piece.now (kept_then _ (g.K.Sink.held c.loop-done.sink) _ _ c.loop-done.invariant.sent c.in_err-count.ensures.bytes);
      later = omega (arith, c.in_err-count.ensures.cause.later);
      failed = rose_since _ _ _ c.loop-done.invariant.later c.in_err-count.ensures.cause.failed;
    })

pub returns-then-count-eq0 : goal.returns-then-count-eq0
returns-then-count-eq0 g c = record {
  all = tt;
  front = front_of (g.K.Sink.held c.args.sink.now) (g.K.Sink.held c.write.new.self) (c.loop-done.done + c.in_ok-count.count) c.args.piece.now
      (sent_more (g.K.Sink.held c.args.sink.now) (g.K.Sink.held c.loop-done.sink) (g.K.Sink.held c.write.new.self) c.loop-done.done c.in_ok-count.count c.args.piece.now c.loop-done.invariant.sent (rw c.split_at.ensures.back at c.in_ok-count.ensures.bytes));
  later = omega (arith, c.in_ok-count.ensures.cause.later);
  failed = rose_since _ _ _ c.loop-done.invariant.later (c.in_ok-count.ensures.stall c.if-count-eq0.true (omega (arith, c.split_at.ensures.back_len)));
}
