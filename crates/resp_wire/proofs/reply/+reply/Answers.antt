use Rattle.std.proofs.Common.{◌+◌, [], drop, sym, ap, subst, ◌∙◌, arith}
use Rattle.std.proofs.lemmas.Result.{err_from_is_err_and}
use Rattle.std.specs.List.{flat_map}
use Rattle.std.specs.Io.KnownBytes.{Appends}
use Rattle.kv_outside.specs.CauseLaws.{rose_since}
use Rattle.kv_outside.specs.SentLaws.{nothing_sent, sent_then}
use Rattle.kv_outside.specs.WritingLaws.{front_then, writes_as}
use Rattle.redis_model.specs.Render.{render}
use Rattle.redis_model.specs.RenderLaws.{render-Ok, render-Pong, render-Null, render-NullArray, render-Array}
use Rattle.resp_wire.proofs.ReplyPieces.{array_until, array_start, array_more, array_end, array_behind_part}
use Rattle.resp_wire.proofs.reply.+reply.Goals as goal

pub write_reply-returns-in-Ok : goal.write_reply-returns-in-Ok
write_reply-returns-in-Ok g t c = writes_as _ _ _ _ _ _ _ (sym (ap render c.in-Ok.is ∙ render-Ok)) c.write_all.ensures

pub write_reply-returns-in-Pong : goal.write_reply-returns-in-Pong
write_reply-returns-in-Pong g t c = writes_as _ _ _ _ _ _ _ (sym (ap render c.in-Pong.is ∙ render-Pong)) c.write_all-in-Pong.ensures

pub write_reply-returns-in-Null : goal.write_reply-returns-in-Null
write_reply-returns-in-Null g t c = writes_as _ _ _ _ _ _ _ (sym (ap render c.in-Null.is ∙ render-Null)) c.write_all-in-Null.ensures

pub write_reply-returns-in-NullArray : goal.write_reply-returns-in-NullArray
write_reply-returns-in-NullArray g t c = writes_as _ _ _ _ _ _ _ (sym (ap render c.in-NullArray.is ∙ render-NullArray)) c.write_all-in-NullArray.ensures

pub write_array-returns-in_err-write_array_line : goal.write_array-returns-in_err-write_array_line
write_array-returns-in_err-write_array_line g t c =
    let p = err_from_is_err_and c.from_residual.result c.from_residual.ensures.1 in
    rw p.1 (record {
      all = tt;
      front = front_then (g.K.Sink.held c.args.sink.now) (g.K.Sink.held c.args.sink.now) (g.K.Sink.held c.write_array_line.new.sink) _ [] (flat_map render c.args.parts.now) _
          (render-Array c.args.parts.now) (nothing_sent (g.K.Sink.held c.args.sink.now)) c.in_err-write_array_line.ensures.front;
      later = c.in_err-write_array_line.ensures.later;
      failed = c.in_err-write_array_line.ensures.failed;
    })

pub write_array-loop-part-init : goal.write_array-loop-part-init
write_array-loop-part-init g t c = record {
  sent = subst (Appends (g.K.Sink.held c.args.sink.now) (g.K.Sink.held c.write_array_line.new.sink)) (array_start c.args.parts.now) c.in_ok-write_array_line.ensures.all;
  later = c.in_ok-write_array_line.ensures.later;
}

pub write_array-loop-part-preserved : goal.write_array-loop-part-preserved
write_array-loop-part-preserved g t c = record {
  sent = subst (Appends (g.K.Sink.held c.args.sink.now) (g.K.Sink.held c.write_reply.new.sink)) (array_more c.args.parts.now c.loop-part.part-index c.part-item.result c.loop-part-test.true c.part-item.is)
      (sent_then (g.K.Sink.held c.args.sink.now) (g.K.Sink.held c.loop-part.sink) (g.K.Sink.held c.write_reply.new.sink) (array_until c.args.parts.now c.loop-part.part-index) _ c.loop-part.invariant.sent c.in_ok-write_reply.ensures.all);
  later = omega (arith, c.in_ok-write_reply.ensures.later);
}

pub write_array-returns-in_err-write_reply : goal.write_array-returns-in_err-write_reply
write_array-returns-in_err-write_reply g t c =
    let p = err_from_is_err_and c.from_residual-in_err-write_reply.result c.from_residual-in_err-write_reply.ensures.1 in
    rw p.1 (record {
      all = tt;
      front = front_then (g.K.Sink.held c.args.sink.now) (g.K.Sink.held c.loop-part.sink) (g.K.Sink.held c.write_reply.new.sink) _ (array_until c.args.parts.now c.loop-part.part-index) (flat_map render (drop (c.loop-part.part-index + 1) c.args.parts.now)) _
          (array_behind_part c.args.parts.now c.loop-part.part-index c.part-item.result c.loop-part-test.true c.part-item.is) c.loop-part.invariant.sent c.in_err-write_reply.ensures.front;
      later = omega (arith, c.in_err-write_reply.ensures.later);
      failed = rose_since _ _ _ c.loop-part.invariant.later c.in_err-write_reply.ensures.failed;
    })

pub write_array-returns : goal.write_array-returns
write_array-returns g t c = record {
  all = subst (Appends (g.K.Sink.held c.args.sink.now) (g.K.Sink.held c.loop-part.sink)) (array_end c.args.parts.now c.loop-part.part-index (omega (arith, c.loop-part-test.false))) c.loop-part.invariant.sent;
  front = tt;
  later = c.loop-part.invariant.later;
  failed = tt;
}
