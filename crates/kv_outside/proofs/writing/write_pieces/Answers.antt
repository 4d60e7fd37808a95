use Rattle.std.proofs.Common.{◌+◌, take, drop, arith}
use Rattle.std.proofs.lemmas.Result.{err_from_is_err_and}
use Rattle.std.specs.List.{flat_map}
use Rattle.kv_outside.specs.WritingLaws.{front_then, pieces_at}
use Rattle.kv_outside.specs.CauseLaws.{rose_since}
use Rattle.kv_outside.proofs.writing.write_pieces.Goals as goal

pub returns-in_err-write_all : goal.returns-in_err-write_all
returns-in_err-write_all g c =
    let p = err_from_is_err_and c.from_residual.result c.from_residual.ensures.1 in
    rw p.1 (record {
      all = tt;
      front = front_then (g.K.Sink.held c.args.sink.now) (g.K.Sink.held c.loop-piece.sink) (g.K.Sink.held c.write_all.new.sink) _ (flat_map (λ piece. piece.now) (take c.loop-piece.piece-index c.args.pieces.now)) (flat_map (λ piece. piece.now) (drop (c.loop-piece.piece-index + 1) c.args.pieces.now)) _
          (pieces_at (λ piece. piece.now) c.args.pieces.now c.loop-piece.piece-index _ c.loop-piece-test.true) c.loop-piece.invariant.sent c.in_err-write_all.ensures.front;
      later = omega (arith, c.in_err-write_all.ensures.later);
      failed = rose_since _ _ _ c.loop-piece.invariant.later c.in_err-write_all.ensures.failed;
    })
