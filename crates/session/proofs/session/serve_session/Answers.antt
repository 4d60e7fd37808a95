use Rattle.std.proofs.Common.{◌∙◌, [], refl, arith}
use Rattle.session.proofs.Pulling.{pull_caused, still_unfinished, pulled_few, pulled_on}
use Rattle.session.proofs.Run.{run_begins, run_closes, run_on, run_stops_at, run_spent, pull_stops, stop_caused, finish_caused}
use Rattle.kv_outside.specs.TakenLaws.{nothing_taken}
use Rattle.session.proofs.session.serve_session.Goals as goal

pub loop-taken-init : goal.loop-taken-init
loop-taken-init g c = record {
  run = run_begins g.D.Desk.told c.args.desk.now (g.S.Source.left c.args.source.now) (g.K.Sink.held c.args.sink.now) c.new-output.result.bytes c.new-reader.result c.new-output.ensures.bytes c.new-reader.ensures;
  ended = refl;
  source = omega arith;
  sink = omega arith;
  loans = refl;
}

pub returns-in-Err-clause-session : goal.returns-in-Err-clause-session
returns-in-Err-clause-session g c =
    pull_stops g.D.Desk.told c.args.desk.now c.loop-taken.desk (g.S.Source.left c.args.source.now) (g.S.Source.left c.loop-taken.source) (g.S.Source.left c.pull.new.source) (g.K.Sink.held c.args.sink.now) (g.K.Sink.held c.loop-taken.sink) c.loop-taken.output.bytes c.loop-taken.reader c.pull.new.reader c.loop-taken.taken _ _ _ (g.S.Source.ended c.args.source.now) _ _ c.in-Err.outcome c.loop-taken.invariant.run c.in-Err.ensures.pulled
    (omega (arith, c.loop-taken-test.true, c.min-room.ensures, c.split_at_mut-piece.ensures.front_len))

pub returns-in-Err-clause-caused : goal.returns-in-Err-clause-caused
returns-in-Err-clause-caused g c =
    pull_caused (g.S.Source.left c.loop-taken.source) (g.S.Source.left c.pull.new.source) c.loop-taken.reader c.pull.new.reader _ (g.S.Source.faults c.args.source.now) (g.S.Source.faults c.loop-taken.source) (g.S.Source.faults c.pull.new.source) (g.K.Sink.faults c.args.sink.now) (g.K.Sink.faults c.loop-taken.sink) _ _ c.in-Err.outcome c.in-Err.ensures.pulled c.loop-taken.invariant.source

pub finish-requires : goal.finish-requires
finish-requires g c = still_unfinished (g.S.Source.left c.loop-taken.source) (g.S.Source.left c.pull.new.source) _ _ _ _ c.loop-taken.reader c.pull.new.reader _ c.in-Ok.count c.in-Ok.ensures.pulled c.if-count-eq0.true c.loop-taken.invariant.run.unfinished

pub returns-then-count-eq0-clause-session : goal.returns-then-count-eq0-clause-session
returns-then-count-eq0-clause-session g c =
    run_closes g.D.Desk.told c.args.desk.now c.loop-taken.desk (g.S.Source.left c.args.source.now) (g.S.Source.left c.loop-taken.source) (g.S.Source.left c.pull.new.source) (g.K.Sink.held c.args.sink.now) (g.K.Sink.held c.loop-taken.sink) (g.K.Sink.held c.finish.new.sink)
    c.loop-taken.output.bytes c.loop-taken.reader c.pull.new.reader c.loop-taken.taken c.in-Ok.count _ _ _ (g.K.Sink.faults c.loop-taken.sink) (g.K.Sink.faults c.finish.new.sink) (g.S.Source.ended c.args.source.now) _ _ c.finish.result c.loop-taken.invariant.run c.in-Ok.ensures.pulled c.if-count-eq0.true c.finish.ensures

pub returns-then-count-eq0-clause-caused : goal.returns-then-count-eq0-clause-caused
returns-then-count-eq0-clause-caused g c =
    finish_caused (g.K.Sink.held c.loop-taken.sink) (g.K.Sink.held c.finish.new.sink) (g.K.Sink.faults c.args.sink.now) (g.K.Sink.faults c.loop-taken.sink) (g.K.Sink.faults c.finish.new.sink) c.loop-taken.taken (g.S.Source.faults c.args.source.now) (g.S.Source.faults c.pull.new.source) _ c.finish.result c.finish.ensures c.loop-taken.invariant.sink

pub overflow_add-taken : goal.overflow_add-taken
overflow_add-taken g c = omega (arith, c.loop-taken.invariant.run.within, c.loop-taken-test.true, c.min-room.ensures, c.split_at_mut-piece.ensures.front_len, pulled_few (g.S.Source.left c.loop-taken.source) (g.S.Source.left c.pull.new.source) _ _ _ _ c.loop-taken.reader c.pull.new.reader _ c.in-Ok.count c.in-Ok.ensures.pulled)

pub returns-in-Err-attend-clause-session : goal.returns-in-Err-attend-clause-session
returns-in-Err-attend-clause-session g c =
    run_stops_at g.D.Desk.told c.args.desk.now c.loop-taken.desk c.attend.new.desk (g.S.Source.left c.args.source.now) (g.S.Source.left c.loop-taken.source) (g.S.Source.left c.pull.new.source) (g.K.Sink.held c.args.sink.now) (g.K.Sink.held c.loop-taken.sink) (g.K.Sink.held c.attend.new.sink) (g.K.Sink.held c.stop.new.sink)
    c.loop-taken.output.bytes c.loop-taken.reader c.pull.new.reader c.attend.new.reader c.loop-taken.taken c.in-Ok.count _ _ _ _ (g.K.Sink.faults c.attend.new.sink) (g.K.Sink.faults c.stop.new.sink) (g.S.Source.ended c.args.source.now) _ _ c.in-Err-attend.stopped c.stop.result c.loop-taken.invariant.run c.in-Ok.ensures.pulled c.in-Err-attend.ensures.served c.stop.ensures
    (omega (arith, c.loop-taken-test.true, c.min-room.ensures, c.split_at_mut-piece.ensures.front_len))

pub returns-in-Err-attend-clause-caused : goal.returns-in-Err-attend-clause-caused
returns-in-Err-attend-clause-caused g c =
    stop_caused g.D.Desk.told c.loop-taken.desk c.attend.new.desk (g.K.Sink.held c.loop-taken.sink) (g.K.Sink.held c.attend.new.sink) (g.K.Sink.held c.stop.new.sink) c.loop-taken.output.bytes c.pull.new.reader c.attend.new.reader
    (g.K.Sink.faults c.args.sink.now) (g.K.Sink.faults c.loop-taken.sink) (g.K.Sink.faults c.attend.new.sink) (g.K.Sink.faults c.stop.new.sink) _ (g.S.Source.faults c.args.source.now) (g.S.Source.faults c.pull.new.source) c.in-Err-attend.stopped c.stop.result c.in-Err-attend.ensures.served c.stop.ensures c.loop-taken.invariant.sink c.in-Err-attend.ensures.later

pub loop-taken-preserved : goal.loop-taken-preserved
loop-taken-preserved g c =
    record {
      run = run_on g.D.Desk.told c.args.desk.now c.loop-taken.desk c.attend.new.desk (g.S.Source.left c.args.source.now) (g.S.Source.left c.loop-taken.source) (g.S.Source.left c.pull.new.source) (g.K.Sink.held c.args.sink.now) (g.K.Sink.held c.loop-taken.sink) (g.K.Sink.held c.attend.new.sink) c.loop-taken.output.bytes c.attend.new.output.bytes c.loop-taken.reader c.pull.new.reader c.attend.new.reader c.loop-taken.taken c.in-Ok.count _ _ _ _ _ _ _ _ c.loop-taken.invariant.run c.in-Ok.ensures.pulled c.in_default.ensures.served c.in_default.ensures.empty
          (omega (arith, c.loop-taken-test.true, c.min-room.ensures, c.split_at_mut-piece.ensures.front_len));
      ended = pulled_on (g.S.Source.left c.loop-taken.source) (g.S.Source.left c.pull.new.source) _ _ _ _ c.loop-taken.reader c.pull.new.reader _ c.in-Ok.count c.in-Ok.ensures.pulled (omega (arith, c.if-count-eq0.false)) ∙ c.loop-taken.invariant.ended;
      source = omega (arith, c.loop-taken.invariant.source, c.in-Ok.ensures.later);
      sink = omega (arith, c.loop-taken.invariant.sink, c.attend.ensures.later);
      loans = c.attend.ensures.loans ∙ c.loop-taken.invariant.loans;
    }

pub returns-clause-session : goal.returns-clause-session
returns-clause-session g c =
    run_spent g.D.Desk.told c.args.desk.now c.loop-taken.desk (g.S.Source.left c.args.source.now) (g.S.Source.left c.loop-taken.source) (g.S.Source.left c.loop-taken.source) (g.K.Sink.held c.args.sink.now) (g.K.Sink.held c.loop-taken.sink) c.loop-taken.output.bytes c.loop-taken.reader [] c.loop-taken.taken c.loop-taken.invariant.run (nothing_taken (g.S.Source.left c.loop-taken.source)) refl (g.S.Source.ended c.args.source.now) (g.S.Source.ended c.loop-taken.source) (omega (arith, c.loop-taken.invariant.run.within, c.loop-taken-test.false)) c.loop-taken.invariant.ended
