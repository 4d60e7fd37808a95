use Rattle.std.proofs.Common.{sym, subst}
use Rattle.redis_model.specs.declared.history.Place.{Place}
use Rattle.turn_hall.specs.Passes.{PassOf}
use Rattle.turn_hall.proofs.Turns.{turn_adds}
use Rattle.turn_hall.proofs.hall.Hall.turn.Goals as goal

pub returns-clause-begins : goal.returns-clause-begins
returns-clause-begins g c =
    let t = c.turn.ensures in
    let before = c.deref_mut.result.now.history in
    (turn_adds c.args.pass.now.number c.args.pass.now.free c.turn.new.pass c.args.pass.now.seen before c.turn.new.self.history _ t.seen t.history t.begins t.own).0

pub returns-clause-calls : goal.returns-clause-calls
returns-clause-calls g c =
    let t = c.turn.ensures in
    let before = c.deref_mut.result.now.history in
    (turn_adds c.args.pass.now.number c.args.pass.now.free c.turn.new.pass c.args.pass.now.seen before c.turn.new.self.history _ t.seen t.history t.begins t.own).1

pub returns-clause-jobs : goal.returns-clause-jobs
returns-clause-jobs g c =
    let t = c.turn.ensures in
    let before = c.deref_mut.result.now.history in
    (turn_adds c.args.pass.now.number c.args.pass.now.free c.turn.new.pass c.args.pass.now.seen before c.turn.new.self.history _ t.seen t.history t.begins t.own).2

pub returns-clause-stands : goal.returns-clause-stands
returns-clause-stands g c =
    let left = c.turn.new.self.state in
    (left, subst (λ (p : PassOf Place). g.C.Stands.stands left p.seen) (sym c.turn.ensures.seen) c.turn.ensures.stands)
