use Rattle.std.proofs.Common.{◌+◌, ◌∙◌, ◌<◌, ◌≤◌, ap, arith, length, List, ℕ}
use Rattle.kv_outside.specs.ToldLaws.{held_long, torn_long, told_leads}
use Rattle.record_body.specs.FramedLaws.{length-framed}
use Rattle.gated_log.specs.States.{LogState}
use Rattle.gated_log.proofs.Calls.{on_err}
use Rattle.gated_log.proofs.Keeping.{staged_tells, staged_rests, staged_run, staged_before, staged_either, whole_tells, whole_shows, left_rests, left_tells, gate_tells, gate_wavers, gate_run, gate_told, gate_shown, opened_at, append_run, behind_gate, still_at_gate}
use Rattle.gated_log.proofs.log.GatedLog.append.Goals as goal

pub returns-in_err-store-clause-not_added : goal.returns-in_err-store-clause-not_added
returns-in_err-store-clause-not_added g c = on_err c.from_residual.result (λ bodies rests.
    left_rests _ _ _ bodies c.args.body.now (ap (λ (s : LogState). s.unsure) c.self.view_is ∙ c.requires)
    (staged_rests _ _ c.self.view_is _ _ _ bodies _ c.store.ensures.tried rests _ c.store.ensures.name))

pub returns-in_err-store-clause-told_left : goal.returns-in_err-store-clause-told_left
returns-in_err-store-clause-told_left g c = on_err c.from_residual.result (λ bodies tells.
    left_tells _ _ bodies c.args.body.now (ap (λ (s : LogState). s.unsure) c.self.view_is ∙ c.requires)
    (staged_tells _ _ c.self.view_is _ _ _ bodies _ c.store.ensures.tried tells))

pub returns-in_err-store-clause-any_moment : goal.returns-in_err-store-clause-any_moment
returns-in_err-store-clause-any_moment g c = λ bodies rests.
    staged_either _ _ c.self.view_is _ _ _ bodies _ c.store.ensures.tried rests c.args.body.now

pub returns-in_err-store-clause-not_tried : goal.returns-in_err-store-clause-not_tried
returns-in_err-store-clause-not_tried g c = on_err c.from_residual.result (λ sure bodies rests.
    staged_before _ _ c.self.view_is _ _ _ bodies _ c.store.ensures.tried rests)

pub returns-in_err-store-2-clause-not_added : goal.returns-in_err-store-2-clause-not_added
returns-in_err-store-2-clause-not_added g c = on_err c.from_residual-in_err-store-2.result (λ bodies rests.
    let wavers = whole_shows _ _ c.self.view_is _ _ _ bodies _ c.store.ensures.tried c.args.body.now c.framed-framed.ensures.framed (omega (arith, c.framed-framed.ensures.limit)) c.self.invariant.in_range c.in_ok-store.ensures.stored _ c.store.ensures.name rests in
    gate_wavers _ _ _ _ _ _ _ bodies c.args.body.now c.store-2.ensures.tried wavers _ c.store-2.ensures.name)

pub returns-in_err-store-2-clause-told_left : goal.returns-in_err-store-2-clause-told_left
returns-in_err-store-2-clause-told_left g c = on_err c.from_residual-in_err-store-2.result (λ bodies tells.
    let tried = whole_tells _ _ c.self.view_is _ _ _ bodies _ c.store.ensures.tried c.args.body.now c.framed-framed.ensures.framed (omega (arith, c.framed-framed.ensures.limit)) c.self.invariant.in_range c.in_ok-store.ensures.stored tells in
    gate_tells _ _ _ _ _ _ _ bodies c.args.body.now c.store-2.ensures.tried tried)

pub returns-in_err-store-2-clause-any_moment : goal.returns-in_err-store-2-clause-any_moment
returns-in_err-store-2-clause-any_moment g c = λ bodies rests.
    let wavers = whole_shows _ _ c.self.view_is _ _ _ bodies _ c.store.ensures.tried c.args.body.now c.framed-framed.ensures.framed (omega (arith, c.framed-framed.ensures.limit)) c.self.invariant.in_range c.in_ok-store.ensures.stored _ c.store.ensures.name rests in
    append_run _ _ _ _ _ _ bodies c.args.body.now c.self.view_is c.store.ensures.name
    (staged_run _ _ c.self.view_is _ _ _ bodies _ c.store.ensures.tried rests)
    (gate_run _ _ _ _ _ _ _ bodies c.args.body.now c.store-2.ensures.tried wavers)

pub invariant_of-self-2 : goal.invariant_of-self-2
invariant_of-self-2 g c = record {
  small = omega (arith, c.in_ok-store.ensures.limit);
  in_range =
      let n = length c.framed-framed.result.now in
      let end = c.self.inside.end in
      let whole = held_long (end + 1) c.framed-framed.result.now _ _ c.in_ok-store.ensures.stored.written (behind_gate end _ c.self.invariant.in_range) in
      let last = torn_long end 1 (end + 1 + n) _ _ c.store-2.ensures.tried.torn whole in
      told_leads (λ (d : List ℕ). end + 1 + n ≤ length d) (λ (d : List ℕ). end + n < length d) (λ d le. omega (arith, le)) _ last;
}

pub returns-clause-added : goal.returns-clause-added
returns-clause-added g c = λ bodies rests.
    let wavers = whole_shows _ _ c.self.view_is _ _ _ bodies _ c.store.ensures.tried c.args.body.now c.framed-framed.ensures.framed (omega (arith, c.framed-framed.ensures.limit)) c.self.invariant.in_range c.in_ok-store.ensures.stored _ c.store.ensures.name rests in
    gate_shown _ _ _ _ _ _ _ bodies c.args.body.now c.store-2.ensures.tried _ (still_at_gate _ _ _ _ c.self.invariant.in_range c.in_ok-store.ensures.stored.written) c.in_ok-store-2.ensures.stored
    (opened_at _ _ bodies c.args.body.now (ap (λ (l : List ℕ). c.self.inside.end + length l) c.framed-framed.ensures.framed)) _ c.store-2.ensures.name wavers

pub returns-clause-told : goal.returns-clause-told
returns-clause-told g c = λ bodies tells.
    let tried = whole_tells _ _ c.self.view_is _ _ _ bodies _ c.store.ensures.tried c.args.body.now c.framed-framed.ensures.framed (omega (arith, c.framed-framed.ensures.limit)) c.self.invariant.in_range c.in_ok-store.ensures.stored tells in
    gate_told _ _ _ _ _ _ _ bodies c.args.body.now c.store-2.ensures.tried _ (still_at_gate _ _ _ _ c.self.invariant.in_range c.in_ok-store.ensures.stored.written) c.in_ok-store-2.ensures.stored
    (opened_at _ _ bodies c.args.body.now (ap (λ (l : List ℕ). c.self.inside.end + length l) c.framed-framed.ensures.framed)) tried

pub returns-clause-end : goal.returns-clause-end
returns-clause-end g c = omega (arith, ap length c.framed-framed.ensures.framed, length-framed c.args.body.now, ap (λ (s : LogState). s.end) c.self.view_is)

pub returns-clause-any_moment : goal.returns-clause-any_moment
returns-clause-any_moment g c = λ bodies rests.
    let wavers = whole_shows _ _ c.self.view_is _ _ _ bodies _ c.store.ensures.tried c.args.body.now c.framed-framed.ensures.framed (omega (arith, c.framed-framed.ensures.limit)) c.self.invariant.in_range c.in_ok-store.ensures.stored _ c.store.ensures.name rests in
    append_run _ _ _ _ _ _ bodies c.args.body.now c.self.view_is c.store.ensures.name
    (staged_run _ _ c.self.view_is _ _ _ bodies _ c.store.ensures.tried rests)
    (gate_run _ _ _ _ _ _ _ bodies c.args.body.now c.store-2.ensures.tried wavers)
