use Rattle.std.proofs.Common.{◌∙◌, ap}
use Rattle.lives_model.specs.Plans.{sooner}
use Rattle.set_operations.specs.Combined.{soonest}
use Rattle.set_operations.proofs.Storing.{store_is}
use Rattle.set_operations.proofs.store.store.Goals as goal

pub returns-clause-plan : goal.returns-clause-plan
returns-clause-plan g c =
    let same = c.in_ok-found.ensures.reads.rows in
    store_is (g.V.RawView.told c.args.view.now).rows (g.V.RawView.told c.look_up.new.view).rows (g.V.RawView.told c.look_at_sets.new.view).rows
    c.args.moment c.args.version c.args.how c.args.target.now c.in_ok-meta.meta c.args.keys.now c.in_ok-found.found c.in_ok-lives.lives c.deadline_of.result c.sooner-until.result c.is_some.result c.in_ok-members.members c.in_ok-plan.plan
    c.in_ok-meta.ensures same (c.in_ok-lives.ensures.reads.rows ∙ same)
    c.in_ok-found.ensures.found c.in_ok-lives.ensures.lives (simp c.as_slice-2.ensures at c.in_ok-members.ensures.members)
    c.is_some.ensures c.deadline_of.ensures (c.sooner-until.ensures ∙ ap (sooner c.args.moment c.deadline_of.result) (c.soonest.ensures ∙ ap (soonest c.args.moment) c.as_slice.ensures))
    c.in_ok-plan.ensures
