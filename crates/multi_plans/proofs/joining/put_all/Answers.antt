use Rattle.std.proofs.Common.{ap, sym, ◌∙◌, arith}
use Rattle.std.specs.Prelude.{option_map}
use Rattle.kv_base.specs.Map.{insert}
use Rattle.multi_plans.proofs.Joins.{joined_next, joined_all, entry_there, row_there}
use Rattle.multi_plans.proofs.joining.put_all.Goals as goal
use Rattle.multi_plans.proofs.joining.put_all.Goals.{in-Some+in_ok-put, in_default}

pub put-requires : goal.put-requires
put-requires c = row_there c.args.later.now.entries c.loop-at.at c.in-Some.raw.now (option_map (λ bytes. bytes.now) c.in-Some.value) c.len-at-end.ensures.grammar c.in-Some.ensures

pub loop-at-preserved : goal.loop-at-preserved
loop-at-preserved c =
    let i = c.loop-at.at in
    let count = c.len-at-end.ensures.count in
    elim c.match-entry.branch [
      | in-Some+in_ok-put w ↦
          let value = option_map (λ bytes. bytes.now) w.in-Some.value in
          w.whole-is ∙ w.in_ok-put.ensures ∙ ap (λ now. insert now w.in-Some.raw.now value) c.loop-at.invariant
          ∙ sym (joined_next c.args.whole.now c.args.later.now i w.in-Some.raw.now value (omega arith) w.in-Some.ensures)
      | in_default w ↦ absurd (entry_there c.args.later.now i (omega arith) w.in_default.ensures)
    ]

pub returns : goal.returns
returns c = let count = c.len-at-end.ensures.count in c.loop-at.invariant ∙ joined_all c.args.whole.now c.args.later.now c.loop-at.at (omega arith)
