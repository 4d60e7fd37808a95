use Rattle.std.proofs.Common.{ap, ◌∙◌, ◌≡◌, Result, Ok, Err, IfOk}
use Rattle.kv_base.specs.Map.{empty}
use Rattle.kv_base.specs.declared.memory.NoMem.{NoMem}
use Rattle.batch_codec.specs.Batches.{Batch, joined}
use Rattle.multi_plans.proofs.Joins.{joined_nothing}
use Rattle.multi_plans.proofs.joining.rebuild.Goals as goal

built : (r : Result Batch NoMem) (b later none first both : Batch) → none ≡ empty → first ≡ joined none b → both ≡ joined first later → IfOk r (λ whole. whole ≡ both) → IfOk r (λ whole. whole ≡ joined b later)
built (Ok whole) b later none first both e f g is = is ∙ g ∙ ap (λ n. joined n later) (f ∙ ap (λ n. joined n b) e) ∙ joined_nothing b later
built (Err fault) b later none first both e f g is = tt

pub returns : goal.returns
returns c = built c.build.result c.args.batch.now c.args.later.now c.new-whole.result c.add_all.new.whole c.add_all-2.new.whole c.new-whole.ensures c.in_ok-add_all.ensures c.in_ok-add_all-2.ensures c.build.ensures
