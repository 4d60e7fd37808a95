use Rattle.kv_fakes.specs.declared.past.ChangeKind.TheVariants.{Gone}
use Rattle.kv_fakes.proofs.Kept.{presents_added}
use Rattle.kv_fakes.proofs.journal.Journal.remove.Goals as goal

pub invariant_of-self-2 : goal.invariant_of-self-2
invariant_of-self-2 c = presents_added c.self.inside.files.items _ c.self.inside.changes.items _ c.args.name Gone c.self.invariant c.cut_file.ensures c.in_ok-push.ensures.items
