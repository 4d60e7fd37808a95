use Rattle.kv_fakes.proofs.Kept.{presents_noted}
use Rattle.kv_fakes.proofs.journal.Journal.note.Goals as goal

pub invariant_of-self-2 : goal.invariant_of-self-2
invariant_of-self-2 c = presents_noted c.self.inside.files.items c.self.inside.changes.items _ c.args.name c.args.kind c.self.invariant c.requires c.in_ok-push.ensures.items
