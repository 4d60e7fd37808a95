use Rattle.std.proofs.Common.{◌∙◌, ap, true}
use Rattle.kv_fakes.specs.declared.past.ChangeKind.TheVariants.{Written}
use Rattle.kv_fakes.specs.Past.{with_change}
use Rattle.kv_fakes.proofs.Kept.{presents_added}
use Rattle.kv_fakes.proofs.journal.Journal.write.Goals as goal

pub invariant_of-self-in-Ok : goal.invariant_of-self-in-Ok
invariant_of-self-in-Ok c = presents_added c.self.inside.files.items _ c.self.inside.changes.items _ c.args.name (Written c.args.at c.args.piece.now true) c.self.invariant c.in-Ok.ensures.ok
    (c.in_ok-push.ensures.items ∙ ap (λ b. with_change c.self.inside.changes.items c.args.name (Written c.args.at b true)) c.in_ok-bytes.ensures)
