use Rattle.std.proofs.Common.{◌∙◌, List, ℕ, subst}
use Rattle.kv_fakes.specs.declared.past.ChangeKind.TheVariants.{Placed}
use Rattle.kv_fakes.specs.Content.{Rewrites}
use Rattle.kv_fakes.proofs.Kept.{presents_added}
use Rattle.kv_fakes.proofs.journal.Journal.place.Goals as goal

pub invariant_of-self-in-Ok : goal.invariant_of-self-in-Ok
invariant_of-self-in-Ok c = presents_added c.self.inside.files.items _ c.self.inside.changes.items _ c.args.name (Placed c.args.bytes) c.self.invariant
    (subst (λ (l : List ℕ). Rewrites c.self.inside.files.items c.place_file.new.files.items c.args.name (λ old. l)) (c.in_ok-copy.ensures.items ∙ c.bytes-2.ensures) c.in-Ok.ensures.ok)
    c.in_ok-push.ensures.items
