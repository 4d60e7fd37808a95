use Rattle.std.proofs.Common.{◌∙◌, ap}
use Rattle.kv_fakes.specs.declared.past.ChangeKind.TheVariants.{Placed}
use Rattle.kv_fakes.specs.Past.{with_change}
use Rattle.kv_fakes.proofs.Kept.{placed_step}
use Rattle.kv_fakes.proofs.journal.Journal.crash.Goals as goal

pub loop-file-preserved : goal.loop-file-preserved
loop-file-preserved c = λ name. placed_step c.loop-file.files.items c.pop.new.self.items c.in-Some.file c.loop-file.record c.place.new.self name _ c.in-Some.ensures.items
    (c.in_ok-place.ensures.ok ∙ ap (λ b. with_change c.loop-file.record c.in-Some.file.name (Placed b)) c.from_vec.ensures) (c.loop-file.invariant name)
