use Rattle.std.proofs.Common.{true, false, refl, sym, subst, List, ℕ, Some}
use Rattle.kv_outside.specs.Disk.{Agrees}
use Rattle.kv_outside.specs.Files.{Shortened}
use Rattle.kv_fakes.specs.declared.past.ChangeKind.TheVariants.{Cut}
use Rattle.kv_fakes.specs.Past.{disk_of}
use Rattle.kv_fakes.proofs.Pushed.{cut_changes, agrees_after}
use Rattle.kv_fakes.proofs.Calls.{changes_or_none, agrees_noted}
use Rattle.kv_fakes.proofs.log.shorten.Goals as goal

pub returns-in_ok-cut-clause-agrees : goal.returns-in_ok-cut-clause-agrees
returns-in_ok-cut-clause-agrees c = λ agrees. subst (λ (l : List ℕ). Agrees (disk_of c.cut.new.self) c.args.log.now.name (Some l)) (sym c.truncate.ensures.items)
    (agrees_after c.args.past.now _ c.args.log.now.name (Cut c.args.len true) c.in_ok-cut.ensures.ok c.args.log.now.bytes.items agrees)

pub returns-in_ok-cut-clause-disk : goal.returns-in_ok-cut-clause-disk
returns-in_ok-cut-clause-disk c = cut_changes c.args.past.now _ c.args.log.now.name c.args.len true c.in_ok-cut.ensures.ok

pub returns-else-done-clause-agrees : goal.returns-else-done-clause-agrees
returns-else-done-clause-agrees c = agrees_noted c.note.result c.args.past.now _ c.args.log.now.name (Cut c.args.len false) c.args.log.now.bytes.items refl c.note.ensures.ok c.note.ensures.err

pub returns-else-done-clause-disk : goal.returns-else-done-clause-disk
returns-else-done-clause-disk c = changes_or_none c.note.result c.args.past.now _ c.args.log.now.name (Cut c.args.len false) (Shortened c.args.len)
    (λ is. cut_changes c.args.past.now _ c.args.log.now.name c.args.len false is) c.note.ensures.ok c.note.ensures.err
