use Rattle.std.proofs.Common.{true, false, length, refl}
use Rattle.kv_outside.specs.Files.{Torn}
use Rattle.kv_fakes.specs.declared.past.ChangeKind.TheVariants.{Written}
use Rattle.kv_fakes.proofs.Pushed.{write_changes}
use Rattle.kv_fakes.proofs.Calls.{changes_or_none, agrees_or_none, agrees_noted}
use Rattle.kv_fakes.proofs.log.write.Goals as goal

pub returns-then-done-clause-agrees : goal.returns-then-done-clause-agrees
returns-then-done-clause-agrees c = agrees_or_none c.write_both.result c.args.past.now _ c.args.log.now.name (Written c.args.at c.args.piece.now true) c.args.log.now.bytes.items _
    c.write_both.ensures.added c.write_both.ensures.none c.write_both.ensures.bytes c.write_both.ensures.kept

pub returns-then-done-clause-disk : goal.returns-then-done-clause-disk
returns-then-done-clause-disk c = changes_or_none c.write_both.result c.args.past.now _ c.args.log.now.name (Written c.args.at c.args.piece.now true) (Torn c.args.at (length c.args.piece.now))
    (λ is. write_changes c.args.past.now _ c.args.log.now.name c.args.at c.args.piece.now true is) c.write_both.ensures.added c.write_both.ensures.none

pub returns-else-done-clause-agrees : goal.returns-else-done-clause-agrees
returns-else-done-clause-agrees c = agrees_noted c.try_write.result c.args.past.now _ c.args.log.now.name (Written c.args.at c.args.piece.now false) c.args.log.now.bytes.items refl
    c.try_write.ensures.added c.try_write.ensures.none

pub returns-else-done-clause-disk : goal.returns-else-done-clause-disk
returns-else-done-clause-disk c = changes_or_none c.try_write.result c.args.past.now _ c.args.log.now.name (Written c.args.at c.args.piece.now false) (Torn c.args.at (length c.args.piece.now))
    (λ is. write_changes c.args.past.now _ c.args.log.now.name c.args.at c.args.piece.now false is) c.try_write.ensures.added c.try_write.ensures.none
