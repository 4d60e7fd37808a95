use Rattle.std.proofs.Common.{ap, subst, IfSome}
use Rattle.std.specs.Arc.{arc_value}
use Rattle.merge_rows.specs.Cursors.{AreInOrder}
use Rattle.sst_file.specs.States.{CursorState}
use Rattle.sst_file.proofs.Exits.{on_ok}
use Rattle.sst_file.proofs.WalkSteps.{unread_in_order}
use Rattle.sst_file.proofs.cursor.TableCursorCursor.step.Goals as goal

pub returns-clause-order : goal.returns-clause-order
returns-clause-order g c =
    let it = c.self.inside in
    let p = arc_value it.parts in
    on_ok _ _ (subst (λ o. IfSome o AreInOrder) (ap (λ (s : CursorState). s.rows) c.self.view_is)
    (unread_in_order it.from it.walk.rest it.walk.next p.spots.items (g.F.Files.sealed_bytes p.file) c.self.invariant.1))
