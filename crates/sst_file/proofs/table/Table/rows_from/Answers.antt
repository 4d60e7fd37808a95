use Rattle.std.proofs.Common.{ap, sym, subst, ◌∙◌, drop, IfSome}
use Rattle.std.specs.Arc.{arc_value}
use Rattle.sst_file.specs.States.{TableState, StandsForTable}
use Rattle.sst_file.specs.Walking.{AreAhead, rows_unread}
use Rattle.sst_file.proofs.WalkSteps.{walk_begins, walk_tells}
use Rattle.sst_file.proofs.table.Table.rows_from.Goals as goal

pub invariant_of-result : goal.invariant_of-result
invariant_of-result g c =
    let p = arc_value c.self.inside.parts in
    subst (λ q. StandsForTable q.spots.items q.bits q.desc (g.F.Files.sealed_bytes q.file) × IfSome (g.F.Files.sealed_bytes q.file) (AreAhead c.new.result.rest (drop c.new.result.next q.spots.items)))
    (sym c.in_ok-try_clone.ensures) (
      c.self.invariant,
      walk_begins c.args.raw.now c.new.result.rest c.first_block-next.result c.new.result.next p.spots.items c.as_slice.result.now p.bits p.desc c.new.ensures.rest c.new.ensures.next
          (c.as_slice.ensures.value ∙ ap (λ q. q.spots.items) c.deref.ensures) c.first_block-next.ensures.split (g.F.Files.sealed_bytes p.file) c.self.invariant,
    )

pub returns-clause-rows : goal.returns-clause-rows
returns-clause-rows g c =
    let p = arc_value c.self.inside.parts in
    ap (λ b. rows_unread b c.new.result.rest c.new.result.next (arc_value c.in_ok-try_clone.field-0).spots.items (g.F.Files.sealed_bytes (arc_value c.in_ok-try_clone.field-0).file)) c.in_ok-copy.ensures
    ∙ ap (λ q. rows_unread c.args.raw.now c.new.result.rest c.new.result.next q.spots.items (g.F.Files.sealed_bytes q.file)) c.in_ok-try_clone.ensures
    ∙ walk_tells c.args.raw.now c.new.result.rest c.first_block-next.result c.new.result.next p.spots.items c.as_slice.result.now p.bits p.desc c.new.ensures.rest c.new.ensures.next
    (c.as_slice.ensures.value ∙ ap (λ q. q.spots.items) c.deref.ensures) c.first_block-next.ensures.split (g.F.Files.sealed_bytes p.file) c.args.self.now.rows c.self.invariant (ap (λ (t : TableState). t.rows) c.self.view_is)
