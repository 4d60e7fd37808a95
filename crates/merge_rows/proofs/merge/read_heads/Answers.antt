use Rattle.std.proofs.Common.{List, sym, ap, subst, arith}
use Rattle.std.specs.BinaryHeap.{heap_items}
use Rattle.std.specs.List.Sorted.{IsPermutation}
use Rattle.std.proofs.lemmas.List.Sorted.{IsPermutation-trans}
use Rattle.merge_rows.specs.Parts.{cursor_parts, count_left}
use Rattle.kv_outside.specs.CauseLaws.{cause_widens}
use Rattle.kv_outside.specs.RunLaws.{nothing_then}
use Rattle.merge_rows.proofs.Reading.{takes_back, head_fewer, read_parts, read_left, off_within, ok_gives}
use Rattle.merge_rows.proofs.merge.read_heads.Goals as goal

pub loop-cursor-preserved : goal.loop-cursor-preserved
loop-cursor-preserved g c =
    let C = g.C.Upcoming in
    let was = c.loop-cursor.invariant in
    let room = c.requires.room in
    let cases = c.in-Some.ensures.cases in
    let ok = c.push.ensures.succeeds (omega (arith, was.2, was.3.0, was.3.1, room.0, room.1, cases)) in
    let moved = ok_gives c.push.result _ ok c.push.ensures.permutation in
    let count = ok_gives c.push.result _ ok c.push.ensures.len in
    let front = c.pop.new.self.items in
    let cursor = c.in-Some.cursor in
    let ready = heap_items c.loop-cursor.ready in
    let now = heap_items c.push.new.self in
    let left = read_left C.rows C.off C.left (λ h. h.row) (λ h. h.cursor) front cursor _ ready now (head_fewer c.in-Ok.row (C.left cursor) (C.left c.step.new.self) c.step.ensures.left c.in-Ok.ensures.nearer) moved in (
      IsPermutation-trans _ (cursor_parts C.rows C.off c.loop-cursor.waiting.items ready (λ h. h.row) (λ h. h.cursor)) _ was.0
          (subst (λ (xs : List _). IsPermutation (cursor_parts C.rows C.off xs ready (λ h. h.row) (λ h. h.cursor)) (cursor_parts C.rows C.off front now (λ h. h.row) (λ h. h.cursor))) (sym c.in-Some.ensures.items)
          (read_parts C.rows C.off C.left (λ h. h.row) (λ h. h.cursor) front cursor c.step.new.self _ ready now (λ i. (takes_back (C.rows cursor) c.in-Ok.row (C.rows c.step.new.self) c.in-Ok.ensures.row i, c.step.ensures.off i)) moved)),
      ok_gives c.push.result _ ok c.push.ensures.heap_order was.1,
      omega (arith, was.2, cases, count),
      (omega (arith, was.3.0, c.in-Some.ensures.capacity), omega (arith, was.3.1, c.push.ensures.capacity)),
      omega (arith, was.4, left, ap (λ xs. count_left C.left xs ready (λ h. h.row) (λ h. h.cursor)) c.in-Some.ensures.items),
      nothing_then _ _ _ was.5 c.step.ensures.disk,
      omega (arith, was.6, c.step.ensures.later),
    )

pub returns-in-Err-clause-cause : goal.returns-in-Err-clause-cause
returns-in-Err-clause-cause g c =
    let C = g.C.Upcoming in
    let was = c.loop-cursor.invariant in
    cause_widens _ _ _ _ (C.off c.in-Some.cursor) _ c.in-Err.fault was.6 (omega arith)
    (off_within C.rows C.off C.left (λ h. h.row) (λ h. h.cursor) (cursor_parts C.rows C.off c.args.waiting.now.items (heap_items c.args.ready.now) (λ h. h.row) (λ h. h.cursor)) c.loop-cursor.waiting.items c.pop.new.self.items c.in-Some.cursor (heap_items c.loop-cursor.ready) c.in-Some.ensures.items was.0)
    c.in-Err.ensures.cause
