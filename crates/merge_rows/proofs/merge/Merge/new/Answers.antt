use Rattle.std.proofs.Common.{sym, ap, subst, ◌∙◌, arith}
use Rattle.std.specs.BinaryHeap.{heap_items}
use Rattle.merge_rows.specs.Merged.{AreDistinct, all_told_rows, merged_rows}
use Rattle.merge_rows.specs.Parts.{is_off, part_lists, cursor_parts}
use Rattle.merge_rows.proofs.Reading.{lists_none, off_none}
use Rattle.merge_rows.proofs.merge.Merge.new.Goals as goal

pub invariant_of-result : goal.invariant_of-result
invariant_of-result g c =
    let none = c.in_ok-ready.ensures.items in
    let long = c.args.cursors.ok in
    record {
      distinct = subst AreDistinct (sym (ap (λ hs. all_told_rows (part_lists (cursor_parts g.C.Upcoming.rows g.C.Upcoming.off c.args.cursors.items hs (λ h. h.row) (λ h. h.cursor)))) none ∙ ap all_told_rows (lists_none g.C.Upcoming.rows g.C.Upcoming.off (heap_items c.in_ok-ready.ready) (λ h. h.row) (λ h. h.cursor) c.args.cursors.items))) c.requires.distinct;
      heap = c.in_ok-ready.ensures.heap_order;
      room = (omega (arith, long.1, c.in_ok-ready.ensures.len), omega (arith, c.len.ensures, c.in_ok-ready.ensures.len, c.in_ok-ready.ensures.capacity));
    }

pub returns-clause-rows : goal.returns-clause-rows
returns-clause-rows g c =
    ap (λ hs. merged_rows (part_lists (cursor_parts g.C.Upcoming.rows g.C.Upcoming.off c.args.cursors.items hs (λ h. h.row) (λ h. h.cursor)))) c.in_ok-ready.ensures.items
    ∙ ap merged_rows (lists_none g.C.Upcoming.rows g.C.Upcoming.off (heap_items c.in_ok-ready.ready) (λ h. h.row) (λ h. h.cursor) c.args.cursors.items)

pub returns-clause-off : goal.returns-clause-off
returns-clause-off g c =
    ap (λ hs. is_off (cursor_parts g.C.Upcoming.rows g.C.Upcoming.off c.args.cursors.items hs (λ h. h.row) (λ h. h.cursor))) c.in_ok-ready.ensures.items
    ∙ (λ i file place. off_none g.C.Upcoming.rows g.C.Upcoming.off (heap_items c.in_ok-ready.ready) (λ h. h.row) (λ h. h.cursor) c.args.cursors.items file place i)
