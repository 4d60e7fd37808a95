use Rattle.std.proofs.Common.{◌≡◌, ◌≤◌, ◌+◌}
use Rattle.std.specs.BinaryHeap.{IsHeap, heap_items, heap_len, heap_capacity}
use Rattle.std.specs.List.Sorted.{IsPermutation}
use Rattle.std.specs.Vec.{vec_len, vec_capacity}
use Rattle.kv_outside.specs.Disk.{NothingNew}
use Rattle.merge_rows.specs.Heads.{head_cmp}
use Rattle.merge_rows.specs.Parts.{cursor_parts, count_left}
use Rattle.merge_rows.proofs.merge.read_heads.Given as goal

abbrev pub invariant-loop-cursor : goal.invariant-loop-cursor
invariant-loop-cursor g l =
    IsPermutation (cursor_parts g.C.Upcoming.rows g.C.Upcoming.off l.fn.waiting.items (heap_items l.fn.ready) (λ h. h.row) (λ h. h.cursor)) (cursor_parts g.C.Upcoming.rows g.C.Upcoming.off l.waiting.items (heap_items l.ready) (λ h. h.row) (λ h. h.cursor))
    × IsHeap (λ x y. head_cmp x.row y.row) (heap_items l.ready)
    × (vec_len l.waiting + heap_len l.ready ≡ vec_len l.fn.waiting + heap_len l.fn.ready)
    × ((vec_capacity l.fn.waiting ≤ vec_capacity l.waiting) × (heap_capacity l.fn.ready ≤ heap_capacity l.ready))
    × (count_left g.C.Upcoming.left l.waiting.items (heap_items l.ready) (λ h. h.row) (λ h. h.cursor) ≤ count_left g.C.Upcoming.left l.fn.waiting.items (heap_items l.fn.ready) (λ h. h.row) (λ h. h.cursor))
    × NothingNew (g.F.Files.disk l.fn.files) (g.F.Files.disk l.files)
    × (g.F.Files.faults l.fn.files ≤ g.F.Files.faults l.files)

abbrev pub decreases-loop-cursor : goal.decreases-loop-cursor
decreases-loop-cursor g l = vec_len l.waiting
