use Rattle.std.proofs.Common.{◌++◌, ◌∷◌, [], List, Result, Ok, Err, OnErr, ap, ◌∙◌, arith}
use Rattle.std.specs.BinaryHeap.{heap_items}
use Rattle.merge_rows.proofs.Reading.{pushed}
use Rattle.merge_rows.proofs.Stepping.{distinct_moved, rows_moved, off_moved, step_row, step_apart, step_off, step_left, step_order, empty_row, empty_order, held_nearer, none_of}
use Rattle.merge_rows.proofs.merge.MergeCursor.step.Goals as goal

on_err : {T E : Type 0} (r : Result T E) (P : Type 0) → P → OnErr r P
on_err (Ok x) P p = tt
on_err (Err e) P p = p

pub invariant_of-self : goal.invariant_of-self
invariant_of-self g c =
    let facts = c.read_heads.ensures in
    let room = c.args.self.now.room in
    record {
      distinct = distinct_moved _ _ facts.parts c.args.self.now.distinct;
      heap = facts.heap;
      room = (omega (arith, facts.count, facts.room.0, room.0), omega (arith, facts.count, facts.room.1, room.1));
    }

pub returns-in_err-read_heads-clause-unchanged : goal.returns-in_err-read_heads-clause-unchanged
returns-in_err-read_heads-clause-unchanged g c = on_err c.from_residual.result _ (rows_moved _ _ c.read_heads.ensures.parts c.args.self.now.distinct)

pub returns-in_err-read_heads-clause-off : goal.returns-in_err-read_heads-clause-off
returns-in_err-read_heads-clause-off g c = off_moved _ _ c.read_heads.ensures.parts

pub returns-in_default-clause-row : goal.returns-in_default-clause-row
returns-in_default-clause-row g c =
    let C = g.C.Upcoming in
    let waiting = c.read_heads.new.waiting in
    let ready = c.read_heads.new.ready in
    empty_row C.rows C.off C.left (λ h. h.row) (λ h. h.cursor) (λ h. h.order) _ c.args.self.now.distinct waiting.items (heap_items ready) (heap_items c.pop.new.self)
    (none_of waiting.items (omega (arith, waiting.ok.0, c.in_ok-read_heads.ensures.read))) (none_of (heap_items ready) (omega (arith, ready.data.ok.0, c.in_default.ensures.none)))
    c.in_default.ensures.unchanged.0 c.read_heads.ensures.parts

pub returns-in_default-clause-order : goal.returns-in_default-clause-order
returns-in_default-clause-order g c =
    let C = g.C.Upcoming in
    let waiting = c.read_heads.new.waiting in
    let ready = c.read_heads.new.ready in
    empty_order C.rows C.off C.left (λ h. h.row) (λ h. h.cursor) (λ h. h.order) _ c.args.self.now.distinct waiting.items (heap_items ready) (heap_items c.pop.new.self)
    (none_of waiting.items (omega (arith, waiting.ok.0, c.in_ok-read_heads.ensures.read))) (none_of (heap_items ready) (omega (arith, ready.data.ok.0, c.in_default.ensures.none)))
    c.in_default.ensures.unchanged.0 c.read_heads.ensures.parts

pub invariant_of-self-2 : goal.invariant_of-self-2
invariant_of-self-2 g c =
    let C = g.C.Upcoming in
    let facts = c.read_heads.ensures in
    let room = c.args.self.now.room in
    let waiting = c.read_heads.new.waiting in
    let read = none_of waiting.items (omega (arith, waiting.ok.0, c.in_ok-read_heads.ensures.read)) in
    let few = c.in_ok-read_heads.ensures.read in
    let popped = c.in-Some.ensures.len in
    let ok = c.push.ensures.succeeds (omega (arith, facts.count, facts.room.0, room.0, few, popped)) in
    let waits = pushed _ waiting.items c.push.new.self.items c.in-Some.head.cursor c.push.ensures.items ok ∙ ap (λ (xs : List _). xs ++ c.in-Some.head.cursor ∷ []) read in
    record {
      distinct = step_apart C.rows C.off C.left (λ h. h.row) (λ h. h.cursor) (λ h. h.order) _ c.args.self.now.distinct waiting.items c.push.new.self.items c.in-Some.head (heap_items c.read_heads.new.ready) (heap_items c.pop.new.self)
          read facts.parts c.in-Some.ensures.permutation waits;
      heap = (c.in-Some.ensures.heap_order facts.heap).0;
      room = (omega (arith, facts.count, facts.room.0, room.0, few, popped, c.push.ensures.upper_bound, c.push.ensures.capacity), omega (arith, facts.count, facts.room.1, room.1, few, popped, c.push.ensures.upper_bound, c.in-Some.ensures.capacity));
    }

pub returns-clause-row : goal.returns-clause-row
returns-clause-row g c =
    let C = g.C.Upcoming in
    let facts = c.read_heads.ensures in
    let room = c.args.self.now.room in
    let waiting = c.read_heads.new.waiting in
    let read = none_of waiting.items (omega (arith, waiting.ok.0, c.in_ok-read_heads.ensures.read)) in
    let ok = c.push.ensures.succeeds (omega (arith, facts.count, facts.room.0, room.0, c.in_ok-read_heads.ensures.read, c.in-Some.ensures.len)) in
    let waits = pushed _ waiting.items c.push.new.self.items c.in-Some.head.cursor c.push.ensures.items ok ∙ ap (λ (xs : List _). xs ++ c.in-Some.head.cursor ∷ []) read in
    step_row C.rows C.off C.left (λ h. h.row) (λ h. h.cursor) (λ h. h.order) _ c.args.self.now.distinct waiting.items c.push.new.self.items c.in-Some.head (heap_items c.read_heads.new.ready) (heap_items c.pop.new.self)
    read facts.parts c.in-Some.ensures.permutation waits (c.in-Some.ensures.below_top facts.heap)

pub returns-clause-order : goal.returns-clause-order
returns-clause-order g c =
    let C = g.C.Upcoming in
    let facts = c.read_heads.ensures in
    let room = c.args.self.now.room in
    let waiting = c.read_heads.new.waiting in
    let read = none_of waiting.items (omega (arith, waiting.ok.0, c.in_ok-read_heads.ensures.read)) in
    let ok = c.push.ensures.succeeds (omega (arith, facts.count, facts.room.0, room.0, c.in_ok-read_heads.ensures.read, c.in-Some.ensures.len)) in
    let waits = pushed _ waiting.items c.push.new.self.items c.in-Some.head.cursor c.push.ensures.items ok ∙ ap (λ (xs : List _). xs ++ c.in-Some.head.cursor ∷ []) read in
    step_order C.rows C.off C.left (λ h. h.row) (λ h. h.cursor) (λ h. h.order) _ c.args.self.now.distinct waiting.items c.push.new.self.items c.in-Some.head (heap_items c.read_heads.new.ready) (heap_items c.pop.new.self)
    read facts.parts c.in-Some.ensures.permutation waits

pub returns-clause-off : goal.returns-clause-off
returns-clause-off g c =
    let C = g.C.Upcoming in
    let facts = c.read_heads.ensures in
    let room = c.args.self.now.room in
    let waiting = c.read_heads.new.waiting in
    let read = none_of waiting.items (omega (arith, waiting.ok.0, c.in_ok-read_heads.ensures.read)) in
    let ok = c.push.ensures.succeeds (omega (arith, facts.count, facts.room.0, room.0, c.in_ok-read_heads.ensures.read, c.in-Some.ensures.len)) in
    let waits = pushed _ waiting.items c.push.new.self.items c.in-Some.head.cursor c.push.ensures.items ok ∙ ap (λ (xs : List _). xs ++ c.in-Some.head.cursor ∷ []) read in
    step_off C.rows C.off C.left (λ h. h.row) (λ h. h.cursor) (λ h. h.order) _ c.args.self.now.distinct waiting.items c.push.new.self.items c.in-Some.head (heap_items c.read_heads.new.ready) (heap_items c.pop.new.self)
    read facts.parts c.in-Some.ensures.permutation waits

pub returns-clause-left : goal.returns-clause-left
returns-clause-left g c =
    let C = g.C.Upcoming in
    let facts = c.read_heads.ensures in
    let room = c.args.self.now.room in
    let waiting = c.read_heads.new.waiting in
    let read = none_of waiting.items (omega (arith, waiting.ok.0, c.in_ok-read_heads.ensures.read)) in
    let ok = c.push.ensures.succeeds (omega (arith, facts.count, facts.room.0, room.0, c.in_ok-read_heads.ensures.read, c.in-Some.ensures.len)) in
    let waits = pushed _ waiting.items c.push.new.self.items c.in-Some.head.cursor c.push.ensures.items ok ∙ ap (λ (xs : List _). xs ++ c.in-Some.head.cursor ∷ []) read in
    let fewer = step_left C.rows C.off C.left (λ h. h.row) (λ h. h.cursor) (λ h. h.order) _ c.args.self.now.distinct waiting.items c.push.new.self.items c.in-Some.head (heap_items c.read_heads.new.ready) (heap_items c.pop.new.self)
    read facts.parts c.in-Some.ensures.permutation waits in
    omega (arith, fewer, facts.left)

pub returns-clause-nearer : goal.returns-clause-nearer
returns-clause-nearer g c =
    let C = g.C.Upcoming in
    let facts = c.read_heads.ensures in
    let room = c.args.self.now.room in
    let waiting = c.read_heads.new.waiting in
    let read = none_of waiting.items (omega (arith, waiting.ok.0, c.in_ok-read_heads.ensures.read)) in
    let ok = c.push.ensures.succeeds (omega (arith, facts.count, facts.room.0, room.0, c.in_ok-read_heads.ensures.read, c.in-Some.ensures.len)) in
    let waits = pushed _ waiting.items c.push.new.self.items c.in-Some.head.cursor c.push.ensures.items ok ∙ ap (λ (xs : List _). xs ++ c.in-Some.head.cursor ∷ []) read in
    held_nearer c.in-Some.head.row _ _ _ (step_left C.rows C.off C.left (λ h. h.row) (λ h. h.cursor) (λ h. h.order) _ c.args.self.now.distinct waiting.items c.push.new.self.items c.in-Some.head (heap_items c.read_heads.new.ready) (heap_items c.pop.new.self)
    read facts.parts c.in-Some.ensures.permutation waits) facts.left
