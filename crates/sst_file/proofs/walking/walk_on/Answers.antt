use Rattle.std.proofs.Common.{◌+◌, refl, sym, ap, subst, ◌∙◌, drop, None, Some, IfSome, arith}
use Rattle.kv_outside.specs.RunLaws.{nothing_new, nothing_then}
use Rattle.merge_rows.specs.Cursors.{Takes}
use Rattle.sst_file.specs.Walking.{AreAhead, rows_unread}
use Rattle.sst_file.proofs.Exits.{err_is, on_err}
use Rattle.sst_file.proofs.WalkSteps.{IsTakenOf, row_ahead, row_takes, none_ahead, none_unread, block_next, block_ahead, block_unread, fewer_ahead, low_is, ended, end_takes, off_untold}
use Rattle.sst_file.proofs.walking.walk_on.Goals as goal

pub returns-in-Some-clause-ahead : goal.returns-in-Some-clause-ahead
returns-in-Some-clause-ahead g c =
    let w = c.args.walk.now in
    let p = c.args.parts.now in
    row_ahead c.args.raw.now w.rest c.take.new.self w.next p.spots.items c.in-Some.row (subst (λ o. IsTakenOf c.args.raw.now w.rest o c.take.new.self) c.in-Some.is c.in_ok-row.ensures.taken)
    (g.F.Files.sealed_bytes p.file) c.requires

pub returns-in-Some-clause-row : goal.returns-in-Some-clause-row
returns-in-Some-clause-row g c =
    let w = c.args.walk.now in
    let p = c.args.parts.now in
    row_takes c.args.raw.now w.rest c.take.new.self w.next p.spots.items c.in-Some.row (subst (λ o. IsTakenOf c.args.raw.now w.rest o c.take.new.self) c.in-Some.is c.in_ok-row.ensures.taken)
    (g.F.Files.sealed_bytes p.file) c.requires

pub loop-at-init : goal.loop-at-init
loop-at-init g c =
    let w = c.args.walk.now in
    let p = c.args.parts.now in
    let held = g.F.Files.sealed_bytes p.file in
    let taken : IsTakenOf c.args.raw.now w.rest None c.take.new.self = subst (λ o. IsTakenOf c.args.raw.now w.rest o c.take.new.self) c.in_default.is c.in_ok-row.ensures.taken in
    record {
      next = refl;
      ahead = none_ahead c.args.raw.now w.rest c.take.new.self w.next p.spots.items taken held c.requires;
      same = none_unread c.args.raw.now w.rest c.take.new.self w.next p.spots.items taken held c.requires;
      left = omega (arith, c.in_ok-row.ensures.left);
      disk = nothing_new _;
      later = omega arith;
    }

pub read_block-requires : goal.read_block-requires
read_block-requires g c =
    let p = c.args.parts.now in
    block_next c.loop-at.walk.rest c.loop-at.at c.loop-at.walk.next p.spots.items c.as_slice-spots.result.now c.index-spots-at.result c.loop-at.invariant.next c.as_slice-spots.ensures.value c.index-spots-at.is (omega arith)
    (g.F.Files.sealed_bytes p.file) c.loop-at.invariant.ahead

pub returns-in_err-row-2-clause-ahead : goal.returns-in_err-row-2-clause-ahead
returns-in_err-row-2-clause-ahead g c =
    let p = c.args.parts.now in
    let held = g.F.Files.sealed_bytes p.file in
    subst (λ rest. IfSome held (AreAhead rest (drop (c.loop-at.at + 1) p.spots.items))) (sym c.in_err-row-2.ensures.unchanged)
    (block_ahead c.loop-at.walk.rest c.loop-at.at c.loop-at.walk.next p.spots.items c.as_slice-spots.result.now c.index-spots-at.result c.loop-at.invariant.next c.as_slice-spots.ensures.value c.index-spots-at.is (omega arith)
    c.in_ok-walk.field-0 (c.loop-at.at + 1) (omega arith) held c.loop-at.invariant.ahead c.in_ok-walk.ensures.body)

pub returns-in_err-row-2-clause-unchanged : goal.returns-in_err-row-2-clause-unchanged
returns-in_err-row-2-clause-unchanged g c =
    let p = c.args.parts.now in
    let held = g.F.Files.sealed_bytes p.file in
    on_err _ _
    (ap (λ rest. rows_unread c.args.raw.now rest (c.loop-at.at + 1) p.spots.items held) c.in_err-row-2.ensures.unchanged
    ∙ block_unread c.loop-at.walk.rest c.loop-at.at c.loop-at.walk.next p.spots.items c.as_slice-spots.result.now c.index-spots-at.result c.loop-at.invariant.next c.as_slice-spots.ensures.value c.index-spots-at.is (omega arith)
    c.args.raw.now c.in_ok-walk.field-0 (c.loop-at.at + 1) (omega arith) held c.loop-at.invariant.ahead c.in_ok-walk.ensures.body
    ∙ c.loop-at.invariant.same)

pub returns-in_err-row-2-clause-cause : goal.returns-in_err-row-2-clause-cause
returns-in_err-row-2-clause-cause g c =
    let p = c.args.parts.now in
    let held = g.F.Files.sealed_bytes p.file in
    err_is _ _ _ c.from_residual-in_err-row-2.ensures.1
    (off_untold _ _ p.desc.id c.in_ok-walk.field-0 (drop (c.loop-at.at + 1) p.spots.items) held _
    (block_ahead c.loop-at.walk.rest c.loop-at.at c.loop-at.walk.next p.spots.items c.as_slice-spots.result.now c.index-spots-at.result c.loop-at.invariant.next c.as_slice-spots.ensures.value c.index-spots-at.is (omega arith)
    c.in_ok-walk.field-0 (c.loop-at.at + 1) (omega arith) held c.loop-at.invariant.ahead c.in_ok-walk.ensures.body)
    c.in_err-row-2.ensures.fault)

pub returns-in-Some-2-clause-ahead : goal.returns-in-Some-2-clause-ahead
returns-in-Some-2-clause-ahead g c =
    let p = c.args.parts.now in
    let held = g.F.Files.sealed_bytes p.file in
    row_ahead c.args.raw.now c.in_ok-walk.field-0 c.take-in-loop-at.new.self (c.loop-at.at + 1) p.spots.items c.in-Some-2.row
    (subst (λ o. IsTakenOf c.args.raw.now c.in_ok-walk.field-0 o c.take-in-loop-at.new.self) c.in-Some-2.is c.in_ok-row-2.ensures.taken) held
    (block_ahead c.loop-at.walk.rest c.loop-at.at c.loop-at.walk.next p.spots.items c.as_slice-spots.result.now c.index-spots-at.result c.loop-at.invariant.next c.as_slice-spots.ensures.value c.index-spots-at.is (omega arith)
    c.in_ok-walk.field-0 (c.loop-at.at + 1) (omega arith) held c.loop-at.invariant.ahead c.in_ok-walk.ensures.body)

pub returns-in-Some-2-clause-row : goal.returns-in-Some-2-clause-row
returns-in-Some-2-clause-row g c =
    let p = c.args.parts.now in
    let held = g.F.Files.sealed_bytes p.file in
    let now = rows_unread c.args.raw.now c.take-in-loop-at.new.self (c.loop-at.at + 1) p.spots.items held in
    subst (λ o. Takes o (Some c.in-Some-2.row) now)
    (block_unread c.loop-at.walk.rest c.loop-at.at c.loop-at.walk.next p.spots.items c.as_slice-spots.result.now c.index-spots-at.result c.loop-at.invariant.next c.as_slice-spots.ensures.value c.index-spots-at.is (omega arith)
    c.args.raw.now c.in_ok-walk.field-0 (c.loop-at.at + 1) (omega arith) held c.loop-at.invariant.ahead c.in_ok-walk.ensures.body
    ∙ c.loop-at.invariant.same)
    (row_takes c.args.raw.now c.in_ok-walk.field-0 c.take-in-loop-at.new.self (c.loop-at.at + 1) p.spots.items c.in-Some-2.row
    (subst (λ o. IsTakenOf c.args.raw.now c.in_ok-walk.field-0 o c.take-in-loop-at.new.self) c.in-Some-2.is c.in_ok-row-2.ensures.taken) held
    (block_ahead c.loop-at.walk.rest c.loop-at.at c.loop-at.walk.next p.spots.items c.as_slice-spots.result.now c.index-spots-at.result c.loop-at.invariant.next c.as_slice-spots.ensures.value c.index-spots-at.is (omega arith)
    c.in_ok-walk.field-0 (c.loop-at.at + 1) (omega arith) held c.loop-at.invariant.ahead c.in_ok-walk.ensures.body))

pub loop-at-preserved : goal.loop-at-preserved
loop-at-preserved g c =
    let p = c.args.parts.now in
    let held = g.F.Files.sealed_bytes p.file in
    let taken : IsTakenOf c.args.raw.now c.in_ok-walk.field-0 None c.take-in-loop-at.new.self = subst (λ o. IsTakenOf c.args.raw.now c.in_ok-walk.field-0 o c.take-in-loop-at.new.self) c.in_default-2.is c.in_ok-row-2.ensures.taken in
    let ahead = block_ahead c.loop-at.walk.rest c.loop-at.at c.loop-at.walk.next p.spots.items c.as_slice-spots.result.now c.index-spots-at.result c.loop-at.invariant.next c.as_slice-spots.ensures.value c.index-spots-at.is (omega arith)
    c.in_ok-walk.field-0 (c.loop-at.at + 1) (omega arith) held c.loop-at.invariant.ahead c.in_ok-walk.ensures.body in
    record {
      next = refl;
      ahead = none_ahead c.args.raw.now c.in_ok-walk.field-0 c.take-in-loop-at.new.self (c.loop-at.at + 1) p.spots.items taken held ahead;
      same = none_unread c.args.raw.now c.in_ok-walk.field-0 c.take-in-loop-at.new.self (c.loop-at.at + 1) p.spots.items taken held ahead
          ∙ block_unread c.loop-at.walk.rest c.loop-at.at c.loop-at.walk.next p.spots.items c.as_slice-spots.result.now c.index-spots-at.result c.loop-at.invariant.next c.as_slice-spots.ensures.value c.index-spots-at.is (omega arith)
          c.args.raw.now c.in_ok-walk.field-0 (c.loop-at.at + 1) (omega arith) held c.loop-at.invariant.ahead c.in_ok-walk.ensures.body
          ∙ c.loop-at.invariant.same;
      left = fewer_ahead c.args.walk.now.rest c.loop-at.walk.rest c.in_ok-walk.field-0 c.take-in-loop-at.new.self c.args.walk.now.next c.loop-at.walk.next (c.loop-at.at + 1) p.spots.items
          (omega (arith, c.loop-at.invariant.next)) (low_is p.spots.items c.as_slice-spots.result.now c.loop-at.walk.next c.loop-at.at c.loop-at.invariant.next c.as_slice-spots.ensures.value (omega arith)) c.in_ok-walk.ensures.short c.in_ok-row-2.ensures.left c.loop-at.invariant.left;
      disk = nothing_then _ _ _ c.loop-at.invariant.disk c.in_ok-walk.ensures.disk;
      later = omega (arith, c.loop-at.invariant.later, c.in_ok-walk.ensures.later);
    }

pub returns-clause-row : goal.returns-clause-row
returns-clause-row g c =
    let p = c.args.parts.now in
    let held = g.F.Files.sealed_bytes p.file in
    let now = rows_unread c.args.raw.now c.loop-at.walk.rest c.loop-at.walk.next p.spots.items held in
    subst (λ o. Takes o None now) c.loop-at.invariant.same
    (end_takes c.args.raw.now c.loop-at.walk.rest c.loop-at.walk.next p.spots.items held (ended p.spots.items c.as_slice-spots.result.now c.loop-at.walk.next c.loop-at.at c.loop-at.invariant.next c.as_slice-spots.ensures.value (omega arith)) c.loop-at.invariant.ahead)
