use Rattle.std.proofs.Common.{◌≡◌, ap, sym, ◌∙◌, ◌+◌, ◌-◌, ◌++◌, [], ◌∷◌, ℕ, true, false, arith}
use Rattle.std.specs.Prelude.{◌==◌}
use Rattle.std.proofs.lemmas.Bool.Decides.{nat_tests}
use Rattle.kv_base.specs.Map.{Bytes}
use Rattle.sst_parts.specs.Index.{read_spots}
use Rattle.sst_parts.specs.IndexLaws.{spots_onto, spots_begin, no_spot_more, one_spot_more, spot_elsewhere, spot_beyond, spots_end, spots_end_elsewhere, more_behind_spots}
use Rattle.sst_parts.proofs.index.read_spots.Goals as goal
use Rattle.sst_parts.proofs.index.read_spots.Goals.{else-at-end-via-then-at-end+else-is_empty, else-at-end-via-else-at-end}

other : (a b : ℕ) → (a ≡ b → ⊥) → (a == b) ≡ false
other a b h = grind (arith, nat_tests)

alike : (a b : ℕ) → a ≡ b → (a == b) ≡ true
alike a b h = grind (arith, nat_tests)

pub loop-block-init : goal.loop-block-init
loop-block-init c = spots_begin (c.args.count - 0) c.args.count c.args.place c.args.end c.args.bytes.now c.new-spots.result.items (omega arith) c.new-spots.ensures.items

pub returns-in_default : goal.returns-in_default
returns-in_default c =
    let l = c.loop-block in
    sym (no_spot_more (c.args.count - l._block) (c.args.count - (l._block + 1)) l.at c.args.end l.rest.now l.spots.items (omega arith) (sym c.in_default.ensures)) ∙ l.invariant

pub returns-then-front-at : goal.returns-then-front-at
returns-then-front-at c =
    let l = c.loop-block in
    let f = c.in-Some.front in
    sym (spot_elsewhere (c.args.count - l._block) (c.args.count - (l._block + 1)) l.at c.args.end l.rest.now l.spots.items (record { place = f.place; bytes = f.bytes; last = f.last.now }, f.behind.now) (omega arith) (sym c.in-Some.ensures) (other f.place l.at c.if-front-at.true)) ∙ l.invariant

pub returns-in_default-checked_add : goal.returns-in_default-checked_add
returns-in_default-checked_add c =
    let l = c.loop-block in
    let f = c.in-Some.front in
    let high = c.in_default-checked_add.ensures in
    sym (spot_beyond (c.args.count - l._block) (c.args.count - (l._block + 1)) l.at c.args.end l.rest.now l.spots.items (record { place = f.place; bytes = f.bytes; last = f.last.now }, f.behind.now) (omega arith) (sym c.in-Some.ensures) c.if-front-at.false (omega (arith, high, c.from.ensures)) (omega arith)) ∙ l.invariant

pub loop-block-preserved : goal.loop-block-preserved
loop-block-preserved c =
    let l = c.loop-block in
    let f = c.in-Some.front in
    let n = c.args.count - (l._block + 1) in
    let next = c.in-Some-checked_add.next in
    ap (λ items. spots_onto items (read_spots n next c.args.end f.behind.now)) c.in_ok-push.ensures.items
    ∙ ap (λ (last : Bytes). spots_onto (l.spots.items ++ record { place = f.place; bytes = f.bytes; last = last } ∷ []) (read_spots n next c.args.end f.behind.now)) c.in_ok-last.ensures
    ∙ sym (one_spot_more (c.args.count - l._block) n l.at c.args.end next l.rest.now l.spots.items (record { place = f.place; bytes = f.bytes; last = f.last.now }, f.behind.now) (omega arith) (sym c.in-Some.ensures) c.if-front-at.false (omega (arith, c.in-Some-checked_add.ensures, c.from.ensures)))
    ∙ l.invariant

pub returns-then-is_empty : goal.returns-then-is_empty
returns-then-is_empty c =
    let l = c.loop-block in
    sym (spots_end (c.args.count - l._block) l.at c.args.end l.rest.now l.spots.items (omega arith) (alike l.at c.args.end c.if-at-end.true) (sym c.if-is_empty.ensures)) ∙ l.invariant

pub returns-else-at-end : goal.returns-else-at-end
returns-else-at-end c =
    let l = c.loop-block in
    elim c.else-at-end.branch [
      | else-at-end-via-then-at-end+else-is_empty w ↦ sym (more_behind_spots (c.args.count - l._block) l.at c.args.end l.rest.now l.spots.items (omega arith) (sym w.if-is_empty.ensures)) ∙ l.invariant
      | else-at-end-via-else-at-end w ↦ sym (spots_end_elsewhere (c.args.count - l._block) l.at c.args.end l.rest.now l.spots.items (omega arith) (other l.at c.args.end w.if-at-end.false)) ∙ l.invariant
    ]
