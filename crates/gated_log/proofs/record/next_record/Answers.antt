use Rattle.std.proofs.Common.{◌≤◌, ◌<◌, ◌∙◌, length, List, ℕ, ap, sym, subst, take}
use Rattle.gated_log.specs.Gated.{records}
use Rattle.gated_log.proofs.Reading.{short_none, shut_none, cut_none, stands_at, stands_counts}
use Rattle.gated_log.proofs.record.next_record.Goals as goal
use Rattle.gated_log.proofs.record.next_record.Goals.{then-rest-lt-HEAD-via-then-rest-lt-HEAD, then-rest-lt-HEAD-via-else-rest-lt-HEAD+then-rest-ne-OPEN}

pub returns-then-behind-length-clause-none : goal.returns-then-behind-length-clause-none
returns-then-behind-length-clause-none c =
    let n = c.body_length-length.result in
    ap records (sym c.split_at.ensures.back)
    ∙ cut_none _ n c.if-rest-lt-HEAD.false c.if-rest-ne-OPEN.false c.body_length-length.ensures.number
    (subst (λ (l : List ℕ). length l < n) c.split_at-2.ensures.back c.if-behind-length.true)

pub returns-then-rest-lt-HEAD-clause-none : goal.returns-then-rest-lt-HEAD-clause-none
returns-then-rest-lt-HEAD-clause-none c =
    ap records (sym c.split_at.ensures.back)
    ∙ elim c.then-rest-lt-HEAD.branch [
      | then-rest-lt-HEAD-via-then-rest-lt-HEAD w ↦ short_none _ w.if-rest-lt-HEAD.true
      | then-rest-lt-HEAD-via-else-rest-lt-HEAD+then-rest-ne-OPEN w ↦ shut_none _ w.if-rest-lt-HEAD.false w.if-rest-ne-OPEN.true
    ]

pub returns-clause-stands : goal.returns-clause-stands
returns-clause-stands c =
    let n = c.body_length-length.result in
    stands_at c.args.bytes.now c.split_at.result.1.now _ c.args.place n c.type_inv.bytes c.split_at.ensures.back c.if-rest-lt-HEAD.false c.if-rest-ne-OPEN.false
    c.body_length-length.ensures.number c.body_length-length.ensures.limit
    (subst (λ (l : List ℕ). n ≤ length l) c.split_at-2.ensures.back c.if-behind-length.false)
    (c.split_at-3.ensures.front ∙ ap (λ (l : List ℕ). take n l) c.split_at-2.ensures.back)

pub returns-clause-counts : goal.returns-clause-counts
returns-clause-counts c =
    let n = c.body_length-length.result in
    stands_counts c.args.bytes.now _ c.args.place _
    (stands_at c.args.bytes.now c.split_at.result.1.now _ c.args.place n c.type_inv.bytes c.split_at.ensures.back c.if-rest-lt-HEAD.false c.if-rest-ne-OPEN.false
    c.body_length-length.ensures.number c.body_length-length.ensures.limit
    (subst (λ (l : List ℕ). n ≤ length l) c.split_at-2.ensures.back c.if-behind-length.false)
    (c.split_at-3.ensures.front ∙ ap (λ (l : List ℕ). take n l) c.split_at-2.ensures.back))
