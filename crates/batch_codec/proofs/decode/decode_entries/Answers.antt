use Rattle.std.proofs.Common.{◌+◌, ◌-◌, Some, option_map, ap, sym, ◌∙◌, arith}
use Rattle.batch_codec.proofs.Reading.{onto, one_more, no_entry, not_next, at_end, more_behind}
use Rattle.batch_codec.proofs.decode.decode_entries.Goals as goal

pub returns-in_default : goal.returns-in_default
returns-in_default c =
    let l = c.loop-at in
    sym (no_entry l.batch (c.args.count - l._at) (c.args.count - (l._at + 1)) (option_map (λ raw. raw.now) l.last) l.rest.now (omega arith) (sym c.in_default.ensures)) ∙ l.invariant

pub returns-then-not-is_next : goal.returns-then-not-is_next
returns-then-not-is_next c =
    let l = c.loop-at in
    let e = c.in-Some.entry in
    sym (not_next l.batch (c.args.count - l._at) (c.args.count - (l._at + 1)) (option_map (λ raw. raw.now) l.last) l.rest.now e.behind.now (e.raw.now, option_map (λ value. value.now) e.value) (omega arith) (sym c.in-Some.ensures) (sym c.if-not-is_next.ensures)) ∙ l.invariant

pub loop-at-preserved : goal.loop-at-preserved
loop-at-preserved c =
    let l = c.loop-at in
    let e = c.in-Some.entry in
    ap (λ b. onto b (c.args.count - (l._at + 1)) (Some e.raw.now) e.behind.now) c.in_ok-add.ensures
    ∙ sym (one_more l.batch (c.args.count - l._at) (c.args.count - (l._at + 1)) (option_map (λ raw. raw.now) l.last) l.rest.now e.behind.now (e.raw.now, option_map (λ value. value.now) e.value) (omega arith) (sym c.in-Some.ensures) (sym c.if-not-is_next.ensures))
    ∙ l.invariant

pub returns-then-is_empty : goal.returns-then-is_empty
returns-then-is_empty c =
    let l = c.loop-at in
    sym (at_end l.batch (c.args.count - l._at) (option_map (λ raw. raw.now) l.last) l.rest.now (omega arith) (sym c.if-is_empty.ensures)) ∙ l.invariant

pub returns-else-is_empty : goal.returns-else-is_empty
returns-else-is_empty c =
    let l = c.loop-at in
    sym (more_behind l.batch (c.args.count - l._at) (option_map (λ raw. raw.now) l.last) l.rest.now (omega arith) (sym c.if-is_empty.ensures)) ∙ l.invariant
