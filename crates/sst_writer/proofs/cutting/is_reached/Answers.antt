use Rattle.std.proofs.Common.{◌≡◌, length, nat_le, ◌+◌, ◌-◌, ◌*◌, ◌<◌, ◌∙◌, ◌^◌, arith, rules}
use Rattle.sst_parts.specs.RowTexts.{rows_text}
use Rattle.sst_writer.specs.CutLaws.{bodies_are, heads_within, limit_reached}
use Rattle.sst_writer.proofs.cutting.is_reached.Goals as goal

pub returns : goal.returns
returns c = λ rows built.
    let t = c.args.table.now in
    let n = length t.spots.items in
    let sum = bodies_are t.end t.block t.spots.items t.sums.rows t.sums.keys.items t.sums.least t.sums.last rows built in
    let within = heads_within t.end t.block t.spots.items t.sums.rows t.sums.keys.items t.sums.least t.sums.last rows built in
    let low : t.end < 2 ^ 64 = search rules in
    let others : c.saturating_add-others.result ≡ 4 * n + 8 = omega (arith, within, low, c.len.ensures, c.saturating_mul.ensures, c.saturating_add-others.ensures) in
    let left : c.saturating_sub-2.result ≡ c.args.limit - (t.end - (4 * n + 8)) = omega (arith, others, c.saturating_sub.ensures, c.saturating_sub-2.ensures) in
    (λ i. nat_le (left i) (c.len-2.ensures i)) ∙ limit_reached c.args.limit (length (rows_text rows)) (4 * n + 8) t.end (length t.block) sum within
