use Rattle.std.proofs.Common.{◌+◌, length, ap, subst, arith}
use Rattle.std.proofs.lemmas.List.Elements.{All-more}
use Rattle.std.proofs.lemmas.List.Sums.{sum_by_more}
use Rattle.kv_base.specs.Map.{Bytes}
use Rattle.redis_model.specs.Limits.{IsShort}
use Rattle.test_requests.proofs.line.request_of.Goals as goal

pub loop-word-preserved : goal.loop-word-preserved
loop-word-preserved c =
    let words = c.as_slice-word-items.result.now in
    let at = c.loop-word.word-index in
    let short : IsShort c.word-item.result = omega arith in
    let more = sum_by_more (λ (word : Bytes). length word + 16) words at c.word-item.result c.loop-word-test.true in
    let same = ap (λ (word : Bytes). length word) c.word-item.is in
    let sum = c.loop-word.invariant.sum in
    record {
      short = All-more IsShort words at c.word-item.result c.loop-word-test.true c.loop-word.invariant.short (subst IsShort c.word-item.is short);
      sum = omega arith;
      light = omega arith;
    }
