use Rattle.std.proofs.Common.{◌∙◌, ◌++◌, ap, take, drop, map}
use Rattle.std.proofs.lemmas.List.{take_all}
use Rattle.kv_fakes.specs.Crash.{spoilt}
use Rattle.kv_fakes.proofs.Kept.{torn_is}
use Rattle.kv_fakes.proofs.crash.torn_bytes.Goals as goal

pub returns : goal.returns
returns c = torn_is c.args.number c.reached-count.result c.args.bytes.now c.split_at.result.0.now c.split_at-2.result.0.now c.split_at-2.result.1.now c.loop-byte.torn.items
    c.reached-count.ensures.value c.reached-count.ensures.within c.split_at.ensures.front
    (c.split_at-2.ensures.front ∙ ap (λ n. take n c.split_at.result.0.now) c.sound.ensures.value)
    (c.split_at-2.ensures.back ∙ ap (λ n. drop n c.split_at.result.0.now) c.sound.ensures.value)
    (c.loop-byte.invariant ∙ ap (λ l. l ++ map (spoilt c.args.number) (take c.loop-byte.byte-index c.split_at-2.result.1.now)) c.in_ok-torn.ensures.items
    ∙ ap (λ l. c.split_at-2.result.0.now ++ map (spoilt c.args.number) l) (take_all c.loop-byte.byte-index c.split_at-2.result.1.now c.loop-byte-test.false))
