use Rattle.gated_log.proofs.Filling.{read_more}
use Rattle.gated_log.proofs.read.fill.Goals as goal

pub loop-done-preserved : goal.loop-done-preserved
loop-done-preserved g c =
    read_more c.loop-done.done c.in_ok-count.count c.loop-done.buffer c.split_at_mut-rest.result.0.now c.split_at_mut-rest.result.1.now c.read.new.out _ _ _ _ _ _ _
    c.loop-done.invariant c.split_at_mut-rest.ensures.front c.split_at_mut-rest.ensures.back c.read.auto.out c.in_ok-count.ensures.bound.0 c.in_ok-count.ensures.bytes
    c.read.ensures.disk c.read.ensures.cause.later
