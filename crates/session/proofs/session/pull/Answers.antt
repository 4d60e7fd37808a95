use Rattle.std.proofs.Common.{take, arith}
use Rattle.std.proofs.lemmas.List.{length-take}
use Rattle.session.specs.Serving.{Pulls}
use Rattle.session.proofs.Pulling.{pulled, pull_failed}
use Rattle.session.proofs.session.pull.Goals as goal

pub returns-in-Err-clause-pulled : goal.returns-in-Err-clause-pulled
returns-in-Err-clause-pulled g c = pull_failed (g.S.Source.left c.args.source.now) (g.S.Source.left c.read.new.self) _ _ _ _ _ _ _ c.in-Err.ensures.bytes c.in-Err.ensures.cause.failed

pub returns-in-Ok-feed-clause-pulled : goal.returns-in-Ok-feed-clause-pulled
returns-in-Ok-feed-clause-pulled g c = pulled (g.S.Source.left c.args.source.now) (g.S.Source.left c.read.new.self) _ _ _ _ _ _ _ c.split_at.result.0.now c.read.new.out c.in-Ok.count c.requires c.in-Ok.ensures.bound.0 c.split_at.ensures.front c.in-Ok.ensures.bytes c.in-Ok.ensures.end c.in-Ok-feed.ensures.ok c.read.auto.out

pub returns-in-Err-feed-clause-pulled : goal.returns-in-Err-feed-clause-pulled
unfolding Pulls
returns-in-Err-feed-clause-pulled g c = (take c.in-Ok.count c.read.new.out, omega (arith, length-take c.in-Ok.count c.read.new.out, c.in-Ok.ensures.bound.0, c.read.auto.out), c.in-Ok.ensures.bytes.0)
