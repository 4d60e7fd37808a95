-- One page more leaves the walk one, and brings its end nearer.
use Rattle.std.proofs.Common.{None, arith, subst, List}
use Rattle.lives_model.specs.ViewLaws.{reads_then}
use Rattle.lives_model.specs.declared.view.LiveRow.{LiveRow}
use Rattle.zset_pages.specs.RankWalks.{TakesRanks}
use Rattle.zset_pages.proofs.Walks.{walk_goes_on, walk_ends, still_wants}
use Rattle.zset_pages.proofs.walk.walk_ranks.Goals as goal

pub loop-walk-smaller : goal.loop-walk-smaller
loop-walk-smaller g c =
    walk_ends c.args.key.now c.args.range.now.until c.page_limit-limit.result c.as_slice.result.now c.loop-walk.walk c.take_ranks.new.walk c.page_limit-limit.ensures (c.loop-walk.invariant.wants c.loop-walk-test.true) c.loop-walk-test.true c.in_ok-take_ranks.ensures

pub loop-walk-preserved : goal.loop-walk-preserved
loop-walk-preserved g c =
    let takes : TakesRanks c.args.key.now c.args.range.now.until c.in_ok-page.page c.page_limit-limit.result c.loop-walk.walk c.take_ranks.new.walk =
    subst (λ (page : List LiveRow). TakesRanks c.args.key.now c.args.range.now.until page c.page_limit-limit.result c.loop-walk.walk c.take_ranks.new.walk) c.as_slice.ensures c.in_ok-take_ranks.ensures in
    record {
      walks = walk_goes_on (g.V.RawView.told c.args.view.now).rows (g.V.RawView.told c.loop-walk.view).rows c.args.key.now c.args.range.now.prefix c.bytes.result.now c.bytes-in-loop-walk.result.now c.args.range.now.from c.args.range.now.until c.page_limit-limit.result c.args.skip c.args.count
          c.in_ok-page.page c.loop-walk.walk c.take_ranks.new.walk c.page_limit-limit.ensures (c.loop-walk.invariant.wants c.loop-walk-test.true) c.loop-walk-test.true c.bytes.ensures c.bytes-in-loop-walk.ensures c.loop-walk.invariant.reads.rows c.loop-walk.invariant.walks c.in_ok-page.ensures.value takes;
      wants = still_wants c.args.key.now c.args.range.now.until c.page_limit-limit.result c.in_ok-page.page c.loop-walk.walk c.take_ranks.new.walk takes;
      fewer = omega (arith, takes.skip, c.loop-walk.invariant.fewer);
      reads = reads_then (g.V.RawView.told c.args.view.now) (g.V.RawView.told c.loop-walk.view) _ None c.loop-walk.invariant.reads c.in_ok-page.ensures.reads;
    }
