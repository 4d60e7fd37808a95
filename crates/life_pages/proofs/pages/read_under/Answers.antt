-- One page more leaves the walk one, and brings its end nearer.
use Rattle.std.proofs.Common.{None, arith}
use Rattle.lives_model.specs.ViewLaws.{reads_then}
use Rattle.life_pages.proofs.Walks.{page_taken, walk_ends}
use Rattle.life_pages.proofs.pages.read_under.Goals as goal

pub loop-walk-smaller : goal.loop-walk-smaller
loop-walk-smaller g c = walk_ends 1024 c.in_ok-page.page c.loop-walk.walk c.take_page.new.walk (omega arith) c.loop-walk-test.true c.in_ok-take_page.ensures

pub loop-walk-preserved : goal.loop-walk-preserved
loop-walk-preserved g c = record {
  walks = page_taken (g.V.RawView.told c.args.view.now).rows (g.V.RawView.told c.loop-walk.view).rows c.args.prefix.now c.bytes.result.now 1024 c.in_ok-page.page c.loop-walk.walk c.take_page.new.walk
      (omega arith) c.loop-walk-test.true c.bytes.ensures c.loop-walk.invariant.reads.rows c.loop-walk.invariant.walks c.in_ok-page.ensures.value c.in_ok-take_page.ensures;
  reads = reads_then (g.V.RawView.told c.args.view.now) (g.V.RawView.told c.loop-walk.view) _ None c.loop-walk.invariant.reads c.in_ok-page.ensures.reads;
}
