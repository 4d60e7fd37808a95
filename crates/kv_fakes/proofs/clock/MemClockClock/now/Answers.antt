use Rattle.std.proofs.Common.{sym, arith}
use Rattle.kv_fakes.proofs.Pieces.{no_reading, next_taken, last_repeats}
use Rattle.kv_fakes.proofs.clock.MemClockClock.now.Goals as goal

pub returns-then-self-count : goal.returns-then-self-count
returns-then-self-count c = next_taken c.self.inside.readings c.args.self.now c.self.inside.at c.in-Some.reading.now (sym c.self.view_is) (sym c.in-Some.ensures.value) (omega (arith, c.if-self-count.true, c.len-count.ensures))

pub returns-else-self-count : goal.returns-else-self-count
returns-else-self-count c = last_repeats c.self.inside.readings c.args.self.now c.self.inside.at c.in-Some.reading.now (sym c.self.view_is) (sym c.in-Some.ensures.value) (omega (arith, c.if-self-count.false, c.len-count.ensures))

pub returns-in-None : goal.returns-in-None
returns-in-None c = no_reading c.self.inside.readings c.args.self.now c.self.inside.at (sym c.self.view_is) (sym c.in-None.ensures.value)
