use Rattle.resp_wire.specs.LineLaws.{line_ended, line_full, line_quoted}
use Rattle.resp_wire.proofs.line.stopped_at.Goals as goal

pub returns-then-bytes-place-eq10 : goal.returns-then-bytes-place-eq10
returns-then-bytes-place-eq10 c = rw (c.split_at.ensures.front, c.split_at-then-bytes-place-eq10.ensures.back) (line_ended c.args.place c.args.bytes.now c.requires.searched c.requires.within c.if-bytes-place-eq10.true)

pub returns-then-place-eq-MAX_LINE : goal.returns-then-place-eq-MAX_LINE
returns-then-place-eq-MAX_LINE c = line_full c.args.place c.args.bytes.now c.requires.searched c.requires.within c.if-place-eq-MAX_LINE.true c.if-bytes-place-eq10.false

pub returns-else-place-eq-MAX_LINE : goal.returns-else-place-eq-MAX_LINE
returns-else-place-eq-MAX_LINE c = line_quoted c.args.place c.args.bytes.now c.requires.searched c.requires.within c.if-place-eq-MAX_LINE.false c.if-bytes-place-eq10.false c.requires.stop
