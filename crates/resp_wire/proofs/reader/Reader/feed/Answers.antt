use Rattle.resp_wire.proofs.WordsRead.{held_fed}
use Rattle.resp_wire.proofs.reader.Reader.feed.Goals as goal

pub invariant_of-self-2 : goal.invariant_of-self-2
invariant_of-self-2 c = rw c.in_ok-extend_from_slice.ensures.items (held_fed c.drop_front.new.buf.items c.drop_front.new.pending c.args.piece.now c.drop_front.ensures.held)
