use Rattle.std.proofs.Common.{◌<◌, ◌∙◌, length, arith}
use Rattle.key_locks.specs.Tokens.{books_from}
use Rattle.key_locks.proofs.Meetings.{next_seat}
use Rattle.key_locks.proofs.Places.{pushed}
use Rattle.key_locks.proofs.tally.split_all.Goals as goal

pub loop-stripe-preserved : goal.loop-stripe-preserved
loop-stripe-preserved c =
    let i = c.loop-stripe.invariant in
    let k = c.loop-stripe.stripe in
    let ns = c.args.counts.now in
    let lt : k < length ns = omega (arith, c.requires.counts) in record {
      table = c.split_share-share.ensures.table ∙ i.table;
      tokens = next_seat c.loop-stripe.books.me c.split_share-share.new.seat.me k ns (books_from 0 ns) i.tokens c.split_share-share.ensures.tokens lt;
      shares = pushed c.args.table.now.shared.table_id k c.from.result ns c.loop-stripe.shares.items c.push_reserved.new.self.items c.split_share-share.result c.push_reserved.ensures.items i.shares c.split_share-share.ensures.share c.from.ensures lt;
      many = omega (arith, c.push_reserved.ensures.len);
      room = c.push_reserved.ensures.capacity ∙ i.room;
    }
