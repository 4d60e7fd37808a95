use Rattle.std.proofs.Common.{ap, ◌<◌, length, arith}
use Rattle.key_locks.specs.Shares.{tokens_of}
use Rattle.key_locks.specs.Tallies.{is_taken}
use Rattle.key_locks.proofs.Meetings.{joined, met_book, equal_counts}
use Rattle.key_locks.proofs.tally.Tally.met.Goals as goal

pub returns-clause-equal : goal.returns-clause-equal
returns-clause-equal c =
    let s = c.share.inside.stripe in
    let n = c.share.inside.count in
    let counts = c.self.inside.counts in
    let taken = is_taken c.self.inside.room in
    let lt : s < length counts = omega (arith, c.share.invariant.0, c.self.invariant.sixteen) in
    let m = joined c.take_in.new.seat.me c.share.inside.seat.me c.self.inside.books.me s n (tokens_of taken counts) c.take_in.ensures.tokens c.share.invariant.1 c.self.invariant.tokens in
    let h = met_book c.take_in.new.seat.me taken counts s n m lt c.compare.ensures.meets in
    equal_counts s n c.args.share.stripe c.args.share.count counts c.args.self.now.counts (ap (λ v. v.stripe) c.share.view_is) (ap (λ v. v.count) c.share.view_is) (ap (λ v. v.counts) c.self.view_is) c.share.invariant.0 h.1
