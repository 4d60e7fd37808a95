use Rattle.std.proofs.Common.{ap, ◌<◌, ◌∙◌, length, arith}
use Rattle.std.proofs.lemmas.List.{length-set}
use Rattle.key_locks.specs.Shares.{tokens_of}
use Rattle.key_locks.specs.Tallies.{is_taken}
use Rattle.key_locks.proofs.Meetings.{joined, met_book, pair_of, equal_counts, raised_seat}
use Rattle.key_locks.proofs.tally.Tally.raised.Goals as goal

pub raise-requires-clause-pair : goal.raise-requires-clause-pair
raise-requires-clause-pair c =
    let s = c.share.inside.stripe in
    let n = c.share.inside.count in
    let counts = c.self.inside.counts in
    let taken = is_taken c.self.inside.room in
    let lt : s < length counts = omega (arith, c.share.invariant.0, c.self.invariant.sixteen) in
    let m = joined c.take_in.new.seat.me c.share.inside.seat.me c.self.inside.books.me s n (tokens_of taken counts) c.take_in.ensures.tokens c.share.invariant.1 c.self.invariant.tokens in
    pair_of c.take_in.new.seat.me taken counts s n m lt

pub invariant_of-self : goal.invariant_of-self
invariant_of-self c =
    let s = c.share.inside.stripe in
    let n = c.share.inside.count in
    let counts = c.self.inside.counts in
    let taken = is_taken c.self.inside.room in
    let lt : s < length counts = omega (arith, c.share.invariant.0, c.self.invariant.sixteen) in
    let m = joined c.take_in.new.seat.me c.share.inside.seat.me c.self.inside.books.me s n (tokens_of taken counts) c.take_in.ensures.tokens c.share.invariant.1 c.self.invariant.tokens in
    let h = met_book c.take_in.new.seat.me taken counts s n m lt c.raise.ensures.meets in record {
      word = c.self.invariant.word;
      table = c.split_share.ensures.table ∙ (c.raise.ensures.table ∙ (c.take_in.ensures.table ∙ c.self.invariant.table));
      sixteen = length-set _ _ _ ∙ c.self.invariant.sixteen;
      tokens = raised_seat c.take_in.new.seat.me c.raise.new.seat.me c.split_share.new.seat.me taken counts s n c.from.result m c.raise.ensures.tokens c.split_share.ensures.tokens c.from.ensures lt h.0 h.1;
      room = c.self.invariant.room;
    }

pub returns-clause-equal : goal.returns-clause-equal
returns-clause-equal c =
    let s = c.share.inside.stripe in
    let n = c.share.inside.count in
    let counts = c.self.inside.counts in
    let taken = is_taken c.self.inside.room in
    let lt : s < length counts = omega (arith, c.share.invariant.0, c.self.invariant.sixteen) in
    let m = joined c.take_in.new.seat.me c.share.inside.seat.me c.self.inside.books.me s n (tokens_of taken counts) c.take_in.ensures.tokens c.share.invariant.1 c.self.invariant.tokens in
    let h = met_book c.take_in.new.seat.me taken counts s n m lt c.raise.ensures.meets in
    equal_counts s n c.args.share.stripe c.args.share.count counts c.args.self.now.counts (ap (λ v. v.stripe) c.share.view_is) (ap (λ v. v.count) c.share.view_is) (ap (λ v. v.counts) c.self.view_is) c.share.invariant.0 h.1
