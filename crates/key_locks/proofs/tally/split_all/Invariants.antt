use Rattle.std.proofs.Common.{◌≡◌, [], ◌++◌, take, drop, vec_len}
use Rattle.std.specs.Vec.{vec_capacity}
use Rattle.key_locks.specs.Tokens.{shares_from, books_from}
use Rattle.key_locks.specs.Shares.{own_from}
use Rattle.key_locks.proofs.tally.split_all.Given as goal

abbrev pub invariant-loop-stripe : goal.invariant-loop-stripe
invariant-loop-stripe l = record {
  table : l.books.table_id ≡ l.table.shared.table_id;
  tokens : l.books.me ≡ (shares_from l.stripe (drop l.stripe l.counts) ++ books_from 0 l.counts, []);
  shares : l.shares.items ≡ take l.stripe (own_from l.table.shared.table_id 0 l.counts);
  many : vec_len l.shares ≡ l.stripe;
  room : vec_capacity l.shares ≡ 16;
}
