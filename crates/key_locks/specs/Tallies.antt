-- What a tally's fields keep.
use Rattle.std.specs.Prelude.{◌≡◌, Bool, true, false, [], length, Option, Some, None, IfSome}
use Rattle.std.specs.Vec.{vec_capacity}
use Rattle.key_locks.specs.declared.tally.Tally.TheInside.{Inside}
use Rattle.key_locks.specs.Shares.{tokens_of}

abbrev pub is_taken : {A : Type 0} → Option A → Bool
is_taken None = true
is_taken (Some room) = false

pub record IsTally (t : Inside) : Type 0 where
  pub word : t.table.shared.table_id.words ≡ 1
  pub table : t.books.table_id ≡ t.table.shared.table_id
  pub sixteen : length t.counts ≡ 16
  pub tokens : t.books.me ≡ (tokens_of (is_taken t.room) t.counts, [])
  pub room : IfSome t.room (λ v. (v.items ≡ []) × (vec_capacity v ≡ 16))
