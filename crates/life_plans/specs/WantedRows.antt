-- What commands want of the elements of a life: rows that are put there, and rows that are taken away.
use Rattle.std.proofs.Common.{ℕ, List}
use Rattle.std.specs.Prelude.{Option, Some, None, [], fold, map}
use Rattle.kv_base.specs.Map.{Bytes, empty, insert}
use Rattle.batch_codec.specs.Batches.{Batch}
use Rattle.lives_model.specs.Rows.{Elements, row_key}

-- what is to stand under a subkey: a row, or none
abbrev pub Wish : Type 0
Wish = Bytes × Option Bytes

-- the batch that has this for an element of a life too
abbrev pub with_wish : Bytes → ℕ → Batch → Wish → Batch
with_wish k version b wish = insert b (row_key Elements k version wish.0) wish.1

-- the batch of such wishes; of one subkey the last one holds
unfoldable pub wanted : Bytes → ℕ → List Wish → Batch
wanted k version wishes = fold (with_wish k version) empty wishes

-- fields with their values, members of a set, which have no value, and elements that go
abbrev pub puts : List (Bytes × Bytes) → List Wish
puts es = map (λ e. (e.0, Some e.1)) es

abbrev pub joins : List Bytes → List Wish
joins xs = map (λ x. (x, Some [])) xs

abbrev pub leaves : List Bytes → List Wish
leaves xs = map (λ x. (x, None)) xs
