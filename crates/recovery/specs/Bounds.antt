-- What is beyond nothing that was recovered: the last sequence and the floor.
use Rattle.std.specs.Prelude.{◌≡◌, ℕ, ◌+◌, ◌≤◌, nat_le, Bool, true, List, length}
use Rattle.std.specs.List.{list_all}
use Rattle.batch_codec.specs.declared.record.Record.{Record}
use Rattle.row_model.specs.Rows.{are_upto}
use Rattle.recovery.specs.Logs.{batches_in}
use Rattle.recovery.specs.Recover.{Recovery, recovered_floor, recovered_last, recovered_rows}

-- no batch is of a later moment
abbrev pub are_by : ℕ → List Record → Bool
are_by moment = list_all (λ r. nat_le r.moment moment)

-- The last sequence is that of the tables and one more for each batch, and no row is above it. The floor is not below that
-- of the manifest, and no batch is later.
pub record HasBounds (found : Recovery) : Type 0 where
  pub last : recovered_last found ≡ found.state.last + length (batches_in found.log)
  pub rows : are_upto (recovered_last found) (recovered_rows found) ≡ true
  pub floor : found.state.floor ≤ recovered_floor found
  pub moments : are_by (recovered_floor found) (batches_in found.log) ≡ true
