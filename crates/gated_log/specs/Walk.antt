-- How a reader goes from record to record through a file's bytes.
use Rattle.std.proofs.Common.{◌≡◌, ℕ, ◌+◌, ◌<◌, ◌^◌, List, ◌∷◌, ◌++◌, length, drop}
use Rattle.kv_base.specs.Fields.{text}
use Rattle.gated_log.specs.Gated.{records, gated, IsEndOfRecords}

-- these records stand before this place
pub record IsPassed (place : ℕ) (bodies : List (List ℕ)) (file : List ℕ) : Type 0 where
  pub at : IsEndOfRecords place bodies
  pub is : file ≡ gated bodies ++ drop place file

-- at this place stands an open record with this body, and behind it the next
pub record StandsAt (place next : ℕ) (body file : List ℕ) : Type 0 where
  pub fits : length body < 2 ^ 32
  pub is : drop place file ≡ 1 ∷ (text body ++ drop next file)
  pub next_is : next ≡ place + 5 + length body
