-- What the plan of a move knows of the lists at both keys.
use Rattle.std.proofs.Common.{ℕ, ◌≡◌}
use Rattle.std.specs.Prelude.{IsTrue}
use Rattle.kv_base.specs.Map.{Bytes}
use Rattle.kv_base.specs.MetaValues.{is_deadline}
use Rattle.redis_model.specs.Value.{lives}
use Rattle.plan_base.specs.MetaRows.{expire_number}
use Rattle.list_changes.specs.Ends.{IsSightOn}
use Rattle.list_changes.specs.Found.{IsFoundList}
use Rattle.list_moves.specs.declared.place.Place.{Place}
use Rattle.list_moves.specs.declared.place.Sought.{Sought}

-- It is the list at this key, or a new one, and the deadline of the key is above the moment.
pub record IsPlace (t : ℕ) (k : Bytes) (place : Place) : Type 0 where
  pub key : place.key ≡ k
  pub lives : IsTrue (lives t place.deadline)
  pub deadline : IsTrue (is_deadline (expire_number place.deadline))
  pub list : IsSightOn place.list

-- what was found at this key
pub record IsSoughtList (t : ℕ) (k : Bytes) (sought : Sought) : Type 0 where
  pub key : sought.key ≡ k
  pub found : IsFoundList t sought.found
