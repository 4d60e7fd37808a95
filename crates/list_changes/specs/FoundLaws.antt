-- What is found of a list is within its limits.
use Rattle.std.proofs.Common.{ℕ, ◌≡◌, refl, true}
use Rattle.std.specs.Prelude.{Option, Some, None, IfOk, option_and_then}
use Rattle.kv_base.specs.Map.{Bytes}
use Rattle.kv_base.specs.InversionLaws.{kept_is}
use Rattle.kv_base.specs.MetaValues.{MetaValue, StringValue, LifeValue, ListValue, read_meta}
use Rattle.redis_model.specs.Value.{lives}
use Rattle.lives_model.specs.Clean.{is_live}
use Rattle.plan_base.specs.Seen.{IsFoundMeta, live_in, deadline_in}
use Rattle.plan_base.specs.KeyPlanLaws.{found_deadline_fits}
use Rattle.list_plans.specs.ListLives.{list_found, IsFoundWithin}
use Rattle.list_plans.specs.ListLifeLaws.{list_within}
use Rattle.list_changes.specs.Found.{IsFoundList, found_in}

-- the deadline of live metadata is above the moment
live_lives : (t : ℕ) (text : Option Bytes) → lives t (deadline_in (live_in t text)) ≡ true
live_lives t text = by_found (live_in t text) refl
  where
    by_found : (o : Option MetaValue) → live_in t text ≡ o → lives t (deadline_in o) ≡ true
    by_found None e = refl
    by_found (Some meta) e = (kept_is (is_live t) (option_and_then read_meta text) meta e).1

-- a list in metadata within its limits is within its own
list_is_within : (o : Option MetaValue) → IsFoundMeta o → IfOk (list_found o) IsFoundWithin
list_is_within None h = tt
list_is_within (Some (StringValue x payload)) h = tt
list_is_within (Some (LifeValue kind x version size)) h = tt
list_is_within (Some (ListValue x version head tail)) h = list_within (ListValue x version head tail) x (record { version = version; head = head; tail = tail }) refl h

pub found_is_within : (t : ℕ) (text : Option Bytes) → IsFoundMeta (live_in t text) → IsFoundList t (found_in (live_in t text))
found_is_within t text h = record { lives = live_lives t text; deadline = found_deadline_fits (live_in t text) h; list = list_is_within (live_in t text) h }
