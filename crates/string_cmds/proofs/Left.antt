-- What is left of the time of a key.
use Rattle.std.proofs.Common.{◌≡◌, ℕ, ◌≤◌, ◌^◌, arith, refl}
use Rattle.std.proofs.lemmas.Bool.Decides.{nat_tests}
use Rattle.std.specs.Prelude.{Option, Some, None, IsTrue, is_some}
use Rattle.kv_base.specs.MetaValues.{MetaValue, is_deadline}
use Rattle.redis_model.specs.Keys.{left_until}
use Rattle.plan_base.specs.Seen.{deadline_in}
use Rattle.string_cmds.specs.Planned.{left_in}

-- what is left of a key's time, where there is metadata
pub left_is : (t : ℕ) (found : Option MetaValue) → IsTrue (is_some found) → left_in t found ≡ left_until t (deadline_in found)
left_is t None there = absurd (cc)
left_is t (Some meta) there = refl

-- a deadline is at most 2^62
pub deadline_low : (deadline : ℕ) → IsTrue (is_deadline deadline) → deadline ≤ 2 ^ 62
deadline_low deadline h = grind (arith, nat_tests)
