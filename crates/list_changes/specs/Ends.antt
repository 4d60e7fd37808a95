-- How the ends of a list move.
use Rattle.std.proofs.Common.{ℕ, ◌+◌, ◌-◌, ◌<◌, ◌≤◌, ◌^◌}
use Rattle.std.specs.Prelude.{Bool, IsTrue, not, ◌||◌, nat_lt}
use Rattle.kv_base.specs.RawKeys.{is_version}
use Rattle.redis_model.specs.declared.command.End.{End}
use Rattle.redis_model.specs.Value.{max_size}
use Rattle.lives_model.specs.Moved.{head_pushed, head_popped}
use Rattle.list_plans.specs.declared.sight.ListSight.{ListSight}
use Rattle.list_plans.specs.ListRows.{tail_pushed, tail_popped, end_has_room}

-- a list within its limits, or a new one, which has no items yet
pub record IsSightOn (list : ListSight) : Type 0 where
  pub version : IsTrue (is_version list.version)
  pub ends : list.head ≤ list.tail
  pub few : list.tail - list.head < 2 ^ 32
  pub low : list.tail < 2 ^ 64

-- a list after n items more, and after one less, at an end
abbrev pub sight_pushed : End → ℕ → ListSight → ListSight
sight_pushed end n list = record { version = list.version; head = head_pushed end n list.head; tail = tail_pushed end n list.tail }

abbrev pub sight_popped : End → ListSight → ListSight
sight_popped end list = record { version = list.version; head = head_popped end list.head; tail = tail_popped end list.tail }

-- Too many items are an error. A store sees to it that indices do not run out; where they did, that would be the same one.
abbrev pub is_too_long : End → ListSight → ℕ → Bool
is_too_long end list n = nat_lt max_size ((list.tail - list.head) + n) || not (end_has_room end list n)
