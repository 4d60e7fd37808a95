-- A transaction that is read command by command.
use Rattle.std.specs.Prelude.{ℕ, ◌+◌, ◌*◌, ◌^◌, ◌≤◌, List, All, length, sum_by}
use Rattle.redis_model.specs.declared.command.Command.{Command}
use Rattle.lives_model.specs.Plans.{IsAsked, words}

-- its commands so far, and what they weigh together
pub record IsBegunTransaction (commands : List Command) (weight : ℕ) : Type 0 where
  pub few : length commands ≤ 1024
  pub asked : All IsAsked commands
  pub light : weight ≤ 2 ^ 23
  pub weighed : 16 * sum_by words commands ≤ weight + 16 * length commands
