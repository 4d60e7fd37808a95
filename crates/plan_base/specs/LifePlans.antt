-- Plans of commands on the collection at their only key.
use Rattle.std.specs.Prelude.{ℕ, Option, Ok, Err, [], ◌∷◌}
use Rattle.kv_base.specs.Map.{empty}
use Rattle.redis_model.specs.declared.reply.Reply.{Reply}
use Rattle.redis_model.specs.declared.reply.Reply.TheVariants as reply
use Rattle.redis_model.specs.Outcome.{Outcome}
use Rattle.lives_model.specs.declared.plan.Plan.{Plan}
use Rattle.lives_model.specs.Plans.{least_above}
use Rattle.plan_base.specs.declared.life.LifeSight.{LifeSight}

-- it answers and writes nothing; the key has this deadline
abbrev pub answering : ℕ → Option ℕ → Reply → Plan
answering t old answer = record { reply = answer; batch = empty; until = least_above t (old ∷ []) }

-- the answer to a command that reads a collection; a key of another type is an error
abbrev pub life_reply : (Option LifeSight → Reply) → Outcome (Option LifeSight) → Reply
life_reply f (Ok found) = f found
life_reply f (Err e) = reply.Error e
