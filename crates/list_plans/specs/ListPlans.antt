-- Plans of commands that change the list at one of their keys.
use Rattle.std.specs.Prelude.{ℕ, Option, Some, None, [], ◌∷◌, Ok, Err}
use Rattle.kv_base.specs.Map.{Bytes, insert}
use Rattle.kv_base.specs.MetaValues.{ListValue, meta_text}
use Rattle.batch_codec.specs.Batches.{Batch}
use Rattle.redis_model.specs.declared.reply.Reply.{Reply}
use Rattle.redis_model.specs.declared.reply.Reply.TheVariants as reply
use Rattle.redis_model.specs.Outcome.{Outcome}
use Rattle.lives_model.specs.declared.plan.Plan.{Plan}
use Rattle.lives_model.specs.Rows.{meta_key}
use Rattle.lives_model.specs.Plans.{least_above}
use Rattle.plan_base.specs.LifePlans.{answering}
use Rattle.plan_base.specs.MetaRows.{expire_number, meta_batch}
use Rattle.list_plans.specs.declared.sight.ListSight.{ListSight}

-- the metadata of a list with this deadline
abbrev pub sight_text : Option ℕ → ListSight → Bytes
sight_text deadline list = meta_text (ListValue (expire_number deadline) list.version list.head list.tail)

-- rows of items, and the metadata of the list that they make, at a key
abbrev pub list_batch : Bytes → Option ℕ → ListSight → Batch → Batch
list_batch k deadline list rows = insert rows (meta_key k) (Some (sight_text deadline list))

-- The plan that leaves this list at a key, whose rows these change. The key's deadline stays.
abbrev pub list_plan : ℕ → Bytes → Option ℕ → ListSight → Batch → Reply → Plan
list_plan t k old list rows answer = record { reply = answer; batch = list_batch k old list rows; until = least_above t (old ∷ old ∷ []) }

-- the plan that takes the last items of a list away, and the key with them
abbrev pub gone_plan : ℕ → Bytes → Option ℕ → Reply → Plan
gone_plan t k old answer = record { reply = answer; batch = meta_batch k None; until = least_above t (old ∷ None ∷ []) }

-- the plan by the list that is found; a key of another type is an error
abbrev pub by_list : ℕ → Option ℕ → (Option ListSight → Plan) → Outcome (Option ListSight) → Plan
by_list t old plan (Ok found) = plan found
by_list t old plan (Err e) = answering t old (reply.Error e)
