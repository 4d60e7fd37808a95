-- One more field, as the loop over fields meets it.
use Rattle.std.proofs.Common.{◌≡◌, ap, ◌∙◌}
use Rattle.std.specs.Prelude.{Option, Some, None, IfSome}
use Rattle.kv_base.specs.Map.{Bytes}
use Rattle.redis_model.specs.declared.reply.Reply.{Reply}
use Rattle.redis_model.specs.Outcome.{bulk_or_null}
use Rattle.lives_model.specs.Rows.{Rows}
use Rattle.plan_base.specs.declared.life.LifeSight.{LifeSight}
use Rattle.plan_base.specs.Lives.{row_in_life}
use Rattle.hash_cmds.specs.Planned.{value_of_field}

-- the value that was looked up is shown
pub shown_by : (rows : Option Rows) (k : Bytes) (life : Option LifeSight) (f : Bytes) (value : Option Bytes) (answer : Reply) → answer ≡ bulk_or_null value → IfSome rows (λ c. value ≡ row_in_life c k life f)
    → IfSome rows (λ c. answer ≡ value_of_field c k life f)
shown_by None k life f value answer is there = tt
shown_by (Some c) k life f value answer is there = is ∙ ap bulk_or_null there
