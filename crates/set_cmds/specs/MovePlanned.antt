-- The plan of SMOVE, by what it finds at its two keys.
use Rattle.std.specs.Prelude.{ℕ, Bool, true, not, if◌then◌else◌, [], ◌∷◌, Option, Some, None, Ok, Err}
use Rattle.kv_base.specs.Map.{Bytes, same, empty, insert}
use Rattle.kv_base.specs.declared.kind.Kind.TheVariants as code
use Rattle.batch_codec.specs.Batches.{Batch}
use Rattle.redis_model.specs.declared.reply.Reply.{Reply}
use Rattle.redis_model.specs.declared.reply.Reply.TheVariants as reply
use Rattle.redis_model.specs.Outcome.{Outcome, number}
use Rattle.lives_model.specs.declared.plan.Plan.{Plan}
use Rattle.lives_model.specs.Rows.{Rows, Elements, row_key}
use Rattle.lives_model.specs.Plans.{least_above}
use Rattle.plan_base.specs.declared.life.LifeSight.{LifeSight}
use Rattle.plan_base.specs.LifeSteps.{life_on}
use Rattle.life_plans.specs.ChangePlans.{changing_plan, size_after}
use Rattle.life_plans.specs.WantedRows.{wanted, leaves}
use Rattle.life_plans.specs.SetLives.{has_member, set_life}

-- it answers and writes nothing, and is right until then
abbrev pub quiet : Option ℕ → Reply → Plan
quiet until answer = record { reply = answer; batch = empty; until = until }

-- a plan that is right until then
abbrev pub looking : Option ℕ → Plan → Plan
looking until plan = record { reply = plan.reply; batch = plan.batch; until = until }

-- the sooner of the deadlines of two keys
abbrev pub until_both : ℕ → Option ℕ → Option ℕ → Option ℕ
until_both t p q = least_above t (p ∷ q ∷ [])

-- the source loses a member that it has: the row is deleted, and a set that becomes empty leaves no key
abbrev pub member_leaving : ℕ → ℕ → Bytes → Bytes → Option ℕ → Option LifeSight → Plan
member_leaving t fresh a x old found = changing_plan t a code.Set old fresh found true (wanted a (life_on fresh found).version (leaves (x ∷ []))) (size_after found 0 1) (number 1)

-- the target gets a member that it does not have, beside these rows of the source; too many members are an error
abbrev pub joining : ℕ → ℕ → Bytes → Bytes → Option ℕ → Option LifeSight → Batch → Plan
joining t fresh b x old found rows = changing_plan t b code.Set old fresh found true (insert rows (row_key Elements b (life_on fresh found).version x) (Some [])) (size_after found 1 0) (number 1)

-- the member goes over; a target that has it stays as it is
abbrev pub member_moved : ℕ → ℕ → Bytes → Bytes → Bytes → Option ℕ → Option ℕ → Option LifeSight → Option LifeSight → Bool → Plan
member_moved t fresh a b x p q source target there =
    let left = member_leaving t fresh a x p source in
    looking (until_both t p q) (if there then left else joining t fresh b x q target left.batch)

-- by the lives that are found
abbrev pub moving_member : Rows → ℕ → ℕ → Bytes → Bytes → Bytes → Option ℕ → Option ℕ → Option LifeSight → Option LifeSight → Plan
moving_member c t fresh a b x p q source target =
    if not (has_member c a source x) then quiet (until_both t p q) (number 0)
    else (if same a b then quiet (until_both t p q) (number 1)
    else member_moved t fresh a b x p q source target (has_member c b target x))

-- without the source the answer is 0, whatever the target holds; else a key of another type is an error
abbrev pub moving_member_found : Rows → ℕ → ℕ → Bytes → Bytes → Bytes → Option ℕ → Option ℕ → Outcome (Option LifeSight) → Outcome (Option LifeSight) → Plan
moving_member_found c t fresh a b x p q (Ok None) target = quiet (until_both t p q) (number 0)
moving_member_found c t fresh a b x p q (Ok (Some life)) (Ok target) = moving_member c t fresh a b x p q (Some life) target
moving_member_found c t fresh a b x p q (Ok (Some life)) (Err e) = quiet (until_both t p q) (reply.Error e)
moving_member_found c t fresh a b x p q (Err e) target = quiet (until_both t p q) (reply.Error e)

-- SMOVE
unfoldable pub s_move_plan : Rows → ℕ → ℕ → Bytes → Bytes → Bytes → Plan
s_move_plan c t fresh a b x = let source = set_life c t a in let target = set_life c t b in moving_member_found c t fresh a b x source.deadline target.deadline source.life target.life
