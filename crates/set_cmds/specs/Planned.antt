-- The plans of commands on one set, by what they find.
use Rattle.std.specs.Prelude.{ℕ, ◌-◌, false, List, map, Option, Some, None}
use Rattle.kv_base.specs.Map.{Bytes}
use Rattle.kv_base.specs.declared.kind.Kind.TheVariants as code
use Rattle.batch_codec.specs.Batches.{Batch}
use Rattle.redis_model.specs.declared.reply.Reply.{Reply}
use Rattle.redis_model.specs.declared.reply.Reply.TheVariants as reply
use Rattle.redis_model.specs.Outcome.{number, yes_no}
use Rattle.lives_model.specs.declared.plan.Plan.{Plan}
use Rattle.lives_model.specs.Rows.{Rows}
use Rattle.plan_base.specs.declared.key_life.KeyLife.{KeyLife}
use Rattle.plan_base.specs.declared.life.LifeSight.{LifeSight}
use Rattle.plan_base.specs.Lives.{life_size}
use Rattle.plan_base.specs.LifePlans.{answering, life_reply}
use Rattle.plan_base.specs.LifeSteps.{life_on}
use Rattle.plan_base.specs.LifeChanges.{differing, added_rows, removed_rows}
use Rattle.life_plans.specs.ChangePlans.{changing_plan, by_life, size_after}
use Rattle.life_plans.specs.WantedRows.{wanted, joins, leaves}
use Rattle.life_plans.specs.SetLives.{has_member, set_life}

-- ---- reading

-- the plan of a command that reads a set and answers this by its life
abbrev pub by_set : ℕ → (Option LifeSight → Reply) → KeyLife → Plan
by_set t f found = answering t found.deadline (life_reply f found.life)

-- SCARD
unfoldable pub s_card_plan : Rows → ℕ → Bytes → Plan
s_card_plan c t k = by_set t (λ life. number (life_size life)) (set_life c t k)

-- SISMEMBER
unfoldable pub s_is_member_plan : Rows → ℕ → Bytes → Bytes → Plan
s_is_member_plan c t k x = by_set t (λ life. yes_no (has_member c k life x)) (set_life c t k)

-- SMISMEMBER: for each member 1 or 0
unfoldable pub s_m_is_member_plan : Rows → ℕ → Bytes → List Bytes → Plan
s_m_is_member_plan c t k xs = by_set t (λ life. reply.Array (map (λ x. yes_no (has_member c k life x)) xs)) (set_life c t k)

-- ---- changing

-- a command that changes the set at its key, by the deadline of the key and the life that is found there
abbrev pub set_changing : ℕ → (Option ℕ → Option LifeSight → Plan) → KeyLife → Plan
set_changing t plan found = by_life t found.deadline (plan found.deadline) found.life

-- by the rows that it wants; the answer is told by the number of members afterwards
abbrev pub changing_members : Rows → ℕ → ℕ → Bytes → Option ℕ → Option LifeSight → Batch → (ℕ → Reply) → Plan
changing_members c t fresh k old found rows answer =
    let count = size_after found (added_rows c rows) (removed_rows c rows) in
    changing_plan t k code.Set old fresh found false (differing c rows) count (answer count)

-- SADD: a member that is named twice is one member; where all are there nothing is written
abbrev pub adding : Rows → ℕ → ℕ → Bytes → List Bytes → Option ℕ → Option LifeSight → Plan
adding c t fresh k xs old found = changing_members c t fresh k old found (wanted k (life_on fresh found).version (joins xs)) (λ count. number (count - life_size found))

unfoldable pub s_add_plan : Rows → ℕ → ℕ → Bytes → List Bytes → Plan
s_add_plan c t fresh k xs = set_changing t (adding c t fresh k xs) (set_life c t k)

-- SREM: where there is no key nothing is looked up
abbrev pub removing : Rows → ℕ → ℕ → Bytes → List Bytes → Option ℕ → Option LifeSight → Plan
removing c t fresh k xs old None = answering t old (number 0)
removing c t fresh k xs old (Some life) = changing_members c t fresh k old (Some life) (wanted k life.version (leaves xs)) (λ count. number (life.size - count))

unfoldable pub s_rem_plan : Rows → ℕ → ℕ → Bytes → List Bytes → Plan
s_rem_plan c t fresh k xs = set_changing t (removing c t fresh k xs) (set_life c t k)
