-- The plans of commands that read one set.
use Rattle.std.proofs.Common.{ℕ, refl, ap, List}
use Rattle.std.specs.Prelude.{map}
use Rattle.kv_base.specs.Map.{Bytes, has, size}
use Rattle.redis_model.specs.declared.reply.Reply.TheVariants as reply
use Rattle.redis_model.specs.declared.command.Command.TheVariants as cmd
use Rattle.redis_model.specs.Outcome.{number, yes_no}
use Rattle.redis_model.specs.Apply.{carried_out}
use Rattle.lives_model.specs.Rows.{Rows}
use Rattle.plan_base.specs.Carries.{Carries}
use Rattle.plan_base.specs.LifeLaws.{set_stands, size_there}
use Rattle.plan_base.specs.LifePlanLaws.{life_reading}
use Rattle.life_plans.specs.SetLiveLaws.{has_member_is}
use Rattle.set_cmds.specs.Planned.{s_card_plan, s_is_member_plan, s_m_is_member_plan}

pub s_card_carries : (c : Rows) (t fresh : ℕ) (k : Bytes) (w : ℕ) → Carries c t fresh (cmd.SCard k w) (s_card_plan c t k)
unfolding carried_out s_card_plan
s_card_carries c t fresh k w =
    life_reading set_stands c t fresh (cmd.SCard k w) k (λ s. number (size s)) _ refl refl (λ m. refl) (λ found s life. ap number (size_there set_stands c k found s life))

pub s_is_member_carries : (c : Rows) (t fresh : ℕ) (k x : Bytes) (w : ℕ) → Carries c t fresh (cmd.SIsMember k x w) (s_is_member_plan c t k x)
unfolding carried_out s_is_member_plan
s_is_member_carries c t fresh k x w =
    life_reading set_stands c t fresh (cmd.SIsMember k x w) k (λ s. yes_no (has s x)) _ refl refl (λ m. refl) (λ found s life. ap yes_no (has_member_is c k found s x life))

pub s_m_is_member_carries : (c : Rows) (t fresh : ℕ) (k : Bytes) (xs : List Bytes) (w : ℕ) → Carries c t fresh (cmd.SMIsMember k xs w) (s_m_is_member_plan c t k xs)
unfolding carried_out s_m_is_member_plan
s_m_is_member_carries c t fresh k xs w =
    life_reading set_stands c t fresh (cmd.SMIsMember k xs w) k (λ s. reply.Array (map (λ x. yes_no (has s x)) xs)) _ refl refl (λ m. refl)
    (λ found s life. (λ i. reply.Array (map (λ x. yes_no (has_member_is c k found s x life i)) xs)))
