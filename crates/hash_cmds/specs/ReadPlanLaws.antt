-- The plans of commands that read a hash.
use Rattle.std.proofs.Common.{ℕ, refl, ap, [], List, length}
use Rattle.std.specs.Prelude.{map, is_some, unwrap_or}
use Rattle.kv_base.specs.Map.{Bytes, get, has, size}
use Rattle.redis_model.specs.declared.reply.Reply.TheVariants as reply
use Rattle.redis_model.specs.declared.command.Command.TheVariants as cmd
use Rattle.redis_model.specs.Outcome.{number, yes_no, bulk_or_null}
use Rattle.redis_model.specs.Apply.{carried_out}
use Rattle.lives_model.specs.Rows.{Rows}
use Rattle.plan_base.specs.Carries.{Carries}
use Rattle.plan_base.specs.Lives.{life_size, row_in_life}
use Rattle.plan_base.specs.LifeLaws.{hash_stands, element_there, size_there}
use Rattle.plan_base.specs.LifePlanLaws.{life_reading}
use Rattle.hash_cmds.specs.Planned.{value_of_field, h_get_plan, h_m_get_plan, h_len_plan, h_exists_plan, h_str_len_plan}

pub h_get_carries : (c : Rows) (t fresh : ℕ) (k f : Bytes) (w : ℕ) → Carries c t fresh (cmd.HGet k f w) (h_get_plan c t k f)
unfolding carried_out h_get_plan
h_get_carries c t fresh k f w =
    life_reading hash_stands c t fresh (cmd.HGet k f w) k (λ h. bulk_or_null (get h f)) (λ found. value_of_field c k found f) refl refl (λ m. refl)
    (λ found h s. ap bulk_or_null (element_there hash_stands c k found h f s))

pub h_m_get_carries : (c : Rows) (t fresh : ℕ) (k : Bytes) (fs : List Bytes) (w : ℕ) → Carries c t fresh (cmd.HMGet k fs w) (h_m_get_plan c t k fs)
unfolding carried_out h_m_get_plan
h_m_get_carries c t fresh k fs w =
    life_reading hash_stands c t fresh (cmd.HMGet k fs w) k (λ h. reply.Array (map (λ f. bulk_or_null (get h f)) fs)) (λ found. reply.Array (map (value_of_field c k found) fs)) refl refl (λ m. refl)
    (λ found h s. λ i. reply.Array (map (λ f. bulk_or_null (element_there hash_stands c k found h f s i)) fs))

pub h_len_carries : (c : Rows) (t fresh : ℕ) (k : Bytes) (w : ℕ) → Carries c t fresh (cmd.HLen k w) (h_len_plan c t k)
unfolding carried_out h_len_plan
h_len_carries c t fresh k w =
    life_reading hash_stands c t fresh (cmd.HLen k w) k (λ h. number (size h)) (λ found. number (life_size found)) refl refl (λ m. refl)
    (λ found h s. ap number (size_there hash_stands c k found h s))

pub h_exists_carries : (c : Rows) (t fresh : ℕ) (k f : Bytes) (w : ℕ) → Carries c t fresh (cmd.HExists k f w) (h_exists_plan c t k f)
unfolding carried_out h_exists_plan
h_exists_carries c t fresh k f w =
    life_reading hash_stands c t fresh (cmd.HExists k f w) k (λ h. yes_no (has h f)) (λ found. yes_no (is_some (row_in_life c k found f))) refl refl (λ m. refl)
    (λ found h s. ap (λ o. yes_no (is_some o)) (element_there hash_stands c k found h f s))

pub h_str_len_carries : (c : Rows) (t fresh : ℕ) (k f : Bytes) (w : ℕ) → Carries c t fresh (cmd.HStrLen k f w) (h_str_len_plan c t k f)
unfolding carried_out h_str_len_plan
h_str_len_carries c t fresh k f w =
    life_reading hash_stands c t fresh (cmd.HStrLen k f w) k (λ h. number (length (unwrap_or (get h f) []))) (λ found. number (length (unwrap_or (row_in_life c k found f) []))) refl refl (λ m. refl)
    (λ found h s. ap (λ o. number (length (unwrap_or o []))) (element_there hash_stands c k found h f s))
