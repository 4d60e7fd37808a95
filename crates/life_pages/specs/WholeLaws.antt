-- HGETALL, HKEYS, HVALS and SMEMBERS are carried out by their plans.
use Rattle.std.proofs.Common.{◌≡◌, ℕ, refl, ap, ◌∙◌, List, [], ◌∷◌}
use Rattle.std.proofs.lemmas.List.Concat.{flat_map_single}
use Rattle.std.specs.Prelude.{Option, IsFalse, map}
use Rattle.std.specs.List.{flat_map}
use Rattle.kv_base.specs.Map.{Bytes, keys, values}
use Rattle.kv_base.specs.declared.kind.Kind.{Kind as Code}
use Rattle.kv_base.specs.declared.kind.Kind.TheVariants as code
use Rattle.redis_model.specs.declared.reply.Reply.{Reply}
use Rattle.redis_model.specs.declared.command.Command.{Command}
use Rattle.redis_model.specs.declared.command.Command.TheVariants as cmd
use Rattle.redis_model.specs.Value.{RedisMap}
use Rattle.redis_model.specs.Outcome.{Kind, bulks, reading}
use Rattle.redis_model.specs.About.{writes, keys_of}
use Rattle.redis_model.specs.Apply.{carried_out}
use Rattle.lives_model.specs.Rows.{Rows, Elements}
use Rattle.lives_model.specs.Means.{HasWholeScores}
use Rattle.lives_model.specs.LifeRows.{RowAt, value_rows}
use Rattle.plan_base.specs.Carries.{Carries}
use Rattle.plan_base.specs.Lives.{StandsAs}
use Rattle.plan_base.specs.LifeLaws.{hash_stands, set_stands}
use Rattle.plan_base.specs.LifePlanLaws.{life_reading}
use Rattle.life_pages.specs.declared.whole.Whole.{Whole}
use Rattle.life_pages.specs.declared.whole.Whole.TheVariants.{Both, Subkeys, Values}
use Rattle.life_pages.specs.LifeElements.{elements_in}
use Rattle.life_pages.specs.LifeElementLaws.{elements_are}
use Rattle.life_pages.specs.Whole.{parts_in, whole_reply, whole_plan}

-- this is the plan of a command
abbrev pub IsWholePlan : Rows → ℕ → ℕ → Command → Bytes → Code → Whole → Type 0
IsWholePlan c t fresh d k kind form = Carries c t fresh d (whole_plan c t k kind form)

module _ {A : Type 0} {kind : Kind A} {code : Code} {row : A → Bytes → Option Bytes} (stands : StandsAs kind code row) (whole : (a : A) → HasWholeScores (kind.value_of a)) where
  -- A command with one key that reads its collection carries out what it answers of the collection's rows.
  pub whole_carries : (c : Rows) (t fresh : ℕ) (d : Command) (k : Bytes) (form : Whole) (f : A → Reply)
      → IsFalse (writes d) → keys_of d ≡ k ∷ [] → ((m : RedisMap) → carried_out m t d ≡ reading kind m k f)
      → ((a : A) → whole_reply form (value_rows (kind.value_of a) 0 Elements) ≡ f a) → IsWholePlan c t fresh d k code form
  unfolding whole_plan
  whole_carries c t fresh d k form f reads one is answers =
      life_reading stands c t fresh d k f (λ found. whole_reply form (elements_in c k found)) reads one is
      (λ found a life. ap (whole_reply form) (elements_are stands c k found a 0 (whole a) life) ∙ answers a)

pub h_get_all_carries : (c : Rows) (t fresh : ℕ) (k : Bytes) (w : ℕ) → IsWholePlan c t fresh (cmd.HGetAll k w) k code.Hash Both
unfolding carried_out
h_get_all_carries c t fresh k w = whole_carries hash_stands (λ h. tt) c t fresh (cmd.HGetAll k w) k Both (λ h. bulks (flat_map (λ e. e.0 ∷ e.1 ∷ []) h.entries)) refl refl (λ m. refl) (λ h. refl)

pub h_keys_carries : (c : Rows) (t fresh : ℕ) (k : Bytes) (w : ℕ) → IsWholePlan c t fresh (cmd.HKeys k w) k code.Hash Subkeys
unfolding carried_out
h_keys_carries c t fresh k w =
    whole_carries hash_stands (λ h. tt) c t fresh (cmd.HKeys k w) k Subkeys (λ h. bulks (keys h)) refl refl (λ m. refl) (λ h. ap bulks (flat_map_single (λ (e : RowAt). e.0) h.entries))

pub h_vals_carries : (c : Rows) (t fresh : ℕ) (k : Bytes) (w : ℕ) → IsWholePlan c t fresh (cmd.HVals k w) k code.Hash Values
unfolding carried_out
h_vals_carries c t fresh k w =
    whole_carries hash_stands (λ h. tt) c t fresh (cmd.HVals k w) k Values (λ h. bulks (values h)) refl refl (λ m. refl) (λ h. ap bulks (flat_map_single (λ (e : RowAt). e.1) h.entries))

-- the members of a set
members : (es : List (Bytes × Unit {0})) → flat_map (parts_in Subkeys) (map (λ e. (e.0, [])) es) ≡ map (λ e. e.0) es
members [] = refl
members (e ∷ es) = ap (λ xs. e.0 ∷ xs) (members es)

pub s_members_carries : (c : Rows) (t fresh : ℕ) (k : Bytes) (w : ℕ) → IsWholePlan c t fresh (cmd.SMembers k w) k code.Set Subkeys
unfolding carried_out
s_members_carries c t fresh k w =
    whole_carries set_stands (λ s. tt) c t fresh (cmd.SMembers k w) k Subkeys (λ s. bulks (keys s)) refl refl (λ m. refl) (λ s. ap bulks (members s.entries))
