-- Plans of commands that read the collection at their only key.
use Rattle.std.proofs.Common.{◌≡◌, ℕ, sym, ap, subst, ◌∙◌, List, [], ◌∷◌}
use Rattle.std.specs.Prelude.{Option, Ok, Err, IsFalse}
use Rattle.kv_base.specs.Map.{Bytes, empty}
use Rattle.kv_base.specs.declared.kind.Kind.{Kind as Code}
use Rattle.redis_model.specs.declared.reply.Reply.{Reply}
use Rattle.redis_model.specs.declared.reply.Reply.TheVariants as reply
use Rattle.redis_model.specs.declared.command.Command.{Command}
use Rattle.redis_model.specs.Value.{RedisMap}
use Rattle.redis_model.specs.Outcome.{Outcome, ◌>>=◌, Kind, answered, at_key, reading}
use Rattle.redis_model.specs.About.{writes, keys_of}
use Rattle.redis_model.specs.Apply.{apply, carried_out}
use Rattle.lives_model.specs.Rows.{Rows}
use Rattle.lives_model.specs.Clean.{live_at}
use Rattle.lives_model.specs.Plans.{IsPlan, IsPlanOf, least_above}
use Rattle.plan_base.specs.declared.life.LifeSight.{LifeSight}
use Rattle.plan_base.specs.Seen.{deadline_in}
use Rattle.plan_base.specs.Ahead.{seen_deadlines}
use Rattle.plan_base.specs.KeyPlanLaws.{reading_plan}
use Rattle.plan_base.specs.Lives.{StandsAs, IsLifeOf, SeesLife, life_found}
use Rattle.plan_base.specs.LifeLaws.{sees_life}
use Rattle.plan_base.specs.LifePlans.{answering, life_reply}

-- how far a command with one key looks ahead that leaves its deadline
pub one_key_ahead : (c : Rows) (t fresh : ℕ) (m : RedisMap) (d : Command) (answer : Reply) (k : Bytes) → keys_of d ≡ k ∷ []
    → IsPlanOf c t fresh m d empty answer (least_above t (seen_deadlines c t (keys_of d))) → IsPlanOf c t fresh m d empty answer (least_above t (deadline_in (live_at c t k) ∷ []))
one_key_ahead c t fresh m d answer k one plan = subst (λ (ks : List Bytes). IsPlanOf c t fresh m d empty answer (least_above t (seen_deadlines c t ks))) one plan

module _ {A : Type 0} {kind : Kind A} {code : Code} {row : A → Bytes → Option Bytes} (stands : StandsAs kind code row) where
  -- what is answered by what is found is what is answered by what is there
  answers : (c : Rows) (k : Bytes) (m : RedisMap) (f : A → Reply) (g : Option LifeSight → Reply)
      → ((found : Option LifeSight) (a : A) → IsLifeOf kind row c k found a → g found ≡ f a)
      → (s : Outcome (Option LifeSight)) (o : Outcome A) → SeesLife kind row c k s o → life_reply g s ≡ (answered m (o >>= λ a. Ok (f a, m))).0
  answers c k m f g alike (Ok found) (Ok a) s = alike found a s
  answers c k m f g alike (Err e) (Err x) s = ap reply.Error s
  answers c k m f g alike (Ok found) (Err x) s = absurd s
  answers c k m f g alike (Err e) (Ok a) s = absurd s

  -- A command with one key that reads its collection answers by the life that is found, and writes nothing.
  pub life_reading : (c : Rows) (t fresh : ℕ) (d : Command) (k : Bytes) (f : A → Reply) (g : Option LifeSight → Reply)
      → IsFalse (writes d) → keys_of d ≡ k ∷ [] → ((m : RedisMap) → carried_out m t d ≡ reading kind m k f)
      → ((found : Option LifeSight) (a : A) → IsLifeOf kind row c k found a → g found ≡ f a)
      → let p = answering t (deadline_in (live_at c t k)) (life_reply g (life_found code (live_at c t k))) in IsPlan c t fresh d p.batch p.reply p.until
  unfolding apply
  life_reading c t fresh d k f g reads one is alike = record {
    plan = λ m means ready.
        one_key_ahead c t fresh m d _ k one
        (reading_plan fresh d (life_reply g (life_found code (live_at c t k))) means reads
        (answers c k m f g alike (life_found code (live_at c t k)) (at_key kind m k) (sees_life stands means k)
        ∙ sym (ap (λ o. (answered m o).0) (is m))));
  }
