-- Plans of commands that change the collection at their only key, which come to the same as what the command wants.
use Rattle.std.proofs.Common.{ℕ, ◌≡◌, refl, sym, ap, subst, ◌∙◌, Bool, true, false, cond, [], ◌∷◌}
use Rattle.std.specs.Prelude.{Option, Some, None, Ok, Err, IsTrue, ◌||◌}
use Rattle.kv_base.specs.Map.{Bytes, same_itself}
use Rattle.kv_base.specs.RawKeys.{is_key}
use Rattle.kv_base.specs.MetaValues.{MetaValue, StringValue, LifeValue, ListValue}
use Rattle.kv_base.specs.declared.kind.Kind.{Kind as Code}
use Rattle.batch_codec.specs.Batches.{Batch}
use Rattle.redis_model.specs.declared.reply.Reply.{Reply}
use Rattle.redis_model.specs.declared.reply.ReplyError.TheVariants.{WrongType}
use Rattle.redis_model.specs.declared.command.Command.{Command}
use Rattle.redis_model.specs.declared.command.Cmds.TheVariants.{One}
use Rattle.redis_model.specs.Value.{RedisMap}
use Rattle.redis_model.specs.Outcome.{Outcome, Kind, at_key, changing}
use Rattle.redis_model.specs.Keys.{among}
use Rattle.redis_model.specs.About.{keys_of}
use Rattle.redis_model.specs.Apply.{carried_out}
use Rattle.redis_model.specs.Touched.{written_again}
use Rattle.lives_model.specs.declared.plan.Plan.{Plan}
use Rattle.lives_model.specs.Rows.{Rows}
use Rattle.lives_model.specs.Clean.{live_at}
use Rattle.lives_model.specs.Means.{Means}
use Rattle.lives_model.specs.Plans.{IsPlan, IsReady, IsFresh}
use Rattle.plan_base.specs.declared.life.LifeSight.{LifeSight}
use Rattle.plan_base.specs.Seen.{IsFoundMeta, deadline_in}
use Rattle.plan_base.specs.KeyPlanLaws.{live_is_found}
use Rattle.plan_base.specs.Retimed.{KeepsLife}
use Rattle.plan_base.specs.Lives.{HasSizeIn, StandsAs, SeesLife, is_code, life_found}
use Rattle.plan_base.specs.LifeLaws.{life_within, sees_life}
use Rattle.plan_base.specs.LifeSteps.{life_on}
use Rattle.life_plans.specs.ChangePlans.{HasElements, by_life}
use Rattle.life_plans.specs.Changes.{FindsLife, Wants, wishing_plan}
use Rattle.life_plans.specs.ChangeSizeLaws.{finds_life}
use Rattle.life_plans.specs.ChangePlanLaws.{Plans, life_changing}

-- ---- the size of a life that is found is within its limit

abbrev ok : Option LifeSight → Outcome (Option LifeSight)
ok found = Ok found

same_ok : (f g : Option LifeSight) → ok f ≡ ok g → f ≡ g
same_ok f g e = cc

size_in_meta : (code : Code) (o : Option MetaValue) → IsFoundMeta o → (found : Option LifeSight) → life_found code o ≡ Ok found → HasSizeIn found
size_in_meta code None fits found is = subst HasSizeIn (same_ok None found is) tt
size_in_meta code (Some (StringValue x payload)) fits found is = absurd (cc)
size_in_meta code (Some (ListValue x version head tail)) fits found is = absurd (cc)
size_in_meta code (Some (LifeValue other x version size)) fits found is = by_kind (is_code code other) is
  where
    by_kind : (b : Bool) → cond b (ok (Some (record { version = version; size = size }))) (Err WrongType) ≡ ok found → HasSizeIn found
    by_kind true e = subst HasSizeIn (same_ok (Some (record { version = version; size = size })) found e) (life_within (LifeValue other x version size) other x version size refl fits).1
    by_kind false e = absurd (cc)

pub found_size : (c : Rows) (t : ℕ) (k : Bytes) (code : Code) (found : Option LifeSight) → life_found code (live_at c t k) ≡ Ok found → HasSizeIn found
found_size c t k code found is = size_in_meta code (live_at c t k) (live_is_found c t k) found is

-- ---- plans

module _ {A : Type 0} {kind : Kind A} {code : Code} {row : A → Bytes → Option Bytes} (stands : StandsAs kind code row) (has : HasElements kind row) where
  -- The same as `life_changing`, of a plan that comes to what the command wants wherever the rows mean a collection.
  pub changes_alike : (c : Rows) (t fresh : ℕ) (d : Command) (k : Bytes) (again : Bool) (wish : Option LifeSight → Outcome (Reply × Batch)) (f : A → Outcome (Reply × A)) (plan : Option LifeSight → Plan)
      → keys_of d ≡ k ∷ [] → IsTrue (is_key k) → ((m : RedisMap) → KeepsLife m d k) → ((m : RedisMap) → carried_out m t d ≡ changing kind m k f)
      → ((m n : RedisMap) → among (written_again m n d) k ≡ again)
      → ((found : Option LifeSight) (a : A) → FindsLife kind row c k fresh found a → Wants kind row c k (life_on fresh found).version again (wish found) (f a))
      → ((found : Option LifeSight) (a : A) → HasSizeIn found → FindsLife kind row c k fresh found a → plan found ≡ wishing_plan c t k code (deadline_in (live_at c t k)) fresh again found (wish found))
      → let p = by_life t (deadline_in (live_at c t k)) plan (life_found code (live_at c t k)) in IsPlan c t fresh d p.batch p.reply p.until
  changes_alike c t fresh d k again wish f plan one short keeps is rewrites wants alike =
      record {
        plan = λ m means ready.
            subst (Plans c t fresh m d) (sym (by_found m means ready (life_found code (live_at c t k)) refl (at_key kind m k) refl (sees_life stands means k)))
            ((life_changing stands has c t fresh d k again f wish (record { one = one; short = short; keeps = keeps; is = is; rewrites = rewrites; wants = wants })).plan m means ready);
      }
    where
      by_found : (m : RedisMap) → Means c t m → IsReady c t fresh (One d) → (s : Outcome (Option LifeSight)) → life_found code (live_at c t k) ≡ s → (o : Outcome A) → at_key kind m k ≡ o → SeesLife kind row c k s o
          → by_life t (deadline_in (live_at c t k)) plan s ≡ by_life t (deadline_in (live_at c t k)) (λ found. wishing_plan c t k code (deadline_in (live_at c t k)) fresh again found (wish found)) s
      by_found m means ready (Err e) s o at sees = refl
      by_found m means ready (Ok found) s (Err x) at sees = absurd sees
      by_found m means ready (Ok found) s (Ok a) at sees = alike found a (found_size c t k code found s) (finds_life stands has means k fresh found a s at ready.fits above)
        where
          above : IsFresh c fresh k
          above = ready.above k (ap (λ ks. among ks k) one ∙ ap (λ b. b || false) (same_itself k))
