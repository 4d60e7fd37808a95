-- Laws on what stands in `OnePlan.antt`.
use Rattle.std.proofs.Common.{◌≡◌, ℕ, ◌+◌, List, [], ◌∷◌, map, refl, sym, ap, subst, ◌∙◌, Bool, true, false, cond, inl, inr}
use Rattle.std.specs.Prelude.{◌==◌, Option, Some, None, IsTrue, is_some}
use Rattle.kv_base.specs.Map.{Bytes, get, same_map}
use Rattle.kv_base.specs.InversionLaws.{same_some, number_is}
use Rattle.kv_base.specs.RawKeys.{is_key, is_raw_text}
use Rattle.kv_base.specs.MetaValues.{meta_text}
use Rattle.batch_codec.specs.Batches.{Batch, after}
use Rattle.redis_model.specs.declared.reply.Reply.{Reply}
use Rattle.redis_model.specs.declared.reply.Reply.TheVariants as reply
use Rattle.redis_model.specs.declared.command.Command.{Command}
use Rattle.redis_model.specs.declared.command.Cmds.{Cmds}
use Rattle.redis_model.specs.declared.command.Cmds.TheVariants.{One, Many}
use Rattle.redis_model.specs.Value.{Entry, RedisMap}
use Rattle.redis_model.specs.Machine.{apply_alive}
use Rattle.lives_model.specs.Rows.{Rows}
use Rattle.lives_model.specs.RowKeys.{IsOfKey}
use Rattle.lives_model.specs.RowKeyLaws.{has_key}
use Rattle.lives_model.specs.Clean.{deadline_from}
use Rattle.lives_model.specs.Means.{Means, LifeAt, meta_for}
use Rattle.lives_model.specs.MeansOneLaws.{means_one}
use Rattle.lives_model.specs.Plans.{WritesEntry, LeavesEntry, KeyPlan, IsStep, IsPlanOf, IsPlanFor, PlannedPart, AreParts, join_parts, least_until, life_after, version}
use Rattle.lives_model.specs.OwnKeyLaws.{none_is, no_row_of}
use Rattle.lives_model.specs.OnePlan.{IsSamePlan}

-- ---- one key

-- a number stands for one deadline
deadline_is : (x y : ℕ) → deadline_from x ≡ deadline_from y → x ≡ y
deadline_is x y e = by_tests (x == 0) (y == 0) refl refl e
  where
    by_tests : (a b : Bool) → (x == 0) ≡ a → (y == 0) ≡ b → cond a None (Some x) ≡ cond b None (Some y) → x ≡ y
    by_tests true true p q e = number_is x 0 p ∙ sym (number_is y 0 q)
    by_tests true false p q e = cc
    by_tests false true p q e = cc
    by_tests false false p q e = same_some x y e

module _ (b other : Batch) (k raw : Bytes) (key : IsTrue (is_key k)) where
  -- what is written at a key is one batch's as the other's
  writes_one : (c : Rows) (e : Entry) (life : LifeAt) → WritesEntry c b k e life → WritesEntry c other k e life → IsOfKey k raw → get b raw ≡ get other raw
  writes_one c e life w v (inl is) =
      let expire : w.expire ≡ v.expire = deadline_is w.expire v.expire (sym w.deadline ∙ v.deadline) in
      ap (get b) is ∙ w.meta ∙ ap (λ (x : ℕ). Some (Some (meta_text (meta_for e.value life x)))) expire ∙ sym (ap (get other) is ∙ v.meta)
  writes_one c e life w v (inr row) =
      ap (get b) row.is ∙ w.rows row.side row.version row.subkey row.fits ∙ sym (ap (get other) row.is ∙ v.rows row.side row.version row.subkey row.fits)

  -- so is what is left there
  leaves_one : (c : Rows) (t fresh : ℕ) (m : RedisMap) (d : Command) (o : Option Entry) → LeavesEntry c t fresh m d b k o → LeavesEntry c t fresh m d other k o → IsOfKey k raw → get b raw ≡ get other raw
  leaves_one c t fresh m d None l r (inl is) = ap (get b) is ∙ l.meta ∙ sym (ap (get other) is ∙ r.meta)
  leaves_one c t fresh m d None l r (inr row) =
      ap (get b) row.is ∙ l.rows row.side row.version row.subkey row.fits ∙ sym (ap (get other) row.is ∙ r.rows row.side row.version row.subkey row.fits)
  leaves_one c t fresh m d (Some e) l r of = writes_one c e (life_after c t fresh m d k e.value) l r of

  -- and what is done there
  key_one : (c : Rows) (t fresh : ℕ) (m : RedisMap) (d : Command) → KeyPlan c t fresh m d b k → KeyPlan c t fresh m d other k → IsOfKey k raw → get b raw ≡ get other raw
  key_one c t fresh m d (inl p) (inl q) of = no_row_of b k raw p.1 key of ∙ sym (no_row_of other k raw q.1 key of)
  key_one c t fresh m d (inl p) (inr q) of = let off = p.0 in let on = q.0 in absurd (cc)
  key_one c t fresh m d (inr p) (inl q) of = let on = p.0 in let off = q.0 in absurd (cc)
  key_one c t fresh m d (inr p) (inr q) of = leaves_one c t fresh m d (get (apply_alive m t d).1 k) p.1 q.1 of

-- ---- one command

-- a step has one batch
pub step_one : (c : Rows) (t fresh : ℕ) (m : RedisMap) (d : Command) (b other : Batch) (answer reply : Reply) → IsStep c t fresh m d b answer → IsStep c t fresh m d other reply → b ≡ other
step_one c t fresh m d b other answer reply s r = same_map b other (λ raw. by_text raw (is_raw_text raw) refl)
  where
    off : (n : Batch) (raw : Bytes) → ((raw : Bytes) → is_some (get n raw) ≡ true → is_raw_text raw ≡ true) → is_raw_text raw ≡ false → get n raw ≡ None
    off n raw texts e = none_is (get n raw) (λ there. let text = texts raw there in cc)

    by_text : (raw : Bytes) (t : Bool) → is_raw_text raw ≡ t → get b raw ≡ get other raw
    by_text raw true e = let of = has_key raw e in key_one b other of.key raw of.short c _ _ _ _ (s.keys of.key) (r.keys of.key) of.is
    by_text raw false e = off b raw s.raw e ∙ sym (off other raw r.raw e)

plan_one : (c : Rows) (t fresh : ℕ) (m : RedisMap) (d : Command) (b other : Batch) (answer reply : Reply) (until ahead : Option ℕ) → IsPlanOf c t fresh m d b answer until → IsPlanOf c t fresh m d other reply ahead
    → IsSamePlan b other answer reply until ahead
plan_one c t fresh m d b other answer reply until ahead p q = record {
  batch = step_one c t fresh m d b other answer reply p.step q.step;
  reply_is = p.step.reply ∙ sym q.step.reply;
  ahead_is = p.ahead ∙ sym q.ahead;
}

-- ---- several commands

-- their parts are the same
parts_one : (c : Rows) (t base i : ℕ) (m : RedisMap) (ds : List Command) (ps qs : List PlannedPart) → AreParts c t base i m ds ps → AreParts c t base i m ds qs → ps ≡ qs
parts_one c t base i m [] [] [] are too = refl
parts_one c t base i m [] (p ∷ ps) qs are too = absurd are
parts_one c t base i m [] [] (q ∷ qs) are too = absurd too
parts_one c t base i m (d ∷ ds) [] qs are too = absurd are
parts_one c t base i m (d ∷ ds) (p ∷ ps) [] are too = absurd too
parts_one c t base i m (d ∷ ds) (p ∷ ps) (q ∷ qs) are too =
    let one = plan_one c t (version base i) m d p.batch q.batch p.reply q.reply p.until q.until are.0 too.0 in
    let rest : ps ≡ qs =
    parts_one (after c p.batch) t base (i + 1) (apply_alive m t d).1 ds ps qs are.1 (subst (λ (n : Batch). AreParts (after c n) t base (i + 1) (apply_alive m t d).1 ds qs) (sym one.batch) too.1) in
    λ j. record { batch = one.batch j; reply = one.reply_is j; until = one.ahead_is j } ∷ rest j

-- so there is one plan of commands, on rows that mean keys
pub plans_one : (c : Rows) (t base : ℕ) (m : RedisMap) (ds : Cmds) (b other : Batch) (answer said : Reply) (until ahead : Option ℕ) → IsPlanFor c t base m ds b answer until → IsPlanFor c t base m ds other said ahead
    → IsSamePlan b other answer said until ahead
plans_one c t base m (One d) b other answer said until ahead p q = plan_one c t (version base 0) m d b other answer said until ahead p q
plans_one c t base m (Many ds) b other answer said until ahead p q =
    let same = parts_one c t base 0 m ds p.parts q.parts p.plans q.plans in
    record {
      batch = p.batch ∙ ap (join_parts _) same ∙ sym q.batch;
      reply_is = p.replies ∙ ap (λ ps. reply.Array (map (λ p. p.reply) ps)) same ∙ sym q.replies;
      ahead_is = p.ahead ∙ ap least_until same ∙ sym q.ahead;
    }

-- whichever map the rows are taken to mean
pub plans_same : (c : Rows) (t base : ℕ) (m n : RedisMap) (ds : Cmds) (b other : Batch) (answer said : Reply) (until ahead : Option ℕ) → Means c t m → Means c t n
    → IsPlanFor c t base m ds b answer until → IsPlanFor c t base n ds other said ahead → IsSamePlan b other answer said until ahead
plans_same c t base m n ds b other answer said until ahead means too p q =
    plans_one c t base m ds b other answer said until ahead p (subst (λ (o : RedisMap). IsPlanFor c t base o ds other said ahead) (means_one c t n m too means) q)
