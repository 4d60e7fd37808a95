-- What is dead stays dead: no plan brings a life back, since a new life has a version that no row has yet, and only the life
-- that a key has goes on.
use Rattle.std.proofs.Common.{◌≡◌, ℕ, ◌+◌, ◌<◌, ◌≤◌, List, [], ◌∷◌, refl, sym, ap, subst, ◌∙◌, Bool, true, false, cond, inl, inr, arith}
use Rattle.std.proofs.lemmas.Bool.Decides.{nat_tests}
use Rattle.std.specs.Prelude.{◌&&◌, ◌==◌, not, Option, Some, None, IsTrue, IsFalse, is_some, option_and_then}
use Rattle.kv_base.specs.Map.{Bytes, kept, get, empty}
use Rattle.kv_base.specs.MetaValues.{MetaValue, StringValue, LifeValue, ListValue, meta_text, read_meta, version_of}
use Rattle.kv_base.specs.MetaValueLaws.{meta_is_read}
use Rattle.batch_codec.specs.Batches.{Batch, after, joined}
use Rattle.redis_model.specs.declared.reply.Reply.{Reply}
use Rattle.redis_model.specs.declared.command.Command.{Command}
use Rattle.redis_model.specs.declared.command.Cmds.{Cmds}
use Rattle.redis_model.specs.declared.command.Cmds.TheVariants.{One, Many}
use Rattle.redis_model.specs.Keys.{among}
use Rattle.redis_model.specs.Value.{Value, Str, Hash, ListOf, SetOf, ZSet, Entry, RedisMap, alive}
use Rattle.redis_model.specs.Machine.{apply_alive}
use Rattle.lives_model.specs.Rows.{Rows, IsOnGrammar, meta_key}
use Rattle.lives_model.specs.RowKeys.{IsOfKey}
use Rattle.lives_model.specs.RowKeyLaws.{meta_key_is, row_key_is_no_meta_key}
use Rattle.lives_model.specs.Clean.{is_live, live_at, is_version_of}
use Rattle.lives_model.specs.Means.{Means, LifeAt, meta_for}
use Rattle.lives_model.specs.Plans.{IsStep, IsReady, IsPlanFor, PlannedPart, AreParts, join_parts, version, KeyPlan, LeavesEntry, WritesEntry, is_store, holds_type, new_life, life_in, life_after, keys_in}
use Rattle.lives_model.specs.StepLaws.{live_still, live_gone, get-placed}
use Rattle.lives_model.specs.JoinedBatchLaws.{after-empty, after-joined}
use Rattle.lives_model.specs.CleanLaws.{means_later}
use Rattle.lives_model.specs.OwnKeys.{IsAmong}
use Rattle.lives_model.specs.WrittenKeyLaws.{plan_names}
use Rattle.lives_model.specs.Lapses.{lapses}
use Rattle.plan_laws.specs.HoldsLater.{IsCurrent, still_plan}
use Rattle.filter_laws.specs.Replaced.{IsDead, IsDeadFrom}

-- ---- the version of metadata

-- the metadata of a value has no version, or that of its life
other_version : (value : Value) (life : LifeAt) (expire v : ℕ) → (v == life.version) ≡ false → is_version_of (version_of (meta_for value life expire)) v ≡ false
other_version (Str x) life expire v h = refl
other_version (Hash x) life expire v h = h
other_version (ListOf x) life expire v h = h
other_version (SetOf x) life expire v h = h
other_version (ZSet x) life expire v h = h

-- metadata counts by its version only where it has not expired
other_live : (t : ℕ) (meta : MetaValue) (v : ℕ) → is_version_of (version_of meta) v ≡ false → is_version_of (option_and_then version_of (kept (is_live t) (Some meta))) v ≡ false
other_live t meta v h = by_live (is_live t meta)
  where
    by_live : (b : Bool) → is_version_of (option_and_then version_of (cond b (Some meta) None)) v ≡ false
    by_live true = h
    by_live false = refl

below_differs : (v fresh : ℕ) → v < fresh → (v == fresh) ≡ false
below_differs v fresh low = grind (arith, nat_tests)

-- a life that goes on is that of the metadata
other_life : (o : Option MetaValue) (fresh v : ℕ) → v < fresh → is_version_of (option_and_then version_of o) v ≡ false → (v == (life_in o (new_life fresh)).version) ≡ false
other_life None fresh v low h = below_differs v fresh low
other_life (Some (StringValue expire payload)) fresh v low h = below_differs v fresh low
other_life (Some (LifeValue kind expire version size)) fresh v low h = h
other_life (Some (ListValue expire version head tail)) fresh v low h = h

-- and any other is new
life_differs : (c : Rows) (t fresh : ℕ) (m : RedisMap) (d : Command) (k : Bytes) (value : Value) (v : ℕ) → v < fresh → IsDead c t (k, v) → (v == (life_after c t fresh m d k value).version) ≡ false
unfolding life_after
life_differs c t fresh m d k value v low dead = by_test (not (is_store d) && holds_type (get m k) value)
  where
    by_test : (b : Bool) → (v == (cond b (life_in (live_at c t k) (new_life fresh)) (new_life fresh)).version) ≡ false
    by_test true = other_life (live_at c t k) fresh v low dead
    by_test false = below_differs v fresh low

-- ---- one command

module _ (c : Rows) (t fresh : ℕ) (m : RedisMap) (d : Command) (b : Batch) (since : ℕ) (k : Bytes) (v : ℕ) (late : since ≤ t) (low : v < fresh) (dead : IsDeadFrom c since (k, v)) where
  abbrev has_version : Option MetaValue → Bool
  has_version o = is_version_of (option_and_then version_of o) v

  written_stays_dead : (e : Entry) → WritesEntry c b k e (life_after c t fresh m d k e.value) → IsDeadFrom (after c b) since (k, v)
  unfolding live_at
  written_stays_dead e w later le =
      let meta : MetaValue = meta_for e.value (life_after c t fresh m d k e.value) w.expire in
      ap (λ (o : Option Bytes). has_version (kept (is_live later) (option_and_then read_meta o))) (get-placed c b (meta_key k) (Some (meta_text meta)) w.meta)
      ∙ ap (λ (o : Option MetaValue). has_version (kept (is_live later) o)) (meta_is_read meta w.fits)
      ∙ other_live later meta v (other_version e.value (life_after c t fresh m d k e.value) w.expire v (life_differs c t fresh m d k e.value v low (dead t late)))

  key_stays_dead : KeyPlan c t fresh m d b k → IsDeadFrom (after c b) since (k, v)
  key_stays_dead (inl p) later le = ap has_version (live_still c b later k p.1.meta) ∙ dead later le
  key_stays_dead (inr p) later le = by_left (get (apply_alive m t d).1 k) p.1
    where
      by_left : (o : Option Entry) → LeavesEntry c t fresh m d b k o → IsDead (after c b) later (k, v)
      by_left None l = ap has_version (live_gone c b later k l.meta)
      by_left (Some e) l = written_stays_dead e l later le

-- a life that is dead from a moment on, with a version below that of a new one, is dead after the step
pub step_stays_dead : (c : Rows) (t fresh : ℕ) (m : RedisMap) (d : Command) (b : Batch) (answer : Reply) (since : ℕ) (k : Bytes) (v : ℕ)
    → IsStep c t fresh m d b answer → since ≤ t → v < fresh → IsDeadFrom c since (k, v) → IsDeadFrom (after c b) since (k, v)
step_stays_dead c t fresh m d b answer since k v s late low dead = key_stays_dead c t fresh m d b since k v late low dead (s.keys k)

-- ---- several

parts_stay_dead : (c : Rows) (t base i : ℕ) (m : RedisMap) (ds : List Command) (b : Batch) (ps : List PlannedPart) (since : ℕ) (k : Bytes) (v : ℕ) → since ≤ t → v < version base i
    → AreParts (after c b) t base i m ds ps → IsDeadFrom (after c b) since (k, v) → IsDeadFrom (after c (join_parts b ps)) since (k, v)
parts_stay_dead c t base i m [] b [] since k v late low are dead = dead
parts_stay_dead c t base i m [] b (p ∷ ps) since k v late low are dead = absurd are
parts_stay_dead c t base i m (d ∷ ds) b [] since k v late low are dead = absurd are
parts_stay_dead c t base i m (d ∷ ds) b (p ∷ ps) since k v late low are dead =
    let next = after-joined c b p.batch in
    parts_stay_dead c t base (i + 1) (apply_alive m t d).1 ds (joined b p.batch) ps since k v late (omega (arith, low))
    (subst (λ (e : Rows). AreParts e t base (i + 1) (apply_alive m t d).1 ds ps) (sym next) are.1)
    (subst (λ (e : Rows). IsDeadFrom e since (k, v)) (sym next) (step_stays_dead (after c b) t (version base i) m d p.batch p.reply since k v are.0.step late low dead))

-- ---- a plan

named_stays_dead : (c : Rows) (t base : ℕ) (m : RedisMap) (ds : Cmds) (b : Batch) (answer : Reply) (until : Option ℕ) (since : ℕ) (k : Bytes) (v : ℕ)
    → IsPlanFor c t base m ds b answer until → since ≤ t → v < version base 0 → IsDeadFrom c since (k, v) → IsDeadFrom (after c b) since (k, v)
named_stays_dead c t base m (One d) b answer until since k v plan late low dead = step_stays_dead c t (version base 0) m d b answer since k v plan.step late low dead
named_stays_dead c t base m (Many ds) b answer until since k v plan late low dead =
    let start = after-empty c in
    subst (λ (n : Batch). IsDeadFrom (after c n) since (k, v)) (sym plan.batch)
    (parts_stay_dead c t base 0 m ds empty plan.parts since k v late low
    (subst (λ (e : Rows). AreParts e t base 0 m ds plan.parts) (sym start) plan.plans)
    (subst (λ (e : Rows). IsDeadFrom e since (k, v)) (sym start) dead))

-- a key that no command names keeps its metadata
not_among : (ks : List Bytes) (k : Bytes) → among ks k ≡ false → IsAmong ks (meta_key k) → ⊥
not_among ks k other a = by_kind a.is
  where
    by_kind : IsOfKey a.key (meta_key k) → ⊥
    by_kind (inl is) = let named : among ks k ≡ true = subst (λ (x : Bytes). among ks x ≡ true) (sym (meta_key_is k a.key is)) a.among in let no : false ≡ true = sym other ∙ named in absurd (cc)
    by_kind (inr row) = row_key_is_no_meta_key row.side a.key row.version row.subkey k (sym row.is)

none_is : {X : Type 0} (o : Option X) → (is_some o ≡ true → ⊥) → o ≡ None
none_is None h = refl
none_is (Some x) h = absurd (h refl)

unnamed_meta : (c : Rows) (t base : ℕ) (m : RedisMap) (ds : Cmds) (b : Batch) (answer : Reply) (until : Option ℕ) (k : Bytes)
    → IsPlanFor c t base m ds b answer until → among (keys_in ds) k ≡ false → get b (meta_key k) ≡ None
unnamed_meta c t base m ds b answer until k plan other = none_is (get b (meta_key k)) (λ there. not_among (keys_in ds) k other (plan_names c t base m ds b answer until plan (meta_key k) there))

-- No plan that is made at the moment or later brings a life back that is dead from then on, where the versions that its keys
-- have are below those that the plan gives to new lives.
pub plan_stays_dead : (c : Rows) (t base : ℕ) (m : RedisMap) (ds : Cmds) (b : Batch) (answer : Reply) (until : Option ℕ) (since : ℕ) (k : Bytes) (v : ℕ)
    → IsPlanFor c t base m ds b answer until → since ≤ t → (IsTrue (among (keys_in ds) k) → v < version base 0) → IsDeadFrom c since (k, v) → IsDeadFrom (after c b) since (k, v)
plan_stays_dead c t base m ds b answer until since k v plan late low dead = by_named (among (keys_in ds) k) refl
  where
    by_named : (named : Bool) → among (keys_in ds) k ≡ named → IsDeadFrom (after c b) since (k, v)
    by_named true is = named_stays_dead c t base m ds b answer until since k v plan late (low is) dead
    by_named false is = λ later le. ap (λ (o : Option MetaValue). is_version_of (option_and_then version_of o) v) (live_still c b later k (unnamed_meta c t base m ds b answer until k plan is)) ∙ dead later le

-- ---- a plan that has not lapsed

-- one that was made on other rows and still holds at a moment not before: it is a plan on the rows as they are
pub current_stays_dead : (c d : Rows) (t later base : ℕ) (m n : RedisMap) (ds : Cmds) (b : Batch) (answer : Reply) (until : Option ℕ) (since : ℕ) (k : Bytes) (v : ℕ)
    → IsCurrent c d t later base m n ds b answer until → since ≤ later → (IsTrue (among (keys_in ds) k) → v < version base 0) → IsDeadFrom d since (k, v) → IsDeadFrom (after d b) since (k, v)
current_stays_dead c d t later base m n ds b answer until since k v is late low dead =
    plan_stays_dead d later base n ds b answer until since k v (still_plan c d t later base m n b answer until ds is) late low dead

-- one that was made before the moment, and has not lapsed there
pub held_stays_dead : (c : Rows) (t base : ℕ) (m : RedisMap) (ds : Cmds) (b : Batch) (answer : Reply) (until : Option ℕ) (since : ℕ) (k : Bytes) (v : ℕ)
    → IsOnGrammar c → Means c t m → IsReady c t (version base 0) ds → IsPlanFor c t base m ds b answer until → t ≤ since → IsFalse (lapses t since until ds)
    → (IsTrue (among (keys_in ds) k) → v < version base 0) → IsDeadFrom c since (k, v) → IsDeadFrom (after c b) since (k, v)
held_stays_dead c t base m ds b answer until since k v on means ready plan le current low dead =
    current_stays_dead c c t since base m (alive m since) ds b answer until since k v (record {
      on_grammar = on;
      on_grammar_too = on;
      means = means;
      means_too = means_later c t since m le means;
      ready = ready;
      plan = plan;
      moment = le;
      still = record { alike = λ x named. record { meta = refl; rows = λ side version subkey. refl }; above = ready.above };
      current = current;
    }) (omega arith) low dead
