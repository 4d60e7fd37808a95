-- What the same batch leaves of a key on two rows on which it lives alike.
use Rattle.std.proofs.Common.{◌≡◌, ℕ, ◌+◌, ◌≤◌, refl, sym, ap, subst, ◌∙◌, Bool, true, false, cond, ◌&&◌, not, inl, inr, arith}
use Rattle.std.specs.Prelude.{◌==◌, Option, Some, None, IsTrue, option_and_then}
use Rattle.kv_base.specs.Map.{Bytes, kept, get}
use Rattle.kv_base.specs.InversionLaws.{same_some, and_then_is, kept_is, both_second, number_is}
use Rattle.kv_base.specs.RawKeys.{is_key}
use Rattle.kv_base.specs.MetaValues.{MetaValue, meta_text, read_meta, version_of}
use Rattle.kv_base.specs.MetaValueLaws.{meta_is_read}
use Rattle.batch_codec.specs.Batches.{Batch, after, over}
use Rattle.batch_codec.specs.BatchLaws.{get-after}
use Rattle.redis_model.specs.declared.command.Command.{Command}
use Rattle.redis_model.specs.Value.{Value, Str, Hash, ListOf, SetOf, ZSet, Entry, RedisMap}
use Rattle.redis_model.specs.Keys.{among}
use Rattle.redis_model.specs.About.{keys_of}
use Rattle.redis_model.specs.TouchedLaws.{touched_is_named}
use Rattle.redis_model.specs.Machine.{apply_alive}
use Rattle.lives_model.specs.Rows.{Rows, meta_key, row_key}
use Rattle.lives_model.specs.Clean.{is_live, live_at}
use Rattle.lives_model.specs.Means.{MeansAt, LifeAt, meta_for, has_life}
use Rattle.lives_model.specs.Plans.{is_store, holds_type, new_life, life_in, life_after, HasNoRows, Deletes, WritesEntry, LeavesEntry, KeyPlan, IsFresh}
use Rattle.lives_model.specs.StepLaws.{version_fits, still, get-placed, live_still, live_gone}
use Rattle.plan_laws.specs.AlikeRows.{life_of, RowsAlike, LivesAlike}
use Rattle.plan_laws.specs.StillPlan.{collection, version_in, Meets, life_rows}
use Rattle.plan_laws.specs.SomeRow.{life_is_older}

-- ---- rows that were the same are the same

module _ (c d : Rows) (b : Batch) (k : Bytes) where
  -- one version
  rows_after : (version : ℕ) → RowsAlike c d k version → RowsAlike (after c b) (after d b) k version
  rows_after version alike side subkey =
      get-after c b (row_key side k version subkey)
      ∙ ap (over (get b (row_key side k version subkey))) (alike side subkey)
      ∙ sym (get-after d b (row_key side k version subkey))

  module _ (u : ℕ) where
    -- a key that is left
    pub lives_left : HasNoRows b k → LivesAlike c d u k → LivesAlike (after c b) (after d b) u k
    lives_left none alike = record {
      meta = live_still d b u k none.meta ∙ alike.meta ∙ sym (live_still c b u k none.meta);
      rows = λ version is. rows_after version (alike.rows version (ap life_of (sym (live_still c b u k none.meta)) ∙ is));
    }

    -- a key that is deleted
    pub lives_gone : Deletes b k → LivesAlike (after c b) (after d b) u k
    lives_gone deletes = record {
      meta = live_gone d b u k deletes.meta ∙ sym (live_gone c b u k deletes.meta);
      rows = λ version is. let no : None ≡ Some version = ap life_of (sym (live_gone c b u k deletes.meta)) ∙ is in absurd (cc);
    }

-- a key that is written
live_written : (c : Rows) (b : Batch) (u : ℕ) (k : Bytes) (text : Bytes) → get b (meta_key k) ≡ Some (Some text) → live_at (after c b) u k ≡ kept (is_live u) (read_meta text)
unfolding live_at
live_written c b u k text is = ap (λ o. kept (is_live u) (option_and_then read_meta o)) (get-placed c b (meta_key k) (Some text) is)

-- the version in the metadata of a value is that of its life
version_back : (v : Value) (life : LifeAt) (x version : ℕ) → version_of (meta_for v life x) ≡ Some version → (has_life v ≡ true) × (life.version ≡ version)
version_back (Str v) life x version e = absurd (cc)
version_back (Hash v) life x version e = (refl, same_some life.version version e)
version_back (ListOf v) life x version e = (refl, same_some life.version version e)
version_back (SetOf v) life x version e = (refl, same_some life.version version e)
version_back (ZSet v) life x version e = (refl, same_some life.version version e)

-- lives alike afterwards
pub lives_written : (c d : Rows) (b : Batch) (u : ℕ) (k : Bytes) (e : Entry) (life : LifeAt) → (has_life e.value ≡ true → RowsAlike c d k life.version) → WritesEntry c b k e life → LivesAlike (after c b) (after d b) u k
lives_written c d b u k e life alike w = record {
  meta = live_written d b u k (meta_text meta) w.meta ∙ sym here;
  rows = λ version is.
      let found = and_then_is version_of (kept (is_live u) (read_meta (meta_text meta))) version (ap life_of (sym here) ∙ is) in
      let read : Some meta ≡ Some found.0 = sym (meta_is_read meta w.fits) ∙ (kept_is (is_live u) (read_meta (meta_text meta)) found.0 found.1).0 in
      let back = version_back e.value life w.expire version (ap version_of (same_some meta found.0 read) ∙ found.2) in
      rows_after c d b k version (subst (RowsAlike c d k) back.1 (alike back.0));
}
  where
    meta : MetaValue
    meta = meta_for e.value life w.expire

    here : live_at (after c b) u k ≡ kept (is_live u) (read_meta (meta_text meta))
    here = live_written c b u k (meta_text meta) w.meta

-- after a step that is one on both, a key lives alike
module _ (c d : Rows) (t later fresh : ℕ) (m n : RedisMap) (a : Command) (b : Batch) (meets : Meets c d t later fresh m n a) (k : Bytes) where
  -- one that it touches
  leaves_alive : (o : Option Entry) → IsTrue (among (keys_of a) k) → LeavesEntry c t fresh m a b k o → LivesAlike (after c b) (after d b) later k
  leaves_alive None named l = lives_gone c d b k later l
  leaves_alive (Some e) named l =
      lives_written c d b later k e (life_after c t fresh m a k e.value)
      (λ h. life_rows c d t later fresh m n a meets k named l.key e.value (version_fits e.value (life_after c t fresh m a k e.value) l.expire h l.fits)) l

  -- and any other
  pub step_lives : LivesAlike c d later k → KeyPlan c t fresh m a b k → LivesAlike (after c b) (after d b) later k
  step_lives alike (inl p) = lives_left c d b k later p.1 alike
  step_lives alike (inr p) = leaves_alive (get (apply_alive m t a).1 k) (touched_is_named m t a k p.0) p.1

-- ---- a free version, and the next one

module _ (c : Rows) (t fresh : ℕ) (m : RedisMap) (a : Command) (b : Batch) (k : Bytes) (none : IsFresh c fresh k) (stands : MeansAt c t k (get m k)) where
  -- a life that goes on is older than the free version
  low_by : (v : Value) (o : Option Entry) → MeansAt c t k o → holds_type o v ≡ true → (life_in (live_at c t k) (new_life fresh)).version ≤ fresh
  low_by v None s e = absurd (cc)
  low_by v (Some x) s e =
      let h = collection x.value v e in
      let version : (life_in (live_at c t k) (new_life fresh)).version ≡ s.life.version = ap (λ o. (life_in o (new_life fresh)).version) s.meta ∙ version_in x.value s.life (new_life fresh) s.expire h in
      let older = life_is_older c t fresh k x s h none in
      omega (arith, version, older)

  -- and a new one has that version
  low_life_by : (v : Value) (g : Bool) → (not (is_store a) && holds_type (get m k) v) ≡ g → (cond g (life_in (live_at c t k) (new_life fresh)) (new_life fresh)).version ≤ fresh
  low_life_by v true is = low_by v (get m k) stands (both_second (not (is_store a)) (holds_type (get m k) v) is)
  low_life_by v false is = omega arith

  -- a life that is written has the free version or an older one
  low_life : (v : Value) → (life_after c t fresh m a k v).version ≤ fresh
  unfolding life_after
  low_life v = low_life_by v (not (is_store a) && holds_type (get m k) v) refl

  -- a row of a later version is not written
  not_there : (h s : Bool) (life version : ℕ) (o : Option (Option Bytes)) → (version == life) ≡ s → life ≤ fresh → fresh + 1 ≤ version → cond (h && s) o None ≡ None
  not_there true true life version o is low high = let at = number_is version life is in absurd (omega (arith, at))
  not_there true false life version o is low high = refl
  not_there false s life version o is low high = refl

  -- nor does a touched key get one
  leaves_fresh : (o : Option Entry) → LeavesEntry c t fresh m a b k o → IsFresh (after c b) (fresh + 1) k
  leaves_fresh None l side version subkey high low = still c b (row_key side k version subkey) (l.rows side version subkey low) ∙ none side version subkey (omega arith) low
  leaves_fresh (Some e) l side version subkey high low =
      still c b (row_key side k version subkey)
      (l.rows side version subkey low ∙ not_there (has_life e.value) (version == (life_after c t fresh m a k e.value).version) (life_after c t fresh m a k e.value).version version _ refl (low_life e.value) high)
      ∙ none side version subkey (omega arith) low

  -- after a step the next version is free
  pub step_fresh : IsTrue (is_key k) → KeyPlan c t fresh m a b k → IsFresh (after c b) (fresh + 1) k
  step_fresh key (inl p) = λ side version subkey high low. still c b (row_key side k version subkey) (p.1.rows side version subkey low key) ∙ none side version subkey (omega arith) low
  step_fresh key (inr p) = leaves_fresh (get (apply_alive m t a).1 k) p.1
