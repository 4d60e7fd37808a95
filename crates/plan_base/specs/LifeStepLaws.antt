-- A batch that writes a life is the step of a command that changes the collection at its only key, and leaves one there.
use Rattle.std.proofs.Common.{ℕ, ◌≡◌, refl, sym, ap, subst, ◌∙◌, Bool, true, false, cond, [], ◌∷◌, inl, inr}
use Rattle.std.proofs.lemmas.Bool.{and_right}
use Rattle.std.specs.Prelude.{◌⊎◌, Option, Some, None, Ok, Err, IsTrue, ◌&&◌, ◌==◌, not, is_some, option_and_then}
use Rattle.kv_base.specs.Map.{Bytes, same, same_is, same_itself, get}
use Rattle.kv_base.specs.InversionLaws.{number_is}
use Rattle.kv_base.specs.RawKeys.{is_key, is_version}
use Rattle.kv_base.specs.declared.kind.Kind.{Kind as Code}
use Rattle.kv_base.specs.MetaValues.{LifeValue}
use Rattle.batch_codec.specs.Batches.{Batch}
use Rattle.redis_model.specs.declared.reply.Reply.{Reply}
use Rattle.redis_model.specs.declared.command.Command.{Command}
use Rattle.redis_model.specs.Value.{Value, Entry, RedisMap, lives, deadline_at}
use Rattle.redis_model.specs.Outcome.{Outcome, ◌>>=◌, Kind}
use Rattle.redis_model.specs.About.{keys_of}
use Rattle.redis_model.specs.Apply.{apply, carried_out}
use Rattle.redis_model.specs.Touched.{is_touched}
use Rattle.redis_model.specs.Machine.{apply_alive}
use Rattle.lives_model.specs.Rows.{Rows, Side, meta_key, row_key}
use Rattle.lives_model.specs.RowKeyLaws.{meta_key_is, row_key_is_no_meta_key, row_key_is}
use Rattle.lives_model.specs.Clean.{live_at}
use Rattle.lives_model.specs.Means.{Means, MeansAt, LifeAt, meta_for, row_of, has_life}
use Rattle.lives_model.specs.Moved.{head_after}
use Rattle.lives_model.specs.Plans.{IsPlanOf, IsStep, KeyPlan, LeavesEntry, WritesEntry, HasNoRows, changed, least_above, life_after, life_before, life_in, new_life, holds_type, same_type, touches}
use Rattle.lives_model.specs.StepLaws.{applied, get-alive, version_fits, kept_some, number_itself}
use Rattle.plan_base.specs.declared.life.LifeSight.{LifeSight}
use Rattle.plan_base.specs.Seen.{deadline_in}
use Rattle.plan_base.specs.AheadLaws.{ahead_one}
use Rattle.plan_base.specs.KeySteps.{alive_entry}
use Rattle.plan_base.specs.KeyStepLaws.{apply_done, touched_one}
use Rattle.plan_base.specs.Retimed.{KeepsLife}
use Rattle.plan_base.specs.Lives.{StandsAs, life_found}
use Rattle.plan_base.specs.LifeSteps.{IsInLife, WritesLife, life_on}

-- ---- the rows of one life alone

module _ {c : Rows} {b : Batch} {k : Bytes} {e : Entry} {life : LifeAt} {expire : ℕ} (w : WritesLife c b k e life expire) (short : IsTrue (is_key k)) where
  life_version : IsTrue (is_version life.version)
  life_version = version_fits e.value life expire w.collection w.fits

  -- a row of a life that the batch has is of this key and this version
  row_is_here : (side : Side) (q : Bytes) (version : ℕ) (subkey : Bytes) → IsTrue (is_key q) → IsTrue (is_version version) → is_some (get b (row_key side q version subkey)) ≡ true → (q ≡ k) × (version ≡ life.version)
  row_is_here side q version subkey hq hv there = by_place (w.only (row_key side q version subkey) there)
    where
      by_place : (row_key side q version subkey ≡ meta_key k) ⊎ IsInLife k life.version (row_key side q version subkey) → (q ≡ k) × (version ≡ life.version)
      by_place (inl is) = absurd (row_key_is_no_meta_key side q version subkey k is)
      by_place (inr r) =
          let parts = row_key_is side r.side q k version life.version subkey r.subkey hq short hv life_version r.is in
          (parts.key_is, parts.version_is)

  -- metadata that the batch has is of this key
  meta_is_here : (q : Bytes) → is_some (get b (meta_key q)) ≡ true → q ≡ k
  meta_is_here q there = by_place (w.only (meta_key q) there)
    where
      by_place : (meta_key q ≡ meta_key k) ⊎ IsInLife k life.version (meta_key q) → q ≡ k
      by_place (inl is) = meta_key_is q k is
      by_place (inr r) = absurd (row_key_is_no_meta_key r.side k life.version r.subkey q (sym r.is))

  -- so it has no row of another key
  none_elsewhere : (q : Bytes) → same q k ≡ false → HasNoRows b q
  none_elsewhere q apart = record {
    meta = by_meta (get b (meta_key q)) refl;
    rows = λ side version subkey hv hq. by_row side version subkey hv hq (get b (row_key side q version subkey)) refl;
  }
    where
      never : q ≡ k → ⊥
      never is = let yes : same q k ≡ true = subst (λ (x : Bytes). same q x ≡ true) is (same_itself q) in cc

      by_meta : (o : Option (Option Bytes)) → get b (meta_key q) ≡ o → o ≡ None
      by_meta None is = refl
      by_meta (Some x) is = absurd (never (meta_is_here q (ap is_some is)))

      by_row : (side : Side) (version : ℕ) (subkey : Bytes) → IsTrue (is_version version) → IsTrue (is_key q) → (o : Option (Option Bytes)) → get b (row_key side q version subkey) ≡ o → o ≡ None
      by_row side version subkey hv hq None is = refl
      by_row side version subkey hv hq (Some x) is = absurd (never (row_is_here side q version subkey hq hv (ap is_some is)).0)

  -- and of its key what the plan relation asks for
  pub writes_entry : WritesEntry c b k e life
  writes_entry = record {
    expire = expire;
    deadline = w.deadline;
    fits = w.fits;
    key = short;
    scores = w.scores;
    meta = w.meta;
    rows = λ side version subkey hv. by_version side version subkey hv (version == life.version) refl;
  }
    where
      by_none : (side : Side) (version : ℕ) (subkey : Bytes) → IsTrue (is_version version) → (version == life.version) ≡ false
          → (o : Option (Option Bytes)) → get b (row_key side k version subkey) ≡ o → o ≡ None
      by_none side version subkey hv apart None is = refl
      by_none side version subkey hv apart (Some x) is =
          let here = (row_is_here side k version subkey short hv (ap is_some is)).1 in
          let yes : (version == life.version) ≡ true = subst (λ (v : ℕ). (version == v) ≡ true) here (number_itself version) in
          absurd (cc)

      by_version : (side : Side) (version : ℕ) (subkey : Bytes) → IsTrue (is_version version) → (s : Bool) → (version == life.version) ≡ s
          → get b (row_key side k version subkey) ≡ cond (has_life e.value && s) (changed (get c (row_key side k version subkey)) (row_of e.value life.head side subkey)) None
      by_version side version subkey hv true is =
          subst (λ (v : ℕ). get b (row_key side k v subkey) ≡ changed (get c (row_key side k v subkey)) (row_of e.value life.head side subkey)) (sym (number_is version life.version is)) (w.rows side subkey)
          ∙ sym (ap (λ h. cond (h && true) (changed (get c (row_key side k version subkey)) (row_of e.value life.head side subkey)) None) w.collection)
      by_version side version subkey hv false is =
          by_none side version subkey hv is (get b (row_key side k version subkey)) refl
          ∙ sym (ap (λ s. cond s (changed (get c (row_key side k version subkey)) (row_of e.value life.head side subkey)) None) (and_right (has_life e.value) false refl))

-- ---- the step

-- A command with one key that it touches, and at which it leaves a collection, writes the rows of its life that differ.
pub life_step : {c : Rows} {t : ℕ} {m : RedisMap} (fresh : ℕ) (d : Command) (k : Bytes) (b : Batch) (answer : Reply) (n : RedisMap) (e : Entry) (life : LifeAt) (expire : ℕ)
    → Means c t m → carried_out m t d ≡ Ok (answer, n) → keys_of d ≡ k ∷ [] → IsTrue (is_key k) → IsTrue (is_touched m n d k)
    → get n k ≡ Some e → IsTrue (lives t e.deadline) → life_after c t fresh m d k e.value ≡ life
    → WritesLife c b k e life expire → IsStep c t fresh m d b answer
life_step {c} {t} {m} fresh d k b answer n e life expire means is one short touch there on goes w =
    record {
      reply = sym (ap (λ r. r.0) (applied c t m d means) ∙ ap (λ r. r.0) (apply_done m t d (answer, n) is));
      raw = w.raw;
      keys = λ q. by_test q (touches m t d q) refl;
    }
  where
    left : get (apply_alive m t d).1 k ≡ Some e
    left =
        ap (λ r. get r.1 k) (applied c t m d means)
        ∙ get-alive (apply m t d).1 t k
        ∙ ap (λ r. alive_entry t (get r.1 k)) (apply_done m t d (answer, n) is)
        ∙ ap (alive_entry t) there
        ∙ kept_some (λ x. lives t x.deadline) e on

    by_test : (q : Bytes) (touch : Bool) → touches m t d q ≡ touch → KeyPlan c t fresh m d b q
    by_test q true h =
        let here : q ≡ k = same_is q k (sym (touched_one m n t d k answer q is one touch) ∙ h) in
        inr (
          h,
          subst (λ (p : Bytes). LeavesEntry c t fresh m d b p (get (apply_alive m t d).1 p)) (sym here)
              (subst (LeavesEntry c t fresh m d b k) (sym left)
              (subst (WritesEntry c b k e) (sym goes) (writes_entry w short))),
        )
    by_test q false h = inl (h, none_elsewhere w short q (sym (touched_one m n t d k answer q is one touch) ∙ h))

-- A command that does so, and leaves the deadline of its key, looks ahead to that one.
pub life_plan : {c : Rows} {t : ℕ} {m : RedisMap} (fresh : ℕ) (d : Command) (k : Bytes) (b : Batch) (answer : Reply) (n : RedisMap) (e : Entry) (life : LifeAt) (expire : ℕ)
    → Means c t m → carried_out m t d ≡ Ok (answer, n) → keys_of d ≡ k ∷ [] → IsTrue (is_key k) → IsTrue (is_touched m n d k)
    → get n k ≡ Some e → IsTrue (lives t e.deadline) → life_after c t fresh m d k e.value ≡ life
    → WritesLife c b k e life expire
    → IsPlanOf c t fresh m d b answer (least_above t (deadline_in (live_at c t k) ∷ e.deadline ∷ []))
life_plan {c} {t} {m} fresh d k b answer n e life expire means is one short touch there on goes w = record {
  step = life_step fresh d k b answer n e life expire means is one short touch there on goes w;
  ahead =
      ap (λ o. least_above t (deadline_in (live_at c t k) ∷ o ∷ []))
      (sym (ap (λ r. deadline_at r.1 k) (apply_done m t d (answer, n) is) ∙ ap (option_and_then (λ (x : Entry). x.deadline)) there))
      ∙ ahead_one means d k one;
}

-- ---- whether a life goes on

-- answers that are equal have one value
abbrev ok : {X : Type 0} → X → Outcome X
ok x = Ok x

same_ok : {X : Type 0} (x y : X) → ok x ≡ ok y → x ≡ y
same_ok x y e = cc

-- a life with another head
abbrev with_head : LifeAt → ℕ → LifeAt
with_head life h = record { version = life.version; head = h }

module _ {A : Type 0} {kind : Kind A} {code : Code} {row : A → Bytes → Option Bytes} (stands : StandsAs kind code row) where
  -- the life of a key after a command that stores nothing and moves no head is the one that was found, or a new one
  pub goes_on : {c : Rows} {t : ℕ} {m : RedisMap} (fresh : ℕ) (d : Command) (k : Bytes) (found : Option LifeSight) (a : A)
      → Means c t m → KeepsLife m d k → life_found code (live_at c t k) ≡ Ok found → life_after c t fresh m d k (kind.value_of a) ≡ life_on fresh found
  unfolding life_after
  goes_on {c} {t} {m} fresh d k found a means keeps is = by_entry (get m k) refl (means.stands k)
    where
      after : (l : LifeAt) → life_before c t fresh m d k (kind.value_of a) ≡ l → life_after c t fresh m d k (kind.value_of a) ≡ l
      after l e = ap (λ (x : LifeAt). with_head x (head_after m d k x.head)) e ∙ ap (with_head l) (keeps.head l.head)

      before : (o : Option Entry) → get m k ≡ o → life_before c t fresh m d k (kind.value_of a) ≡ cond (holds_type o (kind.value_of a)) (life_in (live_at c t k) (new_life fresh)) (new_life fresh)
      before o e =
          ap (λ s. cond (not s && holds_type (get m k) (kind.value_of a)) (life_in (live_at c t k) (new_life fresh)) (new_life fresh)) keeps.no_store
          ∙ ap (λ x. cond (holds_type x (kind.value_of a)) (life_in (live_at c t k) (new_life fresh)) (new_life fresh)) e

      by_entry : (o : Option Entry) → get m k ≡ o → MeansAt c t k o → life_after c t fresh m d k (kind.value_of a) ≡ life_on fresh found
      by_entry None e s =
          after (life_on fresh found) (before None e ∙ ap (life_on fresh) (same_ok None found (sym (ap (life_found code) s) ∙ is)))
      by_entry (Some x) e s = by_seen (kind.seen_as x.value) refl
        where
          seen_is : life_found code (live_at c t k) ≡ (kind.seen_as x.value >>= λ y. Ok (Some (record { version = s.life.version; size = kind.count y })))
          seen_is = ap (life_found code) s.meta ∙ stands.found x.value s.life s.expire

          by_seen : (o : Outcome A) → kind.seen_as x.value ≡ o → life_after c t fresh m d k (kind.value_of a) ≡ life_on fresh found
          by_seen (Err fault) h =
              let no : ok found ≡ Err fault = sym is ∙ seen_is ∙ ap (λ o. o >>= λ y. Ok (Some (record { version = s.life.version; size = kind.count y }))) h in absurd (cc)
          by_seen (Ok y) h =
              let value : x.value ≡ kind.value_of y = stands.is x.value y h in
              let that : found ≡ Some (record { version = s.life.version; size = kind.count y }) =
              same_ok found _ (sym is ∙ seen_is ∙ ap (λ o. o >>= λ y. Ok (Some (record { version = s.life.version; size = kind.count y }))) h) in
              let meta : live_at c t k ≡ Some (LifeValue code s.expire s.life.version (kind.count y)) =
              s.meta ∙ ap (λ (u : Value). Some (meta_for u s.life s.expire)) value ∙ ap (λ u. Some u) (stands.meta y s.life s.expire) in
              after (life_on fresh found)
              (before (Some x) e
              ∙ ap (λ (u : Value). cond (same_type u (kind.value_of a)) (life_in (live_at c t k) (new_life fresh)) (new_life fresh)) value
              ∙ ap (λ s. cond s (life_in (live_at c t k) (new_life fresh)) (new_life fresh)) (stands.one_type y a)
              ∙ ap (λ f. life_in f (new_life fresh)) meta
              ∙ sym (ap (life_on fresh) that))
