-- Steps of commands that leave a key's value as it is and give it another deadline.
use Rattle.std.proofs.Common.{ℕ, ◌≡◌, refl, sym, ap, subst, ◌∙◌, Bool, true, false, cond, ◌∷◌, []}
use Rattle.std.proofs.lemmas.Bool.{and_from}
use Rattle.std.specs.Prelude.{Option, Some, None, Ok, IsTrue, ◌&&◌, not, if◌then◌else◌}
use Rattle.kv_base.specs.Map.{Bytes, get, insert, get-insert, same_itself}
use Rattle.kv_base.specs.InversionLaws.{same_some, both_first, both_second}
use Rattle.kv_base.specs.RawKeys.{is_key}
use Rattle.kv_base.specs.MetaValues.{MetaValue, StringValue, LifeValue, ListValue, is_deadline, is_meta_within, meta_text}
use Rattle.meta_codec.specs.Metas.{with_expire}
use Rattle.redis_model.specs.declared.reply.Reply.{Reply}
use Rattle.redis_model.specs.declared.command.Command.{Command}
use Rattle.redis_model.specs.Value.{Value, Str, Hash, ListOf, SetOf, ZSet, Entry, RedisMap, lives}
use Rattle.redis_model.specs.About.{keys_of}
use Rattle.redis_model.specs.Apply.{carried_out}
use Rattle.redis_model.specs.Touched.{is_touched}
use Rattle.lives_model.specs.Rows.{Rows, Side, Elements, Scores, row_key}
use Rattle.lives_model.specs.Clean.{live_at}
use Rattle.lives_model.specs.Means.{Means, MeansAt, StandsForEntry, LifeAt, meta_for, row_of, has_life}
use Rattle.lives_model.specs.Moved.{head_after}
use Rattle.lives_model.specs.Plans.{IsStep, same_type, holds_type, new_life, life_in, life_before, life_after}
use Rattle.lives_model.specs.StepLaws.{live_fits}
use Rattle.plan_base.specs.MetaRows.{expire_number, live_row, meta_batch}
use Rattle.plan_base.specs.MetaRowLaws.{deadline_is_back}
use Rattle.plan_base.specs.KeySteps.{TellsKey, alive_entry}
use Rattle.plan_base.specs.KeyStepLaws.{meta_step}
use Rattle.plan_base.specs.Retimed.{KeepsLife}

-- ---- another deadline in metadata

-- the metadata of a value with another deadline is that of the value
with_expire_for : (v : Value) (life : LifeAt) (x y : ℕ) → with_expire y (meta_for v life x) ≡ meta_for v life y
with_expire_for (Str v) life x y = refl
with_expire_for (Hash v) life x y = refl
with_expire_for (ListOf v) life x y = refl
with_expire_for (SetOf v) life x y = refl
with_expire_for (ZSet v) life x y = refl

-- the first of three tests may be another one that holds
other_first : (a b c y : Bool) → (a && b && c) ≡ true → y ≡ true → (y && b && c) ≡ true
other_first a b c y h e = and_from (y && b) c (and_from y b e (both_second a b (both_first (a && b) c h))) (both_second (a && b) c h)

-- it stays within its limits
pub within_expire : (y : ℕ) (meta : MetaValue) → IsTrue (is_meta_within meta) → IsTrue (is_deadline y) → IsTrue (is_meta_within (with_expire y meta))
unfolding is_meta_within
within_expire y (StringValue x payload) h e = and_from _ _ e (both_second (is_deadline x) _ h)
within_expire y (LifeValue kind x version size) h e = other_first (is_deadline x) _ _ _ h e
within_expire y (ListValue x version head tail) h e = and_from _ _ (other_first (is_deadline x) _ _ _ (both_first _ _ h) e) (both_second _ _ h)

-- ---- a life that goes on as it is

-- the life of a value that stays, where the key had this one
abbrev kept_life : Value → LifeAt → ℕ → LifeAt → LifeAt
kept_life v life x new = if same_type v v then life_in (Some (meta_for v life x)) new else new

-- it has the same metadata
kept_meta : (v : Value) (life new : LifeAt) (x y : ℕ) → meta_for v (kept_life v life x new) y ≡ meta_for v life y
kept_meta (Str v) life new x y = refl
kept_meta (Hash v) life new x y = refl
kept_meta (ListOf v) life new x y = refl
kept_meta (SetOf v) life new x y = refl
kept_meta (ZSet v) life new x y = refl

-- the same version, where there is one
kept_version : (v : Value) (life new : LifeAt) (x : ℕ) → has_life v ≡ true → (kept_life v life x new).version ≡ life.version
kept_version (Str v) life new x h = absurd (cc)
kept_version (Hash v) life new x h = refl
kept_version (ListOf v) life new x h = refl
kept_version (SetOf v) life new x h = refl
kept_version (ZSet v) life new x h = refl

-- and the same rows
kept_row : (v : Value) (life new : LifeAt) (x : ℕ) (side : Side) (subkey : Bytes) → row_of v (kept_life v life x new).head side subkey ≡ row_of v life.head side subkey
kept_row (Str v) life new x side subkey = refl
kept_row (Hash v) life new x Elements subkey = refl
kept_row (Hash v) life new x Scores subkey = refl
kept_row (ListOf v) life new x side subkey = refl
kept_row (SetOf v) life new x Elements subkey = refl
kept_row (SetOf v) life new x Scores subkey = refl
kept_row (ZSet v) life new x Elements subkey = refl
kept_row (ZSet v) life new x Scores subkey = refl

-- a life with another head
abbrev with_head : LifeAt → ℕ → LifeAt
with_head life h = record { version = life.version; head = h }

-- the life after such a command is the one before it
life_goes_on : (c : Rows) (t fresh : ℕ) (m : RedisMap) (d : Command) (k : Bytes) (e : Entry) (life : LifeAt) (x : ℕ) → KeepsLife m d k → get m k ≡ Some e → live_at c t k ≡ Some (meta_for e.value life x)
    → life_after c t fresh m d k e.value ≡ kept_life e.value life x (new_life fresh)
unfolding life_after
life_goes_on c t fresh m d k e life x keeps there found =
    let before : life_before c t fresh m d k e.value ≡ kept_life e.value life x (new_life fresh) =
    ap (λ b. cond (not b && holds_type (get m k) e.value) (life_in (live_at c t k) (new_life fresh)) (new_life fresh)) keeps.no_store
    ∙ ap (λ o. cond (holds_type o e.value) (life_in (live_at c t k) (new_life fresh)) (new_life fresh)) there
    ∙ ap (λ f. cond (same_type e.value e.value) (life_in f (new_life fresh)) (new_life fresh)) found in
    ap (λ (l : LifeAt). with_head l (head_after m d k l.head)) before
    ∙ ap (with_head (kept_life e.value life x (new_life fresh))) (keeps.head (kept_life e.value life x (new_life fresh)).head)

-- ---- the step

-- its metadata with the new deadline says what is left
retimed_tells : {c : Rows} {t : ℕ} {m : RedisMap} (fresh : ℕ) (d : Command) (k : Bytes) (e : Entry) (dl : Option ℕ) (meta : MetaValue)
    → Means c t m → get m k ≡ Some e → live_at c t k ≡ Some meta → KeepsLife m d k → IsTrue (is_deadline (expire_number dl))
    → TellsKey c t fresh m d k (Some (live_row t dl (with_expire (expire_number dl) meta))) (alive_entry t (Some (record { value = e.value; deadline = dl })))
retimed_tells {c} {t} {m} fresh d k e dl meta means there found keeps fits = by_test (lives t dl) refl
  where
    s : StandsForEntry c t k e
    s = subst (MeansAt c t k) there (means.stands k)

    life_is : life_after c t fresh m d k e.value ≡ kept_life e.value s.life s.expire (new_life fresh)
    life_is = life_goes_on c t fresh m d k e s.life s.expire keeps there s.meta

    meta_is : with_expire (expire_number dl) meta ≡ meta_for e.value (life_after c t fresh m d k e.value) (expire_number dl)
    meta_is =
        ap (with_expire (expire_number dl)) (same_some _ _ (sym found ∙ s.meta))
        ∙ with_expire_for e.value s.life s.expire (expire_number dl)
        ∙ sym (kept_meta e.value s.life (new_life fresh) s.expire (expire_number dl))
        ∙ ap (λ l. meta_for e.value l (expire_number dl)) (sym life_is)

    rows : IsTrue (has_life e.value) → (side : Side) (subkey : Bytes)
        → get c (row_key side k (life_after c t fresh m d k e.value).version subkey) ≡ row_of e.value (life_after c t fresh m d k e.value).head side subkey
    rows has side subkey =
        ap (λ (l : LifeAt). get c (row_key side k l.version subkey)) life_is
        ∙ ap (λ (v : ℕ). get c (row_key side k v subkey)) (kept_version e.value s.life (new_life fresh) s.expire has)
        ∙ s.rows has side subkey
        ∙ sym (kept_row e.value s.life (new_life fresh) s.expire side subkey)
        ∙ sym (ap (λ (l : LifeAt). row_of e.value l.head side subkey) life_is)

    by_test : (b : Bool) → lives t dl ≡ b
        → TellsKey c t fresh m d k (Some (cond b (Some (meta_text (with_expire (expire_number dl) meta))) None)) (cond b (Some (record { value = e.value; deadline = dl })) None)
    by_test false is = refl
    by_test true is = record {
      expire = expire_number dl;
      deadline = deadline_is_back t dl is;
      fits = subst (λ (x : MetaValue). is_meta_within x ≡ true) meta_is (within_expire (expire_number dl) meta (live_fits c t k meta found) fits);
      scores = s.scores;
      meta = ap (λ x. Some (Some (meta_text x))) meta_is;
      rows = rows;
    }

-- A command that leaves the value of a key, of any type, and gives it another deadline writes its metadata with that
-- deadline, or deletes it where the deadline is not above the moment.
pub retimed_step : {c : Rows} {t : ℕ} {m : RedisMap} (fresh : ℕ) (d : Command) (k : Bytes) (e : Entry) (dl : Option ℕ) (meta : MetaValue) (answer : Reply)
    → Means c t m → get m k ≡ Some e → live_at c t k ≡ Some meta
    → carried_out m t d ≡ Ok (answer, insert m k (record { value = e.value; deadline = dl }))
    → keys_of d ≡ k ∷ [] → IsTrue (is_key k) → IsTrue (is_touched m (insert m k (record { value = e.value; deadline = dl })) d k)
    → KeepsLife m d k → IsTrue (is_deadline (expire_number dl))
    → IsStep c t fresh m d (meta_batch k (live_row t dl (with_expire (expire_number dl) meta))) answer
retimed_step {c} {t} {m} fresh d k e dl meta answer means there found is one short touch keeps fits =
    let row : Option Bytes = live_row t dl (with_expire (expire_number dl) meta) in
    let left : get (insert m k (record { value = e.value; deadline = dl })) k ≡ Some (record { value = e.value; deadline = dl }) =
    get-insert m k (record { value = e.value; deadline = dl }) k ∙ ap (λ b. cond b (Some (record { value = e.value; deadline = dl })) (get m k)) (same_itself k) in
    meta_step fresh d k row answer (insert m k (record { value = e.value; deadline = dl })) means is one short touch
    (subst (λ (o : Option Entry). TellsKey c t fresh m d k (Some row) (alive_entry t o)) (sym left) (retimed_tells fresh d k e dl meta means there found keeps fits))
