-- Laws on what stands in `OwnKeys.antt`.
use Rattle.std.proofs.Common.{◌≡◌, ◌↔◌, ℕ, List, [], ◌∷◌, refl, sym, ap, subst, ◌∙◌, true, length, inl, inr, arith}
use Rattle.std.specs.Prelude.{◌||◌, Option, Some, None, IsSome, IsTrue, IsFalse, is_some}
use Rattle.kv_base.specs.Map.{Bytes, Map, same_itself, get, get-empty, size, empty, size-empty, same_map, same_entries_map}
use Rattle.kv_base.specs.RawKeys.{is_key}
use Rattle.batch_codec.specs.Batches.{Batch}
use Rattle.redis_model.specs.declared.reply.Reply.{Reply}
use Rattle.redis_model.specs.declared.command.Command.{Command}
use Rattle.redis_model.specs.Value.{Entry, RedisMap}
use Rattle.redis_model.specs.Keys.{among}
use Rattle.redis_model.specs.About.{keys_of, writes}
use Rattle.redis_model.specs.Touched.{touched}
use Rattle.redis_model.specs.TouchedLaws.{touched_is_named, reading_touches_nothing}
use Rattle.redis_model.specs.Machine.{apply_alive}
use Rattle.lives_model.specs.Rows.{Rows, meta_key}
use Rattle.lives_model.specs.RowKeys.{IsOfKey, HasKey}
use Rattle.lives_model.specs.RowKeyLaws.{has_key}
use Rattle.lives_model.specs.Plans.{HasNoRows, LeavesEntry, KeyPlan, IsStep, touches}
use Rattle.lives_model.specs.OwnKeys.{IsAmong}

-- ---- maps with nothing in them

-- a map that answers nothing is empty, and so is one that has no entry
pub empty_is : {X : Type 0} (m : Map X) → ((k : Bytes) → get m k ≡ None) → m ≡ empty
empty_is m none = same_map m empty (λ k. none k ∙ sym (get-empty k))

-- a map of no entries is empty
pub no_size : {X : Type 0} (m : Map X) → (size m ≡ 0) ↔ (m ≡ empty)
unfolding size empty
no_size {X = X} m = (λ e. same_entries_map m empty (no_entries m.entries e), λ e. ap size e ∙ size-empty X)
  where
    no_entries : (es : List (Bytes × X)) → length es ≡ 0 → es ≡ []
    no_entries [] e = refl
    no_entries (x ∷ es) e = absurd (omega arith)

-- what is not there is none
pub none_is : {X : Type 0} (o : Option X) → (is_some o ≡ true → ⊥) → o ≡ None
none_is None h = refl
none_is (Some x) h = absurd (h refl)

-- ---- a key of which a batch has a row

-- a batch that has no rows of a key has nothing at its raw keys
pub no_row_of : (b : Batch) (k raw : Bytes) → HasNoRows b k → IsTrue (is_key k) → IsOfKey k raw → get b raw ≡ None
no_row_of b k raw none short (inl is) = ap (get b) is ∙ none.meta
no_row_of b k raw none short (inr row) = ap (get b) row.is ∙ none.rows row.side row.version row.subkey row.fits short

-- a key of which it has a row is touched
has_row : (c : Rows) (t fresh : ℕ) (m : RedisMap) (d : Command) (b : Batch) (k raw : Bytes) → IsTrue (is_key k) → IsOfKey k raw → IsSome (get b raw) → KeyPlan c t fresh m d b k → IsTrue (touches m t d k)
has_row c t fresh m d b k raw short of there (inl p) = let none = no_row_of b k raw p.1 short of in cc
has_row c t fresh m d b k raw short of there (inr p) = p.0

-- each raw key of a step's batch is one of a key that the command touches
pub step_touches : (c : Rows) (t fresh : ℕ) (m : RedisMap) (d : Command) (b : Batch) (answer : Reply) → IsStep c t fresh m d b answer
    → (raw : Bytes) → IsSome (get b raw) → IsAmong (touched m t d) raw
step_touches c t fresh m d b answer s raw there =
    let of : HasKey raw = has_key raw (s.raw raw there) in
    record { key = of.key; is = of.is; among = has_row c t fresh m d b of.key raw of.short of.is there (s.keys of.key) }

-- and so of one that it names
pub step_names : (c : Rows) (t fresh : ℕ) (m : RedisMap) (d : Command) (b : Batch) (answer : Reply) → IsStep c t fresh m d b answer
    → (raw : Bytes) → IsSome (get b raw) → IsAmong (keys_of d) raw
step_names c t fresh m d b answer s raw there =
    let own = step_touches c t fresh m d b answer s raw there in
    record { key = own.key; is = own.is; among = touched_is_named m t d own.key own.among }

-- ---- nothing touched is nothing written

-- no key is among none
no_one_among : (ks : List Bytes) (k : Bytes) → ks ≡ [] → IsTrue (among ks k) → ⊥
no_one_among ks k e h = let no : among [] k ≡ true = subst (λ (l : List Bytes). among l k ≡ true) e h in cc

-- the batch has the metadata of each touched key
touched_has_meta : (c : Rows) (t fresh : ℕ) (m : RedisMap) (d : Command) (b : Batch) (k : Bytes) (o : Option Entry) → LeavesEntry c t fresh m d b k o → IsSome (get b (meta_key k))
touched_has_meta c t fresh m d b k None l = ap is_some l.meta
touched_has_meta c t fresh m d b k (Some e) l = ap is_some l.meta

-- so each touched key is written
pub touched_is_written : (c : Rows) (t fresh : ℕ) (m : RedisMap) (d : Command) (b : Batch) (answer : Reply) → IsStep c t fresh m d b answer
    → (k : Bytes) → IsTrue (touches m t d k) → IsSome (get b (meta_key k))
touched_is_written c t fresh m d b answer s k on = by_plan (s.keys k)
  where
    by_plan : KeyPlan c t fresh m d b k → IsSome (get b (meta_key k))
    by_plan (inl p) = let off = p.0 in cc
    by_plan (inr p) = touched_has_meta c t fresh m d b k (get (apply_alive m t d).1 k) p.1

-- the first key is among them
first_among : (k : Bytes) (ks : List Bytes) → among (k ∷ ks) k ≡ true
first_among k ks = ap (λ b. b || among ks k) (same_itself k)

-- keys of each of which the batch has a row are none where it is empty
pub none_written : (b : Batch) (ks : List Bytes) → ((k : Bytes) → IsTrue (among ks k) → IsSome (get b (meta_key k))) → b ≡ empty → ks ≡ []
none_written b [] there e = refl
none_written b (k ∷ ks) there e =
    let some = there k (first_among k ks) in
    let none : get b (meta_key k) ≡ None = ap (λ (n : Batch). get n (meta_key k)) e ∙ get-empty (meta_key k) in
    cc

-- a batch all of whose raw keys are of keys among none is empty
pub none_own : (b : Batch) (ks : List Bytes) → ((raw : Bytes) → IsSome (get b raw) → IsAmong ks raw) → ks ≡ [] → b ≡ empty
none_own b ks own e = empty_is b (λ raw. none_is (get b raw) (λ there. let of = own raw there in no_one_among ks of.key e of.among))

-- a step's batch is empty exactly where its command touches no key
pub quiet_step : (c : Rows) (t fresh : ℕ) (m : RedisMap) (d : Command) (b : Batch) (answer : Reply) → IsStep c t fresh m d b answer → (touched m t d ≡ []) ↔ (b ≡ empty)
quiet_step c t fresh m d b answer s = (
  none_own b (touched m t d) (step_touches c t fresh m d b answer s),
  none_written b (touched m t d) (touched_is_written c t fresh m d b answer s),
)

-- a command that only reads writes nothing
pub reading_step : (c : Rows) (t fresh : ℕ) (m : RedisMap) (d : Command) (b : Batch) (answer : Reply) → IsStep c t fresh m d b answer → IsFalse (writes d) → b ≡ empty
reading_step c t fresh m d b answer s reads = (quiet_step c t fresh m d b answer s).0 (reading_touches_nothing m t d reads)
