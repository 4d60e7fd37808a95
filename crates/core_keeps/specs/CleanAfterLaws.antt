-- What counts after a batch depends on what counts before it: rows of which the same counts at the moment of a plan and at another
-- one count alike at that one after the plan's batch, where its versions are new on both.
use Rattle.std.proofs.Common.{◌≡◌, ℕ, ◌+◌, List, [], ◌∷◌, ◌++◌, refl, sym, ap, subst, ◌∙◌, Bool, true, false, cond, inl, inr, arith}
use Rattle.std.proofs.lemmas.Bool.Decides.{nat_tests}
use Rattle.std.specs.Prelude.{◌==◌, ◌||◌, Option, Some, None, IsTrue, is_some, option_and_then}
use Rattle.kv_base.specs.InversionLaws.{same_some, and_then_is, kept_is}
use Rattle.kv_base.specs.Map.{Bytes, kept, get, same_map, empty}
use Rattle.kv_base.specs.RawKeys.{RawKey, MetaKey, ElementKey, ScoreKey, is_key, is_raw_within, raw_text, read_raw}
use Rattle.kv_base.specs.RawKeyLaws.{only_raw_is_read}
use Rattle.kv_base.specs.MetaValues.{MetaValue, read_meta, meta_text, version_of}
use Rattle.kv_base.specs.MetaValueLaws.{meta_is_read, only_meta_is_read}
use Rattle.batch_codec.specs.Batches.{Batch, after, joined, over}
use Rattle.batch_codec.specs.BatchLaws.{get-after}
use Rattle.redis_model.specs.declared.reply.Reply.{Reply}
use Rattle.redis_model.specs.declared.command.Command.{Command}
use Rattle.redis_model.specs.declared.command.Cmds.{Cmds}
use Rattle.redis_model.specs.declared.command.Cmds.TheVariants.{One, Many}
use Rattle.redis_model.specs.Value.{Value, Str, Hash, ListOf, SetOf, ZSet, Entry, RedisMap}
use Rattle.redis_model.specs.Keys.{among}
use Rattle.redis_model.specs.About.{keys_of}
use Rattle.redis_model.specs.Machine.{apply_alive}
use Rattle.redis_model.specs.TouchedLaws.{touched_is_named}
use Rattle.key_locality.specs.Moments.{none_between_itself}
use Rattle.lives_model.specs.Rows.{Rows, IsOnGrammar, meta_key, row_key}
use Rattle.lives_model.specs.Clean.{is_live, live_at, is_version_of, is_current, counts, clean}
use Rattle.lives_model.specs.CleanLaws.{get-clean, clean_means}
use Rattle.lives_model.specs.Means.{Means, LifeAt, meta_for, has_life}
use Rattle.lives_model.specs.Plans.{IsPlanOf, IsPlanFor, IsStep, IsFresh, KeyPlan, LeavesEntry, HasNoRows, Deletes, WritesEntry, PlannedPart, AreParts, join_parts, deadlines, life_after, version, keys_of_each, keys_in}
use Rattle.lives_model.specs.StepLaws.{version_fits, live_still, live_gone, get-placed, step_means}
use Rattle.lives_model.specs.JoinedBatchLaws.{after-empty, after-joined}
use Rattle.lives_model.specs.WrittenKeyLaws.{among-append}
use Rattle.plan_laws.specs.AlikeRows.{life_of, RowsAlike, LivesAlike, counts_lives}
use Rattle.plan_laws.specs.StillPlan.{Meets, life_rows, step_too}
use Rattle.plan_laws.specs.AfterSteps.{step_lives, step_fresh, lives_left, lives_gone, lives_written}
use Rattle.core_model.specs.AlikeLaws.{alike_clean}
use Rattle.filter_laws.specs.Kept.{row_life}
use Rattle.filter_laws.specs.IssuedInputs.{IsRowOf}
use Rattle.filter_laws.specs.IssuedInputLaws.{read_life_row}

-- ---- where each key lives alike the same counts

kept_never : (p : Bytes → Bool) (o : Option Bytes) → ((v : Bytes) → p v ≡ false) → kept p o ≡ None
kept_never p None h = refl
kept_never p (Some v) h = ap (λ (c : Bool). cond c (Some v) None) (h v)

kept_always : (p : Bytes → Bool) (o : Option Bytes) → ((v : Bytes) → p v ≡ true) → kept p o ≡ o
kept_always p None h = refl
kept_always p (Some v) h = ap (λ (c : Bool). cond c (Some v) None) (h v)

-- metadata of which the same is live has the same bytes, where it is live
live_bytes : (t : ℕ) (o p : Option Bytes) → kept (is_live t) (option_and_then read_meta o) ≡ kept (is_live t) (option_and_then read_meta p)
    → kept (λ v. is_some (kept (is_live t) (read_meta v))) o ≡ kept (λ v. is_some (kept (is_live t) (read_meta v))) p
live_bytes t None None e = refl
live_bytes t None (Some w) e = sym (ap (λ (x : Option MetaValue). cond (is_some x) (Some w) None) (sym e))
live_bytes t (Some v) None e = ap (λ (x : Option MetaValue). cond (is_some x) (Some v) None) e
live_bytes t (Some v) (Some w) e = by_live (kept (is_live t) (read_meta v)) refl
  where
    by_live : (x : Option MetaValue) → kept (is_live t) (read_meta v) ≡ x → cond (is_some (kept (is_live t) (read_meta v))) (Some v) None ≡ cond (is_some (kept (is_live t) (read_meta w))) (Some w) None
    by_live None h = ap (λ (x : Option MetaValue). cond (is_some x) (Some v) None) h ∙ sym (ap (λ (x : Option MetaValue). cond (is_some x) (Some w) None) (sym e ∙ h))
    by_live (Some meta) h =
        let one = only_meta_is_read v meta (kept_is (is_live t) (read_meta v) meta h).0 in
        let two = only_meta_is_read w meta (kept_is (is_live t) (read_meta w) meta (sym e ∙ h)).0 in
        let is : v ≡ w = one.0 ∙ sym two.0 in
        ap (λ (x : Bytes). cond (is_some (kept (is_live t) (read_meta x))) (Some x) None) is

current_version : (v : ℕ) (o : Option ℕ) → is_version_of o v ≡ true → o ≡ Some v
current_version v None e = absurd (cc)
current_version v (Some n) e = let is : v ≡ n = same_number v n e in ap (λ (x : ℕ). Some x) (sym is)
  where
    same_number : (a b : ℕ) → (a == b) ≡ true → a ≡ b
    same_number a b h = grind (arith, nat_tests)

module _ (c d : Rows) (t : ℕ) (alike : (k : Bytes) → IsTrue (is_key k) → LivesAlike c d t k) where
  -- a row of a life
  life_alike : (raw k : Bytes) (v : ℕ) → IsRowOf raw k v → kept (λ _. is_current c t k v) (get c raw) ≡ kept (λ _. is_current d t k v) (get d raw)
  life_alike raw k v of = by_current (is_current c t k v) refl
    where
      same_live : live_at d t k ≡ live_at c t k
      same_live = (alike k of.key).meta

      by_current : (g : Bool) → is_current c t k v ≡ g → kept (λ _. is_current c t k v) (get c raw) ≡ kept (λ _. is_current d t k v) (get d raw)
      by_current true e =
          let too : is_current d t k v ≡ true = ap (λ (o : Option MetaValue). is_version_of (option_and_then version_of o) v) same_live ∙ e in
          let row : get c raw ≡ get d raw = ap (get c) of.is ∙ (alike k of.key).rows v (current_version v (option_and_then version_of (live_at c t k)) e) of.side of.subkey ∙ ap (get d) (sym of.is) in
          kept_always (λ _. is_current c t k v) (get c raw) (λ x. e) ∙ row ∙ sym (kept_always (λ _. is_current d t k v) (get d raw) (λ x. too))
      by_current false e =
          let too : is_current d t k v ≡ false = ap (λ (o : Option MetaValue). is_version_of (option_and_then version_of o) v) same_live ∙ e in
          kept_never (λ _. is_current c t k v) (get c raw) (λ x. e) ∙ sym (kept_never (λ _. is_current d t k v) (get d raw) (λ x. too))

  meta_alike : (raw k : Bytes) → read_raw raw ≡ Some (MetaKey k) → kept (counts c t (Some (MetaKey k))) (get c raw) ≡ kept (counts d t (Some (MetaKey k))) (get d raw)
  unfolding is_raw_within meta_key raw_text live_at
  meta_alike raw k e =
      let whole = only_raw_is_read raw (MetaKey k) e in
      let same : live_at d t k ≡ live_at c t k = (alike k whole.1).meta in
      live_bytes t (get c raw) (get d raw)
      (ap (λ (x : Bytes). kept (is_live t) (option_and_then read_meta (get c x))) whole.0 ∙ sym same ∙ ap (λ (x : Bytes). kept (is_live t) (option_and_then read_meta (get d x))) (sym whole.0))

  -- where each key lives alike the clean rows are the same
  pub lives_clean : clean c t ≡ clean d t
  lives_clean = same_map (clean c t) (clean d t) (λ raw. get-clean c t raw ∙ by_raw raw (read_raw raw) refl ∙ sym (get-clean d t raw))
    where
      by_raw : (raw : Bytes) (r : Option RawKey) → read_raw raw ≡ r → kept (counts c t r) (get c raw) ≡ kept (counts d t r) (get d raw)
      by_raw raw None e = kept_never (counts c t None) (get c raw) (λ v. refl) ∙ sym (kept_never (counts d t None) (get d raw) (λ v. refl))
      by_raw raw (Some (MetaKey k)) e = meta_alike raw k e
      by_raw raw (Some (ElementKey k v subkey)) e = life_alike raw k v (read_life_row raw (k, v) (ap row_life e))
      by_raw raw (Some (ScoreKey k v score member)) e = life_alike raw k v (read_life_row raw (k, v) (ap row_life e))

-- ---- one command

-- rows on which each key lives alike at the moment of a command and at another one
module _ (c d : Rows) (m f fresh : ℕ) (n : RedisMap) (a : Command) (b : Batch) (meets : Meets c d m m fresh n n a) (k : Bytes) where
  leaves_too : (o : Option Entry) → IsTrue (among (keys_of a) k) → LeavesEntry c m fresh n a b k o → LivesAlike (after c b) (after d b) f k
  leaves_too None named l = lives_gone c d b k f l
  leaves_too (Some e) named l =
      lives_written c d b f k e (life_after c m fresh n a k e.value)
      (λ h. life_rows c d m m fresh n n a meets k named l.key e.value (version_fits e.value (life_after c m fresh n a k e.value) l.expire h l.fits)) l

  step_alike : LivesAlike c d f k → KeyPlan c m fresh n a b k → LivesAlike (after c b) (after d b) f k
  step_alike alike (inl p) = lives_left c d b k f p.1 alike
  step_alike alike (inr p) = leaves_too (get (apply_alive n m a).1 k) (touched_is_named n m a k p.0) p.1

-- ---- several commands

record Both (c d : Rows) (m f base i : ℕ) (n : RedisMap) (ds : List Command) : Type 0 where
  means : Means c m n
  means_too : Means d m n
  lives : (k : Bytes) → IsTrue (is_key k) → LivesAlike c d m k
  others : (k : Bytes) → IsTrue (is_key k) → LivesAlike c d f k
  above : (k : Bytes) → IsTrue (among (keys_of_each ds) k) → IsTrue (is_key k) → IsFresh c (version base i) k × IsFresh d (version base i) k

or_right : (a b : Bool) → b ≡ true → (a || b) ≡ true
or_right true b e = refl
or_right false b e = e

or_left : (a b : Bool) → a ≡ true → (a || b) ≡ true
or_left true b e = refl
or_left false b e = cc

meets_one : (c d : Rows) (m fresh : ℕ) (n : RedisMap) (a : Command) → Means c m n → Means d m n → ((k : Bytes) → IsTrue (is_key k) → LivesAlike c d m k)
    → ((k : Bytes) → IsTrue (among (keys_of a) k) → IsTrue (is_key k) → IsFresh c fresh k × IsFresh d fresh k) → Meets c d m m fresh n n a
meets_one c d m fresh n a means means_too lives above = record {
  le = omega arith;
  means = means;
  means_too = means_too;
  lives = λ k named key. lives k key;
  above = above;
  ahead = none_between_itself m (deadlines n m a);
  clock = λ reads. refl;
}

module _ (c d : Rows) (m f base i : ℕ) (n : RedisMap) (a : Command) (ds : List Command) (p : PlannedPart) (both : Both c d m f base i n (a ∷ ds)) (plan : IsPlanOf c m (version base i) n a p.batch p.reply p.until) where
  first_named : (k : Bytes) → among (keys_of a) k ≡ true → among (keys_of a ++ keys_of_each ds) k ≡ true
  first_named k h = among-append (keys_of a) (keys_of_each ds) k ∙ or_left (among (keys_of a) k) (among (keys_of_each ds) k) h

  rest_named : (k : Bytes) → among (keys_of_each ds) k ≡ true → among (keys_of a ++ keys_of_each ds) k ≡ true
  rest_named k h = among-append (keys_of a) (keys_of_each ds) k ∙ or_right (among (keys_of a) k) (among (keys_of_each ds) k) h

  meets : Meets c d m m (version base i) n n a
  meets = meets_one c d m (version base i) n a both.means both.means_too both.lives (λ k named key. both.above k (first_named k named) key)

  next_fresh : version base i + 1 ≡ version base (i + 1)
  next_fresh = omega arith

  step_there : IsStep d m (version base i) n a p.batch p.reply
  step_there = step_too c d m m (version base i) n n a p.batch meets p.reply plan.step

  next_both : Both (after c p.batch) (after d p.batch) m f base (i + 1) (apply_alive n m a).1 ds
  next_both = record {
    means = step_means c m (version base i) n a p.batch p.reply both.means plan.step;
    means_too = step_means d m (version base i) n a p.batch p.reply both.means_too step_there;
    lives = λ k key. step_lives c d m m (version base i) n n a p.batch meets k (both.lives k key) (plan.step.keys k);
    others = λ k key. step_alike c d m f (version base i) n a p.batch meets k (both.others k key) (plan.step.keys k);
    above = λ k named key.
        let free = both.above k (rest_named k named) key in (
          subst (λ (v : ℕ). IsFresh (after c p.batch) v k) next_fresh (step_fresh c m (version base i) n a p.batch k free.0 (both.means.stands k) key (plan.step.keys k)),
          subst (λ (v : ℕ). IsFresh (after d p.batch) v k) next_fresh (step_fresh d m (version base i) n a p.batch k free.1 (both.means_too.stands k) key (step_there.keys k)),
        );
  }

parts_alike : (c d : Rows) (m f base i : ℕ) (n : RedisMap) (ds : List Command) (b : Batch) (ps : List PlannedPart) → Both (after c b) (after d b) m f base i n ds → AreParts (after c b) m base i n ds ps
    → (k : Bytes) → IsTrue (is_key k) → LivesAlike (after c (join_parts b ps)) (after d (join_parts b ps)) f k
parts_alike c d m f base i n [] b [] both are k key = both.others k key
parts_alike c d m f base i n [] b (p ∷ ps) both are k key = absurd are
parts_alike c d m f base i n (a ∷ ds) b [] both are k key = absurd are
parts_alike c d m f base i n (a ∷ ds) b (p ∷ ps) both are k key =
    let one = after-joined c b p.batch in
    let two = after-joined d b p.batch in
    parts_alike c d m f base (i + 1) (apply_alive n m a).1 ds (joined b p.batch) ps
    (subst (λ (e : Rows). Both e (after d (joined b p.batch)) m f base (i + 1) (apply_alive n m a).1 ds) (sym one)
    (subst (λ (e : Rows). Both (after (after c b) p.batch) e m f base (i + 1) (apply_alive n m a).1 ds) (sym two) (next_both (after c b) (after d b) m f base i n a ds p both are.0)))
    (subst (λ (e : Rows). AreParts e m base (i + 1) (apply_alive n m a).1 ds ps) (sym one) are.1) k key

-- ---- the law

-- rows that count alike at a plan's moment and at another one count alike at that one after its batch
pub same_after : (c d : Rows) (m f base : ℕ) (n : RedisMap) (ds : Cmds) (b : Batch) (answer : Reply) (until : Option ℕ) → IsOnGrammar c → IsOnGrammar d → Means c m n → clean c m ≡ clean d m → clean c f ≡ clean d f
    → ((k : Bytes) → IsTrue (among (keys_in ds) k) → IsTrue (is_key k) → IsFresh c (version base 0) k × IsFresh d (version base 0) k) → IsPlanFor c m base n ds b answer until → clean (after c b) f ≡ clean (after d b) f
same_after c d m f base n ds b answer until on on_too means at_moment at_other fresh plan = lives_clean (after c b) (after d b) f (by_cmds ds fresh plan)
  where
    too : Means d m n
    too = clean_means c d m n on on_too at_moment means

    lives : (t : ℕ) → clean c t ≡ clean d t → (k : Bytes) → IsTrue (is_key k) → LivesAlike c d t k
    lives t is k key = counts_lives c d t k on on_too key (alike_clean c d t k is)

    by_cmds : (ds : Cmds) → ((k : Bytes) → IsTrue (among (keys_in ds) k) → IsTrue (is_key k) → IsFresh c (version base 0) k × IsFresh d (version base 0) k) → IsPlanFor c m base n ds b answer until
        → (k : Bytes) → IsTrue (is_key k) → LivesAlike (after c b) (after d b) f k
    by_cmds (One a) above plan k key = step_alike c d m f (version base 0) n a b (meets_one c d m (version base 0) n a means too (lives m at_moment) above) k (lives f at_other k key) (plan.step.keys k)
    by_cmds (Many as_) above plan k key =
        subst (λ (x : Batch). LivesAlike (after c x) (after d x) f k) (sym plan.batch)
        (parts_alike c d m f base 0 n as_ empty plan.parts
        (subst (λ (e : Rows). Both e (after d empty) m f base 0 n as_) (sym (after-empty c)) (subst (λ (e : Rows). Both c e m f base 0 n as_) (sym (after-empty d)) (record { means = means; means_too = too; lives = lives m at_moment; others = lives f at_other; above = above })))
        (subst (λ (e : Rows). AreParts e m base 0 n as_ plan.parts) (sym (after-empty c)) plan.plans) k key)
