-- Parts of a plan at single keys make the step of a command that touches no other key, and how far such a plan looks ahead.
use Rattle.std.proofs.Common.{ℕ, ◌≡◌, refl, sym, ap, subst, ◌∙◌, Bool, true, false, cond, List, [], ◌∷◌, inl, inr, arith}
use Rattle.std.proofs.lemmas.Bool.{and_from}
use Rattle.std.proofs.lemmas.Bool.Decides.{nat_tests}
use Rattle.std.specs.Prelude.{◌⊎◌, ◌||◌, ◌&&◌, ◌==◌, not, nat_lt, Option, Some, None, Ok, Err, is_some, option_map, option_and_then, map, IsTrue, IsFalse, IsSome}
use Rattle.kv_base.specs.Map.{Bytes, same, same_is, same_itself, get, has, empty, insert, remove, get-empty, get-insert, get-remove}
use Rattle.kv_base.specs.InversionLaws.{number_is}
use Rattle.kv_base.specs.RawKeys.{is_key, is_version}
use Rattle.kv_base.specs.MetaValues.{MetaValue, LifeValue, is_deadline, is_size, is_meta_within, meta_text}
use Rattle.kv_base.specs.declared.kind.Kind.{Kind as Code}
use Rattle.batch_codec.specs.Batches.{Batch, joined, over}
use Rattle.batch_codec.specs.BatchLaws.{get-joined}
use Rattle.redis_model.specs.declared.reply.Reply.{Reply}
use Rattle.redis_model.specs.declared.reply.ReplyError.TheVariants.{TooLarge}
use Rattle.redis_model.specs.declared.command.Command.{Command}
use Rattle.redis_model.specs.declared.command.Command.TheVariants as cmd
use Rattle.redis_model.specs.Value.{Value, Entry, RedisMap, lives, deadline_at, max_size}
use Rattle.redis_model.specs.Outcome.{Kind, put, change}
use Rattle.redis_model.specs.Keys.{among}
use Rattle.redis_model.specs.About.{keys_of}
use Rattle.redis_model.specs.Apply.{apply, carried_out}
use Rattle.redis_model.specs.Touched.{is_touched, written_again, differs, if_there}
use Rattle.redis_model.specs.TouchedLaws.{touched_is_named, among_touched_done, same_entry_decides}
use Rattle.redis_model.specs.Machine.{apply_alive}
use Rattle.lives_model.specs.Rows.{Scores, Rows, meta_key, row_key}
use Rattle.lives_model.specs.RowKeys.{IsOfKey}
use Rattle.lives_model.specs.RowKeyLaws.{meta_key_is, row_key_is_no_meta_key, row_key_is}
use Rattle.lives_model.specs.Clean.{live_at}
use Rattle.lives_model.specs.Means.{Means, MeansAt, LifeAt, meta_for}
use Rattle.lives_model.specs.Moved.{head_after}
use Rattle.lives_model.specs.Plans.{IsPlanOf, IsStep, KeyPlan, LeavesEntry, WritesEntry, HasNoRows, least, least_above, deadlines, life_after, new_life, is_store, touches}
use Rattle.lives_model.specs.StepLaws.{applied, get-alive, version_fits, kept_some, stands_lives}
use Rattle.lives_model.specs.OwnKeyLaws.{no_row_of}
use Rattle.lives_model.specs.JoinedBatchLaws.{joined_some}
use Rattle.lives_model.specs.WrittenKeyLaws.{either_passed}
use Rattle.plan_base.specs.MetaRows.{expire_number, meta_batch}
use Rattle.plan_base.specs.MetaRowLaws.{deadline_is_back, only_meta_one, only_meta_raw, only_meta_no_rows, meta_here}
use Rattle.plan_base.specs.Ahead.{ahead, seen_deadlines}
use Rattle.plan_base.specs.AheadLaws.{least_none, least_itself, least_turned, least_grouped, sooner_is, least_above-append, seen_all}
use Rattle.plan_base.specs.Seen.{deadline_in}
use Rattle.plan_base.specs.SeenLaws.{seen_deadline}
use Rattle.plan_base.specs.KeyPlanLaws.{found_deadline_fits, live_is_found}
use Rattle.plan_base.specs.declared.life.LifeSight.{LifeSight}
use Rattle.plan_base.specs.KeySteps.{alive_entry}
use Rattle.plan_base.specs.KeyStepLaws.{apply_done}
use Rattle.plan_base.specs.Retimed.{KeepsLife}
use Rattle.plan_base.specs.Lives.{StandsAs, life_found}
use Rattle.plan_base.specs.LifeSteps.{IsInLife, WritesLife, life_on}
use Rattle.plan_base.specs.LifeStepLaws.{writes_entry, goes_on}
use Rattle.plan_base.specs.LifeChanges.{differing, WantsRows}
use Rattle.plan_base.specs.LifeChangeLaws.{writes_life}
use Rattle.life_plans.specs.ChangePlans.{HasElements, life_text}
use Rattle.life_plans.specs.KeyParts.{PlansKey, Puts, LeavesDeadline}

-- ---- which keys are touched

-- a key that a command does not name is not touched
pub unnamed_stays : (m : RedisMap) (t : ℕ) (d : Command) (q : Bytes) → IsFalse (among (keys_of d) q) → IsFalse (touches m t d q)
unnamed_stays m t d q unnamed = by_test (touches m t d q) refl
  where
    by_test : (b : Bool) → touches m t d q ≡ b → b ≡ false
    by_test true e = let named = touched_is_named m t d q e in absurd (cc)
    by_test false e = refl

-- so no second one where a command names one
pub no_second_touched : (m : RedisMap) (t : ℕ) (d : Command) (k q : Bytes) → keys_of d ≡ k ∷ [] → same q k ≡ false → IsFalse (touches m t d q)
no_second_touched m t d k q one apart = unnamed_stays m t d q (ap (λ ks. among ks q) one ∙ ap (λ s. s || false) apart)

-- and no third one where it names two
pub no_third_touched : (m : RedisMap) (t : ℕ) (d : Command) (a b q : Bytes) → keys_of d ≡ a ∷ b ∷ [] → same q a ≡ false → same q b ≡ false → IsFalse (touches m t d q)
no_third_touched m t d a b q two apart other = unnamed_stays m t d q (ap (λ ks. among ks q) two ∙ (λ i. apart i || (other i || false)))

-- a command that is carried out touches no key that it neither writes again nor gives another entry
pub unchanged_stays : (m n : RedisMap) (t : ℕ) (d : Command) (answer : Reply) (q : Bytes) → carried_out m t d ≡ Ok (answer, n) → IsFalse (among (written_again m n d) q) → get m q ≡ get n q → IsFalse (touches m t d q)
unchanged_stays m n t d answer q is again still =
    among_touched_done m t d (answer, n) q is
    ∙ ap (λ a. (a || differs m n q) && among (keys_of d) q) again
    ∙ ap (λ s. not s && among (keys_of d) q) ((same_entry_decides (get m q) (get n q)).1 still)

-- and a key that it names, and changes or writes again, is touched
pub named_is_touched : (m n : RedisMap) (t : ℕ) (d : Command) (answer : Reply) (k : Bytes) → carried_out m t d ≡ Ok (answer, n) → IsTrue (among (keys_of d) k) → IsTrue (is_touched m n d k) → IsTrue (touches m t d k)
named_is_touched m n t d answer k is named touch = among_touched_done m t d (answer, n) k is ∙ (λ i. touch i && named i)

-- a key that is written again where it is there is no other one
pub if_there_elsewhere : (n : RedisMap) (k q : Bytes) → same q k ≡ false → IsFalse (among (if_there n k) q)
if_there_elsewhere n k q apart = by_test (has n k)
  where
    by_test : (b : Bool) → among (cond b (k ∷ []) []) q ≡ false
    by_test true = ap (λ s. s || false) apart
    by_test false = refl

-- ---- what a command leaves

-- one that is carried out answers what it comes to
pub done_reply : (m n : RedisMap) (t : ℕ) (d : Command) (answer : Reply) → carried_out m t d ≡ Ok (answer, n) → answer ≡ (apply m t d).0
done_reply m n t d answer is = sym (ap (λ r. r.0) (apply_done m t d (answer, n) is))

module _ {c : Rows} {t : ℕ} {m : RedisMap} (means : Means c t m) (n : RedisMap) (d : Command) (answer : Reply) (is : carried_out m t d ≡ Ok (answer, n)) (k : Bytes) where
  -- what stands at a key afterwards
  left_at : get (apply_alive m t d).1 k ≡ alive_entry t (get n k)
  left_at = ap (λ r. get r.1 k) (applied c t m d means) ∙ get-alive (apply m t d).1 t k ∙ ap (λ r. alive_entry t (get r.1 k)) (apply_done m t d (answer, n) is)

  -- an entry that has not expired
  pub left_there : (e : Entry) → get n k ≡ Some e → IsTrue (lives t e.deadline) → get (apply_alive m t d).1 k ≡ Some e
  left_there e there on = left_at ∙ ap (alive_entry t) there ∙ kept_some (λ x. lives t x.deadline) e on

  -- or nothing
  pub left_gone : get n k ≡ None → get (apply_alive m t d).1 k ≡ None
  left_gone gone = left_at ∙ ap (alive_entry t) gone

-- the deadline of a key has not come
pub found_deadline_lives : {c : Rows} {t : ℕ} {m : RedisMap} (means : Means c t m) (k : Bytes) → IsTrue (lives t (deadline_at m k))
found_deadline_lives {c} {t} {m} means k = by_entry (get m k) (means.stands k)
  where
    by_entry : (o : Option Entry) → MeansAt c t k o → lives t (option_and_then (λ e. e.deadline) o) ≡ true
    by_entry None s = refl
    by_entry (Some e) s = stands_lives c t k e s

-- a form that stores its result begins a new life
pub stores_anew : (c : Rows) (t fresh : ℕ) (m : RedisMap) (d : Command) (k : Bytes) (v : Value) → IsTrue (is_store d) → life_after c t fresh m d k v ≡ new_life fresh
unfolding life_after head_after
stores_anew c t fresh m (cmd.SInterStore dest ks w) k v h = refl
stores_anew c t fresh m (cmd.SUnionStore dest ks w) k v h = refl
stores_anew c t fresh m (cmd.SDiffStore dest ks w) k v h = refl
stores_anew c t fresh m _ k v h = absurd (cc)

-- ---- parts

module _ {c : Rows} {t fresh : ℕ} {m : RedisMap} {d : Command} (k : Bytes) (short : IsTrue (is_key k)) where
  -- a key at which the command leaves a collection, of whose life the rows that differ are written
  pub writes_part : {b : Batch} {e : Entry} {life : LifeAt} {expire : ℕ} → IsTrue (touches m t d k) → get (apply_alive m t d).1 k ≡ Some e → life_after c t fresh m d k e.value ≡ life
      → WritesLife c b k e life expire → PlansKey c t fresh m d b k
  writes_part {b} {e} {life} {expire} touch there goes w = record {
    short = short;
    own = λ raw some. of_key raw (w.only raw some);
    raw = w.raw;
    plan = inr (touch, subst (LeavesEntry c t fresh m d b k) (sym there) (subst (WritesEntry c b k e) (sym goes) (writes_entry w short)));
  }
    where
      of_key : (raw : Bytes) → (raw ≡ meta_key k) ⊎ IsInLife k life.version raw → IsOfKey k raw
      of_key raw (inl is) = inl is
      of_key raw (inr r) = inr (record { side = r.side; version = life.version; subkey = r.subkey; fits = version_fits e.value life expire w.collection w.fits; is = r.is })

  -- a key that is gone afterwards: its metadata is deleted, and its rows are left for the filter
  pub gone_part : IsTrue (touches m t d k) → get (apply_alive m t d).1 k ≡ None → PlansKey c t fresh m d (meta_batch k None) k
  gone_part touch gone = record {
    short = short;
    own = λ raw some. by_test raw (same raw (meta_key k)) refl some;
    raw = only_meta_raw (meta_batch k None) (only_meta_one k None short);
    plan = inr (
      touch,
      subst (LeavesEntry c t fresh m d (meta_batch k None) k) (sym gone) (record {
        meta = meta_here k None;
        rows = λ side version subkey fits. only_meta_no_rows (meta_batch k None) (only_meta_one k None short) side k version subkey;
      }),
    );
  }
    where
      by_test : (raw : Bytes) (s : Bool) → same raw (meta_key k) ≡ s → IsSome (get (meta_batch k None) raw) → IsOfKey k raw
      by_test raw true e some = inl (same_is raw (meta_key k) e)
      by_test raw false e some =
          let none : is_some (get (meta_batch k None) raw) ≡ false = ap is_some (get-insert empty (meta_key k) None raw ∙ ap (λ s. cond s (Some None) (get empty raw)) e ∙ get-empty raw) in
          absurd (cc)

  -- a key that is not touched
  pub still_part : IsFalse (touches m t d k) → PlansKey c t fresh m d empty k
  still_part off = record {
    short = short;
    own = λ raw some. absurd (nothing raw some);
    raw = λ raw some. absurd (nothing raw some);
    plan = inl (off, record { meta = get-empty (meta_key k); rows = λ side version subkey fits low. get-empty (row_key side k version subkey) });
  }
    where
      nothing : (raw : Bytes) → IsSome (get (empty {X = Option Bytes}) raw) → ⊥
      nothing raw some = let none : is_some (get (empty {X = Option Bytes}) raw) ≡ false = ap is_some (get-empty raw) in cc

-- ---- a collection that is changed

-- a size that is neither too large nor 0 fits metadata
size_fits : (n : ℕ) → nat_lt max_size n ≡ false → (n == 0) ≡ false → IsTrue (is_size n)
size_fits n small filled = grind (arith, nat_tests)

-- The metadata of a collection, with the rows of its elements that differ, writes its life, where the batch wants the rows of
-- the collection and none stand on the side of scores.
pub changes_life : {A : Type 0} {kind : Kind A} {code : Code} {row : A → Bytes → Option Bytes} → StandsAs kind code row → HasElements kind row
    → (c : Rows) (t : ℕ) (k : Bytes) (life : LifeAt) (a : A) (deadline : Option ℕ) (wanted : Batch) → IsTrue (is_key k) → IsTrue (is_version life.version)
    → IsTrue (lives t deadline) → IsTrue (is_deadline (expire_number deadline)) → nat_lt max_size (kind.count a) ≡ false → (kind.count a == 0) ≡ false
    → WantsRows c k life.version wanted (row a) → ((subkey : Bytes) → get c (row_key Scores k life.version subkey) ≡ None)
    → WritesLife c (insert (differing c wanted) (meta_key k) (Some (life_text code deadline life.version (kind.count a)))) k (record { value = kind.value_of a; deadline = deadline }) life (expire_number deadline)
unfolding is_meta_within
changes_life {kind = kind} {code = code} {row = row} stands has c t k life a deadline wanted short version on due small filled w none =
    let meta : meta_for (kind.value_of a) life (expire_number deadline) ≡ LifeValue code (expire_number deadline) life.version (kind.count a) = stands.meta a life (expire_number deadline) in
    let whole : is_meta_within (LifeValue code (expire_number deadline) life.version (kind.count a)) ≡ true =
    and_from (is_deadline (expire_number deadline) && is_version life.version) (is_size (kind.count a)) (and_from (is_deadline (expire_number deadline)) (is_version life.version) due version) (size_fits (kind.count a) small filled) in
    subst (λ (v : MetaValue). WritesLife c (insert (differing c wanted) (meta_key k) (Some (meta_text v))) k (record { value = kind.value_of a; deadline = deadline }) life (expire_number deadline)) meta
    (writes_life c k (record { value = kind.value_of a; deadline = deadline }) life (expire_number deadline) wanted (row a) short (deadline_is_back t deadline on) (ap is_meta_within meta ∙ whole)
    (has.scores a) (stands.life a) w (stands.rows a life.head) none (has.no_scores a life.head))

-- A key at which a command that is carried out leaves the collection that it makes of the one there: its metadata, and the rows
-- that differ, in the life that goes on or begins.
pub changed_part : {A : Type 0} {kind : Kind A} {code : Code} {row : A → Bytes → Option Bytes} (stands : StandsAs kind code row) (has : HasElements kind row)
    {c : Rows} {t : ℕ} {m : RedisMap} (means : Means c t m) (fresh : ℕ) (n : RedisMap) (d : Command) (answer : Reply) (is : carried_out m t d ≡ Ok (answer, n))
    (k : Bytes) (short : IsTrue (is_key k)) (keeps : KeepsLife m d k) (found : Option LifeSight) (a : A) (wanted : Batch)
    → IsTrue (touches m t d k) → get n k ≡ Some (record { value = kind.value_of a; deadline = deadline_at m k }) → nat_lt max_size (kind.count a) ≡ false → (kind.count a == 0) ≡ false
    → life_found code (live_at c t k) ≡ Ok found → IsTrue (is_version (life_on fresh found).version)
    → WantsRows c k (life_on fresh found).version wanted (row a) → ((subkey : Bytes) → get c (row_key Scores k (life_on fresh found).version subkey) ≡ None)
    → PlansKey c t fresh m d (insert (differing c wanted) (meta_key k) (Some (life_text code (deadline_in (live_at c t k)) (life_on fresh found).version (kind.count a)))) k
changed_part {kind = kind} {code = code} stands has {c = c} {t = t} {m = m} means fresh n d answer is k short keeps found a wanted touch there small filled life version w none =
    writes_part k short touch
    (left_there means n d answer is k (record { value = kind.value_of a; deadline = deadline_at m k }) there (found_deadline_lives means k)
    ∙ ap (λ dl. Some (record { value = kind.value_of a; deadline = dl })) (seen_deadline means k))
    (goes_on stands fresh d k found a means keeps life)
    (changes_life stands has c t k (life_on fresh found) a (deadline_in (live_at c t k)) wanted short version
    (ap (lives t) (sym (seen_deadline means k)) ∙ found_deadline_lives means k) (found_deadline_fits (live_at c t k) (live_is_found c t k)) small filled w none)

-- ---- batches of one key

-- two keys of one raw key are equal
same_key : (k q raw : Bytes) → IsTrue (is_key k) → IsTrue (is_key q) → IsOfKey k raw → IsOfKey q raw → q ≡ k
same_key k q raw hk hq (inl is) (inl at) = meta_key_is q k (sym at ∙ is)
same_key k q raw hk hq (inl is) (inr row) = absurd (row_key_is_no_meta_key row.side q row.version row.subkey k (sym row.is ∙ is))
same_key k q raw hk hq (inr row) (inl at) = absurd (row_key_is_no_meta_key row.side k row.version row.subkey q (sym row.is ∙ at))
same_key k q raw hk hq (inr row) (inr r) = (row_key_is r.side row.side q k r.version row.version r.subkey row.subkey hq hk r.fits row.fits (sym r.is ∙ row.is)).key_is

-- a batch with rows of one key has none of another one
own_elsewhere : (b : Batch) (k q : Bytes) → IsTrue (is_key k) → ((raw : Bytes) → IsSome (get b raw) → IsOfKey k raw) → same q k ≡ false → HasNoRows b q
own_elsewhere b k q short own apart = record {
  meta = by_meta (get b (meta_key q)) refl;
  rows = λ side version subkey fits low. by_row (row_key side q version subkey) (inr (record { side = side; version = version; subkey = subkey; fits = fits; is = refl })) low (get b (row_key side q version subkey)) refl;
}
  where
    never : q ≡ k → ⊥
    never is = let yes : same q k ≡ true = subst (λ (x : Bytes). same q x ≡ true) is (same_itself q) in cc

    by_meta : (o : Option (Option Bytes)) → get b (meta_key q) ≡ o → o ≡ None
    by_meta None is = refl
    by_meta (Some x) is = by_place (own (meta_key q) (ap is_some is))
      where
        by_place : IsOfKey k (meta_key q) → Some x ≡ None
        by_place (inl e) = absurd (never (meta_key_is q k e))
        by_place (inr row) = absurd (row_key_is_no_meta_key row.side k row.version row.subkey q (sym row.is))

    by_row : (raw : Bytes) → IsOfKey q raw → IsTrue (is_key q) → (o : Option (Option Bytes)) → get b raw ≡ o → o ≡ None
    by_row raw of low None is = refl
    by_row raw of low (Some x) is = absurd (never (same_key k q raw short low (own raw (ap is_some is)) of))

-- a batch that has the same rows of a key does the same there
key_plan_same : (c : Rows) (t fresh : ℕ) (m : RedisMap) (d : Command) (b other : Batch) (k : Bytes) → ((raw : Bytes) → IsOfKey k raw → get other raw ≡ get b raw)
    → KeyPlan c t fresh m d b k → KeyPlan c t fresh m d other k
key_plan_same c t fresh m d b other k alike (inl p) = inl (
  p.0,
  record {
    meta = alike (meta_key k) (inl refl) ∙ p.1.meta;
    rows = λ side version subkey fits low. alike (row_key side k version subkey) (inr (record { side = side; version = version; subkey = subkey; fits = fits; is = refl })) ∙ p.1.rows side version subkey fits low;
  },
)
key_plan_same c t fresh m d b other k alike (inr p) = inr (p.0, by_entry (get (apply_alive m t d).1 k) p.1)
  where
    by_entry : (o : Option Entry) → LeavesEntry c t fresh m d b k o → LeavesEntry c t fresh m d other k o
    by_entry None l = record {
      meta = alike (meta_key k) (inl refl) ∙ l.meta;
      rows = λ side version subkey fits. alike (row_key side k version subkey) (inr (record { side = side; version = version; subkey = subkey; fits = fits; is = refl })) ∙ l.rows side version subkey fits;
    }
    by_entry (Some e) l = record {
      expire = l.expire;
      deadline = l.deadline;
      fits = l.fits;
      key = l.key;
      scores = l.scores;
      meta = alike (meta_key k) (inl refl) ∙ l.meta;
      rows = λ side version subkey fits. alike (row_key side k version subkey) (inr (record { side = side; version = version; subkey = subkey; fits = fits; is = refl })) ∙ l.rows side version subkey fits;
    }

-- what stands in a joined batch where the later one has nothing
earlier_alone : (b later : Batch) (raw : Bytes) → get later raw ≡ None → get (joined b later) raw ≡ get b raw
earlier_alone b later raw none = get-joined b later raw ∙ ap (λ o. over (option_map (λ x. Some x) o) (get b raw)) none

-- and where the earlier one has nothing
later_alone : (b later : Batch) (raw : Bytes) → get b raw ≡ None → get (joined b later) raw ≡ get later raw
later_alone b later raw none = get-joined b later raw ∙ ap (over (option_map (λ x. Some x) (get later raw))) none ∙ on_nothing (get later raw)
  where
    on_nothing : {X : Type 0} (o : Option X) → over (option_map (λ x. Some x) o) None ≡ o
    on_nothing None = refl
    on_nothing (Some x) = refl

-- ---- the step

-- the reply of a step is the one of its command
step_reply : {c : Rows} {t : ℕ} {m : RedisMap} (means : Means c t m) (d : Command) (answer : Reply) → answer ≡ (apply m t d).0 → answer ≡ (apply_alive m t d).0
step_reply {c} {t} {m} means d answer is = is ∙ sym (ap (λ r. r.0) (applied c t m d means))

-- A part at one key is the step of a command that touches no other key.
pub one_key_step : {c : Rows} {t : ℕ} {m : RedisMap} (fresh : ℕ) (d : Command) (k : Bytes) (b : Batch) (answer : Reply)
    → Means c t m → answer ≡ (apply m t d).0 → PlansKey c t fresh m d b k → ((q : Bytes) → same q k ≡ false → IsFalse (touches m t d q)) → IsStep c t fresh m d b answer
one_key_step {c} {t} {m} fresh d k b answer means is part elsewhere = record {
  reply = step_reply means d answer is;
  raw = part.raw;
  keys = λ q. by_test q (same q k) refl;
}
  where
    by_test : (q : Bytes) (s : Bool) → same q k ≡ s → KeyPlan c t fresh m d b q
    by_test q true e = subst (KeyPlan c t fresh m d b) (sym (same_is q k e)) part.plan
    by_test q false e = inl (elsewhere q e, own_elsewhere b k q part.short part.own e)

-- Parts at two keys together are the step of a command that touches no third key.
pub two_keys_step : {c : Rows} {t : ℕ} {m : RedisMap} (fresh : ℕ) (d : Command) (one two : Bytes) (b later : Batch) (answer : Reply)
    → Means c t m → answer ≡ (apply m t d).0 → same one two ≡ false → PlansKey c t fresh m d b one → PlansKey c t fresh m d later two
    → ((q : Bytes) → same q one ≡ false → same q two ≡ false → IsFalse (touches m t d q)) → IsStep c t fresh m d (joined b later) answer
two_keys_step {c} {t} {m} fresh d one two b later answer means is apart part other elsewhere = record {
  reply = step_reply means d answer is;
  raw = λ raw some. either_passed (is_some (get later raw)) (is_some (get b raw)) (sym (joined_some b later raw) ∙ some) (other.raw raw) (part.raw raw);
  keys = λ q. by_tests q (same q one) (same q two) refl refl;
}
  where
    turned : (s : Bool) → same two one ≡ s → s ≡ false
    turned true e = let yes : same one two ≡ true = ap (same one) (same_is two one e) ∙ same_itself one in absurd (cc)
    turned false e = refl

    at_one : KeyPlan c t fresh m d (joined b later) one
    at_one =
        key_plan_same c t fresh m d b (joined b later) one
        (λ raw of. earlier_alone b later raw (no_row_of later one raw (own_elsewhere later two one other.short other.own apart) part.short of)) part.plan

    at_two : KeyPlan c t fresh m d (joined b later) two
    at_two =
        key_plan_same c t fresh m d later (joined b later) two
        (λ raw of. later_alone b later raw (no_row_of b two raw (own_elsewhere b one two part.short part.own (turned (same two one) refl)) other.short of)) other.plan

    neither : (q : Bytes) → same q one ≡ false → same q two ≡ false → HasNoRows (joined b later) q
    neither q e f =
        let first = own_elsewhere b one q part.short part.own e in
        let second = own_elsewhere later two q other.short other.own f in
        record {
          meta = earlier_alone b later (meta_key q) second.meta ∙ first.meta;
          rows = λ side version subkey fits low. earlier_alone b later (row_key side q version subkey) (second.rows side version subkey fits low) ∙ first.rows side version subkey fits low;
        }

    by_tests : (q : Bytes) (s u : Bool) → same q one ≡ s → same q two ≡ u → KeyPlan c t fresh m d (joined b later) q
    by_tests q true u e f = subst (KeyPlan c t fresh m d (joined b later)) (sym (same_is q one e)) at_one
    by_tests q false true e f = subst (KeyPlan c t fresh m d (joined b later)) (sym (same_is q two f)) at_two
    by_tests q false false e f = inl (elsewhere q e f, neither q e f)

-- ---- how far ahead

-- of two and two, whichever are put together first
exchanged : (a b p q : Option ℕ) → least (least a b) (least p q) ≡ least (least a p) (least b q)
exchanged a b p q =
    least_grouped a b (least p q)
    ∙ ap (least a) (sym (least_grouped b p q) ∙ ap (λ u. least u q) (least_turned b p) ∙ least_grouped p b q)
    ∙ sym (least_grouped a p (least b q))

-- a deadline beside itself, or beside none
beside_itself : (t : ℕ) (d e : Option ℕ) → (e ≡ d) ⊎ (e ≡ None) → least (ahead t d) (ahead t e) ≡ ahead t d
beside_itself t d e (inl is) = ap (λ u. least (ahead t d) (ahead t u)) is ∙ least_itself (ahead t d)
beside_itself t d e (inr none) = ap (λ u. least (ahead t d) (ahead t u)) none ∙ least_none (ahead t d)

-- the deadlines of keys, and those afterwards, which are the same or none
still_ahead : (t : ℕ) (f g : Bytes → Option ℕ) (ks : List Bytes) → ((k : Bytes) → IsTrue (among ks k) → (g k ≡ f k) ⊎ (g k ≡ None))
    → least (least_above t (map f ks)) (least_above t (map g ks)) ≡ least_above t (map f ks)
still_ahead t f g [] left = refl
still_ahead t f g (k ∷ ks) left =
    (λ i. least (sooner_is t (f k) (least_above t (map f ks)) i) (sooner_is t (g k) (least_above t (map g ks)) i))
    ∙ exchanged (ahead t (f k)) (least_above t (map f ks)) (ahead t (g k)) (least_above t (map g ks))
    ∙ (λ i. least (beside_itself t (f k) (g k) first i) (still_ahead t f g ks rest i))
    ∙ sym (sooner_is t (f k) (least_above t (map f ks)))
  where
    first : (g k ≡ f k) ⊎ (g k ≡ None)
    first = left k (ap (λ b. b || among ks k) (same_itself k))

    or_second : (a b : Bool) → b ≡ true → (a || b) ≡ true
    or_second true b e = refl
    or_second false b e = e

    rest : (q : Bytes) → IsTrue (among ks q) → (g q ≡ f q) ⊎ (g q ≡ None)
    rest q h = left q (or_second (same q k) (among ks q) h)

-- A command after which each of its keys has the deadline that it had, or none, looks ahead to the deadlines that it finds.
pub ahead_left : {c : Rows} {t : ℕ} {m : RedisMap} (means : Means c t m) (d : Command) → ((k : Bytes) → IsTrue (among (keys_of d) k) → LeavesDeadline m (apply m t d).1 k)
    → least_above t (seen_deadlines c t (keys_of d)) ≡ least_above t (deadlines m t d)
ahead_left {c} {t} {m} means d left =
    ap (least_above t) (sym (seen_all means (keys_of d)))
    ∙ sym (still_ahead t (deadline_at m) (deadline_at (apply m t d).1) (keys_of d) left)
    ∙ sym (least_above-append t (map (deadline_at m) (keys_of d)) (map (deadline_at (apply m t d).1) (keys_of d)))

-- the same of one that is carried out
pub ahead_left_done : {c : Rows} {t : ℕ} {m : RedisMap} (means : Means c t m) (n : RedisMap) (d : Command) (answer : Reply) → carried_out m t d ≡ Ok (answer, n)
    → ((k : Bytes) → IsTrue (among (keys_of d) k) → LeavesDeadline m n k) → least_above t (seen_deadlines c t (keys_of d)) ≡ least_above t (deadlines m t d)
ahead_left_done {c} {t} {m} means n d answer is left =
    ahead_left means d (λ k named. subst (λ (o : RedisMap). LeavesDeadline m o k) (sym (ap (λ r. r.1) (apply_done m t d (answer, n) is))) (left k named))

-- ---- deadlines that stay or go

-- one change after another
pub leaves_then : (m n o : RedisMap) (k : Bytes) → LeavesDeadline m n k → LeavesDeadline n o k → LeavesDeadline m o k
leaves_then m n o k (inl e) (inl f) = inl (f ∙ e)
leaves_then m n o k (inr e) (inl f) = inr (f ∙ e)
leaves_then m n o k first (inr f) = inr f

module _ {A : Type 0} (kind : Kind A) where
  -- what is put at a key, where it can be put there
  pub put_is : (m n : RedisMap) (k : Bytes) (a : A) (dl : Option ℕ) → put kind m k a dl ≡ Ok n → Puts kind m k a dl n
  put_is m n k a dl is = by_tests (nat_lt max_size (kind.count a)) (kind.count a == 0) refl refl is
    where
      by_tests : (large none : Bool) → nat_lt max_size (kind.count a) ≡ large → (kind.count a == 0) ≡ none
          → cond large (Err TooLarge) (cond none (Ok (remove m k)) (Ok (insert m k (record { value = kind.value_of a; deadline = dl })))) ≡ Ok n
          → Puts kind m k a dl n
      by_tests true none e f h = absurd (cc)
      by_tests false true e f h = inl (number_is (kind.count a) 0 f, cc)
      by_tests false false e f h = inr (f, e, cc)

  -- what the key holds then
  pub put_at : (m n : RedisMap) (k : Bytes) (a : A) (dl : Option ℕ) → Puts kind m k a dl n → get n k ≡ cond (kind.count a == 0) None (Some (record { value = kind.value_of a; deadline = dl }))
  put_at m n k a dl (inl p) =
      ap (λ (o : RedisMap). get o k) p.1 ∙ get-remove m k k ∙ ap (λ s. cond s None (get m k)) (same_itself k)
      ∙ sym (ap (λ z. cond (z == 0) None (Some (record { value = kind.value_of a; deadline = dl }))) p.0)
  put_at m n k a dl (inr p) =
      ap (λ (o : RedisMap). get o k) p.2 ∙ get-insert m k (record { value = kind.value_of a; deadline = dl }) k ∙ ap (λ s. cond s (Some (record { value = kind.value_of a; deadline = dl })) (get m k)) (same_itself k)
      ∙ sym (ap (λ s. cond s None (Some (record { value = kind.value_of a; deadline = dl }))) p.0)

  -- the other keys stay
  pub put_elsewhere : (m n : RedisMap) (k : Bytes) (a : A) (dl : Option ℕ) (q : Bytes) → Puts kind m k a dl n → same q k ≡ false → get n q ≡ get m q
  put_elsewhere m n k a dl q (inl p) apart = ap (λ (o : RedisMap). get o q) p.1 ∙ get-remove m k q ∙ ap (λ s. cond s None (get m q)) apart
  put_elsewhere m n k a dl q (inr p) apart =
      ap (λ (o : RedisMap). get o q) p.2 ∙ get-insert m k (record { value = kind.value_of a; deadline = dl }) q ∙ ap (λ s. cond s (Some (record { value = kind.value_of a; deadline = dl })) (get m q)) apart

  -- What is put with the deadline that its key had, or with none, leaves each key its deadline, or none.
  pub put_leaves : (m n : RedisMap) (k : Bytes) (a : A) (dl : Option ℕ) (q : Bytes) → Puts kind m k a dl n → (dl ≡ deadline_at m k) ⊎ (dl ≡ None) → LeavesDeadline m n q
  put_leaves m n k a dl q puts old_or_none = by_test (same q k) refl
    where
      there : same q k ≡ true → Puts kind m k a dl n → LeavesDeadline m n q
      there e (inl p) = inr (ap (option_and_then (λ x. x.deadline)) (ap (λ (o : RedisMap). get o q) p.1 ∙ get-remove m k q ∙ ap (λ s. cond s None (get m q)) e))
      there e (inr p) = by_deadline old_or_none
        where
          new : deadline_at n q ≡ dl
          new =
              ap (option_and_then (λ x. x.deadline))
              (ap (λ (o : RedisMap). get o q) p.2 ∙ get-insert m k (record { value = kind.value_of a; deadline = dl }) q ∙ ap (λ s. cond s (Some (record { value = kind.value_of a; deadline = dl })) (get m q)) e)

          by_deadline : (dl ≡ deadline_at m k) ⊎ (dl ≡ None) → LeavesDeadline m n q
          by_deadline (inl old) = inl (new ∙ old ∙ ap (deadline_at m) (sym (same_is q k e)))
          by_deadline (inr none) = inr (new ∙ none)

      by_test : (s : Bool) → same q k ≡ s → LeavesDeadline m n q
      by_test true e = there e puts
      by_test false e = inl (ap (option_and_then (λ x. x.deadline)) (put_elsewhere m n k a dl q puts e))

  -- so does what a collection becomes
  pub change_leaves : (m n : RedisMap) (k : Bytes) (a : A) (q : Bytes) → change kind m k a ≡ Ok n → LeavesDeadline m n q
  change_leaves m n k a q is = put_leaves m n k a (deadline_at m k) q (put_is m n k a (deadline_at m k) is) (inl refl)

-- ---- the plan

-- A command that touches one of its keys, and leaves each of them the deadline that it had or none.
pub one_key_plan : {c : Rows} {t : ℕ} {m : RedisMap} (fresh : ℕ) (d : Command) (k : Bytes) (b : Batch) (answer : Reply) (n : RedisMap)
    → Means c t m → carried_out m t d ≡ Ok (answer, n) → PlansKey c t fresh m d b k → ((q : Bytes) → same q k ≡ false → IsFalse (touches m t d q))
    → ((q : Bytes) → IsTrue (among (keys_of d) q) → LeavesDeadline m n q) → IsPlanOf c t fresh m d b answer (least_above t (seen_deadlines c t (keys_of d)))
one_key_plan {c} {t} {m} fresh d k b answer n means is part elsewhere left = record {
  step = one_key_step fresh d k b answer means (done_reply m n t d answer is) part elsewhere;
  ahead = ahead_left_done means n d answer is left;
}

-- A command that touches both of its keys or one of them, and leaves each the deadline that it had or none.
pub two_keys_plan : {c : Rows} {t : ℕ} {m : RedisMap} (fresh : ℕ) (d : Command) (one two : Bytes) (b later : Batch) (answer : Reply) (n : RedisMap)
    → Means c t m → carried_out m t d ≡ Ok (answer, n) → keys_of d ≡ one ∷ two ∷ [] → same one two ≡ false → PlansKey c t fresh m d b one → PlansKey c t fresh m d later two
    → ((q : Bytes) → IsTrue (among (keys_of d) q) → LeavesDeadline m n q) → IsPlanOf c t fresh m d (joined b later) answer (least_above t (seen_deadlines c t (keys_of d)))
two_keys_plan {c} {t} {m} fresh d one two b later answer n means is both apart part other left = record {
  step = two_keys_step fresh d one two b later answer means (done_reply m n t d answer is) apart part other (λ q e f. no_third_touched m t d one two q both e f);
  ahead = ahead_left_done means n d answer is left;
}
