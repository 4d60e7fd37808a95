-- A batch that tells of its keys is the step of a command that writes the metadata of keys and nothing else.
use Rattle.std.proofs.Common.{ℕ, ◌≡◌, refl, sym, ap, subst, ◌∙◌, Bool, true, false, cond, [], ◌∷◌, inl, inr}
use Rattle.std.proofs.lemmas.Bool.{not-false, and_right}
use Rattle.std.specs.Prelude.{Option, Some, None, Ok, Err, IsTrue, ◌&&◌, ◌||◌, ◌==◌, ◌≢◌}
use Rattle.kv_base.specs.Map.{Bytes, same, same_is, get, empty, get-empty}
use Rattle.kv_base.specs.InversionLaws.{number_is}
use Rattle.kv_base.specs.RawKeys.{is_key}
use Rattle.batch_codec.specs.Batches.{Batch}
use Rattle.redis_model.specs.declared.reply.Reply.{Reply}
use Rattle.redis_model.specs.declared.reply.Reply.TheVariants as reply
use Rattle.redis_model.specs.declared.reply.ReplyError.{ReplyError}
use Rattle.redis_model.specs.declared.command.Command.{Command}
use Rattle.redis_model.specs.Value.{Entry, RedisMap}
use Rattle.redis_model.specs.Outcome.{answered}
use Rattle.redis_model.specs.Keys.{among}
use Rattle.redis_model.specs.About.{keys_of}
use Rattle.redis_model.specs.Apply.{apply, carried_out}
use Rattle.redis_model.specs.Touched.{touched, is_touched, written_again, differs}
use Rattle.redis_model.specs.TouchedLaws.{among_touched_done, same_entry_decides}
use Rattle.redis_model.specs.Machine.{apply_alive}
use Rattle.lives_model.specs.Rows.{Rows, meta_key, row_key}
use Rattle.lives_model.specs.Means.{Means, LifeAt, row_of, has_life}
use Rattle.lives_model.specs.Plans.{changed, LeavesEntry, KeyPlan, IsStep, life_after, touches}
use Rattle.lives_model.specs.StepLaws.{applied, get-alive, changed_itself}
use Rattle.plan_base.specs.MetaRows.{HasOnlyMeta, meta_batch}
use Rattle.plan_base.specs.MetaRowLaws.{only_meta_empty, only_meta_one, meta_here, meta_elsewhere, only_meta_raw, only_meta_no_rows, only_meta_key}
use Rattle.plan_base.specs.KeySteps.{TellsKey, alive_entry, TellsKeys}

-- ---- what a command comes to

-- a command that is carried out answers and leaves what it comes to
pub apply_done : (m : RedisMap) (t : ℕ) (d : Command) (r : Reply × RedisMap) → carried_out m t d ≡ Ok r → apply m t d ≡ r
unfolding apply
apply_done m t d r is = ap (answered m) is

-- one that is not answers its error and leaves the map
pub apply_refused : (m : RedisMap) (t : ℕ) (d : Command) (e : ReplyError) → carried_out m t d ≡ Err e → apply m t d ≡ (reply.Error e, m)
unfolding apply
apply_refused m t d e is = ap (answered m) is

-- ---- many keys

-- where nothing differs a batch has no row
no_change : (h s : Bool) (old new : Option Bytes) → (h ≡ true → s ≡ true → old ≡ new) → cond (h && s) (changed old new) None ≡ None
no_change true true old new is = ap (changed old) (sym (is refl refl)) ∙ changed_itself old
no_change true false old new is = refl
no_change false s old new is = refl

-- what a batch tells of a key is what it has to leave there
leaves : (c : Rows) (t fresh : ℕ) (m : RedisMap) (d : Command) (b : Batch) (k : Bytes) (o : Option Entry) → HasOnlyMeta b → TellsKey c t fresh m d k (get b (meta_key k)) o → LeavesEntry c t fresh m d b k o
leaves c t fresh m d b k None only tells = record { meta = tells; rows = λ side version subkey h. only_meta_no_rows b only side k version subkey }
leaves c t fresh m d b k (Some e) only tells =
    let life : LifeAt = life_after c t fresh m d k e.value in
    record {
      expire = tells.expire;
      deadline = tells.deadline;
      fits = tells.fits;
      key = only_meta_key b only k _ tells.meta;
      scores = tells.scores;
      meta = tells.meta;
      rows = λ side version subkey h.
          only_meta_no_rows b only side k version subkey
          ∙ sym (no_change (has_life e.value) (version == life.version) (get c (row_key side k version subkey)) (row_of e.value life.head side subkey)
          (λ has same. subst (λ (v : ℕ). get c (row_key side k v subkey) ≡ row_of e.value life.head side subkey) (sym (number_is version life.version same)) (tells.rows has side subkey)));
    }

-- A batch that has at the metadata of each touched key what is there afterwards, and no other rows, is the command's step.
pub keys_step : {c : Rows} {t : ℕ} {m : RedisMap} (fresh : ℕ) (d : Command) (b : Batch) (answer : Reply) (n : RedisMap)
    → Means c t m → apply m t d ≡ (answer, n) → TellsKeys c t fresh m d n b → IsStep c t fresh m d b answer
keys_step {c} {t} {m} fresh d b answer n means is tells =
    record {
      reply = sym (ap (λ r. r.0) (applied c t m d means) ∙ ap (λ r. r.0) is);
      raw = only_meta_raw b tells.only;
      keys = λ k. by_test k (touches m t d k) refl;
    }
  where
    left : (k : Bytes) → get (apply_alive m t d).1 k ≡ alive_entry t (get n k)
    left k = ap (λ r. get r.1 k) (applied c t m d means) ∙ get-alive (apply m t d).1 t k ∙ ap (λ r. alive_entry t (get r.1 k)) is

    by_test : (k : Bytes) (touch : Bool) → touches m t d k ≡ touch → KeyPlan c t fresh m d b k
    by_test k true e = inr (e, leaves c t fresh m d b k (get (apply_alive m t d).1 k) tells.only (subst (TellsKey c t fresh m d k (get b (meta_key k))) (sym (left k)) (tells.told k e)))
    by_test k false e = inl (e, record { meta = tells.still k e; rows = λ side version subkey h short. only_meta_no_rows b tells.only side k version subkey })

-- ---- no key

-- a command that touches nothing writes nothing
pub idle_step : {c : Rows} {t : ℕ} {m : RedisMap} (fresh : ℕ) (d : Command) (answer : Reply)
    → Means c t m → touched m t d ≡ [] → answer ≡ (apply m t d).0 → IsStep c t fresh m d empty answer
idle_step {c} {t} {m} fresh d answer means none reply =
    keys_step fresh d empty answer (apply m t d).1 means (λ i. (sym reply i, (apply m t d).1))
    (record {
      only = only_meta_empty;
      told = λ k h. let no : touches m t d k ≡ false = ap (λ ks. among ks k) none in absurd (cc);
      still = λ k h. get-empty (meta_key k);
    })

-- ---- one key

-- the only key that is touched
pub touched_one : (m n : RedisMap) (t : ℕ) (d : Command) (k : Bytes) (answer : Reply) (q : Bytes) → carried_out m t d ≡ Ok (answer, n) → keys_of d ≡ k ∷ [] → IsTrue (is_touched m n d k) → touches m t d q ≡ same q k
touched_one m n t d k answer q is one touch =
    among_touched_done m t d (answer, n) q is
    ∙ ap (λ ks. is_touched m n d q && among ks q) one
    ∙ by_test (same q k) refl
  where
    by_test : (s : Bool) → same q k ≡ s → (is_touched m n d q && (s || false)) ≡ s
    by_test true e = ap (λ p. is_touched m n d p && true) (same_is q k e) ∙ ap (λ b. b && true) touch
    by_test false e = and_right (is_touched m n d q) false refl

-- A command with one key that it touches writes one row, the put of the key's metadata or the delete.
pub meta_step : {c : Rows} {t : ℕ} {m : RedisMap} (fresh : ℕ) (d : Command) (k : Bytes) (row : Option Bytes) (answer : Reply) (n : RedisMap)
    → Means c t m → carried_out m t d ≡ Ok (answer, n) → keys_of d ≡ k ∷ [] → IsTrue (is_key k) → IsTrue (is_touched m n d k)
    → TellsKey c t fresh m d k (Some row) (alive_entry t (get n k)) → IsStep c t fresh m d (meta_batch k row) answer
meta_step {c} {t} {m} fresh d k row answer n means is one short touch tells =
    keys_step fresh d (meta_batch k row) answer n means (apply_done m t d (answer, n) is)
    (record {
      only = only_meta_one k row short;
      told = λ q h.
          let here : q ≡ k = same_is q k (sym (touched_one m n t d k answer q is one touch) ∙ h) in
          subst (λ (p : Bytes). TellsKey c t fresh m d p (get (meta_batch k row) (meta_key p)) (alive_entry t (get n p))) (sym here)
          (subst (λ (x : Option (Option Bytes)). TellsKey c t fresh m d k x (alive_entry t (get n k))) (sym (meta_here k row)) tells);
      still = λ q h. meta_elsewhere k row q (sym (touched_one m n t d k answer q is one touch) ∙ h);
    })

-- ---- whether a key is touched

-- a key that a command writes again is touched
pub touched_again : (m n : RedisMap) (d : Command) (k : Bytes) → IsTrue (among (written_again m n d) k) → IsTrue (is_touched m n d k)
touched_again m n d k h = ap (λ b. b || differs m n k) h

-- so is one whose entry differs
pub touched_differs : (m n : RedisMap) (d : Command) (k : Bytes) → get m k ≢ get n k → IsTrue (is_touched m n d k)
touched_differs m n d k apart = by_test (among (written_again m n d) k) (differs m n k) refl
  where
    by_test : (a b : Bool) → differs m n k ≡ b → (a || b) ≡ true
    by_test true b e = refl
    by_test false true e = refl
    by_test false false e = absurd (apart ((same_entry_decides (get m k) (get n k)).0 (not-false _ e)))
