-- The plan of a command that changes the collection at its only key.
use Rattle.std.proofs.Common.{ℕ, ◌≡◌, ◌<◌, refl, sym, ap, subst, ◌∙◌, Bool, true, false, cond, [], ◌∷◌, arith}
use Rattle.std.proofs.lemmas.Bool.{and_from}
use Rattle.std.proofs.lemmas.Bool.Decides.{nat_tests}
use Rattle.std.specs.Prelude.{Option, Some, None, Ok, Err, IsTrue, not, ◌&&◌, ◌||◌, ◌==◌, nat_lt, filter, option_and_then}
use Rattle.kv_base.specs.Map.{Bytes, same, same_is, same_itself, kept, get, empty, insert, remove, size, get-empty, get-insert, get-keep, same_map}
use Rattle.kv_base.specs.InversionLaws.{number_is}
use Rattle.kv_base.specs.RawKeys.{is_key, is_version}
use Rattle.kv_base.specs.MetaValues.{MetaValue, LifeValue, is_deadline, is_size, is_meta_within, meta_text}
use Rattle.kv_base.specs.declared.kind.Kind.{Kind as Code}
use Rattle.batch_codec.specs.Batches.{Batch, over}
use Rattle.redis_model.specs.declared.reply.Reply.{Reply}
use Rattle.redis_model.specs.declared.reply.Reply.TheVariants as reply
use Rattle.redis_model.specs.declared.reply.ReplyError.{ReplyError}
use Rattle.redis_model.specs.declared.reply.ReplyError.TheVariants.{TooLarge}
use Rattle.redis_model.specs.declared.command.Command.{Command}
use Rattle.redis_model.specs.declared.command.Cmds.TheVariants.{One}
use Rattle.redis_model.specs.Value.{Value, Entry, RedisMap, lives, max_size}
use Rattle.redis_model.specs.Outcome.{Outcome, ◌>>=◌, Kind, seen, at_key, put, change}
use Rattle.redis_model.specs.Keys.{among}
use Rattle.redis_model.specs.About.{keys_of}
use Rattle.redis_model.specs.Apply.{carried_out}
use Rattle.redis_model.specs.Touched.{touched, touched_by, once, is_touched, written_again, differs}
use Rattle.redis_model.specs.TouchedLaws.{same_entry_decides}
use Rattle.lives_model.specs.declared.plan.Plan.{Plan}
use Rattle.lives_model.specs.Rows.{Rows, Elements, Scores, meta_key, row_key}
use Rattle.lives_model.specs.Clean.{live_at}
use Rattle.lives_model.specs.Means.{Means, MeansAt, LifeAt, meta_for, row_of}
use Rattle.lives_model.specs.OwnKeyLaws.{no_size, empty_is}
use Rattle.lives_model.specs.Plans.{IsPlan, IsPlanOf, IsReady, IsFresh, same_row, least_above}
use Rattle.lives_model.specs.StepLaws.{over_changed, same_row_itself, stands_lives}
use Rattle.plan_base.specs.declared.life.LifeSight.{LifeSight}
use Rattle.plan_base.specs.Seen.{deadline_in}
use Rattle.plan_base.specs.SeenLaws.{seen_deadline}
use Rattle.plan_base.specs.MetaRows.{expire_number}
use Rattle.plan_base.specs.MetaRowLaws.{deadline_is_back}
use Rattle.plan_base.specs.KeyStepLaws.{apply_done, touched_again, touched_differs}
use Rattle.plan_base.specs.KeyPlanLaws.{idle_plan, refused_plan, removed_plan, remove_nothing, found_deadline_fits, live_is_found}
use Rattle.plan_base.specs.Retimed.{KeepsLife}
use Rattle.plan_base.specs.Lives.{StandsAs, SeesLife, life_found}
use Rattle.plan_base.specs.LifeLaws.{sees_life}
use Rattle.plan_base.specs.LifePlans.{answering}
use Rattle.plan_base.specs.LifePlanLaws.{one_key_ahead}
use Rattle.plan_base.specs.LifeSteps.{WritesLife, life_on}
use Rattle.plan_base.specs.LifeStepLaws.{life_plan, goes_on}
use Rattle.plan_base.specs.LifeChanges.{WantsRows, row_differs, differing, added_rows, removed_rows}
use Rattle.plan_base.specs.LifeChangeLaws.{writes_life}
use Rattle.life_plans.specs.ChangePlans.{HasElements, changing_plan, emptied_plan, size_after, life_text, by_life}
use Rattle.life_plans.specs.Changes.{FindsLife, Wants, wishing_plan, wished_plan, ChangesBy}
use Rattle.life_plans.specs.ChangeSizeLaws.{IsHeldLife, held, finds_life, wanted_row, size_is}

-- ---- a command that leaves all as it is

-- what is at a key there already
pub insert_there : (m : RedisMap) (k : Bytes) (e : Entry) → get m k ≡ Some e → insert m k e ≡ m
insert_there m k e there = same_map (insert m k e) m (λ q. get-insert m k e q ∙ by_test q (same q k) refl)
  where
    by_test : (q : Bytes) (s : Bool) → same q k ≡ s → cond s (Some e) (get m q) ≡ get m q
    by_test q true is = sym (ap (get m) (same_is q k is) ∙ there)
    by_test q false is = refl

-- a command with one key that neither changes nor writes it again touches nothing
quiet : (m : RedisMap) (t : ℕ) (d : Command) (k : Bytes) (answer : Reply) → carried_out m t d ≡ Ok (answer, m) → keys_of d ≡ k ∷ [] → among (written_again m m d) k ≡ false → touched m t d ≡ []
unfolding touched
quiet m t d k answer is one again =
    ap (touched_by m d) is
    ∙ ap (λ ks. filter (is_touched m m d) (once ks)) one
    ∙ ap (λ b. cond (b || differs m m k) (k ∷ []) []) again
    ∙ ap (λ b. cond (not b) (k ∷ []) []) ((same_entry_decides (get m k) (get m k)).1 refl)

-- so it writes nothing, and looks ahead to the deadline of its key
pub idle_plan_ahead : {c : Rows} {t : ℕ} {m : RedisMap} (fresh : ℕ) (d : Command) (k : Bytes) (answer : Reply)
    → Means c t m → carried_out m t d ≡ Ok (answer, m) → keys_of d ≡ k ∷ [] → among (written_again m m d) k ≡ false
    → IsPlanOf c t fresh m d empty answer (least_above t (deadline_in (live_at c t k) ∷ []))
idle_plan_ahead {c} {t} {m} fresh d k answer means is one again =
    one_key_ahead c t fresh m d answer k one
    (idle_plan fresh d answer means (quiet m t d k answer is one again) (sym (ap (λ r. r.0) (apply_done m t d (answer, m) is))))

-- an error does so too
pub faulty_plan : {c : Rows} {t : ℕ} {m : RedisMap} (fresh : ℕ) (d : Command) (k : Bytes) (e : ReplyError)
    → Means c t m → carried_out m t d ≡ Err e → keys_of d ≡ k ∷ []
    → IsPlanOf c t fresh m d empty (reply.Error e) (least_above t (deadline_in (live_at c t k) ∷ []))
faulty_plan {c} {t} {m} fresh d k e means is one = one_key_ahead c t fresh m d (reply.Error e) k one (refused_plan fresh d e means is)

-- ---- the rows that differ

-- where no change is kept the row is there
stays : (old : Option Bytes) (o : Option (Option Bytes)) → kept (λ row. not (same_row old row)) o ≡ None → over o old ≡ old
stays old None e = refl
stays old (Some row) e = by_test (same_row old row) refl e
  where
    by_test : (b : Bool) → same_row old row ≡ b → cond (not b) (Some row) None ≡ None → row ≡ old
    by_test true is e = sym (over_changed old row) ∙ ap (λ (o : Option (Option Bytes)). over o old) (ap (λ b. cond b None (Some row)) is)
    by_test false is e = absurd (cc)

module _ {A : Type 0} {kind : Kind A} {code : Code} {row : A → Bytes → Option Bytes} (stands : StandsAs kind code row) (has : HasElements kind row)
    (c : Rows) (k : Bytes) (fresh : ℕ) (found : Option LifeSight) (a b : A) (wanted : Batch) (short : IsTrue (is_key k))
    (finds : FindsLife kind row c k fresh found a) (w : WantsRows c k (life_on fresh found).version wanted (row b)) where
  -- where nothing differs the rows are those that were there
  nothing_differs : size (differing c wanted) ≡ 0 → (subkey : Bytes) → row a subkey ≡ row b subkey
  unfolding differing
  nothing_differs none subkey =
      let raw : Bytes = row_key Elements k (life_on fresh found).version subkey in
      let gone : get (differing c wanted) raw ≡ None = ap (λ (x : Batch). get x raw) ((no_size (differing c wanted)).0 none) ∙ get-empty raw in
      sym (finds.elements subkey)
      ∙ sym (stays (get c raw) (get wanted raw) (sym (get-keep (row_differs c) wanted raw) ∙ gone))
      ∙ w.after subkey

  -- and the other way round
  all_there : ((subkey : Bytes) → row a subkey ≡ row b subkey) → size (differing c wanted) ≡ 0
  unfolding differing
  all_there alike = (no_size (differing c wanted)).1 (empty_is (differing c wanted) (λ raw. get-keep (row_differs c) wanted raw ∙ by_get raw (get wanted raw) refl))
    where
      by_get : (raw : Bytes) (o : Option (Option Bytes)) → get wanted raw ≡ o → kept (row_differs c raw) o ≡ None
      by_get raw None e = refl
      by_get raw (Some x) e =
          let here = wanted_row stands has c k fresh found a b wanted short finds w raw x e in
          ap (λ s. cond (not s) (Some x) None) ((λ i. same_row ((here.1 ∙ alike here.0) i) (here.2 i)) ∙ same_row_itself (row b here.0))

-- ---- the plan

-- a size that is neither too large nor 0 fits metadata
pub size_fits : (n : ℕ) → nat_lt max_size n ≡ false → (n == 0) ≡ false → IsTrue (is_size n)
size_fits n small some = grind (arith, nat_tests)

-- what is at a key lives
pub lives_there : {c : Rows} {t : ℕ} {m : RedisMap} (means : Means c t m) (k : Bytes) → lives t (deadline_in (live_at c t k)) ≡ true
lives_there {c} {t} {m} means k = ap (lives t) (sym (seen_deadline means k)) ∙ by_entry (get m k) (means.stands k)
  where
    by_entry : (o : Option Entry) → MeansAt c t k o → lives t (option_and_then (λ e. e.deadline) o) ≡ true
    by_entry None s = refl
    by_entry (Some e) s = stands_lives c t k e s

-- this is the plan of a command
abbrev pub Plans : Rows → ℕ → ℕ → RedisMap → Command → Plan → Type 0
Plans c t fresh m d p = IsPlanOf c t fresh m d p.batch p.reply p.until

module _ {A : Type 0} {kind : Kind A} {code : Code} {row : A → Bytes → Option Bytes} (stands : StandsAs kind code row) (has : HasElements kind row)
    {c : Rows} {t : ℕ} {m : RedisMap} (means : Means c t m) (fresh : ℕ) (d : Command) (k : Bytes) (one : keys_of d ≡ k ∷ []) (short : IsTrue (is_key k)) (keeps : KeepsLife m d k)
    (fits : IsTrue (is_version fresh)) (above : IsFresh c fresh k) where
  module _ (found : Option LifeSight) (a b : A) (wanted : Batch) (again : Bool) (answer : Reply)
      (is : life_found code (live_at c t k) ≡ Ok found) (at : at_key kind m k ≡ Ok a) (w : WantsRows c k (life_on fresh found).version wanted (row b))
      (done : carried_out m t d ≡ (change kind m k b >>= λ n. Ok (answer, n)))
      (rewrites : (n : RedisMap) → among (written_again m n d) k ≡ again) (some : IsTrue again → 0 < kind.count b) where
    abbrev old : Option ℕ
    old = deadline_in (live_at c t k)

    abbrev entry : Entry
    entry = record { value = kind.value_of b; deadline = deadline_in (live_at c t k) }

    finds : FindsLife kind row c k fresh found a
    finds = finds_life stands has means k fresh found a is at fits above

    -- what is put at the key stands there
    left : get (insert m k entry) k ≡ Some entry
    left = get-insert m k entry k ∙ ap (λ s. cond s (Some entry) (get m k)) (same_itself k)

    -- what the command comes to, by the size
    comes_to : (large none : Bool) → nat_lt max_size (kind.count b) ≡ large → (kind.count b == 0) ≡ none
        → carried_out m t d ≡ (cond large (Err TooLarge) (cond none (Ok (remove m k)) (Ok (insert m k entry))) >>= λ n. Ok (answer, n))
    comes_to large none l e =
        done
        ∙ ap (λ dl. put kind m k b dl >>= λ n. Ok (answer, n)) (seen_deadline means k)
        ∙ (λ i. cond (l i) (Err TooLarge) (cond (e i) (Ok (remove m k)) (Ok (insert m k entry))) >>= λ n. Ok (answer, n))

    -- an empty collection leaves no key
    emptied : (f : Option LifeSight) → IsHeldLife kind c t m k f a → again ≡ false → carried_out m t d ≡ Ok (answer, remove m k) → Plans c t fresh m d (emptied_plan t k (deadline_in (live_at c t k)) f answer)
    emptied None h once_only comes = idle_plan_ahead fresh d k answer means (comes ∙ ap (λ (n : RedisMap). Ok (answer, n)) (remove_nothing m k h.0)) one (rewrites m ∙ once_only)
    emptied (Some life) h once_only comes = removed_plan fresh d k (meta_for h.entry.value h.stands.life h.stands.expire) answer means h.stands.meta comes one short

    -- where nothing differs the entry stays
    same_entry_there : (f : Option LifeSight) → IsHeldLife kind c t m k f a → (kind.count b == 0) ≡ false → a ≡ b → insert m k entry ≡ m
    same_entry_there None h none that =
        let no : kind.count b ≡ 0 = ap kind.count (sym that ∙ h.1) ∙ stands.empty in
        let yes : (kind.count b == 0) ≡ true = ap (λ n. n == 0) no in
        absurd (cc)
    same_entry_there (Some life) h none that =
        let value : h.entry.value ≡ kind.value_of b = h.value ∙ ap kind.value_of that in
        let deadline : h.entry.deadline ≡ deadline_in (live_at c t k) = ap (option_and_then (λ (x : Entry). x.deadline)) (sym h.there) ∙ seen_deadline means k in
        let whole : h.entry ≡ entry = λ i. record { value = value i; deadline = deadline i } in
        insert_there m k entry (h.there ∙ ap (λ x. Some x) whole)

    -- the key is touched where a row differs, or where it is written again
    touches_it : (not again && (size (differing c wanted) == 0)) ≡ false → IsTrue (is_touched m (insert m k entry) d k)
    touches_it differ = by_again again refl
      where
        by_again : (s : Bool) → again ≡ s → IsTrue (is_touched m (insert m k entry) d k)
        by_again true e = touched_again m (insert m k entry) d k (rewrites (insert m k entry) ∙ e)
        by_again false e = touched_differs m (insert m k entry) d k (λ alike.
            let sees : kind.seen_as (kind.value_of b) ≡ Ok a = sym (ap (seen kind) (alike ∙ left)) ∙ at in
            let value : kind.value_of b ≡ kind.value_of a = stands.is (kind.value_of b) a sees in
            let none : size (differing c wanted) ≡ 0 =
            all_there stands has c k fresh found a b wanted short finds w (λ subkey. sym (stands.rows a 0 subkey) ∙ ap (λ (v : Value). row_of v 0 Elements subkey) (sym value) ∙ stands.rows b 0 subkey) in
            let no : (not again && (size (differing c wanted) == 0)) ≡ true = (λ i. not (e i) && (none i == 0)) in
            cc)

    -- the batch writes the life
    writes : nat_lt max_size (kind.count b) ≡ false → (kind.count b == 0) ≡ false
        → WritesLife c (insert (differing c wanted) (meta_key k) (Some (life_text code (deadline_in (live_at c t k)) (life_on fresh found).version (kind.count b)))) k entry (life_on fresh found) (expire_number (deadline_in (live_at c t k)))
    unfolding is_meta_within
    writes small filled =
        let life : LifeAt = life_on fresh found in
        let expire : ℕ = expire_number (deadline_in (live_at c t k)) in
        let meta : meta_for (kind.value_of b) life expire ≡ LifeValue code expire life.version (kind.count b) = stands.meta b life expire in
        let whole : is_meta_within (LifeValue code expire life.version (kind.count b)) ≡ true =
        and_from (is_deadline expire && is_version life.version) (is_size (kind.count b))
        (and_from (is_deadline expire) (is_version life.version) (found_deadline_fits (live_at c t k) (live_is_found c t k)) finds.version)
        (size_fits (kind.count b) small filled) in
        subst (λ (v : MetaValue). WritesLife c (insert (differing c wanted) (meta_key k) (Some (meta_text v))) k entry life expire) meta
        (writes_life c k entry life expire wanted (row b) short (deadline_is_back t (deadline_in (live_at c t k)) (lives_there means k)) (ap is_meta_within meta ∙ whole)
        (has.scores b) (stands.life b) w (stands.rows b life.head)
        (λ subkey. finds.rows.rows Scores subkey ∙ has.no_scores a life.head subkey) (has.no_scores b life.head))

    -- by the size, and whether a row differs
    by_tests : (large none idle : Bool) → nat_lt max_size (kind.count b) ≡ large → (kind.count b == 0) ≡ none → (not again && (size (differing c wanted) == 0)) ≡ idle
        → Plans c t fresh m d (cond large (answering t old (reply.Error TooLarge)) (cond none (emptied_plan t k old found answer) (cond idle (answering t old answer) (record {
          reply = answer;
          batch = insert (differing c wanted) (meta_key k) (Some (life_text code old (life_on fresh found).version (kind.count b)));
          until = least_above t (old ∷ old ∷ []);
        }))))
    by_tests true none idle l e s = faulty_plan fresh d k TooLarge means (comes_to true none l e) one
    by_tests false true idle l e s = emptied found (held stands means k found a is at) no_again (comes_to false true l e)
      where
        no_again : again ≡ false
        no_again = by_again again refl
          where
            by_again : (x : Bool) → again ≡ x → x ≡ false
            by_again true h = let high = some h in let low = number_is (kind.count b) 0 e in absurd (omega (arith, high, low))
            by_again false h = refl
    by_tests false false true l e s =
        let tests = both_parts s in
        let same_rows = nothing_differs stands has c k fresh found a b wanted short finds w (number_is (size (differing c wanted)) 0 tests.1) in
        let stays_so = same_entry_there found (held stands means k found a is at) e (has.one a b same_rows) in
        idle_plan_ahead fresh d k answer means (comes_to false false l e ∙ ap (λ (n : RedisMap). Ok (answer, n)) stays_so) one (rewrites m ∙ tests.0)
      where
        both_parts : (not again && (size (differing c wanted) == 0)) ≡ true → (again ≡ false) × ((size (differing c wanted) == 0) ≡ true)
        both_parts h = by_again again (size (differing c wanted) == 0) refl h
          where
            by_again : (x y : Bool) → again ≡ x → (not x && y) ≡ true → (x ≡ false) × (y ≡ true)
            by_again true y f h = absurd (cc)
            by_again false y f h = (refl, h)
    by_tests false false false l e s =
        life_plan fresh d k (insert (differing c wanted) (meta_key k) (Some (life_text code old (life_on fresh found).version (kind.count b)))) answer (insert m k entry) entry (life_on fresh found) (expire_number old)
        means (comes_to false false l e) one short (touches_it s) left (lives_there means k) (goes_on stands fresh d k found b means keeps is) (writes l e)

    -- The plan by the life that is found, the rows that change, and the number of elements afterwards carries out a command
    -- that makes another collection of the one at its only key.
    pub changed_plan : let p = changing_plan t k code (deadline_in (live_at c t k)) fresh found again (differing c wanted) (size_after found (added_rows c wanted) (removed_rows c wanted)) answer in IsPlanOf c t fresh m d p.batch p.reply p.until
    unfolding changing_plan
    changed_plan =
        subst (λ (count : ℕ). Plans c t fresh m d (changing_plan t k code old fresh found again (differing c wanted) count answer))
        (size_is stands has c k fresh found a b wanted short finds w)
        (by_tests (nat_lt max_size (kind.count b)) (kind.count b == 0) (not again && (size (differing c wanted) == 0)) refl refl refl)

-- ---- commands

module _ {A : Type 0} {kind : Kind A} {code : Code} {row : A → Bytes → Option Bytes} (stands : StandsAs kind code row) (has : HasElements kind row) where
  -- A command that changes the collection at its only key has the plan of what it wants by the life that is found there.
  pub life_changing : (c : Rows) (t fresh : ℕ) (d : Command) (k : Bytes) (again : Bool) (f : A → Outcome (Reply × A)) (wish : Option LifeSight → Outcome (Reply × Batch)) → ChangesBy kind row c t fresh d k again f wish
      → let p = wished_plan code c t k fresh again wish in IsPlan c t fresh d p.batch p.reply p.until
  life_changing c t fresh d k again f wish by =
      record { plan = λ m means ready. by_found m means ready (life_found code (live_at c t k)) refl (at_key kind m k) refl (sees_life stands means k) }
    where
      by_found : (m : RedisMap) → Means c t m → IsReady c t fresh (One d) → (s : Outcome (Option LifeSight)) → life_found code (live_at c t k) ≡ s → (o : Outcome A) → at_key kind m k ≡ o → SeesLife kind row c k s o
          → Plans c t fresh m d (by_life t (deadline_in (live_at c t k)) (λ found. wishing_plan c t k code (deadline_in (live_at c t k)) fresh again found (wish found)) s)
      by_found m means ready (Err e) s (Err x) at sees =
          faulty_plan fresh d k e means (by.is m ∙ ap (λ (o : Outcome A). o >>= λ a. f a >>= λ r. change kind m k r.1 >>= λ n. Ok (r.0, n)) at ∙ ap (λ (y : ReplyError). Err y) (sym sees)) by.one
      by_found m means ready (Ok found) s (Err x) at sees = absurd sees
      by_found m means ready (Err e) s (Ok a) at sees = absurd sees
      by_found m means ready (Ok found) s (Ok a) at sees = by_wish (wish found) (f a) refl (by.wants found a (finds_life stands has means k fresh found a s at ready.fits above))
        where
          above : IsFresh c fresh k
          above = ready.above k (ap (λ ks. among ks k) by.one ∙ ap (λ b. b || false) (same_itself k))

          comes : carried_out m t d ≡ (f a >>= λ r. change kind m k r.1 >>= λ n. Ok (r.0, n))
          comes = by.is m ∙ ap (λ (o : Outcome A). o >>= λ a. f a >>= λ r. change kind m k r.1 >>= λ n. Ok (r.0, n)) at

          by_wish : (u : Outcome (Reply × Batch)) (v : Outcome (Reply × A)) → f a ≡ v → Wants kind row c k (life_on fresh found).version again u v
              → Plans c t fresh m d (wishing_plan c t k code (deadline_in (live_at c t k)) fresh again found u)
          by_wish (Err e) (Err x) l h =
              faulty_plan fresh d k e means (comes ∙ ap (λ (r : Outcome (Reply × A)). r >>= λ r. change kind m k r.1 >>= λ n. Ok (r.0, n)) l ∙ ap (λ (y : ReplyError). Err y) (sym h)) by.one
          by_wish (Ok u) (Err x) l h = absurd h
          by_wish (Err e) (Ok v) l h = absurd h
          by_wish (Ok u) (Ok v) l h =
              changed_plan stands has means fresh d k by.one by.short (by.keeps m) ready.fits above found a v.1 u.1 again u.0 s at h.rows
              (comes
              ∙ ap (λ (r : Outcome (Reply × A)). r >>= λ r. change kind m k r.1 >>= λ n. Ok (r.0, n)) l
              ∙ ap (λ (y : Reply). change kind m k v.1 >>= λ n. Ok (y, n)) (sym h.answer))
              (by.rewrites m) h.filled
