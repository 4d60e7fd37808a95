-- The plans of HSETNX and HINCRBY, which look up one field.
use Rattle.std.proofs.Common.{ℕ, ◌≡◌, ◌+◌, ◌-◌, zero, suc, refl, sym, ap, subst, ◌∙◌, Bool, true, false, cond, [], ◌∷◌, arith}
use Rattle.std.proofs.lemmas.Bool.Decides.{nat_tests}
use Rattle.std.proofs.lemmas.List.Sums.{sum_by-cons}
use Rattle.std.specs.Prelude.{◌<◌, ◌^◌, ◌==◌, nat_lt, not, Option, Some, None, Ok, Err, IsTrue, is_some, ℤ}
use Rattle.kv_base.specs.Map.{Bytes, Map, same, same_is, kept, get, has, empty, insert, keep, size, get-empty, get-insert, get-keep, same_map}
use Rattle.kv_base.specs.Number.{int_text}
use Rattle.kv_base.specs.RawKeys.{is_key}
use Rattle.kv_base.specs.declared.kind.Kind.TheVariants as code
use Rattle.batch_codec.specs.Batches.{Batch}
use Rattle.redis_model.specs.declared.reply.Reply.{Reply}
use Rattle.redis_model.specs.declared.reply.Reply.TheVariants as reply
use Rattle.redis_model.specs.declared.reply.ReplyError.TheVariants.{HashNotInt, TooLarge}
use Rattle.redis_model.specs.declared.command.Command.TheVariants as cmd
use Rattle.redis_model.specs.Value.{RedisMap, max_size}
use Rattle.redis_model.specs.Outcome.{Outcome, ◌>>=◌, number, hashes}
use Rattle.redis_model.specs.Hashes.{add_field, raise_field}
use Rattle.redis_model.specs.Strings.{added}
use Rattle.redis_model.specs.Limits.{IsWithin, IsName}
use Rattle.redis_model.specs.Apply.{carried_out}
use Rattle.lives_model.specs.Rows.{Rows, Elements, row_key}
use Rattle.lives_model.specs.Clean.{live_at}
use Rattle.lives_model.specs.Moved.{head_after}
use Rattle.lives_model.specs.OwnKeyLaws.{no_size}
use Rattle.lives_model.specs.Plans.{same_row}
use Rattle.plan_base.specs.KeyLimitLaws.{key_is_short, among_itself}
use Rattle.plan_base.specs.Carries.{Carries}
use Rattle.plan_base.specs.declared.life.LifeSight.{LifeSight}
use Rattle.plan_base.specs.Seen.{deadline_in}
use Rattle.plan_base.specs.Retimed.{KeepsLife}
use Rattle.plan_base.specs.Lives.{HasSizeIn, IsLifeOf, life_size, row_in_life}
use Rattle.plan_base.specs.LifeLaws.{hash_stands, element_there, size_there}
use Rattle.plan_base.specs.LifePlans.{answering}
use Rattle.plan_base.specs.LifeSteps.{life_on}
use Rattle.plan_base.specs.LifeChanges.{row_differs, differing, adds_row, removes_row, added_rows, removed_rows}
use Rattle.plan_base.specs.LifeChangeLaws.{wants_nothing}
use Rattle.life_plans.specs.ChangePlans.{changing_plan, emptied_plan, size_after}
use Rattle.life_plans.specs.WantedRows.{wanted, puts}
use Rattle.life_plans.specs.WantedLaws.{wants_put}
use Rattle.life_plans.specs.Changes.{FindsLife, WantsElements, Wants, wishing_plan}
use Rattle.life_plans.specs.ElementLaws.{hash_has_elements}
use Rattle.life_plans.specs.AlikePlanLaws.{changes_alike}
use Rattle.hash_cmds.specs.Planned.{field_rows, more_fields, putting_field, adding_field, h_set_nx_plan, raising, raising_by, h_incr_by_plan}
use Rattle.hash_cmds.specs.FieldsPlanLaws.{insert_some}

-- ---- one field that is put

-- the rows that differ, by the row that is there
one_differs : (c : Rows) (k : Bytes) (version : ℕ) (f v : Bytes) → differing c (wanted k version (puts ((f, v) ∷ []))) ≡ field_rows k version f (get c (row_key Elements k version f)) v
unfolding wanted differing
one_differs c k version f v = same_map _ _ (λ q.
    get-keep (row_differs c) (insert empty (row_key Elements k version f) (Some v)) q
    ∙ ap (kept (row_differs c q)) (get-insert empty (row_key Elements k version f) (Some v) q ∙ ap (cond (same q (row_key Elements k version f)) (Some (Some v))) (get-empty q))
    ∙ by_tests q (same q (row_key Elements k version f)) (same_row (get c (row_key Elements k version f)) (Some v)) refl refl)
  where
    by_tests : (q : Bytes) (s r : Bool) → same q (row_key Elements k version f) ≡ s → same_row (get c (row_key Elements k version f)) (Some v) ≡ r
        → kept (row_differs c q) (cond s (Some (Some v)) None) ≡ get (cond r empty (insert empty (row_key Elements k version f) (Some v))) q
    by_tests q true true is there =
        ap (λ raw. cond (not (same_row (get c raw) (Some v))) (Some (Some v)) None) (same_is q (row_key Elements k version f) is)
        ∙ ap (λ b. cond (not b) (Some (Some v)) None) there ∙ sym (get-empty q)
    by_tests q true false is there =
        ap (λ raw. cond (not (same_row (get c raw) (Some v))) (Some (Some v)) None) (same_is q (row_key Elements k version f) is)
        ∙ ap (λ b. cond (not b) (Some (Some v)) None) there
        ∙ sym (get-insert empty (row_key Elements k version f) (Some v) q ∙ ap (λ s. cond s (Some (Some v)) (get empty q)) is)
    by_tests q false true is there = sym (get-empty q)
    by_tests q false false is there = sym (get-insert empty (row_key Elements k version f) (Some v) q ∙ ap (λ s. cond s (Some (Some v)) (get empty q)) is ∙ get-empty q)

-- how many it adds, and that it takes none away
one_added : (c : Rows) (k : Bytes) (version : ℕ) (f v : Bytes) → added_rows c (wanted k version (puts ((f, v) ∷ []))) ≡ more_fields (get c (row_key Elements k version f))
unfolding wanted added_rows insert empty
one_added c k version f v = sum_by-cons (λ e. cond (adds_row c e) 1 0) (row_key Elements k version f, Some v) [] ∙ by_row (get c (row_key Elements k version f))
  where
    by_row : (o : Option Bytes) → ◌≡◌ {A = ℕ} (cond (not (is_some o)) 1 0 + 0) (cond (is_some o) 0 1)
    by_row None = refl
    by_row (Some x) = refl

one_removed : (c : Rows) (k : Bytes) (version : ℕ) (f v : Bytes) → removed_rows c (wanted k version (puts ((f, v) ∷ []))) ≡ 0
unfolding wanted removed_rows insert empty
one_removed c k version f v = sum_by-cons (λ e. cond (removes_row c e) 1 0) (row_key Elements k version f, Some v) []

module _ (c : Rows) (t fresh : ℕ) (k f : Bytes) (found : Option LifeSight) (h : Map Bytes) (finds : FindsLife hashes get c k fresh found h) where
  -- the value that is looked up is that of the field
  pub there_is : row_in_life c k found f ≡ get h f
  there_is = element_there hash_stands c k found h f finds.life

  -- and of the life that goes on, or begins
  row_is : get c (row_key Elements k (life_on fresh found).version f) ≡ row_in_life c k found f
  row_is = finds.elements f ∙ sym there_is

  -- so the plan comes to what is wanted
  putting_is : (old : Option ℕ) (again : Bool) (v : Bytes) (answer : Reply)
      → putting_field t fresh k old again found f (row_in_life c k found f) v answer ≡ wishing_plan c t k code.Hash old fresh again found (Ok (answer, wanted k (life_on fresh found).version (puts ((f, v) ∷ []))))
  putting_is old again v answer =
      let rows : field_rows k (life_on fresh found).version f (row_in_life c k found f) v ≡ differing c (wanted k (life_on fresh found).version (puts ((f, v) ∷ []))) =
      sym (one_differs c k (life_on fresh found).version f v ∙ ap (λ o. field_rows k (life_on fresh found).version f o v) row_is) in
      let more : more_fields (row_in_life c k found f) ≡ added_rows c (wanted k (life_on fresh found).version (puts ((f, v) ∷ []))) =
      sym (one_added c k (life_on fresh found).version f v ∙ ap more_fields row_is) in
      let none : 0 ≡ removed_rows c (wanted k (life_on fresh found).version (puts ((f, v) ∷ []))) = sym (one_removed c k (life_on fresh found).version f v) in
      λ i. changing_plan t k code.Hash old fresh found again (rows i) (size_after found (more i) (none i)) answer

  -- what the command wants
  put_wanted : (short : IsTrue (is_key k)) (again : Bool) (v : Bytes) (answer : Reply) → IsName f
      → WantsElements hashes get c k (life_on fresh found).version again (answer, wanted k (life_on fresh found).version (puts ((f, v) ∷ []))) (answer, insert h f v)
  put_wanted short again v answer name = record {
    answer = refl;
    rows = wants_put c k (life_on fresh found).version short finds.version h finds.elements f v name;
    filled = λ yes. insert_some h f v;
  }

-- ---- HSETNX

keeps_set_nx : (m : RedisMap) (k f v : Bytes) (w : ℕ) → KeepsLife m (cmd.HSetNx k f v w) k
unfolding head_after
keeps_set_nx m k f v w = record { no_store = refl; head = λ h. refl }

-- a hash that has a field is not empty
has_some : (h : Map Bytes) (f v : Bytes) → get h f ≡ Some v → (size h == 0) ≡ false
has_some h f v there = by_size (size h) refl
  where
    by_size : (n : ℕ) → size h ≡ n → (n == 0) ≡ false
    by_size zero e =
        let none : get h f ≡ None = ap (λ (m : Map Bytes). get m f) ((no_size h).0 e) ∙ get-empty f in
        absurd (cc)
    by_size (suc n) e = grind (arith, nat_tests)

-- where nothing is wanted of a life that has elements, nothing is written
quiet_is : (c : Rows) (t fresh : ℕ) (k : Bytes) (old : Option ℕ) (found : Option LifeSight) (answer : Reply) → HasSizeIn found → (life_size found == 0) ≡ false
    → answering t old answer ≡ wishing_plan c t k code.Hash old fresh false found (Ok (answer, empty))
unfolding changing_plan differing added_rows removed_rows keep empty size
quiet_is c t fresh k old None answer fits some = absurd (cc)
quiet_is c t fresh k old (Some life) answer fits some = by_count (life.size + 0 - 0) (omega arith)
  where
    small : nat_lt max_size life.size ≡ false
    small = grind (arith, nat_tests)

    by_count : (n : ℕ) → n ≡ life.size → answering t old answer ≡ changing_plan t k code.Hash old fresh (Some life) false empty n answer
    by_count n is = sym (
        (λ i. cond (nat_lt max_size (is i)) (answering t old (reply.Error TooLarge)) (cond (is i == 0) (emptied_plan t k old (Some life) answer) (answering t old answer)))
        ∙ ap (λ b. cond b (answering t old (reply.Error TooLarge)) (cond (life.size == 0) (emptied_plan t k old (Some life) answer) (answering t old answer))) small
        ∙ ap (λ b. cond b (emptied_plan t k old (Some life) answer) (answering t old answer)) some)

-- what it answers, and the rows that it wants, by the value that is there
nx_wish : ℕ → Bytes → Bytes → Bytes → Option LifeSight → Option Bytes → Outcome (Reply × Batch)
nx_wish fresh k f v found (Some there) = Ok (number 0, empty)
nx_wish fresh k f v found None = Ok (number 1, wanted k (life_on fresh found).version (puts ((f, v) ∷ [])))

pub h_set_nx_carries : (c : Rows) (t fresh : ℕ) (k f v : Bytes) (w : ℕ) → IsWithin (cmd.HSetNx k f v w) → Carries c t fresh (cmd.HSetNx k f v w) (h_set_nx_plan c t fresh k f v)
unfolding carried_out h_set_nx_plan nx_wish
h_set_nx_carries c t fresh k f v w within =
    changes_alike hash_stands hash_has_elements c t fresh (cmd.HSetNx k f v w) k false (λ found. nx_wish fresh k f v found (row_in_life c k found f)) (add_field f v)
    (λ found. adding_field t fresh k f v (deadline_in (live_at c t k)) found (row_in_life c k found f)) refl short
    (λ m. keeps_set_nx m k f v w) (λ m. refl) (λ m n. refl) (λ found h finds. wants found h finds (row_in_life c k found f) refl) (λ found h fits finds. alike found h fits finds (row_in_life c k found f) refl)
  where
    short : IsTrue (is_key k)
    short = key_is_short k within.names

    wants : (found : Option LifeSight) (h : Map Bytes) → FindsLife hashes get c k fresh found h → (o : Option Bytes) → row_in_life c k found f ≡ o
        → Wants hashes get c k (life_on fresh found).version false (nx_wish fresh k f v found o) (add_field f v h)
    wants found h finds None e =
        subst (λ (b : Bool). Wants hashes get c k (life_on fresh found).version false (nx_wish fresh k f v found None) (cond b (Ok (number 0, h)) (Ok (number 1, insert h f v))))
        (sym (ap is_some (sym (there_is c t fresh k f found h finds) ∙ e)))
        (put_wanted c t fresh k f found h finds short false v (number 1) within.fields.0)
    wants found h finds (Some there) e =
        subst (λ (b : Bool). Wants hashes get c k (life_on fresh found).version false (nx_wish fresh k f v found (Some there)) (cond b (Ok (number 0, h)) (Ok (number 1, insert h f v))))
        (sym (ap is_some (sym (there_is c t fresh k f found h finds) ∙ e)))
        (record { answer = refl; rows = wants_nothing c k (life_on fresh found).version (get h) finds.elements; filled = λ yes. absurd (cc) })

    alike : (found : Option LifeSight) (h : Map Bytes) → HasSizeIn found → FindsLife hashes get c k fresh found h → (o : Option Bytes) → row_in_life c k found f ≡ o
        → adding_field t fresh k f v (deadline_in (live_at c t k)) found o ≡ wishing_plan c t k code.Hash (deadline_in (live_at c t k)) fresh false found (nx_wish fresh k f v found o)
    alike found h fits finds None e =
        ap (λ o. putting_field t fresh k (deadline_in (live_at c t k)) false found f o v (number 1)) (sym e)
        ∙ putting_is c t fresh k f found h finds (deadline_in (live_at c t k)) false v (number 1)
    alike found h fits finds (Some there) e =
        quiet_is c t fresh k (deadline_in (live_at c t k)) found (number 0) fits
        (ap (λ n. n == 0) (size_there hash_stands c k found h finds.life) ∙ has_some h f there (sym (there_is c t fresh k f found h finds) ∙ e))

-- ---- HINCRBY

keeps_incr_by : (m : RedisMap) (k f : Bytes) (n : ℤ) (w : ℕ) → KeepsLife m (cmd.HIncrBy k f n w) k
unfolding head_after
keeps_incr_by m k f n w = record { no_store = refl; head = λ h. refl }

-- what it answers, and the rows that it wants, by the sum
sum_wish : ℕ → Bytes → Bytes → Option LifeSight → Outcome ℤ → Outcome (Reply × Batch)
sum_wish fresh k f found (Ok z) = Ok (reply.Int z, wanted k (life_on fresh found).version (puts ((f, int_text z) ∷ [])))
sum_wish fresh k f found (Err e) = Err e

pub h_incr_by_carries : (c : Rows) (t fresh : ℕ) (k f : Bytes) (n : ℤ) (w : ℕ) → IsWithin (cmd.HIncrBy k f n w) → Carries c t fresh (cmd.HIncrBy k f n w) (h_incr_by_plan c t fresh k f n)
unfolding carried_out h_incr_by_plan sum_wish
h_incr_by_carries c t fresh k f n w within =
    changes_alike hash_stands hash_has_elements c t fresh (cmd.HIncrBy k f n w) k true (λ found. sum_wish fresh k f found (added HashNotInt (row_in_life c k found f) n)) (raise_field f n)
    (λ found. raising_by t fresh k f n (deadline_in (live_at c t k)) found (row_in_life c k found f)) refl short
    (λ m. keeps_incr_by m k f n w) (λ m. refl) (λ m n. among_itself k) wants (λ found h fits finds. alike found h finds (added HashNotInt (row_in_life c k found f) n))
  where
    short : IsTrue (is_key k)
    short = key_is_short k within.names

    by_sum : (found : Option LifeSight) (h : Map Bytes) → FindsLife hashes get c k fresh found h → (o : Outcome ℤ)
        → Wants hashes get c k (life_on fresh found).version true (sum_wish fresh k f found o) (o >>= λ z. Ok (reply.Int z, insert h f (int_text z)))
    by_sum found h finds (Ok z) = put_wanted c t fresh k f found h finds short true (int_text z) (reply.Int z) within.fields
    by_sum found h finds (Err e) = refl

    wants : (found : Option LifeSight) (h : Map Bytes) → FindsLife hashes get c k fresh found h
        → Wants hashes get c k (life_on fresh found).version true (sum_wish fresh k f found (added HashNotInt (row_in_life c k found f) n)) (raise_field f n h)
    wants found h finds =
        subst (λ (o : Option Bytes). Wants hashes get c k (life_on fresh found).version true (sum_wish fresh k f found (added HashNotInt (row_in_life c k found f) n)) (added HashNotInt o n >>= λ z. Ok (reply.Int z, insert h f (int_text z))))
        (there_is c t fresh k f found h finds) (by_sum found h finds (added HashNotInt (row_in_life c k found f) n))

    alike : (found : Option LifeSight) (h : Map Bytes) → FindsLife hashes get c k fresh found h → (o : Outcome ℤ)
        → raising t fresh k f (deadline_in (live_at c t k)) found (row_in_life c k found f) o ≡ wishing_plan c t k code.Hash (deadline_in (live_at c t k)) fresh true found (sum_wish fresh k f found o)
    alike found h finds (Ok z) = putting_is c t fresh k f found h finds (deadline_in (live_at c t k)) true (int_text z) (reply.Int z)
    alike found h finds (Err e) = refl
