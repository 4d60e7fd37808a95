-- The plans of HSET and HDEL.
use Rattle.std.proofs.Common.{ℕ, ◌≡◌, ◌<◌, ◌-◌, zero, suc, refl, sym, ap, subst, ◌∙◌, Bool, true, false, cond, List, [], ◌∷◌, length, arith}
use Rattle.std.specs.Prelude.{not, Option, Some, None, Ok, IsTrue, zip, fold, is_some}
use Rattle.kv_base.specs.Map.{Bytes, Map, get, empty, insert, insert_all, keep, size, same_itself, get-insert, get-empty, get-keep, kept}
use Rattle.kv_base.specs.RawKeys.{is_key}
use Rattle.kv_base.specs.declared.kind.Kind.TheVariants as code
use Rattle.batch_codec.specs.Batches.{Batch}
use Rattle.redis_model.specs.declared.reply.Reply.{Reply}
use Rattle.redis_model.specs.declared.command.Command.{Command}
use Rattle.redis_model.specs.declared.command.Command.TheVariants as cmd
use Rattle.redis_model.specs.Value.{RedisMap}
use Rattle.redis_model.specs.Outcome.{Outcome, number, hashes}
use Rattle.redis_model.specs.Hashes.{set_fields, remove_fields}
use Rattle.redis_model.specs.Keys.{among}
use Rattle.redis_model.specs.Limits.{IsWithin}
use Rattle.redis_model.specs.Apply.{carried_out}
use Rattle.redis_model.specs.Touched.{written_again}
use Rattle.lives_model.specs.Rows.{Rows}
use Rattle.lives_model.specs.Clean.{live_at}
use Rattle.lives_model.specs.Moved.{head_after}
use Rattle.lives_model.specs.OwnKeyLaws.{no_size, empty_is}
use Rattle.plan_base.specs.Carries.{Carries}
use Rattle.plan_base.specs.declared.life.LifeSight.{LifeSight}
use Rattle.plan_base.specs.Seen.{deadline_in}
use Rattle.plan_base.specs.KeyLimitLaws.{key_is_short, among_itself}
use Rattle.plan_base.specs.Retimed.{KeepsLife}
use Rattle.plan_base.specs.Lives.{HasSizeIn, life_size}
use Rattle.plan_base.specs.LifeLaws.{hash_stands, size_there}
use Rattle.plan_base.specs.LifeSteps.{life_on}
use Rattle.plan_base.specs.LifeChanges.{WantsRows, differing, added_rows, removed_rows}
use Rattle.life_plans.specs.ChangePlans.{changing_plan, size_after}
use Rattle.life_plans.specs.WantedRows.{wanted, puts, leaves}
use Rattle.life_plans.specs.WantedLaws.{wants_puts, wants_no_fields}
use Rattle.life_plans.specs.Changes.{FindsLife, WantsElements, wishing_plan}
use Rattle.life_plans.specs.ChangeSizeLaws.{size_is}
use Rattle.life_plans.specs.ElementLaws.{hash_has_elements}
use Rattle.life_plans.specs.ChangePlanLaws.{life_changing}
use Rattle.life_plans.specs.AlikePlanLaws.{changes_alike}
use Rattle.hash_cmds.specs.Planned.{setting_fields, h_set_plan, deleting_fields, h_del_plan}

-- a hash with a field is not empty
pub insert_some : (h : Map Bytes) (f v : Bytes) → 0 < size (insert h f v)
insert_some h f v = by_size (size (insert h f v)) refl
  where
    by_size : (n : ℕ) → size (insert h f v) ≡ n → 0 < n
    by_size zero e =
        let none : get (insert h f v) f ≡ None = ap (λ (m : Map Bytes). get m f) ((no_size (insert h f v)).0 e) ∙ get-empty f in
        let some : get (insert h f v) f ≡ Some v = get-insert h f v f ∙ ap (λ b. cond b (Some v) (get h f)) (same_itself f) in
        absurd (cc)
    by_size (suc n) e = omega arith

-- and more fields leave it so
more_some : (h : Map Bytes) (es : List (Bytes × Bytes)) → 0 < size h → 0 < size (insert_all h es)
more_some h [] some = some
more_some h (e ∷ es) some = more_some (insert h e.0 e.1) es (insert_some h e.0 e.1)

set_some : (h : Map Bytes) (fs vs : List Bytes) → 0 < length fs → length vs ≡ length fs → 0 < size (insert_all h (zip fs vs))
set_some h [] vs some pairs = absurd (omega arith)
set_some h (f ∷ fs) [] some pairs = absurd (omega arith)
set_some h (f ∷ fs) (v ∷ vs) some pairs = more_some (insert h f v) (zip fs vs) (insert_some h f v)

-- ---- HSET

keeps_set : (m : RedisMap) (k : Bytes) (fs vs : List Bytes) (w : ℕ) → KeepsLife m (cmd.HSet k fs vs w) k
unfolding head_after
keeps_set m k fs vs w = record { no_store = refl; head = λ h. refl }

-- what it answers, and the rows that it wants
set_wish : Rows → ℕ → Bytes → List Bytes → List Bytes → Option LifeSight → Outcome (Reply × Batch)
set_wish c fresh k fs vs found =
    let rows = wanted k (life_on fresh found).version (puts (zip fs vs)) in
    Ok (number (size_after found (added_rows c rows) (removed_rows c rows) - life_size found), rows)

pub h_set_carries : (c : Rows) (t fresh : ℕ) (k : Bytes) (fs vs : List Bytes) (w : ℕ) → IsWithin (cmd.HSet k fs vs w) → Carries c t fresh (cmd.HSet k fs vs w) (h_set_plan c t fresh k fs vs)
unfolding carried_out h_set_plan set_wish
h_set_carries c t fresh k fs vs w within =
    life_changing hash_stands hash_has_elements c t fresh (cmd.HSet k fs vs w) k true (set_fields fs vs) (set_wish c fresh k fs vs)
    (record { one = refl; short = key_is_short k within.names; keeps = λ m. keeps_set m k fs vs w; is = λ m. refl; rewrites = λ m n. among_itself k; wants = wants })
  where
    wants : (found : Option LifeSight) (h : Map Bytes) → FindsLife hashes get c k fresh found h
        → let rows = wanted k (life_on fresh found).version (puts (zip fs vs)) in
        WantsElements hashes get c k (life_on fresh found).version true (number (size_after found (added_rows c rows) (removed_rows c rows) - life_size found), rows)
        (number (size (insert_all h (zip fs vs)) - size h), insert_all h (zip fs vs))
    wants found h finds =
        let short = key_is_short k within.names in
        let rows = wanted k (life_on fresh found).version (puts (zip fs vs)) in
        let want = wants_puts c k (life_on fresh found).version short finds.version h finds.elements fs vs within.fields.0.1 in
        let after : size (insert_all h (zip fs vs)) ≡ size_after found (added_rows c rows) (removed_rows c rows) = size_is hash_stands hash_has_elements c k fresh found h (insert_all h (zip fs vs)) rows short finds want in
        let before : life_size found ≡ size h = size_there hash_stands c k found h finds.life in
        record {
          answer = λ i. number (sym after i - before i);
          rows = want;
          filled = λ yes. set_some h fs vs within.fields.0.0 within.fields.1;
        }

-- ---- HDEL

keeps_del : (m : RedisMap) (k : Bytes) (fs : List Bytes) (w : ℕ) → KeepsLife m (cmd.HDel k fs w) k
unfolding head_after
keeps_del m k fs w = record { no_store = refl; head = λ h. refl }

del_wish : Rows → ℕ → Bytes → List Bytes → Option LifeSight → Outcome (Reply × Batch)
del_wish c fresh k fs found =
    let rows = wanted k (life_on fresh found).version (leaves fs) in
    Ok (number (life_size found - size_after found (added_rows c rows) (removed_rows c rows)), rows)

pub h_del_carries : (c : Rows) (t fresh : ℕ) (k : Bytes) (fs : List Bytes) (w : ℕ) → IsWithin (cmd.HDel k fs w) → Carries c t fresh (cmd.HDel k fs w) (h_del_plan c t fresh k fs)
unfolding carried_out h_del_plan del_wish changing_plan
h_del_carries c t fresh k fs w within =
    changes_alike hash_stands hash_has_elements c t fresh (cmd.HDel k fs w) k false (del_wish c fresh k fs) (remove_fields fs) (deleting_fields c t fresh k fs (deadline_in (live_at c t k))) refl short
    (λ m. keeps_del m k fs w) (λ m. refl) (λ m n. refl) wants alike
  where
    short : IsTrue (is_key k)
    short = key_is_short k within.names

    left : Map Bytes → Map Bytes
    left h = keep (λ f _. not (among fs f)) h

    want : (found : Option LifeSight) (h : Map Bytes) → FindsLife hashes get c k fresh found h → WantsRows c k (life_on fresh found).version (wanted k (life_on fresh found).version (leaves fs)) (get (left h))
    want found h finds = wants_no_fields c k (life_on fresh found).version short finds.version h finds.elements fs within.fields.1

    size_left : (found : Option LifeSight) (h : Map Bytes) → FindsLife hashes get c k fresh found h
        → let rows = wanted k (life_on fresh found).version (leaves fs) in size (left h) ≡ size_after found (added_rows c rows) (removed_rows c rows)
    size_left found h finds = size_is hash_stands hash_has_elements c k fresh found h (left h) (wanted k (life_on fresh found).version (leaves fs)) short finds (want found h finds)

    wants : (found : Option LifeSight) (h : Map Bytes) → FindsLife hashes get c k fresh found h
        → let rows = wanted k (life_on fresh found).version (leaves fs) in
        WantsElements hashes get c k (life_on fresh found).version false (number (life_size found - size_after found (added_rows c rows) (removed_rows c rows)), rows) (number (size h - size (left h)), left h)
    wants found h finds =
        let after = size_left found h finds in
        let before : life_size found ≡ size h = size_there hash_stands c k found h finds.life in
        record {
          answer = λ i. number (before i - sym after i);
          rows = want found h finds;
          filled = λ yes. absurd (cc);
        }

    -- nothing is left of nothing
    none_left : (h : Map Bytes) → h ≡ empty → size (left h) ≡ 0
    none_left h is = (no_size (left h)).1 (empty_is (left h) (λ q. get-keep (λ f _. not (among fs f)) h q ∙ ap (kept (λ _. not (among fs q))) (ap (λ (m : Map Bytes). get m q) is ∙ get-empty q)))

    alike : (found : Option LifeSight) (h : Map Bytes) → HasSizeIn found → FindsLife hashes get c k fresh found h
        → deleting_fields c t fresh k fs (deadline_in (live_at c t k)) found ≡ wishing_plan c t k code.Hash (deadline_in (live_at c t k)) fresh false found (del_wish c fresh k fs found)
    alike None h fits finds =
        let rows = wanted k fresh (leaves fs) in
        let none : size_after None (added_rows c rows) (removed_rows c rows) ≡ 0 = sym (size_left None h finds) ∙ none_left h finds.life in
        λ i. changing_plan t k code.Hash (deadline_in (live_at c t k)) fresh None false (differing c rows) (sym none i) (number (0 - sym none i))
    alike (Some life) h fits finds = refl
