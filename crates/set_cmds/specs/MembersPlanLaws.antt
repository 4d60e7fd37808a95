-- The plans of SADD and SREM.
use Rattle.std.proofs.Common.{ℕ, ◌≡◌, ◌-◌, refl, sym, ap, ◌∙◌, false, List, [], ◌∷◌}
use Rattle.std.specs.Prelude.{not, Option, Some, None, Ok, IsTrue}
use Rattle.kv_base.specs.Map.{Bytes, Set, get, empty, keep, size, get-empty, get-keep, kept}
use Rattle.kv_base.specs.RawKeys.{is_key}
use Rattle.kv_base.specs.declared.kind.Kind.TheVariants as code
use Rattle.batch_codec.specs.Batches.{Batch}
use Rattle.redis_model.specs.declared.reply.Reply.{Reply}
use Rattle.redis_model.specs.declared.command.Command.TheVariants as cmd
use Rattle.redis_model.specs.Value.{RedisMap}
use Rattle.redis_model.specs.Outcome.{Outcome, number, sets}
use Rattle.redis_model.specs.Sets.{with_members, add_members, remove_members}
use Rattle.redis_model.specs.Keys.{among}
use Rattle.redis_model.specs.Limits.{IsWithin}
use Rattle.redis_model.specs.Apply.{carried_out}
use Rattle.lives_model.specs.Rows.{Rows}
use Rattle.lives_model.specs.Clean.{live_at}
use Rattle.lives_model.specs.Moved.{head_after}
use Rattle.lives_model.specs.OwnKeyLaws.{no_size, empty_is}
use Rattle.plan_base.specs.Carries.{Carries}
use Rattle.plan_base.specs.declared.life.LifeSight.{LifeSight}
use Rattle.plan_base.specs.Seen.{deadline_in}
use Rattle.plan_base.specs.KeyLimitLaws.{key_is_short}
use Rattle.plan_base.specs.Retimed.{KeepsLife}
use Rattle.plan_base.specs.Lives.{HasSizeIn, life_size}
use Rattle.plan_base.specs.LifeLaws.{set_stands, member_row_of, size_there}
use Rattle.plan_base.specs.LifeSteps.{life_on}
use Rattle.plan_base.specs.LifeChanges.{WantsRows, differing, added_rows, removed_rows}
use Rattle.life_plans.specs.ChangePlans.{changing_plan, size_after}
use Rattle.life_plans.specs.WantedRows.{wanted, joins, leaves}
use Rattle.life_plans.specs.WantedLaws.{wants_members, wants_no_members}
use Rattle.life_plans.specs.Changes.{FindsLife, WantsElements, wishing_plan}
use Rattle.life_plans.specs.ChangeSizeLaws.{size_is}
use Rattle.life_plans.specs.ElementLaws.{set_has_elements}
use Rattle.life_plans.specs.ChangePlanLaws.{life_changing}
use Rattle.life_plans.specs.AlikePlanLaws.{changes_alike}
use Rattle.set_cmds.specs.Planned.{s_add_plan, removing, s_rem_plan}

-- ---- SADD

keeps_add : (m : RedisMap) (k : Bytes) (xs : List Bytes) (w : ℕ) → KeepsLife m (cmd.SAdd k xs w) k
unfolding head_after
keeps_add m k xs w = record { no_store = refl; head = λ h. refl }

-- what it answers, and the rows that it wants
add_wish : Rows → ℕ → Bytes → List Bytes → Option LifeSight → Outcome (Reply × Batch)
add_wish c fresh k xs found =
    let rows = wanted k (life_on fresh found).version (joins xs) in
    Ok (number (size_after found (added_rows c rows) (removed_rows c rows) - life_size found), rows)

pub s_add_carries : (c : Rows) (t fresh : ℕ) (k : Bytes) (xs : List Bytes) (w : ℕ) → IsWithin (cmd.SAdd k xs w) → Carries c t fresh (cmd.SAdd k xs w) (s_add_plan c t fresh k xs)
unfolding carried_out s_add_plan add_wish
s_add_carries c t fresh k xs w within =
    life_changing set_stands set_has_elements c t fresh (cmd.SAdd k xs w) k false (add_members xs) (add_wish c fresh k xs)
    (record { one = refl; short = key_is_short k within.names; keeps = λ m. keeps_add m k xs w; is = λ m. refl; rewrites = λ m n. refl; wants = wants })
  where
    wants : (found : Option LifeSight) (s : Set) → FindsLife sets member_row_of c k fresh found s
        → let rows = wanted k (life_on fresh found).version (joins xs) in
        WantsElements sets member_row_of c k (life_on fresh found).version false (number (size_after found (added_rows c rows) (removed_rows c rows) - life_size found), rows)
        (number (size (with_members s xs) - size s), with_members s xs)
    wants found s finds =
        let short = key_is_short k within.names in
        let rows = wanted k (life_on fresh found).version (joins xs) in
        let want = wants_members c k (life_on fresh found).version short finds.version s finds.elements xs within.fields.1 in
        let after : size (with_members s xs) ≡ size_after found (added_rows c rows) (removed_rows c rows) = size_is set_stands set_has_elements c k fresh found s (with_members s xs) rows short finds want in
        let before : life_size found ≡ size s = size_there set_stands c k found s finds.life in
        record {
          answer = λ i. number (sym after i - before i);
          rows = want;
          filled = λ yes. absurd (cc);
        }

-- ---- SREM

keeps_rem : (m : RedisMap) (k : Bytes) (xs : List Bytes) (w : ℕ) → KeepsLife m (cmd.SRem k xs w) k
unfolding head_after
keeps_rem m k xs w = record { no_store = refl; head = λ h. refl }

rem_wish : Rows → ℕ → Bytes → List Bytes → Option LifeSight → Outcome (Reply × Batch)
rem_wish c fresh k xs found =
    let rows = wanted k (life_on fresh found).version (leaves xs) in
    Ok (number (life_size found - size_after found (added_rows c rows) (removed_rows c rows)), rows)

pub s_rem_carries : (c : Rows) (t fresh : ℕ) (k : Bytes) (xs : List Bytes) (w : ℕ) → IsWithin (cmd.SRem k xs w) → Carries c t fresh (cmd.SRem k xs w) (s_rem_plan c t fresh k xs)
unfolding carried_out s_rem_plan rem_wish changing_plan
s_rem_carries c t fresh k xs w within =
    changes_alike set_stands set_has_elements c t fresh (cmd.SRem k xs w) k false (rem_wish c fresh k xs) (remove_members xs) (removing c t fresh k xs (deadline_in (live_at c t k))) refl short
    (λ m. keeps_rem m k xs w) (λ m. refl) (λ m n. refl) wants alike
  where
    short : IsTrue (is_key k)
    short = key_is_short k within.names

    left : Set → Set
    left s = keep (λ x _. not (among xs x)) s

    want : (found : Option LifeSight) (s : Set) → FindsLife sets member_row_of c k fresh found s → WantsRows c k (life_on fresh found).version (wanted k (life_on fresh found).version (leaves xs)) (member_row_of (left s))
    want found s finds = wants_no_members c k (life_on fresh found).version short finds.version s finds.elements xs within.fields.1

    size_left : (found : Option LifeSight) (s : Set) → FindsLife sets member_row_of c k fresh found s
        → let rows = wanted k (life_on fresh found).version (leaves xs) in size (left s) ≡ size_after found (added_rows c rows) (removed_rows c rows)
    size_left found s finds = size_is set_stands set_has_elements c k fresh found s (left s) (wanted k (life_on fresh found).version (leaves xs)) short finds (want found s finds)

    wants : (found : Option LifeSight) (s : Set) → FindsLife sets member_row_of c k fresh found s
        → let rows = wanted k (life_on fresh found).version (leaves xs) in
        WantsElements sets member_row_of c k (life_on fresh found).version false (number (life_size found - size_after found (added_rows c rows) (removed_rows c rows)), rows) (number (size s - size (left s)), left s)
    wants found s finds =
        let after = size_left found s finds in
        let before : life_size found ≡ size s = size_there set_stands c k found s finds.life in
        record {
          answer = λ i. number (before i - sym after i);
          rows = want found s finds;
          filled = λ yes. absurd (cc);
        }

    -- nothing is left of nothing
    none_left : (s : Set) → s ≡ empty → size (left s) ≡ 0
    none_left s is = (no_size (left s)).1 (empty_is (left s) (λ q. get-keep (λ x _. not (among xs x)) s q ∙ ap (kept (λ _. not (among xs q))) (ap (λ (z : Set). get z q) is ∙ get-empty q)))

    alike : (found : Option LifeSight) (s : Set) → HasSizeIn found → FindsLife sets member_row_of c k fresh found s
        → removing c t fresh k xs (deadline_in (live_at c t k)) found ≡ wishing_plan c t k code.Set (deadline_in (live_at c t k)) fresh false found (rem_wish c fresh k xs found)
    alike None s fits finds =
        let rows = wanted k fresh (leaves xs) in
        let none : size_after None (added_rows c rows) (removed_rows c rows) ≡ 0 = sym (size_left None s finds) ∙ none_left s finds.life in
        λ i. changing_plan t k code.Set (deadline_in (live_at c t k)) fresh None false (differing c rows) (sym none i) (number (0 - sym none i))
    alike (Some life) s fits finds = refl
