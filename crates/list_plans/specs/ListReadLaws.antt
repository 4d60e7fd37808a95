-- Plans of commands that read the list at their only key.
use Rattle.std.proofs.Common.{◌≡◌, ℕ, zero, suc, ◌+◌, ◌-◌, ◌<◌, ◌≤◌, ◌^◌, refl, sym, ap, subst, ◌∙◌, [], ◌∷◌, List, length, map, take, drop, append-nil, arith}
use Rattle.std.proofs.lemmas.List.{length-drop, length-take}
use Rattle.std.specs.Prelude.{Option, Some, None, Ok, Err, IsTrue, IsFalse, min, ℤ}
use Rattle.kv_base.specs.Map.{Bytes, get}
use Rattle.kv_base.specs.Fields.{u64}
use Rattle.kv_base.specs.RawKeys.{element_space, life_prefix}
use Rattle.redis_model.specs.declared.reply.Reply.{Reply}
use Rattle.redis_model.specs.declared.reply.Reply.TheVariants as reply
use Rattle.redis_model.specs.declared.command.Command.{Command}
use Rattle.redis_model.specs.Value.{ListOf, RedisMap}
use Rattle.redis_model.specs.Outcome.{Outcome, ◌>>=◌, lists, answered, at_key, reading}
use Rattle.redis_model.specs.About.{writes, keys_of}
use Rattle.redis_model.specs.Apply.{apply, carried_out}
use Rattle.redis_model.specs.Lists.{item, place}
use Rattle.lives_model.specs.declared.plan.Plan.{Plan}
use Rattle.lives_model.specs.Rows.{Rows, Elements, row_key}
use Rattle.lives_model.specs.Clean.{live_at}
use Rattle.lives_model.specs.Means.{LifeAt}
use Rattle.lives_model.specs.Page.{page}
use Rattle.lives_model.specs.LifeRows.{HasRowsOf, by_index, in_life}
use Rattle.lives_model.specs.LifePageLaws.{page_from}
use Rattle.lives_model.specs.LifeRangeLaws.{items_from, items_first, items_are}
use Rattle.lives_model.specs.Plans.{IsPlan, IsPlanOf}
use Rattle.plan_base.specs.Seen.{deadline_in}
use Rattle.plan_base.specs.KeyPlanLaws.{reading_plan}
use Rattle.plan_base.specs.LifePlans.{answering}
use Rattle.plan_base.specs.LifePlanLaws.{one_key_ahead}
use Rattle.list_plans.specs.declared.sight.ListSight.{ListSight}
use Rattle.list_plans.specs.ListLives.{list_found, items_found, IsListAt, IsListOf, SeesList}
use Rattle.list_plans.specs.ListLifeLaws.{sees_list}
use Rattle.list_plans.specs.ListIndexLaws.{index_row, at_list_place}
use Rattle.list_plans.specs.ListPlans.{by_list}

-- ---- what stands there

-- as many items as metadata says
pub items_there : (c : Rows) (k : Bytes) (found : Option ListSight) (items : List Bytes) → IsListOf c k found items → items_found found ≡ length items
items_there c k None items is = sym (ap length is)
items_there c k (Some list) items is = let ends = is.ends in omega (arith, ends)

-- an item under its index
pub item_is_there : (c : Rows) (k : Bytes) (list : ListSight) (items : List Bytes) (i : ℕ) → IsListAt c k list items → i < length items
    → get c (row_key Elements k list.version (u64 (list.head + i))) ≡ item items (Some i)
item_is_there c k list items i is within =
    let ends = is.ends in
    let low = is.low in
    is.rows Elements (u64 (list.head + i)) ∙ index_row items list.head (list.head + i) (omega (arith, ends, low, within)) ∙ at_list_place items list.head i

-- the values of rows are those of the items
values_are : (side_rows : List (Bytes × Bytes)) (k : Bytes) (version : ℕ) → map (λ row. row.1) (in_life Elements k version side_rows) ≡ map (λ row. row.1) side_rows
values_are [] k version = refl
values_are (row ∷ rows) k version = ap (λ vs. row.1 ∷ vs) (values_are rows k version)

-- the page from the index of an item on has it and those behind it
pub items_in_page : (c : Rows) (k : Bytes) (list : ListSight) (items : List Bytes) (i limit : ℕ) → IsListAt c k list items → i ≤ length items
    → map (λ row. row.1) (page c (row_key Elements k list.version (u64 (list.head + i))) (life_prefix element_space k list.version) limit) ≡ take limit (drop i items)
items_in_page c k list items i limit is within =
    let ends = is.ends in
    let low = is.low in
    let life : LifeAt = record { version = list.version; head = list.head } in
    let fit : list.head + length items < 2 ^ 64 = omega (arith, ends, low) in
    ap (map (λ row. row.1)) (page_from c k life (ListOf items) (record { scores = tt; indices = fit; rows = is.rows }) Elements (u64 (list.head + i)) limit
    ∙ ap (λ rows. take limit (in_life Elements k list.version rows)) (items_from i list.head items within fit)
    ∙ taken_rows limit (by_index (list.head + i) (drop i items)) k list.version
    ∙ ap (in_life Elements k list.version) (items_first limit (list.head + i) (drop i items)))
    ∙ values_are (by_index (list.head + i) (take limit (drop i items))) k list.version
    ∙ items_are (list.head + i) (take limit (drop i items))
  where
    taken_rows : (n : ℕ) (rows : List (Bytes × Bytes)) (k : Bytes) (version : ℕ) → take n (in_life Elements k version rows) ≡ in_life Elements k version (take n rows)
    taken_rows zero rows k version = refl
    taken_rows (suc n) [] k version = refl
    taken_rows (suc n) (row ∷ rows) k version = ap (λ rest. (row_key Elements k version row.0, row.1) ∷ rest) (taken_rows n rows k version)

-- ---- the plan

-- what is answered by what is found is what is answered by what is there
answers : (c : Rows) (k : Bytes) (m : RedisMap) (t : ℕ) (old : Option ℕ) (f : List Bytes → Reply) (g : Option ListSight → Reply)
    → ((found : Option ListSight) (items : List Bytes) → IsListOf c k found items → g found ≡ f items)
    → (s : Outcome (Option ListSight)) (o : Outcome (List Bytes)) → SeesList c k s o
    → by_list t old (λ found. answering t old (g found)) s ≡ answering t old (answered m (o >>= λ items. Ok (f items, m))).0
answers c k m t old f g alike (Ok found) (Ok items) s = ap (answering t old) (alike found items s)
answers c k m t old f g alike (Err e) (Err x) s = ap (λ e. answering t old (reply.Error e)) s
answers c k m t old f g alike (Ok found) (Err x) s = absurd s
answers c k m t old f g alike (Err e) (Ok items) s = absurd s

-- A command with one key that reads its list answers by the list that is found, and writes nothing.
pub list_reading : (c : Rows) (t fresh : ℕ) (d : Command) (k : Bytes) (f : List Bytes → Reply) (g : Option ListSight → Reply)
    → IsFalse (writes d) → keys_of d ≡ k ∷ [] → ((m : RedisMap) → carried_out m t d ≡ reading lists m k f)
    → ((found : Option ListSight) (items : List Bytes) → IsListOf c k found items → g found ≡ f items)
    → let old = deadline_in (live_at c t k) in let p = by_list t old (λ found. answering t old (g found)) (list_found (live_at c t k)) in IsPlan c t fresh d p.batch p.reply p.until
unfolding apply
list_reading c t fresh d k f g reads one is alike = record {
  plan = λ m means ready.
      let old : Option ℕ = deadline_in (live_at c t k) in
      let p = answering t old (answered m (at_key lists m k >>= λ items. Ok (f items, m))).0 in
      subst (λ (q : Plan). IsPlanOf c t fresh m d q.batch q.reply q.until) (sym (answers c k m t old f g alike (list_found (live_at c t k)) (at_key lists m k) (sees_list means k)))
      (one_key_ahead c t fresh m d p.reply k one (reading_plan fresh d p.reply means reads (sym (ap (λ o. (answered m o).0) (is m)))));
}
