-- What stands at the key of a collection, and how many elements the collection has after a batch.
use Rattle.std.proofs.Common.{ℕ, ◌≡◌, ◌+◌, ◌-◌, ◌^◌, refl, sym, ap, subst, ◌∙◌, Bool, true, false, cond, List, [], ◌∷◌, ◌++◌, arith}
use Rattle.std.proofs.lemmas.Bool.{and_from}
use Rattle.std.proofs.lemmas.Bool.Decides.{Decides-eqb}
use Rattle.std.proofs.lemmas.List.Sums.{length-filter}
use Rattle.std.proofs.lemmas.Slice.Eq.{starts_is}
use Rattle.std.specs.Prelude.{Option, Some, None, Ok, IsTrue, IsSome, is_some, not, ◌&&◌, nat_eq, count_by}
use Rattle.std.specs.Cmp.{nat_cmp_is}
use Rattle.std.specs.List.{list_all, starts_with}
use Rattle.std.specs.Ordering.{is_lt, ordering_then}
use Rattle.std.specs.declared.cmp.Ordering.TheVariants.{Equal}
use Rattle.std.specs.FinMap.Entries.{find}
use Rattle.kv_base.specs.Map.{Bytes, byte_cmp, same, same_itself, kept, get, keep, size, get-keep}
use Rattle.kv_base.specs.RawKeys.{is_key, is_version, life_prefix}
use Rattle.kv_base.specs.declared.kind.Kind.{Kind as Code}
use Rattle.batch_codec.specs.Batches.{Batch, after, over}
use Rattle.batch_codec.specs.BatchLaws.{get-after}
use Rattle.redis_model.specs.Value.{Value, Entry, RedisMap}
use Rattle.redis_model.specs.Outcome.{Outcome, ◌>>=◌, Kind, seen, at_key}
use Rattle.lives_model.specs.Rows.{Rows, Side, Elements, Scores, space_of, row_key}
use Rattle.lives_model.specs.RowKeyLaws.{row_key_is}
use Rattle.lives_model.specs.Clean.{live_at}
use Rattle.lives_model.specs.Means.{Means, MeansAt, StandsForEntry, LifeAt, row_of, has_life}
use Rattle.lives_model.specs.OwnKeyLaws.{no_size, empty_is}
use Rattle.lives_model.specs.Passing.{is_asked}
use Rattle.lives_model.specs.LifeRows.{HasRowsOf}
use Rattle.lives_model.specs.Plans.{IsFresh}
use Rattle.lives_model.specs.StepLaws.{version_fits, live_fits}
use Rattle.plan_base.specs.declared.life.LifeSight.{LifeSight}
use Rattle.plan_base.specs.Lives.{StandsAs, SeesLife, life_found}
use Rattle.plan_base.specs.LifeLaws.{sees_life, size_there}
use Rattle.plan_base.specs.LifeSteps.{life_on}
use Rattle.plan_base.specs.LifeChanges.{WantsRows, adds_row, removes_row, added_rows, removed_rows}
use Rattle.plan_base.specs.LifeSizeLaws.{passing_after_batch, rows_of_life}
use Rattle.life_plans.specs.ChangePlans.{HasElements, size_after}
use Rattle.life_plans.specs.Changes.{FindsLife}

-- ---- the entries of a batch

-- a test that each key passes that is there is passed by each entry
entries_pass : {X : Type 0} (p : Bytes → Bool) (es : List (Bytes × X)) → ((q : Bytes) → is_some (find byte_cmp q es) ≡ true → p q ≡ true) → list_all (λ e. p e.0) es ≡ true
entries_pass p [] h = refl
entries_pass p (e ∷ es) h =
    and_from (p e.0) (list_all (λ x. p x.0) es)
    (h e.0 (ap (λ b. is_some (cond b (Some e.1) (find byte_cmp e.0 es))) (same_itself e.0)))
    (entries_pass p es (λ q there. h q (by_test q (same q e.0) there)))
  where
    by_test : (q : Bytes) (b : Bool) → is_some (find byte_cmp q es) ≡ true → is_some (cond b (Some e.1) (find byte_cmp q es)) ≡ true
    by_test q true there = refl
    by_test q false there = there

batch_passes : (p : Bytes → Bool) (b : Batch) → ((raw : Bytes) → IsSome (get b raw) → p raw ≡ true) → list_all (λ e. p e.0) b.entries ≡ true
unfolding get
batch_passes p b h = entries_pass p b.entries h

-- where no entry passes none are counted
counts_none : (p : Bytes × Option Bytes → Bool) (b : Batch) → ((raw : Bytes) (row : Option Bytes) → get b raw ≡ Some row → p (raw, row) ≡ false) → count_by p b.entries ≡ 0
unfolding size keep
counts_none p b h = sym (length-filter p b.entries) ∙ (no_size (keep (λ raw row. p (raw, row)) b)).1 (empty_is (keep (λ raw row. p (raw, row)) b) (λ raw. get-keep (λ q row. p (q, row)) b raw ∙ by_get raw (get b raw) refl))
  where
    by_get : (raw : Bytes) (o : Option (Option Bytes)) → get b raw ≡ o → kept (λ row. p (raw, row)) o ≡ None
    by_get raw None is = refl
    by_get raw (Some row) is = ap (λ t. cond t (Some row) None) (h raw row is)

-- what has to be there is not missing
never : (old new : Bool) → (old ≡ true → new ≡ true) → (not new && old) ≡ false
never old true stays = refl
never true false stays = absurd (let no : false ≡ true = stays refl in cc)
never false false stays = refl

turned : (s t : Bool) → (s && not t) ≡ (not t && s)
turned true true = refl
turned true false = refl
turned false true = refl
turned false false = refl

-- ---- the raw keys of a life

-- those of its elements
abbrev pub is_of_life : Bytes → ℕ → Bytes → Bool
is_of_life k version = is_asked (life_prefix (space_of Elements) k version) (life_prefix (space_of Elements) k version)

-- what begins with a prefix is not below it
not_below : (prefix x : Bytes) → not (is_lt (byte_cmp (prefix ++ x) prefix)) ≡ true
not_below [] [] = refl
not_below [] (b ∷ x) = refl
not_below (p ∷ prefix) x = ap (λ o. not (is_lt (ordering_then o (byte_cmp (prefix ++ x) prefix)))) (sym (nat_cmp_is p p Equal refl)) ∙ not_below prefix x

element_is_of_life : (k : Bytes) (version : ℕ) (subkey : Bytes) → is_of_life k version (row_key Elements k version subkey) ≡ true
unfolding row_key
element_is_of_life k version subkey =
    let prefix : Bytes = life_prefix (space_of Elements) k version in
    and_from (starts_with nat_eq (prefix ++ subkey) prefix) _
    ((starts_is Decides-eqb (prefix ++ subkey) prefix (starts_with nat_eq (prefix ++ subkey) prefix) refl).1 subkey refl)
    (not_below prefix subkey)

-- a batch that wants rows of a life has none on the side of scores
no_score_wanted : (c : Rows) (k : Bytes) (version : ℕ) (wanted : Batch) (rows : Bytes → Option Bytes) → IsTrue (is_key k) → IsTrue (is_version version) → WantsRows c k version wanted rows
    → (subkey : Bytes) → get wanted (row_key Scores k version subkey) ≡ None
no_score_wanted c k version wanted rows short fits w subkey = by_get (get wanted (row_key Scores k version subkey)) refl
  where
    by_get : (o : Option (Option Bytes)) → get wanted (row_key Scores k version subkey) ≡ o → o ≡ None
    by_get None is = refl
    by_get (Some x) is =
        let r = w.only (row_key Scores k version subkey) (ap is_some is) in
        let side : Scores ≡ Elements = (row_key_is Scores Elements k k version version subkey r.subkey short short fits fits r.is).side_is in
        absurd (cc)

-- ---- what stands at the key

-- an entry with this collection, whose life has this version
pub record HoldsLife {A : Type 0} (kind : Kind A) (c : Rows) (t : ℕ) (m : RedisMap) (k : Bytes) (version : ℕ) (a : A) : Type 0 where
  pub entry : Entry
  pub there : get m k ≡ Some entry
  pub stands : StandsForEntry c t k entry
  pub value : entry.value ≡ kind.value_of a
  pub goes : stands.life.version ≡ version

-- or nothing
abbrev pub IsHeldLife : {A : Type 0} → Kind A → Rows → ℕ → RedisMap → Bytes → Option LifeSight → A → Type 0
IsHeldLife kind c t m k None a = (get m k ≡ None) × (a ≡ kind.none)
IsHeldLife kind c t m k (Some life) a = HoldsLife kind c t m k life.version a

-- outcomes that are equal have one value
abbrev ok : {X : Type 0} → X → Outcome X
ok x = Ok x

same_ok : {X : Type 0} (x y : X) → ok x ≡ ok y → x ≡ y
same_ok x y e = cc

module _ {A : Type 0} {kind : Kind A} {code : Code} {row : A → Bytes → Option Bytes} (stands : StandsAs kind code row) where
  -- what is found of the life tells what stands there
  pub held : {c : Rows} {t : ℕ} {m : RedisMap} (means : Means c t m) (k : Bytes) (found : Option LifeSight) (a : A)
      → life_found code (live_at c t k) ≡ Ok found → at_key kind m k ≡ Ok a → IsHeldLife kind c t m k found a
  held {c} {t} {m} means k found a is at = by_entry (get m k) refl (means.stands k)
    where
      by_entry : (o : Option Entry) → get m k ≡ o → MeansAt c t k o → IsHeldLife kind c t m k found a
      by_entry None e s =
          subst (λ (f : Option LifeSight). IsHeldLife kind c t m k f a) (same_ok None found (sym (ap (life_found code) s) ∙ is))
          (e, sym (same_ok kind.none a (sym (ap (seen kind) e) ∙ at)))
      by_entry (Some x) e s =
          let sees : kind.seen_as x.value ≡ Ok a = sym (ap (seen kind) e) ∙ at in
          let that : Some (record { version = s.life.version; size = kind.count a }) ≡ found =
          same_ok _ found (sym (ap (life_found code) s.meta ∙ stands.found x.value s.life s.expire ∙ ap (λ o. o >>= λ y. Ok (Some (record { version = s.life.version; size = kind.count y }))) sees) ∙ is) in
          subst (λ (f : Option LifeSight). IsHeldLife kind c t m k f a) that
          (record { entry = x; there = e; stands = s; value = stands.is x.value a sees; goes = refl })

  -- the version of the life that goes on is within its limit
  pub held_version : (c : Rows) (t : ℕ) (m : RedisMap) (k : Bytes) (fresh : ℕ) (found : Option LifeSight) (a : A) → IsTrue (is_version fresh) → IsHeldLife kind c t m k found a → IsTrue (is_version (life_on fresh found).version)
  held_version c t m k fresh None a fits h = fits
  held_version c t m k fresh (Some life) a fits h =
      ap is_version (sym h.goes)
      ∙ version_fits h.entry.value h.stands.life h.stands.expire (ap has_life h.value ∙ stands.life a) (live_fits c t k _ h.stands.meta)

  module _ (has : HasElements kind row) where
    -- where the first item of a list has its index does not matter
    any_head : (a : A) (head other : ℕ) (side : Side) (subkey : Bytes) → row_of (kind.value_of a) head side subkey ≡ row_of (kind.value_of a) other side subkey
    any_head a head other Elements subkey = stands.rows a head subkey ∙ sym (stands.rows a other subkey)
    any_head a head other Scores subkey = has.no_scores a head subkey ∙ sym (has.no_scores a other subkey)

    -- the rows of the collection stand in the life that goes on, or else in a new one
    held_rows : (c : Rows) (t : ℕ) (m : RedisMap) (k : Bytes) (fresh : ℕ) (found : Option LifeSight) (a : A) → IsTrue (is_version fresh) → IsFresh c fresh k → IsHeldLife kind c t m k found a
        → HasRowsOf c k (life_on fresh found) (kind.value_of a)
    held_rows c t m k fresh None a fits above h =
        record { scores = has.scores a; indices = has.indices a (2 ^ 63); rows = λ side subkey. above side fresh subkey (omega arith) fits ∙ sym (no_row side subkey) }
      where
        no_row : (side : Side) (subkey : Bytes) → row_of (kind.value_of a) (2 ^ 63) side subkey ≡ None
        no_row Elements subkey = stands.rows a (2 ^ 63) subkey ∙ ap (λ x. row x subkey) h.1 ∙ stands.none subkey
        no_row Scores subkey = has.no_scores a (2 ^ 63) subkey
    held_rows c t m k fresh (Some life) a fits above h = record {
      scores = has.scores a;
      indices = has.indices a (2 ^ 63);
      rows = λ side subkey.
          ap (λ (v : ℕ). get c (row_key side k v subkey)) (sym h.goes)
          ∙ h.stands.rows (ap has_life h.value ∙ stands.life a) side subkey
          ∙ ap (λ (v : Value). row_of v h.stands.life.head side subkey) h.value
          ∙ any_head a h.stands.life.head (2 ^ 63) side subkey;
    }

    -- so this is found there
    pub finds_life : {c : Rows} {t : ℕ} {m : RedisMap} (means : Means c t m) (k : Bytes) (fresh : ℕ) (found : Option LifeSight) (a : A)
        → life_found code (live_at c t k) ≡ Ok found → at_key kind m k ≡ Ok a → IsTrue (is_version fresh) → IsFresh c fresh k → FindsLife kind row c k fresh found a
    finds_life {c} {t} {m} means k fresh found a is at fits above =
        let h = held means k found a is at in
        let rows = held_rows c t m k fresh found a fits above h in
        record {
          life =
              subst (λ (o : Outcome A). SeesLife kind row c k (Ok found) o) at
              (subst (λ (s : Outcome (Option LifeSight)). SeesLife kind row c k s (at_key kind m k)) is (sees_life stands means k));
          version = held_version c t m k fresh found a fits h;
          elements = λ subkey. rows.rows Elements subkey ∙ stands.rows a (life_on fresh found).head subkey;
          rows = rows;
        }

    -- ---- after a batch

    module _ (c : Rows) (k : Bytes) (life : LifeAt) (a b : A) (wanted : Batch) (short : IsTrue (is_key k)) (fits : IsTrue (is_version life.version))
        (there : HasRowsOf c k life (kind.value_of a)) (w : WantsRows c k life.version wanted (row b)) where
      -- the rows of the other collection stand there
      rows_after : HasRowsOf (after c wanted) k life (kind.value_of b)
      rows_after = record { scores = has.scores b; indices = has.indices b life.head; rows = by_side }
        where
          by_side : (side : Side) (subkey : Bytes) → get (after c wanted) (row_key side k life.version subkey) ≡ row_of (kind.value_of b) life.head side subkey
          by_side Elements subkey = get-after c wanted (row_key Elements k life.version subkey) ∙ w.after subkey ∙ sym (stands.rows b life.head subkey)
          by_side Scores subkey =
              get-after c wanted (row_key Scores k life.version subkey)
              ∙ ap (λ o. over o (get c (row_key Scores k life.version subkey))) (no_score_wanted c k life.version wanted (row b) short fits w subkey)
              ∙ there.rows Scores subkey
              ∙ has.no_scores a life.head subkey
              ∙ sym (has.no_scores b life.head subkey)

      -- each entry of the batch is of the life
      all_of_life : list_all (λ e. is_of_life k life.version e.0) wanted.entries ≡ true
      all_of_life = batch_passes (is_of_life k life.version) wanted (λ raw h.
          let r = w.only raw h in
          ap (is_of_life k life.version) r.is ∙ element_is_of_life k life.version r.subkey)

      -- it has the elements that were there, with those that are added, without those that go
      pub count_after : kind.count b + removed_rows c wanted ≡ kind.count a + added_rows c wanted
      count_after =
          ap (λ n. n + removed_rows c wanted) (has.count b life.head ∙ sym (rows_of_life (after c wanted) k life (kind.value_of b) rows_after))
          ∙ passing_after_batch (is_of_life k life.version) c wanted all_of_life
          ∙ ap (λ n. n + added_rows c wanted) (rows_of_life c k life (kind.value_of a) there ∙ sym (has.count a life.head))

    module _ (c : Rows) (k : Bytes) (fresh : ℕ) (found : Option LifeSight) (a b : A) (wanted : Batch) (short : IsTrue (is_key k))
        (finds : FindsLife kind row c k fresh found a) (w : WantsRows c k (life_on fresh found).version wanted (row b)) where
      -- the same of the life that is found
      pub found_count_after : kind.count b + removed_rows c wanted ≡ kind.count a + added_rows c wanted
      found_count_after = count_after c k (life_on fresh found) a b wanted short finds.version finds.rows w

      -- by the number in its metadata
      pub size_is : kind.count b ≡ size_after found (added_rows c wanted) (removed_rows c wanted)
      size_is =
          let size = size_there stands c k found a finds.life in
          let counts = found_count_after in
          omega (arith, size, counts)

      -- a wanted row is that of an element, which had its row before
      pub wanted_row : (raw : Bytes) (e : Option Bytes) → get wanted raw ≡ Some e → (subkey : Bytes) × (get c raw ≡ row a subkey) × (e ≡ row b subkey)
      wanted_row raw e is =
          let r = w.only raw (ap is_some is) in (
            r.subkey,
            ap (get c) r.is ∙ finds.elements r.subkey,
            ap (λ (o : Option (Option Bytes)). over o (get c (row_key Elements k (life_on fresh found).version r.subkey))) (sym (ap (get wanted) (sym r.is) ∙ is)) ∙ w.after r.subkey,
          )

      -- none go where each element stays
      none_go : ((subkey : Bytes) → IsSome (row a subkey) → IsSome (row b subkey)) → removed_rows c wanted ≡ 0
      unfolding removed_rows
      none_go stay = counts_none (removes_row c) wanted (λ raw e is.
          let here = wanted_row raw e is in
          (λ i. not (is_some (here.2 i)) && is_some (here.1 i)) ∙ never (is_some (row a here.0)) (is_some (row b here.0)) (stay here.0))

      -- and none are added where each was there
      none_come : ((subkey : Bytes) → IsSome (row b subkey) → IsSome (row a subkey)) → added_rows c wanted ≡ 0
      unfolding added_rows
      none_come were = counts_none (adds_row c) wanted (λ raw e is.
          let here = wanted_row raw e is in
          (λ i. is_some (here.2 i) && not (is_some (here.1 i))) ∙ turned (is_some (row b here.0)) _ ∙ never (is_some (row b here.0)) (is_some (row a here.0)) (were here.0))

      -- where each element stays it has so many more as are added
      pub added_is : ((subkey : Bytes) → IsSome (row a subkey) → IsSome (row b subkey)) → kind.count b - kind.count a ≡ added_rows c wanted
      added_is stay = let counts = found_count_after in let none = none_go stay in omega (arith, counts, none)

      -- where each was there it has so many fewer as go
      pub removed_is : ((subkey : Bytes) → IsSome (row b subkey) → IsSome (row a subkey)) → kind.count a - kind.count b ≡ removed_rows c wanted
      removed_is were = let counts = found_count_after in let none = none_come were in omega (arith, counts, none)
