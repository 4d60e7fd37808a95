-- The elements that are read of a life are those of its collection.
use Rattle.std.proofs.Common.{◌≡◌, ℕ, ◌+◌, ◌^◌, List, [], ◌∷◌, ◌++◌, length, drop, map, refl, sym, ap, subst, ◌∙◌, true, cond, length-append, arith}
use Rattle.std.specs.Prelude.{Option, Some, None, IfSome, Ok, IsTrue, ℤ, option_map}
use Rattle.std.specs.FinMap.Entries.{find}
use Rattle.kv_base.specs.Map.{Bytes, byte_cmp, get, same_itself}
use Rattle.kv_base.specs.Fields.{text, u64}
use Rattle.kv_base.specs.FieldLaws.{length-u64, length-text}
use Rattle.kv_base.specs.RawKeys.{life_prefix}
use Rattle.kv_base.specs.MetaValues.{MetaValue, LifeValue}
use Rattle.kv_base.specs.declared.kind.Kind.{Kind as Code}
use Rattle.redis_model.specs.Value.{Value, Str, Hash, ListOf, SetOf, ZSet, Entry, RedisMap}
use Rattle.redis_model.specs.Limits.{IsWholeScore}
use Rattle.redis_model.specs.Outcome.{Outcome, Kind, seen, at_key}
use Rattle.lives_model.specs.Rows.{Rows, Side, Elements, space_of, row_key}
use Rattle.lives_model.specs.Clean.{live_at}
use Rattle.lives_model.specs.Means.{Means, MeansAt, StandsForEntry, LifeAt, HasWholeScores, meta_for, row_of, score_text}
use Rattle.lives_model.specs.PrefixLaws.{passing_all}
use Rattle.lives_model.specs.LifeRows.{RowAt, value_rows, in_life, HasIndices}
use Rattle.lives_model.specs.LifeRowLaws.{value_rows_sorted, value_rows_found}
use Rattle.lives_model.specs.LifeRangeLaws.{behind_prefix}
use Rattle.plan_base.specs.declared.life.LifeSight.{LifeSight}
use Rattle.plan_base.specs.Lives.{StandsAs, IsLifeOf, SeesLife, life_found}
use Rattle.plan_base.specs.LifeLaws.{sees_life}
use Rattle.life_pages.specs.LifeElements.{elements_prefix, life_rows, subkey_in, element_in, elements_in}

-- ---- subkeys

-- the prefix of a life is as long as its key and 14 bytes
length-prefix : (space : ℕ) (k : Bytes) (version : ℕ) → length (life_prefix space k version) ≡ 14 + length k
length-prefix space k version =
    let parts = length-append (text k) (u64 version) in
    let front = length-text k in
    let back = length-u64 version in
    omega (arith, parts, front, back)

-- what is behind the prefix in a raw key of a life is the subkey
pub subkey_is : (side : Side) (k : Bytes) (version : ℕ) (subkey : Bytes) → subkey_in k (row_key side k version subkey) ≡ subkey
subkey_is side k version subkey = ap (λ n. drop n (row_key side k version subkey)) (sym (length-prefix (space_of side) k version)) ∙ behind_prefix side k version subkey

-- so the elements of rows of a life are those that stand there
elements_back : (k : Bytes) (version : ℕ) (rows : List RowAt) → map (element_in k) (in_life Elements k version rows) ≡ rows
elements_back k version [] = refl
elements_back k version (row ∷ rows) = λ i. (subkey_is Elements k version row.0 i, row.1) ∷ elements_back k version rows i

-- ---- the elements of a collection

-- where no key is found there are no rows
none_found : (rows : List RowAt) → ((q : Bytes) → find byte_cmp q rows ≡ None) → rows ≡ []
none_found [] none = refl
none_found (row ∷ rows) none =
    let here : Some row.1 ≡ None = sym (ap (λ b. cond b (Some row.1) (find byte_cmp row.0 rows)) (same_itself row.0)) ∙ none row.0 in
    absurd (cc)

-- what has a life of hashes, sets and sorted sets is no list
no_indices : (v : Value) (life : LifeAt) (x : ℕ) (code : Code) (version n head : ℕ) → meta_for v life x ≡ LifeValue code x version n → HasIndices v head
no_indices (ListOf l) life x code version n head is = absurd (cc)
no_indices (Str v) life x code version n head is = tt
no_indices (Hash h) life x code version n head is = tt
no_indices (SetOf s) life x code version n head is = tt
no_indices (ZSet z) life x code version n head is = tt

-- what has no elements has no scores
no_scores : (v : Value) → ((q : Bytes) → row_of v 0 Elements q ≡ None) → HasWholeScores v
no_scores (Str v) none = tt
no_scores (Hash h) none = tt
no_scores (ListOf l) none = tt
no_scores (SetOf s) none = tt
no_scores (ZSet z) none = λ q. by_score (get z q) (none q)
  where
    by_score : (o : Option ℤ) → option_map score_text o ≡ None → IfSome o IsWholeScore
    by_score None is = tt
    by_score (Some score) is = absurd (cc)

module _ {A : Type 0} {kind : Kind A} {code : Code} {row : A → Bytes → Option Bytes} (stands : StandsAs kind code row) where
  indices : (a : A) (head : ℕ) → HasIndices (kind.value_of a) head
  indices a head = no_indices (kind.value_of a) (record { version = 0; head = head }) 0 code 0 (kind.count a) head (stands.meta a (record { version = 0; head = head }) 0)

  -- the rows of a collection are found by its subkeys
  found_rows : (a : A) (head : ℕ) (q : Bytes) → HasWholeScores (kind.value_of a) → find byte_cmp q (value_rows (kind.value_of a) head Elements) ≡ row a q
  found_rows a head q whole = value_rows_found (kind.value_of a) head Elements q whole (indices a head) ∙ stands.rows a head q

  -- the rows of its life are those under the prefix
  rows_are : (c : Rows) (k : Bytes) (version : ℕ) (a : A) (head : ℕ) → HasWholeScores (kind.value_of a) → ((subkey : Bytes) → get c (row_key Elements k version subkey) ≡ row a subkey)
      → life_rows c k version ≡ in_life Elements k version (value_rows (kind.value_of a) head Elements)
  unfolding row_key
  rows_are c k version a head whole is =
      passing_all (elements_prefix k version) c (value_rows (kind.value_of a) head Elements) (value_rows_sorted (kind.value_of a) head Elements whole (indices a head))
      (λ q. is q ∙ sym (found_rows a head q whole))

  -- what is read of the life of a collection is its elements
  pub elements_are : (c : Rows) (k : Bytes) (found : Option LifeSight) (a : A) (head : ℕ) → HasWholeScores (kind.value_of a) → IsLifeOf kind row c k found a
      → elements_in c k found ≡ value_rows (kind.value_of a) head Elements
  elements_are c k None a head whole is =
      sym (none_found (value_rows (kind.value_of a) head Elements) (λ q. found_rows a head q whole ∙ ap (λ x. row x q) is ∙ stands.none q))
  elements_are c k (Some life) a head whole is =
      ap (map (element_in k)) (rows_are c k life.version a head whole is.1) ∙ elements_back k life.version (value_rows (kind.value_of a) head Elements)

  -- the scores of what rows mean are whole numbers
  whole_scores : (c : Rows) (t : ℕ) (k : Bytes) (o : Option Entry) (a : A) → MeansAt c t k o → seen kind o ≡ Ok a → HasWholeScores (kind.value_of a)
  whole_scores c t k None a s is =
      let same : kind.none ≡ a = cc in
      subst (λ (x : A). HasWholeScores (kind.value_of x)) same (no_scores (kind.value_of kind.none) (λ q. stands.rows kind.none 0 q ∙ stands.none q))
  whole_scores c t k (Some e) a s is = subst HasWholeScores (stands.is e.value a is) s.scores

  -- so where rows mean a map, what is read of the life that is found at a key is the elements of the collection there
  pub elements_there : {c : Rows} {t : ℕ} {m : RedisMap} (means : Means c t m) (k : Bytes) (found : Option LifeSight) (a : A) (head : ℕ)
      → life_found code (live_at c t k) ≡ Ok found → at_key kind m k ≡ Ok a → elements_in c k found ≡ value_rows (kind.value_of a) head Elements
  elements_there {c} {t} {m} means k found a head life there =
      let life_is : SeesLife kind row c k (Ok found) (Ok a) =
      subst (λ (o : Outcome A). SeesLife kind row c k (Ok found) o) there
      (subst (λ (f : Outcome (Option LifeSight)). SeesLife kind row c k f (at_key kind m k)) life (sees_life stands means k)) in
      elements_are c k found a head (whole_scores c t k (get m k) a (means.stands k) there) life_is
