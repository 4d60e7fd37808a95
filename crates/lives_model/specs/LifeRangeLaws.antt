-- The rows of a list from an index on, and the members of a sorted set from a score on.
use Rattle.std.proofs.Common.{◌≡◌, ℕ, zero, suc, ◌+◌, ◌<◌, ◌≤◌, ◌^◌, List, [], ◌∷◌, length, map, take, drop, refl, sym, ap, ◌∙◌, Bool, true, false, cond, append-nil, arith}
use Rattle.std.proofs.lemmas.Bool.Decides.{nat_tests}
use Rattle.std.proofs.lemmas.Int.{ints}
use Rattle.std.proofs.Math.Seq.{drop-append_seam}
use Rattle.std.specs.Prelude.{not, filter, IsTrue, ℤ, int_le}
use Rattle.std.specs.declared.cmp.Ordering.{Ordering}
use Rattle.std.specs.declared.cmp.Ordering.TheVariants.{Less, Equal, Greater}
use Rattle.std.specs.Ordering.{is_lt, int_cmp, nat_cmp, ordering_then}
use Rattle.kv_base.specs.Map.{Bytes, Map, byte_cmp, get}
use Rattle.kv_base.specs.Number.{fits}
use Rattle.kv_base.specs.Fields.{u64}
use Rattle.kv_base.specs.FieldLaws.{length-u64}
use Rattle.kv_base.specs.RawKeys.{life_prefix, score_number}
use Rattle.kv_base.specs.RawKeyLaws.{score_number_low}
use Rattle.subkey_codec.specs.OrderLaws.{by_fronts, numbers_ascend, score_numbers_ascend}
use Rattle.redis_model.specs.Value.{ZSet}
use Rattle.redis_model.specs.SortedSets.{Scored, ranked}
use Rattle.lives_model.specs.Rows.{Side, Scores, space_of, row_key}
use Rattle.lives_model.specs.Means.{HasWholeScores}
use Rattle.lives_model.specs.LifeRows.{by_index, rank_key, value_rows, rows_from_subkey}
use Rattle.lives_model.specs.LifeRowLaws.{ScoresFit, all_fit, fit_order}

-- what stands behind the prefix of a life in a raw key of it is the subkey
pub behind_prefix : (side : Side) (k : Bytes) (version : ℕ) (subkey : Bytes) → drop (length (life_prefix (space_of side) k version)) (row_key side k version subkey) ≡ subkey
unfolding row_key
behind_prefix side k version subkey = drop-append_seam (life_prefix (space_of side) k version) subkey

-- ---- items

-- no number is below one that is not above it
not_below : (a b : ℕ) → b ≤ a → is_lt (nat_cmp a b) ≡ false
not_below a b h = grind (arith, nat_tests)

-- and one below another is
is_below : (a b : ℕ) → a < b → is_lt (nat_cmp a b) ≡ true
is_below a b h = grind (arith, nat_tests)

-- from an index on that is not above the first all items stand
all_from : (a head : ℕ) (l : List Bytes) → a ≤ head → head + length l < 2 ^ 64 → rows_from_subkey (u64 a) (by_index head l) ≡ by_index head l
all_from a head [] low fit = refl
all_from a head (v ∷ l) low fit =
    let here : is_lt (byte_cmp (u64 head) (u64 a)) ≡ false = ap is_lt (numbers_ascend head a (omega arith) (omega arith)) ∙ not_below head a low in
    let rest = all_from a (head + 1) l (omega arith) (omega arith) in
    λ i. cond (not (here i)) ((u64 head, v) ∷ rest i) (rest i)

-- from the index of an item on stand it and those behind it
pub items_from : (i head : ℕ) (l : List Bytes) → i ≤ length l → head + length l < 2 ^ 64 → rows_from_subkey (u64 (head + i)) (by_index head l) ≡ by_index (head + i) (drop i l)
items_from zero head l low fit =
    let here : head + 0 ≡ head = omega arith in
    ap (λ (n : ℕ). rows_from_subkey (u64 n) (by_index head l)) here ∙ all_from head head l (omega arith) fit ∙ ap (λ (n : ℕ). by_index n l) (sym here)
items_from (suc i) head [] low fit = absurd (omega arith)
items_from (suc i) head (v ∷ l) low fit =
    let past : is_lt (byte_cmp (u64 head) (u64 (head + suc i))) ≡ true = ap is_lt (numbers_ascend head (head + suc i) (omega arith) (omega arith)) ∙ is_below head (head + suc i) (omega arith) in
    let place : head + suc i ≡ (head + 1) + i = omega arith in
    ap (λ b. cond (not b) ((u64 head, v) ∷ rows_from_subkey (u64 (head + suc i)) (by_index (head + 1) l)) (rows_from_subkey (u64 (head + suc i)) (by_index (head + 1) l))) past
    ∙ ap (λ (n : ℕ). rows_from_subkey (u64 n) (by_index (head + 1) l)) place
    ∙ items_from i (head + 1) l (omega arith) (omega arith)
    ∙ ap (λ (n : ℕ). by_index n (drop i l)) (sym place)

-- the first items
pub items_first : (n head : ℕ) (l : List Bytes) → take n (by_index head l) ≡ by_index head (take n l)
items_first zero head l = refl
items_first (suc n) head [] = refl
items_first (suc n) head (v ∷ l) = ap (λ rows. (u64 head, v) ∷ rows) (items_first n (head + 1) l)

-- the values of the rows are the items
pub items_are : (head : ℕ) (l : List Bytes) → map (λ row. row.1) (by_index head l) ≡ l
items_are head [] = refl
items_are head (v ∷ l) = ap (λ vs. v ∷ vs) (items_are (head + 1) l)

-- ---- members by score

-- a member below a score, by its bytes
pub below_score : (e : Scored) (s : ℤ) → IsTrue (fits e.1) → IsTrue (fits s) → is_lt (byte_cmp (rank_key e) (u64 (score_number s))) ≡ not (int_le s e.1)
below_score e s h g =
    ap (λ (x : Bytes). is_lt (byte_cmp (rank_key e) x)) (sym (append-nil (u64 (score_number s))))
    ∙ ap is_lt (by_fronts (u64 (score_number e.1)) (u64 (score_number s)) e.0 [] (length-u64 (score_number e.1) ∙ sym (length-u64 (score_number s)))
    ∙ ap (λ o. ordering_then o (byte_cmp e.0 [])) (numbers_ascend (score_number e.1) (score_number s) (score_number_low e.1 h) (score_number_low s g) ∙ score_numbers_ascend e.1 s h g))
    ∙ no_less (int_cmp e.1 s) e.0 ∙ by_score e.1 s
  where
    no_less : (o : Ordering) (x : Bytes) → is_lt (ordering_then o (byte_cmp x [])) ≡ is_lt o
    no_less Less x = refl
    no_less Equal [] = refl
    no_less Equal (b ∷ x) = refl
    no_less Greater x = refl

    by_score : (a b : ℤ) → is_lt (int_cmp a b) ≡ not (int_le b a)
    by_score a b = grind (arith, nat_tests, ints)

-- from a score on stand the members whose score is not below it
ranks_from : (es : List Scored) (s : ℤ) → ScoresFit es → IsTrue (fits s) → rows_from_subkey (u64 (score_number s)) (map (λ e. (rank_key e, [])) es) ≡ map (λ e. (rank_key e, [])) (filter (λ e. int_le s e.1) es)
ranks_from [] s all h = refl
ranks_from (e ∷ es) s all h = by_test (int_le s e.1) (below_score e s all.0 h) (ranks_from es s all.1 h)
  where
    by_test : (b : Bool) → is_lt (byte_cmp (rank_key e) (u64 (score_number s))) ≡ not b → rows_from_subkey (u64 (score_number s)) (map (λ e. (rank_key e, [])) es) ≡ map (λ e. (rank_key e, [])) (filter (λ e. int_le s e.1) es)
        → rows_from_subkey (u64 (score_number s)) (map (λ e. (rank_key e, [])) (e ∷ es)) ≡ map (λ e. (rank_key e, [])) (cond b (e ∷ filter (λ e. int_le s e.1) es) (filter (λ e. int_le s e.1) es))
    by_test true is rest = (λ i. cond (not (is i)) ((rank_key e, []) ∷ rest i) (rest i))
    by_test false is rest = (λ i. cond (not (is i)) ((rank_key e, []) ∷ rest i) (rest i))

-- so it is with those of a sorted set
pub scores_from : (z : Map ℤ) (head : ℕ) (s : ℤ) → HasWholeScores (ZSet z) → IsTrue (fits s)
    → rows_from_subkey (u64 (score_number s)) (value_rows (ZSet z) head Scores) ≡ map (λ e. (rank_key e, [])) (filter (λ e. int_le s e.1) (ranked z))
unfolding get
scores_from z head s whole h = ranks_from (ranked z) s (fit_order z.entries (all_fit z.entries z.sorted whole)) h
