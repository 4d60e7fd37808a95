-- Which members the rows have that stand from an edge on and ahead of another one.
use Rattle.std.proofs.Common.{◌≡◌, ℕ, refl, sym, ap, subst, ◌∙◌, Bool, true, false, cond, List, [], ◌∷◌, ◌++◌, map, append-nil, arith}
use Rattle.std.proofs.lemmas.Bool.Decides.{nat_tests}
use Rattle.std.proofs.lemmas.Int.{ints}
use Rattle.std.specs.Prelude.{Some, None, T, IsTrue, ◌&&◌, not, filter, ℤ, pos, ◌+ℤ◌, int_le, int_lt}
use Rattle.std.specs.List.{take_while}
use Rattle.std.specs.Ordering.{is_lt}
use Rattle.std.specs.FinMap.Entries.{is_sorted}
use Rattle.kv_base.specs.Map.{Bytes, Map, byte_cmp, sorted-filter}
use Rattle.kv_base.specs.Number.{fits}
use Rattle.kv_base.specs.Fields.{u64}
use Rattle.kv_base.specs.RawKeys.{score_number}
use Rattle.subkey_codec.specs.OrderLaws.{behind_front}
use Rattle.redis_model.specs.declared.command.Bound.{Bound}
use Rattle.redis_model.specs.declared.command.Bound.TheVariants.{Least, Greatest, Closed, Past}
use Rattle.redis_model.specs.Value.{ZSet}
use Rattle.redis_model.specs.Limits.{IsWholeScore, IsBound}
use Rattle.redis_model.specs.SortedSets.{Scored, rank_cmp, ranked, to_bound, between}
use Rattle.lives_model.specs.Rows.{Rows, Scores, row_key}
use Rattle.lives_model.specs.Means.{LifeAt}
use Rattle.lives_model.specs.Passing.{passing, is_asked}
use Rattle.lives_model.specs.LifeRows.{RowAt, rank_key, rows_from_subkey, in_life, HasRowsOf}
use Rattle.lives_model.specs.LifeRowLaws.{ScoresFit, whole_fits, rank_keys, value_rows_sorted}
use Rattle.lives_model.specs.LifeRangeLaws.{below_score}
use Rattle.lives_model.specs.LifePageLaws.{life_from}
use Rattle.zset_pages.specs.FrontLaws.{take_while-map, take_while-all, below_first}
use Rattle.zset_pages.specs.Ranks.{ranks_prefix, rows_ahead, rows_between, rank_edge, low_edge, high_edge}

-- the row of a member
abbrev pub rank_row : Scored → RowAt
rank_row e = (rank_key e, [])

-- ---- rows that pass

-- the rows of members that pass are those of the members that do
rows_pass : (r : Bytes → Bool) (q : Scored → Bool) (es : List Scored) → ScoresFit es → ((e : Scored) → IsTrue (fits e.1) → r (rank_key e) ≡ q e)
    → filter (λ row. r row.0) (map rank_row es) ≡ map rank_row (filter q es)
rows_pass r q [] fit same = refl
rows_pass r q (e ∷ es) fit same = ap (λ b. cond b (rank_row e ∷ passed) passed) (same e fit.0) ∙ by_test (q e) (rows_pass r q es fit.1 same)
  where
    passed : List RowAt
    passed = filter (λ row. r row.0) (map rank_row es)

    by_test : (b : Bool) → passed ≡ map rank_row (filter q es) → cond b (rank_row e ∷ passed) passed ≡ map rank_row (cond b (e ∷ filter q es) (filter q es))
    by_test true rest = ap (λ rows. rank_row e ∷ rows) rest
    by_test false rest = rest

-- the scores of some fit where those of all do
pub fit-filter : (q : Scored → Bool) (es : List Scored) → ScoresFit es → ScoresFit (filter q es)
fit-filter q [] fit = tt
fit-filter q (e ∷ es) fit = by_test (q e) (fit-filter q es fit.1)
  where
    by_test : (b : Bool) → ScoresFit (filter q es) → ScoresFit (cond b (e ∷ filter q es) (filter q es))
    by_test true rest = (fit.0, rest)
    by_test false rest = rest

-- ---- from an edge on, and ahead of one

-- the rows from an edge on are those of these members, in order
pub record AreFrom (c : Rows) (k : Bytes) (version : ℕ) (from : Bytes) (es : List Scored) : Type 0 where
  pub rows : passing (is_asked from (ranks_prefix k version)) c ≡ in_life Scores k version (map rank_row es)
  pub sorted : T (is_sorted byte_cmp (map rank_row es))
  pub fit : ScoresFit es

module _ (c : Rows) (k : Bytes) (life : LifeAt) (z : Map ℤ) (has : HasRowsOf c k life (ZSet z)) (fit : ScoresFit (ranked z)) where
  -- the members that are not below what stands behind the prefix there
  pub are_from : (x : Bytes) (q : Scored → Bool) → ((e : Scored) → IsTrue (fits e.1) → not (is_lt (byte_cmp (rank_key e) x)) ≡ q e)
      → AreFrom c k life.version (ranks_prefix k life.version ++ x) (filter q (ranked z))
  unfolding row_key
  are_from x q same =
      let some : rows_from_subkey x (map rank_row (ranked z)) ≡ map rank_row (filter q (ranked z)) = rows_pass (λ s. not (is_lt (byte_cmp s x))) q (ranked z) fit same in
      record {
        rows = life_from c k life (ZSet z) has Scores x ∙ ap (in_life Scores k life.version) some;
        sorted = subst (λ (rows : List RowAt). T (is_sorted byte_cmp rows)) some
            (sorted-filter (λ row. not (is_lt (byte_cmp row.0 x))) (map rank_row (ranked z)) (value_rows_sorted (ZSet z) life.head Scores has.scores has.indices));
        fit = fit-filter q (ranked z) fit;
      }

-- of them those that are below what stands behind the prefix at the other edge
pub ahead_are : (c : Rows) (k : Bytes) (version : ℕ) (from : Bytes) (es : List Scored) (x : Bytes) (q : Scored → Bool) → AreFrom c k version from es
    → ((e : Scored) → IsTrue (fits e.1) → is_lt (byte_cmp (rank_key e) x) ≡ q e)
    → rows_ahead (Some (ranks_prefix k version ++ x)) (passing (is_asked from (ranks_prefix k version)) c) ≡ in_life Scores k version (map rank_row (filter q es))
unfolding row_key
ahead_are c k version from es x q are same =
    ap (rows_ahead (Some (ranks_prefix k version ++ x))) are.rows
    ∙ take_while-map (λ row. is_lt (byte_cmp row.0 (ranks_prefix k version ++ x))) (λ row. (row_key Scores k version row.0, row.1)) (map rank_row es)
    ∙ ap (in_life Scores k version)
    ((λ i. take_while (λ row. is_lt (behind_front (ranks_prefix k version) row.0 x i)) (map rank_row es))
    ∙ below_first x (map rank_row es) are.sorted
    ∙ rows_pass (λ s. is_lt (byte_cmp s x)) q es are.fit same)

-- ---- at scores

turned_twice : (b : Bool) → not (not b) ≡ b
turned_twice true = refl
turned_twice false = refl

-- a member is below what stands ahead of all with a score where its own is less
pub before_score : (s : ℤ) (e : Scored) → IsTrue (fits s) → IsTrue (fits e.1) → is_lt (byte_cmp (rank_key e) (rank_key ([], s))) ≡ not (int_le s e.1)
before_score s e h g = ap (λ (x : Bytes). is_lt (byte_cmp (rank_key e) x)) (append-nil (u64 (score_number s))) ∙ below_score e s g h

-- and no member is below the prefix
pub none_before : (e : Scored) → is_lt (byte_cmp (rank_key e) []) ≡ false
none_before e = by_bytes (rank_key e)
  where
    by_bytes : (x : Bytes) → is_lt (byte_cmp x []) ≡ false
    by_bytes [] = refl
    by_bytes (b ∷ x) = refl

-- the score behind a whole one fits 64 bits too
pub next_fits : (s : ℤ) → IsWholeScore s → IsTrue (fits (s +ℤ pos 1))
next_fits s h = grind (arith, nat_tests, ints)

not_less : (s t : ℤ) → not (int_le s t) ≡ int_lt t s
not_less s t = grind (arith, nat_tests, ints)

next_least : (s t : ℤ) → int_le (s +ℤ pos 1) t ≡ int_lt s t
next_least s t = grind (arith, nat_tests, ints)

before_next : (s t : ℤ) → not (int_le (s +ℤ pos 1) t) ≡ int_le t s
before_next s t = grind (arith, nat_tests, ints)

-- ---- between bounds

all_pass : (es : List Scored) → filter (λ (e : Scored). true) es ≡ es
all_pass [] = refl
all_pass (e ∷ es) = ap (λ rest. e ∷ rest) (all_pass es)

none_pass : (es : List Scored) → filter (λ (e : Scored). false) es ≡ []
none_pass [] = refl
none_pass (e ∷ es) = none_pass es

pass_both : (p q : Scored → Bool) (es : List Scored) → filter q (filter p es) ≡ filter (λ e. p e && q e) es
pass_both p q [] = refl
pass_both p q (e ∷ es) = by_test (p e) (pass_both p q es)
  where
    by_test : (b : Bool) → filter q (filter p es) ≡ filter (λ e. p e && q e) es
        → filter q (cond b (e ∷ filter p es) (filter p es)) ≡ cond (b && q e) (e ∷ filter (λ e. p e && q e) es) (filter (λ e. p e && q e) es)
    by_test true rest = ap (λ es. cond (q e) (e ∷ es) es) rest
    by_test false rest = rest

-- the rows ahead of where an upper bound ends are those of the members within it
high_are : (c : Rows) (k : Bytes) (version : ℕ) (from : Bytes) (es : List Scored) (high : Bound) → AreFrom c k version from es → IsBound high
    → rows_ahead (high_edge (ranks_prefix k version) high) (passing (is_asked from (ranks_prefix k version)) c) ≡ in_life Scores k version (map rank_row (filter (λ e. to_bound high e.1) es))
high_are c k version from es Least are h =
    ap (λ (x : Bytes). rows_ahead (Some x) (passing (is_asked from (ranks_prefix k version)) c)) (sym (append-nil (ranks_prefix k version)))
    ∙ ahead_are c k version from es [] (λ e. false) are (λ e f. none_before e)
high_are c k version from es Greatest are h =
    take_while-all (λ row. true) (passing (is_asked from (ranks_prefix k version)) c) (λ row. refl) ∙ are.rows
    ∙ ap (λ ms. in_life Scores k version (map rank_row ms)) (sym (all_pass es))
high_are c k version from es (Closed s) are h =
    ahead_are c k version from es (rank_key ([], s +ℤ pos 1)) (λ e. int_le e.1 s) are (λ e f. before_score (s +ℤ pos 1) e (next_fits s h) f ∙ before_next s e.1)
high_are c k version from es (Past s) are h =
    ahead_are c k version from es (rank_key ([], s)) (λ e. int_lt e.1 s) are (λ e f. before_score s e (whole_fits s h) f ∙ not_less s e.1)

module _ (c : Rows) (k : Bytes) (life : LifeAt) (z : Map ℤ) (has : HasRowsOf c k life (ZSet z)) (fit : ScoresFit (ranked z)) where
  -- from the prefix on stand all
  pub all_are : AreFrom c k life.version (ranks_prefix k life.version) (filter (λ e. true) (ranked z))
  all_are =
      subst (λ (from : Bytes). AreFrom c k life.version from (filter (λ e. true) (ranked z))) (append-nil (ranks_prefix k life.version))
      (are_from c k life z has fit [] (λ e. true) (λ e f. ap not (none_before e)))

  -- the rows between two bounds are those of the members between them
  pub between_are : (low high : Bound) → IsBound low → IsBound high
      → rows_between c (ranks_prefix k life.version) (low_edge (ranks_prefix k life.version) low) (high_edge (ranks_prefix k life.version) high) ≡ in_life Scores k life.version (map rank_row (filter (between low high) (ranked z)))
  between_are Least high l h =
      high_are c k life.version (ranks_prefix k life.version) (filter (λ e. true) (ranked z)) high all_are h
      ∙ ap (λ ms. in_life Scores k life.version (map rank_row ms)) (pass_both (λ e. true) (λ e. to_bound high e.1) (ranked z))
  between_are Greatest high l h = ap (λ ms. in_life Scores k life.version (map rank_row ms)) (sym (none_pass (ranked z)))
  between_are (Closed s) high l h =
      high_are c k life.version (ranks_prefix k life.version ++ rank_key ([], s)) (filter (λ e. int_le s e.1) (ranked z)) high
      (are_from c k life z has fit (rank_key ([], s)) (λ e. int_le s e.1) (λ e f. ap not (before_score s e (whole_fits s l) f) ∙ turned_twice (int_le s e.1))) h
      ∙ ap (λ ms. in_life Scores k life.version (map rank_row ms)) (pass_both (λ e. int_le s e.1) (λ e. to_bound high e.1) (ranked z))
  between_are (Past s) high l h =
      high_are c k life.version (ranks_prefix k life.version ++ rank_key ([], s +ℤ pos 1)) (filter (λ e. int_lt s e.1) (ranked z)) high
      (are_from c k life z has fit (rank_key ([], s +ℤ pos 1)) (λ e. int_lt s e.1)
      (λ e f. ap not (before_score (s +ℤ pos 1) e (next_fits s l) f) ∙ turned_twice (int_le (s +ℤ pos 1) e.1) ∙ next_least s e.1)) h
      ∙ ap (λ ms. in_life Scores k life.version (map rank_row ms)) (pass_both (λ e. int_lt s e.1) (λ e. to_bound high e.1) (ranked z))

  -- ---- at one member

  -- the rows ahead of a member are those of the members before it
  pub before_are : (x : Bytes) (s : ℤ) → IsTrue (fits s)
      → rows_between c (ranks_prefix k life.version) (Some (ranks_prefix k life.version)) (rank_edge (ranks_prefix k life.version) (x, s)) ≡ in_life Scores k life.version (map rank_row (filter (λ e. is_lt (rank_cmp e (x, s))) (ranked z)))
  before_are x s h =
      ahead_are c k life.version (ranks_prefix k life.version) (filter (λ e. true) (ranked z)) (rank_key (x, s)) (λ e. is_lt (rank_cmp e (x, s))) all_are (λ e f. ap is_lt (rank_keys e (x, s) f h))
      ∙ ap (λ ms. in_life Scores k life.version (map rank_row (filter (λ e. is_lt (rank_cmp e (x, s))) ms))) (all_pass (ranked z))

  -- and from its row on stand those that are not
  pub onwards_are : (x : Bytes) (s : ℤ) → IsTrue (fits s)
      → rows_between c (ranks_prefix k life.version) (rank_edge (ranks_prefix k life.version) (x, s)) None ≡ in_life Scores k life.version (map rank_row (filter (λ e. not (is_lt (rank_cmp e (x, s)))) (ranked z)))
  onwards_are x s h =
      take_while-all (λ row. true) (passing (is_asked (ranks_prefix k life.version ++ rank_key (x, s)) (ranks_prefix k life.version)) c) (λ row. refl)
      ∙ (are_from c k life z has fit (rank_key (x, s)) (λ e. not (is_lt (rank_cmp e (x, s)))) (λ e f. ap (λ o. not (is_lt o)) (rank_keys e (x, s) f h))).rows
