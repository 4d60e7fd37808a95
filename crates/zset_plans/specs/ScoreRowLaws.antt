-- The rows of scorings lead from one sorted set to the other, on both sides.
use Rattle.std.proofs.Common.{ℕ, ◌≡◌, ◌+◌, ◌<◌, ◌^◌, ◌++◌, refl, sym, ap, subst, ◌∙◌, Bool, true, false, cond, List, [], ◌∷◌, append-nil, arith}
use Rattle.std.proofs.lemmas.Bool.{and_from}
use Rattle.std.proofs.lemmas.Bool.Decides.{nat_tests}
use Rattle.std.proofs.lemmas.Int.{ints}
use Rattle.std.specs.Prelude.{Option, Some, None, IfSome, IsTrue, IsSome, is_some, option_map, ◌&&◌, ◌==◌, fold, ℤ}
use Rattle.kv_base.specs.Map.{Bytes, Map, same, same_is, same_itself, get, empty, insert, get-empty, get-insert}
use Rattle.kv_base.specs.Number.{fits}
use Rattle.kv_base.specs.Fields.{u64, read_u64}
use Rattle.kv_base.specs.FieldLaws.{u64_is_read, only_u64_is_read}
use Rattle.kv_base.specs.InversionLaws.{same_some, number_is}
use Rattle.kv_base.specs.RawKeys.{ScoreKey, is_key, is_version, is_raw_text, score_number, score_from, raw_text}
use Rattle.kv_base.specs.RawKeyLaws.{score_number_low, score_is_read}
use Rattle.kv_base.specs.MetaValues.{is_score}
use Rattle.batch_codec.specs.Batches.{Batch}
use Rattle.subkey_codec.specs.ElementKeyLaws.{element_key_is_raw, score_key_is_raw}
use Rattle.redis_model.specs.Limits.{IsWholeScore}
use Rattle.redis_model.specs.Value.{ZSet}
use Rattle.lives_model.specs.Rows.{Side, Elements, Scores, row_key}
use Rattle.lives_model.specs.RowKeyLaws.{same_row_key, same_row_other}
use Rattle.lives_model.specs.Means.{HasWholeScores, score_text, is_scored, member_row, row_of}
use Rattle.lives_model.specs.LifeRows.{rank_key}
use Rattle.lives_model.specs.LifeRowLaws.{whole_fits, read_rank}
use Rattle.lives_model.specs.Plans.{same_row, changed}
use Rattle.lives_model.specs.StepLaws.{changed_itself, number_itself}
use Rattle.zset_plans.specs.declared.scoring.Scoring.{Scoring}
use Rattle.zset_plans.specs.Scorings.{scored_as, rescored, all_rescored, IsScoring, AreScorings, same_score, with_rank, with_scoring, scored_rows}
use Rattle.zset_plans.specs.ScoringLaws.{same_score_is, same_score_itself, get-scored, whole_after, AreUnscored, all_unscored, left_by_one}

-- ---- what a batch does

-- a raw key of a row of this life, which can be written
pub record IsRowOfLife (k : Bytes) (version : ℕ) (raw : Bytes) : Type 0 where
  pub side : Side
  pub subkey : Bytes
  pub is : raw ≡ row_key side k version subkey
  pub text : IsTrue (is_raw_text raw)

-- A batch has the rows of a life that differ between two sorted sets, and no others.
pub record Turns (k : Bytes) (version : ℕ) (z next : Map ℤ) (b : Batch) : Type 0 where
  pub at : (side : Side) (subkey : Bytes) → get b (row_key side k version subkey) ≡ changed (row_of (ZSet z) 0 side subkey) (row_of (ZSet next) 0 side subkey)
  pub only : (raw : Bytes) → IsSome (get b raw) → IsRowOfLife k version raw

-- ---- scores as bytes

-- scores that stand as one number are one
score_of_number : (a b : ℤ) → IsTrue (fits a) → IsTrue (fits b) → score_number a ≡ score_number b → a ≡ b
score_of_number a b h g e = sym (score_is_read a h) ∙ ap score_from e ∙ score_is_read b g

-- the texts of two scores are one only where the scores are
texts_are : (a b : ℤ) → IsTrue (fits a) → IsTrue (fits b) → score_text a ≡ score_text b → a ≡ b
texts_are a b h g e =
    let read_a : read_u64 (u64 (score_number a)) ≡ Some (score_number a, []) = ap read_u64 (sym (append-nil (u64 (score_number a)))) ∙ u64_is_read (score_number a) (score_number_low a h) [] in
    let read_b : read_u64 (u64 (score_number b)) ≡ Some (score_number b, []) = ap read_u64 (sym (append-nil (u64 (score_number b)))) ∙ u64_is_read (score_number b) (score_number_low b g) [] in
    let both = same_some (score_number a, []) (score_number b, []) (sym read_a ∙ ap read_u64 e ∙ read_b) in
    score_of_number a b h g (ap (λ (p : ℕ × Bytes). p.0) both)

-- a score that fits 64 bits, where there is one
abbrev pub Fits : Option ℤ → Type 0
Fits o = IfSome o (λ s. IsTrue (fits s))

pub some_fit : (o : Option ℤ) → IfSome o IsWholeScore → Fits o
some_fit None h = tt
some_fit (Some s) h = whole_fits s h

-- the row of a member differs where its score does
texts_differ : (a b : Option ℤ) → Fits a → Fits b → same_score a b ≡ false → same_row (option_map score_text a) (option_map score_text b) ≡ false
texts_differ None None h g e = absurd (cc)
texts_differ None (Some b) h g e = refl
texts_differ (Some a) None h g e = refl
texts_differ (Some a) (Some b) h g e = by_test (same (score_text a) (score_text b)) refl
  where
    by_test : (s : Bool) → same (score_text a) (score_text b) ≡ s → s ≡ false
    by_test false is = refl
    by_test true is =
        let alike : a ≡ b = texts_are a b h g (same_is (score_text a) (score_text b) is) in
        let yes : same_score (Some a) (Some b) ≡ true = subst (λ (x : ℤ). same_score (Some a) (Some x) ≡ true) alike (same_score_itself (Some a)) in
        absurd (cc)

-- two scores that stand as one number are the same
same_number : (a b : Option ℤ) (n : ℕ) → Fits a → Fits b → is_scored a n ≡ true → is_scored b n ≡ true → same_score a b ≡ true
same_number None b n h g ea eb = absurd (cc)
same_number (Some a) None n h g ea eb = absurd (cc)
same_number (Some a) (Some b) n h g ea eb =
    let alike : a ≡ b = score_of_number a b h g (number_is (score_number a) n ea ∙ sym (number_is (score_number b) n eb)) in
    subst (λ (x : ℤ). same_score (Some a) (Some x) ≡ true) alike (same_score_itself (Some a))

-- ---- rows under a score

-- is this what a member stands under by this score?
abbrev is_rank : Bytes → Option ℤ → Bytes → Bool
is_rank x None q = false
is_rank x (Some score) q = same q (rank_key (x, score))

-- by the number and the member that the subkey tells
abbrev is_told : Bytes → Option ℤ → Option (ℕ × Bytes) → Bool
is_told x o None = false
is_told x o (Some (n, y)) = same y x && is_scored o n

rank_told : (x : Bytes) (o : Option ℤ) (q : Bytes) → Fits o → is_rank x o q ≡ is_told x o (read_u64 q)
rank_told x None q h = sym (none_told (read_u64 q))
  where
    no_score : (b : Bool) → (b && false) ≡ false
    no_score true = refl
    no_score false = refl

    none_told : (r : Option (ℕ × Bytes)) → is_told x None r ≡ false
    none_told None = refl
    none_told (Some (n, y)) = no_score (same y x)
rank_told x (Some score) q h = by_read (read_u64 q) refl (same q (rank_key (x, score))) refl
  where
    here : same q (rank_key (x, score)) ≡ true → read_u64 q ≡ Some (score_number score, x)
    here is = read_rank (x, score) q h is

    parts : (n : ℕ) (y : Bytes) → read_u64 q ≡ Some (n, y) → same q (rank_key (x, score)) ≡ true → (n ≡ score_number score) × (y ≡ x)
    parts n y read is =
        let both = same_some (n, y) (score_number score, x) (sym read ∙ here is) in
        (ap (λ (p : ℕ × Bytes). p.0) both, ap (λ (p : ℕ × Bytes). p.1) both)

    by_read : (r : Option (ℕ × Bytes)) → read_u64 q ≡ r → (b : Bool) → same q (rank_key (x, score)) ≡ b → b ≡ is_told x (Some score) r
    by_read None read false is = refl
    by_read None read true is = let no : ◌≡◌ {A = Option (ℕ × Bytes)} None (Some (score_number score, x)) = sym read ∙ here is in absurd (cc)
    by_read (Some (n, y)) read true is =
        let p = parts n y read is in
        sym (and_from (same y x) (score_number score == n) (subst (λ (v : Bytes). same v x ≡ true) (sym p.1) (same_itself x)) (subst (λ (v : ℕ). (score_number score == v) ≡ true) (sym p.0) (number_itself (score_number score))))
    by_read (Some (n, y)) read false is = by_tests (same y x) (score_number score == n) refl refl
      where
        by_tests : (s t : Bool) → same y x ≡ s → (score_number score == n) ≡ t → false ≡ (s && t)
        by_tests false t es et = refl
        by_tests true false es et = refl
        by_tests true true es et =
            let spelled : q ≡ rank_key (x, score) = (only_u64_is_read q n y read).0 ∙ (λ i. u64 (sym (number_is (score_number score) n et) i) ++ same_is y x es i) in
            let yes : same q (rank_key (x, score)) ≡ true = subst (λ (v : Bytes). same q v ≡ true) spelled (same_itself q) in
            absurd (cc)

-- ---- one scoring

-- rows of sorted sets in which each member has the same score
rows_alike : (z next : Map ℤ) (side : Side) (q : Bytes) → ((x : Bytes) → get z x ≡ get next x) → row_of (ZSet z) 0 side q ≡ row_of (ZSet next) 0 side q
rows_alike z next Elements q alike = ap (option_map score_text) (alike q)
rows_alike z next Scores q alike = by_read (read_u64 q)
  where
    by_read : (r : Option (ℕ × Bytes)) → member_row z r ≡ member_row next r
    by_read None = refl
    by_read (Some (n, y)) = ap (λ (o : Option ℤ). cond (is_scored o n) (Some []) None) (alike y)

-- what stands under a score
abbrev rank_row : Bool → Option Bytes
rank_row b = cond b (Some []) None

-- the row under a score goes, or comes, or neither; both is none
either_changes : (new old : Bool) → (new ≡ true → old ≡ true → ⊥) → cond new (Some (Some [])) (cond old (Some None) (changed (rank_row old) (rank_row old))) ≡ changed (rank_row old) (rank_row new)
either_changes true true apart = absurd (apart refl refl)
either_changes true false apart = refl
either_changes false true apart = refl
either_changes false false apart = refl

module _ (k : Bytes) (version : ℕ) (short : IsTrue (is_key k)) (low : IsTrue (is_version version)) where
  sides_differ : Elements ≡ Scores → ⊥
  sides_differ e = absurd (cc)

  -- a row under a score is none of the elements
  rank_elsewhere : (x : Bytes) (o : Option ℤ) (row : Option Bytes) (b : Batch) (q : Bytes) → get (with_rank k version x o row b) (row_key Elements k version q) ≡ get b (row_key Elements k version q)
  rank_elsewhere x None row b q = refl
  rank_elsewhere x (Some score) row b q =
      get-insert b (row_key Scores k version (rank_key (x, score))) row (row_key Elements k version q)
      ∙ ap (λ t. cond t (Some row) (get b (row_key Elements k version q))) (same_row_other Elements Scores k k version version q (rank_key (x, score)) short short low low (λ r. sides_differ r.side_is))

  rank_here : (x : Bytes) (o : Option ℤ) (row : Option Bytes) (b : Batch) (q : Bytes) → get (with_rank k version x o row b) (row_key Scores k version q) ≡ cond (is_rank x o q) (Some row) (get b (row_key Scores k version q))
  rank_here x None row b q = refl
  rank_here x (Some score) row b q =
      get-insert b (row_key Scores k version (rank_key (x, score))) row (row_key Scores k version q)
      ∙ ap (λ t. cond t (Some row) (get b (row_key Scores k version q))) (same_row_key Scores k version q (rank_key (x, score)) short low)

  element_elsewhere : (x : Bytes) (row : Option Bytes) (b : Batch) (q : Bytes) → get (insert b (row_key Elements k version x) row) (row_key Scores k version q) ≡ get b (row_key Scores k version q)
  element_elsewhere x row b q =
      get-insert b (row_key Elements k version x) row (row_key Scores k version q)
      ∙ ap (λ t. cond t (Some row) (get b (row_key Scores k version q))) (same_row_other Scores Elements k k version version q x short short low low (λ r. sides_differ (sym r.side_is)))

  element_here : (x : Bytes) (row : Option Bytes) (b : Batch) (q : Bytes) → get (insert b (row_key Elements k version x) row) (row_key Elements k version q) ≡ cond (same q x) (Some row) (get b (row_key Elements k version q))
  element_here x row b q =
      get-insert b (row_key Elements k version x) row (row_key Elements k version q)
      ∙ ap (λ t. cond t (Some row) (get b (row_key Elements k version q))) (same_row_key Elements k version q x short low)

  -- raw keys of these rows can be written
  element_of_life : (x : Bytes) → IsTrue (is_key x) → IsRowOfLife k version (row_key Elements k version x)
  unfolding row_key raw_text
  element_of_life x h = record { side = Elements; subkey = x; is = refl; text = element_key_is_raw k version x short low h }

  rank_of_life : (x : Bytes) (score : ℤ) → IsTrue (is_key x) → IsWholeScore score → IsRowOfLife k version (row_key Scores k version (rank_key (x, score)))
  unfolding row_key raw_text
  rank_of_life x score h whole = record { side = Scores; subkey = rank_key (x, score); is = refl; text = score_key_is_raw k version score x short low (is_in_range score whole) h }
    where
      is_in_range : (s : ℤ) → IsWholeScore s → IsTrue (is_score s)
      is_in_range s w = grind (arith, nat_tests, ints)

  -- one entry more
  only_more : (b : Batch) (raw : Bytes) (row : Option Bytes) → IsRowOfLife k version raw → ((q : Bytes) → IsSome (get b q) → IsRowOfLife k version q) → (q : Bytes) → IsSome (get (insert b raw row) q) → IsRowOfLife k version q
  only_more b raw row here others q there = by_test (same q raw) refl (sym (ap is_some (get-insert b raw row q)) ∙ there)
    where
      by_test : (s : Bool) → same q raw ≡ s → is_some (cond s (Some row) (get b q)) ≡ true → IsRowOfLife k version q
      by_test true is h = subst (IsRowOfLife k version) (sym (same_is q raw is)) here
      by_test false is h = others q h

  only_rank : (x : Bytes) (o : Option ℤ) (row : Option Bytes) (b : Batch) → IsTrue (is_key x) → IfSome o IsWholeScore → ((q : Bytes) → IsSome (get b q) → IsRowOfLife k version q) → (q : Bytes) → IsSome (get (with_rank k version x o row b) q) → IsRowOfLife k version q
  only_rank x None row b h whole others = others
  only_rank x (Some score) row b h whole others = only_more b (row_key Scores k version (rank_key (x, score))) row (rank_of_life x score h whole) others

  module _ (z now : Map ℤ) (b : Batch) (x : Bytes) (before after : Option ℤ) (key : IsTrue (is_key x)) (old : IfSome before IsWholeScore) (new : IfSome after IsWholeScore)
      (is : before ≡ get z x) (left : get now x ≡ get z x) (turns : Turns k version z now b) where
    -- the same score leaves the rows as they are
    turns_alike : same_score before after ≡ true → Turns k version z (scored_as now x after) b
    turns_alike h = record {
      at = λ side q. turns.at side q ∙ ap (changed (row_of (ZSet z) 0 side q)) (rows_alike now (scored_as now x after) side q alike);
      only = turns.only;
    }
      where
        alike : (q : Bytes) → get now q ≡ get (scored_as now x after) q
        alike q = by_test (same q x) refl ∙ sym (get-scored now x after q)
          where
            by_test : (s : Bool) → same q x ≡ s → get now q ≡ cond s after (get now q)
            by_test false e = refl
            by_test true e = ap (get now) (same_is q x e) ∙ left ∙ sym is ∙ same_score_is before after h

    abbrev more : Batch
    more = with_rank k version x after (Some []) (with_rank k version x before None (insert b (row_key Elements k version x) (option_map score_text after)))

    -- the side of elements
    element_turns : same_score before after ≡ false → (q : Bytes) → get more (row_key Elements k version q) ≡ changed (option_map score_text (get z q)) (option_map score_text (get (scored_as now x after) q))
    element_turns differ q =
        rank_elsewhere x after (Some []) (with_rank k version x before None (insert b (row_key Elements k version x) (option_map score_text after))) q
        ∙ rank_elsewhere x before None (insert b (row_key Elements k version x) (option_map score_text after)) q
        ∙ element_here x (option_map score_text after) b q
        ∙ by_test (same q x) refl
        ∙ sym (ap (λ (o : Option ℤ). changed (option_map score_text (get z q)) (option_map score_text o)) (get-scored now x after q))
      where
        by_test : (s : Bool) → same q x ≡ s → cond s (Some (option_map score_text after)) (get b (row_key Elements k version q)) ≡ changed (option_map score_text (get z q)) (option_map score_text (cond s after (get now q)))
        by_test false e = turns.at Elements q
        by_test true e =
            sym (ap (λ t. cond t None (Some (option_map score_text after))) (texts_differ before after (some_fit before old) (some_fit after new) differ))
            ∙ ap (λ (o : Option ℤ). changed (option_map score_text o) (option_map score_text after)) (is ∙ ap (get z) (sym (same_is q x e)))

    -- the side of scores
    rank_turns : same_score before after ≡ false → (q : Bytes) → get more (row_key Scores k version q) ≡ changed (member_row z (read_u64 q)) (member_row (scored_as now x after) (read_u64 q))
    rank_turns differ q =
        rank_here x after (Some []) (with_rank k version x before None (insert b (row_key Elements k version x) (option_map score_text after))) q
        ∙ ap (cond (is_rank x after q) (Some (Some [])))
        (rank_here x before None (insert b (row_key Elements k version x) (option_map score_text after)) q
        ∙ ap (cond (is_rank x before q) (Some None)) (element_elsewhere x (option_map score_text after) b q ∙ turns.at Scores q))
        ∙ (λ i. cond (rank_told x after q (some_fit after new) i) (Some (Some [])) (cond (rank_told x before q (some_fit before old) i) (Some None) (changed (member_row z (read_u64 q)) (member_row now (read_u64 q)))))
        ∙ by_read (read_u64 q)
      where
        by_read : (r : Option (ℕ × Bytes)) → cond (is_told x after r) (Some (Some [])) (cond (is_told x before r) (Some None) (changed (member_row z r) (member_row now r))) ≡ changed (member_row z r) (member_row (scored_as now x after) r)
        by_read None = refl
        by_read (Some (n, y)) =
            by_test (same y x) refl
            ∙ sym (ap (λ (o : Option ℤ). changed (rank_row (is_scored (get z y) n)) (rank_row (is_scored o n))) (get-scored now x after y))
          where
            by_test : (s : Bool) → same y x ≡ s → cond (s && is_scored after n) (Some (Some [])) (cond (s && is_scored before n) (Some None) (changed (rank_row (is_scored (get z y) n)) (rank_row (is_scored (get now y) n))))
                ≡ changed (rank_row (is_scored (get z y) n)) (rank_row (is_scored (cond s after (get now y)) n))
            by_test false e = refl
            by_test true e =
                let there : get z y ≡ before = ap (get z) (same_is y x e) ∙ sym is in
                let stays : get now y ≡ before = ap (get now) (same_is y x e) ∙ left ∙ sym is in
                (λ i. cond (is_scored after n) (Some (Some [])) (cond (is_scored before n) (Some None) (changed (rank_row (is_scored (there i) n)) (rank_row (is_scored (stays i) n)))))
                ∙ either_changes (is_scored after n) (is_scored before n) (λ ea eb. let yes = same_number before after n (some_fit before old) (some_fit after new) eb ea in cc)
                ∙ sym (ap (λ (o : Option ℤ). changed (rank_row (is_scored o n)) (rank_row (is_scored after n))) there)

    turns_more : same_score before after ≡ false → Turns k version z (scored_as now x after) more
    turns_more differ = record {
      at = by_side;
      only =
          only_rank x after (Some []) (with_rank k version x before None (insert b (row_key Elements k version x) (option_map score_text after))) key new
          (only_rank x before None (insert b (row_key Elements k version x) (option_map score_text after)) key old
          (only_more b (row_key Elements k version x) (option_map score_text after) (element_of_life x key) turns.only));
    }
      where
        by_side : (side : Side) (q : Bytes) → get more (row_key side k version q) ≡ changed (row_of (ZSet z) 0 side q) (row_of (ZSet (scored_as now x after)) 0 side q)
        by_side Elements q = element_turns differ q
        by_side Scores q = rank_turns differ q

  -- one scoring more
  turns_one : (z now : Map ℤ) (b : Batch) (s : Scoring) → HasWholeScores (ZSet z) → IsScoring z s → get now s.member ≡ get z s.member → Turns k version z now b → Turns k version z (rescored now s) (with_scoring k version b s)
  turns_one z now b s whole scoring left turns = by_test (same_score s.before s.after) refl
    where
      old : IfSome s.before IsWholeScore
      old = subst (λ (o : Option ℤ). IfSome o IsWholeScore) (sym scoring.before) (whole s.member)

      by_test : (t : Bool) → same_score s.before s.after ≡ t → Turns k version z (rescored now s) (cond t b (with_rank k version s.member s.after (Some []) (with_rank k version s.member s.before None (insert b (row_key Elements k version s.member) (option_map score_text s.after)))))
      by_test true e = turns_alike z now b s.member s.before s.after scoring.key old scoring.whole scoring.before left turns e
      by_test false e = turns_more z now b s.member s.before s.after scoring.key old scoring.whole scoring.before left turns e

  turns_from : (z now : Map ℤ) (b : Batch) (ss : List Scoring) → HasWholeScores (ZSet z) → AreScorings z ss → AreUnscored z now ss → Turns k version z now b → Turns k version z (all_rescored now ss) (fold (with_scoring k version) b ss)
  turns_from z now b [] whole all left turns = turns
  turns_from z now b (s ∷ ss) whole all left turns =
      turns_from z (rescored now s) (with_scoring k version b s) ss whole all.2 (left_by_one z now s.member s.after ss all.1 left.1) (turns_one z now b s whole all.0 left.0 turns)

  -- nothing turns a sorted set into itself
  turns_nothing : (z : Map ℤ) → Turns k version z z empty
  turns_nothing z = record {
    at = λ side q. get-empty (row_key side k version q) ∙ sym (changed_itself (row_of (ZSet z) 0 side q));
    only = λ raw h. let none : is_some (get (empty {X = Option Bytes}) raw) ≡ false = ap is_some (get-empty raw) in absurd (cc);
  }

  -- The rows of scorings are those that differ.
  pub scorings_turn : (z : Map ℤ) (ss : List Scoring) → HasWholeScores (ZSet z) → AreScorings z ss → Turns k version z (all_rescored z ss) (scored_rows k version ss)
  unfolding scored_rows
  scorings_turn z ss whole all = turns_from z z empty ss whole all (all_unscored z ss) (turns_nothing z)

-- scores stay whole numbers
pub whole_from : (z now : Map ℤ) (ss : List Scoring) → HasWholeScores (ZSet now) → AreScorings z ss → HasWholeScores (ZSet (all_rescored now ss))
whole_from z now [] whole all = whole
whole_from z now (s ∷ ss) whole all = whole_from z (rescored now s) ss (whole_after now s.member s.after whole all.0.whole) all.2

-- ---- the other way round

-- where no row differs the sorted sets are one
pub no_turn : {k : Bytes} {version : ℕ} {z next : Map ℤ} {b : Batch} → Turns k version z next b → ((raw : Bytes) → get b raw ≡ None) → HasWholeScores (ZSet z) → HasWholeScores (ZSet next) → (x : Bytes) → get z x ≡ get next x
no_turn {k} {version} {z} {next} turns none whole later x =
    by_test (same_score (get z x) (get next x)) refl
  where
    nothing : changed (option_map score_text (get z x)) (option_map score_text (get next x)) ≡ None
    nothing = sym (turns.at Elements x) ∙ none (row_key Elements k version x)

    by_test : (s : Bool) → same_score (get z x) (get next x) ≡ s → get z x ≡ get next x
    by_test true e = same_score_is (get z x) (get next x) e
    by_test false e =
        let no : Some (option_map score_text (get next x)) ≡ None = sym (ap (λ t. cond t None (Some (option_map score_text (get next x)))) (texts_differ (get z x) (get next x) (some_fit (get z x) (whole x)) (some_fit (get next x) (later x)) e)) ∙ nothing in
        absurd (cc)

-- and where they are one no row differs
pub turns_itself : {k : Bytes} {version : ℕ} {z : Map ℤ} {b : Batch} → Turns k version z z b → (raw : Bytes) → get b raw ≡ None
turns_itself {k} {version} {z} {b} turns raw = by_get (get b raw) refl
  where
    by_get : (o : Option (Option Bytes)) → get b raw ≡ o → o ≡ None
    by_get None e = refl
    by_get (Some row) e =
        let r = turns.only raw (ap is_some e) in
        let no : Some row ≡ None = sym e ∙ ap (get b) r.is ∙ turns.at r.side r.subkey ∙ changed_itself (row_of (ZSet z) 0 r.side r.subkey) in
        absurd (cc)
