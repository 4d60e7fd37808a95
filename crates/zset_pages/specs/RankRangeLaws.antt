-- The members that rows tell between two bounds, and how many stand there, ahead of a member and from it on, are those of the
-- sorted set whose rows they are.
use Rattle.std.proofs.Common.{◌≡◌, ℕ, ◌+◌, ap, ◌∙◌, Bool, List, length, map, take, arith}
use Rattle.std.proofs.lemmas.List.{length-map, take_all}
use Rattle.std.proofs.lemmas.List.Sums.{length-filter}
use Rattle.std.specs.Prelude.{Some, IsTrue, not, filter, count_by, ℤ}
use Rattle.std.specs.Ordering.{is_lt}
use Rattle.kv_base.specs.Map.{Bytes, Map, get, size}
use Rattle.kv_base.specs.Number.{fits}
use Rattle.redis_model.specs.declared.command.Bound.{Bound}
use Rattle.redis_model.specs.Limits.{IsBound}
use Rattle.redis_model.specs.SortedSets.{Scored, rank_cmp, ranked, between, number_before, number_behind}
use Rattle.lives_model.specs.Rows.{Rows, Scores}
use Rattle.lives_model.specs.Means.{LifeAt}
use Rattle.lives_model.specs.LifeRows.{in_life}
use Rattle.lives_model.specs.LifeRowLaws.{ScoresFit}
use Rattle.plan_base.specs.declared.life.LifeSight.{LifeSight}
use Rattle.zset_pages.specs.Ranks.{rank_in, HasRanks, ranks_between, number_between, number_ahead, number_from}
use Rattle.zset_pages.specs.RankLaws.{ranks_back, ranked_fit}
use Rattle.zset_pages.specs.RankRowLaws.{rank_row, fit-filter, between_are, before_are, onwards_are}
use Rattle.zset_pages.specs.RankCountLaws.{count-ranked, count-within, count-onwards}

-- the rows of those that pass a test are as many as pass it, and no more than there are
passing_number : (k : Bytes) (version : ℕ) (z : Map ℤ) (q : Scored → Bool) → length (in_life Scores k version (map rank_row (filter q (ranked z)))) ≡ count_by q z.entries
passing_number k version z q =
    length-map (map rank_row (filter q (ranked z))) _ ∙ length-map (filter q (ranked z)) rank_row ∙ length-filter q (ranked z) ∙ count-ranked q z

-- so all of them are counted
all_counted : {X : Type 0} (most : ℕ) (z : Map ℤ) (q : Scored → Bool) (rows : List X) → most ≡ size z → length rows ≡ count_by q z.entries → length (take most rows) ≡ count_by q z.entries
all_counted most z q rows all many = let within = count-within q z in ap length (take_all most rows (omega (arith, all, many, within))) ∙ many

module _ (c : Rows) (k : Bytes) (life : LifeSight) (z : Map ℤ) (has : HasRanks c k (Some life) z) where
  abbrev own : LifeAt
  own = record { version = life.version; head = 0 }

  fit : ScoresFit (ranked z)
  fit = ranked_fit z has.1.scores

  -- Between two bounds stand the members that lie between them.
  pub ranks_lie_between : (low high : Bound) → IsBound low → IsBound high → ranks_between c k life low high ≡ filter (between low high) (ranked z)
  ranks_lie_between low high l h =
      ap (map (rank_in k)) (between_are c k own z has.1 fit low high l h)
      ∙ ranks_back k life.version (filter (between low high) (ranked z)) (fit-filter (between low high) (ranked z) fit)

  -- They are as many.
  pub number_lies_between : (low high : Bound) → IsBound low → IsBound high → number_between c k life low high ≡ count_by (between low high) z.entries
  number_lies_between low high l h =
      all_counted life.size z (between low high) (ranks_between c k life low high) has.0
      (ap length (ranks_lie_between low high l h) ∙ length-filter (between low high) (ranked z) ∙ count-ranked (between low high) z)

  -- Ahead of a member stand those before it,
  pub number_is_ahead : (x : Bytes) (s : ℤ) → IsTrue (fits s) → number_ahead c k life (x, s) ≡ number_before z x s
  number_is_ahead x s h =
      all_counted life.size z (λ e. is_lt (rank_cmp e (x, s))) _ has.0
      (ap length (before_are c k own z has.1 fit x s h) ∙ passing_number k life.version z (λ e. is_lt (rank_cmp e (x, s))))

  -- and from it on those behind it, and itself.
  pub number_is_from : (x : Bytes) (s : ℤ) → IsTrue (fits s) → get z x ≡ Some s → number_from c k life (x, s) ≡ number_behind z x s + 1
  number_is_from x s h there =
      all_counted life.size z (λ e. not (is_lt (rank_cmp e (x, s)))) _ has.0
      (ap length (onwards_are c k own z has.1 fit x s h) ∙ passing_number k life.version z (λ e. not (is_lt (rank_cmp e (x, s)))))
      ∙ count-onwards z x s there
