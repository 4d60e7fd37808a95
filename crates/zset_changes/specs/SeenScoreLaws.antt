-- Laws on what stands in `SeenScores.antt`.
use Rattle.std.proofs.Common.{◌≡◌, ℕ, refl, sym, ap, ◌∙◌}
use Rattle.std.specs.Prelude.{Option, Some, None, IfSome, IsTrue, option_and_then, option_map, ℤ}
use Rattle.kv_base.specs.Map.{Bytes, Map, get}
use Rattle.kv_base.specs.Number.{fits}
use Rattle.subkey_codec.specs.Numbers.{read_score_bytes}
use Rattle.subkey_codec.specs.NumberLaws.{score_bytes_are_read}
use Rattle.redis_model.specs.Limits.{IsWholeScore}
use Rattle.redis_model.specs.Value.{ZSet}
use Rattle.lives_model.specs.Rows.{Rows}
use Rattle.lives_model.specs.Means.{HasWholeScores, score_text}
use Rattle.lives_model.specs.LifeRowLaws.{whole_fits}
use Rattle.plan_base.specs.declared.life.LifeSight.{LifeSight}
use Rattle.plan_base.specs.LifeLaws.{sorted_set_stands, element_there, score_row_of}
use Rattle.zset_plans.specs.ScorePlans.{FindsScores}
use Rattle.zset_changes.specs.SeenScores.{member_score, TellsScores}

-- a score is read back from its row
score_back : (o : Option ℤ) → IfSome o IsWholeScore → option_and_then read_score_bytes (option_map score_text o) ≡ o
score_back None h = refl
score_back (Some s) h = score_bytes_are_read s (whole_fits s h)

-- what is found of a sorted set tells its scores
pub tells_scores : (c : Rows) (k : Bytes) (fresh : ℕ) (found : Option LifeSight) (z : Map ℤ) → FindsScores c k fresh found z → TellsScores c k found z
tells_scores c k fresh found z finds = record {
  whole = finds.rows.scores;
  told = λ x. ap (option_and_then read_score_bytes) (element_there sorted_set_stands c k found z x finds.life) ∙ score_back (get z x) (finds.rows.scores x);
}
