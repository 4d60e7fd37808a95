use Rattle.std.proofs.Common.{take}
use Rattle.std.specs.Prelude.{IfSome, None, ℤ}
use Rattle.kv_base.specs.Map.{Map}
use Rattle.lives_model.specs.Views.{ReadsOnly}
use Rattle.zset_changes.specs.SeenScores.{TellsScores}
use Rattle.zset_changes.specs.ScoreTables.{IsScoreTable, Leads, rest_of, tracks_in}
use Rattle.zset_changes.proofs.remove.remove_members.Given as goal

-- the members so far are gone
abbrev pub invariant-loop-member : goal.invariant-loop-member
invariant-loop-member g l = record {
  leads : IfSome (g.V.RawView.told l.fn.view).rows (λ c. (z : Map ℤ) → TellsScores c l.key l.life z → Leads z (rest_of z (take l.member-index l.members)) (tracks_in l.table));
  table : IsScoreTable (tracks_in l.table);
  reads : ReadsOnly (g.V.RawView.told l.fn.view) (g.V.RawView.told l.view) None;
}
