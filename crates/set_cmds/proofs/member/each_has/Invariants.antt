use Rattle.std.proofs.Common.{◌≡◌, take}
use Rattle.std.specs.Prelude.{IfSome, None, map}
use Rattle.lives_model.specs.Views.{ReadsOnly}
use Rattle.redis_model.specs.Outcome.{yes_no}
use Rattle.life_plans.specs.SetLives.{has_member}
use Rattle.set_cmds.proofs.member.each_has.Given as goal

-- the members so far are answered
abbrev pub invariant-loop-member : goal.invariant-loop-member
invariant-loop-member g l = record {
  answers : IfSome (g.V.RawView.told l.fn.view).rows (λ c. l.answers ≡ map (λ x. yes_no (has_member c l.key l.life x)) (take l.member-index l.members));
  reads : ReadsOnly (g.V.RawView.told l.fn.view) (g.V.RawView.told l.view) None;
}
