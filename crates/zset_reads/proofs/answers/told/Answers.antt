use Rattle.std.proofs.Common.{◌≡◌, IfOk, subst, List}
use Rattle.redis_model.specs.SortedSets.{Scored, told}
use Rattle.zset_reads.proofs.Members.{back_again}
use Rattle.zset_reads.proofs.answers.told.Goals as goal

pub returns : goal.returns
returns c = subst (λ (es : List Scored). IfOk c.told_back.result (λ reply. reply ≡ told c.args.scores es)) (back_again c.args.ranks c.in_ok-back.back c.in_ok-back.ensures) c.told_back.ensures
