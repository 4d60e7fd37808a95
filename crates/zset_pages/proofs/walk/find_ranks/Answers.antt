use Rattle.std.proofs.Common.{◌≡◌, ◌+◌, ◌-◌, ◌++◌, ap, ◌∙◌, map, take, drop, arith}
use Rattle.std.specs.Prelude.{min}
use Rattle.lives_model.specs.LiveRowLists.{pairs}
use Rattle.zset_pages.specs.Ranks.{scored_of, rank_in}
use Rattle.zset_pages.proofs.Parts.{part_is}
use Rattle.zset_pages.proofs.walk.find_ranks.Goals as goal

pub returns-clause-found : goal.returns-clause-found
returns-clause-found c =
    let from = c.min-from.ensures in
    let wanted = c.min-wanted.ensures in
    let count : (c.min-from.result + c.min-wanted.result) - c.min-from.result ≡ min c.args.walk.now.left (c.args.ahead - min c.args.walk.now.skip c.args.ahead) = omega (arith, from, wanted) in
    c.in_ok-push_ranks.ensures
    ∙ ap (λ es. map scored_of c.args.walk.now.found ++ es)
    ((λ i. map (rank_in c.args.key.now) (pairs (take (count i) (drop (from i) c.args.page.now))))
    ∙ part_is c.args.key.now c.args.walk.now.skip c.args.walk.now.left c.args.ahead c.args.page.now c.requires)
