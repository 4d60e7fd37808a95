use Rattle.std.proofs.Common.{◌≡◌, ◌++◌, map, reverse, length}
use Rattle.redis_model.specs.declared.reply.Reply.TheVariants as reply
use Rattle.lives_model.specs.LiveRowLists.{pairs}
use Rattle.list_cmds.proofs.read.bulks_of.Given as goal

-- what is answered of the rows that are left stands in front of what is answered of the others
abbrev pub invariant-loop-row : goal.invariant-loop-row
invariant-loop-row l = map reply.Bulk (map (λ row. row.1) (pairs l.rows)) ++ reverse l.parts.items ≡ map reply.Bulk (map (λ row. row.1) (pairs l.initial.rows))

abbrev pub decreases-loop-row : goal.decreases-loop-row
decreases-loop-row l = length l.rows
