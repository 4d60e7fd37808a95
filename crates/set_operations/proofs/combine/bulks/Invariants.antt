use Rattle.std.proofs.Common.{◌≡◌, ◌++◌, length, reverse}
use Rattle.std.specs.Prelude.{map}
use Rattle.redis_model.specs.declared.reply.Reply.TheVariants as reply
use Rattle.set_operations.proofs.combine.bulks.Given as goal

-- the members that are left stand in front of those that are answered
abbrev pub invariant-loop-member : goal.invariant-loop-member
invariant-loop-member l = map reply.Bulk l.members ++ reverse l.answers.items ≡ map reply.Bulk l.initial.members

abbrev pub decreases-loop-member : goal.decreases-loop-member
decreases-loop-member l = length l.members
