-- What commands answer that change a collection.
use Rattle.std.specs.Prelude.{ℕ, pos}
use Rattle.redis_model.specs.declared.reply.Reply.{Reply}
use Rattle.redis_model.specs.declared.reply.Reply.TheVariants.{Int}
use Rattle.life_changes.specs.declared.wish.ChangeAnswer.{ChangeAnswer}
use Rattle.life_changes.specs.declared.wish.ChangeAnswer.TheVariants.{Given, Added, Removed}

-- the reply, by the numbers of elements that were added and removed
abbrev pub answer_by : ChangeAnswer → ℕ → ℕ → Reply
answer_by (Given reply) added removed = reply
answer_by Added added removed = Int (pos added)
answer_by Removed added removed = Int (pos removed)
