-- Rows, a moment and a base leave one plan of commands: the batch, the reply and the deadline are told.
use Rattle.std.proofs.Common.{◌≡◌, ℕ}
use Rattle.std.specs.Prelude.{Option}
use Rattle.batch_codec.specs.Batches.{Batch}
use Rattle.redis_model.specs.declared.reply.Reply.{Reply}

-- ---- one command

-- what is told of a plan
pub record IsSamePlan (b other : Batch) (answer reply : Reply) (until ahead : Option ℕ) : Type 0 where
  pub batch : b ≡ other
  pub reply_is : answer ≡ reply
  pub ahead_is : until ≡ ahead
