-- What was planned: commands on the rows of a store, whatever these mean.
use Rattle.std.specs.Prelude.{ℕ, Option}
use Rattle.batch_codec.specs.Batches.{Batch}
use Rattle.redis_model.specs.declared.command.Cmds.{Cmds}
use Rattle.redis_model.specs.declared.reply.Reply.{Reply}
use Rattle.redis_model.specs.Value.{RedisMap}
use Rattle.lives_model.specs.Rows.{Rows}
use Rattle.lives_model.specs.Means.{Means}
use Rattle.lives_model.specs.Plans.{AreAsked, IsPlanFor}
use Rattle.log_store.specs.Issuing.{AreIssuedUpTo}

-- the plan of commands on rows that are issued up to the sequence of the last batch, whatever they mean
pub record IsPlannedNext (c : Rows) (t sequence : ℕ) (ds : Cmds) (b : Batch) (answer : Reply) (until : Option ℕ) : Type 0 where
  pub plan : (m : RedisMap) → Means c t m → AreIssuedUpTo c sequence → IsPlanFor c t sequence m ds b answer until

-- the batch carries these commands out on these rows at this moment, behind a batch of this sequence
pub record IsBatchOf (rows : Rows) (moment sequence : ℕ) (commands : Cmds) (b : Batch) : Type 0 where
  pub answer : Reply
  pub until : Option ℕ
  pub asked : AreAsked commands
  pub plan : IsPlannedNext rows moment sequence commands b answer until
