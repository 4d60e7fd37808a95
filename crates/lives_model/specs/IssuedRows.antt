-- Rows that are issued by their own sequences show, at each sequence, rows that are issued up to it. And what a plan writes is
-- issued by every sequence behind that of the rows on which it was made.
use Rattle.std.proofs.Common.{◌≡◌, ℕ, ◌<◌, ◌≤◌}
use Rattle.std.specs.Prelude.{Option, None, IsTrue}
use Rattle.kv_base.specs.Map.{Bytes, get}
use Rattle.kv_base.specs.RawKeys.{is_key, is_version}
use Rattle.batch_codec.specs.Batches.{Batch}
use Rattle.redis_model.specs.declared.reply.Reply.{Reply}
use Rattle.redis_model.specs.declared.command.Cmds.{Cmds}
use Rattle.redis_model.specs.Value.{RedisMap}
use Rattle.lives_model.specs.Rows.{Rows, Side, row_key}
use Rattle.lives_model.specs.Means.{Means}
use Rattle.lives_model.specs.Plans.{IsPlanFor, AreAsked, version}
use Rattle.lives_model.specs.Issued.{IsIssued}

-- ---- the rows of a plan

-- the batch has no row of a version from a bound on
abbrev pub HasNoneFrom : Batch → ℕ → Type 0
HasNoneFrom b bound = (k : Bytes) → IsTrue (is_key k) → (side : Side) (v : ℕ) (subkey : Bytes) → bound ≤ v → IsTrue (is_version v) → get b (row_key side k v subkey) ≡ None

-- A plan of commands that can be asked for, made on rows that are issued up to its base, and committed under a later sequence.
pub record IsCommitted (c : Rows) (t base sequence : ℕ) (m : RedisMap) (ds : Cmds) (b : Batch) (answer : Reply) (until : Option ℕ) : Type 0 where
  pub asked : AreAsked ds
  pub means : Means c t m
  pub issued : IsIssued c base
  pub plan : IsPlanFor c t base m ds b answer until
  pub later : base < sequence
