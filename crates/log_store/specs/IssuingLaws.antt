-- Laws on what stands in `Issuing.antt`.
use Rattle.std.specs.Prelude.{ℕ, ◌+◌, ◌≤◌, Option}
use Rattle.kv_base.specs.Map.{empty}
use Rattle.batch_codec.specs.Batches.{Batch, after}
use Rattle.redis_model.specs.declared.command.Cmds.{Cmds}
use Rattle.redis_model.specs.declared.reply.Reply.{Reply}
use Rattle.redis_model.specs.Desk.{last_sequence}
use Rattle.redis_model.specs.Value.{RedisMap}
use Rattle.lives_model.specs.Rows.{Rows}
use Rattle.lives_model.specs.Means.{Means}
use Rattle.lives_model.specs.Plans.{AreAsked, IsPlanFor, IsReady, version}
use Rattle.lives_model.specs.IssuedLaws.{empty_is_issued, issued_is_ready}
use Rattle.lives_model.specs.IssuedListLaws.{plan_issues_rows}
use Rattle.log_store.specs.Issuing.{AreIssuedUpTo}

-- such rows are ready for a plan with the next sequence
pub issued_are_ready : (rows : Rows) (t sequence : ℕ) (ds : Cmds) → sequence ≤ last_sequence → AreAsked ds → AreIssuedUpTo rows sequence → IsReady rows t (version sequence 0) ds
issued_are_ready rows t sequence ds limit asked issued = issued_is_ready rows t sequence ds limit asked issued

-- and so are the rows after it, for the one after that
pub issued_after : (rows : Rows) (t sequence : ℕ) (m : RedisMap) (ds : Cmds) (b : Batch) (answer : Reply) (until : Option ℕ) → AreAsked ds → Means rows t m → AreIssuedUpTo rows sequence
    → IsPlanFor rows t sequence m ds b answer until → AreIssuedUpTo (after rows b) (sequence + 1)
issued_after rows t sequence m ds b answer until asked means issued plan = plan_issues_rows rows t sequence m ds b answer until asked means issued plan

-- no rows are issued
pub nothing_is_issued : AreIssuedUpTo empty 0
nothing_is_issued = empty_is_issued 0
