-- Laws on what stands in `Planned.antt`.
use Rattle.std.specs.Prelude.{ℕ, ◌≤◌, Option}
use Rattle.batch_codec.specs.Batches.{Batch}
use Rattle.redis_model.specs.declared.command.Cmds.{Cmds}
use Rattle.redis_model.specs.declared.reply.Reply.{Reply}
use Rattle.redis_model.specs.Desk.{last_sequence}
use Rattle.lives_model.specs.Rows.{Rows}
use Rattle.lives_model.specs.Plans.{AreAsked, IsPlanned}
use Rattle.log_store.specs.IssuingLaws.{issued_are_ready}
use Rattle.log_store.specs.Planned.{IsPlannedNext}

-- a planner's answer is one
pub planned_next : (c : Rows) (t sequence : ℕ) (ds : Cmds) (b : Batch) (answer : Reply) (until : Option ℕ) → sequence ≤ last_sequence → AreAsked ds → IsPlanned c t sequence ds b answer until
    → IsPlannedNext c t sequence ds b answer until
planned_next c t sequence ds b answer until limit asked planned =
    record { plan = λ m means issued. planned.plan m means (issued_are_ready c t sequence ds limit asked issued) }
