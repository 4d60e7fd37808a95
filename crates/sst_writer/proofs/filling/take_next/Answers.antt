use Rattle.std.proofs.Common.{sym, ap, ◌∙◌, Option}
use Rattle.kv_base.specs.declared.row.Row.{Row}
use Rattle.sst_writer.specs.Cutting.{ends_at}
use Rattle.sst_writer.specs.TakingLaws.{ends_here}
use Rattle.sst_writer.proofs.filling.take_next.Goals as goal

pub returns-then-ends_at-clause-next : goal.returns-then-ends_at-clause-next
returns-then-ends_at-clause-next g c = λ done built.
    ends_here c.args.limit done _ _ c.peek.new.self.held c.in_ok-peek.ensures.shown
    (sym (ap (λ (o : Option Row). ends_at c.args.limit done o) c.shown.ensures) ∙ sym (c.ends_at.ensures done built) ∙ c.if-ends_at.true)
    c.in_ok-peek.ensures.rows
