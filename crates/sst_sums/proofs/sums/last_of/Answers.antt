use Rattle.std.proofs.Common.{sym, ap, ◌∙◌, Some}
use Rattle.sst_sums.specs.SumLaws.{or_last_is, or_last_not}
use Rattle.sst_sums.proofs.sums.last_of.Goals as goal

pub returns-in_ok-bare_copy-in-Some : goal.returns-in_ok-bare_copy-in-Some
returns-in_ok-bare_copy-in-Some c = ap (λ r. Some r) c.in_ok-bare_copy-in-Some.ensures ∙ sym (or_last_is c.args.last c.args.rows.now c.in-Some.row.now (sym c.in-Some.ensures.value))

pub returns-in-None : goal.returns-in-None
returns-in-None c = sym (or_last_not c.args.last c.args.rows.now (sym c.in-None.ensures.value))
