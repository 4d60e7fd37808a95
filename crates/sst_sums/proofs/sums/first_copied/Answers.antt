use Rattle.std.proofs.Common.{sym, ap, ◌∙◌, Some}
use Rattle.sst_sums.specs.SumLaws.{first_is, first_not}
use Rattle.sst_sums.proofs.sums.first_copied.Goals as goal

pub returns-in_ok-copy-in-Some : goal.returns-in_ok-copy-in-Some
returns-in_ok-copy-in-Some c = ap (λ b. Some b) c.in_ok-copy-in-Some.ensures ∙ sym (first_is c.args.rows.now c.in-Some.row.now (sym c.in-Some.ensures.value))

pub returns-in-None : goal.returns-in-None
returns-in-None c = sym (first_not c.args.rows.now (sym c.in-None.ensures.value))
