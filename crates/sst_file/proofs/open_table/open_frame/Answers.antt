use Rattle.std.proofs.Common.{arith}
use Rattle.sst_grammar.specs.Judging.{judged_foot, judged_index, judged_filter, judged_table}
use Rattle.sst_file.specs.OpenedPartLaws.{blame_leads, foot_to_blame}
use Rattle.sst_file.proofs.Exits.{err_is, always, index_leads, filter_leads}
use Rattle.sst_file.proofs.open_table.open_frame.Goals as goal

pub returns-in_err-foot-clause-blame : goal.returns-in_err-foot-clause-blame
returns-in_err-foot-clause-blame g c =
    let held = g.F.Files.sealed_bytes c.args.opened.now.file in
    err_is _ _ _ c.from_residual.ensures.1
    (blame_leads (g.F.Files.faults c.args.files.now) (g.F.Files.faults c.args.files.now) (g.F.Files.faults c.open_foot.new.files) (g.F.Files.faults c.open_foot.new.files) c.args.id held judged_foot judged_table c.in_err-foot.field-0.0
    (omega arith) (omega arith) (always held _ (λ bytes place h. foot_to_blame bytes place h)) c.in_err-foot.ensures.blame)

pub returns-in_err-spots-clause-blame : goal.returns-in_err-spots-clause-blame
returns-in_err-spots-clause-blame g c =
    let held = g.F.Files.sealed_bytes c.args.opened.now.file in
    err_is _ _ _ c.from_residual-in_err-spots.ensures.1
    (blame_leads (g.F.Files.faults c.args.files.now) (g.F.Files.faults c.open_foot.new.files) (g.F.Files.faults c.open_index.new.files) (g.F.Files.faults c.open_index.new.files) c.args.id held (judged_index c.in_ok-foot.foot) judged_table c.in_err-spots.field-0.0
    c.open_foot.ensures.later (omega arith) (index_leads held c.in_ok-foot.foot c.in_ok-foot.ensures.found) c.in_err-spots.ensures.blame)

pub returns-in_err-bits-clause-blame : goal.returns-in_err-bits-clause-blame
returns-in_err-bits-clause-blame g c =
    let held = g.F.Files.sealed_bytes c.args.opened.now.file in
    err_is _ _ _ c.from_residual-in_err-bits.ensures.1
    (blame_leads (g.F.Files.faults c.args.files.now) (g.F.Files.faults c.open_index.new.files) (g.F.Files.faults c.open_filter.new.files) (g.F.Files.faults c.open_filter.new.files) c.args.id held (judged_filter c.in_ok-foot.foot) judged_table c.in_err-bits.field-0.0
    (omega (arith, c.open_foot.ensures.later, c.open_index.ensures.later)) (omega arith) (filter_leads held c.in_ok-foot.foot c.in_ok-spots.spots.items c.in_ok-foot.ensures.found c.in_ok-spots.ensures.found) c.in_err-bits.ensures.blame)
