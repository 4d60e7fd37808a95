use Rattle.std.proofs.Common.{None, arith}
use Rattle.kv_outside.specs.RunLaws.{nothing_then}
use Rattle.sst_grammar.specs.Judging.{judged_blocks, judged_table}
use Rattle.sst_file.specs.OpenedPartLaws.{blame_leads}
use Rattle.sst_file.proofs.Exits.{err_is}
use Rattle.sst_file.proofs.WholeTable.{blocks_lead, whole_blame, parts_stand}
use Rattle.sst_file.proofs.open_table.open_parts.Goals as goal

pub returns-in_err-sums-clause-blame : goal.returns-in_err-sums-clause-blame
returns-in_err-sums-clause-blame g c =
    let held = g.F.Files.sealed_bytes c.args.opened.file in
    let f = c.in_ok-frame.frame in
    err_is _ _ _ c.from_residual-in_err-sums.ensures.1
    (blame_leads (g.F.Files.faults c.args.files.now) (g.F.Files.faults c.open_frame.new.files) (g.F.Files.faults c.open_blocks.new.files) (g.F.Files.faults c.open_blocks.new.files) c.args.id held (judged_blocks None c.as_slice.result.now) judged_table c.in_err-sums.field-0.0
    c.open_frame.ensures.later (omega arith) (blocks_lead held f.foot f.spots.items c.as_slice.result.now f.bits c.as_slice.ensures.value c.in_ok-frame.ensures.found) c.in_err-sums.ensures.blame)

pub returns-in_err-check_whole-clause-blame : goal.returns-in_err-check_whole-clause-blame
returns-in_err-check_whole-clause-blame g c =
    let held = g.F.Files.sealed_bytes c.args.opened.file in
    let f = c.in_ok-frame.frame in
    let s = c.in_ok-sums.sums in
    err_is _ _ _ c.from_residual-in_err-check_whole.ensures.1
    (whole_blame c.args.opened.bytes held f.foot f.spots.items c.as_slice.result.now f.bits s.rows s.keys.items s.least s.last c.as_slice.ensures.value (g.F.Files.faults c.args.files.now) (g.F.Files.faults c.open_blocks.new.files) c.args.id c.in_err-check_whole.field-0.0
    c.requires c.in_ok-frame.ensures.found c.in_ok-sums.ensures.found c.in_err-check_whole.ensures.blame)

pub returns-clause-found : goal.returns-clause-found
returns-clause-found g c =
    let held = g.F.Files.sealed_bytes c.args.opened.file in
    let f = c.in_ok-frame.frame in
    let s = c.in_ok-sums.sums in
    let p = c.in_ok-parts.parts in
    parts_stand c.args.opened.bytes held f.foot f.spots.items c.as_slice.result.now f.bits s.rows s.keys.items s.least s.last c.as_slice.ensures.value p.desc c.args.id p.spots.items p.bits
    c.requires c.in_ok-frame.ensures.found c.in_ok-sums.ensures.found c.in_ok-check_whole.ensures.agree c.in_ok-parts.ensures.desc c.in_ok-parts.ensures.frame.0 c.in_ok-parts.ensures.frame.1

pub returns-clause-disk : goal.returns-clause-disk
returns-clause-disk g c = nothing_then _ _ _ c.open_frame.ensures.disk c.open_blocks.ensures.disk
