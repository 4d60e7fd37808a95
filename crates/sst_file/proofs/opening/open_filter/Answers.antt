use Rattle.std.proofs.Common.{Some, None}
use Rattle.sst_grammar.specs.Judging.{judged_filter}
use Rattle.sst_file.proofs.Opened.{blamed, filter_told}
use Rattle.sst_file.proofs.opening.open_filter.Goals as goal

pub returns-in-Some-clause-found : goal.returns-in-Some-clause-found
returns-in-Some-clause-found g c =
    filter_told c.args.foot.now c.in_ok-bytes.bytes.items c.as_slice.result.now (g.F.Files.sealed_bytes c.args.opened.now.file) c.in_ok-bits.field-0 (Some c.in-Some.bits) c.as_slice.ensures.value c.in_ok-bytes.ensures.bytes c.in_ok-bits.ensures c.in-Some.is

pub returns-clause-blame : goal.returns-clause-blame
returns-clause-blame g c =
    let held = g.F.Files.sealed_bytes c.args.opened.now.file in
    blamed _ _ c.args.id held (judged_filter c.args.foot.now) c.args.foot.now.filter c.off.result c.off.ensures
    (filter_told c.args.foot.now c.in_ok-bytes.bytes.items c.as_slice.result.now held c.in_ok-bits.field-0 None c.as_slice.ensures.value c.in_ok-bytes.ensures.bytes c.in_ok-bits.ensures c.in-None.is)
