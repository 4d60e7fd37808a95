use Rattle.std.proofs.Common.{Some, None, ap, option_map}
use Rattle.sst_grammar.specs.Judging.{judged_index}
use Rattle.sst_file.proofs.Opened.{blamed, index_told}
use Rattle.sst_file.proofs.opening.open_index.Goals as goal

pub returns-in-Some-clause-found : goal.returns-in-Some-clause-found
returns-in-Some-clause-found g c =
    index_told c.args.foot.now c.in_ok-bytes.bytes.items c.as_slice.result.now (g.F.Files.sealed_bytes c.args.opened.now.file) c.from.result (option_map (λ spots. spots.items) c.in_ok-spots.field-0) (Some c.in-Some.spots.items) c.as_slice.ensures.value c.from.ensures c.in_ok-bytes.ensures.bytes c.in_ok-spots.ensures
    (ap (option_map (λ spots. spots.items)) c.in-Some.is)

pub returns-clause-blame : goal.returns-clause-blame
returns-clause-blame g c =
    let held = g.F.Files.sealed_bytes c.args.opened.now.file in
    blamed _ _ c.args.id held (judged_index c.args.foot.now) c.args.foot.now.index c.off.result c.off.ensures
    (index_told c.args.foot.now c.in_ok-bytes.bytes.items c.as_slice.result.now held c.from.result (option_map (λ spots. spots.items) c.in_ok-spots.field-0) None c.as_slice.ensures.value c.from.ensures c.in_ok-bytes.ensures.bytes c.in_ok-spots.ensures
    (ap (option_map (λ spots. spots.items)) c.in-None.is))
