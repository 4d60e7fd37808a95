use Rattle.std.proofs.Common.{Some, None, sym, refl, arith, ◌-◌}
use Rattle.sst_grammar.specs.Judging.{judged_foot}
use Rattle.sst_file.proofs.Opened.{blamed, short_told, headless_told, foot_told}
use Rattle.sst_file.proofs.opening.open_foot.Goals as goal

pub returns-then-opened-from-clause-blame : goal.returns-then-opened-from-clause-blame
returns-then-opened-from-clause-blame g c =
    let held = g.F.Files.sealed_bytes c.args.opened.now.file in
    blamed _ _ c.args.id held judged_foot 0 c.off.result c.off.ensures (short_told c.args.opened.now.bytes c.from.result held c.requires c.from.ensures (omega arith))

pub returns-then-not-is_head-clause-blame : goal.returns-then-not-is_head-clause-blame
returns-then-not-is_head-clause-blame g c =
    let held = g.F.Files.sealed_bytes c.args.opened.now.file in
    blamed _ _ c.args.id held judged_foot 0 c.off-then-not-is_head.result c.off-then-not-is_head.ensures
    (headless_told c.args.opened.now.bytes c.from.result held c.requires c.from.ensures (omega arith) c.in_ok-head.head.items c.as_slice.result.now c.as_slice.ensures.value c.in_ok-head.ensures.bytes (sym c.if-not-is_head.ensures))

pub returns-in-Some-clause-found : goal.returns-in-Some-clause-found
returns-in-Some-clause-found g c =
    let held = g.F.Files.sealed_bytes c.args.opened.now.file in
    foot_told c.args.opened.now.bytes c.from.result held c.requires c.from.ensures (omega arith) c.in_ok-head.head.items c.as_slice.result.now c.as_slice.ensures.value c.in_ok-head.ensures.bytes (sym c.if-not-is_head.ensures)
    (c.args.opened.now.bytes - 36) c.in_ok-bytes.bytes.items c.as_slice-2.result.now (Some c.in-Some.foot) refl c.as_slice-2.ensures.value c.in_ok-bytes.ensures.bytes c.in-Some.ensures

pub returns-clause-blame : goal.returns-clause-blame
returns-clause-blame g c =
    let held = g.F.Files.sealed_bytes c.args.opened.now.file in
    blamed _ _ c.args.id held judged_foot (c.args.opened.now.bytes - 36) c.off-in-None.result c.off-in-None.ensures
    (foot_told c.args.opened.now.bytes c.from.result held c.requires c.from.ensures (omega arith) c.in_ok-head.head.items c.as_slice.result.now c.as_slice.ensures.value c.in_ok-head.ensures.bytes (sym c.if-not-is_head.ensures)
    (c.args.opened.now.bytes - 36) c.in_ok-bytes.bytes.items c.as_slice-2.result.now None refl c.as_slice-2.ensures.value c.in_ok-bytes.ensures.bytes c.in-None.ensures)
