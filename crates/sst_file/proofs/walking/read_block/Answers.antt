use Rattle.sst_file.proofs.InBlock.{damage_untold}
use Rattle.sst_file.proofs.Bodies.{body_short, body_at_spot, body_never_cut}
use Rattle.sst_file.proofs.walking.read_block.Goals as goal

pub returns-in-Some-clause-body : goal.returns-in-Some-clause-body
returns-in-Some-clause-body g c =
    body_at_spot c.args.spot.now c.in_ok-block.block.items c.in_ok-block.ensures.short c.in-Some.rest (g.F.Files.sealed_bytes c.args.parts.now.file) c.in_ok-block.ensures.bytes c.in-Some.ensures

pub returns-in-Some-clause-short : goal.returns-in-Some-clause-short
returns-in-Some-clause-short g c = body_short c.in_ok-block.block.items c.in-Some.rest c.in-Some.ensures

pub returns-in-None-clause-cause : goal.returns-in-None-clause-cause
returns-in-None-clause-cause g c =
    let held = g.F.Files.sealed_bytes c.args.parts.now.file in
    damage_untold _ _ c.args.parts.now.desc.id held c.args.spot.now.place c.off.result c.off.ensures
    (body_never_cut c.args.spot.now c.in_ok-block.block.items c.in_ok-block.ensures.short held c.requires c.in_ok-block.ensures.bytes c.in-None.ensures)
