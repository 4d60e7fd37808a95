use Rattle.std.proofs.Common.{◌+◌, None, length, refl, arith}
use Rattle.std.specs.Prelude.{◌==◌}
use Rattle.kv_outside.specs.RunLaws.{nothing_then}
use Rattle.sst_file.specs.BlockReads.{judged_block}
use Rattle.sst_grammar.specs.Judging.{judged_blocks}
use Rattle.sst_file.specs.OpenedPartLaws.{blame_leads}
use Rattle.sst_file.proofs.Exits.{err_is}
use Rattle.sst_file.proofs.BlockLoop.{reads_on, blames, reads_all}
use Rattle.sst_file.proofs.blocks.open_blocks.Goals as goal

pub returns-in_err-sums-clause-blame : goal.returns-in_err-sums-clause-blame
returns-in_err-sums-clause-blame g c =
    let s = c.loop-at.sums in
    let held = g.F.Files.sealed_bytes c.args.opened.now.file in
    let is_last = c.loop-at.at + 1 == length c.args.spots.now in
    err_is _ _ _ c.from_residual.ensures.1
    (blame_leads (g.F.Files.faults c.args.files.now) (g.F.Files.faults c.loop-at.files) (g.F.Files.faults c.open_block.new.files) (g.F.Files.faults c.open_block.new.files) c.args.id held
    (judged_block is_last s.last c.index-spots-at.result) (judged_blocks None c.args.spots.now) c.in_err-sums.field-0.0 c.loop-at.invariant.later (omega arith)
    (blames c.args.spots.now c.loop-at.at c.index-spots-at.result c.index-spots-at.is (omega arith) is_last refl s.rows s.keys.items s.least s.last held c.loop-at.invariant.read)
    c.in_err-sums.ensures.blame)

pub loop-at-preserved : goal.loop-at-preserved
loop-at-preserved g c =
    let s = c.loop-at.sums in
    let m = c.in_ok-sums.sums in
    record {
      read = reads_on c.args.spots.now c.loop-at.at c.index-spots-at.result c.index-spots-at.is (omega arith) (c.loop-at.at + 1 == length c.args.spots.now) refl s.rows s.keys.items s.least s.last (g.F.Files.sealed_bytes c.args.opened.now.file)
          (c.loop-at.at + 1) m.rows m.keys.items m.least m.last (omega arith) c.loop-at.invariant.read c.in_ok-sums.ensures.found;
      disk = nothing_then _ _ _ c.loop-at.invariant.disk c.open_block.ensures.disk;
      later = omega (arith, c.loop-at.invariant.later, c.open_block.ensures.later);
    }

pub returns-clause-found : goal.returns-clause-found
returns-clause-found g c =
    let s = c.loop-at.sums in
    reads_all c.args.spots.now c.loop-at.at s.rows s.keys.items s.least s.last (g.F.Files.sealed_bytes c.args.opened.now.file) (omega arith) c.loop-at.invariant.read
