use Rattle.std.proofs.Common.{◌+◌, drop, arith}
use Rattle.kv_outside.specs.RunLaws.{nothing_new}
use Rattle.kv_outside.specs.ToldLaws.{told_leads}
use Rattle.kv_outside.specs.RunLaws.{nothing_then}
use Rattle.sst_file.specs.States.{AreTableParts}
use Rattle.sst_file.specs.Searching.{AreBlocksLeft}
use Rattle.sst_file.specs.SearchOrderLaws.{search_from}
use Rattle.sst_file.proofs.SearchLoop.{next_block, goes_on, answers, ends}
use Rattle.sst_file.proofs.searching.find_from.Goals as goal

pub loop-at-init : goal.loop-at-init
loop-at-init g c = record {
  left =
      let p = c.args.parts.now in
      told_leads (AreTableParts p.spots.items p.bits p.desc) (AreBlocksLeft c.args.raw.now c.args.seq (drop c.first_block-at.result p.spots.items))
      (λ bytes parts. search_from c.args.raw.now c.args.seq c.first_block-at.result p.spots.items c.as_slice-spots.result.now p.bits p.desc bytes c.as_slice-spots.ensures.value c.first_block-at.ensures.split parts)
      (g.F.Files.sealed_bytes p.file) c.requires;
  disk = nothing_new (g.F.Files.disk c.args.files.now);
  later = omega arith;
}

pub find_in-requires : goal.find_in-requires
find_in-requires g c =
    let p = c.args.parts.now in
    next_block c.args.raw.now c.args.seq p.spots.items c.as_slice-spots.result.now c.loop-at.at c.index-spots-at.result c.as_slice-spots.ensures.value c.index-spots-at.is (omega arith) (g.F.Files.sealed_bytes p.file) c.loop-at.invariant.left

pub returns-in-Some-clause-row : goal.returns-in-Some-clause-row
returns-in-Some-clause-row g c =
    let p = c.args.parts.now in
    answers c.args.raw.now c.args.seq p.spots.items c.as_slice-spots.result.now c.loop-at.at c.index-spots-at.result c.as_slice-spots.ensures.value c.index-spots-at.is (omega arith) (g.F.Files.sealed_bytes p.file)
    c.in_ok-row.field-0 c.in-Some.row c.in-Some.is c.loop-at.invariant.left c.in_ok-row.ensures.row

pub loop-at-preserved : goal.loop-at-preserved
loop-at-preserved g c = record {
  left =
      let p = c.args.parts.now in
      goes_on c.args.raw.now c.args.seq p.spots.items c.as_slice-spots.result.now c.loop-at.at c.index-spots-at.result c.as_slice-spots.ensures.value c.index-spots-at.is (omega arith) (g.F.Files.sealed_bytes p.file)
      (c.loop-at.at + 1) c.in_ok-row.field-0 (omega arith) c.in_default.is c.loop-at.invariant.left c.in_ok-row.ensures.row;
  disk = nothing_then _ _ _ c.loop-at.invariant.disk c.find_in.ensures.disk;
  later = omega (arith, c.loop-at.invariant.later, c.find_in.ensures.later);
}

pub returns-clause-row : goal.returns-clause-row
returns-clause-row g c =
    let p = c.args.parts.now in
    ends c.args.raw.now c.args.seq p.spots.items c.as_slice-spots.result.now c.loop-at.at (g.F.Files.sealed_bytes p.file) c.as_slice-spots.ensures.value (omega arith) c.loop-at.invariant.left
