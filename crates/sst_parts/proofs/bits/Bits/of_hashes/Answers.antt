use Rattle.std.proofs.Common.{arith}
use Rattle.sst_parts.specs.FilterLaws.{filter_begins}
use Rattle.sst_parts.proofs.bits.Bits.of_hashes.Goals as goal

pub loop-key-init : goal.loop-key-init
loop-key-init c = (
  filter_begins c.args.keys.now c.in_ok-bytes.bytes.items c.byte_count.result (c.in_ok-bytes.ensures.items_if_clones_equal (λ y is. is)) c.byte_count.ensures.count,
  omega (arith, c.in_ok-bytes.ensures.len, c.byte_count.ensures.least),
  omega (arith, c.in_ok-bytes.ensures.len, c.byte_count.ensures.limit),
)
