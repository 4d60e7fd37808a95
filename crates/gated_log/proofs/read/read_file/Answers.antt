use Rattle.std.proofs.Common.{◌∙◌, arith, length, drop}
use Rattle.gated_log.proofs.Filling.{whole_read, leaves_read, still_durable, front_of}
use Rattle.kv_outside.specs.RunLaws.{nothing_then}
use Rattle.gated_log.proofs.read.read_file.Goals as goal

pub returns-clause-durable : goal.returns-clause-durable
returns-clause-durable g c =
    let count = c.in_ok-count.count in
    let filled = c.fill.new.buffer in
    let found = c.truncate.new.self.items in
    let held = g.F.Files.bytes_of c.in_ok-log.log in
    leaves_read _ _ held found
    (whole_read c.in_ok-length.length count c.as_mut_slice.result.now filled found held c.in_ok-length.ensures.bytes
    (c.as_mut_slice.ensures.len ∙ c.in_ok-bytes.ensures.len)
    c.in_ok-count.ensures.bytes
    (c.truncate.ensures.items ∙ front_of count c.in_ok-bytes.bytes.len filled (drop (length filled) c.in_ok-bytes.bytes.items) (omega (arith, c.in_ok-count.ensures.bound, c.fill.auto.buffer)) (omega (arith, c.in_ok-count.ensures.bound, c.as_mut_slice.ensures.len))))
    (still_durable _ _ _ held c.in_ok-log.ensures.durable (nothing_then _ _ _ c.length.ensures.disk c.fill.ensures.disk))
