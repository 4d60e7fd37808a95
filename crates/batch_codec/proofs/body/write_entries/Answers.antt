use Rattle.std.proofs.Common.{arith}
use Rattle.batch_codec.specs.EntryTextLaws.{next_length, front_length}
use Rattle.batch_codec.proofs.body.write_entries.Goals as goal

pub write_entry-requires : goal.write_entry-requires
write_entry-requires c =
    let next = next_length c.args.entries.now c.loop-entry.entry-index c.entry-item.result c.entry-item.is (omega arith) in
    let front = front_length c.args.entries.now c.loop-entry.entry-index in
    omega (arith, next, front, c.requires)
