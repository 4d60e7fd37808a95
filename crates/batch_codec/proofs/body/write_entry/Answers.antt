use Rattle.std.proofs.Common.{refl, arith}
use Rattle.batch_codec.specs.EntryTextLaws.{put_length, delete_length}
use Rattle.batch_codec.proofs.body.write_entry.Goals as goal

pub put_text-requires : goal.put_text-requires
put_text-requires c =
    let total = put_length c.args.entry.now c.in-Put.value c.bytes.result.now c.in-Put.value c.in-Put.is c.bytes.ensures refl in
    omega (arith, total, c.requires)

pub put_text-requires-in-Put : goal.put_text-requires-in-Put
put_text-requires-in-Put c =
    let total = put_length c.args.entry.now c.in-Put.value c.bytes.result.now c.bytes-in-Put.result.now c.in-Put.is c.bytes.ensures c.bytes-in-Put.ensures in
    omega (arith, total, c.requires)

pub put_text-requires-in-Del : goal.put_text-requires-in-Del
put_text-requires-in-Del c =
    let total = delete_length c.args.entry.now c.bytes-in-Del.result.now c.in-Del.is c.bytes-in-Del.ensures in
    omega (arith, total, c.requires)
