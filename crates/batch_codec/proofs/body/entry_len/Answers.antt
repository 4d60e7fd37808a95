use Rattle.std.proofs.Common.{sym}
use Rattle.batch_codec.specs.EntryTextLaws.{put_length, delete_length}
use Rattle.batch_codec.proofs.body.entry_len.Goals as goal

pub returns-in-Put : goal.returns-in-Put
returns-in-Put c = sym (put_length c.args.entry.now c.in-Put.value c.bytes.result.now c.bytes-in-Put.result.now c.in-Put.is c.bytes.ensures c.bytes-in-Put.ensures)

pub returns-in-Del : goal.returns-in-Del
returns-in-Del c = sym (delete_length c.args.entry.now c.bytes.result.now c.in-Del.is c.bytes.ensures)
