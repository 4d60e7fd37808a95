use Rattle.cmd_words.specs.Names.{starting}
use Rattle.cmd_words.proofs.Finding.{found_short, found_long}
use Rattle.cmd_words.proofs.name.with_z.Goals as goal

pub returns-then-bytes-lt7 : goal.returns-then-bytes-lt7
returns-then-bytes-lt7 c = found_short _ (starting 122) 7 _ _ c.bytes.ensures c.if-bytes-lt7.true c.with_z_short.ensures

pub returns-else-bytes-lt7 : goal.returns-else-bytes-lt7
returns-else-bytes-lt7 c = found_long _ (starting 122) 7 _ _ c.bytes.ensures c.if-bytes-lt7.false c.with_z_long.ensures
