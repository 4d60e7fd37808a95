use Rattle.cmd_words.specs.Names.{starting}
use Rattle.cmd_words.proofs.Finding.{found_short, found_long}
use Rattle.cmd_words.proofs.name.with_s.Goals as goal

pub returns-then-bytes-lt6 : goal.returns-then-bytes-lt6
returns-then-bytes-lt6 c = found_short _ (starting 115) 6 _ _ c.bytes.ensures c.if-bytes-lt6.true c.with_s_short.ensures

pub returns-else-bytes-lt6 : goal.returns-else-bytes-lt6
returns-else-bytes-lt6 c = found_long _ (starting 115) 6 _ _ c.bytes.ensures c.if-bytes-lt6.false c.with_s_long.ensures
