use Rattle.resp_wire.proofs.Searching.{none_long, none_unended}
use Rattle.resp_wire.proofs.line.line.Goals as goal

pub returns-in-None : goal.returns-in-None
returns-in-None c = none_long c.args.searched c.min.result c.args.bytes.now _ _ c.requires c.min.ensures c.split_at.ensures.front c.split_at-2.ensures.back c.in-None.ensures c.if-bytes-gt-MAX_LINE.true

pub returns-in-None-2 : goal.returns-in-None-2
returns-in-None-2 c = none_unended c.args.searched c.min.result c.args.bytes.now _ _ c.requires c.min.ensures c.split_at.ensures.front c.split_at-2.ensures.back c.in-None-2.ensures c.if-bytes-gt-MAX_LINE.false
