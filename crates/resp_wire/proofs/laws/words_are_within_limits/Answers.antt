use Rattle.resp_wire.specs.WrittenLaws.{words_are_within_limits}
use Rattle.resp_wire.proofs.laws.words_are_within_limits.Goals as goal

pub returns : goal.returns
returns c = words_are_within_limits
