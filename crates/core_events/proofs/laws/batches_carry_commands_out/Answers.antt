use Rattle.core_events.specs.CommittingLaws.{play_stands}
use Rattle.core_events.proofs.laws.batches_carry_commands_out.Goals as goal

pub returns : goal.returns
returns c = play_stands
