use Rattle.turn_hall.specs.Places.{by_of}
use Rattle.turn_hall.proofs.Moves.{opens}
use Rattle.turn_hall.proofs.steps.open.Goals as goal

pub of_words-requires : goal.of_words-requires
of_words-requires c = opens by_of
