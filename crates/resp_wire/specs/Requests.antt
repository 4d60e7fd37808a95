-- The requests of a text are the first one and those of what follows it, however the text goes on.
use Rattle.std.specs.Prelude.{ℕ, List}
use Rattle.resp_wire.specs.Grammar.{End}

abbrev pub Found : Type 0
Found = List (List (List ℕ)) × End
