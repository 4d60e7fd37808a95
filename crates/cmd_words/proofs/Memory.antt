-- What is told of a data command, and what memory may run out for.
use Rattle.std.proofs.Common.{Result, Ok, Err, ap}
use Rattle.redis_model.specs.declared.command.Command.{Command}
use Rattle.cmd_words.specs.Reading.{IsToldOrNoMem}
use Rattle.cmd_words.specs.Table.{data_of}
use Rattle.cmd_words.specs.Parsed.{MayRunOut}
use Rattle.cmd_words.specs.declared.fault.FaultKind.{FaultKind}
use Rattle.cmd_words.specs.declared.fault.FaultKind.TheVariants as wrong

-- a data command, or a fault of its words
pub of_data : (r : Result Command FaultKind) → MayRunOut (data_of r)
of_data (Ok c) = tt
of_data (Err e) = tt

-- what was told of a command is told of it as data
pub tells_data : (r t : Result Command FaultKind) → IsToldOrNoMem r t → IsToldOrNoMem (data_of r) (data_of t)
tells_data (Ok c) t h = ap data_of h
tells_data (Err wrong.NoMem) t h = tt
tells_data (Err e) t h = ap data_of h
