-- What the words of a request are read into.
use Rattle.std.specs.Prelude.{◌≡◌, ◌<◌, List, [], ◌∷◌, Option, Some, None, Result, Ok, Err}
use Rattle.kv_base.specs.Map.{Bytes}
use Rattle.redis_model.specs.declared.upkeep.Upkeep.TheVariants.{Compact}
use Rattle.redis_model.specs.About.{weight}
use Rattle.redis_model.specs.Limits.{IsWithin}
use Rattle.cmd_words.specs.Words.{lower, weight_of}
use Rattle.cmd_words.specs.Names.{named}
use Rattle.cmd_words.specs.Table.{read_command}
use Rattle.cmd_words.specs.declared.name.Name.{Name}
use Rattle.cmd_words.specs.declared.fault.FaultKind.{FaultKind}
use Rattle.cmd_words.specs.declared.fault.FaultKind.TheVariants as wrong
use Rattle.cmd_words.specs.declared.fault.CommandFault.{CommandFault}
use Rattle.cmd_words.specs.declared.fault.CommandFault.TheVariants as fault
use Rattle.cmd_words.specs.declared.parsed.Parsed.{Parsed}
use Rattle.cmd_words.specs.declared.parsed.Parsed.TheVariants.{Data, Upkeep}

-- two faults are told with the command's name
abbrev pub named_fault : Bytes → FaultKind → CommandFault
named_fault name wrong.Arity = fault.Arity name
named_fault name wrong.TooLong = fault.TooLong
named_fault name wrong.Syntax = fault.Syntax
named_fault name wrong.NotInt = fault.NotInt
named_fault name wrong.NotScore = fault.NotScore
named_fault name wrong.BadExpire = fault.BadExpire name
named_fault name wrong.BadIndex = fault.BadIndex
named_fault name wrong.NoMem = fault.NoMem

abbrev pub by_name : Bytes → Result Parsed FaultKind → Result Parsed CommandFault
by_name name (Ok p) = Ok p
by_name name (Err e) = Err (named_fault name e)

abbrev pub after_name : Bytes → List Bytes → Option Name → Result Parsed CommandFault
after_name word ws None = Err fault.Unknown
after_name word ws (Some n) = by_name (lower word) (read_command n (weight_of (word ∷ ws)) ws)

-- The first word is the name. A fault comes with the name in lower case
unfoldable pub parsed_as : List Bytes → Result Parsed CommandFault
parsed_as [] = Err fault.Unknown
parsed_as (word ∷ ws) = after_name word ws (named word)

-- memory may run out for a data command and for the name of a fault, and for nothing else
abbrev pub MayRunOut : {E : Type 0} → Result Parsed E → Type 0
MayRunOut (Ok (Data c)) = Unit {0}
MayRunOut (Ok p) = ⊥
MayRunOut (Err e) = Unit {0}

-- what was returned is what the words are read into, unless memory ran out
abbrev pub IsParsed : Result Parsed CommandFault → Result Parsed CommandFault → Type 0
IsParsed (Err fault.NoMem) p = MayRunOut p
IsParsed r p = p ≡ r

-- what a request can ask for: a command within the limits, which weighs what the words weigh, or a level that is there
abbrev pub IsAskable : List Bytes → Parsed → Type 0
IsAskable words (Data c) = IsWithin c × (weight c ≡ weight_of words)
IsAskable words (Upkeep (Compact (Some n))) = n < 4
IsAskable words _ = Unit {0}
