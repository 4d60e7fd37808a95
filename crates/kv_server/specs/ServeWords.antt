-- The words of the program that serves clients.
use Rattle.std.specs.Prelude.{Bool, true, false, List, Option, Some}
use Rattle.kv_base.specs.Map.{Bytes}
use Rattle.kv_conf.specs.CommandLine.{asked_line}
use Rattle.kv_conf.specs.declared.words.Words.{Words}
use Rattle.kv_conf.specs.declared.words.Words.TheVariants as words

abbrev pub names_serve : Option Words → Bool
names_serve (Some (words.Serve file)) = true
names_serve _ = false

-- whether the words ask for `serve`, by the grammar of command lines
abbrev pub is_serve : List Bytes → Bool
is_serve line = names_serve (asked_line line)
