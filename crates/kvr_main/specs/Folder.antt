-- The folder that a command line names.
use Rattle.std.specs.Prelude.{Option, Some, List, codes}
use Rattle.kv_base.specs.Map.{Bytes}
use Rattle.kv_conf.specs.CommandLine.{asked_line}
use Rattle.kv_conf.specs.declared.words.Words.{Words}
use Rattle.kv_conf.specs.declared.words.Words.TheVariants.{Script}

abbrev pub folder_named : Option Words → Bytes
folder_named (Some (Script folder)) = folder
folder_named _ = codes "."

-- that of `script`; the folder where the program runs for other words, of which no file is called
abbrev pub folder_of : List Bytes → Bytes
folder_of line = folder_named (asked_line line)
