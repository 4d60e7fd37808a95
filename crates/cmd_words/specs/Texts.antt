-- The texts of the faults. Those of Arity, Syntax, NotInt and BadIndex are Redis's, all others are this server's own.
use Rattle.std.specs.Prelude.{◌++◌, codes}
use Rattle.kv_base.specs.Map.{Bytes}
use Rattle.cmd_words.specs.declared.fault.CommandFault.{CommandFault}
use Rattle.cmd_words.specs.declared.fault.CommandFault.TheVariants as fault

abbrev pub command_fault_text : CommandFault → Bytes
command_fault_text fault.Unknown = codes "ERR unknown command"
command_fault_text (fault.Arity name) = codes "ERR wrong number of arguments for '" ++ name ++ codes "' command"
command_fault_text fault.TooLong = codes "ERR word too long"
command_fault_text fault.Syntax = codes "ERR syntax error"
command_fault_text fault.NotInt = codes "ERR value is not an integer or out of range"
command_fault_text fault.NotScore = codes "ERR value is not a whole score"
command_fault_text (fault.BadExpire name) = codes "ERR invalid expire time in '" ++ name ++ codes "' command"
command_fault_text fault.BadIndex = codes "ERR DB index is out of range"
command_fault_text fault.NoMem = codes "NOMEM no memory"
