-- What the reading of a configuration answers.
use Rattle.std.specs.Prelude.{◌≡◌, ◌+◌, ◌⊎◌, ℕ, Bool, true, List, length, Option, Result, Ok, Err, ⊤}
use Rattle.std.specs.Io.KnownBytes.{Consumes}
use Rattle.kv_base.specs.Map.{Bytes}
use Rattle.conf_file.specs.declared.conf.Conf.{Conf}
use Rattle.conf_file.specs.declared.fault.ConfFault.{ConfFault}
use Rattle.conf_file.specs.declared.fault.ConfFault.TheVariants as fault
use Rattle.conf_file.specs.declared.fault.ConfFlaw.{ConfFlaw}
use Rattle.conf_file.specs.Configuration.{configured, most_bytes}

-- The answer is what the grammar says. Memory may run out at any time, and nothing is read.
abbrev pub ConfAnswers : Result Conf ConfFlaw → Result Conf ConfFault → Type 0
ConfAnswers said (Ok conf) = said ≡ Ok conf
ConfAnswers said (Err (fault.Conf flaw)) = said ≡ Err flaw
ConfAnswers said (Err fault.NoMem) = ⊤
ConfAnswers said (Err fault.ReadFault) = ⊥

-- no flaw of the bytes
abbrev pub IsNoFlaw : ConfFault → Type 0
IsNoFlaw (fault.Conf flaw) = ⊥
IsNoFlaw _ = ⊤

-- These bytes were taken from a source: all, to its end, or one more than a configuration has at most.
pub record WereTaken (before after : Option (List ℕ)) (ended : Bool) (bytes : Bytes) : Type 0 where
  pub consumed : Consumes before after bytes
  pub whole : (ended ≡ true) ⊎ (length bytes ≡ most_bytes + 1)

-- A configuration and a flaw are those of the bytes that were taken.
abbrev pub AnswersTaken : Option (List ℕ) → Option (List ℕ) → Bool → Result Conf ConfFault → Type 0
AnswersTaken before after ended (Err fault.ReadFault) = ⊤
AnswersTaken before after ended (Err fault.NoMem) = ⊤
AnswersTaken before after ended result = (bytes : Bytes) × WereTaken before after ended bytes × ConfAnswers (configured bytes) result
