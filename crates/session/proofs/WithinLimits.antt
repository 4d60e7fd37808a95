-- What a reader hands out is within the limits of the words of a command.
use Rattle.std.proofs.Common.{◌<◌, List, length, Option, Some, None, Ok, IfSome}
use Rattle.std.specs.Prelude.{IfNone, []}
use Rattle.kv_base.specs.Map.{Bytes}
use Rattle.cmd_words.specs.Words.{AreRequestWords}
use Rattle.resp_wire.specs.Encoding.{IsWithinLimits}
use Rattle.resp_wire.specs.Reading.{ReadsRequest, IsUnfinished}
use Rattle.resp_wire.specs.WrittenLaws.{reads_within_limits}
use Rattle.session.specs.Serving.{NextAs}

-- the limits of the wire are those of a command's words
is_request : (words : List Bytes) → 0 < length words → IsWithinLimits words → AreRequestWords words
is_request words some within = record { some = some; few = within.count; short = within.each; light = within.all }

-- what a reader answers, by its clauses
pub next_within : (old new : Bytes) (got : Option (List Bytes)) → IfSome got (λ words. ReadsRequest old words new × (length new < length old) × (0 < length words)) → IfNone got (ReadsRequest old [] new × IsUnfinished new) → NextAs old new (Ok got)
next_within old new None some none = none
next_within old new (Some words) some none = (some.0, some.1, is_request words some.2 (reads_within_limits old words new some.0))
