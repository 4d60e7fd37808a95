-- ZADD (Redis command reference): NX, XX, CH and INCR before the first score, any number of times, and then pairs of a score
-- and a member.
use Rattle.std.specs.Prelude.{ℕ, nat_lt, Bool, true, false, ◌&&◌, ◌||◌, if◌then◌else◌, List, [], ◌∷◌, ◌++◌, length, map, Option, Some, None, Result, Ok, ℤ, codes}
use Rattle.kv_base.specs.Map.{Bytes}
use Rattle.redis_model.specs.declared.command.Command.{Command}
use Rattle.redis_model.specs.declared.command.Command.TheVariants as cmd
use Rattle.redis_model.specs.declared.command.When.{When}
use Rattle.redis_model.specs.declared.command.When.TheVariants as when
use Rattle.redis_model.specs.declared.command.ZAddHow.{ZAddHow}
use Rattle.cmd_words.specs.Words.{is}
use Rattle.cmd_words.specs.Places.{K, M, S, said}
use Rattle.cmd_words.specs.Reading.{◌>>=◌, all_at, firsts, seconds, no_pairs, one_and_two, judged, judged_as}
use Rattle.cmd_words.specs.declared.fault.FaultKind.{FaultKind}
use Rattle.cmd_words.specs.declared.add.AddFlags.{AddFlags}

abbrev pub no_flags : AddFlags
no_flags = record { nx = false; xx = false; ch = false; incr = false }

-- the flags and this one; none where the word is no flag
unfoldable pub with_flag : AddFlags → Bytes → Option AddFlags
with_flag f w =
    if is (codes "nx") w then Some (record f { nx = true })
    else if is (codes "xx") w then Some (record f { xx = true })
    else if is (codes "ch") w then Some (record f { ch = true })
    else if is (codes "incr") w then Some (record f { incr = true })
    else None

abbrev pub or_else : {A : Type 0} → Option AddFlags → A → (AddFlags → A) → A
or_else None x h = x
or_else (Some f) x h = h f

-- the flags after these, and the words from the first that is none
unfoldable pub flags : AddFlags → List Bytes → AddFlags × List Bytes
flags f [] = (f, [])
flags f (w ∷ ws) = or_else (with_flag f w) (f, w ∷ ws) (λ g. flags g ws)

abbrev pub when_of : AddFlags → When
when_of f = if f.nx then when.IfAbsent else if f.xx then when.IfPresent else when.Any

abbrev pub how : AddFlags → ZAddHow
how f = record { when = when_of f; changed = f.ch; incr = f.incr }

-- NX with XX, no whole pairs, or INCR with more than one (that these are refused before any score is this server's own)
unfoldable pub off : AddFlags → List Bytes → Bool
off f ws = (f.nx && f.xx) || no_pairs ws || (f.incr && nat_lt 2 (length ws))

-- scores and members stand by turns, also where the last pair is not whole
unfoldable pub scored : AddFlags → List Bytes → Result (List ℤ × List Bytes) FaultKind
scored f ws = judged_as (off f ws) (all_at S (firsts ws) ++ all_at M (seconds ws)) (map (said S) (firsts ws), seconds ws)

-- a key, and at least two more words
unfoldable pub add : ℕ → List Bytes → Result Command FaultKind
add weight ws = do
  x ← one_and_two ws
  k ← judged ((K, x.0) ∷ []) x.0
  let y = flags no_flags x.1
  z ← scored y.0 y.1
  Ok (cmd.ZAdd k z.0 z.1 (how y.0) weight)
