-- What a session answers to an input that is told, and how it ends there.
use Rattle.std.specs.Prelude.{◌≡◌, ◌≢◌, ◌^◌, ◌≤◌, ◌⊎◌, true, List, [], length}
use Rattle.kv_base.specs.Map.{Bytes}
use Rattle.resp_wire.specs.Grammar.{requests, Whole}
use Rattle.session.specs.declared.session.Outcome.{Outcome}
use Rattle.session.specs.declared.session.Outcome.TheVariants as outcome
use Rattle.session.specs.Quits.{NoneQuits, has_quit, up_to_quit}
use Rattle.session.specs.Session.{AreFirst, end_line}

-- All requests were answered, none of them is a QUIT, and this line tells how the input ends, which is not between requests.
pub record IsOff (input : Bytes) (served : List (List Bytes)) (line : Bytes) : Type 0 where
  pub all : served ≡ (requests input).0
  pub none : NoneQuits served
  pub broken : (requests input).1 ≢ Whole
  pub tells : line ≡ end_line (length input) (requests input).1

-- Of these requests the first were answered, and none of those is a QUIT.
abbrev pub ComesUnder : List (List Bytes) → List (List Bytes) → Type 0
ComesUnder served all = AreFirst served all × NoneQuits served

-- How a session ended over this input.
abbrev pub EndsInput : Outcome → Bytes → List (List Bytes) → Bytes → Type 0
EndsInput outcome.Closed input served line = (line ≡ []) × (served ≡ up_to_quit (requests input).0) × ((has_quit (requests input).0 ≡ true) ⊎ ((requests input).1 ≡ Whole))
EndsInput outcome.NoMem input served line = (line ≡ []) × ComesUnder served (requests input).0
EndsInput outcome.ReadFault input served line = (line ≡ []) × ComesUnder served (requests input).0
EndsInput outcome.WriteFault input served line = ((line ≡ []) × AreFirst served (up_to_quit (requests input).0)) ⊎ IsOff input served line
EndsInput outcome.Protocol input served line = IsOff input served line
EndsInput outcome.Spent input served line = (line ≡ []) × ComesUnder served (requests input).0 × (2 ^ 40 ≤ length input)
