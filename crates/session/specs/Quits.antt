-- Where a client quits: what stands behind a QUIT is not answered.
use Rattle.std.specs.Prelude.{◌≡◌, Bool, true, false, if◌then◌else◌, List, [], ◌∷◌, ◌++◌, All, Result, Ok}
use Rattle.std.specs.List.{list_any}
use Rattle.kv_base.specs.Map.{Bytes}
use Rattle.cmd_words.specs.Parsed.{parsed_as}
use Rattle.cmd_words.specs.declared.fault.CommandFault.{CommandFault}
use Rattle.cmd_words.specs.declared.parsed.Parsed.{Parsed}
use Rattle.cmd_words.specs.declared.parsed.Parsed.TheVariants as parsed

-- the same of what words were read into
abbrev pub is_quit_by : Result Parsed CommandFault → Bool
is_quit_by (Ok parsed.Quit) = true
is_quit_by _ = false

-- whether the words are a QUIT
abbrev pub is_quit : List Bytes → Bool
is_quit words = is_quit_by (parsed_as words)

-- none of the requests is a QUIT
abbrev pub NoneQuits : List (List Bytes) → Type 0
NoneQuits served = All (λ words. is_quit words ≡ false) served

-- the last of the requests is a QUIT, and none before it
pub record LastQuits (served : List (List Bytes)) : Type 0 where
  pub before : List (List Bytes)
  pub last : List Bytes
  pub are : served ≡ before ++ last ∷ []
  pub none : NoneQuits before
  pub quits : is_quit last ≡ true

-- ---- an input as a whole

-- whether one of the requests is a QUIT
abbrev pub has_quit : List (List Bytes) → Bool
has_quit requests = list_any is_quit requests

-- the requests up to the first QUIT, which is one of them
abbrev pub up_to_quit : List (List Bytes) → List (List Bytes)
up_to_quit [] = []
up_to_quit (words ∷ others) = if is_quit words then words ∷ [] else words ∷ up_to_quit others
