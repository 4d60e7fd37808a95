-- What a reader of requests says of the bytes that it was fed.
use Rattle.std.specs.Prelude.{◌≡◌, ℕ, ◌+◌, ◌-◌, ◌<◌, ◌≤◌, List, [], ◌++◌, drop, length, IsOkAnd}
use Rattle.resp_wire.specs.declared.stop.ProtocolFault.{ProtocolFault}
use Rattle.resp_wire.specs.declared.stop.NextFault.{NextFault}
use Rattle.resp_wire.specs.declared.stop.NextFault.TheVariants.{NoMem, Wire}
use Rattle.resp_wire.specs.Grammar.{Fault, header, open_end, requests, with_request}

-- However the input goes on, old holds these words as its first request and then what new holds.
abbrev pub ReadsRequest : List ℕ → List (List ℕ) → List ℕ → Type 0
ReadsRequest old words new = (more : List ℕ) → requests (old ++ more) ≡ with_request words (requests (new ++ more))

-- However the input goes on, it holds no request and ends in this fault.
abbrev pub IsFaulty : List ℕ → ProtocolFault → ℕ → Type 0
IsFaulty bytes kind left = (more : List ℕ) → requests (bytes ++ more) ≡ ([], Fault kind (left + length more))

-- The bytes are the beginning of a request, or none.
abbrev pub IsUnfinished : List ℕ → Type 0
IsUnfinished bytes = requests bytes ≡ ([], open_end bytes)

-- Rest is the end of bytes.
pub record IsEnd (bytes rest : List ℕ) : Type 0 where
  pub fits : length rest ≤ length bytes
  pub end : drop (length bytes - length rest) bytes ≡ rest

-- no request could be read
abbrev pub Refused : List ℕ → NextFault → Type 0
Refused bytes NoMem = Unit {0}
Refused bytes (Wire kind left) = IsFaulty bytes kind left

-- The bytes begin with the header of a request that has words.
abbrev pub IsHeaded : List ℕ → Type 0
IsHeaded bytes = IsOkAnd (header bytes) (λ n. 0 < n.0)

-- memory is asked for inside a request alone
abbrev pub AsksInside : List ℕ → NextFault → Type 0
AsksInside bytes NoMem = IsHeaded bytes
AsksInside bytes (Wire kind left) = Unit {0}
