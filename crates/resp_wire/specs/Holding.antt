-- The requests that were handed out of a text, and what is left of it.
use Rattle.std.specs.Prelude.{◌≡◌, ℕ, ◌+◌, ◌⊎◌, List, [], ◌++◌, length, Ok}
use Rattle.resp_wire.specs.declared.stop.ProtocolFault.{ProtocolFault}
use Rattle.resp_wire.specs.Grammar.{End, Whole, Fault, request, requests}
use Rattle.resp_wire.specs.Reading.{IsFaulty, IsUnfinished}

abbrev pub Words : Type 0
Words = List (List ℕ)

abbrev pub Requests : Type 0
Requests = List Words × End

-- However the input goes on, old holds these requests and then what new holds.
abbrev pub HoldsRequests : List ℕ → List Words → List ℕ → Type 0
HoldsRequests old served new = (more : List ℕ) → requests (old ++ more) ≡ (served ++ (requests (new ++ more)).0, (requests (new ++ more)).1)

-- ---- every text

-- a text as the requests that it holds and what is behind them: the beginning of a request, or a fault
pub record Split (bytes : List ℕ) : Type 0 where
  pub served : List Words
  pub rest : List ℕ
  pub holds : HoldsRequests bytes served rest
  pub stops : IsUnfinished rest ⊎ ((kind : ProtocolFault) × ((left : ℕ) × IsFaulty rest kind left))

-- However a text goes on, it keeps its requests.
abbrev pub RequestsGoOn : Type 0
RequestsGoOn = (bytes more : List ℕ) → (others : List Words) × ((requests (bytes ++ more)).0 ≡ (requests bytes).0 ++ others)

-- However a text goes on, it keeps its fault.
abbrev pub FaultsStay : Type 0
FaultsStay = (bytes more : List ℕ) (kind : ProtocolFault) (left : ℕ) → (requests bytes).1 ≡ Fault kind left → requests (bytes ++ more) ≡ ((requests bytes).0, Fault kind (left + length more))

-- Behind a text that ends with a request the next one begins.
abbrev pub WholesJoin : Type 0
WholesJoin = (bytes : List ℕ) → (requests bytes).1 ≡ Whole → HoldsRequests bytes (requests bytes).0 []

-- No request is a proper front of another.
abbrev pub NoneIsAFront : Type 0
NoneIsAFront = (bytes more : List ℕ) (first second : Words) → request bytes ≡ Ok (first, []) → request (bytes ++ more) ≡ Ok (second, []) → more ≡ []
