-- What an acceptor gives, where it tells the links to come.
use Rattle.std.specs.Prelude.{◌≡◌, List, [], ◌∷◌, Option, Some, None, Result, Ok, Err}
use Rattle.kv_base.specs.Map.{Bytes}

-- accepting has ended: there is no link to come
abbrev pub NoneCame : Option (List Bytes) → Option (List Bytes) → Type 0
NoneCame None new = Unit {0}
NoneCame (Some to_come) new = (to_come ≡ []) × (new ≡ Some [])

-- the first of the links to come was accepted, whose client sends these bytes
abbrev pub OneCame : Option (List Bytes) → Option (List Bytes) → Option Bytes → Type 0
OneCame None new sends = Unit {0}
OneCame (Some []) new sends = ⊥
OneCame (Some (bytes ∷ later)) new sends = (sends ≡ Some bytes) × (new ≡ Some later)

-- A link was accepted, or accepting has ended; or it failed, and the same links are to come.
abbrev pub Accepts : {I O E : Type 0} → (I → Option Bytes) → Option (List Bytes) → Option (List Bytes) → Result (Option (I × O)) E → Type 0
Accepts left old new (Ok None) = NoneCame old new
Accepts left old new (Ok (Some link)) = OneCame old new (left link.0)
Accepts left old new (Err e) = new ≡ old
