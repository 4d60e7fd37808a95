-- What a part leaves stands at the end of the text that it was read from.
use Rattle.std.specs.Prelude.{ℕ, ◌-◌, ◌<◌, List, length, Result, Ok, Err}
use Rattle.resp_wire.specs.declared.stop.Stop.{Stop}
use Rattle.resp_wire.specs.Grammar.{Part, request}
use Rattle.resp_wire.specs.Reading.{IsEnd}

-- what was read of the bytes leaves their end, where `rest` is what it leaves
abbrev pub LeavesRest : {X : Type 0} → (X → List ℕ) → List ℕ → Result X Stop → Type 0
LeavesRest rest bytes (Ok x) = IsEnd bytes (rest x)
LeavesRest rest bytes (Err e) = Unit {0}

abbrev pub all_of : List ℕ → List ℕ
all_of rest = rest

abbrev pub behind_of : {A : Type 0} → A × List ℕ → List ℕ
behind_of x = x.1

-- ---- a request takes at least a byte

abbrev pub Shortens : {A : Type 0} → List ℕ → Part A → Type 0
Shortens bytes (Ok x) = IsEnd bytes x.1 × (length x.1 < length bytes)
Shortens bytes (Err e) = Unit {0}
