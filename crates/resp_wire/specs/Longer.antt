-- What a part gives stays in each longer text.
use Rattle.std.specs.Prelude.{◌≡◌, ℕ, ◌+◌, ◌-◌, List, ◌++◌, length, Result, Ok, Err}
use Rattle.resp_wire.specs.declared.stop.Stop.{Stop}
use Rattle.resp_wire.specs.declared.stop.Stop.TheVariants.{More, Bad}

-- r is read in a text and s in the text with `more` behind it, where `on` puts `more` behind what is left
abbrev pub Stays : {X : Type 0} → (X → List ℕ → X) → Result X Stop → Result X Stop → List ℕ → Type 0
Stays on (Ok x) s more = s ≡ Ok (on x more)
Stays on (Err More) s more = Unit {0}
Stays on (Err (Bad kind left)) s more = s ≡ Err (Bad kind (left + length more))

abbrev pub part_on : {A : Type 0} → A × List ℕ → List ℕ → A × List ℕ
part_on x more = (x.0, x.1 ++ more)
