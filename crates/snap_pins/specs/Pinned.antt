-- The pins of a store as a list.
use Rattle.std.specs.Prelude.{◌≡◌, ℕ, ◌==◌, Bool, not, List, [], ◌∷◌, find, filter, Option, None}
use Rattle.filter_laws.specs.declared.watcher.Watcher.{Watcher}
use Rattle.snap_pins.specs.declared.pins.PinAt.{PinAt}

-- is it the pin of this caller?
abbrev pub is_pin_of : ℕ → PinAt → Bool
is_pin_of caller pin = pin.caller == caller

-- the pin of a caller
abbrev pub pin_among : ℕ → List PinAt → Option PinAt
pin_among caller pins = find (is_pin_of caller) pins

-- no two are of one caller
abbrev pub HaveOwnCallers : List PinAt → Type 0
HaveOwnCallers [] = Unit {0}
HaveOwnCallers (pin ∷ pins) = (pin_among pin.caller pins ≡ None) × HaveOwnCallers pins

-- all but that of a caller
abbrev pub pins_without : ℕ → List PinAt → List PinAt
pins_without caller pins = filter (λ pin. not (is_pin_of caller pin)) pins

-- what a compaction has to leave it
abbrev pub pin_watcher : PinAt → Watcher
pin_watcher pin = record { seq = pin.seq; moment = pin.moment }
