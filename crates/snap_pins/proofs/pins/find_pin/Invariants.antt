use Rattle.std.proofs.Common.{◌≡◌, drop}
use Rattle.snap_pins.specs.Pinned.{pin_among}
use Rattle.snap_pins.proofs.pins.find_pin.Given as goal

-- the pin is found among those that are left
abbrev pub invariant-loop-pin : goal.invariant-loop-pin
invariant-loop-pin l = pin_among l.caller l.pins ≡ pin_among l.caller (drop l.pin-index l.pins)
