use Rattle.std.proofs.Common.{◌≡◌, take, map}
use Rattle.snap_pins.specs.Pinned.{pin_watcher}
use Rattle.snap_pins.proofs.pins.watchers.Given as goal

-- what the pins so far see
abbrev pub invariant-loop-pin : goal.invariant-loop-pin
invariant-loop-pin l = l.watch.items ≡ map pin_watcher (take l.pin-index l.pins)
