use Rattle.std.proofs.Common.{sym, subst}
use Rattle.snap_pins.specs.Pinned.{HaveOwnCallers}
use Rattle.snap_pins.specs.PinnedLaws.{no_pin_is, own_with_more}
use Rattle.snap_pins.proofs.pins.add_pin.Goals as goal

pub returns-clause-own : goal.returns-clause-own
returns-clause-own c = subst HaveOwnCallers (sym c.in_ok-push.ensures.items) (own_with_more c.args.pins.now.items c.args.pin c.requires.own (no_pin_is _ c.requires.free))
