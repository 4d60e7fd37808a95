use Rattle.std.proofs.Common.{rules, sym, subst}
use Rattle.std.proofs.lemmas.Fn.{filter_same}
use Rattle.snap_pins.specs.Pinned.{HaveOwnCallers}
use Rattle.snap_pins.specs.PinnedLaws.{own_without}
use Rattle.snap_pins.proofs.pins.remove_pin.Goals as goal

pub returns-clause-rest : goal.returns-clause-rest
returns-clause-rest c = filter_same _ _ _ (λ x b f' k. search rules) _ _ c.retain.ensures.filtered

pub returns-clause-own : goal.returns-clause-own
returns-clause-own c = subst HaveOwnCallers (sym (returns-clause-rest c)) (own_without c.args.caller c.args.pins.now.items c.requires.own)
