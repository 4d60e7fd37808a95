use Rattle.turn_hall.specs.Places.{by_of}
use Rattle.std.proofs.Common.{◌+◌, ◌%◌, ◌^◌, ap, ◌∙◌}
use Rattle.std.proofs.Math.Nat.{mod-add-mod}
use Rattle.turn_hall.proofs.Calls.{appends_at}
use Rattle.turn_hall.proofs.steps.append.Goals as goal

pub compare_exchange_with-requires : goal.compare_exchange_with-requires
compare_exchange_with-requires c = (
  c.requires.table.0,
  c.requires.table.1,
  appends_at by_of _ _ c.args.word _ _ _ c.args.said.now c.requires.both c.requires.caught_up c.requires.caller c.requires.word (ap (λ n. (n + 1) % 2 ^ 64) c.requires.word ∙ mod-add-mod _ (2 ^ 64) 1),
)
