use Rattle.std.specs.Prelude.{◌&&◌}
use Rattle.std.proofs.Common.{List, sym, ◌∙◌, ap}
use Rattle.level_set.specs.declared.home.Home.{Home}
use Rattle.level_set.specs.Neighbours.{stands_next}
use Rattle.level_set.proofs.Neighbouring.{last_stands}
use Rattle.level_set.proofs.place.stands_next.Goals as goal

pub returns-then-is_table : goal.returns-then-is_table
returns-then-is_table c =
    let home = c.args.home.now in
    let last = last_stands c.in-Some.field-0-1.now c.in-Some.last.now home in
    c.stands_before.ensures
    ∙ sym (ap (λ (l : List Home). stands_next l home) c.in-Some.ensures.cases.0 ∙ last)
    ∙ ap (λ b. b && stands_next c.args.homes.now home) c.if-is_table.ensures
