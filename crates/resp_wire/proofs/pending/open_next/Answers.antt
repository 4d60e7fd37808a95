use Rattle.std.proofs.Common.{refl}
use Rattle.resp_wire.specs.RequestLaws.{is_unfinished}
use Rattle.resp_wire.proofs.WordsRead.{nothing_there}
use Rattle.resp_wire.proofs.pending.open_next.Goals as goal

pub returns-in_default-clause-ok : goal.returns-in_default-clause-ok
returns-in_default-clause-ok c =
    let none = rw c.split_at.ensures.back at c.in_default.len_below in
    (c.requires, refl, is_unfinished _ (nothing_there _ none))
