use Rattle.std.proofs.Common.{List, ap, sym, subst, ◌∙◌}
use Rattle.batch_codec.specs.declared.slot.Entry.{Entry}
use Rattle.batch_codec.specs.BatchMaps.{AreSortedEntries}
use Rattle.batch_codec.specs.Slots.{batch_of}
use Rattle.batch_codec.proofs.Building.{same_batch, stands_in_order}
use Rattle.batch_codec.proofs.builder.BatchBuilder.build.Goals as goal

pub from_entries-requires : goal.from_entries-requires
from_entries-requires c =
    let sorted = c.in_ok-sort.ensures in
    let kept = subst AreSortedEntries (sym c.keep_last.ensures) (stands_in_order c.self.inside.entries.items c.sort.new.entries.items c.self.invariant sorted.stable sorted.ascending) in
    record { ascending = kept.0; grammar = kept.1 }

pub returns : goal.returns
returns c =
    c.from_entries.ensures ∙ ap (λ (es : List Entry). batch_of es) c.keep_last.ensures
    ∙ same_batch c.self.inside.entries.items c.sort.new.entries.items c.in_ok-sort.ensures.stable ∙ c.self.view_is
