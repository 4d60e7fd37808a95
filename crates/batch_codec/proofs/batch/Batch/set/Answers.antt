use Rattle.std.proofs.Common.{List, ap, sym, ◌∙◌, subst}
use Rattle.kv_base.specs.Map.{insert}
use Rattle.batch_codec.specs.declared.slot.Entry.{Entry}
use Rattle.batch_codec.specs.Slots.{slot_value, batch_of}
use Rattle.batch_codec.specs.BatchMaps.{AreSortedEntries}
use Rattle.batch_codec.specs.BatchMapLaws.{there_too, between_too, set_there, set_between}
use Rattle.batch_codec.proofs.batch.Batch.set.Goals as goal
use Rattle.batch_codec.proofs.batch.Batch.set.Goals.{in-Put-1, in-Del-1}

pub invariant_of-self : goal.invariant_of-self
invariant_of-self c =
    let items = c.self.inside.entries.items in
    let there = there_too c.as_slice.result.now items c.bytes.result.now c.args.raw c.in-Ok.at c.as_slice.ensures.value c.bytes.ensures c.in-Ok.ensures.found in
    (set_there items c.in-Ok.at (record { raw = c.args.raw; slot = c.args.slot }) c.self.invariant c.requires there).kept

pub invariant_of-self-in-Ok-2 : goal.invariant_of-self-in-Ok-2
invariant_of-self-in-Ok-2 c =
    let items = c.self.inside.entries.items in
    let there = there_too c.as_slice.result.now items c.bytes.result.now c.args.raw c.in-Ok.at c.as_slice.ensures.value c.bytes.ensures c.in-Ok.ensures.found in
    (set_there items c.in-Ok.at (record { raw = c.args.raw; slot = c.args.slot }) c.self.invariant c.requires there).kept

pub invariant_of-self-in-Continue-1 : goal.invariant_of-self-in-Continue-1
invariant_of-self-in-Continue-1 c =
    let items = c.self.inside.entries.items in
    let between = between_too c.as_slice.result.now items c.bytes.result.now c.args.raw c.in-Err.at c.as_slice.ensures.value c.bytes.ensures c.in-Err.ensures.absent in
    subst AreSortedEntries (sym c.in_ok-insert-in-Err.ensures.items) (set_between items c.in-Err.at (record { raw = c.args.raw; slot = c.args.slot }) c.self.invariant c.requires between).kept

pub returns-in-Ok-clause-ok : goal.returns-in-Ok-clause-ok
returns-in-Ok-clause-ok c =
    let items = c.self.inside.entries.items in
    let there = there_too c.as_slice.result.now items c.bytes.result.now c.args.raw c.in-Ok.at c.as_slice.ensures.value c.bytes.ensures c.in-Ok.ensures.found in
    let is = (set_there items c.in-Ok.at (record { raw = c.args.raw; slot = c.args.slot }) c.self.invariant c.requires there).is ∙ ap (λ b. insert b c.args.raw (slot_value c.args.slot)) c.self.view_is in
    elim c.match-index_mut.branch [ in-Put-1 w ↦ w.self-is ∙ is | in-Del-1 w ↦ w.self-is ∙ is ]

pub returns-in_ok-insert-in-Err-clause-ok : goal.returns-in_ok-insert-in-Err-clause-ok
returns-in_ok-insert-in-Err-clause-ok c =
    let items = c.self.inside.entries.items in
    let between = between_too c.as_slice.result.now items c.bytes.result.now c.args.raw c.in-Err.at c.as_slice.ensures.value c.bytes.ensures c.in-Err.ensures.absent in
    ap (λ (xs : List Entry). batch_of xs) c.in_ok-insert-in-Err.ensures.items
    ∙ (set_between items c.in-Err.at (record { raw = c.args.raw; slot = c.args.slot }) c.self.invariant c.requires between).is
    ∙ ap (λ b. insert b c.args.raw (slot_value c.args.slot)) c.self.view_is
