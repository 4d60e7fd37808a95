use Rattle.std.proofs.Common.{Some, ap, sym, ◌∙◌, refl}
use Rattle.kv_base.specs.Map.{get}
use Rattle.batch_codec.specs.Slots.{slot_value}
use Rattle.batch_codec.specs.BatchMapLaws.{there_too, between_too, get_there, get_between}
use Rattle.batch_codec.proofs.batch.Batch.find.Goals as goal

pub returns-in-Ok : goal.returns-in-Ok
returns-in-Ok c =
    let items = c.self.inside.entries.items in
    let there = there_too c.as_slice.result.now items c.args.raw.now c.args.raw.now c.in-Ok.at c.as_slice.ensures.value refl c.in-Ok.ensures.found in
    ap (λ e. Some (slot_value e.slot)) c.index.ensures ∙ sym (get_there items c.in-Ok.at c.args.raw.now c.index.result.now c.self.invariant there) ∙ ap (λ b. get b c.args.raw.now) c.self.view_is

pub returns-in-Err : goal.returns-in-Err
returns-in-Err c =
    let items = c.self.inside.entries.items in
    let between = between_too c.as_slice.result.now items c.args.raw.now c.args.raw.now c.in-Err.field-0 c.as_slice.ensures.value refl c.in-Err.ensures.absent in
    sym (get_between items c.in-Err.field-0 c.args.raw.now c.self.invariant between) ∙ ap (λ b. get b c.args.raw.now) c.self.view_is
