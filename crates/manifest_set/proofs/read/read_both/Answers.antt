use Rattle.std.proofs.Common.{◌∙◌, ap}
use Rattle.std.proofs.lemmas.Result.{err_from_is_err_and}
use Rattle.manifest_set.specs.Slots.{epoch_of}
use Rattle.manifest_set.specs.ReadingLaws.{first_fault, second_fault, both_read}
use Rattle.manifest_set.proofs.read.read_both.Goals as goal

pub returns-in_err-one : goal.returns-in_err-one
returns-in_err-one c =
    let p = err_from_is_err_and c.from_residual.result c.from_residual.ensures.1 in
    rw (p.1, p.2) (first_fault c.in_err-one.field-0.0 c.args.first.now c.args.second.now c.in_err-one.ensures)

pub returns-in_err-other : goal.returns-in_err-other
returns-in_err-other c =
    let p = err_from_is_err_and c.from_residual-in_err-other.result c.from_residual-in_err-other.ensures.1 in
    rw (p.1, p.2) (second_fault c.in_err-other.field-0.0 c.in_ok-one.one.says c.epoch_of-epoch.result c.args.first.now c.args.second.now c.in_ok-one.ensures.says (c.epoch_of-epoch.ensures ∙ ap epoch_of c.as_ref.ensures.value) c.in_err-other.ensures)

pub returns : goal.returns
returns c =
    both_read c.in_ok-one.one c.in_ok-other.other c.epoch_of-epoch.result c.newer_slot.result c.args.first.now c.args.second.now c.in_ok-one.ensures (c.epoch_of-epoch.ensures ∙ ap epoch_of c.as_ref.ensures.value) c.in_ok-other.ensures c.newer_slot.ensures
