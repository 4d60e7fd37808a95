use Rattle.std.proofs.Common.{◌≡◌, drop}
use Rattle.row_model.specs.Replays.{do_rise, rise_above}
use Rattle.row_model.proofs.rise.sequences_rise.Given as goal

-- all rise if those that are left rise above the last one
abbrev pub invariant-loop-record : goal.invariant-loop-record
invariant-loop-record l = rise_above l.last (drop l.record-index l.rest) ≡ do_rise l.fn.records
