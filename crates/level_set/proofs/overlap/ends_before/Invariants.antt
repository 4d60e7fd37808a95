use Rattle.std.proofs.Common.{◌≡◌, false, take}
use Rattle.std.specs.List.{list_any}
use Rattle.std.specs.Ordering.{is_le}
use Rattle.kv_base.specs.Map.{byte_cmp}
use Rattle.level_set.proofs.overlap.ends_before.Given as goal

abbrev pub invariant-loop-other : goal.invariant-loop-other
invariant-loop-other l = list_any (λ c. is_le (byte_cmp c.desc.least l.home.desc.greatest)) (take l.other-index l.chosen) ≡ false
