-- Two names of files are the same or not.
use Rattle.std.specs.Prelude.{Bool, true, false, ◌==◌, ◌&&◌}
use Rattle.kv_base.specs.declared.name.FileName.{FileName}
use Rattle.kv_base.specs.declared.name.FileName.TheVariants.{SlotA, SlotB, Segment, Table}

abbrev pub same_name : FileName → FileName → Bool
same_name SlotA SlotA = true
same_name SlotB SlotB = true
same_name (Segment m) (Segment n) = m == n
same_name (Table a) (Table b) = (a.run == b.run) && (a.part == b.part)
same_name _ _ = false
