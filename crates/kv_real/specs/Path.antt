-- What the files of a store are called in its folder.
use Rattle.std.specs.Prelude.{ℕ, List, ◌++◌, codes}
use Rattle.std.specs.Fmt.{decimal}
use Rattle.kv_base.specs.declared.name.FileName.{FileName}
use Rattle.kv_base.specs.declared.name.FileName.TheVariants.{SlotA, SlotB, Segment, Table}

-- the two slots, the segments by their number, the tables by their run and part, in decimal
abbrev pub name_bytes : FileName → List ℕ
name_bytes SlotA = codes "slot-a"
name_bytes SlotB = codes "slot-b"
name_bytes (Segment number) = codes "wal-" ++ decimal number
name_bytes (Table table) = codes "t-" ++ decimal table.run ++ codes "-" ++ decimal table.part

abbrev pub path_bytes : List ℕ → FileName → List ℕ
path_bytes folder name = folder ++ codes "/" ++ name_bytes name
