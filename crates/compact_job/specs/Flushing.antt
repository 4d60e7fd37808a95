-- The table that a flush writes.
use Rattle.std.specs.Prelude.{◌≡◌, ℕ, List, IfSome}
use Rattle.kv_base.specs.declared.name.TableId.{TableId}
use Rattle.kv_base.specs.declared.row.Row.{Row}
use Rattle.sst_parts.specs.Tables.{AreTableRows}
use Rattle.sst_file.specs.States.{TableState}
use Rattle.sst_writer.specs.Written.{IsDescOfRows}

-- the only table of its run
abbrev pub flush_id : ℕ → TableId
flush_id run = record { run = run; part = 0 }

-- A table of all of these rows was written, and no others.
pub record IsFlushTable (run : ℕ) (rows : List Row) (table : TableState) : Type 0 where
  pub desc : IsDescOfRows table.desc (flush_id run) rows
  pub lawful : AreTableRows rows
  pub told : IfSome table.rows (λ own. own ≡ rows)
