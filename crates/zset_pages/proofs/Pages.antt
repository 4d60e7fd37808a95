-- Rows of a page, as loops meet them.
use Rattle.std.proofs.Common.{ℕ, List, length, drop}
use Rattle.std.specs.Prelude.{Option}
use Rattle.kv_base.specs.Map.{Bytes}
use Rattle.lives_model.specs.declared.view.LiveRow.{LiveRow}
use Rattle.lives_model.specs.LiveRowLists.{pairs}
use Rattle.zset_pages.specs.Ranks.{rows_ahead}

-- how many of the rows from a place on stand ahead of an edge
abbrev pub ahead_from : Option Bytes → List LiveRow → ℕ → ℕ
ahead_from until rows i = length (rows_ahead until (pairs (drop i rows)))
