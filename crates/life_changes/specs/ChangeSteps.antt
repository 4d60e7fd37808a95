-- How the rows that are wanted are gone through, one after another.
use Rattle.std.proofs.Common.{◌+◌, ◌≡◌, List}
use Rattle.std.specs.Prelude.{Option, is_some, not, ◌&&◌, if◌then◌else◌, fold, count_by}
use Rattle.kv_base.specs.Map.{Bytes, empty, get, insert}
use Rattle.batch_codec.specs.Batches.{Batch, BatchEntry}
use Rattle.lives_model.specs.Rows.{Rows}
use Rattle.lives_model.specs.Plans.{same_row}
use Rattle.plan_base.specs.LifeChanges.{adds_row, removes_row}
use Rattle.life_changes.specs.declared.change.Changing.{Changing}

-- a batch with a row that is wanted, where it differs from the row that is there
abbrev pub with_differing : Option Bytes → Batch → BatchEntry → Batch
with_differing old b e = if same_row old e.1 then b else insert b e.0 e.1

-- A row that is wanted is taken in, where this one is there: it is counted, and kept where it differs.
pub record TakesWish (old : Option Bytes) (e : BatchEntry) (before after : Changing) : Type 0 where
  pub rows : after.rows ≡ with_differing old before.rows e
  pub added : after.added ≡ before.added + (if is_some e.1 && not (is_some old) then 1 else 0)
  pub removed : after.removed ≡ before.removed + (if not (is_some e.1) && is_some old then 1 else 0)

-- These rows are taken in.
pub record AreTaken (c : Rows) (es : List BatchEntry) (now : Changing) : Type 0 where
  pub rows : now.rows ≡ fold (λ b e. with_differing (get c e.0) b e) empty es
  pub added : now.added ≡ count_by (adds_row c) es
  pub removed : now.removed ≡ count_by (removes_row c) es
