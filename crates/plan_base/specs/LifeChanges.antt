-- Which rows of a batch differ from the rows that are there, and what a batch makes of the rows of a life.
use Rattle.std.proofs.Common.{ℕ, ◌≡◌}
use Rattle.std.specs.Prelude.{Bool, not, ◌&&◌, Option, is_some, IsTrue, IsSome, count_by}
use Rattle.kv_base.specs.Map.{Bytes, get, has, keep}
use Rattle.kv_base.specs.RawKeys.{is_key}
use Rattle.batch_codec.specs.Batches.{Batch, over}
use Rattle.lives_model.specs.Rows.{Rows, Elements, row_key}
use Rattle.lives_model.specs.Plans.{same_row}

-- what a batch is to do at a raw key changes the row there
abbrev pub row_differs : Rows → Bytes → Option Bytes → Bool
row_differs c raw row = not (same_row (get c raw) row)

-- the entries of a batch that change the row at their raw key
unfoldable pub differing : Rows → Batch → Batch
differing c wanted = keep (row_differs c) wanted

-- an entry that puts a row where there is none, and one that deletes a row that is there
abbrev pub adds_row : Rows → Bytes × Option Bytes → Bool
adds_row c e = is_some e.1 && not (has c e.0)

abbrev pub removes_row : Rows → Bytes × Option Bytes → Bool
removes_row c e = not (is_some e.1) && has c e.0

-- how many of them a batch has
unfoldable pub added_rows : Rows → Batch → ℕ
added_rows c wanted = count_by (adds_row c) wanted.entries

unfoldable pub removed_rows : Rows → Batch → ℕ
removed_rows c wanted = count_by (removes_row c) wanted.entries

-- a raw key of an element of this life
pub record IsElementRaw (k : Bytes) (version : ℕ) (raw : Bytes) : Type 0 where
  pub subkey : Bytes
  pub short : IsTrue (is_key subkey)
  pub is : raw ≡ row_key Elements k version subkey

-- A batch has rows among the elements of one life, and after it these stand there.
pub record WantsRows (c : Rows) (k : Bytes) (version : ℕ) (wanted : Batch) (rows : Bytes → Option Bytes) : Type 0 where
  pub only : (raw : Bytes) → IsSome (get wanted raw) → IsElementRaw k version raw
  pub after : (subkey : Bytes) → over (get wanted (row_key Elements k version subkey)) (get c (row_key Elements k version subkey)) ≡ rows subkey
