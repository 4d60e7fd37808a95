-- Passes and halls, as contracts see them.
use Rattle.std.specs.Prelude.{ℕ, List}
use Rattle.atomic_table.specs.Seated.{TableId}

-- a pass: its number, up to which number it may hand out, and what it has seen
pub record PassOf (E : Type 0) : Type 0 where
  pub number : ℕ
  pub free : ℕ
  pub seen : List E

-- a hall that has no name yet: its table, and the state, whose history is empty
pub record OpenedOf (C : Type 0) : Type 0 where
  pub table : TableId
  pub state : C

-- what lies under the lock: the state, and the history for which it stands
pub record RecordedOf (C E : Type 0) : Type 0 where
  pub state : C
  pub history : List E
