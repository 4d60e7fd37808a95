-- Which rows come and go with the items of a list, and how its ends move.
use Rattle.std.proofs.Common.{ℕ, zero, suc, ◌≡◌, ◌+◌, ◌-◌, List, [], ◌∷◌, ◌++◌}
use Rattle.std.specs.Prelude.{Bool, if◌then◌else◌, nat_le, nat_lt, ◌^◌, Option, Some, None}
use Rattle.kv_base.specs.Map.{Bytes, empty, insert}
use Rattle.kv_base.specs.Fields.{u64}
use Rattle.batch_codec.specs.Batches.{Batch}
use Rattle.redis_model.specs.declared.command.End.{End}
use Rattle.redis_model.specs.declared.command.End.TheVariants.{Left, Right}
use Rattle.lives_model.specs.Rows.{Rows}
use Rattle.lives_model.specs.Plans.{same_row}
use Rattle.plan_base.specs.LifeChanges.{differing, WantsRows}
use Rattle.life_plans.specs.WantedRows.{Wish}
use Rattle.list_plans.specs.declared.sight.ListSight.{ListSight}

-- ---- the ends

-- the tail after n items were added to an end, and after one was taken from it; `Moved.antt` has the same of the head
abbrev pub tail_pushed : End → ℕ → ℕ → ℕ
tail_pushed Left n tail = tail
tail_pushed Right n tail = tail + n

abbrev pub tail_popped : End → ℕ → ℕ
tail_popped Left tail = tail
tail_popped Right tail = tail - 1

-- the index of the item at an end
abbrev pub end_index : End → ListSight → ℕ
end_index Left list = list.head
end_index Right list = list.tail - 1

-- the indices of n more items at an end are numbers of 64 bits
abbrev pub end_has_room : End → ListSight → ℕ → Bool
end_has_room Left list n = nat_le n list.head
end_has_room Right list n = nat_lt (list.tail + n) (2 ^ 64)

-- ---- the rows

-- items that are put before a head, one after the other, and from a tail on
abbrev pub puts_before : ℕ → List Bytes → List Wish
puts_before head [] = []
puts_before head (v ∷ vs) = (u64 (head - 1), Some v) ∷ puts_before (head - 1) vs

abbrev pub puts_from : ℕ → List Bytes → List Wish
puts_from tail [] = []
puts_from tail (v ∷ vs) = (u64 tail, Some v) ∷ puts_from (tail + 1) vs

-- items that are pushed at an end
abbrev pub pushes : End → ListSight → List Bytes → List Wish
pushes Left list vs = puts_before list.head vs
pushes Right list vs = puts_from list.tail vs

-- n items that go from a head on, and n before a tail, the outermost first
abbrev pub cuts_from : ℕ → ℕ → List Wish
cuts_from head zero = []
cuts_from head (suc n) = (u64 head, None) ∷ cuts_from (head + 1) n

abbrev pub cuts_before : ℕ → ℕ → List Wish
cuts_before tail zero = []
cuts_before tail (suc n) = (u64 (tail - 1), None) ∷ cuts_before (tail - 1) n

-- what goes where the items from one place to another stay
abbrev pub trims : ListSight → ℕ → ℕ → List Wish
trims list from end = cuts_from list.head from ++ cuts_before list.tail ((list.tail - list.head) - end)

-- an item that is put in the place of this row, where it differs
abbrev pub set_row : Option Bytes → Bytes → Bytes → Batch
set_row row raw v = if same_row row (Some v) then empty else insert empty raw (Some v)

-- The batch has just the rows among the elements of a life that differ from those that are to stand there.
pub record ChangesRows (c : Rows) (k : Bytes) (version : ℕ) (b : Batch) (rows : Bytes → Option Bytes) : Type 0 where
  pub wanted : Batch
  pub wants : WantsRows c k version wanted rows
  pub differ : differing c wanted ≡ b
