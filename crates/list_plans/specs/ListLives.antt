-- How a list stands in the rows of a store: its metadata tells its version and its ends, and each item stands under its
-- index.
use Rattle.std.proofs.Common.{ℕ, ◌≡◌, ◌+◌, ◌-◌, ◌<◌, ◌^◌, List, [], length}
use Rattle.std.specs.Prelude.{Option, Some, None, Ok, Err, IfSome, IsTrue}
use Rattle.kv_base.specs.Map.{Bytes, get}
use Rattle.kv_base.specs.Fields.{read_u64}
use Rattle.kv_base.specs.RawKeys.{is_version}
use Rattle.kv_base.specs.MetaValues.{MetaValue, StringValue, LifeValue, ListValue}
use Rattle.redis_model.specs.declared.reply.ReplyError.TheVariants.{WrongType}
use Rattle.redis_model.specs.Value.{ListOf}
use Rattle.redis_model.specs.Outcome.{Outcome}
use Rattle.lives_model.specs.Rows.{Rows, Side, row_key}
use Rattle.lives_model.specs.Means.{item_row, row_of}
use Rattle.list_plans.specs.declared.sight.ListSight.{ListSight}

-- ---- what metadata tells

-- the list, nothing where there is no key; a key of another type is an error
abbrev pub list_found : Option MetaValue → Outcome (Option ListSight)
list_found None = Ok None
list_found (Some (StringValue expire payload)) = Err WrongType
list_found (Some (LifeValue kind expire version size)) = Err WrongType
list_found (Some (ListValue expire version head tail)) = Ok (Some (record { version = version; head = head; tail = tail }))

-- the number of its items, 0 where there is no list
abbrev pub items_found : Option ListSight → ℕ
items_found None = 0
items_found (Some list) = list.tail - list.head

-- a list within its limits: it has an item, and fewer than 2^32, and its indices have 64 bits
pub record IsSightWithin (list : ListSight) : Type 0 where
  pub version : IsTrue (is_version list.version)
  pub some : list.head < list.tail
  pub few : list.tail - list.head < 2 ^ 32
  pub low : list.tail < 2 ^ 64

-- what is found is within its limits
abbrev pub IsFoundWithin : Option ListSight → Type 0
IsFoundWithin found = IfSome found IsSightWithin

-- the list that was found, or a new one with this version, whose first item is to have the index 2^63
abbrev pub list_on : ℕ → Option ListSight → ListSight
list_on fresh None = record { version = fresh; head = 2 ^ 63; tail = 2 ^ 63 }
list_on fresh (Some list) = list

-- ---- its items

-- the rows of items of which the first has the index `head`, by subkey
abbrev pub item_rows : List Bytes → ℕ → Bytes → Option Bytes
item_rows items head subkey = item_row items head (read_u64 subkey)

-- these items stand there
pub record IsListAt (c : Rows) (k : Bytes) (list : ListSight) (items : List Bytes) : Type 0 where
  pub ends : list.tail ≡ list.head + length items
  pub low : list.tail < 2 ^ 64
  pub rows : (side : Side) (subkey : Bytes) → get c (row_key side k list.version subkey) ≡ row_of (ListOf items) list.head side subkey

-- What is found at a key are these items: none where there is no key.
abbrev pub IsListOf : Rows → Bytes → Option ListSight → List Bytes → Type 0
IsListOf c k None items = items ≡ []
IsListOf c k (Some list) items = IsListAt c k list items

-- or both are the same error
abbrev pub SeesList : Rows → Bytes → Outcome (Option ListSight) → Outcome (List Bytes) → Type 0
SeesList c k (Ok found) (Ok items) = IsListOf c k found items
SeesList c k (Err e) (Err f) = e ≡ f
SeesList c k (Ok found) (Err f) = ⊥
SeesList c k (Err e) (Ok items) = ⊥
