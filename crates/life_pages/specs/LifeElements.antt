-- The elements of a life, as its rows tell them.
use Rattle.std.specs.Prelude.{ℕ, ◌+◌, length, drop, map, List, [], Option, Some, None}
use Rattle.kv_base.specs.Map.{Bytes}
use Rattle.kv_base.specs.RawKeys.{life_prefix, element_space}
use Rattle.lives_model.specs.Rows.{Rows}
use Rattle.lives_model.specs.Passing.{passing, is_asked}
use Rattle.lives_model.specs.LifeRows.{RowAt}
use Rattle.plan_base.specs.declared.life.LifeSight.{LifeSight}

-- what the raw keys of the elements of a life begin with
abbrev pub elements_prefix : Bytes → ℕ → Bytes
elements_prefix k version = life_prefix element_space k version

-- the rows that begin with it, in the order of their raw keys
abbrev pub life_rows : Rows → Bytes → ℕ → List (Bytes × Bytes)
life_rows c k version = passing (is_asked (elements_prefix k version) (elements_prefix k version)) c

-- what is behind the prefix of a life of this key, whose length depends on the key's alone
abbrev pub subkey_in : Bytes → Bytes → Bytes
subkey_in k raw = drop (14 + length k) raw

-- a row with its subkey in the place of its raw key
abbrev pub element_in : Bytes → Bytes × Bytes → RowAt
element_in k row = (subkey_in k row.0, row.1)

-- the elements of the life that is found at a key, none where there is no life
abbrev pub elements_in : Rows → Bytes → Option LifeSight → List RowAt
elements_in c k None = []
elements_in c k (Some life) = map (element_in k) (life_rows c k life.version)
