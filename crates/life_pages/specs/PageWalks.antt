-- Walks over the pages of what stands under a prefix.
use Rattle.std.specs.Prelude.{◌≡◌, ℕ, ◌<◌, ◌^◌, nat_le, true, if◌then◌else◌, List, [], ◌∷◌, ◌++◌, length, IsTrue}
use Rattle.kv_base.specs.Map.{Bytes}
use Rattle.lives_model.specs.declared.view.LiveRow.{LiveRow}
use Rattle.lives_model.specs.Rows.{Rows}
use Rattle.lives_model.specs.LiveRowLists.{pairs}
use Rattle.lives_model.specs.Passing.{passing, is_asked}
use Rattle.life_pages.specs.declared.pages.Walk.{Walk}

-- nothing is found yet, and the first page begins at the prefix
pub record IsWalkStart (prefix : Bytes) (walk : Walk) : Type 0 where
  pub found : walk.found ≡ []
  pub next : walk.next ≡ prefix
  pub more : walk.more ≡ true

-- The rows of a page are found. Where it is as long as the limit there may be more, from its last raw key and a byte on.
pub record TakesPage (page : List LiveRow) (limit : ℕ) (old new : Walk) : Type 0 where
  pub found : new.found ≡ old.found ++ page
  pub more : new.more ≡ nat_le limit (length page)
  pub next : IsTrue new.more → (front : List LiveRow) (last : LiveRow) → new.found ≡ front ++ last ∷ [] → new.next ≡ last.raw ++ 0 ∷ []
  pub few : IsTrue new.more → length new.found < 2 ^ 64

-- what is found and what is still to come are the rows under the prefix
abbrev pub IsWalk : Rows → Bytes → Walk → Type 0
IsWalk c prefix walk = pairs walk.found ++ (if walk.more then passing (is_asked walk.next prefix) c else []) ≡ passing (is_asked prefix prefix) c
