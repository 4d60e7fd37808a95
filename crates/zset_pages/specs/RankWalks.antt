-- Walks over the pages of a life's side of scores.
use Rattle.std.specs.Prelude.{◌≡◌, ℕ, ◌-◌, ◌&&◌, ◌==◌, nat_lt, nat_le, if◌then◌else◌, List, [], ◌∷◌, ◌++◌, map, take, drop, length, Option, is_some, IfSome, IsTrue}
use Rattle.kv_base.specs.Map.{Bytes}
use Rattle.redis_model.specs.SortedSets.{Scored}
use Rattle.lives_model.specs.declared.view.LiveRow.{LiveRow}
use Rattle.lives_model.specs.Rows.{Rows}
use Rattle.lives_model.specs.LiveRowLists.{pairs}
use Rattle.lives_model.specs.Passing.{passing, is_asked}
use Rattle.zset_pages.specs.declared.walk.RankWalk.{RankWalk}
use Rattle.zset_pages.specs.Ranks.{scored_of, rank_in, rows_ahead}

-- Nothing is found yet, and so many members are to be passed over and to be found. The first page begins at the edge, and
-- there is none where that is behind all.
pub record IsRankStart (from : Option Bytes) (over count : ℕ) (walk : RankWalk) : Type 0 where
  pub found : walk.found ≡ []
  pub skip : walk.skip ≡ over
  pub left : walk.left ≡ count
  pub more : walk.more ≡ is_some from
  pub next : IfSome from (λ edge. walk.next ≡ edge)

-- of rows the members that a walk is to find: some are passed over, and some are enough
abbrev pub found_of : Bytes → ℕ → ℕ → List (Bytes × Bytes) → List Scored
found_of k skip left rows = map (rank_in k) (take left (drop skip rows))

-- The members of a page's rows ahead of an edge are found. Where all of its rows are, where it is as long as the limit, and
-- where more members are to be found there may be more, from its last raw key and a byte on.
pub record TakesRanks (k : Bytes) (until : Option Bytes) (page : List LiveRow) (limit : ℕ) (old new : RankWalk) : Type 0 where
  pub found : map scored_of new.found ≡ map scored_of old.found ++ found_of k old.skip old.left (rows_ahead until (pairs page))
  pub skip : new.skip ≡ old.skip - length (rows_ahead until (pairs page))
  pub left : new.left ≡ old.left - (length (rows_ahead until (pairs page)) - old.skip)
  pub more : new.more ≡ (nat_lt 0 new.left && (nat_le limit (length page) && (length (rows_ahead until (pairs page)) == length page)))
  pub next : IsTrue new.more → (front : List LiveRow) (last : LiveRow) → page ≡ front ++ last ∷ [] → new.next ≡ last.raw ++ 0 ∷ []

-- the rows that are still to come
abbrev pub rows_to_come : Rows → Bytes → Option Bytes → RankWalk → List (Bytes × Bytes)
rows_to_come c prefix until walk = if walk.more then rows_ahead until (passing (is_asked walk.next prefix) c) else []

-- What is found and what is still to come is what was to be found of these rows, and as many are passed over in the end.
pub record IsRankWalk (c : Rows) (k prefix : Bytes) (until : Option Bytes) (over count : ℕ) (rows : List (Bytes × Bytes)) (walk : RankWalk) : Type 0 where
  pub found : map scored_of walk.found ++ found_of k walk.skip walk.left (rows_to_come c prefix until walk) ≡ found_of k over count rows
  pub skip : walk.skip - length (rows_to_come c prefix until walk) ≡ over - length rows
