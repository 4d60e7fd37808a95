-- A part of a page's rows.
use Rattle.std.proofs.Common.{◌≡◌, ℕ, ◌+◌, ◌-◌, ◌<◌, ◌≤◌, refl, sym, ap, ◌∙◌, inl, inr, List, length, take, drop, map, arith}
use Rattle.std.proofs.lemmas.Bool.{cases_order}
use Rattle.std.proofs.lemmas.List.{length-take, length-map, drop-take, take-take, take_all, drop_all, take-map, drop-map}
use Rattle.std.specs.Prelude.{min, true, Option, Some, None, IfSome, ◌⊎◌}
use Rattle.kv_base.specs.Map.{Bytes}
use Rattle.redis_model.specs.declared.command.Bound.TheVariants.{Least, Greatest}
use Rattle.redis_model.specs.SortedSets.{Scored}
use Rattle.lives_model.specs.declared.view.LiveRow.{LiveRow}
use Rattle.lives_model.specs.Rows.{Rows}
use Rattle.lives_model.specs.Passing.{passing, is_asked}
use Rattle.plan_base.specs.declared.life.LifeSight.{LifeSight}
use Rattle.lives_model.specs.LiveRowLists.{pair, pairs}
use Rattle.zset_pages.specs.FrontLaws.{none_kept, take_while-all}
use Rattle.zset_pages.specs.Ranks.{rank_in, ranks_prefix, ranks_in, ranks_between}
use Rattle.zset_pages.specs.RankWalks.{found_of}

-- some of some
taken_twice : {X : Type 0} (n m : ℕ) (xs : List X) → take n (take m xs) ≡ take (min n m) xs
taken_twice n m xs = by_order (cases_order n m)
  where
    by_order : (n ≡ m) ⊎ ((n < m) ⊎ (m < n)) → take n (take m xs) ≡ take (min n m) xs
    by_order (inl e) = let least : n ≡ min n m = omega (arith, e) in take-take n m xs (omega (arith, e)) ∙ ap (λ i. take i xs) least
    by_order (inr (inl l)) = let least : n ≡ min n m = omega (arith, l) in take-take n m xs (omega (arith, l)) ∙ ap (λ i. take i xs) least
    by_order (inr (inr g)) =
        let least : m ≡ min n m = omega (arith, g) in
        let size = length-take m xs in
        take_all n (take m xs) (omega (arith, g, size)) ∙ ap (λ i. take i xs) least

-- what is wanted of the first ones
part : {X : Type 0} (skip left ahead : ℕ) (xs : List X) → ahead ≤ length xs → take (min left (ahead - min skip ahead)) (drop (min skip ahead) xs) ≡ take left (drop skip (take ahead xs))
part {X} skip left ahead xs within = by_order (cases_order skip ahead)
  where
    inside : skip ≤ ahead → take (min left (ahead - min skip ahead)) (drop (min skip ahead) xs) ≡ take left (drop skip (take ahead xs))
    inside low =
        let from : min skip ahead ≡ skip = omega (arith, low) in
        let size : skip + (ahead - skip) ≡ ahead = omega (arith, low) in
        (λ i. take (min left (ahead - from i)) (drop (from i) xs))
        ∙ sym (taken_twice left (ahead - skip) (drop skip xs))
        ∙ ap (take left) (sym (drop-take skip (ahead - skip) xs) ∙ ap (λ n. drop skip (take n xs)) size)

    by_order : (skip ≡ ahead) ⊎ ((skip < ahead) ⊎ (ahead < skip)) → take (min left (ahead - min skip ahead)) (drop (min skip ahead) xs) ≡ take left (drop skip (take ahead xs))
    by_order (inl e) = inside (omega (arith, e))
    by_order (inr (inl l)) = inside (omega (arith, l))
    by_order (inr (inr g)) =
        let none : min left (ahead - min skip ahead) ≡ 0 = omega (arith, g) in
        let size = length-take ahead xs in
        ap (λ n. take n (drop (min skip ahead) xs)) none
        ∙ sym (none_kept left 0)
        ∙ ap (take left) (sym (drop_all skip (take ahead xs) (omega (arith, g, size))))

-- the members that such a part of a page tells
pub part_is : (k : Bytes) (skip left ahead : ℕ) (page : List LiveRow) → ahead ≤ length page
    → map (rank_in k) (pairs (take (min left (ahead - min skip ahead)) (drop (min skip ahead) page))) ≡ found_of k skip left (take ahead (pairs page))
part_is k skip left ahead page within =
    ap (map (rank_in k)) (ap pairs (part skip left ahead page within) ∙ sym (take-map pair left (drop skip (take ahead page)))
    ∙ ap (take left) (sym (drop-map pair skip (take ahead page)) ∙ ap (drop skip) (sym (take-map pair ahead page))))

-- members that are found are some of those that rows tell
pub found_is : (k : Bytes) (skip left : ℕ) (rows : List (Bytes × Bytes)) → found_of k skip left rows ≡ take left (drop skip (map (rank_in k) rows))
found_is k skip left rows = sym (take-map (rank_in k) left (drop skip rows)) ∙ ap (take left) (sym (drop-map (rank_in k) skip rows))

-- as many as are passed over, where there are enough
pub passed_over : {X : Type 0} (most : ℕ) (rows : List X) → most - (most - length rows) ≡ length (take most rows)
passed_over most rows = let size = length-take most rows in omega (arith, size)

-- members that rows tell are as many
pub as_many : {X Y : Type 0} (f : X → Y) (most : ℕ) (rows : List X) → length (take most (map f rows)) ≡ length (take most rows)
as_many f most rows = ap length (take-map f most rows) ∙ length-map (take most rows) f

-- between the least bound and the greatest are all
all_between : (c : Rows) (k : Bytes) (life : LifeSight) → ranks_between c k life Least Greatest ≡ ranks_in c k (Some life)
all_between c k life = ap (map (rank_in k)) (take_while-all (λ row. true) (passing (is_asked (ranks_prefix k life.version) (ranks_prefix k life.version)) c) (λ row. refl))

-- also where the rows may be told
pub all_at : (rows : Option Rows) (k : Bytes) (life : LifeSight) (start count : ℕ) (es : List Scored) → IfSome rows (λ c. es ≡ take count (drop start (ranks_between c k life Least Greatest)))
    → IfSome rows (λ c. es ≡ take count (drop start (ranks_in c k (Some life))))
all_at None k life start count es is = tt
all_at (Some c) k life start count es is = is ∙ ap (λ ms. take count (drop start ms)) (all_between c k life)
