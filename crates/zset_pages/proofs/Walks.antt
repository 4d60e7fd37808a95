-- A walk over pages of ranks, as its loop meets it.
use Rattle.std.proofs.Common.{◌≡◌, ℕ, ◌+◌, ◌-◌, ◌<◌, ◌≤◌, refl, sym, ap, subst, ◌∙◌, Bool, true, false, cond, List, [], ◌∷◌, ◌++◌, length, take, drop, map, get_or, append_assoc, append-nil, length-append, arith}
use Rattle.std.proofs.Math.Seq.{take-length}
use Rattle.std.proofs.lemmas.Bool.{leb-true, leb-false}
use Rattle.std.proofs.lemmas.Bool.Decides.{nat_tests}
use Rattle.std.proofs.lemmas.List.{length-map, length-take, map-append, take_more, take-append-drop, drop_all, append_cancel_left}
use Rattle.std.specs.Prelude.{Option, Some, None, IfSome, IsTrue, ◌&&◌, ◌==◌, nat_le, nat_lt}
use Rattle.kv_base.specs.Map.{Bytes}
use Rattle.lives_model.specs.declared.view.LiveRow.{LiveRow}
use Rattle.lives_model.specs.Rows.{Rows}
use Rattle.lives_model.specs.LiveRowLists.{pair, pairs}
use Rattle.lives_model.specs.Page.{page}
use Rattle.lives_model.specs.Passing.{passing, is_asked}
use Rattle.lives_model.specs.PageLaws.{page_is, page_then}
use Rattle.zset_pages.specs.declared.walk.RankWalk.{RankWalk}
use Rattle.zset_pages.specs.FrontLaws.{take_while-append, none_kept, kept-append}
use Rattle.zset_pages.specs.Ranks.{scored_of, is_ahead_of, rank_in, rows_ahead, rows_between}
use Rattle.zset_pages.specs.RankWalks.{IsRankStart, TakesRanks, IsRankWalk, found_of, rows_to_come}

-- ---- at the start

left_at_start : (c : Rows) (prefix : Bytes) (from until : Option Bytes) (over count : ℕ) (walk : RankWalk) → IsRankStart from over count walk → rows_to_come c prefix until walk ≡ rows_between c prefix from until
left_at_start c prefix None until over count walk start = ap (λ b. cond b (rows_ahead until (passing (is_asked walk.next prefix) c)) []) start.more
left_at_start c prefix (Some edge) until over count walk start =
    (λ i. cond (start.more i) (rows_ahead until (passing (is_asked (start.next i) prefix) c)) [])

-- all is still to come
pub walk_started : (rows : Option Rows) (k prefix : Bytes) (from until : Option Bytes) (over count : ℕ) (walk : RankWalk) → IsRankStart from over count walk
    → IfSome rows (λ c. IsRankWalk c k prefix until over count (rows_between c prefix from until) walk)
walk_started None k prefix from until over count walk start = tt
walk_started (Some c) k prefix from until over count walk start =
    let all = left_at_start c prefix from until over count walk start in
    record {
      found = λ i. map scored_of (start.found i) ++ found_of k (start.skip i) (start.left i) (all i);
      skip = λ i. start.skip i - length (all i);
    }

-- ---- one page more

-- a row for a place where there is none
no_row : LiveRow
no_row = record { raw = []; value = [] }

-- a list that is not empty ends in its last row
ends : (rows : List LiveRow) → 0 < length rows → rows ≡ take (length rows - 1) rows ++ get_or rows (length rows - 1) no_row ∷ []
ends rows some =
    let count : length rows ≡ (length rows - 1) + 1 = omega (arith, some) in
    sym (take-length rows) ∙ ap (λ n. take n rows) count ∙ take_more rows (length rows - 1) no_row (omega (arith, some))

module _ (c : Rows) (k prefix : Bytes) (until : Option Bytes) (limit : ℕ) (taken : List LiveRow) (old new : RankWalk) (some : 0 < limit) (wants : 0 < old.left)
    (is : pairs taken ≡ page c old.next prefix limit) (takes : TakesRanks k until taken limit old new) where
  -- the rows of the page that stand ahead of the edge
  abbrev here : List (Bytes × Bytes)
  here = rows_ahead until (pairs taken)

  -- what is behind the page
  abbrev behind : List (Bytes × Bytes)
  behind = drop limit (passing (is_asked old.next prefix) c)

  -- and of it what stands ahead of the edge
  abbrev beyond : List (Bytes × Bytes)
  beyond = cond (length here == length (pairs taken)) (rows_ahead until behind) []

  split : passing (is_asked old.next prefix) c ≡ pairs taken ++ behind
  split = sym (take-append-drop limit (passing (is_asked old.next prefix) c)) ∙ ap (λ es. es ++ behind) (sym (is ∙ page_is c old.next prefix limit))

  parted : rows_ahead until (passing (is_asked old.next prefix) c) ≡ here ++ beyond
  parted = ap (rows_ahead until) split ∙ take_while-append (λ row. is_ahead_of until row.0) (pairs taken) behind

  many : length (pairs taken) ≡ length taken
  many = length-map taken pair

  -- behind a full page the rows from its last raw key and a byte on
  next_is : IsTrue new.more → limit ≤ length taken → behind ≡ passing (is_asked new.next prefix) c
  next_is more full =
      let front = take (length taken - 1) taken in
      let last = get_or taken (length taken - 1) no_row in
      let ended : taken ≡ front ++ last ∷ [] = ends taken (omega (arith, full, some)) in
      let whole : pairs taken ≡ pairs front ++ (last.raw, last.value) ∷ [] = ap pairs ended ∙ map-append pair front (last ∷ []) in
      let then = page_then c old.next prefix limit (pairs front) last.raw last.value (sym is ∙ whole) in
      append_cancel_left (pairs taken) behind (passing (is_asked new.next prefix) c)
      (sym split ∙ then ∙ ap (λ es. es ++ passing (is_asked (last.raw ++ 0 ∷ []) prefix) c) (sym whole) ∙ ap (λ n. pairs taken ++ passing (is_asked n prefix) c) (sym (takes.next more front last ended)))

  -- nothing is behind a page that is not full
  nothing_is : length taken < limit → behind ≡ []
  nothing_is few =
      let size = sym many ∙ ap length (is ∙ page_is c old.next prefix limit) ∙ length-take limit (passing (is_asked old.next prefix) c) in
      drop_all limit (passing (is_asked old.next prefix) c) (omega (arith, few, size))

  -- what is still to come is what is beyond, or nothing of it is wanted
  pub record Comes : Type 0 where
    pub found : found_of k new.skip new.left (rows_to_come c prefix until new) ≡ found_of k new.skip new.left beyond
    pub skip : new.skip - length (rows_to_come c prefix until new) ≡ new.skip - length beyond

  none_comes : new.more ≡ false → beyond ≡ [] → Comes
  none_comes more none =
      let left : rows_to_come c prefix until new ≡ [] = ap (λ b. cond b (rows_ahead until (passing (is_asked new.next prefix) c)) []) more in
      record { found = ap (found_of k new.skip new.left) (left ∙ sym none); skip = ap (λ es. new.skip - length es) (left ∙ sym none) }

  -- enough are found
  enough : new.more ≡ false → new.left ≡ 0 → Comes
  enough more none =
      let left : rows_to_come c prefix until new ≡ [] = ap (λ b. cond b (rows_ahead until (passing (is_asked new.next prefix) c)) []) more in
      let over : new.skip ≡ 0 = omega (arith, takes.skip, takes.left, none, wants) in
      record {
        found = (λ i. found_of k new.skip (none i) (rows_to_come c prefix until new)) ∙ sym (λ i. found_of k new.skip (none i) beyond);
        skip = (λ i. over i - length (rows_to_come c prefix until new)) ∙ zero_less (length (rows_to_come c prefix until new)) (length beyond) ∙ sym (λ i. over i - length beyond);
      }
    where
      zero_less : (a b : ℕ) → 0 - a ≡ 0 - b
      zero_less a b = omega arith

  by_tests : (left full all : Bool) → nat_lt 0 new.left ≡ left → nat_le limit (length taken) ≡ full → (length here == length taken) ≡ all → new.more ≡ (left && (full && all)) → Comes
  by_tests false full all l f a more = enough more (let low : 0 < new.left → ⊥ = λ h. (let yes_too : nat_lt 0 new.left ≡ true = grind (arith, nat_tests, h) in let no : false ≡ true = sym l ∙ yes_too in cc) in omega (arith, low))
  by_tests true false all l f a more =
      none_comes more (ap (λ es. cond (length here == length (pairs taken)) (rows_ahead until es) []) (nothing_is (leb-false limit (length taken) f)) ∙ either (length here == length (pairs taken)))
    where
      either : (b : Bool) → cond b (rows_ahead until []) [] ≡ []
      either true = refl
      either false = refl
  by_tests true true false l f a more = none_comes more (ap (λ b. cond b (rows_ahead until behind) []) (ap (λ n. length here == n) many ∙ a))
  by_tests true true true l f a more =
      let left : rows_to_come c prefix until new ≡ rows_ahead until (passing (is_asked new.next prefix) c) = ap (λ b. cond b (rows_ahead until (passing (is_asked new.next prefix) c)) []) more in
      let all : beyond ≡ rows_ahead until behind = ap (λ b. cond b (rows_ahead until behind) []) (ap (λ n. length here == n) many ∙ a) in
      let same : rows_to_come c prefix until new ≡ beyond = left ∙ ap (rows_ahead until) (sym (next_is more (leb-true limit (length taken) f))) ∙ sym all in
      record { found = ap (found_of k new.skip new.left) same; skip = ap (λ es. new.skip - length es) same }

  comes : Comes
  comes = by_tests _ _ _ refl refl refl takes.more

  -- of both together what was wanted
  both_found : found_of k old.skip old.left here ++ found_of k new.skip new.left beyond ≡ found_of k old.skip old.left (here ++ beyond)
  both_found =
      (λ i. found_of k old.skip old.left here ++ found_of k (takes.skip i) (takes.left i) beyond)
      ∙ sym (map-append (rank_in k) (take old.left (drop old.skip here)) (take (old.left - (length here - old.skip)) (drop (old.skip - length here) beyond)))
      ∙ ap (map (rank_in k)) (sym (kept-append old.left old.skip here beyond))

  -- so a page leaves a walk one
  pub page_taken : (over count : ℕ) (rows : List (Bytes × Bytes)) → old.more ≡ true → IsRankWalk c k prefix until over count rows old → IsRankWalk c k prefix until over count rows new
  page_taken over count rows more walk =
      let left : rows_to_come c prefix until old ≡ here ++ beyond = ap (λ b. cond b (rows_ahead until (passing (is_asked old.next prefix) c)) []) more ∙ parted in
      let long = length-append here beyond in
      let fewer : new.skip - length beyond ≡ old.skip - length (here ++ beyond) = omega (arith, takes.skip, long) in
      record {
        found =
            ap (λ es. es ++ found_of k new.skip new.left (rows_to_come c prefix until new)) takes.found
            ∙ append_assoc (map scored_of old.found) (found_of k old.skip old.left here) (found_of k new.skip new.left (rows_to_come c prefix until new))
            ∙ ap (λ es. map scored_of old.found ++ es) (ap (λ es. found_of k old.skip old.left here ++ es) comes.found ∙ both_found ∙ sym (ap (found_of k old.skip old.left) left))
            ∙ walk.found;
        skip = comes.skip ∙ fewer ∙ sym (ap (λ es. old.skip - length es) left) ∙ walk.skip;
      }

-- ---- how far it may go

abbrev pub ranks_left : RankWalk → ℕ
ranks_left walk = cond walk.more (walk.skip + walk.left) 0

more_parts : (l f a : Bool) → (l && (f && a)) ≡ true → (l ≡ true) × (f ≡ true) × (a ≡ true)
more_parts true true true e = (refl, refl, refl)
more_parts true true false e = absurd (cc)
more_parts true false a e = absurd (cc)
more_parts false f a e = absurd (cc)

-- each page brings its end nearer
pub walk_ends : (k : Bytes) (until : Option Bytes) (limit : ℕ) (taken : List LiveRow) (old new : RankWalk) → 0 < limit → 0 < old.left → old.more ≡ true → TakesRanks k until taken limit old new → ranks_left new < ranks_left old
walk_ends k until limit taken old new some wants more takes = by_more new.more refl
  where
    at_old : ranks_left old ≡ old.skip + old.left
    at_old = ap (λ b. cond b (old.skip + old.left) 0) more

    by_more : (b : Bool) → new.more ≡ b → ranks_left new < ranks_left old
    by_more true e =
        let parts = more_parts (nat_lt 0 new.left) (nat_le limit (length taken)) (length (rows_ahead until (pairs taken)) == length taken) (sym takes.more ∙ e) in
        let full = leb-true limit (length taken) parts.1 in
        let all : length (rows_ahead until (pairs taken)) ≡ length taken = grind (arith, nat_tests, parts.2) in
        let low : 0 < new.left = grind (arith, nat_tests, parts.0) in
        let at_new : ranks_left new ≡ new.skip + new.left = ap (λ b. cond b (new.skip + new.left) 0) e in
        omega (arith, at_old, at_new, takes.skip, takes.left, full, all, low, some)
    by_more false e =
        let at_new : ranks_left new ≡ 0 = ap (λ b. cond b (new.skip + new.left) 0) e in
        omega (arith, at_old, at_new, wants)

-- the same of rows that may be told
pub walk_goes_on : (rows now : Option Rows) (k prefix at under : Bytes) (from until : Option Bytes) (limit over count : ℕ) (taken : List LiveRow) (old new : RankWalk)
    → 0 < limit → 0 < old.left → old.more ≡ true → at ≡ old.next → under ≡ prefix → now ≡ rows
    → IfSome rows (λ c. IsRankWalk c k prefix until over count (rows_between c prefix from until) old) → IfSome now (λ c. pairs taken ≡ page c at under limit) → TakesRanks k until taken limit old new
    → IfSome rows (λ c. IsRankWalk c k prefix until over count (rows_between c prefix from until) new)
walk_goes_on None now k prefix at under from until limit over count taken old new some wants more begins same_prefix same walk is takes = tt
walk_goes_on (Some c) now k prefix at under from until limit over count taken old new some wants more begins same_prefix same walk is takes =
    let told : pairs taken ≡ page c old.next prefix limit =
    subst (λ (o : Option Rows). IfSome o (λ c. pairs taken ≡ page c at under limit)) same is ∙ (λ i. page c (begins i) (same_prefix i) limit) in
    page_taken c k prefix until limit taken old new some wants told takes over count (rows_between c prefix from until) more walk

-- where it goes on, more are wanted
pub still_wants : (k : Bytes) (until : Option Bytes) (limit : ℕ) (taken : List LiveRow) (old new : RankWalk) → TakesRanks k until taken limit old new → IsTrue new.more → 0 < new.left
still_wants k until limit taken old new takes more = let parts = more_parts (nat_lt 0 new.left) (nat_le limit (length taken)) (length (rows_ahead until (pairs taken)) == length taken) (sym takes.more ∙ more) in grind (arith, nat_tests, parts.0)

-- ---- at the end

-- all that was to be found is
pub walk_done : (rows : Option Rows) (k prefix : Bytes) (from until : Option Bytes) (over count : ℕ) (walk : RankWalk) → walk.more ≡ false
    → IfSome rows (λ c. IsRankWalk c k prefix until over count (rows_between c prefix from until) walk)
    → IfSome rows (λ c. map scored_of walk.found ≡ found_of k over count (rows_between c prefix from until)) × IfSome rows (λ c. walk.skip ≡ over - length (rows_between c prefix from until))
walk_done None k prefix from until over count walk more is = (tt, tt)
walk_done (Some c) k prefix from until over count walk more is =
    let left : rows_to_come c prefix until walk ≡ [] = ap (λ b. cond b (rows_ahead until (passing (is_asked walk.next prefix) c)) []) more in (
      sym (append-nil (map scored_of walk.found)) ∙ ap (λ es. map scored_of walk.found ++ es) (sym (ap (map (rank_in k)) (ap (λ es. take walk.left (drop walk.skip es)) left ∙ none_kept walk.left walk.skip))) ∙ is.found,
      less_none walk.skip ∙ sym (ap (λ es. walk.skip - length es) left) ∙ is.skip,
    )
  where
    less_none : (a : ℕ) → a ≡ a - 0
    less_none a = omega arith
