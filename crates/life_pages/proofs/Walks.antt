-- A walk over pages, as its loop meets it.
use Rattle.std.proofs.Common.{◌≡◌, ℕ, ◌+◌, ◌-◌, ◌<◌, ◌≤◌, ◌^◌, refl, sym, ap, subst, ◌∙◌, Bool, true, false, cond, List, [], ◌∷◌, ◌++◌, length, take, get_or, append_assoc, append-nil, length-append, arith}
use Rattle.std.proofs.Math.Seq.{take-length}
use Rattle.std.proofs.lemmas.Bool.{leb-true, leb-false}
use Rattle.std.proofs.lemmas.List.{length-map, map-append, take_more}
use Rattle.std.specs.Prelude.{Option, Some, None, IfSome, IsTrue, nat_le}
use Rattle.kv_base.specs.Map.{Bytes}
use Rattle.lives_model.specs.declared.view.LiveRow.{LiveRow}
use Rattle.lives_model.specs.Rows.{Rows}
use Rattle.lives_model.specs.LiveRowLists.{pair, pairs}
use Rattle.lives_model.specs.Page.{page}
use Rattle.lives_model.specs.Passing.{passing, is_asked}
use Rattle.lives_model.specs.PageLaws.{short_page, page_then}
use Rattle.life_pages.specs.declared.pages.Walk.{Walk}
use Rattle.life_pages.specs.PageWalks.{IsWalkStart, TakesPage, IsWalk}

-- a row for a place where there is none
no_row : LiveRow
no_row = record { raw = []; value = [] }

-- a list that is not empty ends in its last row
ends : (rows : List LiveRow) → 0 < length rows → rows ≡ take (length rows - 1) rows ++ get_or rows (length rows - 1) no_row ∷ []
ends rows some =
    let count : length rows ≡ (length rows - 1) + 1 = omega (arith, some) in
    sym (take-length rows) ∙ ap (λ n. take n rows) count ∙ take_more rows (length rows - 1) no_row (omega (arith, some))

-- at the start nothing is found, and all is still to come
pub walk_started : (rows : Option Rows) (prefix : Bytes) (walk : Walk) → IsWalkStart prefix walk → IfSome rows (λ c. IsWalk c prefix walk)
walk_started None prefix walk start = tt
walk_started (Some c) prefix walk start =
    (λ i. pairs (start.found i) ++ cond (start.more i) (passing (is_asked (start.next i) prefix) c) [])

-- a page and what is still to come behind it are what was still to come
page_and_rest : (c : Rows) (prefix : Bytes) (limit : ℕ) (rows : List LiveRow) (old new : Walk) → 0 < limit → TakesPage rows limit old new → pairs rows ≡ page c old.next prefix limit
    → pairs rows ++ cond new.more (passing (is_asked new.next prefix) c) [] ≡ passing (is_asked old.next prefix) c
page_and_rest c prefix limit rows old new some takes is = by_more (nat_le limit (length rows)) refl
  where
    by_more : (b : Bool) → nat_le limit (length rows) ≡ b → pairs rows ++ cond new.more (passing (is_asked new.next prefix) c) [] ≡ passing (is_asked old.next prefix) c
    by_more true e =
        let many = leb-true limit (length rows) e in
        let front = take (length rows - 1) rows in
        let last = get_or rows (length rows - 1) no_row in
        let ended : rows ≡ front ++ last ∷ [] = ends rows (omega (arith, many, some)) in
        let all : new.found ≡ (old.found ++ front) ++ last ∷ [] = takes.found ∙ ap (λ r. old.found ++ r) ended ∙ sym (append_assoc old.found front (last ∷ [])) in
        let whole : pairs rows ≡ pairs front ++ (last.raw, last.value) ∷ [] = ap pairs ended ∙ map-append pair front (last ∷ []) in
        ap (λ b. pairs rows ++ cond b (passing (is_asked new.next prefix) c) []) (takes.more ∙ e)
        ∙ ap (λ n. pairs rows ++ passing (is_asked n prefix) c) (takes.next (takes.more ∙ e) (old.found ++ front) last all)
        ∙ ap (λ es. es ++ passing (is_asked (last.raw ++ 0 ∷ []) prefix) c) whole
        ∙ sym (page_then c old.next prefix limit (pairs front) last.raw last.value (sym is ∙ whole))
    by_more false e =
        let few = leb-false limit (length rows) e in
        let size = sym (length-map rows pair) ∙ ap length is in
        ap (λ b. pairs rows ++ cond b (passing (is_asked new.next prefix) c) []) (takes.more ∙ e)
        ∙ append-nil (pairs rows)
        ∙ is
        ∙ short_page c old.next prefix limit (omega (arith, few, size))

-- so one page more leaves a walk one
pub page_taken : (rows now : Option Rows) (prefix at : Bytes) (limit : ℕ) (taken : List LiveRow) (old new : Walk) → 0 < limit → old.more ≡ true → at ≡ old.next → now ≡ rows
    → IfSome rows (λ c. IsWalk c prefix old) → IfSome now (λ c. pairs taken ≡ page c at prefix limit) → TakesPage taken limit old new → IfSome rows (λ c. IsWalk c prefix new)
page_taken None now prefix at limit taken old new some more from same walk is takes = tt
page_taken (Some c) now prefix at limit taken old new some more from same walk is takes =
    let here : pairs taken ≡ page c old.next prefix limit = subst (λ (o : Option Rows). IfSome o (λ c. pairs taken ≡ page c at prefix limit)) same is ∙ ap (λ x. page c x prefix limit) from in
    ap (λ es. pairs es ++ cond new.more (passing (is_asked new.next prefix) c) []) takes.found
    ∙ ap (λ es. es ++ cond new.more (passing (is_asked new.next prefix) c) []) (map-append pair old.found taken)
    ∙ append_assoc (pairs old.found) (pairs taken) (cond new.more (passing (is_asked new.next prefix) c) [])
    ∙ ap (λ es. pairs old.found ++ es) (page_and_rest c prefix limit taken old new some takes here)
    ∙ sym (ap (λ b. pairs old.found ++ cond b (passing (is_asked old.next prefix) c) []) more)
    ∙ walk

-- how far a walk may still go: there are less than 2^64 rows
abbrev pub pages_left : Walk → ℕ
pages_left walk = cond walk.more ((2 ^ 64 - length walk.found) + 1) 0

-- each page brings its end nearer
pub walk_ends : (limit : ℕ) (taken : List LiveRow) (old new : Walk) → 0 < limit → old.more ≡ true → TakesPage taken limit old new → pages_left new < pages_left old
walk_ends limit taken old new some more takes = by_more new.more refl
  where
    at_old : pages_left old ≡ (2 ^ 64 - length old.found) + 1
    at_old = ap (λ b. cond b ((2 ^ 64 - length old.found) + 1) 0) more

    longer : length new.found ≡ length old.found + length taken
    longer = ap length takes.found ∙ length-append old.found taken

    by_more : (b : Bool) → new.more ≡ b → pages_left new < pages_left old
    by_more true e =
        let few = takes.few e in
        let many = leb-true limit (length taken) (sym takes.more ∙ e) in
        let at_new : pages_left new ≡ (2 ^ 64 - length new.found) + 1 = ap (λ b. cond b ((2 ^ 64 - length new.found) + 1) 0) e in
        omega (arith, at_old, at_new, longer, few, many, some)
    by_more false e =
        let at_new : pages_left new ≡ 0 = ap (λ b. cond b ((2 ^ 64 - length new.found) + 1) 0) e in
        omega (arith, at_old, at_new)
