-- One more wish, as loops over them meet it.
use Rattle.std.proofs.Common.{◌≡◌, ℕ, ◌+◌, ◌<◌, ◌≤◌, sym, ap, ◌∙◌, Bool, true, false, cond, List, [], ◌∷◌, ◌++◌, length, take, get_or, arith}
use Rattle.std.proofs.Math.Seq.{take-length}
use Rattle.std.proofs.lemmas.List.{length-map}
use Rattle.std.proofs.lemmas.List.Sums.{fold-append}
use Rattle.std.proofs.lemmas.Slice.Zip.{get_or-zip, length-zip}
use Rattle.std.specs.Prelude.{Option, Some, fold, map, zip}
use Rattle.kv_base.specs.Map.{Bytes, empty, has, insert, size, size-empty, size-insert}
use Rattle.batch_codec.specs.Batches.{Batch}
use Rattle.lives_model.specs.Rows.{Elements, row_key}
use Rattle.plan_base.specs.LoopLaws.{map_next}
use Rattle.life_plans.specs.WantedRows.{Wish, with_wish, wanted, puts}

-- ---- there are no more rows than wishes

one_more : (b : Batch) (raw : Bytes) (row : Option Bytes) → size (insert b raw row) ≤ size b + 1
one_more b raw row = by_test (has b raw) (size-insert b raw row)
  where
    by_test : (h : Bool) → size (insert b raw row) ≡ cond h (size b) (size b + 1) → size (insert b raw row) ≤ size b + 1
    by_test true e = omega (arith, e)
    by_test false e = omega (arith, e)

few_from : (k : Bytes) (version : ℕ) (b : Batch) (wishes : List Wish) → size (fold (with_wish k version) b wishes) ≤ size b + length wishes
few_from k version b [] = omega arith
few_from k version b (w ∷ wishes) =
    let one = one_more b (row_key Elements k version w.0) w.1 in
    let rest = few_from k version (with_wish k version b w) wishes in
    omega (arith, one, rest)

pub wanted_few : (k : Bytes) (version : ℕ) (wishes : List Wish) → size (wanted k version wishes) ≤ length wishes
unfolding wanted
wanted_few k version wishes = let all = few_from k version empty wishes in omega (arith, all, size-empty (Option Bytes))

-- ---- wishes of a list

-- none
pub wanted_none : (k : Bytes) (version : ℕ) (b : Batch) → b ≡ empty → b ≡ wanted k version []
unfolding wanted
wanted_none k version b is = is

-- one more
wanted_more : (k : Bytes) (version : ℕ) (wishes : List Wish) (w : Wish) → wanted k version (wishes ++ w ∷ []) ≡ with_wish k version (wanted k version wishes) w
unfolding wanted
wanted_more k version wishes w = fold-append (with_wish k version) empty wishes (w ∷ [])

-- the first one
pub wanted_first : (k : Bytes) (version : ℕ) (w : Wish) (none b batch : Batch) → none ≡ empty → b ≡ with_wish k version none w → batch ≡ b → batch ≡ wanted k version (w ∷ [])
unfolding wanted
wanted_first k version w none b batch start one is = is ∙ one ∙ ap (λ n. with_wish k version n w) start

-- one more item
pub wishes_next : {A : Type 0} (f : A → Wish) (k : Bytes) (version : ℕ) (xs : List A) (i : ℕ) (d x : A) (b next : Batch) → i < length xs → x ≡ get_or xs i d
    → b ≡ wanted k version (map f (take i xs)) → next ≡ with_wish k version b (f x) → next ≡ wanted k version (map f (take (i + 1) xs))
wishes_next f k version xs i d x b next low is so_far one =
    one ∙ (λ j. with_wish k version (so_far j) (f (is j))) ∙ sym (wanted_more k version (map f (take i xs)) (f (get_or xs i d)))
    ∙ sym (ap (wanted k version) (map_next f xs i d low))

-- all
pub wishes_done : {A : Type 0} (f : A → Wish) (k : Bytes) (version : ℕ) (xs : List A) (i : ℕ) (b batch : Batch) → i ≤ length xs → length xs ≤ i
    → b ≡ wanted k version (map f (take i xs)) → batch ≡ b → batch ≡ wanted k version (map f xs)
wishes_done f k version xs i b batch low high so_far is =
    let count : i ≡ length xs = omega arith in
    is ∙ so_far ∙ ap (λ ys. wanted k version (map f ys)) (ap (λ n. take n xs) count ∙ take-length xs)

-- there are no more rows than items
pub wishes_few : {A : Type 0} (f : A → Wish) (k : Bytes) (version : ℕ) (xs : List A) (batch : Batch) → batch ≡ wanted k version (map f xs) → size batch ≤ length xs
wishes_few f k version xs batch is = let few = wanted_few k version (map f xs) in let same = ap size is in let long = length-map xs f in omega (arith, few, same, long)

-- ---- fields with their values

abbrev put_of : Bytes × Bytes → Wish
put_of e = (e.0, Some e.1)

pub puts_next : (k : Bytes) (version : ℕ) (fields values : List Bytes) (i : ℕ) (d e x v : Bytes) (b next : Batch) → i < length fields → length values ≡ length fields
    → x ≡ get_or fields i d → v ≡ get_or values i e → b ≡ wanted k version (puts (take i (zip fields values))) → next ≡ with_wish k version b (x, Some v)
    → next ≡ wanted k version (puts (take (i + 1) (zip fields values)))
puts_next k version fields values i d e x v b next low pairs first second so_far one =
    let within : i < length values = omega arith in
    let long : i < length (zip fields values) = omega (arith, length-zip fields values) in
    let here : (x, v) ≡ get_or (zip fields values) i (d, e) = sym (get_or-zip fields values i (d, e) low within ∙ (λ j. (sym first j, sym second j))) in
    wishes_next put_of k version (zip fields values) i (d, e) (x, v) b next long here so_far one

pub puts_done : (k : Bytes) (version : ℕ) (fields values : List Bytes) (i : ℕ) (b batch : Batch) → i ≤ length fields → length fields ≤ i → length values ≡ length fields
    → b ≡ wanted k version (puts (take i (zip fields values))) → batch ≡ b → batch ≡ wanted k version (puts (zip fields values))
puts_done k version fields values i b batch low high pairs so_far is =
    let long = length-zip fields values in
    wishes_done put_of k version (zip fields values) i b batch (omega (arith, long)) (omega (arith, long)) so_far is

pub puts_few : (k : Bytes) (version : ℕ) (fields values : List Bytes) (batch : Batch) → length values ≡ length fields → batch ≡ wanted k version (puts (zip fields values)) → size batch ≤ length fields
puts_few k version fields values batch pairs is = let few = wishes_few put_of k version (zip fields values) batch is in let long = length-zip fields values in omega (arith, few, long)
