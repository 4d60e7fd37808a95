-- Blocks are judged one after the other.
use Rattle.std.proofs.Common.{◌≡◌, ℕ, zero, suc, ◌+◌, ◌<◌, ◌≤◌, List, [], ◌∷◌, ◌++◌, refl, sym, ap, ◌∙◌, Bool, true, false, length, drop, get_or, Option, None, option_map, Result, Ok, Err, append_assoc, append-nil, arith}
use Rattle.std.specs.Prelude.{◌==◌}
use Rattle.std.proofs.lemmas.Bool.Decides.{nat_tests}
use Rattle.kv_base.specs.Map.{Bytes}
use Rattle.kv_base.specs.declared.row.Row.{Row}
use Rattle.sst_parts.specs.declared.index.Spot.{Spot}
use Rattle.sst_parts.specs.declared.key_hash.KeyHash.{KeyHash}
use Rattle.sst_parts.specs.BlockBodies.{last_row}
use Rattle.sst_grammar.specs.Judging.{slice_at, or_off, then_judged, has_none, read_block, rows_in_front, judged_blocks}
use Rattle.sst_sums.specs.Summing.{bare_row, AreSums}
use Rattle.sst_sums.specs.SumLaws.{blocks_next, last_row-append}
use Rattle.sst_file.specs.BlockReads.{judged_block, IsBlockRead, AreRead, AreAllRead}

in_front_none : (r : Result (List Row) ℕ) → r ≡ rows_in_front [] r
in_front_none (Err place) = refl
in_front_none (Ok rows) = refl

in_front_both : (done rows : List Row) (r : Result (List Row) ℕ) → rows_in_front done (rows_in_front rows r) ≡ rows_in_front (done ++ rows) r
in_front_both done rows (Err place) = refl
in_front_both done rows (Ok more) = ap (λ (rs : List Row). Ok rs) (sym (append_assoc done rows more))

pub none_read : (spots : List Spot) (count : ℕ) (keys : List KeyHash) (least : Option Bytes) (last : Option Row) (bytes : Bytes) → AreSums count keys least last [] → AreRead spots 0 count keys least last bytes
none_read spots count keys least last bytes sums = record { done = []; sums = sums; judged_is = in_front_none (judged_blocks None spots bytes) }

drop_next : (xs : List Spot) (i : ℕ) (x : Spot) → x ≡ get_or xs i x → i < length xs → drop i xs ≡ x ∷ drop (suc i) xs
drop_next [] i x is low = let never : ⊥ = omega arith in absurd never
drop_next (y ∷ xs) zero x is low = ap (λ (z : Spot). z ∷ xs) (sym is)
drop_next (y ∷ xs) (suc i) x is low = drop_next xs i x is (omega arith)

drop_end : (xs : List Spot) (i : ℕ) → length xs ≤ i → drop i xs ≡ []
drop_end [] zero high = refl
drop_end [] (suc i) high = refl
drop_end (y ∷ xs) zero high = let never : ⊥ = omega arith in absurd never
drop_end (y ∷ xs) (suc i) high = drop_end xs i (omega arith)

-- a place is the last one exactly where nothing is behind it
last_place : (xs : List Spot) (i : ℕ) → i < length xs → (i + 1 == length xs) ≡ has_none (drop (suc i) xs)
last_place [] i low = let never : ⊥ = omega arith in absurd never
last_place (x ∷ []) zero low = let e : zero + 1 ≡ 1 = omega arith in ap (λ (k : ℕ). k == 1) e
last_place (x ∷ y ∷ xs) zero low = other (zero + 1) (suc (suc (length xs))) (omega arith)
  where
    other : (n m : ℕ) → n < m → (n == m) ≡ false
    other n m h = grind (arith, nat_tests)
last_place (x ∷ xs) (suc i) low = moved (suc i + 1) (suc (length xs)) (i + 1) (length xs) (omega arith) refl ∙ last_place xs i (omega arith)
  where
    same_tests : (b c : Bool) → (b ≡ true → c ≡ true) → (c ≡ true → b ≡ true) → b ≡ c
    same_tests true c f g = sym (f refl)
    same_tests false true f g = g refl
    same_tests false false f g = refl

    moved : (n m k l : ℕ) → n ≡ suc k → m ≡ suc l → (n == m) ≡ (k == l)
    moved n m k l e f = same_tests (n == m) (k == l) (λ t. grind (arith, nat_tests)) (λ t. grind (arith, nat_tests))

module _ (spots : List Spot) (at : ℕ) (spot : Spot) (there : spot ≡ get_or spots at spot) (low : at < length spots) (is_last : Bool) (last_is : is_last ≡ (at + 1 == length spots))
    (count : ℕ) (keys : List KeyHash) (least : Option Bytes) (last : Option Row) (bytes : Bytes) (read : AreRead spots at count keys least last bytes) where
  rest : List Spot
  rest = drop (suc at) spots

  judged_then : (r : Result (List Row) ℕ) → judged_block is_last last spot bytes ≡ r → judged_blocks None spots bytes ≡ rows_in_front read.done (then_judged r (λ rows. rows_in_front rows (judged_blocks (last_row (last_row None read.done) rows) (drop (suc at) spots) bytes)))
  judged_then r is =
      let others = drop (suc at) spots in
      let behind = λ (rows : List Row). rows_in_front rows (judged_blocks (last_row (last_row None read.done) rows) others bytes) in
      let slice = slice_at spot.place spot.bytes bytes in
      read.judged_is
      ∙ ap (λ (l : List Spot). rows_in_front read.done (judged_blocks (last_row None read.done) l bytes)) (drop_next spots at spot there low)
      ∙ ap (rows_in_front read.done) (blocks_next (last_row None read.done) spot others bytes slice (read_block (has_none others) (option_map bare_row (last_row None read.done)) spot slice) refl refl)
      ∙ (λ i. rows_in_front read.done (then_judged (or_off spot.place (read_block (sym (last_is ∙ last_place spots at low) i) (sym read.sums.last_is i) spot slice)) behind))
      ∙ ap (λ r. rows_in_front read.done (then_judged r behind)) is

  pub next_read : (next total : ℕ) (more : List KeyHash) (first : Option Bytes) (now : Option Row) → next ≡ suc at → IsBlockRead is_last spot count total keys more least first last now bytes → AreRead spots next total more first now bytes
  next_read next total more first now moved block =
      let others = drop (suc at) spots in
      record {
        done = read.done ++ block.rows;
        sums = block.sums read.done read.sums;
        judged_is = judged_then (Ok block.rows) block.judged_is ∙ in_front_both read.done block.rows (judged_blocks (last_row (last_row None read.done) block.rows) others bytes)
            ∙ (λ i. rows_in_front (read.done ++ block.rows) (judged_blocks (sym (last_row-append None read.done block.rows) i) (drop (sym moved i) spots) bytes));
      }

  pub next_off : (place : ℕ) → judged_block is_last last spot bytes ≡ Err place → judged_blocks None spots bytes ≡ Err place
  next_off place off = judged_then (Err place) off

pub all_read : (spots : List Spot) (at count : ℕ) (keys : List KeyHash) (least : Option Bytes) (last : Option Row) (bytes : Bytes) → length spots ≤ at → AreRead spots at count keys least last bytes → AreAllRead spots count keys least last bytes
unfolding judged_blocks
all_read spots at count keys least last bytes high read = record {
  rows = read.done;
  judged_is = read.judged_is ∙ ap (λ (l : List Spot). rows_in_front read.done (judged_blocks (last_row None read.done) l bytes)) (drop_end spots at high) ∙ ap (λ (rs : List Row). Ok rs) (append-nil read.done);
  sums = read.sums;
}
