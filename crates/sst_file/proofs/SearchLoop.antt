-- The loop over the blocks of a table.
use Rattle.std.proofs.Common.{◌≡◌, ℕ, zero, suc, ◌<◌, ◌≤◌, List, [], ◌∷◌, refl, sym, ap, subst, length, drop, get_or, Option, Some, None, IfSome, arith}
use Rattle.kv_base.specs.Map.{Bytes}
use Rattle.kv_base.specs.declared.row.Row.{Row}
use Rattle.row_model.specs.Rows.{seen_at}
use Rattle.sst_parts.specs.declared.index.Spot.{Spot}
use Rattle.sst_file.specs.States.{rows_of_table}
use Rattle.sst_file.specs.Searching.{HasBlock}
use Rattle.sst_file.specs.Searching.{AreBlocksLeft, FoundIn}
use Rattle.sst_file.specs.SearchStepLaws.{has_block, none_found, some_found, nothing_found}

pub drop_next : (xs : List Spot) (i : ℕ) (x : Spot) → x ≡ get_or xs i x → i < length xs → drop i xs ≡ x ∷ drop (suc i) xs
drop_next [] i x is low = let never : ⊥ = omega arith in absurd never
drop_next (y ∷ xs) zero x is low = ap (λ (z : Spot). z ∷ xs) (sym is)
drop_next (y ∷ xs) (suc i) x is low = drop_next xs i x is (omega arith)

pub drop_end : (xs : List Spot) (i : ℕ) → length xs ≤ i → drop i xs ≡ []
drop_end [] zero high = refl
drop_end [] (suc i) high = refl
drop_end (y ∷ xs) zero high = let never : ⊥ = omega arith in absurd never
drop_end (y ∷ xs) (suc i) high = drop_end xs i (omega arith)

module _ (raw : Bytes) (s : ℕ) (spots slice : List Spot) (at : ℕ) (spot : Spot) (is : slice ≡ spots) (there : spot ≡ get_or slice at spot) (low : at < length slice) where
  split : drop at spots ≡ spot ∷ drop (suc at) spots
  split = subst (λ (l : List Spot). drop at l ≡ spot ∷ drop (suc at) l) is (drop_next slice at spot there low)

  pub next_block : (held : Option Bytes) → IfSome held (AreBlocksLeft raw s (drop at spots)) → IfSome held (HasBlock spot)
  next_block None left = tt
  next_block (Some bytes) left = has_block raw s spot (drop (suc at) spots) bytes (subst (λ (l : List Spot). AreBlocksLeft raw s l bytes) split left)

  pub goes_on : (held : Option Bytes) (next : ℕ) (found : Option (Option Row)) → next ≡ suc at → found ≡ None → IfSome held (AreBlocksLeft raw s (drop at spots)) → IfSome held (FoundIn raw s spot found) → IfSome held (AreBlocksLeft raw s (drop next spots))
  goes_on None next found moved none left in_block = tt
  goes_on (Some bytes) next found moved none left in_block =
      subst (λ (k : ℕ). AreBlocksLeft raw s (drop k spots) bytes) (sym moved)
      (none_found raw s spot (drop (suc at) spots) bytes (subst (λ (l : List Spot). AreBlocksLeft raw s l bytes) split left) (subst (λ (o : Option (Option Row)). FoundIn raw s spot o bytes) none in_block))

  pub answers : (held : Option Bytes) (found : Option (Option Row)) (row : Option Row) → found ≡ Some row → IfSome held (AreBlocksLeft raw s (drop at spots)) → IfSome held (FoundIn raw s spot found)
      → IfSome (rows_of_table held) (λ rows. row ≡ seen_at rows s raw)
  answers None found row some left in_block = tt
  answers (Some bytes) found row some left in_block =
      some_found raw s spot (drop (suc at) spots) bytes row (subst (λ (l : List Spot). AreBlocksLeft raw s l bytes) split left) (subst (λ (o : Option (Option Row)). FoundIn raw s spot o bytes) some in_block)

pub ends : (raw : Bytes) (s : ℕ) (spots slice : List Spot) (at : ℕ) (held : Option Bytes) → slice ≡ spots → length slice ≤ at → IfSome held (AreBlocksLeft raw s (drop at spots))
    → IfSome (rows_of_table held) (λ rows. None ≡ seen_at rows s raw)
ends raw s spots slice at None is high left = tt
ends raw s spots slice at (Some bytes) is high left =
    nothing_found raw s bytes (subst (λ (l : List Spot). AreBlocksLeft raw s l bytes) (subst (λ (l : List Spot). drop at l ≡ []) is (drop_end slice at high)) left)
