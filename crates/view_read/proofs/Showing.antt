-- What lists of rows show together.
use Rattle.std.proofs.Common.{◌≡◌, ℕ, List, [], ◌∷◌, ◌++◌, refl, sym, ap, subst, ◌∙◌, Bool, true, false, cond, append-nil, Option, Some, None}
use Rattle.std.specs.Prelude.{◌||◌, IfSome}
use Rattle.std.specs.List.{list_any}
use Rattle.std.proofs.lemmas.List.Folds.{list_any-append}
use Rattle.std.proofs.lemmas.Grind.{flat_map-append}
use Rattle.kv_base.specs.Map.{Bytes}
use Rattle.kv_base.specs.declared.row.Row.{Row}
use Rattle.row_model.specs.Rows.{seen_at, newer}
use Rattle.row_model.specs.RowLaws.{seen_in_both}
use Rattle.merge_rows.specs.Merged.{told_rows, is_untold, all_told_rows}
use Rattle.view_read.specs.Shows.{ShowsInAll}

pub shows_none : (s : ℕ) (raw : Bytes) → ShowsInAll [] s raw None
unfolding seen_at
shows_none s raw = refl

pub shows_one : (rows : Option (List Row)) (s : ℕ) (raw : Bytes) (seen : Option Row) → IfSome rows (λ rs. seen ≡ seen_at rs s raw) → ShowsInAll (rows ∷ []) s raw seen
shows_one None s raw seen is = tt
shows_one (Some rows) s raw seen is = is ∙ ap (λ (rs : List Row). seen_at rs s raw) (sym (append-nil rows))

-- of two lists of lists together, the newer one of what they show shows
pub shows_both : (xs ys : List (Option (List Row))) (s : ℕ) (raw : Bytes) (a b : Option Row) → ShowsInAll xs s raw a → ShowsInAll ys s raw b → ShowsInAll (xs ++ ys) s raw (newer a b)
shows_both xs ys s raw a b p q =
    subst (λ (x : Bool × List Row). IfSome (cond x.0 None (Some x.1)) (λ rows. newer a b ≡ seen_at rows s raw)) (λ i. (sym (list_any-append is_untold xs ys) i, sym (flat_map-append told_rows xs ys) i))
    (by_told (list_any is_untold xs) (list_any is_untold ys) p q)
  where
    by_told : (u v : Bool) → IfSome (cond u None (Some (all_told_rows xs))) (λ rows. a ≡ seen_at rows s raw) → IfSome (cond v None (Some (all_told_rows ys))) (λ rows. b ≡ seen_at rows s raw)
        → IfSome (cond (u || v) None (Some (all_told_rows xs ++ all_told_rows ys))) (λ rows. newer a b ≡ seen_at rows s raw)
    by_told true v p q = tt
    by_told false true p q = tt
    by_told false false p q = (λ i. newer (p i) (q i)) ∙ sym (seen_in_both (all_told_rows xs) (all_told_rows ys) s raw)
