-- Shared values, by pointers of their own.
use Rattle.std.proofs.Common.{◌≡◌, ◌++◌, List, [], ◌∷◌, refl, sym, ap, ◌∙◌, take, drop, ℕ}
use Rattle.std.specs.Prelude.{map}
use Rattle.std.specs.List.{AllZip, AppendsClones, flat_map}
use Rattle.std.proofs.lemmas.List.{map-append, take-append-drop}
use Rattle.std.proofs.lemmas.Grind.{flat_map-append}
use Rattle.std.specs.Arc.{arc_value}
use Rattle.std.specs.declared.sync.Arc.{Arc}
use Rattle.kv_base.specs.declared.row.Row.{Row}
use Rattle.mem_table.specs.Tree.{leaf_rows}

module _ {X Z : Type 0} where
  pub clones_alike : (xs ys : List (Arc X Z)) → AllZip (λ x y. arc_value y ≡ arc_value x) xs ys → map arc_value ys ≡ map arc_value xs
  clones_alike [] [] h = refl
  clones_alike [] (y ∷ ys) h = absurd h
  clones_alike (x ∷ xs) [] h = absurd h
  clones_alike (x ∷ xs) (y ∷ ys) h = λ i. h.0 i ∷ clones_alike xs ys h.1 i

  -- an empty list that clones are put behind has the values of these
  pub cloned : (old new more : List (Arc X Z)) → old ≡ [] → AppendsClones (λ x y. arc_value y ≡ arc_value x) old new more → map arc_value new ≡ map arc_value more
  cloned old new more none h = ap (map arc_value) (h.1 ∙ ap (λ (xs : List (Arc X Z)). xs ++ h.0) none) ∙ clones_alike more h.0 h.2

pub joined : {Z : Type 0} (xs ys : List (Arc (List Row) Z)) → leaf_rows (xs ++ ys) ≡ leaf_rows xs ++ leaf_rows ys
joined xs ys = ap (flat_map (λ rows. rows)) (map-append arc_value xs ys) ∙ flat_map-append (λ rows. rows) (map arc_value xs) (map arc_value ys)

pub rejoined : {Z : Type 0} (xs front behind : List (Arc (List Row) Z)) (n : ℕ) → front ≡ take n xs → behind ≡ drop n xs → leaf_rows front ++ leaf_rows behind ≡ leaf_rows xs
rejoined xs front behind n f b = sym (joined front behind) ∙ ap leaf_rows ((λ i. f i ++ b i) ∙ take-append-drop n xs)

pub rows_rejoined : {Z : Type 0} (xs front behind : List (Arc Row Z)) (n : ℕ) → front ≡ take n xs → behind ≡ drop n xs → map arc_value front ++ map arc_value behind ≡ map arc_value xs
rows_rejoined xs front behind n f b = sym (map-append arc_value front behind) ∙ ap (map arc_value) ((λ i. f i ++ b i) ∙ take-append-drop n xs)
