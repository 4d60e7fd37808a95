-- Lists of entries in the order of their keys, and the maps that they are.
use Rattle.std.proofs.Common.{◌≡◌, ℕ, zero, suc, ◌-◌, ◌<◌, ◌≤◌, List, [], ◌∷◌, ◌++◌, refl, sym, ap, subst, ◌∙◌, Bool, true, false, cond, length, get_or, append_assoc, append-nil, arith}
use Rattle.std.specs.Prelude.{nat_lt, Some, None, T, map, ◌&&◌}
use Rattle.std.specs.List.{insert as insert_at, list_all, AllWithin, HoldsAt}
use Rattle.std.specs.List.Sorted.{IsNonDecreasingBy, IsPartitionPoint}
use Rattle.std.proofs.Math.ListN.{set}
use Rattle.std.proofs.lemmas.Bool.Decides.{nat_tests}
use Rattle.std.specs.declared.cmp.Ordering.{Ordering}
use Rattle.std.specs.declared.cmp.Ordering.TheVariants.{Less, Equal, Greater}
use Rattle.std.specs.Ordering.{is_lt, is_eq, ordering_index, ordering_reverse}
use Rattle.std.specs.Cmp.Lexicographic.{nat_list_cmp_total}
use Rattle.std.specs.FinMap.Entries.{put, find, below_all, is_sorted, is_sorted-put, by_order}
use Rattle.kv_base.specs.Map.{Bytes, byte_cmp, exact, Map, from_list, insert_all, insert, empty, same_entries_map}
use Rattle.kv_base.specs.TestLaws.{first, second, less, is_less as lt}

-- ---- the order of byte strings

pub over : (a b : Bytes) → byte_cmp a b ≡ Less → byte_cmp b a ≡ Greater
over a b h = nat_list_cmp_total.antisymm b a ∙ ap ordering_reverse h

pub is_under : (a b : Bytes) → byte_cmp a b ≡ Greater → byte_cmp b a ≡ Less
is_under a b h = nat_list_cmp_total.antisymm b a ∙ ap ordering_reverse h

pub level : (a b : Bytes) → byte_cmp a b ≡ Equal → byte_cmp b a ≡ Equal
level a b h = nat_list_cmp_total.antisymm b a ∙ ap ordering_reverse h

rises_by : (a b k : Bytes) (o : Ordering) → byte_cmp a b ≡ Less → byte_cmp b k ≡ o → ordering_index (byte_cmp a k) ≤ ordering_index o
rises_by a b k Less h is = rw (nat_list_cmp_total.trans a b k h is) (omega arith)
rises_by a b k Equal h is = rw (subst (λ (x : Bytes). byte_cmp a x ≡ Less) (exact b k is) h) (omega arith)
rises_by a b k Greater h is = at_most (byte_cmp a k)
  where
    at_most : (o : Ordering) → ordering_index o ≤ ordering_index Greater
    at_most Less = omega arith
    at_most Equal = omega arith
    at_most Greater = omega arith

-- ---- a list in order is the list of the map's entries

module _ {X : Type 0} where
  below_in : (q : Bytes) (done : List (Bytes × X)) (e : Bytes × X) (rest : List (Bytes × X)) → T (below_all byte_cmp q (done ++ e ∷ rest)) → T (is_lt (byte_cmp q e.0))
  below_in q [] e rest h = first _ _ h
  below_in q (d ∷ done) e rest h = below_in q done e rest (second _ _ h)

  put_last : (done : List (Bytes × X)) (e : Bytes × X) (rest : List (Bytes × X)) → T (is_sorted byte_cmp (done ++ e ∷ rest)) → put byte_cmp e.0 e.1 done ≡ done ++ e ∷ []
  put_last [] e rest h = refl
  put_last (d ∷ done) e rest h =
      let above = over d.0 e.0 (less _ (below_in d.0 done e rest (first _ _ h))) in
      ap (λ o. by_order o ((e.0, e.1) ∷ d ∷ done) ((d.0, e.1) ∷ done) (d ∷ put byte_cmp e.0 e.1 done)) above ∙ ap (λ es. d ∷ es) (put_last done e rest (second _ _ h))

  grown : (done rest : List (Bytes × X)) (m : Map X) → m.entries ≡ done → T (is_sorted byte_cmp (done ++ rest)) → (insert_all m rest).entries ≡ done ++ rest
  unfolding insert
  grown done [] m is h = is ∙ sym (append-nil done)
  grown done (e ∷ rest) m is h =
      grown (done ++ e ∷ []) rest (insert m e.0 e.1) (ap (put byte_cmp e.0 e.1) is ∙ put_last done e rest h) (subst (λ (es : List (Bytes × X)). T (is_sorted byte_cmp es)) (sym (append_assoc done (e ∷ []) rest)) h)
      ∙ append_assoc done (e ∷ []) rest

  pub entries_from_list : (es : List (Bytes × X)) → T (is_sorted byte_cmp es) → (from_list es).entries ≡ es
  unfolding empty
  entries_from_list es h = grown [] es empty refl h

  pub from_its_entries : (m : Map X) → from_list m.entries ≡ m
  from_its_entries m = same_entries_map (from_list m.entries) m (entries_from_list m.entries m.sorted)

  pub put_in_map : (old new : List (Bytes × X)) (k : Bytes) (v : X) → T (is_sorted byte_cmp old) → new ≡ put byte_cmp k v old → T (is_sorted byte_cmp new) × (from_list new ≡ insert (from_list old) k v)
  unfolding insert
  put_in_map old new k v h is =
      let sorted : T (is_sorted byte_cmp new) = subst (λ (es : List (Bytes × X)). T (is_sorted byte_cmp es)) (sym is) (is_sorted-put byte_cmp nat_list_cmp_total k v old h) in
      (sorted, same_entries_map (from_list new) (insert (from_list old) k v) (entries_from_list new sorted ∙ is ∙ ap (put byte_cmp k v) (sym (entries_from_list old h))))

  pub all_put : (p : Bytes × X → Bool) (k : Bytes) (v : X) (es : List (Bytes × X)) → list_all p es ≡ true → p (k, v) ≡ true → list_all p (put byte_cmp k v es) ≡ true
  all_put p k v [] h is = rw is refl
  all_put p k v (e ∷ es) h is =
      elim (byte_cmp k e.0) as (λ o. byte_cmp k e.0 ≡ o → list_all p (by_order o ((k, v) ∷ e ∷ es) ((e.0, v) ∷ es) (e ∷ put byte_cmp k v es)) ≡ true) [
        | Less ↦ λ o. joined (p (k, v)) (list_all p (e ∷ es)) is h
        | Equal ↦ λ o. joined (p (e.0, v)) (list_all p es) (subst (λ (x : Bytes). p (x, v) ≡ true) (exact k e.0 o) is) (behind (p e) (list_all p es) h)
        | Greater ↦ λ o. joined (p e) (list_all p (put byte_cmp k v es)) (front (p e) (list_all p es) h) (all_put p k v es (behind (p e) (list_all p es) h) is)
      ] refl
    where
      joined : (a b : Bool) → a ≡ true → b ≡ true → (a && b) ≡ true
      joined a b e f = rw (e, f) refl

      front : (a b : Bool) → (a && b) ≡ true → a ≡ true
      front true b e = refl
      front false b e = absurd (cc)

      behind : (a b : Bool) → (a && b) ≡ true → b ≡ true
      behind true b e = e
      behind false b e = absurd (cc)

-- ---- a list whose items stand for entries

is_below : (i j : ℕ) → nat_lt i j ≡ true → i < j
is_below i j t = grind (arith, nat_tests)

is_same : (i j : ℕ) → i ≤ j → nat_lt i j ≡ false → i ≡ j
is_same i j low t = grind (arith, nat_tests)

module _ {X Y : Type 0} (f : Y → Bytes × X) where
  below_at : (q : Bytes) (xs : List Y) (i : ℕ) (d : Y) → T (below_all byte_cmp q (map f xs)) → i < length xs → byte_cmp q (f (get_or xs i d)).0 ≡ Less
  below_at q [] i d h low = let never : ⊥ = omega arith in absurd never
  below_at q (x ∷ xs) zero d h low = less _ (first _ _ h)
  below_at q (x ∷ xs) (suc i) d h low = below_at q xs i d (second _ _ h) (omega arith)

  ordered : (xs : List Y) (i j : ℕ) (d : Y) → T (is_sorted byte_cmp (map f xs)) → i < j → j < length xs → byte_cmp (f (get_or xs i d)).0 (f (get_or xs j d)).0 ≡ Less
  ordered [] i j d h low high = let never : ⊥ = omega arith in absurd never
  ordered (x ∷ xs) i zero d h low high = let never : ⊥ = omega arith in absurd never
  ordered (x ∷ xs) zero (suc j) d h low high = below_at (f x).0 xs j d (first _ _ h) (omega arith)
  ordered (x ∷ xs) (suc i) (suc j) d h low high = ordered xs i j d (second _ _ h) (omega arith) (omega arith)

  pub rises : (k : Bytes) (xs : List Y) → T (is_sorted byte_cmp (map f xs)) → IsNonDecreasingBy (λ y. ordering_index (byte_cmp (f y).0 k)) xs
  rises k xs h i j d low high =
      elim (nat_lt i j) as (λ b. nat_lt i j ≡ b → ordering_index (byte_cmp (f (get_or xs i d)).0 k) ≤ ordering_index (byte_cmp (f (get_or xs j d)).0 k)) [
        | true ↦ λ t. rises_by (f (get_or xs i d)).0 (f (get_or xs j d)).0 k _ (ordered xs i j d h (is_below i j t) high) refl
        | false ↦ λ t. subst (λ (n : ℕ). ordering_index (byte_cmp (f (get_or xs i d)).0 k) ≤ ordering_index (byte_cmp (f (get_or xs n d)).0 k)) (is_same i j low t) (omega arith)
      ] refl

  -- a key above the last one is above each
  pub past_last : (k : Bytes) (xs : List Y) → T (is_sorted byte_cmp (map f xs)) → HoldsAt (λ y. byte_cmp (f y).0 k ≡ Less) xs (length xs - 1)
      → IsPartitionPoint (λ x. byte_cmp (f x).0 k ≡ Less) (λ x. byte_cmp (f x).0 k ≡ Greater) xs (length xs)
  past_last k xs h last = (all_below, (λ i d l low. let never : ⊥ = omega arith in absurd never))
    where
      all_below : AllWithin (λ x. byte_cmp (f x).0 k ≡ Less) xs 0 (length xs)
      all_below i d l low =
          elim (nat_lt i (length xs - 1)) as (λ b. nat_lt i (length xs - 1) ≡ b → byte_cmp (f (get_or xs i d)).0 k ≡ Less) [
            | true ↦ λ t. nat_list_cmp_total.trans (f (get_or xs i d)).0 (f (get_or xs (length xs - 1) d)).0 k (ordered xs i (length xs - 1) d h (is_below i (length xs - 1) t) (omega arith)) (last d)
            | false ↦ λ t. subst (λ (n : ℕ). byte_cmp (f (get_or xs n d)).0 k ≡ Less) (sym (is_same i (length xs - 1) (omega arith) t)) (last d)
          ] refl

  pub put_at : (xs : List Y) (at : ℕ) (y : Y) (k : Bytes) (v : X) → f y ≡ (k, v) → at ≤ length xs
      → IsPartitionPoint (λ x. byte_cmp (f x).0 k ≡ Less) (λ x. byte_cmp (f x).0 k ≡ Greater) xs at → put byte_cmp k v (map f xs) ≡ map f (insert_at xs at y)
  put_at [] zero y k v is low place = ap (λ e. e ∷ []) (sym is)
  put_at [] (suc at) y k v is low place = let never : ⊥ = omega arith in absurd never
  put_at (x ∷ xs) zero y k v is low place =
      ap (λ o. by_order o ((k, v) ∷ f x ∷ map f xs) (((f x).0, v) ∷ map f xs) (f x ∷ put byte_cmp k v (map f xs))) (is_under (f x).0 k (place.1 0 x (omega arith) (omega arith)))
      ∙ ap (λ e. e ∷ f x ∷ map f xs) (sym is)
  put_at (x ∷ xs) (suc at) y k v is low place =
      ap (λ o. by_order o ((k, v) ∷ f x ∷ map f xs) (((f x).0, v) ∷ map f xs) (f x ∷ put byte_cmp k v (map f xs))) (over (f x).0 k (place.0 0 x (omega arith) (omega arith)))
      ∙ ap (λ es. f x ∷ es) (put_at xs at y k v is (omega arith) ((λ i d l h. place.0 (suc i) d (omega arith) (omega arith)), (λ i d l h. place.1 (suc i) d (omega arith) (omega arith))))

  pub put_over : (xs : List Y) (at : ℕ) (y : Y) (k : Bytes) (v : X) → f y ≡ (k, v) → at < length xs → T (is_sorted byte_cmp (map f xs))
      → HoldsAt (λ x. byte_cmp (f x).0 k ≡ Equal) xs at → put byte_cmp k v (map f xs) ≡ map f (set xs at y)
  put_over [] at y k v is low h place = let never : ⊥ = omega arith in absurd never
  put_over (x ∷ xs) zero y k v is low h place =
      ap (λ o. by_order o ((k, v) ∷ f x ∷ map f xs) (((f x).0, v) ∷ map f xs) (f x ∷ put byte_cmp k v (map f xs))) (level (f x).0 k (place x))
      ∙ ap (λ (key : Bytes). (key, v) ∷ map f xs) (exact (f x).0 k (place x)) ∙ ap (λ e. e ∷ map f xs) (sym is)
  put_over (x ∷ xs) (suc at) y k v is low h place =
      let below : byte_cmp (f x).0 k ≡ Less = subst (λ (key : Bytes). byte_cmp (f x).0 key ≡ Less) (exact (f (get_or xs at x)).0 k (place x)) (below_at (f x).0 xs at x (first _ _ h) (omega arith)) in
      ap (λ o. by_order o ((k, v) ∷ f x ∷ map f xs) (((f x).0, v) ∷ map f xs) (f x ∷ put byte_cmp k v (map f xs))) (over (f x).0 k below)
      ∙ ap (λ es. f x ∷ es) (put_over xs at y k v is (omega arith) (second _ _ h) place)

  pub find_at : (xs : List Y) (at : ℕ) (k : Bytes) (d : Y) → at < length xs → T (is_sorted byte_cmp (map f xs)) → HoldsAt (λ x. byte_cmp (f x).0 k ≡ Equal) xs at → find byte_cmp k (map f xs) ≡ Some (f (get_or xs at d)).1
  find_at [] at k d low h place = let never : ⊥ = omega arith in absurd never
  find_at (x ∷ xs) zero k d low h place = ap (λ o. cond (is_eq o) (Some (f x).1) (find byte_cmp k (map f xs))) (level (f x).0 k (place x))
  find_at (x ∷ xs) (suc at) k d low h place =
      let below : byte_cmp (f x).0 k ≡ Less = subst (λ (key : Bytes). byte_cmp (f x).0 key ≡ Less) (exact (f (get_or xs at x)).0 k (place x)) (below_at (f x).0 xs at x (first _ _ h) (omega arith)) in
      ap (λ o. cond (is_eq o) (Some (f x).1) (find byte_cmp k (map f xs))) (over (f x).0 k below) ∙ find_at xs at k d (omega arith) (second _ _ h) place

  pub find_none : (xs : List Y) (at : ℕ) (k : Bytes) → at ≤ length xs → IsPartitionPoint (λ x. byte_cmp (f x).0 k ≡ Less) (λ x. byte_cmp (f x).0 k ≡ Greater) xs at → find byte_cmp k (map f xs) ≡ None
  find_none [] at k low place = refl
  find_none (x ∷ xs) zero k low place =
      ap (λ o. cond (is_eq o) (Some (f x).1) (find byte_cmp k (map f xs))) (is_under (f x).0 k (place.1 0 x (omega arith) (omega arith)))
      ∙ find_none xs zero k (omega arith) ((λ i d l h. let never : ⊥ = omega arith in absurd never), (λ i d l h. place.1 (suc i) d (omega arith) (omega arith)))
  find_none (x ∷ xs) (suc at) k low place =
      ap (λ o. cond (is_eq o) (Some (f x).1) (find byte_cmp k (map f xs))) (over (f x).0 k (place.0 0 x (omega arith) (omega arith)))
      ∙ find_none xs at k (omega arith) ((λ i d l h. place.0 (suc i) d (omega arith) (omega arith)), (λ i d l h. place.1 (suc i) d (omega arith) (omega arith)))
