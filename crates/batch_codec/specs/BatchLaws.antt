-- What stands at a raw key after a batch, and in two batches that are joined.
use Rattle.std.specs.Prelude.{◌≡◌, true, false, cond, T, List, [], ◌∷◌, fold, Option, Some, None, option_map, refl}
use Rattle.std.proofs.Common.{sym, ◌∙◌, ap, subst}
use Rattle.std.specs.Ordering.{is_eq}
use Rattle.std.specs.FinMap.Entries.{find, is_sorted, below_all}
use Rattle.kv_base.specs.Map.{Bytes, byte_cmp, same, same_is, Map, get, insert, get-insert, get-remove}
use Rattle.batch_codec.specs.Batches.{Batch, written, after, joined, over}
use Rattle.kv_base.specs.TestLaws.{first, second, less}

find_below : {X : Type 0} (q : Bytes) (es : List (Bytes × X)) → T (below_all byte_cmp q es) → find byte_cmp q es ≡ None
find_below q [] h = refl
find_below q (e ∷ es) h = ap (λ r. cond (is_eq r) (Some e.1) (find byte_cmp q es)) (less _ (first _ _ h)) ∙ find_below q es (second _ _ h)

abbrev seen : {X Y : Type 0} → (X → Option Y) → Option X → Option Y → Option Y
seen f None old = old
seen f (Some x) old = f x

-- writes in the order of a sorted list
module _ {X Y : Type 0} (w : Map Y → Bytes → X → Map Y) (f : X → Option Y) (law : (c : Map Y) (k : Bytes) (x : X) (q : Bytes) → get (w c k x) q ≡ cond (same q k) (f x) (get c q)) where
  get-fold : (c : Map Y) (q : Bytes) (es : List (Bytes × X)) → T (is_sorted byte_cmp es) → get (fold (λ d e. w d e.0 e.1) c es) q ≡ seen f (find byte_cmp q es) (get c q)
  get-fold c q [] h = refl
  get-fold c q (e ∷ es) h =
      get-fold (w c e.0 e.1) q es (second _ _ h)
      ∙ elim (same q e.0) as (λ b. same q e.0 ≡ b → seen f (find byte_cmp q es) (get (w c e.0 e.1) q) ≡ seen f (cond b (Some e.1) (find byte_cmp q es)) (get c q)) [
        | true ↦ λ t.
            let none : find byte_cmp q es ≡ None = subst (λ k. find byte_cmp k es ≡ None) (sym (same_is q e.0 t)) (find_below e.0 es (first _ _ h)) in
            ap (λ o. seen f o (get (w c e.0 e.1) q)) none ∙ law c e.0 e.1 q ∙ ap (λ b. cond b (f e.1) (get c q)) t
        | false ↦ λ t. ap (seen f (find byte_cmp q es)) (law c e.0 e.1 q ∙ ap (λ b. cond b (f e.1) (get c q)) t)
      ] refl

get-written : (c : Map Bytes) (k : Bytes) (x : Option Bytes) (q : Bytes) → get (written c k x) q ≡ cond (same q k) x (get c q)
get-written c k None q = get-remove c k q
get-written c k (Some x) q = get-insert c k x q

over_is : {X : Type 0} (o : Option (Option X)) (old : Option X) → seen (λ x. x) o old ≡ over o old
over_is None old = refl
over_is (Some x) old = refl

over_some : {X : Type 0} (o : Option X) (old : Option X) → seen (λ x. Some x) o old ≡ over (option_map (λ x. Some x) o) old
over_some None old = refl
over_some (Some x) old = refl

pub get-after : (rows : Map Bytes) (batch : Batch) (raw : Bytes) → get (after rows batch) raw ≡ over (get batch raw) (get rows raw)
unfolding after get
get-after rows batch raw = get-fold written (λ x. x) get-written rows raw batch.entries batch.sorted ∙ over_is (get batch raw) (get rows raw)

pub get-joined : (batch later : Batch) (raw : Bytes) → get (joined batch later) raw ≡ over (option_map (λ x. Some x) (get later raw)) (get batch raw)
unfolding joined get
get-joined batch later raw = get-fold insert (λ x. Some x) get-insert batch raw later.entries later.sorted ∙ over_some (get later raw) (get batch raw)
