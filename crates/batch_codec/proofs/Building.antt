-- Entries that are sorted, and of which the last of each raw key is kept, are the same map in order.
use Rattle.std.proofs.Common.{◌≡◌, ℕ, suc, ◌+◌, ◌<◌, List, [], ◌∷◌, ◌++◌, refl, sym, ap, subst, ◌∙◌, Bool, true, false, cond, Option, Some, None, length, get_or, arith}
use Rattle.std.specs.Prelude.{T, map, not, ◌&&◌, MatchBool, IsTrue}
use Rattle.std.specs.List.{filter, list_all}
use Rattle.std.specs.List.Sorted.{IsSorted, IsStable, ties}
use Rattle.std.specs.List.Retain.{DedupsFrom, IsDeduped}
use Rattle.std.specs.declared.cmp.Ordering.{Ordering}
use Rattle.std.specs.declared.cmp.Ordering.TheVariants.{Less, Equal, Greater}
use Rattle.std.specs.Ordering.{is_lt, is_eq, ordering_reverse}
use Rattle.std.specs.Cmp.Lexicographic.{nat_list_cmp_total}
use Rattle.std.specs.FinMap.Entries.{below_all, is_sorted}
use Rattle.kv_base.specs.InversionLaws.{both_first, both_second}
use Rattle.kv_base.specs.Map.{Bytes, byte_cmp, same, same_is, Map, get, insert, insert_all, from_list, empty, get-insert, same_map}
use Rattle.batch_codec.specs.Batches as batches
use Rattle.batch_codec.specs.Batches.{Batch, is_row, are_rows}
use Rattle.batch_codec.specs.declared.slot.Slot.TheVariants.{Del}
use Rattle.batch_codec.specs.declared.slot.Entry.{Entry}
use Rattle.batch_codec.specs.Slots.{slot_value, slot_entry, slot_entries, batch_of, raw_cmp, lasts_from, lasts}
use Rattle.batch_codec.specs.EntryListLaws.{is_under, entries_from_list, all_put}
use Rattle.kv_base.specs.TestLaws.{both, is_less as lt}
use Rattle.batch_codec.specs.BatchMaps.{AreSortedEntries}

-- ---- what a map has at a raw key is what the entries of that raw key say

-- the last of these, or else what was there
latest : Option (Option Bytes) → List Entry → Option (Option Bytes)
latest old [] = old
latest old (e ∷ es) = latest (Some (slot_value e.slot)) es

abbrev of_raw : Bytes → List Entry → List Entry
of_raw q = filter (λ e. same q e.raw)

get-entries : (b : Batch) (q : Bytes) (es : List Entry) → get (insert_all b (slot_entries es)) q ≡ latest (get b q) (of_raw q es)
unfolding latest
get-entries b q [] = refl
get-entries b q (e ∷ es) =
    get-entries (insert b e.raw (slot_value e.slot)) q es ∙ ap (λ o. latest o (of_raw q es)) (get-insert b e.raw (slot_value e.slot) q)
    ∙ elim (same q e.raw) as (λ t. latest (cond t (Some (slot_value e.slot)) (get b q)) (of_raw q es) ≡ latest (get b q) (cond t (e ∷ of_raw q es) (of_raw q es))) [ true ↦ refl | false ↦ refl ]

-- ---- a stable sort leaves the map

tied : (o : Ordering) → (not (is_lt o) && not (is_lt (ordering_reverse o))) ≡ is_eq o
tied Less = refl
tied Equal = refl
tied Greater = refl

abbrev ties_with : Bytes → Entry → Bool
ties_with q = ties (λ e f. is_lt (raw_cmp e f)) (record { raw = q; slot = Del })

ties_is : (q : Bytes) (e : Entry) → ties_with q e ≡ same q e.raw
ties_is q e = ap (λ o. not (is_lt (byte_cmp q e.raw)) && not (is_lt o)) (nat_list_cmp_total.antisymm e.raw q) ∙ tied (byte_cmp q e.raw)

of_raw_is : (q : Bytes) (es : List Entry) → filter (ties_with q) es ≡ of_raw q es
of_raw_is q es = λ i. filter (λ e. ties_is q e i) es

stable_batch : (old new : List Entry) → IsStable raw_cmp old new → batch_of new ≡ batch_of old
stable_batch old new stable =
    same_map (batch_of new) (batch_of old) (λ q.
    get-entries empty q new
    ∙ ap (latest (get empty q)) (sym (of_raw_is q new) ∙ stable (record { raw = q; slot = Del }) ∙ of_raw_is q old)
    ∙ sym (get-entries empty q old))

-- ---- keeping the last of neighbours leaves the map

insert_over : (b : Batch) (k : Bytes) (x y : Option Bytes) → insert (insert b k x) k y ≡ insert b k y
insert_over b k x y =
    same_map (insert (insert b k x) k y) (insert b k y) (λ q.
    get-insert (insert b k x) k y q ∙ ap (cond (same q k) (Some y)) (get-insert b k x q) ∙ is_under (same q k) q ∙ sym (get-insert b k y q))
  where
    is_under : (t : Bool) (q : Bytes) → cond t (Some y) (cond t (Some x) (get b q)) ≡ cond t (Some y) (get b q)
    is_under true q = refl
    is_under false q = refl

lasts_from_batch : (b : Batch) (e : Entry) (es : List Entry) → insert_all b (slot_entries (lasts_from e es)) ≡ insert_all b (slot_entries (e ∷ es))
lasts_from_batch b e [] = refl
lasts_from_batch b e (f ∷ es) =
    elim (same f.raw e.raw) as (λ t. same f.raw e.raw ≡ t → insert_all b (slot_entries (cond t (lasts_from f es) (e ∷ lasts_from f es))) ≡ insert_all b (slot_entries (e ∷ f ∷ es))) [
      | true ↦ λ t.
          let over : insert (insert b e.raw (slot_value e.slot)) f.raw (slot_value f.slot) ≡ insert b f.raw (slot_value f.slot) =
          subst (λ (k : Bytes). insert (insert b k (slot_value e.slot)) f.raw (slot_value f.slot) ≡ insert b f.raw (slot_value f.slot)) (same_is f.raw e.raw t) (insert_over b f.raw (slot_value e.slot) (slot_value f.slot)) in
          lasts_from_batch b f es ∙ ap (λ (c : Batch). insert_all c (slot_entries es)) (sym over)
      | false ↦ λ t. lasts_from_batch (insert b e.raw (slot_value e.slot)) f es
    ] refl

lasts_batch : (es : List Entry) → batch_of (lasts es) ≡ batch_of es
lasts_batch [] = refl
lasts_batch (e ∷ es) = lasts_from_batch empty e es

-- ---- of sorted entries they are in order

greater : (o : Ordering) → is_lt o ≡ false → is_eq o ≡ false → o ≡ Greater
greater Less e f = absurd (cc)
greater Equal e f = absurd (cc)
greater Greater e f = refl

-- of neighbours in order with two raw keys the later one is above
above : (e f : Entry) (es : List Entry) → IsSorted raw_cmp (e ∷ f ∷ es) → same f.raw e.raw ≡ false → byte_cmp e.raw f.raw ≡ Less
above e f es h apart = is_under f.raw e.raw (greater (byte_cmp f.raw e.raw) (h 0 e (omega arith) (omega arith)) apart)

behind : (e : Entry) (es : List Entry) → IsSorted raw_cmp (e ∷ es) → IsSorted raw_cmp es
behind e es h = λ k d low high.
    let one_on : suc k + 1 ≡ suc (k + 1) = omega arith in
    subst (λ (n : ℕ). is_lt (raw_cmp (get_or (e ∷ es) n d) (get_or es k d)) ≡ false) one_on (h (suc k) d (omega arith) (omega (arith, high)))

below_lasts : (q : Bytes) (e : Entry) (es : List Entry) → IsSorted raw_cmp (e ∷ es) → byte_cmp q e.raw ≡ Less → T (below_all byte_cmp q (slot_entries (lasts_from e es)))
below_lasts q e [] h low = both _ _ (lt _ low) tt
below_lasts q e (f ∷ es) h low =
    elim (same f.raw e.raw) as (λ t. same f.raw e.raw ≡ t → T (below_all byte_cmp q (slot_entries (cond t (lasts_from f es) (e ∷ lasts_from f es))))) [
      | true ↦ λ t. below_lasts q f es (behind e (f ∷ es) h) (subst (λ (k : Bytes). byte_cmp q k ≡ Less) (sym (same_is f.raw e.raw t)) low)
      | false ↦ λ t. both _ _ (lt _ low) (below_lasts q f es (behind e (f ∷ es) h) (nat_list_cmp_total.trans q e.raw f.raw low (above e f es h t)))
    ] refl

sorted_lasts_from : (e : Entry) (es : List Entry) → IsSorted raw_cmp (e ∷ es) → T (is_sorted byte_cmp (slot_entries (lasts_from e es)))
sorted_lasts_from e [] h = tt
sorted_lasts_from e (f ∷ es) h =
    elim (same f.raw e.raw) as (λ t. same f.raw e.raw ≡ t → T (is_sorted byte_cmp (slot_entries (cond t (lasts_from f es) (e ∷ lasts_from f es))))) [
      | true ↦ λ t. sorted_lasts_from f es (behind e (f ∷ es) h)
      | false ↦ λ t. both _ _ (below_lasts e.raw f es (behind e (f ∷ es) h) (above e f es h t)) (sorted_lasts_from f es (behind e (f ∷ es) h))
    ] refl

sorted_lasts : (es : List Entry) → IsSorted raw_cmp es → T (is_sorted byte_cmp (slot_entries (lasts es)))
sorted_lasts [] h = tt
sorted_lasts (e ∷ es) h = sorted_lasts_from e es h

-- ---- raw keys and values stay on their grammar

rows_inserted : (b : Batch) (es : List batches.BatchEntry) → are_rows b.entries ≡ true → are_rows es ≡ true → are_rows (insert_all b es).entries ≡ true
unfolding insert
rows_inserted b [] h more = h
rows_inserted b (e ∷ es) h more =
    rows_inserted (insert b e.0 e.1) es (all_put is_row e.0 e.1 b.entries h (both_first (is_row e) (are_rows es) more)) (both_second (is_row e) (are_rows es) more)

-- ---- both together

pub same_batch : (old sorted : List Entry) → IsStable raw_cmp old sorted → batch_of (lasts sorted) ≡ batch_of old
same_batch old sorted stable = lasts_batch sorted ∙ stable_batch old sorted stable

pub stands_in_order : (old sorted : List Entry) → IsTrue (are_rows (slot_entries old)) → IsStable raw_cmp old sorted → IsSorted raw_cmp sorted → AreSortedEntries (lasts sorted)
unfolding empty
stands_in_order old sorted rows stable up =
    let order = sorted_lasts sorted up in
    let its_rows : are_rows (batch_of old).entries ≡ true = rows_inserted empty (slot_entries old) refl rows in
    (order, ap are_rows (sym (entries_from_list (slot_entries (lasts sorted)) order)) ∙ ap (λ (b : Batch). are_rows b.entries) (same_batch old sorted stable) ∙ its_rows)

-- ---- what `dedup_by` leaves where it puts the later of two neighbours in the place of the earlier one

module _ {F : Type 0} (R : F → Entry → Entry → Bool → F → Entry → Entry → Type 0) (f : F)
    (calls : (e kept : Entry) (t : Bool) (g : F) (e' kept' : Entry) → R f e kept t g e' kept' → (t ≡ same e.raw kept.raw) × (g ≡ f) × (e' ≡ cond t kept e) × (kept' ≡ cond t e kept)) where
  deduped_from : (es : List Entry) (g : F) (k : Entry) (ys : List Entry) → g ≡ f → DedupsFrom R g k es ys → ys ≡ lasts_from k es
  deduped_from [] g k ys e t = t
  deduped_from (x ∷ es) g k ys e t =
      let one = calls x k t.0 t.1 t.2 t.3 (subst (λ (y : F). R y x k t.0 t.1 t.2 t.3) e t.4) in
      elim t.0 as (λ b. b ≡ same x.raw k.raw → t.2 ≡ cond b k x → t.3 ≡ cond b x k → MatchBool b (DedupsFrom R t.1 t.3 es ys) ((zs : List Entry) × DedupsFrom R t.1 t.2 es zs × (ys ≡ t.3 ∷ zs)) → ys ≡ lasts_from k (x ∷ es)) [
        | true ↦ λ is x_is k_is more.
            deduped_from es t.1 t.3 ys one.1 more ∙ ap (λ (y : Entry). lasts_from y es) k_is ∙ ap (λ b. cond b (lasts_from x es) (k ∷ lasts_from x es)) is
        | false ↦ λ is x_is k_is more.
            more.2 ∙ (λ i. k_is i ∷ (deduped_from es t.1 t.2 more.0 one.1 more.1 ∙ ap (λ (y : Entry). lasts_from y es) x_is) i) ∙ ap (λ b. cond b (lasts_from x es) (k ∷ lasts_from x es)) is
      ] one.0 one.2 one.3 t.5

  pub deduped : (es ys : List Entry) → IsDeduped R f es ys → ys ≡ lasts es
  deduped [] ys h = h.told
  deduped (e ∷ es) ys h = deduped_from es f e ys refl h.told
