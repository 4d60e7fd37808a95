-- Raw keys at and behind the place where a page begins, and rows that are listed there.
use Rattle.std.proofs.Common.{◌≡◌, ℕ, ◌<◌, List, [], ◌∷◌, refl, sym, ap, subst, ◌∙◌, Bool, true, false, cond, Option, Some, None, arith}
use Rattle.std.specs.Prelude.{nat_le, nat_eq, not, ◌&&◌, filter}
use Rattle.std.specs.Cmp.Lexicographic.{nat_list_cmp_total}
use Rattle.std.specs.List.{starts_with}
use Rattle.std.specs.declared.cmp.Ordering.{Ordering}
use Rattle.std.specs.declared.cmp.Ordering.TheVariants.{Less, Equal, Greater}
use Rattle.std.specs.Ordering.{nat_cmp, is_lt, ordering_then}
use Rattle.std.proofs.lemmas.Bool.Decides.{nat_tests}
use Rattle.kv_base.specs.Map.{Bytes, byte_cmp, exact, same, same_is}
use Rattle.kv_base.specs.TestLaws.{less_is}
use Rattle.kv_base.specs.declared.row.Row.{Row}
use Rattle.batch_codec.specs.EntryListLaws.{is_under}
use Rattle.row_model.specs.RowOrder.{is_below}
use Rattle.lives_model.specs.Page.{is_in_page}
use Rattle.view_read.specs.Walk.{greater, hides, listed}

-- ---- beginnings

no_more : (a b : Bool) → b ≡ false → (a && b) ≡ false
no_more true b e = e
no_more false b e = refl

starts_more : (r p : ℕ) (rs ps : Bytes) → starts_with nat_eq (r ∷ rs) (p ∷ ps) ≡ (nat_eq p r && starts_with nat_eq rs ps)
starts_more r p rs ps = refl

other_first : (r p : ℕ) (rs ps : Bytes) → nat_eq p r ≡ false → starts_with nat_eq (r ∷ rs) (p ∷ ps) ≡ false
other_first r p rs ps e = ap (λ b. b && starts_with nat_eq rs ps) e

-- what is below a beginning does not begin with it
under_prefix : (raw prefix : Bytes) → byte_cmp raw prefix ≡ Less → starts_with nat_eq raw prefix ≡ false
under_prefix [] [] e = absurd (cc)
under_prefix [] (p ∷ ps) e = refl
under_prefix (r ∷ rs) [] e = absurd (cc)
under_prefix (r ∷ rs) (p ∷ ps) e = by_order (under_prefix rs ps) (nat_cmp r p) refl e
  where
    by_order : (byte_cmp rs ps ≡ Less → starts_with nat_eq rs ps ≡ false) → (o : Ordering) → nat_cmp r p ≡ o → ordering_then o (byte_cmp rs ps) ≡ Less → starts_with nat_eq (r ∷ rs) (p ∷ ps) ≡ false
    by_order behind Less f g = other_first r p rs ps (grind (arith, nat_tests))
    by_order behind Equal f g = no_more (nat_eq p r) (starts_with nat_eq rs ps) (behind g)
    by_order behind Greater f g = absurd (cc)

-- what does not begin so and is not below, has nothing above it that does
pub past_prefix : (prefix raw other : Bytes) → starts_with nat_eq raw prefix ≡ false → (byte_cmp raw prefix ≡ Less → ⊥) → (byte_cmp raw other ≡ Greater → ⊥) → starts_with nat_eq other prefix ≡ false
past_prefix [] raw other e low high = let never : true ≡ false = e in absurd (cc)
past_prefix (p ∷ ps) [] other e low high = absurd (low refl)
past_prefix (p ∷ ps) (r ∷ rs) [] e low high = absurd (high refl)
past_prefix (p ∷ ps) (r ∷ rs) (o ∷ os) e low high = by_first (past_prefix ps rs os) (nat_cmp r p) refl low
  where
    Behind : Type 0
    Behind = starts_with nat_eq rs ps ≡ false → (byte_cmp rs ps ≡ Less → ⊥) → (byte_cmp rs os ≡ Greater → ⊥) → starts_with nat_eq os ps ≡ false

    above : p < r → (d : Ordering) → nat_cmp r o ≡ d → (ordering_then d (byte_cmp rs os) ≡ Greater → ⊥) → starts_with nat_eq (o ∷ os) (p ∷ ps) ≡ false
    above less Less f high = other_first o p os ps (grind (arith, nat_tests))
    above less Equal f high = other_first o p os ps (grind (arith, nat_tests))
    above less Greater f high = absurd (high refl)

    level_with : Behind → p ≡ r → (byte_cmp rs ps ≡ Less → ⊥) → (d : Ordering) → nat_cmp r o ≡ d → (ordering_then d (byte_cmp rs os) ≡ Greater → ⊥) → starts_with nat_eq (o ∷ os) (p ∷ ps) ≡ false
    level_with behind same low Less f high = other_first o p os ps (grind (arith, nat_tests))
    level_with behind same low Equal f high =
        let first : nat_eq p r ≡ true = grind (arith, nat_tests) in
        no_more (nat_eq p o) (starts_with nat_eq os ps) (behind (sym (ap (λ b. b && starts_with nat_eq rs ps) first) ∙ e) low high)
    level_with behind same low Greater f high = absurd (high refl)

    by_first : Behind → (d : Ordering) → nat_cmp r p ≡ d → (ordering_then d (byte_cmp rs ps) ≡ Less → ⊥) → starts_with nat_eq (o ∷ os) (p ∷ ps) ≡ false
    by_first behind Less f low = absurd (low refl)
    by_first behind Equal f low = level_with behind (grind (arith, nat_tests)) low (nat_cmp r o) refl high
    by_first behind Greater f low = above (grind (arith, nat_tests)) (nat_cmp r o) refl high

-- ---- where a page begins

-- what is below where a page begins is not in it
pub under_page : (from prefix raw value : Bytes) → is_lt (byte_cmp raw (greater from prefix)) ≡ true → is_in_page from prefix (raw, value) ≡ false
under_page from prefix raw value = by_test (is_lt (byte_cmp from prefix))
  where
    by_test : (b : Bool) → is_lt (byte_cmp raw (cond b prefix from)) ≡ true → is_in_page from prefix (raw, value) ≡ false
    by_test true e = ap (λ b. b && not (is_lt (byte_cmp raw from))) (under_prefix raw prefix (less_is (byte_cmp raw prefix) e))
    by_test false e = no_more (starts_with nat_eq raw prefix) (not (is_lt (byte_cmp raw from))) (ap not e)

-- what is not below is below neither
pub record IsNotUnder (from prefix raw : Bytes) : Type 0 where
  pub from_is : is_lt (byte_cmp raw from) ≡ false
  pub prefix_is : byte_cmp raw prefix ≡ Less → ⊥

pub not_less : (o : Ordering) → (o ≡ Less → ⊥) → is_lt o ≡ false
not_less Less e = absurd (e refl)
not_less Equal e = refl
not_less Greater e = refl

pub never_less : (o : Ordering) → is_lt o ≡ false → o ≡ Less → ⊥
never_less o e f = let never : true ≡ false = sym (ap is_lt f) ∙ e in absurd (cc)

pub not_under : (from prefix raw : Bytes) → is_lt (byte_cmp raw (greater from prefix)) ≡ false → IsNotUnder from prefix raw
not_under from prefix raw = by_test (is_lt (byte_cmp from prefix)) refl
  where
    turned : (o : Ordering) → byte_cmp prefix from ≡ o → is_lt (byte_cmp from prefix) ≡ false → byte_cmp raw prefix ≡ Less → byte_cmp raw from ≡ Less
    turned Less e test f = nat_list_cmp_total.trans raw prefix from f e
    turned Equal e test f = subst (λ (k : Bytes). byte_cmp raw k ≡ Less) (exact prefix from e) f
    turned Greater e test f = absurd (never_less (byte_cmp from prefix) test (is_under prefix from e))

    by_test : (b : Bool) → is_lt (byte_cmp from prefix) ≡ b → is_lt (byte_cmp raw (cond b prefix from)) ≡ false → IsNotUnder from prefix raw
    by_test true t e = record {
      from_is = not_less (byte_cmp raw from) (λ f. never_less (byte_cmp raw prefix) e (nat_list_cmp_total.trans raw from prefix f (less_is (byte_cmp from prefix) t)));
      prefix_is = never_less (byte_cmp raw prefix) e;
    }
    by_test false t e = record {
      from_is = e;
      prefix_is = λ f. never_less (byte_cmp raw from) e (turned (byte_cmp prefix from) refl t f);
    }

-- ---- a row that is listed, and one that is not in the page

pub filter-listed : (p : Bytes × Bytes → Bool) (raw : Bytes) (o : Option Bytes) (rest : List (Bytes × Bytes)) → ((value : Bytes) → p (raw, value) ≡ true) → filter p (listed raw o rest) ≡ listed raw o (filter p rest)
filter-listed p raw None rest is = refl
filter-listed p raw (Some value) rest is = ap (λ b. cond b ((raw, value) ∷ filter p rest) (filter p rest)) (is value)

pub filter-unlisted : (p : Bytes × Bytes → Bool) (raw : Bytes) (o : Option Bytes) (rest : List (Bytes × Bytes)) → ((value : Bytes) → p (raw, value) ≡ false) → filter p (listed raw o rest) ≡ filter p rest
filter-unlisted p raw None rest is = refl
filter-unlisted p raw (Some value) rest is = ap (λ b. cond b ((raw, value) ∷ filter p rest) (filter p rest)) (is value)

-- the row in front is below where the page begins
abbrev pub IsBelowStart : Bytes → Option Row → Type 0
IsBelowStart start None = Unit {0}
IsBelowStart start (Some front) = is_below start front ≡ true

pub not_hidden : (s : ℕ) (start : Bytes) (front : Option Row) (row : Row) → IsBelowStart start front → is_below start row ≡ false → hides s front row.raw ≡ false
not_hidden s start None row low is = refl
not_hidden s start (Some front) row low is = by_key (same row.raw front.raw) refl
  where
    by_key : (k : Bool) → same row.raw front.raw ≡ k → (k && nat_le front.seq s) ≡ false
    by_key true t =
        let never : true ≡ false = sym low ∙ ap (λ (k : Bytes). is_lt (byte_cmp k start)) (sym (same_is row.raw front.raw t)) ∙ is in
        absurd (cc)
    by_key false t = refl
