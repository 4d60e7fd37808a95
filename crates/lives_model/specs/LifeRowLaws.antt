-- The rows of a value are in the order of their subkeys, and each subkey has its row.
use Rattle.std.proofs.Common.{◌≡◌, ℕ, suc, ◌+◌, ◌-◌, ◌<◌, ◌^◌, List, [], ◌∷◌, ◌++◌, length, map, refl, sym, ap, subst, ◌∙◌, Bool, true, false, cond, append-nil, inl, inr, arith}
use Rattle.std.proofs.lemmas.Bool.{cases_order}
use Rattle.std.proofs.lemmas.Bool.Decides.{nat_tests}
use Rattle.std.proofs.lemmas.Int.{ints}
use Rattle.std.specs.Prelude.{◌⊎◌, ◌==◌, nat_le, Option, Some, None, IfSome, IsTrue, T, option_map, slice_get, ℤ}
use Rattle.std.specs.Cmp.{nat_cmp_is}
use Rattle.std.specs.Cmp.Lexicographic.{nat_list_cmp_total}
use Rattle.std.specs.declared.cmp.Ordering.{Ordering}
use Rattle.std.specs.declared.cmp.Ordering.TheVariants.{Less, Equal, Greater}
use Rattle.std.specs.Ordering.{is_lt, int_cmp, nat_cmp, ordering_then}
use Rattle.std.specs.FinMap.Entries.{find, put, is_sorted, below_all, by_order, is_sorted-put, find-put}
use Rattle.kv_base.specs.Map.{Bytes, byte_cmp, same, same_is, same_itself, get}
use Rattle.kv_base.specs.Number.{fits}
use Rattle.kv_base.specs.Fields.{u64, read_u64}
use Rattle.kv_base.specs.FieldLaws.{length-u64, u64_is_read, only_u64_is_read}
use Rattle.kv_base.specs.InversionLaws.{same_some, number_is}
use Rattle.kv_base.specs.RawKeys.{score_number}
use Rattle.kv_base.specs.RawKeyLaws.{score_number_low}
use Rattle.subkey_codec.specs.OrderLaws.{by_fronts, numbers_ascend, score_numbers_ascend}
use Rattle.redis_model.specs.Limits.{IsWholeScore}
use Rattle.redis_model.specs.Value.{Value, Str, Hash, ListOf, SetOf, ZSet}
use Rattle.redis_model.specs.SortedSets.{Scored, rank_cmp, in_place, ascending}
use Rattle.lives_model.specs.Rows.{Side, Elements, Scores}
use Rattle.lives_model.specs.Means.{HasWholeScores, item_row, score_text, is_scored, member_row, row_of}
use Rattle.lives_model.specs.PassingLaws.{find_at}
use Rattle.kv_base.specs.TestLaws.{first, second, both, less, is_less}
use Rattle.lives_model.specs.LifeRows.{RowAt, by_index, rank_key, value_rows, HasIndices}

-- a number below another one
less_than : (a b : ℕ) → a < b → nat_cmp a b ≡ Less
less_than a b h = sym (nat_cmp_is a b Less h)

-- ---- entries whose values are changed

module _ {X : Type 0} (f : X → Bytes) where
  -- each is found where it was
  find-values : (q : Bytes) (es : List (Bytes × X)) → find byte_cmp q (map (λ e. (e.0, f e.1)) es) ≡ option_map f (find byte_cmp q es)
  find-values q [] = refl
  find-values q (e ∷ es) = by_test (same q e.0) (find-values q es)
    where
      by_test : (b : Bool) → find byte_cmp q (map (λ e. (e.0, f e.1)) es) ≡ option_map f (find byte_cmp q es)
          → cond b (Some (f e.1)) (find byte_cmp q (map (λ e. (e.0, f e.1)) es)) ≡ option_map f (cond b (Some e.1) (find byte_cmp q es))
      by_test true rest = refl
      by_test false rest = rest

  below-values : (q : Bytes) (es : List (Bytes × X)) → T (below_all byte_cmp q es) → T (below_all byte_cmp q (map (λ e. (e.0, f e.1)) es))
  below-values q [] h = tt
  below-values q (e ∷ es) h = both (is_lt (byte_cmp q e.0)) _ (first (is_lt (byte_cmp q e.0)) (below_all byte_cmp q es) h) (below-values q es (second (is_lt (byte_cmp q e.0)) (below_all byte_cmp q es) h))

  -- and they are in order as they were
  sorted-values : (es : List (Bytes × X)) → T (is_sorted byte_cmp es) → T (is_sorted byte_cmp (map (λ e. (e.0, f e.1)) es))
  sorted-values [] h = tt
  sorted-values (e ∷ es) h = both (below_all byte_cmp e.0 _) _ (below-values e.0 es (first (below_all byte_cmp e.0 es) (is_sorted byte_cmp es) h)) (sorted-values es (second (below_all byte_cmp e.0 es) (is_sorted byte_cmp es) h))

-- ---- items by index

-- an index stands below those behind it
below_index : (a head : ℕ) (l : List Bytes) → a < head → head + length l < 2 ^ 64 → T (below_all byte_cmp (u64 a) (by_index head l))
below_index a head [] low fit = tt
below_index a head (v ∷ l) low fit =
    both (is_lt (byte_cmp (u64 a) (u64 head))) _ (is_less _ (numbers_ascend a head (omega arith) (omega arith) ∙ less_than a head low)) (below_index a (head + 1) l (omega arith) (omega arith))

-- so items are in the order of their indices
sorted_index : (head : ℕ) (l : List Bytes) → head + length l < 2 ^ 64 → T (is_sorted byte_cmp (by_index head l))
sorted_index head [] fit = tt
sorted_index head (v ∷ l) fit = both (below_all byte_cmp (u64 head) (by_index (head + 1) l)) _ (below_index head (head + 1) l (omega arith) (omega arith)) (sorted_index (head + 1) l (omega arith))

-- bytes that are the first index are read as it
read_head : (head : ℕ) (q : Bytes) → head < 2 ^ 64 → same q (u64 head) ≡ true → read_u64 q ≡ Some (head, [])
read_head head q fit is = ap read_u64 (same_is q (u64 head) is ∙ sym (append-nil (u64 head))) ∙ u64_is_read head fit []

-- the item of an index that is read
module _ (head : ℕ) (v : Bytes) (l : List Bytes) (q : Bytes) (fit : head + length (v ∷ l) < 2 ^ 64) (rest : find byte_cmp q (by_index (head + 1) l) ≡ item_row l (head + 1) (read_u64 q)) where
  -- the first one
  first_found : (index : ℕ) → read_u64 q ≡ Some (index, []) → index ≡ head → find byte_cmp q (by_index head (v ∷ l)) ≡ item_row (v ∷ l) head (Some (index, []))
  first_found index read is =
      let spelled : q ≡ u64 head = (only_u64_is_read q index [] read).0 ∙ append-nil (u64 index) ∙ ap u64 is in
      let here : same q (u64 head) ≡ true = ap (λ (x : Bytes). same x (u64 head)) spelled ∙ same_itself (u64 head) in
      let at : nat_le head index ≡ true = grind (arith, nat_tests) in
      let place : index - head ≡ 0 = omega arith in
      ap (λ b. cond b (Some v) (find byte_cmp q (by_index (head + 1) l))) here
      ∙ sym (ap (λ b. cond b (slice_get (v ∷ l) (index - head)) None) at ∙ ap (slice_get (v ∷ l)) place)

  -- any other
  other_found : (o : Option (ℕ × Bytes)) → read_u64 q ≡ o → (o ≡ Some (head, []) → ⊥) → item_row l (head + 1) o ≡ item_row (v ∷ l) head o → find byte_cmp q (by_index head (v ∷ l)) ≡ item_row (v ∷ l) head o
  other_found o read other same_row = by_test (same q (u64 head)) refl
    where
      by_test : (b : Bool) → same q (u64 head) ≡ b → cond b (Some v) (find byte_cmp q (by_index (head + 1) l)) ≡ item_row (v ∷ l) head o
      by_test true is = absurd (other (sym read ∙ read_head head q (omega arith) is))
      by_test false is = rest ∙ ap (item_row l (head + 1)) read ∙ same_row

  -- behind the first one stand the others
  behind_first : (index : ℕ) → (index < head) ⊎ (head < index) → item_row l (head + 1) (Some (index, [])) ≡ item_row (v ∷ l) head (Some (index, []))
  behind_first index (inl low) =
      let no : nat_le (head + 1) index ≡ false = grind (arith, nat_tests) in
      let never : nat_le head index ≡ false = grind (arith, nat_tests) in
      ap (λ b. cond b (slice_get l (index - (head + 1))) None) no ∙ sym (ap (λ b. cond b (slice_get (v ∷ l) (index - head)) None) never)
  behind_first index (inr high) =
      let yes_too : nat_le (head + 1) index ≡ true = grind (arith, nat_tests) in
      let there : nat_le head index ≡ true = grind (arith, nat_tests) in
      let place : index - head ≡ suc (index - (head + 1)) = omega arith in
      ap (λ b. cond b (slice_get l (index - (head + 1))) None) yes_too
      ∙ sym (ap (λ b. cond b (slice_get (v ∷ l) (index - head)) None) there ∙ ap (slice_get (v ∷ l)) place)

  by_index_read : (index : ℕ) → read_u64 q ≡ Some (index, []) → (index ≡ head) ⊎ ((index < head) ⊎ (head < index)) → find byte_cmp q (by_index head (v ∷ l)) ≡ item_row (v ∷ l) head (Some (index, []))
  by_index_read index read (inl is) = first_found index read is
  by_index_read index read (inr apart) =
      other_found (Some (index, [])) read (λ e. let is : index ≡ head = ap (λ (p : ℕ × Bytes). p.0) (same_some (index, []) (head, []) e) in differ is apart) (behind_first index apart)
    where
      differ : index ≡ head → (index < head) ⊎ (head < index) → ⊥
      differ is (inl low) = omega arith
      differ is (inr high) = omega arith

  -- or none
  one_found : (o : Option (ℕ × Bytes)) → read_u64 q ≡ o → find byte_cmp q (by_index head (v ∷ l)) ≡ item_row (v ∷ l) head o
  one_found None read = other_found None read (λ e. let no : None ≡ Some (head, []) = e in cc) refl
  one_found (Some (index, [])) read = by_index_read index read (cases_order index head)
  one_found (Some (index, b ∷ bs)) read =
      other_found (Some (index, b ∷ bs)) read (λ e. let no : b ∷ bs ≡ [] = ap (λ (p : ℕ × Bytes). p.1) (same_some (index, b ∷ bs) (head, []) e) in cc) refl

-- each item is found at its index
find_index : (head : ℕ) (l : List Bytes) (q : Bytes) → head + length l < 2 ^ 64 → find byte_cmp q (by_index head l) ≡ item_row l head (read_u64 q)
find_index head [] q fit = sym (nothing_at (read_u64 q))
  where
    either : (b : Bool) (n : ℕ) → cond b (slice_get {X = Bytes} [] n) None ≡ None
    either true n = refl
    either false n = refl

    nothing_at : (o : Option (ℕ × Bytes)) → item_row [] head o ≡ None
    nothing_at None = refl
    nothing_at (Some (index, [])) = either (nat_le head index) (index - head)
    nothing_at (Some (index, b ∷ bs)) = refl
find_index head (v ∷ l) q fit = one_found head v l q fit (find_index (head + 1) l q (omega arith)) (read_u64 q) refl

-- ---- members by rank

-- a whole score fits 64 bits
pub whole_fits : (s : ℤ) → IsWholeScore s → IsTrue (fits s)
whole_fits s h = grind (arith, nat_tests, ints)

-- the order of what members stand under is that of their ranks
pub rank_keys : (a b : Scored) → IsTrue (fits a.1) → IsTrue (fits b.1) → byte_cmp (rank_key a) (rank_key b) ≡ rank_cmp a b
rank_keys a b h g =
    by_fronts (u64 (score_number a.1)) (u64 (score_number b.1)) a.0 b.0 (length-u64 (score_number a.1) ∙ sym (length-u64 (score_number b.1)))
    ∙ ap (λ o. ordering_then o (byte_cmp a.0 b.0))
    (numbers_ascend (score_number a.1) (score_number b.1) (score_number_low a.1 h) (score_number_low b.1 g) ∙ score_numbers_ascend a.1 b.1 h g)

-- the scores of all fit 64 bits
abbrev pub ScoresFit : List Scored → Type 0
ScoresFit [] = Unit {0}
ScoresFit (e ∷ es) = IsTrue (fits e.1) × ScoresFit es

-- those of a sorted set do
pub all_fit : (es : List Scored) → T (is_sorted byte_cmp es) → ((x : Bytes) → IfSome (find byte_cmp x es) IsWholeScore) → ScoresFit es
all_fit [] h whole = tt
all_fit (e ∷ es) h whole = (
  whole_fits e.1 (subst (λ (b : Bool). IfSome (cond b (Some e.1) (find byte_cmp e.0 es)) IsWholeScore) (same_itself e.0) (whole e.0)),
  all_fit es (second (below_all byte_cmp e.0 es) (is_sorted byte_cmp es) h) (λ x. by_test x (same x e.0) refl (whole x)),
)
  where
    by_test : (x : Bytes) (b : Bool) → same x e.0 ≡ b → IfSome (cond b (Some e.1) (find byte_cmp x es)) IsWholeScore → IfSome (find byte_cmp x es) IsWholeScore
    by_test x true is h' = subst (λ (o : Option ℤ). IfSome o IsWholeScore) (sym (ap (λ (k : Bytes). find byte_cmp k es) (same_is x e.0 is) ∙ find_at e.0 es (first (below_all byte_cmp e.0 es) (is_sorted byte_cmp es) h))) tt
    by_test x false is h' = h'

-- members that are put in place one by one, as rows
abbrev rank_rows : List Scored → List RowAt
rank_rows es = map (λ e. (rank_key e, [])) es

abbrev put_all : List Scored → List RowAt
put_all [] = []
put_all (e ∷ es) = put byte_cmp (rank_key e) [] (put_all es)

-- a member below all of a list is below those in its order too
below_place : (q : Bytes) (e : Scored) (es : List Scored) → T (is_lt (byte_cmp q e.0)) → T (below_all byte_cmp q es) → T (below_all byte_cmp q (in_place e es))
below_place q e [] lt h = both (is_lt (byte_cmp q e.0)) true lt tt
below_place q e (f ∷ fs) lt h = by_test (is_lt (rank_cmp e f)) (below_place q e fs lt (second (is_lt (byte_cmp q f.0)) (below_all byte_cmp q fs) h))
  where
    by_test : (b : Bool) → T (below_all byte_cmp q (in_place e fs)) → T (below_all byte_cmp q (cond b (e ∷ f ∷ fs) (f ∷ in_place e fs)))
    by_test true rest = both (is_lt (byte_cmp q e.0)) _ lt h
    by_test false rest = both (is_lt (byte_cmp q f.0)) _ (first (is_lt (byte_cmp q f.0)) (below_all byte_cmp q fs) h) rest

below_order : (q : Bytes) (es : List Scored) → T (below_all byte_cmp q es) → T (below_all byte_cmp q (ascending es))
below_order q [] h = tt
below_order q (e ∷ es) h = below_place q e (ascending es) (first (is_lt (byte_cmp q e.0)) (below_all byte_cmp q es) h) (below_order q es (second (is_lt (byte_cmp q e.0)) (below_all byte_cmp q es) h))

-- and their scores fit
fit_place : (e : Scored) (es : List Scored) → IsTrue (fits e.1) → ScoresFit es → ScoresFit (in_place e es)
fit_place e [] h all = (h, tt)
fit_place e (f ∷ fs) h all = by_test (is_lt (rank_cmp e f)) (fit_place e fs h all.1)
  where
    by_test : (b : Bool) → ScoresFit (in_place e fs) → ScoresFit (cond b (e ∷ f ∷ fs) (f ∷ in_place e fs))
    by_test true rest = (h, all)
    by_test false rest = (all.0, rest)

pub fit_order : (es : List Scored) → ScoresFit es → ScoresFit (ascending es)
fit_order [] all = tt
fit_order (e ∷ es) all = fit_place e (ascending es) all.0 (fit_order es all.1)

-- different members tie in no rank
no_tie : (o p : Ordering) → p ≡ Less → ordering_then o p ≡ Equal → ⊥
no_tie Less p e f = let no : Less ≡ Equal = f in cc
no_tie Equal p e f = let no : Less ≡ Equal = sym e ∙ f in cc
no_tie Greater p e f = let no : Greater ≡ Equal = f in cc

-- a member in its place stands where its row is put
place_is_put : (e : Scored) (es : List Scored) → IsTrue (fits e.1) → ScoresFit es → T (below_all byte_cmp e.0 es) → rank_rows (in_place e es) ≡ put byte_cmp (rank_key e) [] (rank_rows es)
place_is_put e [] h all below = refl
place_is_put e (f ∷ fs) h all below =
    let rest = place_is_put e fs h all.1 (second (is_lt (byte_cmp e.0 f.0)) (below_all byte_cmp e.0 fs) below) in
    by_rank (rank_cmp e f) refl rest
    ∙ sym (ap (λ o. by_order o ((rank_key e, []) ∷ rank_rows (f ∷ fs)) ((rank_key f, []) ∷ rank_rows fs) ((rank_key f, []) ∷ put byte_cmp (rank_key e) [] (rank_rows fs))) (rank_keys e f h all.0))
  where
    by_rank : (o : Ordering) → rank_cmp e f ≡ o → rank_rows (in_place e fs) ≡ put byte_cmp (rank_key e) [] (rank_rows fs)
        → rank_rows (cond (is_lt o) (e ∷ f ∷ fs) (f ∷ in_place e fs)) ≡ by_order o ((rank_key e, []) ∷ rank_rows (f ∷ fs)) ((rank_key f, []) ∷ rank_rows fs) ((rank_key f, []) ∷ put byte_cmp (rank_key e) [] (rank_rows fs))
    by_rank Less is rest = refl
    by_rank Equal is rest = absurd (no_tie (int_cmp e.1 f.1) (byte_cmp e.0 f.0) (less (byte_cmp e.0 f.0) (first (is_lt (byte_cmp e.0 f.0)) (below_all byte_cmp e.0 fs) below)) is)
    by_rank Greater is rest = ap (λ rows. (rank_key f, []) ∷ rows) rest

-- so the members by rank are their rows, put one by one
order_is_put : (es : List Scored) → ScoresFit es → T (is_sorted byte_cmp es) → rank_rows (ascending es) ≡ put_all es
order_is_put [] all h = refl
order_is_put (e ∷ es) all h =
    place_is_put e (ascending es) all.0 (fit_order es all.1) (below_order e.0 es (first (below_all byte_cmp e.0 es) (is_sorted byte_cmp es) h))
    ∙ ap (put byte_cmp (rank_key e) []) (order_is_put es all.1 (second (below_all byte_cmp e.0 es) (is_sorted byte_cmp es) h))

sorted_put : (es : List Scored) → T (is_sorted byte_cmp (put_all es))
sorted_put [] = tt
sorted_put (e ∷ es) = is_sorted-put byte_cmp nat_list_cmp_total (rank_key e) [] (put_all es) (sorted_put es)

-- ---- a member by its score

-- bytes that are what a member stands under are read as its score and itself
pub read_rank : (e : Scored) (q : Bytes) → IsTrue (fits e.1) → same q (rank_key e) ≡ true → read_u64 q ≡ Some (score_number e.1, e.0)
read_rank e q h is = ap read_u64 (same_is q (rank_key e) is) ∙ u64_is_read (score_number e.1) (score_number_low e.1 h) e.0

-- the row of a member, by its score among these
abbrev scored_row : List Scored → Option (ℕ × Bytes) → Option Bytes
scored_row es None = None
scored_row es (Some (number, member)) = cond (is_scored (find byte_cmp member es) number) (Some []) None

-- with one member more
module _ (e : Scored) (es : List Scored) (q : Bytes) (fit : IsTrue (fits e.1)) (below : T (below_all byte_cmp e.0 es)) (rest : find byte_cmp q (put_all es) ≡ scored_row es (read_u64 q)) where
  -- it is not the one
  other_rank : (o : Option (ℕ × Bytes)) → read_u64 q ≡ o → (o ≡ Some (score_number e.1, e.0) → ⊥) → scored_row es o ≡ scored_row (e ∷ es) o → cond (same q (rank_key e)) (Some []) (find byte_cmp q (put_all es)) ≡ scored_row (e ∷ es) o
  other_rank o read other same_row = by_test (same q (rank_key e)) refl
    where
      by_test : (b : Bool) → same q (rank_key e) ≡ b → cond b (Some []) (find byte_cmp q (put_all es)) ≡ scored_row (e ∷ es) o
      by_test true is = absurd (other (sym read ∙ read_rank e q fit is))
      by_test false is = rest ∙ ap (scored_row es) read ∙ same_row

  module _ (number : ℕ) (member : Bytes) (read : read_u64 q ≡ Some (number, member)) where
    -- it is, and this is its score
    this_rank : (b : Bool) → (score_number e.1 == number) ≡ b → same member e.0 ≡ true → cond (same q (rank_key e)) (Some []) (find byte_cmp q (put_all es)) ≡ cond b (Some []) None
    this_rank true is here =
        let spelled : q ≡ rank_key e = (only_u64_is_read q number member read).0 ∙ (λ i. u64 (sym (number_is (score_number e.1) number is) i) ++ same_is member e.0 here i) in
        ap (λ b. cond b (Some []) (find byte_cmp q (put_all es))) (ap (λ (x : Bytes). same x (rank_key e)) spelled ∙ same_itself (rank_key e))
    this_rank false is here =
        let gone : find byte_cmp member es ≡ None = ap (λ (x : Bytes). find byte_cmp x es) (same_is member e.0 here) ∙ find_at e.0 es below in
        by_test (same q (rank_key e)) refl (rest ∙ ap (scored_row es) read ∙ ap (λ o. cond (is_scored o number) (Some []) None) gone)
      where
        by_test : (b : Bool) → same q (rank_key e) ≡ b → find byte_cmp q (put_all es) ≡ None → cond b (Some []) (find byte_cmp q (put_all es)) ≡ None
        by_test true t none =
            let both_read = same_some (number, member) (score_number e.1, e.0) (sym read ∙ read_rank e q fit t) in
            let number_too : number ≡ score_number e.1 = ap (λ (p : ℕ × Bytes). p.0) both_read in
            let yes_too : (score_number e.1 == number) ≡ true = grind (arith, nat_tests) in
            absurd (cc)
        by_test false t none = none

    by_member : (b : Bool) → same member e.0 ≡ b → cond (same q (rank_key e)) (Some []) (find byte_cmp q (put_all es)) ≡ cond (is_scored (cond b (Some e.1) (find byte_cmp member es)) number) (Some []) None
    by_member true here = this_rank (score_number e.1 == number) refl here
    by_member false other =
        other_rank (Some (number, member)) read
        (λ is. let member_too : member ≡ e.0 = ap (λ (p : ℕ × Bytes). p.1) (same_some (number, member) (score_number e.1, e.0) is) in
        let here : same member e.0 ≡ true = ap (λ (x : Bytes). same x e.0) member_too ∙ same_itself e.0 in cc)
        (ap (λ b. cond (is_scored (cond b (Some e.1) (find byte_cmp member es)) number) (Some []) None) (sym other))
        ∙ ap (λ b. cond (is_scored (cond b (Some e.1) (find byte_cmp member es)) number) (Some []) None) other

  one_rank : (o : Option (ℕ × Bytes)) → read_u64 q ≡ o → cond (same q (rank_key e)) (Some []) (find byte_cmp q (put_all es)) ≡ scored_row (e ∷ es) o
  one_rank None read = other_rank None read (λ is. let no : None ≡ Some (score_number e.1, e.0) = is in cc) refl
  one_rank (Some (number, member)) read = by_member number member read (same member e.0) refl

-- each member is found under its score
find_rank : (es : List Scored) (q : Bytes) → ScoresFit es → T (is_sorted byte_cmp es) → find byte_cmp q (put_all es) ≡ scored_row es (read_u64 q)
find_rank [] q all h = sym (nothing_at (read_u64 q))
  where
    nothing_at : (o : Option (ℕ × Bytes)) → scored_row [] o ≡ None
    nothing_at None = refl
    nothing_at (Some (number, member)) = refl
find_rank (e ∷ es) q all h =
    find-put byte_cmp nat_list_cmp_total q (rank_key e) [] (put_all es)
    ∙ one_rank e es q all.0 (first (below_all byte_cmp e.0 es) (is_sorted byte_cmp es) h) (find_rank es q all.1 (second (below_all byte_cmp e.0 es) (is_sorted byte_cmp es) h)) (read_u64 q) refl

-- ---- any value

-- the rows of a value are in the order of their subkeys
pub value_rows_sorted : (v : Value) (head : ℕ) (side : Side) → HasWholeScores v → HasIndices v head → T (is_sorted byte_cmp (value_rows v head side))
unfolding get
value_rows_sorted (Str v) head side whole fit = tt
value_rows_sorted (Hash h) head Elements whole fit = h.sorted
value_rows_sorted (Hash h) head Scores whole fit = tt
value_rows_sorted (ListOf l) head Elements whole fit = sorted_index head l fit
value_rows_sorted (ListOf l) head Scores whole fit = tt
value_rows_sorted (SetOf s) head Elements whole fit = sorted-values (λ _. []) s.entries s.sorted
value_rows_sorted (SetOf s) head Scores whole fit = tt
value_rows_sorted (ZSet z) head Elements whole fit = sorted-values score_text z.entries z.sorted
value_rows_sorted (ZSet z) head Scores whole fit = subst (λ (rows : List RowAt). T (is_sorted byte_cmp rows)) (sym (order_is_put z.entries (all_fit z.entries z.sorted whole) z.sorted)) (sorted_put z.entries)

-- and under each subkey stands the row that the value has there
pub value_rows_found : (v : Value) (head : ℕ) (side : Side) (subkey : Bytes) → HasWholeScores v → HasIndices v head → find byte_cmp subkey (value_rows v head side) ≡ row_of v head side subkey
unfolding get
value_rows_found (Str v) head side subkey whole fit = refl
value_rows_found (Hash h) head Elements subkey whole fit = refl
value_rows_found (Hash h) head Scores subkey whole fit = refl
value_rows_found (ListOf l) head Elements subkey whole fit = find_index head l subkey fit
value_rows_found (ListOf l) head Scores subkey whole fit = refl
value_rows_found (SetOf s) head Elements subkey whole fit = find-values (λ _. []) subkey s.entries
value_rows_found (SetOf s) head Scores subkey whole fit = refl
value_rows_found (ZSet z) head Elements subkey whole fit = find-values score_text subkey z.entries
value_rows_found (ZSet z) head Scores subkey whole fit =
    ap (find byte_cmp subkey) (order_is_put z.entries (all_fit z.entries z.sorted whole) z.sorted)
    ∙ find_rank z.entries subkey (all_fit z.entries z.sorted whole) z.sorted ∙ as_member (read_u64 subkey)
  where
    as_member : (o : Option (ℕ × Bytes)) → scored_row z.entries o ≡ member_row z o
    as_member None = refl
    as_member (Some (number, member)) = refl
