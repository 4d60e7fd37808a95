-- The tables of one level, and those of them that overlap some others.
use Rattle.std.proofs.Common.{◌≡◌, ℕ, zero, suc, ◌+◌, ◌-◌, ◌<◌, ◌≤◌, Bool, true, false, cond, not, List, [], ◌∷◌, length, take, drop, get_or, refl, sym, ◌∙◌, ap, subst, arith, length-drop}
use Rattle.std.specs.Prelude.{◌&&◌, ◌||◌, ◌==◌, nat_lt, nat_le, if◌then◌else◌, filter}
use Rattle.std.specs.List.{list_all, list_any, prefix_len, slice_range}
use Rattle.std.specs.declared.cmp.Ordering.{Ordering}
use Rattle.std.specs.declared.cmp.Ordering.TheVariants.{Less, Equal, Greater}
use Rattle.std.specs.Ordering.{is_lt, is_le}
use Rattle.std.specs.Cmp.Lexicographic.{nat_list_cmp_total}
use Rattle.std.proofs.lemmas.List.{take_all, drop_more}
use Rattle.std.specs.List.Sorted.{IsPartitionPoint, IsPartitionedBy}
use Rattle.std.proofs.lemmas.List.Sums.{prefix_len-le-length, prefix_len_is}
use Rattle.std.proofs.lemmas.Bool.Decides.{nat_tests}
use Rattle.kv_base.specs.Map.{Bytes, byte_cmp, exact}
use Rattle.kv_base.specs.RawKeys.{is_raw_text}
use Rattle.kv_base.specs.InversionLaws.{both_first, both_second, number_is}
use Rattle.level_set.specs.declared.home.Home.{Home}
use Rattle.level_set.specs.Tables.{same_id, is_table, stands_before, goes_before, in_order, are_tables, at_level, count_at, bytes_of}
use Rattle.kv_base.specs.declared.name.TableId.{TableId}
use Rattle.level_set.specs.declared.choice.Choice.{Choice}
use Rattle.level_set.specs.Choices.{due_bytes, is_due, is_less_than, is_range, rise, begin_before_end, end_behind_beginning, is_overlapped, is_upto, ArePlacesWithin, IsChoice, IsWholeChoice, IsOldestAt, IsTaken, IsPicked}
use Rattle.level_set.specs.EditLaws.{both_true}

-- ---- the order of bytes

pub is_less : (o : Ordering) → is_lt o ≡ true → o ≡ Less
is_less Less is = refl
is_less Equal is = absurd (cc)
is_less Greater is = absurd (cc)

pub le_lt : (a b c : Bytes) → is_le (byte_cmp a b) ≡ true → byte_cmp b c ≡ Less → byte_cmp a c ≡ Less
le_lt a b c le lt = by_order (byte_cmp a b) refl le
  where
    by_order : (o : Ordering) → byte_cmp a b ≡ o → is_le o ≡ true → byte_cmp a c ≡ Less
    by_order Less is le = nat_list_cmp_total.trans a b c is lt
    by_order Equal is le = ap (λ (x : Bytes). byte_cmp x c) (exact a b is) ∙ lt
    by_order Greater is le = absurd (cc)

pub lt_le : (a b c : Bytes) → byte_cmp a b ≡ Less → is_le (byte_cmp b c) ≡ true → byte_cmp a c ≡ Less
lt_le a b c lt le = by_order (byte_cmp b c) refl le
  where
    by_order : (o : Ordering) → byte_cmp b c ≡ o → is_le o ≡ true → byte_cmp a c ≡ Less
    by_order Less is le = nat_list_cmp_total.trans a b c lt is
    by_order Equal is le = ap (λ (x : Bytes). byte_cmp a x) (sym (exact b c is)) ∙ lt
    by_order Greater is le = absurd (cc)

le_of_less : (a b : Bytes) → byte_cmp a b ≡ Less → is_le (byte_cmp a b) ≡ true
le_of_less a b is = ap is_le is

-- ---- one level below level 0

pub record IsRising (home : Home) (behind : List Home) : Type 0 where
  pub range : is_range home ≡ true
  pub less : list_all (is_less_than home) behind ≡ true
  pub rest : rise behind ≡ true

rising : (home : Home) (behind : List Home) → rise (home ∷ behind) ≡ true → IsRising home behind
unfolding rise
rising home behind is =
    let front = both_first (is_range home && list_all (is_less_than home) behind) (rise behind) is in
    record {
      range = both_first (is_range home) (list_all (is_less_than home) behind) front;
      less = both_second (is_range home) (list_all (is_less_than home) behind) front;
      rest = both_second (is_range home && list_all (is_less_than home) behind) (rise behind) is;
    }

to_rise : (home : Home) (behind : List Home) → IsRising home behind → rise (home ∷ behind) ≡ true
unfolding rise
to_rise home behind is = both_true (is_range home && list_all (is_less_than home) behind) (rise behind) (both_true (is_range home) (list_all (is_less_than home) behind) is.range is.less) is.rest

-- those of one level that a table goes before are greater
less_at : (level : ℕ) (home : Home) (tables : List Home) → (home.level == level) ≡ true → 1 ≤ level → list_all (goes_before home) tables ≡ true → list_all (is_less_than home) (at_level level tables) ≡ true
less_at level home [] own deep goes = refl
less_at level home (t ∷ tables) own deep goes =
    by_level (t.level == level) refl (less_at level home tables own deep (both_second (goes_before home t) (list_all (goes_before home) tables) goes))
  where
    stands : stands_before home t ≡ true
    stands = both_second (not (same_id home.desc.id t.desc.id)) (stands_before home t) (both_first (goes_before home t) (list_all (goes_before home) tables) goes)

    in_front : (t.level == level) ≡ true → is_less_than home t ≡ true
    in_front same =
        let mine = number_is home.level level own in
        let its = number_is t.level level same in
        let alike : (home.level == t.level) ≡ true = equal home.level t.level (mine ∙ sym its) in
        let deeper : (home.level == 0) ≡ false = above home.level (omega (arith, deep, mine)) in
        sym (ap (λ b. cond b (cond (home.level == 0) (nat_lt t.desc.id.run home.desc.id.run) (is_less_than home t)) (nat_lt home.level t.level)) alike
        ∙ ap (λ b. cond b (nat_lt t.desc.id.run home.desc.id.run) (is_less_than home t)) deeper) ∙ stands
      where
        equal : (m n : ℕ) → m ≡ n → (m == n) ≡ true
        equal m n same = grind (arith, nat_tests)

        above : (n : ℕ) → 1 ≤ n → (n == 0) ≡ false
        above n le = grind (arith, nat_tests)

    by_level : (b : Bool) → (t.level == level) ≡ b → list_all (is_less_than home) (at_level level tables) ≡ true → list_all (is_less_than home) (cond b (t ∷ at_level level tables) (at_level level tables)) ≡ true
    by_level true same rest = both_true (is_less_than home t) (list_all (is_less_than home) (at_level level tables)) (in_front same) rest
    by_level false same rest = rest

order_rises : (level : ℕ) (tables : List Home) → 1 ≤ level → list_all is_table tables ≡ true → in_order tables ≡ true → rise (at_level level tables) ≡ true
unfolding in_order rise
order_rises level [] deep each order = refl
order_rises level (t ∷ tables) deep each order =
    by_level (t.level == level) refl (order_rises level tables deep (both_second (is_table t) (list_all is_table tables) each) (both_second (list_all (goes_before t) tables) (in_order tables) order))
  where
    range : is_range t ≡ true
    range = both_second (nat_le t.level 4 && is_raw_text t.desc.least && is_raw_text t.desc.greatest) (is_range t) (both_first (is_table t) (list_all is_table tables) each)

    by_level : (b : Bool) → (t.level == level) ≡ b → rise (at_level level tables) ≡ true → rise (cond b (t ∷ at_level level tables) (at_level level tables)) ≡ true
    by_level true same rest = to_rise t (at_level level tables) (record {
      range = range;
      less = less_at level t tables same deep (both_first (list_all (goes_before t) tables) (in_order tables) order);
      rest = rest;
    })
    by_level false same rest = rest

pub level_rises : (level : ℕ) (tables : List Home) → 1 ≤ level → are_tables tables ≡ true → rise (at_level level tables) ≡ true
unfolding are_tables
level_rises level tables deep are = order_rises level tables deep (both_first (list_all is_table tables) (in_order tables) are) (both_second (list_all is_table tables) (in_order tables) are)

-- what is behind rises too
pub rise_behind : (n : ℕ) (xs : List Home) → rise xs ≡ true → rise (drop n xs) ≡ true
rise_behind zero xs up_is = up_is
rise_behind (suc n) [] up_is = up_is
rise_behind (suc n) (x ∷ xs) up_is = rise_behind n xs (rising x xs up_is).rest

-- two tables of a level, by their places
pub record IsApart (t u : Home) : Type 0 where
  pub less : is_less_than t u ≡ true
  pub first : is_range t ≡ true
  pub second : is_range u ≡ true

pub all_at : (p : Home → Bool) (xs : List Home) (i : ℕ) (d : Home) → list_all p xs ≡ true → i < length xs → p (get_or xs i d) ≡ true
all_at p [] i d all low = let never : ⊥ = omega arith in absurd never
all_at p (x ∷ xs) zero d all low = both_first (p x) (list_all p xs) all
all_at p (x ∷ xs) (suc i) d all low = all_at p xs i d (both_second (p x) (list_all p xs) all) (omega arith)

range_at : (xs : List Home) (i : ℕ) (d : Home) → rise xs ≡ true → i < length xs → is_range (get_or xs i d) ≡ true
range_at [] i d up_is low = let never : ⊥ = omega arith in absurd never
range_at (x ∷ xs) zero d up_is low = (rising x xs up_is).range
range_at (x ∷ xs) (suc i) d up_is low = range_at xs i d (rising x xs up_is).rest (omega arith)

apart_at : (xs : List Home) (i j : ℕ) (d : Home) → rise xs ≡ true → i < j → j < length xs → IsApart (get_or xs i d) (get_or xs j d)
apart_at [] i j d up_is low high = let never : ⊥ = omega arith in absurd never
apart_at (x ∷ xs) i zero d up_is low high = let never : ⊥ = omega arith in absurd never
apart_at (x ∷ xs) zero (suc j) d up_is low high =
    let is = rising x xs up_is in
    record { less = all_at (is_less_than x) xs j d is.less (omega arith); first = is.range; second = range_at xs j d is.rest (omega arith) }
apart_at (x ∷ xs) (suc i) (suc j) d up_is low high = apart_at xs i j d (rising x xs up_is).rest (omega arith) (omega arith)

-- a test that holds of a table holds of all in front of it, so a search by halves finds where it ends
falls_once : (p : Home → Bool) → ((t u : Home) → IsApart t u → p u ≡ true → p t ≡ true) → (xs : List Home) → rise xs ≡ true → IsPartitionedBy p xs
falls_once p step xs up_is i j d low high is =
    elim (nat_lt i j) as (λ b. nat_lt i j ≡ b → p (get_or xs i d) ≡ true) [
      | true ↦ λ t. step (get_or xs i d) (get_or xs j d) (apart_at xs i j d up_is (grind (arith, nat_tests)) high) is
      | false ↦ λ t. let one : i ≡ j = grind (arith, nat_tests) in subst (λ (n : ℕ). p (get_or xs n d) ≡ true) (sym one) is
    ] refl

-- and that place is how many pass the test in front
pub point_counts : (p : Home → Bool) (xs : List Home) (at : ℕ) → at ≤ length xs → IsPartitionPoint (λ t. p t ≡ true) (λ t. p t ≡ false) xs at → at ≡ prefix_len p xs
point_counts p [] at bound point = omega (arith, bound)
point_counts p (x ∷ xs) at bound point = sym (prefix_len_is p (x ∷ xs) at x bound (λ k low. point.0 k x (omega arith) low) (λ low. point.1 at x (omega arith) low))

-- ---- those that overlap stand side by side

any_leads : (f g : Home → Bool) (xs : List Home) → ((x : Home) → f x ≡ true → g x ≡ true) → list_any f xs ≡ true → list_any g xs ≡ true
any_leads f g [] leads any = any
any_leads f g (x ∷ xs) leads any = by_first (f x) refl (any_leads f g xs leads) any
  where
    or_true : (b : Bool) → (b || true) ≡ true
    or_true true = refl
    or_true false = refl

    by_first : (b : Bool) → f x ≡ b → (list_any f xs ≡ true → list_any g xs ≡ true) → (b || list_any f xs) ≡ true → (g x || list_any g xs) ≡ true
    by_first true here rest any = ap (λ b. b || list_any g xs) (leads x here)
    by_first false here rest any = ap (λ b. g x || b) (rest any) ∙ or_true (g x)

module _ (chosen : List Home) where
  abbrev begins : Home → Bool
  begins home = begin_before_end chosen home

  abbrev ends : Home → Bool
  ends home = end_behind_beginning chosen home

  -- what begins before the end of a table begins before that of a greater one
  up : (t u : Home) → is_less_than t u ≡ true → is_range u ≡ true → begins t ≡ true → begins u ≡ true
  up t u less range is = any_leads (λ c. is_le (byte_cmp c.desc.least t.desc.greatest)) (λ c. is_le (byte_cmp c.desc.least u.desc.greatest)) chosen
      (λ c le. le_of_less c.desc.least u.desc.greatest (lt_le c.desc.least u.desc.least u.desc.greatest (le_lt c.desc.least t.desc.greatest u.desc.least le (is_less (byte_cmp t.desc.greatest u.desc.least) less)) range)) is

  -- what ends behind the beginning of a table ends behind that of a lesser one
  down : (t u : Home) → is_less_than t u ≡ true → is_range t ≡ true → ends u ≡ true → ends t ≡ true
  down t u less range is = any_leads (λ c. is_le (byte_cmp u.desc.least c.desc.greatest)) (λ c. is_le (byte_cmp t.desc.least c.desc.greatest)) chosen
      (λ c le. le_of_less t.desc.least c.desc.greatest (lt_le t.desc.least u.desc.least c.desc.greatest (le_lt t.desc.least t.desc.greatest u.desc.least range (is_less (byte_cmp t.desc.greatest u.desc.least) less)) le)) is

  -- behind one that all of them end before, none is overlapped
  none_behind : (t : Home) (xs : List Home) → ends t ≡ false → is_range t ≡ true → list_all (is_less_than t) xs ≡ true → filter (is_overlapped chosen) xs ≡ []
  none_behind t [] past range less = refl
  none_behind t (u ∷ xs) past range less =
      let here = both_first (is_less_than t u) (list_all (is_less_than t) xs) less in
      ap (λ b. cond b (u ∷ filter (is_overlapped chosen) xs) (filter (is_overlapped chosen) xs)) (no_second (begins u) (ends u) (never here (ends u) refl))
      ∙ none_behind t xs past range (both_second (is_less_than t u) (list_all (is_less_than t) xs) less)
    where
      no_second : (a b : Bool) → b ≡ false → (a && b) ≡ false
      no_second true b e = e
      no_second false b e = refl

      never : is_less_than t u ≡ true → (b : Bool) → ends u ≡ b → ends u ≡ false
      never here true is = absurd (cc (sym past ∙ down t u here range is))
      never here false is = is

  -- behind one that some begin before, those that are overlapped stand first
  run_of : (xs : List Home) → rise xs ≡ true → list_all begins xs ≡ true → filter (is_overlapped chosen) xs ≡ take (prefix_len (is_overlapped chosen) xs) xs
  run_of [] up_is all = refl
  run_of (t ∷ xs) up_is all =
      let is = rising t xs up_is in
      by_test (is_overlapped chosen t) refl (run_of xs is.rest (both_second (begins t) (list_all begins xs) all)) is
    where
      past : is_overlapped chosen t ≡ false → ends t ≡ false
      past not_it = sym (ap (λ b. b && ends t) (both_first (begins t) (list_all begins xs) all)) ∙ not_it

      by_test : (b : Bool) → is_overlapped chosen t ≡ b → filter (is_overlapped chosen) xs ≡ take (prefix_len (is_overlapped chosen) xs) xs → IsRising t xs
          → cond b (t ∷ filter (is_overlapped chosen) xs) (filter (is_overlapped chosen) xs) ≡ take (cond b (1 + prefix_len (is_overlapped chosen) xs) 0) (t ∷ xs)
      by_test true test rest is = ap (λ (l : List Home). t ∷ l) rest ∙ ap (λ (n : ℕ). take n (t ∷ xs)) (add_one (prefix_len (is_overlapped chosen) xs))
        where
          add_one : (n : ℕ) → suc n ≡ 1 + n
          add_one n = omega arith
      by_test false test rest is = none_behind t xs (past test) is.range is.less

  all_begin : (t : Home) (xs : List Home) → rise xs ≡ true → list_all (is_less_than t) xs ≡ true → begins t ≡ true → list_all begins xs ≡ true
  all_begin t [] up_is less here = refl
  all_begin t (u ∷ xs) up_is less here =
      let is = rising u xs up_is in
      both_true (begins u) (list_all begins xs)
      (up t u (both_first (is_less_than t u) (list_all (is_less_than t) xs) less) is.range here)
      (all_begin t xs is.rest (both_second (is_less_than t u) (list_all (is_less_than t) xs) less) here)

  -- how many in front end before all of them begin
  abbrev passed : List Home → ℕ
  passed xs = prefix_len (λ t. not (begins t)) xs

  -- none of these is overlapped
  front_passed : (xs : List Home) → filter (is_overlapped chosen) xs ≡ filter (is_overlapped chosen) (drop (passed xs) xs)
  front_passed [] = refl
  front_passed (t ∷ xs) = by_test (begins t) refl (front_passed xs)
    where
      add_one : (n : ℕ) → 1 + n ≡ suc n
      add_one n = omega arith

      by_test : (b : Bool) → begins t ≡ b → filter (is_overlapped chosen) xs ≡ filter (is_overlapped chosen) (drop (passed xs) xs)
          → filter (is_overlapped chosen) (t ∷ xs) ≡ filter (is_overlapped chosen) (drop (cond (not b) (1 + passed xs) 0) (t ∷ xs))
      by_test true test rest = refl
      by_test false test rest =
          ap (λ b. cond (b && ends t) (t ∷ filter (is_overlapped chosen) xs) (filter (is_overlapped chosen) xs)) test ∙ rest
          ∙ ap (λ (n : ℕ). filter (is_overlapped chosen) (drop n (t ∷ xs))) (sym (add_one (passed xs)))

  -- behind them some begin before the end of each
  behind_passed : (xs : List Home) → rise xs ≡ true → list_all begins (drop (passed xs) xs) ≡ true
  behind_passed [] up_is = refl
  behind_passed (t ∷ xs) up_is =
      let is = rising t xs up_is in
      by_test (begins t) refl (behind_passed xs is.rest) is
    where
      add_one : (n : ℕ) → 1 + n ≡ suc n
      add_one n = omega arith

      by_test : (b : Bool) → begins t ≡ b → list_all begins (drop (passed xs) xs) ≡ true → IsRising t xs → list_all begins (drop (cond (not b) (1 + passed xs) 0) (t ∷ xs)) ≡ true
      by_test true here rest is = both_true (begins t) (list_all begins xs) here (all_begin t xs is.rest is.less here)
      by_test false past rest is = ap (λ (n : ℕ). list_all begins (drop n (t ∷ xs))) (add_one (passed xs)) ∙ rest

  -- of those, the overlapped ones are those that one of them reaches
  same_front : (xs : List Home) → list_all begins xs ≡ true → prefix_len (is_overlapped chosen) xs ≡ prefix_len ends xs
  same_front [] all = refl
  same_front (t ∷ xs) all =
      let here : is_overlapped chosen t ≡ ends t = ap (λ b. b && ends t) (both_first (begins t) (list_all begins xs) all) in
      let rest = same_front xs (both_second (begins t) (list_all begins xs) all) in
      (λ i. cond (here i) (1 + rest i) 0)

  -- what is searched by halves
  pub begins_once : (xs : List Home) → rise xs ≡ true → IsPartitionedBy (λ t. not (begin_before_end chosen t)) xs
  begins_once = falls_once (λ t. not (begins t)) (λ t u apart past. by_begin t u apart past (begins t) refl)
    where
      by_begin : (t u : Home) → IsApart t u → not (begins u) ≡ true → (b : Bool) → begins t ≡ b → not b ≡ true
      by_begin t u apart past true here = absurd (cc (sym (ap not (up t u apart.less apart.second here)) ∙ past))
      by_begin t u apart past false here = refl

  pub ends_once : (xs : List Home) → rise xs ≡ true → IsPartitionedBy (end_behind_beginning chosen) xs
  ends_once = falls_once ends (λ t u apart is. down t u apart.less apart.first is)

  pub record AreOverlapped (next : List Home) (from to : ℕ) : Type 0 where
    pub places : ArePlacesWithin from to next
    pub overlapped : slice_range next from to ≡ filter (is_overlapped chosen) next

  pub overlapped_stand_together : (next behind : List Home) (from count to : ℕ) → rise next ≡ true → from ≡ passed next → behind ≡ drop from next → count ≡ prefix_len ends behind → to ≡ from + count → AreOverlapped next from to
  overlapped_stand_together next behind from count to up_is from_is behind_is count_is to_is =
      let tail : behind ≡ drop (passed next) next = behind_is ∙ ap (λ (n : ℕ). drop n next) from_is in
      let all = behind_passed next up_is in
      let size : to - from ≡ prefix_len (is_overlapped chosen) (drop (passed next) next) =
      omega (arith, to_is) ∙ count_is ∙ ap (prefix_len ends) tail ∙ sym (same_front (drop (passed next) next) all) in
      record {
        places = record { order = omega (arith, to_is); within = within_length };
        overlapped = (λ i. take (size i) (drop (from_is i) next)) ∙ sym (front_passed next ∙ run_of (drop (passed next) next) (rise_behind (passed next) next up_is) all);
      }
    where
      within_length : to ≤ length next
      within_length =
          let front = prefix_len-le-length (λ t. not (begins t)) next in
          let rest = prefix_len-le-length ends behind in
          let long = ap (λ (l : List Home). length l) behind_is in
          omega (arith, front, rest, long, from_is, count_is, to_is, length-drop from next)

-- ---- which is older

pub upto_itself : (id : TableId) → is_upto id id ≡ true
upto_itself id = itself id.run id.part
  where
    itself : (run part : ℕ) → (if run == run then nat_le part part else nat_lt run run) ≡ true
    itself run part = grind (arith, nat_tests)

pub upto_swapped : (a b : TableId) → is_upto a b ≡ false → is_upto b a ≡ true
upto_swapped a b = swapped a.run a.part b.run b.part
  where
    swapped : (r p s q : ℕ) → (if r == s then nat_le p q else nat_lt r s) ≡ false → (if s == r then nat_le q p else nat_lt s r) ≡ true
    swapped r p s q is = grind (arith, nat_tests)

pub upto_through : (a b c : TableId) → is_upto a b ≡ true → is_upto b c ≡ true → is_upto a c ≡ true
upto_through a b c = through a.run a.part b.run b.part c.run c.part
  where
    through : (r p s q t u : ℕ) → (if r == s then nat_le p q else nat_lt r s) ≡ true → (if s == t then nat_le q u else nat_lt s t) ≡ true → (if r == t then nat_le p u else nat_lt r t) ≡ true
    through r p s q t u first second = grind (arith, nat_tests)

pub all_older : (a b : TableId) (xs : List Home) → is_upto a b ≡ true → list_all (λ t. is_upto b t.desc.id) xs ≡ true → list_all (λ t. is_upto a t.desc.id) xs ≡ true
all_older a b [] older all = refl
all_older a b (x ∷ xs) older all =
    both_true (is_upto a x.desc.id) (list_all (λ t. is_upto a t.desc.id) xs)
    (upto_through a b x.desc.id older (both_first (is_upto b x.desc.id) (list_all (λ t. is_upto b t.desc.id) xs) all))
    (all_older a b xs older (both_second (is_upto b x.desc.id) (list_all (λ t. is_upto b t.desc.id) xs) all))

-- ---- what is due

due_deep : (level : ℕ) (tables : List Home) → 1 ≤ level → is_due level tables ≡ (nat_lt level 4 && nat_le (due_bytes level) (bytes_of (at_level level tables)))
due_deep level tables deep = ap (λ b. if b then nat_le 4 (count_at 0 tables) else (nat_lt level 4 && nat_le (due_bytes level) (bytes_of (at_level level tables)))) (above level deep)
  where
    above : (n : ℕ) → 1 ≤ n → (n == 0) ≡ false
    above n le = grind (arith, nat_tests)

some_bytes : (level : ℕ) → 1 ≤ level → nat_lt level 4 ≡ true → nat_le (due_bytes level) 0 ≡ true → ⊥
some_bytes zero deep low none = absurd (omega arith)
some_bytes (suc zero) deep low none = absurd (cc)
some_bytes (suc (suc zero)) deep low none = absurd (cc)
some_bytes (suc (suc (suc zero))) deep low none = absurd (cc)
some_bytes (suc (suc (suc (suc level)))) deep low none = too_deep (suc (suc (suc (suc level)))) (omega arith) low
  where
    too_deep : (n : ℕ) → 4 ≤ n → nat_lt n 4 ≡ true → ⊥
    too_deep n le lt = grind (arith, nat_tests)

pub due_some : (level : ℕ) (tables : List Home) → 1 ≤ level → is_due level tables ≡ true → 0 < length (at_level level tables)
due_some level tables deep due =
    let both_are = sym (due_deep level tables deep) ∙ due in
    by_tables (at_level level tables) (both_second (nat_lt level 4) (nat_le (due_bytes level) (bytes_of (at_level level tables))) both_are) (both_first (nat_lt level 4) (nat_le (due_bytes level) (bytes_of (at_level level tables))) both_are)
  where
    by_tables : (xs : List Home) → nat_le (due_bytes level) (bytes_of xs) ≡ true → nat_lt level 4 ≡ true → 0 < length xs
    by_tables [] le low = absurd (some_bytes level deep low le)
    by_tables (x ∷ xs) le low = omega arith

pub never_due : (level : ℕ) (tables : List Home) → 4 ≤ level → is_due level tables ≡ false
never_due level tables deep = due_deep level tables (omega (arith, deep)) ∙ ap (λ b. b && nat_le (due_bytes level) (bytes_of (at_level level tables))) (too_deep level deep)
  where
    too_deep : (n : ℕ) → 4 ≤ n → nat_lt n 4 ≡ false
    too_deep n le = grind (arith, nat_tests)

-- ---- what is taken

pub taken_level : (tables : List Home) (level : ℕ) (choice : Choice) → IsTaken tables level choice → choice.level ≡ level
taken_level tables zero choice taken = taken.choice_is.level_is
taken_level tables (suc level) choice taken = taken.choice_is.level_is

pub picked : (tables : List Home) (level : ℕ) (choice : Choice) → is_due level tables ≡ true → ((n : ℕ) → n < level → is_due n tables ≡ false) → IsTaken tables level choice → IsPicked tables choice
picked tables level choice due least taken =
    let same : level ≡ choice.level = sym (taken_level tables level choice taken) in
    record {
      due = subst (λ (n : ℕ). is_due n tables ≡ true) same due;
      least = λ n lt. least n (omega (arith, lt, same));
      taken = subst (λ (n : ℕ). IsTaken tables n choice) same taken;
    }

pub oldest_taken : (tables : List Home) (level at : ℕ) (choice : Choice) → 1 ≤ level → IsChoice tables level choice → choice.from ≡ at → choice.to ≡ at + 1 → IsOldestAt (at_level level tables) at → IsTaken tables level choice
oldest_taken tables zero at choice deep is from to oldest = absurd (omega arith)
oldest_taken tables (suc level) at choice deep is from to oldest = record {
  choice_is = is;
  home = oldest.home;
  one = (λ i. slice_range (at_level (is.level_is i) tables) (from i) (to i)) ∙ one_there (at_level (suc level) tables) at oldest.home oldest.low oldest.is;
  least = oldest.least;
}
  where
    one_there : (xs : List Home) (i : ℕ) (x : Home) → i < length xs → x ≡ get_or xs i x → slice_range xs i (i + 1) ≡ x ∷ []
    one_there xs i x low is =
        let size : (i + 1) - i ≡ 1 = omega arith in
        (λ j. take (size j) ((drop_more xs i x low ∙ ap (λ (y : Home). y ∷ drop (i + 1) xs) (sym is)) j))

pub whole_taken : (tables : List Home) (level : ℕ) (choice : Choice) → level ≡ 0 → IsWholeChoice tables 0 choice → IsTaken tables level choice
whole_taken tables level choice none is = subst (λ (n : ℕ). IsTaken tables n choice) (sym none) is

-- a choice from all places of a level takes the whole level
pub all_taken : (tables : List Home) (level n : ℕ) (choice : Choice) → IsChoice tables level choice → choice.from ≡ 0 → choice.to ≡ n → n ≡ length (at_level level tables) → IsWholeChoice tables level choice
all_taken tables level n choice is from to all = record {
  choice_is = is;
  all = (λ i. slice_range (at_level (is.level_is i) tables) (from i) ((to ∙ all) i)) ∙ whole (at_level level tables);
}
  where
    whole : (xs : List Home) → take (length xs - 0) (drop 0 xs) ≡ xs
    whole xs = ap (λ (n : ℕ). take n xs) (omega arith) ∙ take_all (length xs) xs (omega arith)
