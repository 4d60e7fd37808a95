-- What shows at a sequence, in lists that are put together.
use Rattle.std.proofs.Common.{◌≡◌, ℕ, zero, suc, ◌<◌, ◌≤◌, List, [], ◌∷◌, ◌++◌, refl, sym, ap, subst, ◌∙◌, Bool, true, false, cond, Option, Some, None, arith, inl, inr}
use Rattle.std.specs.Prelude.{nat_lt, nat_le, ◌&&◌, ◌⊎◌, IsTrue, map, option_map}
use Rattle.std.specs.List.{Contains}
use Rattle.std.proofs.lemmas.Bool.Decides.{nat_tests}
use Rattle.std.specs.FinMap.Entries.{find}
use Rattle.kv_base.specs.InversionLaws.{both_first, both_second}
use Rattle.kv_base.specs.Map.{Bytes, byte_cmp, same, same_is, same_itself, get}
use Rattle.batch_codec.specs.Batches.{BatchEntry, Batch}
use Rattle.kv_base.specs.declared.row.Row.{Row}
use Rattle.row_model.specs.Rows.{are_upto, shown_at, newer, seen_at, IsNewestAt, entry_row, batch_rows, AreApart, HaveSameRows}

-- ---- the newer of two

pub newer_none : (o : Option Row) → newer o None ≡ o
newer_none None = refl
newer_none (Some x) = refl

newer_by : (x y z : Row) (a b c : Bool) → nat_lt x.seq y.seq ≡ a → nat_lt y.seq z.seq ≡ b → nat_lt x.seq z.seq ≡ c → newer (newer (Some x) (Some y)) (Some z) ≡ newer (Some x) (newer (Some y) (Some z))
newer_by x y z true true true p q r = simp (p, q, r)
newer_by x y z true true false p q r = let never : ⊥ = grind (arith, nat_tests) in absurd never
newer_by x y z true false c p q r = simp (p, q)
newer_by x y z false true c p q r = simp (p, q, r)
newer_by x y z false false true p q r = let never : ⊥ = grind (arith, nat_tests) in absurd never
newer_by x y z false false false p q r = simp (p, q, r)

pub newer_assoc : (a b c : Option Row) → newer (newer a b) c ≡ newer a (newer b c)
newer_assoc None b c = refl
newer_assoc (Some x) None c = refl
newer_assoc (Some x) (Some y) None = newer_none (newer (Some x) (Some y))
newer_assoc (Some x) (Some y) (Some z) = newer_by x y z _ _ _ refl refl refl

-- of two lists together, the newer one of what they show shows
pub seen_in_both : (rows others : List Row) (s : ℕ) (raw : Bytes) → seen_at (rows ++ others) s raw ≡ newer (seen_at rows s raw) (seen_at others s raw)
unfolding seen_at
seen_in_both [] others s raw = refl
seen_in_both (row ∷ rows) others s raw = ap (newer (shown_at s raw row)) (seen_in_both rows others s raw) ∙ sym (newer_assoc (shown_at s raw row) (seen_at rows s raw) (seen_at others s raw))

-- ---- what shows is one of the rows, of this raw key and not above s

pub shown_is : (s : ℕ) (raw : Bytes) (row seen : Row) → shown_at s raw row ≡ Some seen → (row ≡ seen) × (seen.raw ≡ raw) × (seen.seq ≤ s)
shown_is s raw row seen is = by_test (same raw row.raw && nat_le row.seq s) refl is
  where
    by_test : (b : Bool) → (same raw row.raw && nat_le row.seq s) ≡ b → cond b (Some row) None ≡ Some seen → (row ≡ seen) × (seen.raw ≡ raw) × (seen.seq ≤ s)
    by_test true t e =
        let it : row ≡ seen = cc in
        let raw_is = sym (same_is raw row.raw (both_first (same raw row.raw) (nat_le row.seq s) t)) in
        let test = both_second (same raw row.raw) (nat_le row.seq s) t in
        let low : row.seq ≤ s = grind (arith, nat_tests) in
        (it, (λ i. (sym it i).raw) ∙ raw_is, subst (λ (r : Row). r.seq ≤ s) it low)
    by_test false t e = absurd (cc)

pub shown_where : (s : ℕ) (raw : Bytes) (row : Row) → row.raw ≡ raw → row.seq ≤ s → shown_at s raw row ≡ Some row
shown_where s raw row is low =
    let key : same raw row.raw ≡ true = ap (same raw) is ∙ same_itself raw in
    let test : nat_le row.seq s ≡ true = grind (arith, nat_tests) in
    ap (λ b. cond (b && nat_le row.seq s) (Some row) None) key ∙ ap (λ b. cond b (Some row) None) test

pub shown_not : (s : ℕ) (raw : Bytes) (row : Row) → s < row.seq → shown_at s raw row ≡ None
shown_not s raw row high = by_key (same raw row.raw)
  where
    by_key : (b : Bool) → cond (b && nat_le row.seq s) (Some row) None ≡ None
    by_key true = let test : nat_le row.seq s ≡ false = grind (arith, nat_tests) in ap (λ b. cond b (Some row) None) test
    by_key false = refl

-- the one of two that is newer is one of them, and not older than each
pub newer_is : (a b : Option Row) (seen : Row) → newer a b ≡ Some seen → (a ≡ Some seen) ⊎ (b ≡ Some seen)
newer_is None b seen is = inr is
newer_is (Some x) None seen is = inl is
newer_is (Some x) (Some y) seen is = by_test (nat_lt x.seq y.seq) is
  where
    by_test : (b : Bool) → cond b (Some y) (Some x) ≡ Some seen → (Some x ≡ Some seen) ⊎ (Some y ≡ Some seen)
    by_test true e = inr e
    by_test false e = inl e

pub newer_front : (x : Row) (b : Option Row) (seen : Row) → newer (Some x) b ≡ Some seen → x.seq ≤ seen.seq
newer_front x None seen is = let e : x ≡ seen = cc in let same : x.seq ≡ seen.seq = (λ i. (e i).seq) in omega arith
newer_front x (Some y) seen is = by_test (nat_lt x.seq y.seq) refl is
  where
    by_test : (b : Bool) → nat_lt x.seq y.seq ≡ b → cond b (Some y) (Some x) ≡ Some seen → x.seq ≤ seen.seq
    by_test true t e =
        let is : y ≡ seen = cc in
        let same : y.seq ≡ seen.seq = (λ i. (is i).seq) in
        let low : x.seq < y.seq = grind (arith, nat_tests) in
        omega arith
    by_test false t e = let is : x ≡ seen = cc in let same : x.seq ≡ seen.seq = (λ i. (is i).seq) in omega arith

pub newer_back : (a : Option Row) (y seen : Row) → newer a (Some y) ≡ Some seen → y.seq ≤ seen.seq
newer_back None y seen is = let e : y ≡ seen = cc in let same : y.seq ≡ seen.seq = (λ i. (e i).seq) in omega arith
newer_back (Some x) y seen is = by_test (nat_lt x.seq y.seq) refl is
  where
    by_test : (b : Bool) → nat_lt x.seq y.seq ≡ b → cond b (Some y) (Some x) ≡ Some seen → y.seq ≤ seen.seq
    by_test true t e = let is : y ≡ seen = cc in let same : y.seq ≡ seen.seq = (λ i. (is i).seq) in omega arith
    by_test false t e =
        let is : x ≡ seen = cc in
        let same : x.seq ≡ seen.seq = (λ i. (is i).seq) in
        let low : y.seq ≤ x.seq = grind (arith, nat_tests) in
        omega arith

pub newer_some : (x : Row) (b : Option Row) → (seen : Row) × (newer (Some x) b ≡ Some seen)
newer_some x None = (x, refl)
newer_some x (Some y) = by_test (nat_lt x.seq y.seq)
  where
    by_test : (b : Bool) → (seen : Row) × (cond b (Some y) (Some x) ≡ Some seen)
    by_test true = (y, refl)
    by_test false = (x, refl)

pub newer_some_back : (a : Option Row) (y : Row) → (seen : Row) × (newer a (Some y) ≡ Some seen)
newer_some_back None y = (y, refl)
newer_some_back (Some x) y = newer_some x (Some y)

-- ---- the rule

pub there_first : (rows : List Row) (row : Row) → Contains (row ∷ rows) row
there_first rows row = (0, omega arith, refl)

pub there_behind : (rows : List Row) (row other : Row) → Contains rows row → Contains (other ∷ rows) row
there_behind rows row other (k, low, is) = (suc k, omega arith, is)

pub there_cases : (rows : List Row) (row other : Row) → Contains (other ∷ rows) row → (other ≡ row) ⊎ Contains rows row
there_cases rows row other (zero, low, is) = inl is
there_cases rows row other (suc k, low, is) = inr (k, omega arith, is)

pub there_never : (row : Row) → Contains [] row → ⊥
there_never row (k, low, is) = omega arith

-- what shows is a row of this raw key, and not above s
pub seen_is : (rows : List Row) (s : ℕ) (raw : Bytes) (seen : Row) → seen_at rows s raw ≡ Some seen → Contains rows seen × (seen.raw ≡ raw) × (seen.seq ≤ s)
unfolding seen_at
seen_is [] s raw seen is = absurd (cc)
seen_is (row ∷ rows) s raw seen is =
    elim (newer_is (shown_at s raw row) (seen_at rows s raw) seen is) [
      | inl e ↦ let it = shown_is s raw row seen e in (subst (λ (r : Row). Contains (row ∷ rows) r) it.0 (there_first rows row), it.1, it.2)
      | inr e ↦ let it = seen_is rows s raw seen e in (there_behind rows seen row it.0, it.1, it.2)
    ]

-- a row of this raw key that is not above s is not newer than what shows
pub seen_least : (rows : List Row) (s : ℕ) (raw : Bytes) (row : Row) → Contains rows row → row.raw ≡ raw → row.seq ≤ s → (seen : Row) × (seen_at rows s raw ≡ Some seen) × (row.seq ≤ seen.seq)
unfolding seen_at
seen_least [] s raw row there is low = absurd (there_never row there)
seen_least (other ∷ rows) s raw row there is low =
    elim (there_cases rows row other there) [
      | inl e ↦
          let some = newer_some row (seen_at rows s raw) in
          let shows : newer (shown_at s raw other) (seen_at rows s raw) ≡ newer (Some row) (seen_at rows s raw) = ap (λ (r : Row). newer (shown_at s raw r) (seen_at rows s raw)) e ∙ ap (λ o. newer o (seen_at rows s raw)) (shown_where s raw row is low) in
          (some.0, shows ∙ some.1, newer_front row (seen_at rows s raw) some.0 some.1)
      | inr e ↦
          let behind = seen_least rows s raw row e is low in
          let some = newer_some_back (shown_at s raw other) behind.0 in
          let shows = ap (newer (shown_at s raw other)) behind.1 in
          let above = newer_back (shown_at s raw other) behind.0 some.0 some.1 in
          (some.0, shows ∙ some.1, omega (arith, above, behind.2))
    ]

pub newest_shows : (rows : List Row) (s : ℕ) (raw : Bytes) → IsNewestAt rows s raw (seen_at rows s raw)
newest_shows rows s raw = by_seen (seen_at rows s raw) refl
  where
    by_seen : (o : Option Row) → seen_at rows s raw ≡ o → IsNewestAt rows s raw o
    by_seen (Some seen) is =
        let it = seen_is rows s raw seen is in (
          it.0,
          it.1,
          it.2,
          (λ row there of low.
              let least = seen_least rows s raw row there of low in
              let same : least.0 ≡ seen = cc in
              let seq : least.0.seq ≡ seen.seq = (λ i. (same i).seq) in
              omega (arith, seq, least.2)),
        )
    by_seen None is = λ row there of. elim (above row there of (nat_le row.seq s) refl) [ inl h ↦ h | inr h ↦ absurd h ]
      where
        above : (row : Row) → Contains rows row → row.raw ≡ raw → (b : Bool) → nat_le row.seq s ≡ b → (s < row.seq) ⊎ ⊥
        above row there of true t =
            let low : row.seq ≤ s = grind (arith, nat_tests) in
            let least = seen_least rows s raw row there of low in
            inr (cc)
        above row there of false t = inl (grind (arith, nat_tests))

-- the rule leaves one answer where no two rows tie
pub same_newest : (rows others : List Row) (s : ℕ) (raw : Bytes) → AreApart rows → HaveSameRows rows others → seen_at others s raw ≡ seen_at rows s raw
same_newest rows others s raw apart same = by_seen (seen_at rows s raw) (seen_at others s raw) refl refl
  where
    by_seen : (o p : Option Row) → seen_at rows s raw ≡ o → seen_at others s raw ≡ p → p ≡ o
    by_seen None None e f = refl
    by_seen (Some seen) p e f =
        let it = seen_is rows s raw seen e in
        let there = seen_least others s raw seen (same.0 seen it.0) it.1 it.2 in
        let back = seen_is others s raw there.0 there.1 in
        let least = seen_least rows s raw there.0 (same.1 there.0 back.0) back.1 back.2 in
        let one : least.0 ≡ seen = cc in
        let seq : least.0.seq ≡ seen.seq = (λ i. (one i).seq) in
        let tied : there.0.seq ≡ seen.seq = omega (arith, seq, there.2, least.2) in
        let alike = apart there.0 seen (same.1 there.0 back.0) it.0 (back.1 ∙ sym it.1) tied in
        sym f ∙ there.1 ∙ ap (λ (r : Row). Some r) alike
    by_seen None (Some seen) e f =
        let it = seen_is others s raw seen f in
        let there = seen_least rows s raw seen (same.1 seen it.0) it.1 it.2 in
        absurd (cc)

-- ---- the rows of a batch

same_seq : (n : ℕ) → nat_lt n n ≡ false
same_seq n = grind (arith, nat_tests)

abbrev pub as_row : ℕ → Bytes → Option Bytes → Row
as_row seq raw value = record { raw = raw; seq = seq; value = value }

front_stays : (seq : ℕ) (raw : Bytes) (row : Row) (o : Option (Option Bytes)) → row.seq ≡ seq → newer (Some row) (option_map (as_row seq raw) o) ≡ Some row
front_stays seq raw row None is = refl
front_stays seq raw row (Some value) is = ap (λ (n : ℕ). cond (nat_lt n seq) (Some (as_row seq raw value)) (Some row)) is ∙ ap (λ b. cond b (Some (as_row seq raw value)) (Some row)) (same_seq seq)

rows_show : (seq s : ℕ) (es : List BatchEntry) (raw : Bytes) → seq ≤ s → seen_at (map (entry_row seq) es) s raw ≡ option_map (as_row seq raw) (find byte_cmp raw es)
unfolding seen_at
rows_show seq s [] raw low = refl
rows_show seq s (e ∷ es) raw low =
    ap (newer (shown_at s raw (entry_row seq e))) (rows_show seq s es raw low) ∙ by_key (same raw e.0) refl
  where
    by_key : (b : Bool) → same raw e.0 ≡ b → newer (shown_at s raw (entry_row seq e)) (option_map (as_row seq raw) (find byte_cmp raw es)) ≡ option_map (as_row seq raw) (find byte_cmp raw (e ∷ es))
    by_key true t =
        ap (λ o. newer o (option_map (as_row seq raw) (find byte_cmp raw es))) (shown_where s raw (entry_row seq e) (sym (same_is raw e.0 t)) low)
        ∙ front_stays seq raw (entry_row seq e) (find byte_cmp raw es) refl
        ∙ ap (λ (k : Bytes). Some (as_row seq k e.1)) (sym (same_is raw e.0 t))
        ∙ ap (λ b. option_map (as_row seq raw) (cond b (Some e.1) (find byte_cmp raw es))) (sym t)
    by_key false t =
        ap (λ b. newer (cond (b && nat_le seq s) (Some (entry_row seq e)) None) (option_map (as_row seq raw) (find byte_cmp raw es))) t
        ∙ ap (λ b. option_map (as_row seq raw) (cond b (Some e.1) (find byte_cmp raw es))) (sym t)

-- at its sequence and above, a batch shows what it does at the raw key
pub batch_shows : (seq s : ℕ) (batch : Batch) (raw : Bytes) → seq ≤ s → seen_at (batch_rows seq batch) s raw ≡ option_map (as_row seq raw) (get batch raw)
unfolding batch_rows get
batch_shows seq s batch raw low = rows_show seq s batch.entries raw low

none_show : (seq s : ℕ) (es : List BatchEntry) (raw : Bytes) → s < seq → seen_at (map (entry_row seq) es) s raw ≡ None
unfolding seen_at
none_show seq s [] raw high = refl
none_show seq s (e ∷ es) raw high = ap (λ o. newer o (seen_at (map (entry_row seq) es) s raw)) (shown_not s raw (entry_row seq e) high) ∙ none_show seq s es raw high

-- below its sequence it shows nothing
pub batch_hides : (seq s : ℕ) (batch : Batch) (raw : Bytes) → s < seq → seen_at (batch_rows seq batch) s raw ≡ None
unfolding batch_rows
batch_hides seq s batch raw high = none_show seq s batch.entries raw high

-- from the greatest sequence on, the same shows
pub seen_on : (rows : List Row) (last s : ℕ) (raw : Bytes) → IsTrue (are_upto last rows) → last ≤ s → seen_at rows s raw ≡ seen_at rows last raw
unfolding seen_at
seen_on [] last s raw h low = refl
seen_on (row ∷ rows) last s raw h low =
    let test = both_first (nat_le row.seq last) (are_upto last rows) h in
    let up : nat_le row.seq s ≡ nat_le row.seq last = grind (arith, nat_tests) in
    let front : shown_at s raw row ≡ shown_at last raw row = ap (λ b. cond (same raw row.raw && b) (Some row) None) up in
    (λ i. newer (front i) (seen_on rows last s raw (both_second (nat_le row.seq last) (are_upto last rows) h) low i))

-- a row above all others shows in front of them
pub newest_front : (row : Row) (rows : List Row) (last s : ℕ) (raw : Bytes) → IsTrue (are_upto last rows) → last < row.seq → newer (Some row) (seen_at rows s raw) ≡ Some row
newest_front row rows last s raw h high = by_seen (seen_at rows s raw) refl
  where
    within : (rs : List Row) (other : Row) → IsTrue (are_upto last rs) → Contains rs other → other.seq ≤ last
    within [] other h there = absurd (there_never other there)
    within (r ∷ rs) other h there =
        elim (there_cases rs other r there) [
          | inl e ↦
              let test = both_first (nat_le r.seq last) (are_upto last rs) h in
              let low : r.seq ≤ last = grind (arith, nat_tests) in
              subst (λ (o : Row). o.seq ≤ last) e low
          | inr e ↦ within rs other (both_second (nat_le r.seq last) (are_upto last rs) h) e
        ]

    by_seen : (o : Option Row) → seen_at rows s raw ≡ o → newer (Some row) o ≡ Some row
    by_seen None is = refl
    by_seen (Some seen) is =
        let low = within rows seen h (seen_is rows s raw seen is).0 in
        let test : nat_lt row.seq seen.seq ≡ false = grind (arith, nat_tests) in
        ap (λ b. cond b (Some seen) (Some row)) test
