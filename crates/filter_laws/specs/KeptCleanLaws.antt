-- What the rules leave in the place of the inputs changes nothing that counts, for who watches and for who comes later.
use Rattle.std.proofs.Common.{◌≡◌, ◌<◌, ℕ, ◌≤◌, List, ◌++◌, refl, sym, ap, subst, ◌∙◌, Bool, true, false, cond, inl, inr, arith}
use Rattle.std.proofs.lemmas.Bool.Decides.{nat_tests}
use Rattle.std.specs.Prelude.{◌⊎◌, ◌&&◌, ◌||◌, not, nat_lt, Option, Some, None, option_and_then, is_none, is_some, IfSome}
use Rattle.std.specs.List.{list_all, Contains, filter_map}
use Rattle.kv_base.specs.Map.{Bytes, same, kept, get, same_map}
use Rattle.kv_base.specs.InversionLaws.{both_first, both_second, number_is}
use Rattle.kv_base.specs.RawKeys.{RawKey, MetaKey, ElementKey, ScoreKey, read_raw}
use Rattle.kv_base.specs.MetaValues.{MetaValue, read_meta, expire_of, version_of}
use Rattle.kv_base.specs.declared.row.Row.{Row}
use Rattle.row_model.specs.Rows.{newer, seen_at, at}
use Rattle.row_model.specs.RowLaws.{seen_in_both, seen_is, seen_on}
use Rattle.row_model.specs.RowMaps.{value_seen}
use Rattle.row_model.specs.RowMapLaws.{get_at}
use Rattle.lives_model.specs.Rows.{Rows, meta_key}
use Rattle.lives_model.specs.RowKeyLaws.{only_meta_key_is_read}
use Rattle.lives_model.specs.Clean.{deadline_from, is_live, live_at, is_version_of, counts, clean}
use Rattle.lives_model.specs.CleanLaws.{get-clean, kept_alike, lived_before}
use Rattle.lives_model.specs.StepLaws.{kept_none, number_itself}
use Rattle.filter_laws.specs.Watchers.{Watcher, IsWatched}
use Rattle.filter_laws.specs.Kept.{has_seq, sees, is_seen, is_meta, is_dead_meta, has_expired, is_dead_to_all, buried, bury, row_life, is_orphaned, is_orphan, has_raw, is_idle}
use Rattle.filter_laws.specs.Kept as rules
use Rattle.filter_laws.specs.KeptRowLaws.{any_there, any_is, all_there, by_rules, kept_is, left_is, stays, nothing_left, still_nothing}
use Rattle.filter_laws.specs.Replaced.{CanReplace, IsDead, AreDead}

-- ---- what is past

-- what has expired is not live
pub past_none : (t : ℕ) (o : Option MetaValue) → is_dead_meta t o ≡ true → kept (is_live t) o ≡ None
past_none t None h = refl
past_none t (Some meta) h = by_live (is_live t meta) h
  where
    by_live : (b : Bool) → not b ≡ true → cond b (Some meta) None ≡ None
    by_live true h = absurd (cc)
    by_live false h = refl

past_later : (t u : ℕ) (o : Option MetaValue) → t ≤ u → is_dead_meta t o ≡ true → is_dead_meta u o ≡ true
past_later t u None le h = h
past_later t u (Some meta) le h = by_live (is_live u meta) refl
  where
    by_live : (b : Bool) → is_live u meta ≡ b → not b ≡ true
    by_live false e = refl
    by_live true e = let on : is_live t meta ≡ true = lived_before t u (deadline_from (expire_of meta)) le e in let no : not true ≡ true = sym (ap not on) ∙ h in absurd (cc)

both_true : (a b : Bool) → a ≡ true → b ≡ true → (a && b) ≡ true
both_true true b e f = f
both_true false b e f = cc

-- what has expired stays so
pub expired_later : (t u : ℕ) (row : Row) → t ≤ u → has_expired t row ≡ true → has_expired u row ≡ true
expired_later t u row le h =
    both_true (is_meta (read_raw row.raw)) (is_dead_meta u (option_and_then read_meta row.value)) (both_first (is_meta (read_raw row.raw)) (is_dead_meta t (option_and_then read_meta row.value)) h)
    (past_later t u (option_and_then read_meta row.value) le (both_second (is_meta (read_raw row.raw)) (is_dead_meta t (option_and_then read_meta row.value)) h))

-- ---- what does not count

nothing_kept : {X : Type 0} (p : X → Bool) (o : Option X) → ((x : X) → p x ≡ false) → kept p o ≡ None
nothing_kept p None h = refl
nothing_kept p (Some x) h = kept_none p x (h x)

-- metadata that is past
past_counts_not : (c : Rows) (t : ℕ) (r : Option RawKey) (o : Option Bytes) → is_meta r ≡ true → is_dead_meta t (option_and_then read_meta o) ≡ true → kept (counts c t r) o ≡ None
past_counts_not c t r None meta past = refl
past_counts_not c t None (Some value) meta past = absurd (cc)
past_counts_not c t (Some (ElementKey k version subkey)) (Some value) meta past = absurd (cc)
past_counts_not c t (Some (ScoreKey k version score member)) (Some value) meta past = absurd (cc)
past_counts_not c t (Some (MetaKey k)) (Some value) meta past = kept_none (counts c t (Some (MetaKey k))) value (ap is_some (past_none t (read_meta value) past))

-- a row of a dead life
orphan_counts_not : (watch : List Watcher) (all : List Row) (c : Rows) (t : ℕ) (r : Option RawKey) (o : Option Bytes) → is_orphaned watch all (row_life r) ≡ true → IfSome (row_life r) (IsDead c t) → kept (counts c t r) o ≡ None
orphan_counts_not watch all c t None o orphan dead = absurd (cc)
orphan_counts_not watch all c t (Some (MetaKey k)) o orphan dead = absurd (cc)
orphan_counts_not watch all c t (Some (ElementKey k version subkey)) o orphan dead = nothing_kept (counts c t (Some (ElementKey k version subkey))) o (λ value. dead)
orphan_counts_not watch all c t (Some (ScoreKey k version score member)) o orphan dead = nothing_kept (counts c t (Some (ScoreKey k version score member))) o (λ value. dead)

no_life_of_meta : (k : Bytes) → row_life (read_raw (meta_key k)) ≡ None
no_life_of_meta k = by_read (read_raw (meta_key k)) refl
  where
    by_read : (o : Option RawKey) → read_raw (meta_key k) ≡ o → row_life o ≡ None
    by_read None e = refl
    by_read (Some r) e = ap (λ (x : RawKey). row_life (Some x)) (only_meta_key_is_read k r e)

-- ---- a row and its burial

abbrev IsAlike : Option Row → Option Row → Row → Type 0
IsAlike o p row = (o ≡ p) ⊎ ((o ≡ Some row) × (p ≡ Some (buried row)))

front_alike : (row : Row) (n o p : Option Row) → IsAlike o p row → IsAlike (newer n o) (newer n p) row
front_alike row n o p (inl same) = inl (ap (newer n) same)
front_alike row None o p (inr both) = inr both
front_alike row (Some z) o p (inr both) = by_test (nat_lt z.seq row.seq) refl
  where
    one : (b : Bool) → nat_lt z.seq row.seq ≡ b → newer (Some z) o ≡ cond b (Some row) (Some z)
    one b t = ap (newer (Some z)) both.0 ∙ ap (λ x. cond x (Some row) (Some z)) t

    two : (b : Bool) → nat_lt z.seq row.seq ≡ b → newer (Some z) p ≡ cond b (Some (buried row)) (Some z)
    two b t = ap (newer (Some z)) both.1 ∙ ap (λ x. cond x (Some (buried row)) (Some z)) t

    by_test : (b : Bool) → nat_lt z.seq row.seq ≡ b → IsAlike (newer (Some z) o) (newer (Some z) p) row
    by_test true t = inr (one true t, two true t)
    by_test false t = inl (one false t ∙ sym (two false t))

-- ---- the law

same_seq : (o : Option Row) (m n : ℕ) → has_seq m o ≡ true → has_seq n o ≡ true → m ≡ n
same_seq None m n e f = absurd (cc)
same_seq (Some r) m n e f = sym (number_is r.seq m e) ∙ number_is r.seq n f

module _ (watch : List Watcher) (now : Watcher) (others inputs deeper all : List Row) (v : Watcher) (can : CanReplace watch now others inputs deeper) (watched : IsWatched watch now v) where
  abbrev left_of : Row → Option Row
  left_of = by_rules watch inputs deeper all

  abbrev left : List Row
  left = filter_map left_of inputs

  raws : (row o : Row) → left_of row ≡ Some o → o.raw ≡ row.raw
  raws row o e = (left_is watch inputs deeper all row o e).raw

  seqs : (row o : Row) → left_of row ≡ Some o → o.seq ≡ row.seq
  seqs row o e = (left_is watch inputs deeper all row o e).seq

  -- one of those that watch sees what v sees, at a moment not later
  record Sight (row : Row) : Type 0 where
    w : Watcher
    present : Contains watch w
    sees : sees inputs row w ≡ true
    moment : w.moment ≤ v.moment

  sight : (raw : Bytes) (row : Row) → seen_at inputs v.seq raw ≡ Some row → Sight row
  sight raw row e = by_kind watched
    where
      sees_at : (s : ℕ) → seen_at inputs s raw ≡ Some row → has_seq row.seq (seen_at inputs s row.raw) ≡ true
      sees_at s f = ap (λ (x : Bytes). has_seq row.seq (seen_at inputs s x)) (seen_is inputs v.seq raw row e).1 ∙ ap (has_seq row.seq) f ∙ number_itself row.seq

      by_kind : IsWatched watch now v → Sight row
      by_kind (inl there) = record { w = v; present = there; sees = sees_at v.seq e; moment = omega arith }
      by_kind (inr later) = record { w = now; present = can.present; sees = sees_at now.seq (sym (seen_on inputs now.seq v.seq raw can.upto later.seq) ∙ e); moment = later.moment }

  -- so what is expired for all that watch is expired for it
  expired_for : (row : Row) → Sight row → is_dead_to_all watch inputs row ≡ true → has_expired v.moment row ≡ true
  expired_for row s h =
      expired_later s.w.moment v.moment row s.moment
      (sym (ap (λ (b : Bool). not b || has_expired s.w.moment row) s.sees) ∙ all_there (λ (w : Watcher). not (sees inputs row w) || has_expired w.moment row) watch s.w h s.present)

  -- ---- what becomes of the row that it sees

  record IsBuried (raw : Bytes) : Type 0 where
    row : Row
    was : seen_at inputs v.seq raw ≡ Some row
    is : seen_at left v.seq raw ≡ Some (buried row)
    expired : has_expired v.moment row ≡ true

  record IsGone (raw : Bytes) : Type 0 where
    row : Row
    was : seen_at inputs v.seq raw ≡ Some row
    is : seen_at left v.seq raw ≡ None
    deeper_has : has_raw raw deeper ≡ false
    nothing : (row.value ≡ None) ⊎ (has_expired v.moment row ≡ true)

  record IsOrphaned (raw : Bytes) : Type 0 where
    row : Row
    there : Contains inputs row
    raw_is : row.raw ≡ raw
    orphan : is_orphan watch all row ≡ true

  abbrev Fate : Bytes → Type 0
  Fate raw = (seen_at left v.seq raw ≡ seen_at inputs v.seq raw) ⊎ (IsBuried raw ⊎ (IsGone raw ⊎ IsOrphaned raw))

  module _ (raw : Bytes) (row : Row) (was : seen_at inputs v.seq raw ≡ Some row) (alive : is_orphan watch all row ≡ false) where
    there : Contains inputs row × (row.raw ≡ raw) × (row.seq ≤ v.seq)
    there = seen_is inputs v.seq raw row was

    is_seen_row : is_seen watch inputs row ≡ true
    is_seen_row = let s = sight raw row was in any_there (sees inputs row) watch s.w s.present s.sees

    same_orphan : (b : Bool) → is_orphan watch all (cond b (buried row) row) ≡ false
    same_orphan true = alive
    same_orphan false = alive

    -- it stays, or goes if it is idle
    left_by : (b i : Bool) → is_dead_to_all watch inputs row ≡ b → is_idle watch inputs deeper (cond b (buried row) row) ≡ i → left_of row ≡ cond (not i) (Some (cond b (buried row) row)) None
    left_by b i eb ei =
        ap (λ (x : Bool). cond x (cond (not (is_orphan watch all (bury watch inputs row))) (cond (not (is_idle watch inputs deeper (bury watch inputs row))) (Some (bury watch inputs row)) None) None) None) is_seen_row
        ∙ ap (λ (x : Bool). cond (not (is_orphan watch all (cond x (buried row) row))) (cond (not (is_idle watch inputs deeper (cond x (buried row) row))) (Some (cond x (buried row) row)) None) None) eb
        ∙ ap (λ (x : Bool). cond (not x) (cond (not (is_idle watch inputs deeper (cond b (buried row) row))) (Some (cond b (buried row) row)) None) None) (same_orphan b)
        ∙ ap (λ (x : Bool). cond (not x) (Some (cond b (buried row) row)) None) ei

    -- a row that all see is the only one of its raw key that anyone sees
    only_one : list_all (sees inputs row) watch ≡ true → left_of row ≡ None → seen_at left v.seq raw ≡ None
    only_one all_see none = nothing_left left_of inputs can.apart raws seqs v.seq raw (λ a o there_a of low e. never a o there_a of e)
      where
        never : (a o : Row) → Contains inputs a → a.raw ≡ raw → left_of a ≡ Some o → ⊥
        never a o there_a of e =
            let by = any_is (sees inputs a) watch (left_is watch inputs deeper all a o e).seen in
            let mine : sees inputs row by.0 ≡ true = all_there (sees inputs row) watch by.0 all_see by.1 in
            let raws_are : a.raw ≡ row.raw = of ∙ sym there.1 in
            let seqs_are : a.seq ≡ row.seq = same_seq (seen_at inputs by.0.seq row.raw) a.seq row.seq (sym (ap (λ (x : Bytes). has_seq a.seq (seen_at inputs by.0.seq x)) raws_are) ∙ by.2) mine in
            let one : a ≡ row = can.apart a row there_a there.0 raws_are seqs_are in
            let both : None ≡ Some o = sym none ∙ ap left_of (sym one) ∙ e in
            absurd (cc)

    none_deeper : not (has_raw row.raw deeper) ≡ true → has_raw raw deeper ≡ false
    none_deeper h = by_test (has_raw raw deeper) (sym (ap (λ (x : Bytes). not (has_raw x deeper)) there.1) ∙ h)
      where
        by_test : (b : Bool) → not b ≡ true → b ≡ false
        by_test true e = absurd (cc)
        by_test false e = refl

    is_nothing : (o : Option Bytes) → is_none o ≡ true → o ≡ None
    is_nothing None e = refl
    is_nothing (Some x) e = absurd (cc)

    fate_by : (b i : Bool) → is_dead_to_all watch inputs row ≡ b → is_idle watch inputs deeper (cond b (buried row) row) ≡ i → Fate raw
    fate_by false false eb ei = inl (stays left_of inputs can.apart raws seqs v.seq raw row row was (left_by false false eb ei) ∙ sym was)
    fate_by true false eb ei = inr (inl (record {
      row = row;
      was = was;
      is = stays left_of inputs can.apart raws seqs v.seq raw row (buried row) was (left_by true false eb ei);
      expired = expired_for row (sight raw row was) eb;
    }))
    fate_by true true eb ei =
        let two = both_first (is_none (buried row).value && list_all (sees inputs row) watch) (not (has_raw row.raw deeper)) ei in
        inr (inr (inl (record {
          row = row;
          was = was;
          is = only_one (both_second (is_none (buried row).value) (list_all (sees inputs row) watch) two) (left_by true true eb ei);
          deeper_has = none_deeper (both_second (is_none (buried row).value && list_all (sees inputs row) watch) (not (has_raw row.raw deeper)) ei);
          nothing = inr (expired_for row (sight raw row was) eb);
        })))
    fate_by false true eb ei =
        let two = both_first (is_none row.value && list_all (sees inputs row) watch) (not (has_raw row.raw deeper)) ei in
        inr (inr (inl (record {
          row = row;
          was = was;
          is = only_one (both_second (is_none row.value) (list_all (sees inputs row) watch) two) (left_by false true eb ei);
          deeper_has = none_deeper (both_second (is_none row.value && list_all (sees inputs row) watch) (not (has_raw row.raw deeper)) ei);
          nothing = inl (is_nothing row.value (both_first (is_none row.value) (list_all (sees inputs row) watch) two));
        })))

  fate : (raw : Bytes) → Fate raw
  fate raw = by_seen (seen_at inputs v.seq raw) refl
    where
      by_orphan : (row : Row) → seen_at inputs v.seq raw ≡ Some row → (b : Bool) → is_orphan watch all row ≡ b → Fate raw
      by_orphan row e true t = let it = seen_is inputs v.seq raw row e in inr (inr (inr (record { row = row; there = it.0; raw_is = it.1; orphan = t })))
      by_orphan row e false t = fate_by raw row e t (is_dead_to_all watch inputs row) (is_idle watch inputs deeper (bury watch inputs row)) refl refl

      by_seen : (o : Option Row) → seen_at inputs v.seq raw ≡ o → Fate raw
      by_seen None e = inl (still_nothing left_of inputs can.apart raws seqs v.seq raw e ∙ sym e)
      by_seen (Some row) e = by_orphan row e (is_orphan watch all row) refl

  -- ---- what is at a raw key

  abbrev c : Rows
  c = at (others ++ inputs) v.seq

  abbrev d : Rows
  d = at (others ++ left) v.seq

  abbrev value_of : Bytes → Option Row → Option Bytes
  value_of raw o = value_seen (newer (seen_at others v.seq raw) o)

  get_of : (rows : List Row) (raw : Bytes) → get (at (others ++ rows) v.seq) raw ≡ value_of raw (seen_at rows v.seq raw)
  get_of rows raw = get_at (others ++ rows) v.seq raw ∙ ap value_seen (seen_in_both others rows v.seq raw)

  record IsPast (raw : Bytes) : Type 0 where
    meta : is_meta (read_raw raw) ≡ true
    past : is_dead_meta v.moment (option_and_then read_meta (get c raw)) ≡ true
    gone : get d raw ≡ None

  abbrev Outcome : Bytes → Type 0
  Outcome raw = (get c raw ≡ get d raw) ⊎ (IsPast raw ⊎ IsOrphaned raw)

  past_row : (raw : Bytes) (row : Row) → seen_at inputs v.seq raw ≡ Some row → has_expired v.moment row ≡ true → get c raw ≡ row.value → get d raw ≡ None → IsPast raw
  past_row raw row was h here there = record {
    meta = sym (ap (λ (x : Bytes). is_meta (read_raw x)) (seen_is inputs v.seq raw row was).1) ∙ both_first (is_meta (read_raw row.raw)) (is_dead_meta v.moment (option_and_then read_meta row.value)) h;
    past = ap (λ (o : Option Bytes). is_dead_meta v.moment (option_and_then read_meta o)) here ∙ both_second (is_meta (read_raw row.raw)) (is_dead_meta v.moment (option_and_then read_meta row.value)) h;
    gone = there;
  }

  after_burial : (raw : Bytes) → IsBuried raw → Outcome raw
  after_burial raw b = by_alike (front_alike b.row (seen_at others v.seq raw) (Some b.row) (Some (buried b.row)) (inr (refl, refl)))
    where
      here : get c raw ≡ value_of raw (Some b.row)
      here = get_of inputs raw ∙ ap (value_of raw) b.was

      after : get d raw ≡ value_of raw (Some (buried b.row))
      after = get_of left raw ∙ ap (value_of raw) b.is

      by_alike : IsAlike (newer (seen_at others v.seq raw) (Some b.row)) (newer (seen_at others v.seq raw) (Some (buried b.row))) b.row → Outcome raw
      by_alike (inl same) = inl (here ∙ ap value_seen same ∙ sym after)
      by_alike (inr both) = inr (inl (past_row raw b.row b.was b.expired (here ∙ ap value_seen both.0) (after ∙ ap value_seen both.1)))

  after_going : (raw : Bytes) → IsGone raw → Outcome raw
  after_going raw g = by_others (seen_at others v.seq raw) refl
    where
      here : get c raw ≡ value_of raw (Some g.row)
      here = get_of inputs raw ∙ ap (value_of raw) g.was

      after : get d raw ≡ value_of raw None
      after = get_of left raw ∙ ap (value_of raw) g.is

      never_deeper : has_raw g.row.raw deeper ≡ true → g.row.raw ≡ raw → ⊥
      never_deeper deep is = let no : false ≡ true = sym g.deeper_has ∙ ap (λ (x : Bytes). has_raw x deeper) (sym is) ∙ deep in absurd (cc)

      by_others : (n : Option Row) → seen_at others v.seq raw ≡ n → Outcome raw
      by_others None e = by_nothing g.nothing
        where
          gone : get d raw ≡ None
          gone = after ∙ ap (λ (n : Option Row). value_seen (newer n None)) e

          was : get c raw ≡ g.row.value
          was = here ∙ ap (λ (n : Option Row). value_seen (newer n (Some g.row))) e

          by_nothing : (g.row.value ≡ None) ⊎ (has_expired v.moment g.row ≡ true) → Outcome raw
          by_nothing (inl none) = inl (was ∙ none ∙ sym gone)
          by_nothing (inr expired) = inr (inl (past_row raw g.row g.was expired was gone))
      by_others (Some z) e = by_place (can.placed z g.row top.0 it.0 (top.1 ∙ sym it.1))
        where
          top : Contains others z × (z.raw ≡ raw) × (z.seq ≤ v.seq)
          top = seen_is others v.seq raw z e

          it : Contains inputs g.row × (g.row.raw ≡ raw) × (g.row.seq ≤ v.seq)
          it = seen_is inputs v.seq raw g.row g.was

          by_place : (g.row.seq < z.seq) ⊎ ((z.seq < g.row.seq) × (has_raw g.row.raw deeper ≡ true)) → Outcome raw
          by_place (inl high) =
              let test : nat_lt z.seq g.row.seq ≡ false = grind (arith, nat_tests) in
              inl (
              here ∙ ap (λ (n : Option Row). value_seen (newer n (Some g.row))) e
              ∙ ap (λ (b : Bool). value_seen (cond b (Some g.row) (Some z))) test
              ∙ sym (after ∙ ap (λ (n : Option Row). value_seen (newer n None)) e)
              )
          by_place (inr low) = absurd (never_deeper low.1 it.1)

  outcome : (raw : Bytes) → Outcome raw
  outcome raw = by_fate (fate raw)
    where
      by_fate : Fate raw → Outcome raw
      by_fate (inl same) = inl (get_of inputs raw ∙ ap (value_of raw) (sym same) ∙ sym (get_of left raw))
      by_fate (inr (inl b)) = after_burial raw b
      by_fate (inr (inr (inl g))) = after_going raw g
      by_fate (inr (inr (inr o))) = inr (inr o)

  -- ---- what counts

  abbrev live_in : Option Bytes → Option MetaValue
  live_in o = kept (is_live v.moment) (option_and_then read_meta o)

  live_same : (k : Bytes) → live_at c v.moment k ≡ live_at d v.moment k
  unfolding live_at
  live_same k = by_outcome (outcome (meta_key k))
    where
      by_outcome : Outcome (meta_key k) → live_in (get c (meta_key k)) ≡ live_in (get d (meta_key k))
      by_outcome (inl same) = ap live_in same
      by_outcome (inr (inl p)) = past_none v.moment (option_and_then read_meta (get c (meta_key k))) p.past ∙ sym (ap live_in p.gone)
      by_outcome (inr (inr o)) =
          let no : is_orphaned watch all None ≡ true = sym (ap (λ (x : Bytes). is_orphaned watch all (row_life (read_raw x))) o.raw_is ∙ ap (is_orphaned watch all) (no_life_of_meta k)) ∙ o.orphan in
          absurd (cc)

  counts_same : (r : Option RawKey) (value : Bytes) → counts c v.moment r value ≡ counts d v.moment r value
  counts_same None value = refl
  counts_same (Some (MetaKey k)) value = refl
  counts_same (Some (ElementKey k version subkey)) value = ap (λ o. is_version_of (option_and_then version_of o) version) (live_same k)
  counts_same (Some (ScoreKey k version score member)) value = ap (λ o. is_version_of (option_and_then version_of o) version) (live_same k)

  pub left_is_clean : AreDead watch inputs all c v.moment → clean d v.moment ≡ clean c v.moment
  left_is_clean dead = same_map (clean d v.moment) (clean c v.moment) (λ raw.
      get-clean d v.moment raw
      ∙ kept_alike (counts d v.moment (read_raw raw)) (counts c v.moment (read_raw raw)) (get d raw) (λ value e. sym (counts_same (read_raw raw) value))
      ∙ by_outcome raw (outcome raw)
      ∙ sym (get-clean c v.moment raw))
    where
      by_outcome : (raw : Bytes) → Outcome raw → kept (counts c v.moment (read_raw raw)) (get d raw) ≡ kept (counts c v.moment (read_raw raw)) (get c raw)
      by_outcome raw (inl same) = ap (kept (counts c v.moment (read_raw raw))) (sym same)
      by_outcome raw (inr (inl p)) = ap (kept (counts c v.moment (read_raw raw))) p.gone ∙ sym (past_counts_not c v.moment (read_raw raw) (get c raw) p.meta p.past)
      by_outcome raw (inr (inr o)) =
          let orphan : is_orphaned watch all (row_life (read_raw raw)) ≡ true = sym (ap (λ (x : Bytes). is_orphaned watch all (row_life (read_raw x))) o.raw_is) ∙ o.orphan in
          let gone : IfSome (row_life (read_raw raw)) (IsDead c v.moment) = subst (λ (x : Bytes). IfSome (row_life (read_raw x)) (IsDead c v.moment)) o.raw_is (dead o.row o.there o.orphan) in
          orphan_counts_not watch all c v.moment (read_raw raw) (get d raw) orphan gone
          ∙ sym (orphan_counts_not watch all c v.moment (read_raw raw) (get c raw) orphan gone)

-- What the rules leave, in the place of the inputs, is as clean for a watcher as the inputs were, where the lives whose rows
-- went are dead for it.
pub kept_is_clean : (watch : List Watcher) (now : Watcher) (others inputs deeper all : List Row) (v : Watcher) → CanReplace watch now others inputs deeper → IsWatched watch now v
    → AreDead watch inputs all (at (others ++ inputs) v.seq) v.moment
    → clean (at (others ++ rules.kept_rows watch inputs deeper all) v.seq) v.moment ≡ clean (at (others ++ inputs) v.seq) v.moment
kept_is_clean watch now others inputs deeper all v can watched dead =
    ap (λ (rows : List Row). clean (at (others ++ rows) v.seq) v.moment) (kept_is watch inputs deeper all) ∙ left_is_clean watch now others inputs deeper all v can watched dead
