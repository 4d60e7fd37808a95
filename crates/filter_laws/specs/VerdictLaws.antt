-- What a compaction keeps is the verdict of each input row, by true notes.
use Rattle.std.proofs.Common.{◌≡◌, ◌≢◌, ℕ, ◌<◌, ◌≤◌, List, [], ◌∷◌, refl, sym, ap, ◌∙◌, Bool, true, false, cond, Option, Some, None, arith}
use Rattle.std.proofs.lemmas.Bool.Decides.{nat_tests}
use Rattle.std.specs.Prelude.{◌&&◌, ◌||◌, ◌==◌, not, nat_lt, nat_le, map, is_none}
use Rattle.std.specs.List.{list_any, list_all, Contains, filter_map, cons_option}
use Rattle.kv_base.specs.InversionLaws.{number_is}
use Rattle.kv_base.specs.RawKeys.{RawKey, MetaKey, ElementKey, ScoreKey, read_raw}
use Rattle.kv_base.specs.declared.row.Row.{Row}
use Rattle.row_model.specs.Rows.{seen_at, AreApart}
use Rattle.row_model.specs.RowLaws.{there_first, there_behind, seen_is, seen_least}
use Rattle.lives_model.specs.Clean.{is_version_of}
use Rattle.lives_model.specs.StepLaws.{number_itself}
use Rattle.filter_laws.specs.Watchers.{Watcher}
use Rattle.filter_laws.specs.Kept.{has_seq, sees, is_seen, is_dead_to_all, has_expired, buried, row_life, is_orphaned, is_orphan, has_raw, is_idle}
use Rattle.filter_laws.specs.Kept as rules
use Rattle.filter_laws.specs.declared.verdict.Verdict.TheVariants.{Keep, Bury, Drop}
use Rattle.filter_laws.specs.Verdict.{Notes, is_before_next, shows, is_shown, has_ended, has_no_life, verdict, after_verdict, IsNextNewer, version_seen, AreTrue}
use Rattle.filter_laws.specs.KeptRowLaws.{by_rules, kept_is, newest_unique}

-- ---- who sees a row

has_other : (o : Option Row) (seq : ℕ) → ((r : Row) → o ≡ Some r → r.seq ≢ seq) → has_seq seq o ≡ false
has_other None seq h = refl
has_other (Some r) seq h = by_test (r.seq == seq) refl
  where
    by_test : (b : Bool) → (r.seq == seq) ≡ b → b ≡ false
    by_test true t = absurd (h r refl (number_is r.seq seq t))
    by_test false t = refl

module _ (inputs : List Row) (apart : AreApart inputs) (row : Row) (there : Contains inputs row) (w : Watcher) where
  is_greatest : row.seq ≤ w.seq → ((o : Row) → Contains inputs o → o.raw ≡ row.raw → o.seq ≤ w.seq → o.seq ≤ row.seq) → sees inputs row w ≡ true
  is_greatest low greatest = ap (has_seq row.seq) (newest_unique inputs w.seq row.raw row apart there refl low greatest) ∙ number_itself row.seq

  is_above : w.seq < row.seq → sees inputs row w ≡ false
  is_above high = has_other (seen_at inputs w.seq row.raw) row.seq (λ r e is. let low = (seen_is inputs w.seq row.raw r e).2 in omega arith)

  is_under : (o : Row) → Contains inputs o → o.raw ≡ row.raw → row.seq < o.seq → o.seq ≤ w.seq → sees inputs row w ≡ false
  is_under o too of high low = has_other (seen_at inputs w.seq row.raw) row.seq (λ r e is.
      let least = seen_least inputs w.seq row.raw o too of low in
      let one : Some least.0 ≡ Some r = sym least.1 ∙ e in
      let seq : least.0.seq ≡ r.seq = cc in
      let up = least.2 in
      omega arith)

  -- a watcher sees the row that is not above its sequence, where the next newer one is
  pub shows_is : (next : Option ℕ) → IsNextNewer inputs row next → shows row next w ≡ sees inputs row w
  shows_is next is = by_low (nat_le row.seq w.seq) refl
    where
      by_next : (n : Option ℕ) → IsNextNewer inputs row n → row.seq ≤ w.seq → is_before_next w.seq n ≡ sees inputs row w
      by_next None is low = sym (is_greatest low (λ o too of under. is o too of))
      by_next (Some n) is low = by_test (nat_lt w.seq n) refl
        where
          under_next : w.seq < n → (o : Row) → Contains inputs o → o.raw ≡ row.raw → o.seq ≤ w.seq → (b : Bool) → nat_lt row.seq o.seq ≡ b → o.seq ≤ row.seq
          under_next below o too of under true t = let high : row.seq < o.seq = grind (arith, nat_tests) in let up = is.2 o too of high in absurd (omega arith)
          under_next below o too of under false t = grind (arith, nat_tests)

          by_test : (b : Bool) → nat_lt w.seq n ≡ b → b ≡ sees inputs row w
          by_test true t = let below : w.seq < n = grind (arith, nat_tests) in sym (is_greatest low (λ o too of under. under_next below o too of under (nat_lt row.seq o.seq) refl))
          by_test false t =
              let from : n ≤ w.seq = grind (arith, nat_tests) in
              let high = is.0 in
              let seq = is.1.3 in
              sym (is_under is.1.0 is.1.1 is.1.2 (omega arith) (omega arith))

      by_low : (b : Bool) → nat_le row.seq w.seq ≡ b → (b && is_before_next w.seq next) ≡ sees inputs row w
      by_low true t = by_next next is (grind (arith, nat_tests))
      by_low false t = sym (is_above (grind (arith, nat_tests)))

-- ---- whose life it is

any_map : {X Y : Type 0} (p : Y → Bool) (f : X → Y) (xs : List X) → list_any p (map f xs) ≡ list_any (λ x. p (f x)) xs
any_map p f [] = refl
any_map p f (x ∷ xs) = ap (λ b. p (f x) || b) (any_map p f xs)

lives_are : (watch : List Watcher) (all : List Row) (r : Option RawKey) (lives : List (Option ℕ)) → lives ≡ map (version_seen all r) watch → has_no_life lives (row_life r) ≡ is_orphaned watch all (row_life r)
lives_are watch all None lives e = refl
lives_are watch all (Some (MetaKey k)) lives e = refl
lives_are watch all (Some (ElementKey k version subkey)) lives e =
    ap (λ (os : List (Option ℕ)). not (list_any (λ o. is_version_of o version) os)) e
    ∙ ap not (any_map (λ (o : Option ℕ). is_version_of o version) (version_seen all (Some (ElementKey k version subkey))) watch)
lives_are watch all (Some (ScoreKey k version score member)) lives e =
    ap (λ (os : List (Option ℕ)). not (list_any (λ o. is_version_of o version) os)) e
    ∙ ap not (any_map (λ (o : Option ℕ). is_version_of o version) (version_seen all (Some (ScoreKey k version score member))) watch)

-- ---- the verdict

-- seen, orphaned, expired, a delete, seen by all, and deeper
combined : (row : Row) (s o e n a h : Bool)
    → cond s (cond (not o) (cond (not (cond e true n && a && not h)) (Some (cond e (buried row) row)) None) None) None ≡ after_verdict (cond (not s || o || ((n || e) && a && not h)) Drop (cond e Bury Keep)) row
combined row false o e n a h = refl
combined row true true e n a h = refl
combined row true false true true true true = refl
combined row true false true true true false = refl
combined row true false true true false h = refl
combined row true false true false true true = refl
combined row true false true false true false = refl
combined row true false true false false h = refl
combined row true false false true true true = refl
combined row true false false true true false = refl
combined row true false false true false h = refl
combined row true false false false a h = refl

module _ (watch : List Watcher) (inputs deeper all : List Row) (apart : AreApart inputs) (row : Row) (there : Contains inputs row) (notes : Notes) (are : AreTrue watch inputs deeper all row notes) where
  same_sight : shows row notes.newer ≡ sees inputs row
  same_sight = λ i w. shows_is inputs apart row there w notes.newer are.next i

  same_seen : is_shown row watch notes.newer ≡ is_seen watch inputs row
  same_seen = ap (λ (p : Watcher → Bool). list_any p watch) same_sight

  same_end : has_ended row watch notes.newer ≡ is_dead_to_all watch inputs row
  same_end = ap (λ (p : Watcher → Bool). list_all (λ w. not (p w) || has_expired w.moment row) watch) same_sight

  same_all : list_all (shows row notes.newer) watch ≡ list_all (sees inputs row) watch
  same_all = ap (λ (p : Watcher → Bool). list_all p watch) same_sight

  same_orphan : has_no_life notes.lives (row_life (read_raw row.raw)) ≡ is_orphan watch all row
  same_orphan = lives_are watch all (read_raw row.raw) notes.lives are.versions

  abbrev by_marks : Bool → Bool → Bool → Bool → Bool → Option Row
  by_marks s o e a h = after_verdict (cond (not s || o || ((is_none row.value || e) && a && not h)) Drop (cond e Bury Keep)) row

  verdict_by : after_verdict (verdict row watch notes) row ≡ by_marks (is_seen watch inputs row) (is_orphan watch all row) (is_dead_to_all watch inputs row) (list_all (sees inputs row) watch) (has_raw row.raw deeper)
  unfolding verdict
  verdict_by = λ i. by_marks (same_seen i) (same_orphan i) (same_end i) (same_all i) (are.deep i)

  -- the rules on a row that is buried or stays
  buried_by : (e : Bool) → cond (not (is_orphan watch all (cond e (buried row) row))) (cond (not (is_idle watch inputs deeper (cond e (buried row) row))) (Some (cond e (buried row) row)) None) None
      ≡ cond (not (is_orphan watch all row)) (cond (not (cond e true (is_none row.value) && list_all (sees inputs row) watch && not (has_raw row.raw deeper))) (Some (cond e (buried row) row)) None) None
  buried_by true = refl
  buried_by false = refl

  -- what the rules leave of a row is what its verdict does
  pub verdict_is : by_rules watch inputs deeper all row ≡ after_verdict (verdict row watch notes) row
  verdict_is =
      ap (λ (o : Option Row). cond (is_seen watch inputs row) o None) (buried_by (is_dead_to_all watch inputs row))
      ∙ combined row (is_seen watch inputs row) (is_orphan watch all row) (is_dead_to_all watch inputs row) (is_none row.value) (list_all (sees inputs row) watch) (has_raw row.raw deeper)
      ∙ sym verdict_by

left_alike : (g h : Row → Option Row) (rows : List Row) → ((row : Row) → Contains rows row → g row ≡ h row) → filter_map g rows ≡ filter_map h rows
left_alike g h [] same = refl
left_alike g h (x ∷ xs) same = λ i. cons_option (same x (there_first xs x) i) (left_alike g h xs (λ row there. same row (there_behind xs row x there)) i)

-- What a compaction keeps is what the verdict of each input row leaves of it, where the notes on each are true.
pub kept_is_verdict : (watch : List Watcher) (inputs deeper all : List Row) (notes : Row → Notes) → AreApart inputs → ((row : Row) → Contains inputs row → AreTrue watch inputs deeper all row (notes row))
    → rules.kept_rows watch inputs deeper all ≡ filter_map (λ row. after_verdict (verdict row watch (notes row)) row) inputs
kept_is_verdict watch inputs deeper all notes apart true_notes =
    kept_is watch inputs deeper all
    ∙ left_alike (by_rules watch inputs deeper all) (λ row. after_verdict (verdict row watch (notes row)) row) inputs (λ row there. verdict_is watch inputs deeper all apart row there (notes row) (true_notes row there))
