-- The rows that a compaction keeps are input rows and burials of them: on their grammar, in order, and apart from the others.
use Rattle.std.proofs.Common.{◌≡◌, ◌<◌, ℕ, List, [], ◌∷◌, ◌++◌, refl, sym, ap, subst, ◌∙◌, Bool, true, false, inl, inr, arith}
use Rattle.std.specs.Prelude.{◌⊎◌, ◌&&◌, nat_le, Option, Some, None, is_some, IsTrue}
use Rattle.std.specs.List.{list_all, Contains, filter_map, cons_option}
use Rattle.std.specs.Ordering.{nat_cmp, ordering_then, is_lt}
use Rattle.std.proofs.lemmas.List.Elements.{Contains-append_cases}
use Rattle.kv_base.specs.Map.{Bytes, byte_cmp, same, same_itself}
use Rattle.kv_base.specs.InversionLaws.{both_first, both_second}
use Rattle.kv_base.specs.RawKeys.{RawKey, read_raw, is_raw_text}
use Rattle.kv_base.specs.MetaValues.{is_value_text, is_value_of}
use Rattle.batch_codec.specs.Batches.{is_row}
use Rattle.kv_base.specs.declared.row.Row.{Row}
use Rattle.row_model.specs.Rows.{is_row_text, are_row_texts, are_upto, AreApart}
use Rattle.row_model.specs.RowOrder.{row_cmp, leads, is_ordered}
use Rattle.row_model.specs.RowLaws.{there_first, there_behind}
use Rattle.filter_laws.specs.Watchers.{Watcher}
use Rattle.filter_laws.specs.Kept.{buried, is_dead_to_all, has_raw, IsRowOrBurial}
use Rattle.filter_laws.specs.Kept as rules
use Rattle.filter_laws.specs.KeptRowLaws.{any_there, all_there, from_left, by_rules, kept_is, left_is, apart_left}
use Rattle.filter_laws.specs.Replaced.{AreNewer, ArePlaced}

both_true : (a b : Bool) → a ≡ true → b ≡ true → (a && b) ≡ true
both_true true b e f = f
both_true false b e f = cc

-- what each row passes all do
pub all_pass : (p : Row → Bool) (rows : List Row) → ((row : Row) → Contains rows row → p row ≡ true) → list_all p rows ≡ true
all_pass p [] h = refl
all_pass p (x ∷ xs) h = both_true (p x) (list_all p xs) (h x (there_first xs x)) (all_pass p xs (λ row there. h row (there_behind xs row x there)))

-- ---- in order

same_place : (row a other b : Row) → row.raw ≡ a.raw → row.seq ≡ a.seq → other.raw ≡ b.raw → other.seq ≡ b.seq → row_cmp row other ≡ row_cmp a b
same_place row a other b raw seq raw_too seq_too = λ i. ordering_then (byte_cmp (raw i) (raw_too i)) (nat_cmp (seq_too i) (seq i))

module _ (g : Row → Option Row) (raws : (row o : Row) → g row ≡ Some o → o.raw ≡ row.raw) (seqs : (row o : Row) → g row ≡ Some o → o.seq ≡ row.seq) where
  leads_left : (row o : Row) (rows : List Row) → g row ≡ Some o → leads row rows ≡ true → leads o (filter_map g rows) ≡ true
  leads_left row o rows e h = all_pass (λ other. is_lt (row_cmp o other)) (filter_map g rows) (λ p there.
      let a = from_left g rows p there in
      ap is_lt (same_place o row p a.0 (raws row o e) (seqs row o e) (raws a.0 p a.2) (seqs a.0 p a.2)) ∙ all_there (λ other. is_lt (row_cmp row other)) rows a.0 h a.1)

  -- rows of which some go and the others keep their places stay in order
  pub ordered_left : (rows : List Row) → is_ordered rows ≡ true → is_ordered (filter_map g rows) ≡ true
  unfolding is_ordered
  ordered_left [] h = refl
  ordered_left (x ∷ xs) h = by_first (ordered_left xs (both_second (leads x xs) (is_ordered xs) h)) (g x) refl
    where
      by_first : is_ordered (filter_map g xs) ≡ true → (o : Option Row) → g x ≡ o → is_ordered (cons_option o (filter_map g xs)) ≡ true
      by_first rest None e = rest
      by_first rest (Some o) e = both_true (leads o (filter_map g xs)) (is_ordered (filter_map g xs)) (leads_left x o xs e (both_first (leads x xs) (is_ordered xs) h)) rest

-- ---- on the grammar

raw_of_row : (raw : Bytes) (o : Option Bytes) → is_row (raw, o) ≡ true → is_raw_text raw ≡ true
unfolding is_value_text
raw_of_row raw None h = h
raw_of_row raw (Some value) h = by_read (read_raw raw) h
  where
    by_read : (r : Option RawKey) → is_value_of r value ≡ true → is_some r ≡ true
    by_read None h = h
    by_read (Some r) h = refl

module _ (watch : List Watcher) (inputs deeper all : List Row) where
  -- each is a row of the inputs or its burial
  pub kept_row : (o : Row) → Contains (rules.kept_rows watch inputs deeper all) o → (row : Row) × Contains inputs row × IsRowOrBurial watch inputs row o
  kept_row o there =
      let a = from_left (by_rules watch inputs deeper all) inputs o (subst (λ (rows : List Row). Contains rows o) (kept_is watch inputs deeper all) there) in
      (a.0, a.1, left_is watch inputs deeper all a.0 o a.2)

  -- they are in order, as the inputs are
  pub kept_in_order : IsTrue (is_ordered inputs) → IsTrue (is_ordered (rules.kept_rows watch inputs deeper all))
  kept_in_order h =
      ap is_ordered (kept_is watch inputs deeper all)
      ∙ ordered_left (by_rules watch inputs deeper all) (λ row o e. (left_is watch inputs deeper all row o e).raw) (λ row o e. (left_is watch inputs deeper all row o e).seq) inputs h

  -- they are on the grammar
  pub kept_on_grammar : IsTrue (are_row_texts inputs) → IsTrue (are_row_texts (rules.kept_rows watch inputs deeper all))
  kept_on_grammar h = all_pass is_row_text (rules.kept_rows watch inputs deeper all) (λ o there.
      let a = kept_row o there in
      by_kind o a.0 (all_there is_row_text inputs a.0 h a.1) a.2.is)
    where
      by_kind : (o row : Row) → is_row_text row ≡ true → (o ≡ row) ⊎ ((o ≡ buried row) × (is_dead_to_all watch inputs row ≡ true)) → is_row_text o ≡ true
      by_kind o row text (inl is) = ap is_row_text is ∙ text
      by_kind o row text (inr both) = ap is_row_text both.0 ∙ raw_of_row row.raw row.value text

  -- they are not above what the inputs are not above
  pub kept_upto : (last : ℕ) → IsTrue (are_upto last inputs) → IsTrue (are_upto last (rules.kept_rows watch inputs deeper all))
  kept_upto last h = all_pass (λ row. nat_le row.seq last) (rules.kept_rows watch inputs deeper all) (λ o there.
      let a = kept_row o there in
      ap (λ n. nat_le n last) a.2.seq ∙ all_there (λ row. nat_le row.seq last) inputs a.0 h a.1)

  -- they are newer and older than what the inputs are newer and older than
  pub kept_older : (above : List Row) → AreNewer above inputs → AreNewer above (rules.kept_rows watch inputs deeper all)
  kept_older above h row o there too is = let a = kept_row o too in let low = h row a.0 there a.1 (is ∙ a.2.raw) in let seq = a.2.seq in omega arith

  -- they are newer than what the inputs are newer than
  pub kept_newer : (below : List Row) → AreNewer inputs below → AreNewer (rules.kept_rows watch inputs deeper all) below
  kept_newer below h o other there too is = let a = kept_row o there in let low = h a.0 other a.1 too (sym a.2.raw ∙ is) in let seq = a.2.seq in omega arith

  -- no two of them have raw key and sequence equal
  pub kept_apart : AreApart inputs → AreApart (rules.kept_rows watch inputs deeper all)
  kept_apart apart =
      subst AreApart (sym (kept_is watch inputs deeper all))
      (apart_left (by_rules watch inputs deeper all) inputs apart (λ row o e. (left_is watch inputs deeper all row o e).raw) (λ row o e. (left_is watch inputs deeper all row o e).seq))

  -- no other row has raw key and sequence of one of them
  pub kept_untied : (others : List Row) (other o : Row) → ArePlaced others inputs deeper → Contains others other → Contains (rules.kept_rows watch inputs deeper all) o → other.raw ≡ o.raw → other.seq ≡ o.seq → ⊥
  kept_untied others other o placed there too raw seq = by_place (placed other a.0 there a.1 (raw ∙ a.2.raw))
    where
      a : (row : Row) × Contains inputs row × IsRowOrBurial watch inputs row o
      a = kept_row o too

      by_place : (a.0.seq < other.seq) ⊎ ((other.seq < a.0.seq) × IsTrue (has_raw a.0.raw deeper)) → ⊥
      by_place (inl high) = let e = a.2.seq in omega (arith, high, e, seq)
      by_place (inr low) = let e = a.2.seq in let l = low.0 in omega (arith, l, e, seq)

  -- so they are apart from the others
  pub kept_apart_from : (others : List Row) → AreApart others → AreApart inputs → ArePlaced others inputs deeper → AreApart (others ++ rules.kept_rows watch inputs deeper all)
  kept_apart_from others apart_others apart placed x y there too raw seq =
      by_parts (Contains-append_cases others (rules.kept_rows watch inputs deeper all) x there) (Contains-append_cases others (rules.kept_rows watch inputs deeper all) y too)
    where
      by_parts : Contains others x ⊎ Contains (rules.kept_rows watch inputs deeper all) x → Contains others y ⊎ Contains (rules.kept_rows watch inputs deeper all) y → x ≡ y
      by_parts (inl a) (inl b) = apart_others x y a b raw seq
      by_parts (inr a) (inr b) = kept_apart apart x y a b raw seq
      by_parts (inl a) (inr b) = absurd (kept_untied others x y placed a b raw seq)
      by_parts (inr a) (inl b) = absurd (kept_untied others y x placed b a (sym raw) (sym seq))

-- ---- rows that stand in order

-- a list that has a row has its raw key
pub raw_there : (rows : List Row) (row : Row) (raw : Bytes) → Contains rows row → row.raw ≡ raw → has_raw raw rows ≡ true
raw_there rows row raw there is = any_there (λ (r : Row). same raw r.raw) rows row there (ap (same raw) is ∙ same_itself raw)

-- rows above the inputs are newer, and deeper ones older
pub placed_in_order : (above inputs deeper : List Row) → AreNewer above inputs → AreNewer inputs deeper → ArePlaced (above ++ deeper) inputs deeper
placed_in_order above inputs deeper newer older other row there too raw = by_place (Contains-append_cases above deeper other there)
  where
    by_place : Contains above other ⊎ Contains deeper other → (row.seq < other.seq) ⊎ ((other.seq < row.seq) × IsTrue (has_raw row.raw deeper))
    by_place (inl a) = inl (newer other row a too raw)
    by_place (inr d) = inr (older row other too d (sym raw), raw_there deeper other row.raw d raw)
