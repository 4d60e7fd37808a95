-- Laws on what stands in `RowMaps.antt`.
use Rattle.std.proofs.Common.{◌≡◌, ℕ, ◌<◌, List, [], ◌∷◌, ◌++◌, refl, sym, ap, ◌∙◌, Bool, true, false, cond, Option, Some, None, arith}
use Rattle.std.specs.Prelude.{nat_lt, nat_le, ◌&&◌, IsTrue, option_map, option_and_then}
use Rattle.std.proofs.lemmas.Bool.Decides.{nat_tests}
use Rattle.kv_base.specs.Map.{Bytes, Map, same, same_is, same_map, get, insert, get-empty, get-insert, get-choose}
use Rattle.batch_codec.specs.Batches.{Batch, after, over}
use Rattle.batch_codec.specs.BatchLaws.{get-after}
use Rattle.kv_base.specs.declared.row.Row.{Row}
use Rattle.row_model.specs.Rows.{are_upto, shown_at, newer, seen_at, is_newer, newest, at, batch_rows, AreApart, HaveSameRows}
use Rattle.row_model.specs.RowOrder.{merged}
use Rattle.row_model.specs.RowLaws.{seen_in_both, same_newest, as_row, batch_shows, batch_hides, seen_on, newest_front}
use Rattle.row_model.specs.MergingLaws.{seen_merged}
use Rattle.row_model.specs.RowMaps.{value_seen}

noted : (row : Row) (o : Option Row) → cond (is_newer row o) (Some row) o ≡ newer (Some row) o
noted row None = refl
noted row (Some other) = by_test (nat_lt row.seq other.seq) refl
  where
    by_test : (b : Bool) → nat_lt row.seq other.seq ≡ b → cond (nat_le other.seq row.seq) (Some row) (Some other) ≡ cond b (Some other) (Some row)
    by_test true t = let test : nat_le other.seq row.seq ≡ false = grind (arith, nat_tests) in ap (λ b. cond b (Some row) (Some other)) test
    by_test false t = let test : nat_le other.seq row.seq ≡ true = grind (arith, nat_tests) in ap (λ b. cond b (Some row) (Some other)) test

-- one row more
get-noted : (row : Row) (s : ℕ) (m : Map Row) (raw : Bytes) → get (cond (nat_le row.seq s && is_newer row (get m row.raw)) (insert m row.raw row) m) raw ≡ newer (shown_at s raw row) (get m raw)
get-noted row s m raw = by_key (same raw row.raw) refl
  where
    by_key : (k : Bool) → same raw row.raw ≡ k → get (cond (nat_le row.seq s && is_newer row (get m row.raw)) (insert m row.raw row) m) raw ≡ newer (cond (k && nat_le row.seq s) (Some row) None) (get m raw)
    by_key true t = by_low (nat_le row.seq s)
      where
        here : get m row.raw ≡ get m raw
        here = ap (get m) (sym (same_is raw row.raw t))

        by_newer : (b : Bool) → get (cond b (insert m row.raw row) m) raw ≡ cond b (Some row) (get m raw)
        by_newer true = get-insert m row.raw row raw ∙ ap (λ b. cond b (Some row) (get m raw)) t
        by_newer false = refl

        by_low : (b : Bool) → get (cond (b && is_newer row (get m row.raw)) (insert m row.raw row) m) raw ≡ newer (cond b (Some row) None) (get m raw)
        by_low true = by_newer (is_newer row (get m row.raw)) ∙ ap (λ o. cond (is_newer row o) (Some row) (get m raw)) here ∙ noted row (get m raw)
        by_low false = refl
    by_key false t = by_put (nat_le row.seq s && is_newer row (get m row.raw))
      where
        by_put : (b : Bool) → get (cond b (insert m row.raw row) m) raw ≡ get m raw
        by_put true = get-insert m row.raw row raw ∙ ap (λ b. cond b (Some row) (get m raw)) t
        by_put false = refl

pub get-newest : (rows : List Row) (s : ℕ) (raw : Bytes) → get (newest rows s) raw ≡ seen_at rows s raw
unfolding newest seen_at
get-newest [] s raw = get-empty raw
get-newest (row ∷ rows) s raw = get-noted row s (newest rows s) raw ∙ ap (newer (shown_at s raw row)) (get-newest rows s raw)

pub get_at : (rows : List Row) (s : ℕ) (raw : Bytes) → get (at rows s) raw ≡ option_and_then (λ row. row.value) (seen_at rows s raw)
unfolding at
get_at rows s raw = get-choose (λ row. row.value) (newest rows s) raw ∙ ap value_seen (get-newest rows s raw)

-- what shows alike is one map
pub at_alike : (rows others : List Row) (s t : ℕ) → ((raw : Bytes) → seen_at rows s raw ≡ seen_at others t raw) → at rows s ≡ at others t
at_alike rows others s t alike = same_map (at rows s) (at others t) (λ raw. get_at rows s raw ∙ ap value_seen (alike raw) ∙ sym (get_at others t raw))

pub same_rows_alike : (rows others : List Row) (s : ℕ) → AreApart rows → HaveSameRows rows others → at others s ≡ at rows s
same_rows_alike rows others s apart same = at_alike others rows s s (λ raw. same_newest rows others s raw apart same)

pub at_merged : (rows more : List Row) (s : ℕ) → at (merged rows more) s ≡ at (more ++ rows) s
at_merged rows more s = at_alike (merged rows more) (more ++ rows) s s (λ raw. seen_merged rows more s raw)

pub at_before_batch : (rows : List Row) (s seq : ℕ) (batch : Batch) → s < seq → at (batch_rows seq batch ++ rows) s ≡ at rows s
at_before_batch rows s seq batch low =
    at_alike (batch_rows seq batch ++ rows) rows s s (λ raw. seen_in_both (batch_rows seq batch) rows s raw ∙ ap (λ o. newer o (seen_at rows s raw)) (batch_hides seq s batch raw low))

pub at_batch : (rows : List Row) (last seq : ℕ) (batch : Batch) → IsTrue (are_upto last rows) → last < seq → at (batch_rows seq batch ++ rows) seq ≡ after (at rows last) batch
at_batch rows last seq batch h high =
    same_map (at (batch_rows seq batch ++ rows) seq) (after (at rows last) batch) (λ raw.
    get_at (batch_rows seq batch ++ rows) seq raw ∙ ap value_seen (shows raw) ∙ values raw (get batch raw) ∙ sym (get-after (at rows last) batch raw))
  where
    shows : (raw : Bytes) → seen_at (batch_rows seq batch ++ rows) seq raw ≡ newer (option_map (as_row seq raw) (get batch raw)) (seen_at rows seq raw)
    shows raw = seen_in_both (batch_rows seq batch) rows seq raw ∙ ap (λ o. newer o (seen_at rows seq raw)) (batch_shows seq seq batch raw (omega arith))

    values : (raw : Bytes) (o : Option (Option Bytes)) → value_seen (newer (option_map (as_row seq raw) o) (seen_at rows seq raw)) ≡ over o (get (at rows last) raw)
    values raw None = ap value_seen (seen_on rows last seq raw h (omega arith)) ∙ sym (get_at rows last raw)
    values raw (Some value) = ap value_seen (newest_front (as_row seq raw value) rows last seq raw h high)
