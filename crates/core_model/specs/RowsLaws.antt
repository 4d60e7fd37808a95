-- What the rows of a core are at a sequence, and what a batch adds to them.
use Rattle.std.proofs.Common.{◌≡◌, ℕ, ◌+◌, ◌≤◌, List, ◌++◌, refl, sym, ap, subst, ◌∙◌, true, append_assoc, arith}
use Rattle.std.proofs.lemmas.Bool.Decides.{nat_tests}
use Rattle.std.specs.Prelude.{nat_le, Option, Some, None, IsTrue, IfSome, option_and_then}
use Rattle.std.specs.List.{Contains}
use Rattle.kv_base.specs.Map.{Bytes}
use Rattle.kv_base.specs.MetaValues.{is_value_text}
use Rattle.batch_codec.specs.Batches.{Batch, after, is_row}
use Rattle.kv_base.specs.declared.row.Row.{Row}
use Rattle.row_model.specs.Rows.{at, are_upto, are_row_texts, is_row_text, newer, seen_at, batch_rows}
use Rattle.row_model.specs.RowOrder.{merged}
use Rattle.row_model.specs.RowLaws.{seen_in_both, seen_is}
use Rattle.row_model.specs.RowMapLaws.{get_at, at_alike, at_batch, at_before_batch}
use Rattle.row_model.specs.MergingLaws.{seen_merged}
use Rattle.lives_model.specs.Rows.{IsOnGrammar}
use Rattle.filter_laws.specs.KeptRowLaws.{all_there}

-- a row is not above the last sequence
pub upto_each : (last : ℕ) (rows : List Row) (row : Row) → IsTrue (are_upto last rows) → Contains rows row → row.seq ≤ last
upto_each last rows row h there =
    let test = all_there (λ r. nat_le r.seq last) rows row h there in
    grind (arith, nat_tests)

-- ---- the map at a sequence

abbrev value_of : Option Row → Option Bytes
value_of = option_and_then (λ row. row.value)

-- on the grammar
pub at_on_grammar : (rows : List Row) (s : ℕ) → IsTrue (are_row_texts rows) → IsOnGrammar (at rows s)
at_on_grammar rows s texts = record { at = λ raw. subst (λ (o : Option Bytes). IfSome o (λ value. IsTrue (is_value_text raw value))) (sym (get_at rows s raw)) (by_seen raw (seen_at rows s raw) refl) }
  where
    by_value : (raw : Bytes) (row : Row) (o : Option Bytes) → row.raw ≡ raw → row.value ≡ o → is_row (row.raw, row.value) ≡ true → IfSome o (λ value. IsTrue (is_value_text raw value))
    by_value raw row None key is h = tt
    by_value raw row (Some value) key is h = (λ i. is_row (sym key i, sym is i)) ∙ h

    by_seen : (raw : Bytes) (o : Option Row) → seen_at rows s raw ≡ o → IfSome (value_of o) (λ value. IsTrue (is_value_text raw value))
    by_seen raw None e = tt
    by_seen raw (Some row) e =
        let it = seen_is rows s raw row e in
        by_value raw row row.value it.1 refl (all_there is_row_text rows row texts it.0)

-- ---- rows of a batch in front of others

-- rows at their places among the first ones, in front of the rest
seen_front : (memory more rest : List Row) (s : ℕ) (raw : Bytes) → seen_at (merged memory more ++ rest) s raw ≡ seen_at (more ++ (memory ++ rest)) s raw
seen_front memory more rest s raw =
    seen_in_both (merged memory more) rest s raw
    ∙ ap (λ o. newer o (seen_at rest s raw)) (seen_merged memory more s raw)
    ∙ sym (seen_in_both (more ++ memory) rest s raw)
    ∙ ap (λ (rows : List Row). seen_at rows s raw) (append_assoc more memory rest)

-- at its sequence the map is the one before, changed by the batch
pub at_with_batch : (memory rest : List Row) (last : ℕ) (batch : Batch) → IsTrue (are_upto last (memory ++ rest))
    → at (merged memory (batch_rows (last + 1) batch) ++ rest) (last + 1) ≡ after (at (memory ++ rest) last) batch
at_with_batch memory rest last batch upto =
    at_alike (merged memory (batch_rows (last + 1) batch) ++ rest) (batch_rows (last + 1) batch ++ (memory ++ rest)) (last + 1) (last + 1) (seen_front memory (batch_rows (last + 1) batch) rest (last + 1))
    ∙ at_batch (memory ++ rest) last (last + 1) batch upto (omega arith)

-- and before it as it was
pub at_without_batch : (memory rest : List Row) (last s : ℕ) (batch : Batch) → s ≤ last → at (merged memory (batch_rows (last + 1) batch) ++ rest) s ≡ at (memory ++ rest) s
at_without_batch memory rest last s batch low =
    at_alike (merged memory (batch_rows (last + 1) batch) ++ rest) (batch_rows (last + 1) batch ++ (memory ++ rest)) s s (seen_front memory (batch_rows (last + 1) batch) rest s)
    ∙ at_before_batch (memory ++ rest) s (last + 1) batch (omega arith)
