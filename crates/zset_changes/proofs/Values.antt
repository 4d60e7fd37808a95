-- Scores in their range, and the rows that they stand in.
use Rattle.std.proofs.Common.{◌≡◌, ℕ, ◌++◌, [], refl, sym, ap, subst, ◌∙◌, true, arith}
use Rattle.std.proofs.lemmas.Bool.{and_from}
use Rattle.std.proofs.lemmas.Bool.Decides.{nat_tests}
use Rattle.std.proofs.lemmas.Int.{ints}
use Rattle.std.specs.Prelude.{IsTrue, length, ℤ}
use Rattle.kv_base.specs.Map.{Bytes}
use Rattle.kv_base.specs.Fields.{u64}
use Rattle.kv_base.specs.FieldLaws.{length-u64}
use Rattle.kv_base.specs.RawKeys.{ElementKey, ScoreKey, is_version, read_raw, raw_text, score_number}
use Rattle.kv_base.specs.MetaValues.{is_score, is_payload, is_value_of, is_value_text, is_empty}
use Rattle.redis_model.specs.Limits.{IsName, IsWholeScore}
use Rattle.lives_model.specs.Rows.{Elements, Scores, row_key}
use Rattle.lives_model.specs.RowKeyLaws.{element_row_is_read, score_row_is_read}
use Rattle.lives_model.specs.AskedKeyLaws.{name_is_key}
use Rattle.lives_model.specs.LifeRows.{rank_key}
use Rattle.lives_model.specs.LifeRowLaws.{whole_fits}

-- the test says what the range is
pub in_range : (s : ℤ) → is_score s ≡ true → IsWholeScore s
in_range s h = grind (arith, nat_tests, ints, h)

pub range_is : (s : ℤ) → IsWholeScore s → IsTrue (is_score s)
range_is s h = grind (arith, nat_tests, ints)

-- eight bytes are short
eight_fit : (n : ℕ) → is_payload (u64 n) ≡ true
eight_fit n = let eight = length-u64 n in by_length (length (u64 n)) refl eight
  where
    by_length : (l : ℕ) → length (u64 n) ≡ l → l ≡ 8 → is_payload (u64 n) ≡ true
    by_length l is eight = let low : length (u64 n) ≡ 8 = is ∙ eight in grind (arith, nat_tests, low)

-- a score is of the shape of an element
pub score_value_fits : (k : Bytes) (version : ℕ) (x raw value : Bytes) (n : ℕ) → IsName k → IsTrue (is_version version) → IsName x → raw ≡ row_key Elements k version x → value ≡ u64 n → IsTrue (is_value_text raw value)
unfolding is_value_text
score_value_fits k version x raw value n short fits name is this =
    (λ i. is_value_of ((ap read_raw is ∙ element_row_is_read k version x (name_is_key k short) fits (name_is_key x name)) i) (this i)) ∙ eight_fit n

-- the raw key of a member by its score is its row on the side of scores
pub rank_key_is : (k : Bytes) (version : ℕ) (s : ℤ) (x : Bytes) → raw_text (ScoreKey k version s x) ≡ row_key Scores k version (rank_key (x, s))
unfolding row_key raw_text
rank_key_is k version s x = refl

-- nothing may stand there
pub rank_fits : (k : Bytes) (version : ℕ) (s : ℤ) (x raw value : Bytes) → IsName k → IsTrue (is_version version) → IsWholeScore s → IsName x → raw ≡ raw_text (ScoreKey k version s x) → value ≡ [] → IsTrue (is_value_text raw value)
unfolding is_value_text
rank_fits k version s x raw value short fits whole name is none =
    (λ i. is_value_of ((ap read_raw (is ∙ rank_key_is k version s x) ∙ score_row_is_read k version s x (name_is_key k short) fits (whole_fits s whole) (name_is_key x name)) i) (none i))
    ∙ and_from (is_score s) (is_empty []) (range_is s whole) refl
