-- Places and scores are read back as they were written, and nothing else is read.
use Rattle.std.proofs.Common.{◌≡◌, ℕ, ◌<◌, ◌^◌, [], ◌∷◌, ◌++◌, refl, sym, ap, ◌∙◌, true, Option, Some, None, option_map, option_and_then, append-nil, zero, suc, ◌≤◌, take, drop, length, get_or, arith}
use Rattle.std.specs.Prelude.{ℤ, IsTrue, IsSome, ◌↔◌}
use Rattle.std.specs.Int.{from_be_bytes, w64}
use Rattle.kv_base.specs.Map.{Bytes}
use Rattle.kv_base.specs.Number.{fits}
use Rattle.kv_base.specs.Fields.{u64, read_u64}
use Rattle.kv_base.specs.FieldLaws.{length-u64, u64_is_read, only_u64_is_read, u64_of_bytes}
use Rattle.kv_base.specs.InversionLaws.{same_some, and_then_is, map_is, if_is}
use Rattle.kv_base.specs.MetaValues.{is_empty}
use Rattle.kv_base.specs.RawKeys.{score_number, score_from}
use Rattle.kv_base.specs.RawKeyLaws.{score_number_low, score_is_read as score_is_back, score_is_written}
use Rattle.subkey_codec.specs.Numbers.{number_alone, read_index, read_score_bytes}

-- nothing is the only empty text
empty_is : (bytes : Bytes) → is_empty bytes ≡ true → bytes ≡ []
empty_is [] e = refl
empty_is (b ∷ bytes) e = absurd (cc)

-- a place is read back
pub index_is_read : (index : ℕ) → index < 2 ^ 64 → read_index (u64 index) ≡ Some index
unfolding read_index
index_is_read index low =
    let whole : read_u64 (u64 index) ≡ Some (index, []) = rw (append-nil (u64 index)) at (u64_is_read index low []) in
    ap (λ o. option_and_then number_alone o) whole

-- what is read as a place are the bytes of that place
pub only_index_is_read : (bytes : Bytes) (index : ℕ) → read_index bytes ≡ Some index → bytes ≡ u64 index
unfolding read_index
only_index_is_read bytes index e =
    let front = and_then_is number_alone (read_u64 bytes) index e in
    let test = if_is (is_empty front.0.1) (Some front.0.0) index front.2 in
    let whole = only_u64_is_read bytes front.0.0 front.0.1 front.1 in
    whole.0 ∙ ap (λ b. u64 front.0.0 ++ b) (empty_is front.0.1 test.0) ∙ append-nil (u64 front.0.0) ∙ ap u64 (same_some front.0.0 index test.1)

-- a score is read back
pub score_bytes_are_read : (score : ℤ) → IsTrue (fits score) → read_score_bytes (u64 (score_number score)) ≡ Some score
unfolding read_score_bytes
score_bytes_are_read score h =
    ap (λ o. option_map score_from o) (index_is_read (score_number score) (score_number_low score h))
    ∙ ap (λ s. Some s) (score_is_back score h)

-- what is read as a score are the bytes of that score
pub only_score_is_read : (bytes : Bytes) (score : ℤ) → read_score_bytes bytes ≡ Some score → bytes ≡ u64 (score_number score)
unfolding read_score_bytes
only_score_is_read bytes score e =
    let number = map_is score_from (read_index bytes) score e in
    only_index_is_read bytes number.0 number.1 ∙ ap u64 (sym (score_is_written number.0)) ∙ ap (λ s. u64 (score_number s)) number.2

is_some_of : {X : Type 0} (o : Option X) (x : X) → o ≡ Some x → IsSome o
is_some_of o x e = rw e refl

some_of : {X : Type 0} (o : Option X) → IsSome o → (x : X) × (o ≡ Some x)
some_of None h = absurd (cc)
some_of (Some x) h = (x, refl)

all_taken : (n : ℕ) (bytes : Bytes) → length bytes ≤ n → drop n bytes ≡ []
all_taken zero [] h = refl
all_taken zero (b ∷ bytes) h = absurd (omega arith)
all_taken (suc n) [] h = refl
all_taken (suc n) (b ∷ bytes) h = all_taken n bytes (omega arith)

long : (bytes : Bytes) → IsSome (read_index bytes) → length bytes ≡ 8
long bytes some =
    let index = some_of (read_index bytes) some in
    ap length (only_index_is_read bytes index.0 index.1) ∙ length-u64 index.0

spelled : (bytes : Bytes) → ((i : ℕ) → get_or bytes i 0 < 256) → length bytes ≡ 8 → IsSome (read_index bytes)
unfolding read_index
spelled bytes fit eight =
    let n = from_be_bytes w64 (take 8 bytes) in
    let front = u64_of_bytes bytes (take 8 bytes) n (omega arith) fit refl refl in
    let read : read_u64 bytes ≡ Some (n, []) = front ∙ ap (λ b. Some (n, b)) (all_taken 8 bytes (omega arith)) in
    is_some_of (option_and_then number_alone (read_u64 bytes)) n (ap (λ o. option_and_then number_alone o) read)

-- eight bytes are a place, and nothing else is
pub index_has_eight_bytes : (bytes : Bytes) → ((i : ℕ) → get_or bytes i 0 < 256) → IsSome (read_index bytes) ↔ (length bytes ≡ 8)
index_has_eight_bytes bytes fit = (long bytes, spelled bytes fit)
