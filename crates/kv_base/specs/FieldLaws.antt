-- Numbers and texts in files are read back as they were written, and nothing else is read.
use Rattle.std.proofs.Common.{◌≡◌, ℕ, zero, suc, ◌+◌, ◌<◌, ◌≤◌, ◌^◌, [], ◌∷◌, ◌++◌, refl, sym, ap, subst, ◌∙◌, Bool, true, false, cond, length, take, drop, get_or, append_assoc, length-append, length-take, arith}
use Rattle.std.proofs.lemmas.List.{take-append-drop}
use Rattle.std.proofs.Math.Seq.{take-append_seam, drop-append_seam}
use Rattle.std.proofs.lemmas.Bool.Decides.{nat_tests}
use Rattle.std.proofs.lemmas.Nat.{from_be_bytes-to_be_bytes_4, from_be_bytes-to_be_bytes_8, be_bytes_4, be_bytes_8}
use Rattle.std.specs.Prelude.{Option, Some, None, nat_le, option_and_then}
use Rattle.std.specs.Int.{from_be_bytes, w32, w64}
use Rattle.kv_base.specs.Map.{Bytes, same, same_is, same_itself}
use Rattle.kv_base.specs.InversionLaws.{same_some}
use Rattle.kv_base.specs.Fields.{u32, u64, text, read_u32, read_u64, read_bytes, read_text}

pub length-u32 : (n : ℕ) → length (u32 n) ≡ 4
unfolding u32
length-u32 n = refl

pub length-u64 : (n : ℕ) → length (u64 n) ≡ 8
unfolding u64
length-u64 n = refl

length_taken : (k : ℕ) (bytes : Bytes) → k ≤ length bytes → length (take k bytes) ≡ k
length_taken k bytes h = grind (arith, length-take {A = ℕ})

-- ---- numbers

at_u32 : (n : ℕ) → n < 2 ^ 32 → (bytes : Bytes) → from_be_bytes w32 (take 4 (u32 n ++ bytes)) ≡ n
unfolding u32
at_u32 n h bytes = from_be_bytes-to_be_bytes_4 n h

at_u64 : (n : ℕ) → n < 2 ^ 64 → (bytes : Bytes) → from_be_bytes w64 (take 8 (u64 n ++ bytes)) ≡ n
unfolding u64
at_u64 n h bytes = from_be_bytes-to_be_bytes_8 n h

take_u32 : (n : ℕ) (bytes : Bytes) → take 4 (u32 n ++ bytes) ≡ u32 n
unfolding u32
take_u32 n bytes = refl

take_u64 : (n : ℕ) (bytes : Bytes) → take 8 (u64 n ++ bytes) ≡ u64 n
unfolding u64
take_u64 n bytes = refl

drop_u32 : (n : ℕ) (bytes : Bytes) → drop 4 (u32 n ++ bytes) ≡ bytes
unfolding u32
drop_u32 n bytes = refl

drop_u64 : (n : ℕ) (bytes : Bytes) → drop 8 (u64 n ++ bytes) ≡ bytes
unfolding u64
drop_u64 n bytes = refl

pub u32_is_read : (n : ℕ) → n < 2 ^ 32 → (bytes : Bytes) → read_u32 (u32 n ++ bytes) ≡ Some (n, bytes)
unfolding read_u32
u32_is_read n h bytes = rw (at_u32 n h bytes, take_u32 n bytes, same_itself (u32 n), drop_u32 n bytes) refl

pub u64_is_read : (n : ℕ) → n < 2 ^ 64 → (bytes : Bytes) → read_u64 (u64 n ++ bytes) ≡ Some (n, bytes)
unfolding read_u64
u64_is_read n h bytes = rw (at_u64 n h bytes, take_u64 n bytes, same_itself (u64 n), drop_u64 n bytes) refl

low_u32 : (n : ℕ) → from_be_bytes w32 (u32 n) < 2 ^ 32
unfolding u32
low_u32 n = omega arith

low_u64 : (n : ℕ) → from_be_bytes w64 (u64 n) < 2 ^ 64
unfolding u64
low_u64 n = omega arith

-- ---- nothing else is read

u64_by : (bytes : Bytes) (m : ℕ) (b : Bool) (n : ℕ) (rest : Bytes) → m ≡ from_be_bytes w64 (take 8 bytes) → same (take 8 bytes) (u64 m) ≡ b → cond {A = Option (ℕ × Bytes)} b (Some (m, drop 8 bytes)) None ≡ Some (n, rest) → (bytes ≡ u64 n ++ rest) × (n < 2 ^ 64)
u64_by bytes m true n rest is t e =
    let front : take 8 bytes ≡ u64 m = same_is (take 8 bytes) (u64 m) t in
    let pair = same_some (m, drop 8 bytes) (n, rest) e in
    let number : m ≡ n = ap (λ p. p.0) pair in
    let behind : drop 8 bytes ≡ rest = ap (λ p. p.1) pair in
    let low = low_u64 m in
    let again : m ≡ from_be_bytes w64 (u64 m) = is ∙ ap (from_be_bytes w64) front in
    let whole : bytes ≡ u64 m ++ rest = sym (take-append-drop 8 bytes) ∙ (λ i. front i ++ behind i) in
    (whole ∙ ap (λ k. u64 k ++ rest) number, omega (arith, low, again, number))
u64_by bytes m false n rest is t e = absurd (cc)

pub only_u64_is_read : (bytes : Bytes) (n : ℕ) (rest : Bytes) → read_u64 bytes ≡ Some (n, rest) → (bytes ≡ u64 n ++ rest) × (n < 2 ^ 64)
unfolding read_u64
only_u64_is_read bytes n rest e = u64_by bytes _ _ n rest refl refl e

u32_by : (bytes : Bytes) (m : ℕ) (b : Bool) (n : ℕ) (rest : Bytes) → m ≡ from_be_bytes w32 (take 4 bytes) → same (take 4 bytes) (u32 m) ≡ b → cond {A = Option (ℕ × Bytes)} b (Some (m, drop 4 bytes)) None ≡ Some (n, rest) → (bytes ≡ u32 n ++ rest) × (n < 2 ^ 32)
u32_by bytes m true n rest is t e =
    let front : take 4 bytes ≡ u32 m = same_is (take 4 bytes) (u32 m) t in
    let pair = same_some (m, drop 4 bytes) (n, rest) e in
    let number : m ≡ n = ap (λ p. p.0) pair in
    let behind : drop 4 bytes ≡ rest = ap (λ p. p.1) pair in
    let low = low_u32 m in
    let again : m ≡ from_be_bytes w32 (u32 m) = is ∙ ap (from_be_bytes w32) front in
    let whole : bytes ≡ u32 m ++ rest = sym (take-append-drop 4 bytes) ∙ (λ i. front i ++ behind i) in
    (whole ∙ ap (λ k. u32 k ++ rest) number, omega (arith, low, again, number))
u32_by bytes m false n rest is t e = absurd (cc)

pub only_u32_is_read : (bytes : Bytes) (n : ℕ) (rest : Bytes) → read_u32 bytes ≡ Some (n, rest) → (bytes ≡ u32 n ++ rest) × (n < 2 ^ 32)
unfolding read_u32
only_u32_is_read bytes n rest e = u32_by bytes _ _ n rest refl refl e

-- ---- a slice's bytes: a number is read wherever there are bytes enough

fit_in_front : (k : ℕ) (bytes : Bytes) → ((i : ℕ) → get_or bytes i 0 < 256) → (i : ℕ) → get_or (take k bytes) i 0 < 256
fit_in_front zero bytes fit i = omega arith
fit_in_front (suc k) [] fit i = omega arith
fit_in_front (suc k) (b ∷ bytes) fit zero = fit zero
fit_in_front (suc k) (b ∷ bytes) fit (suc i) = fit_in_front k bytes (λ j. fit (suc j)) i

pub u64_of_bytes : (bytes front : Bytes) (n : ℕ) → 8 ≤ length bytes → ((i : ℕ) → get_or bytes i 0 < 256) → front ≡ take 8 bytes → n ≡ from_be_bytes w64 front → read_u64 bytes ≡ Some (n, drop 8 bytes)
unfolding read_u64 u64
u64_of_bytes bytes front n enough fit is number =
    let eight : length front ≡ 8 = ap length is ∙ length_taken 8 bytes enough in
    let spelled : u64 n ≡ take 8 bytes = be_bytes_8 front n eight (λ i. subst (λ (f : Bytes). get_or f i 0 < 256) (sym is) (fit_in_front 8 bytes fit i)) number ∙ is in
    let m : from_be_bytes w64 (take 8 bytes) ≡ n = sym (number ∙ ap (from_be_bytes w64) is) in
    rw m (ap (λ t. cond t (Some (n, drop 8 bytes)) None) (ap (same (take 8 bytes)) spelled ∙ same_itself (take 8 bytes)))

pub u32_of_bytes : (bytes front : Bytes) (n : ℕ) → 4 ≤ length bytes → ((i : ℕ) → get_or bytes i 0 < 256) → front ≡ take 4 bytes → n ≡ from_be_bytes w32 front → read_u32 bytes ≡ Some (n, drop 4 bytes)
unfolding read_u32 u32
u32_of_bytes bytes front n enough fit is number =
    let four : length front ≡ 4 = ap length is ∙ length_taken 4 bytes enough in
    let spelled : u32 n ≡ take 4 bytes = be_bytes_4 front n four (λ i. subst (λ (f : Bytes). get_or f i 0 < 256) (sym is) (fit_in_front 4 bytes fit i)) number ∙ is in
    let m : from_be_bytes w32 (take 4 bytes) ≡ n = sym (number ∙ ap (from_be_bytes w32) is) in
    rw m (ap (λ t. cond t (Some (n, drop 4 bytes)) None) (ap (same (take 4 bytes)) spelled ∙ same_itself (take 4 bytes)))

none_short : {X : Type 0} (r : Option X) → ((x : X) → r ≡ Some x → ⊥) → r ≡ None
none_short None never = refl
none_short (Some x) never = absurd (never x refl)

pub too_short_for_u64 : (bytes : Bytes) → length bytes < 8 → read_u64 bytes ≡ None
too_short_for_u64 bytes short = none_short (read_u64 bytes) (λ p e.
    let whole = (only_u64_is_read bytes p.0 p.1 e).0 in
    let long = ap length whole in
    let parts = length-append (u64 p.0) p.1 in
    let eight = length-u64 p.0 in
    omega (arith, long, parts, eight))

pub too_short_for_u32 : (bytes : Bytes) → length bytes < 4 → read_u32 bytes ≡ None
too_short_for_u32 bytes short = none_short (read_u32 bytes) (λ p e.
    let whole = (only_u32_is_read bytes p.0 p.1 e).0 in
    let long = ap length whole in
    let parts = length-append (u32 p.0) p.1 in
    let four = length-u32 p.0 in
    omega (arith, long, parts, four))

-- ---- texts

enough : (t bytes : Bytes) → nat_le (length t) (length (t ++ bytes)) ≡ true
enough t bytes = let parts = length-append t bytes in grind (arith, nat_tests)

pub text_is_read : (t : Bytes) → length t < 2 ^ 32 → (bytes : Bytes) → read_text (text t ++ bytes) ≡ Some (t, bytes)
unfolding read_text text
text_is_read t short bytes =
    rw (append_assoc (u32 (length t)) t bytes, u32_is_read (length t) short (t ++ bytes), enough t bytes, take-append_seam t bytes, drop-append_seam t bytes) refl

text_by : (n : ℕ) (behind : Bytes) (b : Bool) (t rest : Bytes) → n < 2 ^ 32 → nat_le n (length behind) ≡ b → cond {A = Option (Bytes × Bytes)} b (Some (take n behind, drop n behind)) None ≡ Some (t, rest) → (u32 n ++ behind ≡ text t ++ rest) × (length t < 2 ^ 32)
unfolding text
text_by n behind true t rest low le e =
    let bound : n ≤ length behind = grind (arith, nat_tests) in
    let pair = same_some (take n behind, drop n behind) (t, rest) e in
    let taken : take n behind ≡ t = ap (λ p. p.0) pair in
    let left : drop n behind ≡ rest = ap (λ p. p.1) pair in
    let counted : length t ≡ n = ap length (sym taken) ∙ length_taken n behind bound in
    let whole : behind ≡ t ++ rest = sym (take-append-drop n behind) ∙ (λ i. taken i ++ left i) in
    (ap (λ b. u32 n ++ b) whole ∙ sym (append_assoc (u32 n) t rest) ∙ ap (λ k. (u32 k ++ t) ++ rest) (sym counted), omega (arith, low, counted))
text_by n behind false t rest low le e = absurd (cc)

text_from : (bytes t rest : Bytes) (front : Option (ℕ × Bytes)) → read_u32 bytes ≡ front → option_and_then (λ f. read_bytes f.0 f.1) front ≡ Some (t, rest) → (bytes ≡ text t ++ rest) × (length t < 2 ^ 32)
text_from bytes t rest None is e = absurd (cc)
text_from bytes t rest (Some f) is e =
    let number = only_u32_is_read bytes f.0 f.1 is in
    let read = text_by f.0 f.1 _ t rest number.1 refl e in
    (number.0 ∙ read.0, read.1)

pub only_text_is_read : (bytes t rest : Bytes) → read_text bytes ≡ Some (t, rest) → (bytes ≡ text t ++ rest) × (length t < 2 ^ 32)
unfolding read_text
only_text_is_read bytes t rest e = text_from bytes t rest (read_u32 bytes) refl e

pub length-text : (t : Bytes) → length (text t) ≡ 4 + length t
unfolding text
length-text t = let parts = length-append (u32 (length t)) t in let four = length-u32 (length t) in omega (arith, parts, four)
