-- Laws on what stands in `Behind.antt`.
use Rattle.std.specs.Prelude.{◌≡◌, ℕ, zero, suc, ◌+◌, ◌-◌, ◌≤◌, Bool, true, false, cond, not, ◌==◌, nat_lt, List, [], ◌∷◌, length, take, drop, Option, Some, None, Result, Ok, Err, refl}
use Rattle.std.proofs.Common.{sym, ap, ◌∙◌, arith, inl, inr}
use Rattle.std.specs.Char.{is_ascii_digit}
use Rattle.std.proofs.lemmas.Grind.{common_steps}
use Rattle.std.proofs.lemmas.Bool.{cases_lt}
use Rattle.std.proofs.lemmas.List.{drop-drop, length-drop}
use Rattle.resp_wire.specs.declared.parts.LengthLimit.{LengthLimit}
use Rattle.resp_wire.specs.declared.parts.LengthLimit.TheVariants.{Words, Bytes}
use Rattle.resp_wire.specs.declared.stop.Stop.{Stop}
use Rattle.resp_wire.specs.Grammar.{Part, ◌>>=◌, behind_byte, behind_line_end, exceeds, with_digit, is_lone_zero, text_end, length_from, length_text, body, bulk, bulk_words, minus_one, count, array, is_quote, line, line_words, inline, header, request}
use Rattle.resp_wire.specs.Lines.{with_byte, walk}
use Rattle.resp_wire.specs.LineLaws.{line_walk}
use Rattle.resp_wire.specs.Reading.{IsEnd}
use Rattle.resp_wire.specs.Behind.{LeavesRest, all_of, behind_of, Shortens}

pub end_here : (a : List ℕ) → IsEnd a a
end_here a = let k : length a - length a ≡ 0 = omega arith in record { fits = omega arith; end = rw k refl }

pub end_cons : (c : ℕ) (bytes rest : List ℕ) → IsEnd bytes rest → IsEnd (c ∷ bytes) rest
end_cons c bytes rest e =
    let k : length (c ∷ bytes) - length rest ≡ suc (length bytes - length rest) = omega (arith, e.fits) in
    record { fits = omega (arith, e.fits); end = rw k e.end }

pub end_then : (a b c : List ℕ) → IsEnd a b → IsEnd b c → IsEnd a c
end_then a b c p q =
    let k : length a - length c ≡ length a - length b + (length b - length c) = omega (arith, p.fits, q.fits) in
    record { fits = omega (arith, p.fits, q.fits); end = rw k (sym (drop-drop (length b - length c) (length a - length b) a) ∙ ap (drop (length b - length c)) p.end ∙ q.end) }

end_drop : (n : ℕ) (bytes : List ℕ) → n ≤ length bytes → IsEnd bytes (drop n bytes)
end_drop n bytes h =
    let k : length bytes - length (drop n bytes) ≡ n = omega (arith, length-drop n bytes) in
    record { fits = omega (arith, length-drop n bytes); end = rw k refl }

end_leaves : {X : Type 0} (rest : X → List ℕ) (bytes behind : List ℕ) (r : Result X Stop) → IsEnd bytes behind → LeavesRest rest behind r → LeavesRest rest bytes r
end_leaves rest bytes behind (Ok x) e h = end_then bytes behind (rest x) e h
end_leaves rest bytes behind (Err s) e h = tt

cons_leaves : {X : Type 0} (rest : X → List ℕ) (c : ℕ) (bytes : List ℕ) (r : Result X Stop) → LeavesRest rest bytes r → LeavesRest rest (c ∷ bytes) r
cons_leaves rest c bytes r h = end_leaves rest (c ∷ bytes) bytes r (end_cons c bytes bytes (end_here bytes)) h

then_leaves : {X Y : Type 0} (rest : X → List ℕ) (rest' : Y → List ℕ) (bytes : List ℕ) (r : Result X Stop) (f : X → Result Y Stop) → LeavesRest rest bytes r → ((x : X) → LeavesRest rest' (rest x) (f x)) → LeavesRest rest' bytes (r >>= f)
then_leaves rest rest' bytes (Ok x) f h k = end_leaves rest' bytes (rest x) (f x) h (k x)
then_leaves rest rest' bytes (Err e) f h k = tt

if_leaves : {X : Type 0} (rest : X → List ℕ) (bytes : List ℕ) (b : Bool) (r s : Result X Stop) → LeavesRest rest bytes r → LeavesRest rest bytes s → LeavesRest rest bytes (cond b r s)
if_leaves rest bytes true r s p q = p
if_leaves rest bytes false r s p q = q

mark_leaves : (byte : ℕ) (bytes : List ℕ) → LeavesRest all_of bytes (behind_byte byte bytes)
unfolding behind_byte
mark_leaves byte [] = tt
mark_leaves byte (c ∷ rest) = if_leaves all_of (c ∷ rest) (c == byte) (Ok rest) _ (end_cons c rest rest (end_here rest)) tt

line_end_leaves : (bytes : List ℕ) → LeavesRest all_of bytes (behind_line_end bytes)
unfolding behind_line_end
line_end_leaves bytes = then_leaves all_of all_of bytes (behind_byte 13 bytes) (behind_byte 10) (mark_leaves 13 bytes) (mark_leaves 10)

text_end_leaves : (left : ℕ) (so_far : Option ℕ) (bytes : List ℕ) → LeavesRest behind_of bytes (text_end left so_far bytes)
unfolding text_end
text_end_leaves left None bytes = tt
text_end_leaves left (Some n) [] = tt
text_end_leaves left (Some n) (c ∷ rest) =
    let ended : List ℕ → Part ℕ = λ behind. Ok (n, behind) in
    if_leaves behind_of (c ∷ rest) (c == 13) (behind_byte 10 rest >>= ended) _ (cons_leaves behind_of c rest (behind_byte 10 rest >>= ended) (then_leaves all_of behind_of rest (behind_byte 10 rest) ended (mark_leaves 10 rest) end_here)) tt

length_from_leaves : (limit : LengthLimit) (left : ℕ) (so_far : Option ℕ) (bytes : List ℕ) → LeavesRest behind_of bytes (length_from limit left so_far bytes)
unfolding length_from
length_from_leaves limit left so_far [] = tt
length_from_leaves limit left so_far (c ∷ rest) =
    if_leaves behind_of (c ∷ rest) (not (is_ascii_digit c)) _ _ (text_end_leaves left so_far (c ∷ rest))
    (if_leaves behind_of (c ∷ rest) (is_lone_zero so_far) _ _ tt
    (if_leaves behind_of (c ∷ rest) (exceeds limit (with_digit so_far c)) _ _ tt
    (cons_leaves behind_of c rest _ (length_from_leaves limit left (Some (with_digit so_far c)) rest))))

length_text_leaves : (limit : LengthLimit) (bytes : List ℕ) → LeavesRest behind_of bytes (length_text limit bytes)
unfolding length_text
length_text_leaves limit bytes = length_from_leaves limit (length bytes + 1) None bytes

body_leaves : (n : ℕ) (bytes : List ℕ) → LeavesRest behind_of bytes (body n bytes)
unfolding body
body_leaves n bytes = elim (cases_lt (length bytes) n) [
  | inl lt ↦ let t : nat_lt (length bytes) n ≡ true = grind (arith, common_steps) in rw t tt
  | inr le ↦
      let t : nat_lt (length bytes) n ≡ false = grind (arith, common_steps) in
      let ended : List ℕ → Part (List ℕ) = λ behind. Ok (take n bytes, behind) in
      rw t (end_leaves behind_of bytes (drop n bytes) (behind_line_end (drop n bytes) >>= ended) (end_drop n bytes le) (then_leaves all_of behind_of (drop n bytes) (behind_line_end (drop n bytes)) ended (line_end_leaves (drop n bytes)) end_here))
]

pub bulk_leaves : (room : ℕ) (bytes : List ℕ) → LeavesRest behind_of bytes (bulk room bytes)
unfolding bulk
bulk_leaves room bytes =
    then_leaves all_of behind_of bytes (behind_byte 36 bytes) (λ behind. length_text (Bytes room) behind >>= λ n. body n.0 n.1) (mark_leaves 36 bytes)
    (λ behind. then_leaves behind_of behind_of behind (length_text (Bytes room) behind) (λ n. body n.0 n.1) (length_text_leaves (Bytes room) behind) (λ n. body_leaves n.0 n.1))

pub bulks_leaves : (n room : ℕ) (bytes : List ℕ) → LeavesRest behind_of bytes (bulk_words n room bytes)
unfolding bulk_words
bulks_leaves zero room bytes = end_here bytes
bulks_leaves (suc n) room bytes =
    then_leaves behind_of behind_of bytes (bulk room bytes) (λ first. bulk_words n (room - (length first.0 + 16)) first.1 >>= λ others. Ok (first.0 ∷ others.0, others.1)) (bulk_leaves room bytes)
    (λ first. then_leaves behind_of behind_of first.1 (bulk_words n (room - (length first.0 + 16)) first.1) (λ others. Ok (first.0 ∷ others.0, others.1)) (bulks_leaves n (room - (length first.0 + 16)) first.1) (λ others. end_here others.1))

minus_one_leaves : (left : ℕ) (bytes : List ℕ) → LeavesRest behind_of bytes (minus_one left bytes)
unfolding minus_one
minus_one_leaves left [] = tt
minus_one_leaves left (c ∷ bytes) = if_leaves behind_of (c ∷ bytes) (c == 49) _ _ (cons_leaves behind_of c bytes _ (text_end_leaves left (Some 0) bytes)) tt

count_leaves : (bytes : List ℕ) → LeavesRest behind_of bytes (count bytes)
unfolding count
count_leaves [] = tt
count_leaves (c ∷ bytes) = if_leaves behind_of (c ∷ bytes) (c == 45) _ _ (cons_leaves behind_of c bytes _ (minus_one_leaves (length bytes + 2) bytes)) (length_text_leaves Words (c ∷ bytes))

array_leaves : (bytes : List ℕ) → LeavesRest behind_of bytes (array bytes)
unfolding array
array_leaves bytes = then_leaves behind_of behind_of bytes (count bytes) (λ n. bulk_words n.0 16777216 n.1) (count_leaves bytes) (λ n. bulks_leaves n.0 16777216 n.1)

walk_leaves : (most left : ℕ) (bytes : List ℕ) → LeavesRest behind_of bytes (walk most left bytes)
unfolding walk
walk_leaves zero left [] = tt
walk_leaves (suc n) left [] = tt
walk_leaves zero left (c ∷ rest) = if_leaves behind_of (c ∷ rest) (c == 10) (Ok ([], rest)) _ (end_cons c rest rest (end_here rest)) tt
walk_leaves (suc n) left (c ∷ rest) =
    if_leaves behind_of (c ∷ rest) (c == 10) (Ok ([], rest)) _ (end_cons c rest rest (end_here rest))
    (if_leaves behind_of (c ∷ rest) (is_quote c) _ (walk n left rest >>= with_byte c) tt
    (cons_leaves behind_of c rest (walk n left rest >>= with_byte c) (then_leaves behind_of behind_of rest (walk n left rest) (with_byte c) (walk_leaves n left rest) (λ x. end_here x.1))))

-- ---- a request takes at least a byte

taken : {A : Type 0} (c : ℕ) (bytes : List ℕ) (r : Part A) → LeavesRest behind_of bytes r → Shortens (c ∷ bytes) r
taken c bytes (Ok x) h = (end_cons c bytes x.1 h, omega (arith, h.fits))
taken c bytes (Err e) h = tt

if_shortens : {A : Type 0} (bytes : List ℕ) (b : Bool) (r s : Part A) → Shortens bytes r → Shortens bytes s → Shortens bytes (cond b r s)
if_shortens bytes true r s p q = p
if_shortens bytes false r s p q = q

then_shortens : {A B : Type 0} (bytes : List ℕ) (r : Part A) (f : A × List ℕ → Part B) → Shortens bytes r → ((x : A × List ℕ) → LeavesRest behind_of x.1 (f x)) → Shortens bytes (r >>= f)
then_shortens bytes (Err e) f h k = tt
then_shortens {A} {B} bytes (Ok x) f h k =
    elim (f x) as (λ (r : Part B). LeavesRest behind_of x.1 r → Shortens bytes r) [
      | Ok y ↦ λ q. (end_then bytes x.1 y.1 h.0 q, omega (arith, h.1, q.fits))
      | Err e ↦ λ q. tt
    ] (k x)

walk_shortens : (most left : ℕ) (bytes : List ℕ) → Shortens bytes (walk most left bytes)
unfolding walk
walk_shortens zero left [] = tt
walk_shortens (suc n) left [] = tt
walk_shortens zero left (c ∷ rest) = if_shortens (c ∷ rest) (c == 10) (Ok ([], rest)) _ (taken {A = List ℕ} c rest (Ok ([], rest)) (end_here rest)) tt
walk_shortens (suc n) left (c ∷ rest) =
    if_shortens (c ∷ rest) (c == 10) (Ok ([], rest)) _ (taken {A = List ℕ} c rest (Ok ([], rest)) (end_here rest))
    (if_shortens (c ∷ rest) (is_quote c) _ (walk n left rest >>= with_byte c) tt
    (taken c rest (walk n left rest >>= with_byte c) (then_leaves behind_of behind_of rest (walk n left rest) (with_byte c) (walk_leaves n left rest) (λ x. end_here x.1))))

pub line_shortens : (bytes : List ℕ) → Shortens bytes (line bytes)
line_shortens bytes = rw line_walk (walk_shortens 65536 (length bytes) bytes)

inline_shortens : (bytes : List ℕ) → Shortens bytes (inline bytes)
unfolding inline
inline_shortens bytes = then_shortens bytes (line bytes) (λ found. Ok (line_words found.0, found.1)) (line_shortens bytes) (λ found. end_here found.1)

pub header_shortens : (bytes : List ℕ) → Shortens bytes (header bytes)
unfolding header
header_shortens [] = tt
header_shortens (c ∷ bytes) =
    let counted : List (List ℕ) × List ℕ → Part ℕ = λ words. Ok (length words.0, words.1) in
    if_shortens (c ∷ bytes) (c == 42) (count bytes) (inline (c ∷ bytes) >>= counted) (taken c bytes (count bytes) (count_leaves bytes))
    (then_shortens (c ∷ bytes) (inline (c ∷ bytes)) counted (inline_shortens (c ∷ bytes)) (λ words. end_here words.1))

pub request_shortens : (bytes : List ℕ) → Shortens bytes (request bytes)
unfolding request
request_shortens [] = tt
request_shortens (c ∷ bytes) = if_shortens (c ∷ bytes) (c == 42) (array bytes) (inline (c ∷ bytes)) (taken c bytes (array bytes) (array_leaves bytes)) (inline_shortens (c ∷ bytes))
