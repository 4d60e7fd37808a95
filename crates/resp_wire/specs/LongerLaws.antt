-- Laws on what stands in `Longer.antt`.
use Rattle.std.specs.Prelude.{◌≡◌, ℕ, zero, suc, ◌+◌, ◌-◌, Bool, true, false, cond, not, ◌==◌, nat_lt, List, [], ◌∷◌, ◌++◌, length, take, drop, Option, Some, None, Result, Ok, Err, refl}
use Rattle.std.proofs.Common.{sym, ap, subst, arith, inl, inr}
use Rattle.std.specs.Char.{is_ascii_digit}
use Rattle.std.proofs.lemmas.Grind.{common_steps}
use Rattle.std.proofs.lemmas.Bool.{cases_lt}
use Rattle.std.proofs.lemmas.List.{take-append-le, drop-append-le, length-append}
use Rattle.resp_wire.specs.declared.stop.ProtocolFault.{ProtocolFault}
use Rattle.resp_wire.specs.declared.stop.ProtocolFault.TheVariants.{BadMark, BadLength, TooLong, Quote}
use Rattle.resp_wire.specs.declared.parts.LengthLimit.{LengthLimit}
use Rattle.resp_wire.specs.declared.parts.LengthLimit.TheVariants.{Words, Bytes}
use Rattle.resp_wire.specs.declared.stop.Stop.{Stop}
use Rattle.resp_wire.specs.declared.stop.Stop.TheVariants.{More, Bad}
use Rattle.resp_wire.specs.Grammar.{Part, ◌>>=◌, behind_byte, behind_line_end, exceeds, with_digit, is_lone_zero, text_end, length_from, length_text, body, bulk, bulk_words, minus_one, count, array, is_quote, line, line_words, inline, header, request}
use Rattle.resp_wire.specs.Lines.{with_byte, walk}
use Rattle.resp_wire.specs.LineLaws.{line_walk}
use Rattle.resp_wire.specs.Longer.{Stays, part_on}

abbrev bind : {X Y : Type 0} → Result X Stop → (X → Result Y Stop) → Result Y Stop
bind r f = r >>= f

abbrev bad : {X : Type 0} → ProtocolFault → ℕ → Result X Stop
bad kind left = Err (Bad kind left)

then_stays : {X Y : Type 0} (on : X → List ℕ → X) (on' : Y → List ℕ → Y) (r s : Result X Stop) (f g : X → Result Y Stop) (more : List ℕ) → Stays on r s more → ((x : X) → Stays on' (f x) (g (on x more)) more) → Stays on' (r >>= f) (s >>= g) more
then_stays {X} {Y} on on' (Ok x) s f g more h k = subst (λ (t : Result Y Stop). Stays on' (f x) t more) (sym (ap (λ r. bind r g) h)) (k x)
then_stays on on' (Err More) s f g more h k = tt
then_stays on on' (Err (Bad kind left)) s f g more h k = ap (λ r. bind r g) h

if_stays : {X : Type 0} (on : X → List ℕ → X) (b : Bool) (r r' s s' : Result X Stop) (more : List ℕ) → Stays on r s more → Stays on r' s' more → Stays on (cond b r r') (cond b s s') more
if_stays on true r r' s s' more p q = p
if_stays on false r r' s s' more p q = q

mark_stays : (byte : ℕ) (bytes more : List ℕ) → Stays ◌++◌ (behind_byte byte bytes) (behind_byte byte (bytes ++ more)) more
unfolding behind_byte
mark_stays byte [] more = tt
mark_stays byte (c ∷ rest) more =
    if_stays ◌++◌ (c == byte) (Ok rest) (bad BadMark (length rest + 1)) (Ok (rest ++ more)) (bad BadMark (length (rest ++ more) + 1)) more refl
    (ap (bad BadMark) (omega (arith, length-append rest more)))

line_end_stays : (bytes more : List ℕ) → Stays ◌++◌ (behind_line_end bytes) (behind_line_end (bytes ++ more)) more
unfolding behind_line_end
line_end_stays bytes more = then_stays ◌++◌ ◌++◌ (behind_byte 13 bytes) (behind_byte 13 (bytes ++ more)) (behind_byte 10) (behind_byte 10) more (mark_stays 13 bytes more) (λ rest. mark_stays 10 rest more)

text_end_stays : (left : ℕ) (so_far : Option ℕ) (bytes more : List ℕ) → Stays part_on (text_end left so_far bytes) (text_end (left + length more) so_far (bytes ++ more)) more
unfolding text_end
text_end_stays left None bytes more = refl
text_end_stays left (Some n) [] more = tt
text_end_stays left (Some n) (c ∷ rest) more =
    if_stays part_on (c == 13) (behind_byte 10 rest >>= λ behind. Ok (n, behind)) (bad BadLength left) (behind_byte 10 (rest ++ more) >>= λ behind. Ok (n, behind)) (bad BadLength (left + length more)) more
    (then_stays ◌++◌ part_on (behind_byte 10 rest) (behind_byte 10 (rest ++ more)) (λ behind. Ok (n, behind)) (λ behind. Ok (n, behind)) more (mark_stays 10 rest more) (λ behind. refl)) refl

length_from_stays : (limit : LengthLimit) (left : ℕ) (so_far : Option ℕ) (bytes more : List ℕ) → Stays part_on (length_from limit left so_far bytes) (length_from limit (left + length more) so_far (bytes ++ more)) more
unfolding length_from
length_from_stays limit left so_far [] more = tt
length_from_stays limit left so_far (c ∷ rest) more =
    if_stays part_on (not (is_ascii_digit c)) (text_end left so_far (c ∷ rest)) _ (text_end (left + length more) so_far (c ∷ (rest ++ more))) _ more (text_end_stays left so_far (c ∷ rest) more)
    (if_stays part_on (is_lone_zero so_far) (bad BadLength left) _ (bad BadLength (left + length more)) _ more refl
    (if_stays part_on (exceeds limit (with_digit so_far c)) (bad TooLong left) _ (bad TooLong (left + length more)) _ more refl
    (length_from_stays limit left (Some (with_digit so_far c)) rest more)))

length_text_stays : (limit : LengthLimit) (bytes more : List ℕ) → Stays part_on (length_text limit bytes) (length_text limit (bytes ++ more)) more
unfolding length_text
length_text_stays limit bytes more =
    let e : length (bytes ++ more) + 1 ≡ length bytes + 1 + length more = omega (arith, length-append bytes more) in
    rw e (length_from_stays limit (length bytes + 1) None bytes more)

body_stays : (n : ℕ) (bytes more : List ℕ) → Stays part_on (body n bytes) (body n (bytes ++ more)) more
unfolding body
body_stays n bytes more = elim (cases_lt (length bytes) n) [
  | inl lt ↦ let t : nat_lt (length bytes) n ≡ true = grind (arith, common_steps) in rw t tt
  | inr le ↦
      let t : nat_lt (length bytes) n ≡ false = grind (arith, common_steps) in
      let t' : nat_lt (length (bytes ++ more)) n ≡ false = grind (arith, common_steps, length-append bytes more) in
      rw (t, t', take-append-le n bytes more le, drop-append-le n bytes more le)
      (then_stays ◌++◌ part_on (behind_line_end (drop n bytes)) (behind_line_end (drop n bytes ++ more)) (λ behind. Ok (take n bytes, behind)) (λ behind. Ok (take n bytes, behind)) more (line_end_stays (drop n bytes) more) (λ behind. refl))
]

pub bulk_stays : (room : ℕ) (bytes more : List ℕ) → Stays part_on (bulk room bytes) (bulk room (bytes ++ more)) more
unfolding bulk
bulk_stays room bytes more =
    let word : List ℕ → Part (List ℕ) = λ behind. length_text (Bytes room) behind >>= λ n. body n.0 n.1 in
    then_stays ◌++◌ part_on (behind_byte 36 bytes) (behind_byte 36 (bytes ++ more)) word word more (mark_stays 36 bytes more)
    (λ behind. then_stays part_on part_on (length_text (Bytes room) behind) (length_text (Bytes room) (behind ++ more)) (λ n. body n.0 n.1) (λ n. body n.0 n.1) more (length_text_stays (Bytes room) behind more) (λ n. body_stays n.0 n.1 more))

pub bulks_stays : (n room : ℕ) (bytes more : List ℕ) → Stays part_on (bulk_words n room bytes) (bulk_words n room (bytes ++ more)) more
unfolding bulk_words
bulks_stays zero room bytes more = refl
bulks_stays (suc n) room bytes more =
    let others : List ℕ × List ℕ → Part (List (List ℕ)) = λ first. bulk_words n (room - (length first.0 + 16)) first.1 >>= λ others. Ok (first.0 ∷ others.0, others.1) in
    then_stays part_on part_on (bulk room bytes) (bulk room (bytes ++ more)) others others more (bulk_stays room bytes more)
    (λ first. then_stays part_on part_on (bulk_words n (room - (length first.0 + 16)) first.1) (bulk_words n (room - (length first.0 + 16)) (first.1 ++ more)) (λ others. Ok (first.0 ∷ others.0, others.1)) (λ others. Ok (first.0 ∷ others.0, others.1)) more (bulks_stays n (room - (length first.0 + 16)) first.1 more) (λ others. refl))

minus_one_stays : (left : ℕ) (bytes more : List ℕ) → Stays part_on (minus_one left bytes) (minus_one (left + length more) (bytes ++ more)) more
unfolding minus_one
minus_one_stays left [] more = tt
minus_one_stays left (c ∷ bytes) more = if_stays part_on (c == 49) (text_end left (Some 0) bytes) (bad BadLength left) (text_end (left + length more) (Some 0) (bytes ++ more)) (bad BadLength (left + length more)) more (text_end_stays left (Some 0) bytes more) refl

pub count_stays : (bytes more : List ℕ) → Stays part_on (count bytes) (count (bytes ++ more)) more
unfolding count
count_stays [] more = tt
count_stays (c ∷ bytes) more =
    let e : length (bytes ++ more) + 2 ≡ length bytes + 2 + length more = omega (arith, length-append bytes more) in
    if_stays part_on (c == 45) (minus_one (length bytes + 2) bytes) (length_text Words (c ∷ bytes)) (minus_one (length (bytes ++ more) + 2) (bytes ++ more)) (length_text Words (c ∷ (bytes ++ more))) more
    (rw e (minus_one_stays (length bytes + 2) bytes more)) (length_text_stays Words (c ∷ bytes) more)

array_stays : (bytes more : List ℕ) → Stays part_on (array bytes) (array (bytes ++ more)) more
unfolding array
array_stays bytes more = then_stays part_on part_on (count bytes) (count (bytes ++ more)) (λ n. bulk_words n.0 16777216 n.1) (λ n. bulk_words n.0 16777216 n.1) more (count_stays bytes more) (λ n. bulks_stays n.0 16777216 n.1 more)

-- ---- inline lines

walk_stays : (most left : ℕ) (bytes more : List ℕ) → Stays part_on (walk most left bytes) (walk most (left + length more) (bytes ++ more)) more
unfolding walk
walk_stays zero left [] more = tt
walk_stays (suc n) left [] more = tt
walk_stays zero left (c ∷ rest) more = if_stays part_on (c == 10) (Ok ([], rest)) (bad TooLong left) (Ok ([], rest ++ more)) (bad TooLong (left + length more)) more refl refl
walk_stays (suc n) left (c ∷ rest) more =
    if_stays part_on (c == 10) (Ok ([], rest)) _ (Ok ([], rest ++ more)) _ more refl
    (if_stays part_on (is_quote c) (bad Quote (length rest + 1)) (walk n left rest >>= with_byte c) (bad Quote (length (rest ++ more) + 1)) (walk n (left + length more) (rest ++ more) >>= with_byte c) more
    (ap (bad Quote) (omega (arith, length-append rest more)))
    (then_stays part_on part_on (walk n left rest) (walk n (left + length more) (rest ++ more)) (with_byte c) (with_byte c) more (walk_stays n left rest more) (λ x. refl)))

pub line_stays : (bytes more : List ℕ) → Stays part_on (line bytes) (line (bytes ++ more)) more
line_stays bytes more =
    let e : length (bytes ++ more) ≡ length bytes + length more = length-append bytes more in
    rw (line_walk bytes, line_walk (bytes ++ more), e) (walk_stays 65536 (length bytes) bytes more)

pub inline_stays : (bytes more : List ℕ) → Stays part_on (inline bytes) (inline (bytes ++ more)) more
unfolding inline
inline_stays bytes more = then_stays part_on part_on (line bytes) (line (bytes ++ more)) (λ found. Ok (line_words found.0, found.1)) (λ found. Ok (line_words found.0, found.1)) more (line_stays bytes more) (λ found. refl)

-- ---- requests

pub header_stays : (bytes more : List ℕ) → Stays part_on (header bytes) (header (bytes ++ more)) more
unfolding header
header_stays [] more = tt
header_stays (c ∷ bytes) more =
    let counted : List (List ℕ) × List ℕ → Part ℕ = λ words. Ok (length words.0, words.1) in
    if_stays part_on (c == 42) (count bytes) (inline (c ∷ bytes) >>= counted) (count (bytes ++ more)) (inline (c ∷ (bytes ++ more)) >>= counted) more (count_stays bytes more)
    (then_stays part_on part_on (inline (c ∷ bytes)) (inline (c ∷ (bytes ++ more))) counted counted more (inline_stays (c ∷ bytes) more) (λ words. refl))

pub request_stays : (bytes more : List ℕ) → Stays part_on (request bytes) (request (bytes ++ more)) more
unfolding request
request_stays [] more = tt
request_stays (c ∷ bytes) more =
    if_stays part_on (c == 42) (array bytes) (inline (c ∷ bytes)) (array (bytes ++ more)) (inline (c ∷ (bytes ++ more))) more (array_stays bytes more) (inline_stays (c ∷ bytes) more)
