-- Laws on what stands in `Encoding.antt`.
use Rattle.std.specs.Prelude.{◌≡◌, ℕ, ◌+◌, ◌-◌, ◌/◌, ◌%◌, ◌^◌, ◌≤◌, ◌<◌, true, false, ◌==◌, nat_lt, All, List, [], ◌∷◌, ◌++◌, length, sum_by, decimal, Some, None, Ok, refl}
use Rattle.std.specs.List.{flat_map}
use Rattle.std.proofs.Common.{ap, ◌∙◌, append_assoc, arith}
use Rattle.std.specs.Char.{is_ascii_digit}
use Rattle.std.proofs.lemmas.Grind.{common_steps}
use Rattle.std.proofs.lemmas.Fmt.{decimal_by_steps}
use Rattle.std.proofs.lemmas.List.{length-append}
use Rattle.std.proofs.lemmas.List.Elements.{All-head, All-tail}
use Rattle.std.proofs.lemmas.List.Sums.{sum_by-cons}
use Rattle.std.proofs.Math.Seq.{take-append_seam, drop-append_seam}
use Rattle.resp_wire.specs.declared.parts.LengthLimit.{LengthLimit}
use Rattle.resp_wire.specs.declared.parts.LengthLimit.TheVariants.{Words, Bytes}
use Rattle.resp_wire.specs.Grammar.{carriage_return, line_feed, behind_byte, behind_line_end, exceeds, with_digit, text_end, length_from, length_text, body, bulk, bulk_words, count, array, line_words, request, requests, after_request}
use Rattle.resp_wire.specs.Lines.{BeginsLine}
use Rattle.resp_wire.specs.LineLaws.{line_request, inline_read, line_read}
use Rattle.resp_wire.specs.RequestLaws.{requests_is}
use Rattle.resp_wire.specs.Encoding.{bulk_text, request_text, cost, IsWithinLimits, TextsAreRead, IsLine, LinesAreRead}

-- ---- lengths

fewer : (limit : LengthLimit) (m n : ℕ) → m ≤ n → exceeds limit n ≡ false → exceeds limit m ≡ false
fewer Words m n le h = grind (arith, common_steps)
fewer (Bytes room) m n le h = grind (arith, common_steps)

pub limit_is_small : (limit : LengthLimit) (n : ℕ) → exceeds limit n ≡ false → n < 2 ^ 64
limit_is_small Words n h = let k : n ≤ 65536 = grind (arith, common_steps) in omega arith
limit_is_small (Bytes room) n h = let k : n ≤ 1048576 = grind (arith, common_steps) in omega arith

abbrev DigitsRead : LengthLimit → ℕ → ℕ → List ℕ → Type 0
DigitsRead limit left n digits = exceeds limit n ≡ false → (tail : List ℕ) → length_from limit left None (digits ++ tail) ≡ length_from limit left (Some n) tail

one_digit : (limit : LengthLimit) (left n : ℕ) → n < 10 → DigitsRead limit left n ((48 + n) ∷ [])
unfolding length_from
one_digit limit left n lt h tail =
    let d : is_ascii_digit (48 + n) ≡ true = grind (arith, common_steps) in
    let e : with_digit None (48 + n) ≡ n = omega arith in
    rw (d, e, h) refl

more_digits : (limit : LengthLimit) (left n : ℕ) (digits : List ℕ) → 10 ≤ n → DigitsRead limit left (n / 10) digits → DigitsRead limit left n (digits ++ (48 + n % 10) ∷ [])
unfolding length_from
more_digits limit left n digits ge before h tail =
    let d : is_ascii_digit (48 + n % 10) ≡ true = grind (arith, common_steps) in
    let e : with_digit (Some (n / 10)) (48 + n % 10) ≡ n = omega arith in
    let z : (n / 10 == 0) ≡ false = grind (arith, common_steps) in
    rw append_assoc (before (fewer limit (n / 10) n (omega arith) h) ((48 + n % 10) ∷ tail) ∙ rw (d, z, e, h) refl)

digits_read : (limit : LengthLimit) (left n : ℕ) → exceeds limit n ≡ false → (tail : List ℕ) → length_from limit left None (decimal n ++ tail) ≡ length_from limit left (Some n) tail
digits_read limit left n h = decimal_by_steps (DigitsRead limit left) (one_digit limit left) (more_digits limit left) n (limit_is_small limit n h) h

ended : (limit : LengthLimit) (left n : ℕ) (rest : List ℕ) → length_from limit left (Some n) (carriage_return ∷ line_feed ∷ rest) ≡ Ok (n, rest)
unfolding length_from text_end behind_byte
ended limit left n rest = refl

number_read : (limit : LengthLimit) (n : ℕ) (rest : List ℕ) → exceeds limit n ≡ false → length_text limit (decimal n ++ carriage_return ∷ line_feed ∷ rest) ≡ Ok (n, rest)
unfolding length_text
number_read limit n rest h = digits_read limit _ n h (carriage_return ∷ line_feed ∷ rest) ∙ ended limit _ n rest

abbrev CountsAsLength : ℕ → List ℕ → Type 0
CountsAsLength n digits = (tail : List ℕ) → count (digits ++ tail) ≡ length_text Words (digits ++ tail)

one_counted : (n : ℕ) → n < 10 → CountsAsLength n ((48 + n) ∷ [])
unfolding count
one_counted n lt tail = let m : (48 + n == 45) ≡ false = grind (arith, common_steps) in rw m refl

more_counted : (n : ℕ) (digits : List ℕ) → 10 ≤ n → CountsAsLength (n / 10) digits → CountsAsLength n (digits ++ (48 + n % 10) ∷ [])
more_counted n digits ge before tail = rw append_assoc (before ((48 + n % 10) ∷ tail))

count_read : (n : ℕ) (rest : List ℕ) → exceeds Words n ≡ false → count (decimal n ++ carriage_return ∷ line_feed ∷ rest) ≡ Ok (n, rest)
count_read n rest h = decimal_by_steps CountsAsLength one_counted more_counted n (limit_is_small Words n h) (carriage_return ∷ line_feed ∷ rest) ∙ number_read Words n rest h

-- ---- words

line_ended : (rest : List ℕ) → behind_line_end (carriage_return ∷ line_feed ∷ rest) ≡ Ok rest
unfolding behind_line_end behind_byte
line_ended rest = refl

body_read : (word rest : List ℕ) → body (length word) (word ++ carriage_return ∷ line_feed ∷ rest) ≡ Ok (word, rest)
unfolding body
body_read word rest =
    let l : nat_lt (length (word ++ carriage_return ∷ line_feed ∷ rest)) (length word) ≡ false = grind (arith, common_steps, length-append word (carriage_return ∷ line_feed ∷ rest)) in
    rw (l, take-append_seam word (carriage_return ∷ line_feed ∷ rest), drop-append_seam word (carriage_return ∷ line_feed ∷ rest), line_ended rest) refl

bulk_read : (room : ℕ) (word rest : List ℕ) → exceeds (Bytes room) (length word) ≡ false → bulk room (bulk_text word ++ rest) ≡ Ok (word, rest)
unfolding bulk behind_byte
bulk_read room word rest h =
    let e : decimal (length word) ++ carriage_return ∷ line_feed ∷ [] ++ word ++ carriage_return ∷ line_feed ∷ [] ++ rest ≡ decimal (length word) ++ carriage_return ∷ line_feed ∷ (word ++ carriage_return ∷ line_feed ∷ rest) = simp append_assoc in
    rw (e, number_read (Bytes room) (length word) (word ++ carriage_return ∷ line_feed ∷ rest) h) (body_read word rest)

fits : (room : ℕ) (word : List ℕ) → length word ≤ 1048576 → cost word ≤ room → exceeds (Bytes room) (length word) ≡ false
fits room word le room-le = grind (arith, common_steps)

bulks_read : (words : List (List ℕ)) (room : ℕ) (rest : List ℕ) → All (λ word. length word ≤ 1048576) words → sum_by cost words ≤ room → bulk_words (length words) room (flat_map bulk_text words ++ rest) ≡ Ok (words, rest)
unfolding bulk_words
bulks_read [] room rest each all = refl
bulks_read (word ∷ words) room rest each all =
    let total : cost word + sum_by cost words ≤ room = rw sum_by-cons at all in
    let e : bulk_text word ++ flat_map bulk_text words ++ rest ≡ bulk_text word ++ (flat_map bulk_text words ++ rest) = append_assoc (bulk_text word) (flat_map bulk_text words) rest in
    let first = bulk_read room word (flat_map bulk_text words ++ rest) (fits room word (All-head (λ (w : List ℕ). length w ≤ 1048576) word words each) (omega arith)) in
    let others = bulks_read words (room - cost word) rest (All-tail (λ (w : List ℕ). length w ≤ 1048576) word words each) (omega arith) in
    rw (e, first, others) refl

-- ---- requests

request_read : (words : List (List ℕ)) (rest : List ℕ) → IsWithinLimits words → request (request_text words ++ rest) ≡ Ok (words, rest)
unfolding request array
request_read words rest within =
    let limit_is_small : exceeds Words (length words) ≡ false = (let k = within.count in grind (arith, common_steps)) in
    let e : decimal (length words) ++ carriage_return ∷ line_feed ∷ [] ++ flat_map bulk_text words ++ rest ≡ decimal (length words) ++ carriage_return ∷ line_feed ∷ (flat_map bulk_text words ++ rest) = simp append_assoc in
    rw (e, count_read (length words) (flat_map bulk_text words ++ rest) limit_is_small) (bulks_read words 16777216 rest within.each within.all)

pub texts_are_read : TextsAreRead
texts_are_read words rest within = requests_is (request_text words ++ rest) ∙ ap (after_request requests (request_text words ++ rest)) (request_read words rest within)

-- ---- inline lines

line_begins : (text rest : List ℕ) → IsLine text → BeginsLine (text ++ line_feed ∷ rest)
line_begins [] rest is = record { some = omega arith; first = λ e. absurd (omega arith) }
line_begins (c ∷ text) rest is = record { some = omega arith; first = is.first }

pub lines_are_read : LinesAreRead
lines_are_read text rest is =
    let bytes : List ℕ = text ++ line_feed ∷ rest in
    let read : request bytes ≡ Ok (line_words text, rest) = line_request bytes (line_begins text rest is) ∙ inline_read bytes text rest (line_read text rest is.fits is.plain) in
    requests_is bytes ∙ ap (after_request requests bytes) read
