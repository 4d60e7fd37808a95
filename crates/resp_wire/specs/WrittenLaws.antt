-- What is read of a text is what a client writes.
use Rattle.std.proofs.Common.{◌≡◌, ℕ, zero, suc, ◌+◌, ◌-◌, ◌*◌, ◌/◌, ◌%◌, ◌^◌, ◌≤◌, ◌<◌, ◌⊎◌, Bool, true, false, cond, not, List, [], ◌∷◌, ◌++◌, length, take, drop, Some, None, Result, Ok, Err, refl, sym, ap, subst, ◌∙◌, append_assoc, arith, inl, inr}
use Rattle.std.specs.Prelude.{◌==◌, nat_lt, All, filter, sum_by, slice_index, decimal}
use Rattle.std.specs.List.{flat_map, onto_first, slice_split}
use Rattle.std.specs.Str.Lines.{strip_carriage_return}
use Rattle.std.specs.Char.{is_ascii_digit}
use Rattle.std.proofs.lemmas.Grind.{common_steps}
use Rattle.std.proofs.lemmas.Fmt.{decimal_digit, decimal_step}
use Rattle.std.proofs.lemmas.Bool.{cases_Bool}
use Rattle.std.proofs.lemmas.List.{take-append-drop, length-take, length-take-le}
use Rattle.std.proofs.lemmas.List.Splits.{slice_split-cons_yes, slice_split-cons_no, length-slice_split}
use Rattle.std.proofs.lemmas.List.Elements.{All-nil, All-cons}
use Rattle.std.proofs.lemmas.List.Sums.{sum_by-cons}
use Rattle.resp_wire.specs.declared.stop.ProtocolFault.TheVariants.{BadMark, BadLength, TooLong}
use Rattle.resp_wire.specs.declared.stop.Stop.{Stop}
use Rattle.resp_wire.specs.declared.stop.Stop.TheVariants.{More, Bad}
use Rattle.resp_wire.specs.declared.parts.LengthLimit.{LengthLimit}
use Rattle.resp_wire.specs.declared.parts.LengthLimit.TheVariants.{Words, Bytes}
use Rattle.resp_wire.specs.Grammar.{Part, End, requests, after_request, ◌>>=◌, star, dollar, carriage_return, line_feed, behind_byte, behind_line_end, exceeds, with_digit, text_end, length_from, length_text, body, bulk, bulk_words, minus_one, count, array, is_blank, is_word, line, line_words, inline, request}
use Rattle.resp_wire.specs.LineLaws.{line_written}
use Rattle.resp_wire.specs.Reading.{ReadsRequest}
use Rattle.resp_wire.specs.Behind.{Shortens}
use Rattle.resp_wire.specs.BehindLaws.{request_shortens}
use Rattle.resp_wire.specs.RequestLaws.{requests_is}
use Rattle.resp_wire.specs.Encoding.{length_line, bulk_text, request_text, null_text, cost, IsWithinLimits, IsRequest, OnlyTextsAreRead, WordsAreWithinLimits}
use Rattle.resp_wire.specs.EncodingLaws.{limit_is_small}

-- ---- what a part that was read goes back to

if_ok : {X : Type 0} (b : Bool) (r s : Result X Stop) (x : X) → cond b r s ≡ Ok x → ((b ≡ true) × (r ≡ Ok x)) ⊎ ((b ≡ false) × (s ≡ Ok x))
if_ok true r s x e = inl (refl, e)
if_ok false r s x e = inr (refl, e)

-- the first of two is a fault
if_later : {X : Type 0} (b : Bool) (stop : Stop) (s : Result X Stop) (x : X) → cond b (Err stop) s ≡ Ok x → (b ≡ false) × (s ≡ Ok x)
if_later true stop s x e = absurd cc
if_later false stop s x e = (refl, e)

if_first : {X : Type 0} (b : Bool) (r : Result X Stop) (stop : Stop) (x : X) → cond b r (Err stop) ≡ Ok x → (b ≡ true) × (r ≡ Ok x)
if_first true r stop x e = (refl, e)
if_first false r stop x e = absurd cc

then_ok : {X Y : Type 0} (r : Result X Stop) (f : X → Result Y Stop) (y : Y) → (r >>= f) ≡ Ok y → (x : X) × ((r ≡ Ok x) × (f x ≡ Ok y))
then_ok (Ok x) f y e = (x, (refl, e))
then_ok (Err stop) f y e = absurd cc

same_ok : {X : Type 0} (x y : X) → ◌≡◌ {A = Result X Stop} (Ok x) (Ok y) → x ≡ y
same_ok x y e = cc

-- ---- bytes

mark_written : (byte : ℕ) (bytes rest : List ℕ) → behind_byte byte bytes ≡ Ok rest → bytes ≡ byte ∷ rest
unfolding behind_byte
mark_written byte [] rest e = absurd cc
mark_written byte (c ∷ bytes) rest e =
    let found = if_first (c == byte) (Ok bytes) (Bad BadMark (length bytes + 1)) rest e in
    let is : c ≡ byte = (let t = found.0 in grind (arith, common_steps)) in
    let behind : bytes ≡ rest = (let t = found.1 in cc) in
    cc

line_end_written : (bytes rest : List ℕ) → behind_line_end bytes ≡ Ok rest → bytes ≡ carriage_return ∷ line_feed ∷ rest
unfolding behind_line_end
line_end_written bytes rest e =
    let found = then_ok (behind_byte carriage_return bytes) (behind_byte line_feed) rest e in
    mark_written carriage_return bytes found.0 found.1.0 ∙ ap (λ (behind : List ℕ). carriage_return ∷ behind) (mark_written line_feed found.0 rest found.1.1)

-- ---- lengths

text_end_written : (left n : ℕ) (bytes : List ℕ) (m : ℕ) (rest : List ℕ) → text_end left (Some n) bytes ≡ Ok (m, rest) → (n ≡ m) × (bytes ≡ carriage_return ∷ line_feed ∷ rest)
unfolding text_end
text_end_written left n [] m rest e = absurd cc
text_end_written left n (c ∷ bytes) m rest e =
    let found = if_first (c == carriage_return) (behind_byte line_feed bytes >>= λ behind. Ok (n, behind)) (Bad BadLength left) (m, rest) e in
    let read = then_ok (behind_byte line_feed bytes) (λ behind. Ok (n, behind)) (m, rest) found.1 in
    let same : (n, read.0) ≡ (m, rest) = same_ok (n, read.0) (m, rest) read.1.1 in
    let is : c ≡ carriage_return = (let t = found.0 in grind (arith, common_steps)) in (
      ap (λ (x : ℕ × List ℕ). x.0) same,
      ap (λ (b : ℕ). b ∷ bytes) is ∙ ap (λ (behind : List ℕ). carriage_return ∷ behind) (mark_written line_feed bytes read.0 read.1.0) ∙ ap (λ (x : ℕ × List ℕ). carriage_return ∷ line_feed ∷ x.1) same,
    )

digit_bounds : (c : ℕ) → not (is_ascii_digit c) ≡ false → (48 ≤ c) × (c < 58)
digit_bounds c h = (grind (arith, common_steps), grind (arith, common_steps))

-- a further digit
digit_added : (n c m : ℕ) → m ≡ n * 10 + (c - 48) → 0 < n → 48 ≤ c → c < 58 → m < 2 ^ 64 → decimal m ≡ decimal n ++ c ∷ []
digit_added n c m e some low high limit_is_small =
    let tens : m / 10 ≡ n = omega arith in
    let ones : 48 + m % 10 ≡ c = omega arith in
    decimal_step m (omega arith) limit_is_small ∙ ap (λ (k : ℕ). decimal k ++ (48 + m % 10) ∷ []) tens ∙ ap (λ (d : ℕ). decimal n ++ d ∷ []) ones

first_digit : (c m : ℕ) → m ≡ 0 * 10 + (c - 48) → 48 ≤ c → c < 58 → decimal m ≡ c ∷ []
first_digit c m e low high = let k : 48 + m ≡ c = omega arith in decimal_digit m (omega arith) ∙ ap (λ (d : ℕ). d ∷ []) k

number_written : (limit : LengthLimit) (left n : ℕ) (bytes : List ℕ) (m : ℕ) (rest : List ℕ) → exceeds limit n ≡ false → length_from limit left (Some n) bytes ≡ Ok (m, rest)
    → (exceeds limit m ≡ false) × (decimal n ++ bytes ≡ decimal m ++ carriage_return ∷ line_feed ∷ rest)
unfolding length_from
number_written limit left n [] m rest h e = absurd cc
number_written limit left n (c ∷ bytes) m rest h e = elim (if_ok (not (is_ascii_digit c)) (text_end left (Some n) (c ∷ bytes)) _ (m, rest) e) [
  | inl ended ↦
      let found = text_end_written left n (c ∷ bytes) m rest ended.1 in
      (ap (exceeds limit) (sym found.0) ∙ h, ap (λ (k : ℕ). decimal k ++ c ∷ bytes) found.0 ∙ ap (λ (b : List ℕ). decimal m ++ b) found.1)
  | inr digit ↦
      let bounds = digit_bounds c digit.0 in
      let some = if_later (n == 0) (Bad BadLength left) _ (m, rest) digit.1 in
      let below = if_later (exceeds limit (with_digit (Some n) c)) (Bad TooLong left) _ (m, rest) some.1 in
      let on = number_written limit left (with_digit (Some n) c) bytes m rest below.0 below.1 in
      let pos : 0 < n = (let t = some.0 in grind (arith, common_steps)) in
      let added = digit_added n c (with_digit (Some n) c) refl pos bounds.0 bounds.1 (limit_is_small limit (with_digit (Some n) c) below.0) in
      (on.0, sym (append_assoc (decimal n) (c ∷ []) bytes) ∙ ap (λ (d : List ℕ). d ++ bytes) (sym added) ∙ on.1)
]

length_text_written : (limit : LengthLimit) (bytes : List ℕ) (n : ℕ) (rest : List ℕ) → length_text limit bytes ≡ Ok (n, rest) → (exceeds limit n ≡ false) × (bytes ≡ decimal n ++ carriage_return ∷ line_feed ∷ rest)
unfolding length_text length_from text_end
length_text_written limit [] n rest e = absurd cc
length_text_written limit (c ∷ bytes) n rest e =
    let left : ℕ = length (c ∷ bytes) + 1 in
    let digit = if_later (not (is_ascii_digit c)) (Bad BadLength left) _ (n, rest) e in
    let bounds = digit_bounds c digit.0 in
    let below = if_later (exceeds limit (with_digit None c)) (Bad TooLong left) _ (n, rest) digit.1 in
    let on = number_written limit left (with_digit None c) bytes n rest below.0 below.1 in
    (on.0, ap (λ (d : List ℕ). d ++ bytes) (sym (first_digit c (with_digit None c) refl bounds.0 bounds.1)) ∙ on.1)

-- ---- words

body_written : (n : ℕ) (bytes word rest : List ℕ) → body n bytes ≡ Ok (word, rest) → (length word ≡ n) × (bytes ≡ word ++ carriage_return ∷ line_feed ∷ rest)
unfolding body
body_written n bytes word rest e =
    let there = if_later (nat_lt (length bytes) n) More _ (word, rest) e in
    let found = then_ok (behind_line_end (drop n bytes)) (λ behind. Ok (take n bytes, behind)) (word, rest) there.1 in
    let same : (take n bytes, found.0) ≡ (word, rest) = same_ok (take n bytes, found.0) (word, rest) found.1.1 in
    let long : n ≤ length bytes = (let t = there.0 in grind (arith, common_steps)) in
    let is : take n bytes ≡ word = ap (λ (x : List ℕ × List ℕ). x.0) same in (
      ap length (sym is) ∙ omega (arith, length-take n bytes),
      sym (take-append-drop n bytes) ∙ ap (λ (b : List ℕ). take n bytes ++ b) (line_end_written (drop n bytes) found.0 found.1.0) ∙ ap (λ (x : List ℕ × List ℕ). x.0 ++ carriage_return ∷ line_feed ∷ x.1) same,
    )

bulk_written : (room : ℕ) (bytes word rest : List ℕ) → bulk room bytes ≡ Ok (word, rest) → (exceeds (Bytes room) (length word) ≡ false) × (bytes ≡ bulk_text word ++ rest)
unfolding bulk
bulk_written room bytes word rest e =
    let marked = then_ok (behind_byte dollar bytes) (λ behind. length_text (Bytes room) behind >>= λ n. body n.0 n.1) (word, rest) e in
    let counted = then_ok (length_text (Bytes room) marked.0) (λ n. body n.0 n.1) (word, rest) marked.1.1 in
    let number = length_text_written (Bytes room) marked.0 counted.0.0 counted.0.1 counted.1.0 in
    let found = body_written counted.0.0 counted.0.1 word rest counted.1.1 in
    let flat : bulk_text word ++ rest ≡ dollar ∷ (decimal (length word) ++ carriage_return ∷ line_feed ∷ (word ++ carriage_return ∷ line_feed ∷ rest)) = simp append_assoc in (
      ap (exceeds (Bytes room)) found.0 ∙ number.0,
      mark_written dollar bytes marked.0 marked.1.0 ∙ ap (λ (b : List ℕ). dollar ∷ b) (number.1 ∙ ap (λ (b : List ℕ). decimal counted.0.0 ++ carriage_return ∷ line_feed ∷ b) found.1)
          ∙ ap (λ (k : ℕ). dollar ∷ (decimal k ++ carriage_return ∷ line_feed ∷ (word ++ carriage_return ∷ line_feed ∷ rest))) (sym found.0) ∙ sym flat,
    )

record Written (n room : ℕ) (bytes : List ℕ) (words : List (List ℕ)) (rest : List ℕ) : Type 0 where
  count : length words ≡ n
  each : All (λ word. length word ≤ 1048576) words
  all : sum_by cost words ≤ room
  is : bytes ≡ flat_map bulk_text words ++ rest

one_more : (n room : ℕ) (bytes word behind : List ℕ) (words : List (List ℕ)) (rest : List ℕ) → (exceeds (Bytes room) (length word) ≡ false) × (bytes ≡ bulk_text word ++ behind)
    → Written n (room - (length word + 16)) behind words rest → Written (suc n) room bytes (word ∷ words) rest
one_more n room bytes word behind words rest first others =
    let limit : length word ≤ 1048576 = (let t = first.0 in grind (arith, common_steps)) in
    let fits : cost word ≤ room = (let t = first.0 in grind (arith, common_steps)) in
    let total : cost word + sum_by cost words ≤ room = omega (arith, others.all) in
    record {
      count = omega (arith, others.count);
      each = All-cons (λ (w : List ℕ). length w ≤ 1048576) word words limit others.each;
      all = rw sum_by-cons total;
      is = first.1 ∙ ap (λ (b : List ℕ). bulk_text word ++ b) others.is ∙ sym (append_assoc (bulk_text word) (flat_map bulk_text words) rest);
    }

bulks_written : (n room : ℕ) (bytes : List ℕ) (words : List (List ℕ)) (rest : List ℕ) → bulk_words n room bytes ≡ Ok (words, rest) → Written n room bytes words rest
unfolding bulk_words
bulks_written zero room bytes words rest e =
    let same : ([], bytes) ≡ (words, rest) = same_ok ([], bytes) (words, rest) e in
    let P : List (List ℕ) × List ℕ → Type 0 = λ x. Written 0 room bytes x.0 x.1 in
    subst P same (record { count = refl; each = All-nil (λ (w : List ℕ). length w ≤ 1048576); all = omega arith; is = refl })
bulks_written (suc n) room bytes words rest e =
    let first = then_ok (bulk room bytes) (λ first. bulk_words n (room - (length first.0 + 16)) first.1 >>= λ others. Ok (first.0 ∷ others.0, others.1)) (words, rest) e in
    let others = then_ok (bulk_words n (room - (length first.0.0 + 16)) first.0.1) (λ others. Ok (first.0.0 ∷ others.0, others.1)) (words, rest) first.1.1 in
    let same : (first.0.0 ∷ others.0.0, others.0.1) ≡ (words, rest) = same_ok (first.0.0 ∷ others.0.0, others.0.1) (words, rest) others.1.1 in
    let P : List (List ℕ) × List ℕ → Type 0 = λ x. Written (suc n) room bytes x.0 x.1 in
    subst P same (one_more n room bytes first.0.0 first.0.1 others.0.0 others.0.1 (bulk_written room bytes first.0.0 first.0.1 first.1.0) (bulks_written n (room - (length first.0.0 + 16)) first.0.1 others.0.0 others.0.1 others.1.0))

-- ---- arrays

minus_one_written : (left : ℕ) (bytes : List ℕ) (n : ℕ) (rest : List ℕ) → minus_one left bytes ≡ Ok (n, rest) → (n ≡ 0) × (bytes ≡ 49 ∷ carriage_return ∷ line_feed ∷ rest)
unfolding minus_one
minus_one_written left [] n rest e = absurd cc
minus_one_written left (c ∷ bytes) n rest e =
    let found = if_first (c == 49) (text_end left (Some 0) bytes) (Bad BadLength left) (n, rest) e in
    let ended = text_end_written left 0 bytes n rest found.1 in
    let is : c ≡ 49 = (let t = found.0 in grind (arith, common_steps)) in
    (sym ended.0, ap (λ (b : ℕ). b ∷ bytes) is ∙ ap (λ (b : List ℕ). 49 ∷ b) ended.1)

abbrev CountWritten : List ℕ → ℕ → List ℕ → Type 0
CountWritten bytes n rest = ((exceeds Words n ≡ false) × (star ∷ bytes ≡ length_line star n ++ rest)) ⊎ ((n ≡ 0) × (star ∷ bytes ≡ null_text ++ rest))

count_written : (bytes : List ℕ) (n : ℕ) (rest : List ℕ) → count bytes ≡ Ok (n, rest) → CountWritten bytes n rest
unfolding count
count_written [] n rest e = absurd cc
count_written (c ∷ bytes) n rest e = elim (if_ok (c == 45) (minus_one (length bytes + 2) bytes) (length_text Words (c ∷ bytes)) (n, rest) e) [
  | inl minus ↦
      let found = minus_one_written (length bytes + 2) bytes n rest minus.1 in
      let is : c ≡ 45 = (let t = minus.0 in grind (arith, common_steps)) in
      inr (found.0, ap (λ (b : ℕ). star ∷ b ∷ bytes) is ∙ ap (λ (b : List ℕ). star ∷ 45 ∷ b) found.1)
  | inr plain ↦
      let found = length_text_written Words (c ∷ bytes) n rest plain.1 in
      inl (found.0, ap (λ (b : List ℕ). star ∷ b) (found.1 ∙ sym (append_assoc (decimal n) (carriage_return ∷ line_feed ∷ []) rest)))
]

nothing_written : (n room : ℕ) (bytes : List ℕ) (words : List (List ℕ)) (rest : List ℕ) → n ≡ 0 → bulk_words n room bytes ≡ Ok (words, rest) → (words ≡ []) × (bytes ≡ rest)
unfolding bulk_words
nothing_written zero room bytes words rest none e =
    let same : ([], bytes) ≡ (words, rest) = same_ok ([], bytes) (words, rest) e in
    (sym (ap (λ (x : List (List ℕ) × List ℕ). x.0) same), ap (λ (x : List (List ℕ) × List ℕ). x.1) same)
nothing_written (suc n) room bytes words rest none e = absurd (omega arith)

-- ---- inline lines

first_of : (c : ℕ) (bytes text rest : List ℕ) → (c == star) ≡ false → c ∷ bytes ≡ text ++ line_feed ∷ rest → slice_index text 0 ≡ star → ⊥
first_of c bytes [] rest other e first = absurd (omega arith)
first_of c bytes (d ∷ text) rest other e first = let same : c ≡ d = cc in grind (arith, common_steps)

-- a part takes one more than its length of its line
abbrev part_cost : List ℕ → ℕ
part_cost part = length part + 1

parts_of : (c : ℕ) (parts : List (List ℕ)) → 0 < length parts → sum_by part_cost (onto_first c parts) ≡ sum_by part_cost parts + 1
parts_of c [] some = absurd (omega arith)
parts_of c (part ∷ parts) some = rw (sum_by-cons, sum_by-cons) (omega arith)

some_parts : (p : ℕ → Bool) (text : List ℕ) → 0 < length (slice_split p text)
some_parts p text = rw (length-slice_split p text) (omega arith)

split_cost : (p : ℕ → Bool) (text : List ℕ) → sum_by part_cost (slice_split p text) ≡ length text + 1
split_cost p [] = refl
split_cost p (c ∷ text) = elim (cases_Bool (p c)) [
  | inl h ↦ ap (sum_by part_cost) (slice_split-cons_yes p c text h) ∙ sum_by-cons part_cost [] (slice_split p text) ∙ omega (arith, split_cost p text)
  | inr h ↦ ap (sum_by part_cost) (slice_split-cons_no p c text h) ∙ parts_of c (slice_split p text) (some_parts p text) ∙ omega (arith, split_cost p text)
]

-- words that are not empty, by what their parts take
record Few (words : List (List ℕ)) (total : ℕ) : Type 0 where
  count : 2 * length words ≤ total
  each : All (λ word. length word ≤ total) words
  all : sum_by cost words ≤ 9 * total

few : (parts : List (List ℕ)) (total : ℕ) → sum_by part_cost parts ≤ total → Few (filter is_word parts) total
few [] total h = record { count = omega arith; each = All-nil (λ word. length word ≤ total); all = omega arith }
few ([] ∷ parts) total h = let less = rw sum_by-cons at h in few parts total (omega arith)
few ((c ∷ word) ∷ parts) total h =
    let less : length word + 2 + sum_by part_cost parts ≤ total = (let k = rw sum_by-cons at h in omega arith) in
    let later = few parts (total - (length word + 2)) (omega arith) in
    record {
      count = omega (arith, later.count);
      each = All-cons (λ w. length w ≤ total) (c ∷ word) (filter is_word parts) (omega arith) (λ k d lt. let le = later.each k d lt in omega arith);
      all = rw sum_by-cons (omega (arith, later.all));
    }

stripped : (text : List ℕ) → length (strip_carriage_return text) ≤ length text
stripped text = grind (arith, common_steps, length-take-le)

-- the words of a line that is no longer than it may be are within the limits of a request
line_words_within : (text : List ℕ) → length text ≤ 65536 → IsWithinLimits (line_words text)
unfolding line_words
line_words_within text fits =
    let limit_is_small = few (slice_split is_blank (strip_carriage_return text)) 65537 (omega (arith, split_cost is_blank (strip_carriage_return text), stripped text)) in
    record { count = omega (arith, limit_is_small.count); each = λ k d lt. let le = limit_is_small.each k d lt in omega arith; all = omega (arith, limit_is_small.all) }

-- ---- requests

abbrev RequestWritten : List ℕ → List (List ℕ) → List ℕ → Type 0
RequestWritten bytes words rest = IsWithinLimits words × ((text : List ℕ) × IsRequest words text × (bytes ≡ text ++ rest))

no_words : IsWithinLimits []
no_words = record { count = omega arith; each = All-nil (λ (w : List ℕ). length w ≤ 1048576); all = omega arith }

array_written : (bytes : List ℕ) (words : List (List ℕ)) (rest : List ℕ) → array bytes ≡ Ok (words, rest) → RequestWritten (star ∷ bytes) words rest
unfolding array
array_written bytes words rest e =
    let counted = then_ok (count bytes) (λ n. bulk_words n.0 16777216 n.1) (words, rest) e in
    elim (count_written bytes counted.0.0 counted.0.1 counted.1.0) [
      | inl plain ↦
          let found = bulks_written counted.0.0 16777216 counted.0.1 words rest counted.1.1 in
          let few : counted.0.0 ≤ 65536 = (let t = plain.0 in grind (arith, common_steps)) in (
            record { count = omega (arith, found.count); each = found.each; all = found.all },
            (
              request_text words,
              inl refl,
              plain.1 ∙ ap (λ (k : ℕ). length_line star k ++ counted.0.1) (sym found.count) ∙ ap (λ (b : List ℕ). length_line star (length words) ++ b) found.is
                  ∙ sym (append_assoc (length_line star (length words)) (flat_map bulk_text words) rest),
            ),
          )
      | inr null ↦
          let found = nothing_written counted.0.0 16777216 counted.0.1 words rest null.0 counted.1.1 in
          (subst IsWithinLimits (sym found.0) no_words, (null_text, inr (inl (found.0, refl)), null.1 ∙ ap (λ (b : List ℕ). null_text ++ b) found.1))
    ]

inline_written : (c : ℕ) (bytes : List ℕ) (words : List (List ℕ)) (rest : List ℕ) → (c == star) ≡ false → inline (c ∷ bytes) ≡ Ok (words, rest) → RequestWritten (c ∷ bytes) words rest
unfolding inline
inline_written c bytes words rest other e =
    let found = then_ok (line (c ∷ bytes)) (λ found. Ok (line_words found.0, found.1)) (words, rest) e in
    let same : (line_words found.0.0, found.0.1) ≡ (words, rest) = same_ok (line_words found.0.0, found.0.1) (words, rest) found.1.1 in
    let P : List (List ℕ) × List ℕ → Type 0 = λ x. RequestWritten (c ∷ bytes) x.0 x.1 in
    let ended = line_written (c ∷ bytes) found.0.0 found.0.1 found.1.0 in
    let first : slice_index found.0.0 0 ≡ star → ⊥ = first_of c bytes found.0.0 found.0.1 other ended.is in
    subst P same (
      line_words_within found.0.0 ended.fits,
      (
        found.0.0 ++ line_feed ∷ [],
        inr (inr (record { front = found.0.0; is_line = record { fits = ended.fits; plain = ended.plain; first = first }; has = refl; is = refl })),
        ended.is ∙ sym (append_assoc found.0.0 (line_feed ∷ []) found.0.1),
      ),
    )

pub only_texts_are_read : OnlyTextsAreRead
unfolding request
only_texts_are_read [] words rest e = absurd cc
only_texts_are_read (c ∷ bytes) words rest e = elim (if_ok (c == 42) (array bytes) (inline (c ∷ bytes)) (words, rest) e) [
  | inl read ↦
      let is : c ≡ 42 = (let t = read.0 in grind (arith, common_steps)) in
      let P : ℕ → Type 0 = λ b. RequestWritten (b ∷ bytes) words rest in
      subst P (sym is) (array_written bytes words rest read.1)
  | inr read ↦ inline_written c bytes words rest read.0 read.1
]

-- ---- all requests of a text

within_after : (bytes : List ℕ) (r : Part (List (List ℕ))) → request bytes ≡ r → Shortens bytes r → ((rest : List ℕ) → length rest < length bytes → All IsWithinLimits (requests rest).0) → All IsWithinLimits (after_request requests bytes r).0
within_after bytes (Ok ([], rest)) e s others = others rest s.1
within_after bytes (Ok (word ∷ words, rest)) e s others = All-cons IsWithinLimits (word ∷ words) (requests rest).0 (only_texts_are_read bytes (word ∷ words) rest e).0 (others rest s.1)
within_after bytes (Err More) e s others = All-nil IsWithinLimits
within_after bytes (Err (Bad kind left)) e s others = All-nil IsWithinLimits

within_shorter : (n : ℕ) (bytes : List ℕ) → length bytes < n → All IsWithinLimits (requests bytes).0
within_shorter zero bytes h = absurd (omega arith)
within_shorter (suc n) bytes h = subst (λ (found : List (List (List ℕ)) × End). All IsWithinLimits found.0) (sym (requests_is bytes)) (within_after bytes (request bytes) refl (request_shortens bytes) (λ rest lt. within_shorter n rest (omega arith)))

pub words_are_within_limits : WordsAreWithinLimits
words_are_within_limits bytes = within_shorter (length bytes + 1) bytes (omega arith)

-- the words that a reader hands out
pub reads_within_limits : (old : List ℕ) (words : List (List ℕ)) (new : List ℕ) → ReadsRequest old words new → IsWithinLimits words
reads_within_limits old [] new reads = no_words
reads_within_limits old (word ∷ words) new reads = subst (λ (found : List (List (List ℕ)) × End). All IsWithinLimits found.0) (reads []) (words_are_within_limits (old ++ [])) 0 [] (omega arith)
