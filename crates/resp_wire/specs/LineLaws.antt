-- Laws on what stands in `Lines.antt`.
use Rattle.std.specs.Prelude.{◌≡◌, ℕ, zero, suc, ◌+◌, ◌-◌, ◌≤◌, ◌<◌, Bool, true, false, ◌==◌, ◌||◌, nat_lt, if◌then◌else◌, List, [], ◌∷◌, ◌++◌, length, take, drop, slice_index, All, Ok, Err, refl}
use Rattle.std.specs.List.{list_any, position_or_len, before_first, after_first}
use Rattle.std.proofs.Common.{sym, ap, subst, ◌∙◌, add-one, drop-cons, arith, inl, inr}
use Rattle.std.proofs.lemmas.Grind.{common_steps}
use Rattle.std.proofs.lemmas.Bool.{cases_Bool}
use Rattle.std.proofs.lemmas.List.{append-nil, drop_all, drop-drop, length-drop, length-append, get_or_append_left}
use Rattle.std.proofs.lemmas.List.Elements.{All-nil, All-cons}
use Rattle.std.proofs.Math.Seq.{take-append_seam, drop-append_seam, get_or-append_seam}
use Rattle.resp_wire.specs.declared.stop.ProtocolFault.TheVariants.{TooLong, Quote}
use Rattle.resp_wire.specs.declared.stop.Stop.{Stop}
use Rattle.resp_wire.specs.declared.stop.Stop.TheVariants.{More, Bad}
use Rattle.resp_wire.specs.Grammar.{Part, ◌>>=◌, line_feed, is_line_feed, is_quote, line_within, line, line_words, inline, header, request}
use Rattle.resp_wire.specs.Lines.{with_byte, walk, is_stop, BeginsLine, IsSearched, Ended}

walk_end : (most left : ℕ) → walk most left [] ≡ Err More
unfolding walk
walk_end zero left = refl
walk_end (suc n) left = refl

walk_here : (most left c : ℕ) (rest : List ℕ) → is_line_feed c ≡ true → walk most left (c ∷ rest) ≡ Ok ([], rest)
unfolding walk
walk_here zero left c rest h = rw h refl
walk_here (suc n) left c rest h = rw h refl

walk_ended : (most left : ℕ) (rest : List ℕ) → walk most left (10 ∷ rest) ≡ Ok ([], rest)
walk_ended most left rest = walk_here most left 10 rest refl

walk_full : (left c : ℕ) (rest : List ℕ) → is_line_feed c ≡ false → walk 0 left (c ∷ rest) ≡ Err (Bad TooLong left)
unfolding walk
walk_full left c rest h = rw h refl

walk_quoted : (n left c : ℕ) (rest : List ℕ) → is_line_feed c ≡ false → is_quote c ≡ true → walk (suc n) left (c ∷ rest) ≡ Err (Bad Quote (length rest + 1))
unfolding walk
walk_quoted n left c rest h q = rw (h, q) refl

passed : (n left c : ℕ) (rest : List ℕ) → is_line_feed c ≡ false → is_quote c ≡ false → walk (suc n) left (c ∷ rest) ≡ (walk n left rest >>= with_byte c)
unfolding walk
passed n left c rest h q = rw (h, q) refl

-- ---- the first byte that passes a test

module _ (test : ℕ → Bool) (c : ℕ) (rest : List ℕ) where
  first_here : test c ≡ true → position_or_len test (c ∷ rest) ≡ 0
  first_here h = rw h refl

  first_later : test c ≡ false → position_or_len test (c ∷ rest) ≡ suc (position_or_len test rest)
  first_later h = rw h (omega arith)

  before_here : test c ≡ true → before_first test (c ∷ rest) ≡ []
  before_here h = ap (λ n. take n (c ∷ rest)) (first_here h)

  before_later : test c ≡ false → before_first test (c ∷ rest) ≡ c ∷ before_first test rest
  before_later h = ap (λ n. take n (c ∷ rest)) (first_later h)

  after_here : test c ≡ true → after_first test (c ∷ rest) ≡ rest
  after_here h = ap (λ n. drop (n + 1) (c ∷ rest)) (first_here h)

  after_later : test c ≡ false → after_first test (c ∷ rest) ≡ after_first test rest
  after_later h =
      let k : suc (position_or_len test rest) + 1 ≡ suc (position_or_len test rest + 1) = omega arith in
      ap (λ n. drop (n + 1) (c ∷ rest)) (first_later h) ∙ ap (λ n. drop n (c ∷ rest)) k

-- ---- the two readings of a line

-- a line, by whether its bytes hold a quote, how many they are and whether a line feed ends them
abbrev judged : Bool → ℕ → Bool → ℕ → Bool → List ℕ → List ℕ → Part (List ℕ)
judged quoted quote long left ended front behind =
    if quoted then Err (Bad Quote quote) else if long then Err (Bad TooLong left) else if ended then Ok (front, behind) else Err More

joined : (c : ℕ) (quoted : Bool) (quote : ℕ) (long : Bool) (left : ℕ) (ended : Bool) (front behind : List ℕ) → (judged quoted quote long left ended front behind >>= with_byte c) ≡ judged quoted quote long left ended (c ∷ front) behind
joined c true quote long left ended front behind = refl
joined c false quote true left ended front behind = refl
joined c false quote false left true front behind = refl
joined c false quote false left false front behind = refl

or_later : (a b : Bool) → a ≡ false → (a || b) ≡ b
or_later a b h = rw h refl

or_here : (a b : Bool) → a ≡ true → (a || b) ≡ true
or_here a b h = rw h refl

no_bytes : (most left : ℕ) → line_within most left [] ≡ Err More
unfolding line_within
no_bytes zero left = refl
no_bytes (suc n) left = let short : nat_lt (suc n) 0 ≡ false = grind (arith, common_steps) in rw short refl

module _ (left c : ℕ) (rest : List ℕ) where
  ends_here : (most : ℕ) → is_line_feed c ≡ true → line_within most left (c ∷ rest) ≡ Ok ([], rest)
  unfolding line_within
  ends_here zero h = rw (before_here is_line_feed c rest h, after_here is_line_feed c rest h, or_here (is_line_feed c) (list_any is_line_feed rest) h) refl
  ends_here (suc n) h =
      let short : nat_lt (suc n) 0 ≡ false = grind (arith, common_steps) in
      rw (before_here is_line_feed c rest h, after_here is_line_feed c rest h, short, or_here (is_line_feed c) (list_any is_line_feed rest) h) refl

  too_long : is_line_feed c ≡ false → line_within 0 left (c ∷ rest) ≡ Err (Bad TooLong left)
  unfolding line_within
  too_long h =
      let long : nat_lt 0 (suc (length (before_first is_line_feed rest))) ≡ true = grind (arith, common_steps) in
      rw (before_later is_line_feed c rest h, long) refl

  quote_here : (n : ℕ) → is_line_feed c ≡ false → is_quote c ≡ true → line_within (suc n) left (c ∷ rest) ≡ Err (Bad Quote (length rest + 1))
  unfolding line_within
  quote_here n h q =
      let place : length (c ∷ rest) - position_or_len is_quote (c ∷ rest) ≡ length rest + 1 = omega (arith, first_here is_quote c rest q) in
      rw (before_later is_line_feed c rest h, or_here (is_quote c) (list_any is_quote (take n (before_first is_line_feed rest))) q, place) refl

  goes_on : (n : ℕ) → is_line_feed c ≡ false → is_quote c ≡ false → line_within (suc n) left (c ∷ rest) ≡ (line_within n left rest >>= with_byte c)
  unfolding line_within
  goes_on n h q =
      let place : length (c ∷ rest) - position_or_len is_quote (c ∷ rest) ≡ length rest - position_or_len is_quote rest = omega (arith, first_later is_quote c rest q) in
      let long : nat_lt (suc n) (suc (length (before_first is_line_feed rest))) ≡ nat_lt n (length (before_first is_line_feed rest)) = grind (arith, common_steps) in
      rw (before_later is_line_feed c rest h, after_later is_line_feed c rest h, or_later (is_quote c) (list_any is_quote (take n (before_first is_line_feed rest))) q, place, long, or_later (is_line_feed c) (list_any is_line_feed rest) h)
      (sym (joined c (list_any is_quote (take n (before_first is_line_feed rest))) (length rest - position_or_len is_quote rest) (nat_lt n (length (before_first is_line_feed rest))) left (list_any is_line_feed rest) (before_first is_line_feed rest) (after_first is_line_feed rest)))

line_is : (most left : ℕ) (bytes : List ℕ) → line_within most left bytes ≡ walk most left bytes
line_is zero left [] = no_bytes zero left ∙ sym (walk_end zero left)
line_is (suc n) left [] = no_bytes (suc n) left ∙ sym (walk_end (suc n) left)
line_is zero left (c ∷ rest) = elim (cases_Bool (is_line_feed c)) [
  | inl h ↦ ends_here left c rest zero h ∙ sym (walk_here zero left c rest h)
  | inr h ↦ too_long left c rest h ∙ sym (walk_full left c rest h)
]
line_is (suc n) left (c ∷ rest) = elim (cases_Bool (is_line_feed c)) [
  | inl h ↦ ends_here left c rest (suc n) h ∙ sym (walk_here (suc n) left c rest h)
  | inr h ↦ elim (cases_Bool (is_quote c)) [
    | inl q ↦ quote_here left c rest n h q ∙ sym (walk_quoted n left c rest h q)
    | inr q ↦ goes_on left c rest n h q ∙ ap (λ (r : Part (List ℕ)). r >>= with_byte c) (line_is n left rest) ∙ sym (passed n left c rest h q)
  ]
]

pub line_walk : (bytes : List ℕ) → line bytes ≡ walk 65536 (length bytes) bytes
unfolding line
line_walk bytes = line_is 65536 (length bytes) bytes

-- ---- searching

neither : (c : ℕ) → is_stop c ≡ false → (is_line_feed c ≡ false) × (is_quote c ≡ false)
neither c h = (grind (arith, common_steps), grind (arith, common_steps))

-- bytes before a line that was read
abbrev behind_front : List ℕ → Part (List ℕ) → Part (List ℕ)
behind_front front read = read >>= λ x. Ok (front ++ x.0, x.1)

no_front : (read : Part (List ℕ)) → read ≡ behind_front [] read
no_front (Ok x) = refl
no_front (Err e) = refl

one_front : (c : ℕ) (front : List ℕ) (read : Part (List ℕ)) → (behind_front front read >>= with_byte c) ≡ behind_front (c ∷ front) read
one_front c front (Ok x) = refl
one_front c front (Err e) = refl

plain_cons : (c : ℕ) (rest : List ℕ) → is_stop c ≡ false → ((k : ℕ) → k < length rest → is_stop (slice_index rest k) ≡ false) → (k : ℕ) → k < length (c ∷ rest) → is_stop (slice_index (c ∷ rest) k) ≡ false
plain_cons c rest h plain zero lt = h
plain_cons c rest h plain (suc k) lt = plain k (omega arith)

-- what was searched is passed over
passes : (n most left : ℕ) (bytes : List ℕ) → n ≤ most → n ≤ length bytes → ((k : ℕ) → k < n → is_stop (slice_index bytes k) ≡ false) → walk most left bytes ≡ behind_front (take n bytes) (walk (most - n) left (drop n bytes))
passes zero most left bytes le inside plain = let k : most - 0 ≡ most = omega arith in rw k (no_front (walk most left bytes))
passes (suc n) zero left bytes le inside plain = absurd (omega arith)
passes (suc n) (suc m) left [] le inside plain = absurd (omega arith)
passes (suc n) (suc m) left (c ∷ rest) le inside plain =
    let here = neither c (plain 0 (omega arith)) in
    let later = passes n m left rest (omega arith) (omega arith) (λ k lt. plain (suc k) (omega arith)) in
    let less : suc m - suc n ≡ m - n = omega arith in
    passed m left c rest here.0 here.1 ∙ ap (λ (r : Part (List ℕ)). r >>= with_byte c) later ∙ one_front c (take n rest) (walk (m - n) left (drop n rest)) ∙ ap (λ (k : ℕ). behind_front (c ∷ take n rest) (walk k left (drop n rest))) (sym less)

module _ (n : ℕ) (bytes : List ℕ) (searched : IsSearched n bytes) where
  searched_on : line bytes ≡ behind_front (take n bytes) (walk (65536 - n) (length bytes) (drop n bytes))
  searched_on = line_walk bytes ∙ passes n 65536 (length bytes) bytes searched.short searched.inside searched.plain

  at_stop : n < length bytes → drop n bytes ≡ slice_index bytes n ∷ drop (n + 1) bytes
  at_stop lt = drop-cons bytes n 0 lt ∙ ap (λ (k : ℕ). slice_index bytes n ∷ drop k bytes) (sym (add-one n))

  pub line_ended : n < length bytes → slice_index bytes n ≡ 10 → line bytes ≡ Ok (take n bytes, drop (n + 1) bytes)
  line_ended lt e = searched_on ∙ rw (at_stop lt, e, walk_ended (65536 - n) (length bytes) (drop (n + 1) bytes), append-nil (take n bytes)) refl

  pub line_full : n < length bytes → n ≡ 65536 → (slice_index bytes n ≡ 10 → ⊥) → line bytes ≡ Err (Bad TooLong (length bytes))
  line_full lt full other =
      let none : 65536 - n ≡ 0 = omega arith in
      let h : is_line_feed (slice_index bytes n) ≡ false = grind (arith, common_steps) in
      searched_on ∙ rw (at_stop lt, none, walk_full (length bytes) (slice_index bytes n) (drop (n + 1) bytes) h) refl

  pub line_quoted : n < length bytes → (n ≡ 65536 → ⊥) → (slice_index bytes n ≡ 10 → ⊥) → is_stop (slice_index bytes n) ≡ true → line bytes ≡ Err (Bad Quote (length bytes - n))
  line_quoted lt less other stop =
      let some : 65536 - n ≡ suc (65536 - n - 1) = omega (arith, searched.short) in
      let h : is_line_feed (slice_index bytes n) ≡ false = grind (arith, common_steps) in
      let q : is_quote (slice_index bytes n) ≡ true = grind (arith, common_steps) in
      let left : length (drop (n + 1) bytes) + 1 ≡ length bytes - n = omega (arith, length-drop (n + 1) bytes) in
      searched_on ∙ rw (at_stop lt, some, walk_quoted (65536 - n - 1) (length bytes) (slice_index bytes n) (drop (n + 1) bytes) h q, left) refl

  pub line_unended : n ≡ length bytes → line bytes ≡ Err More
  line_unended all = searched_on ∙ rw (drop_all n bytes (omega arith), walk_end (65536 - n) (length bytes)) refl

stays_open : (c : ℕ) (r : Part (List ℕ)) → (r >>= with_byte c) ≡ Err More → r ≡ Err More
stays_open c (Ok x) e = absurd cc
stays_open c (Err s) e = cc

-- a line that goes on was searched whole
unended : (most left : ℕ) (bytes : List ℕ) → walk most left bytes ≡ Err More → (length bytes ≤ most) × ((k : ℕ) → k < length bytes → is_stop (slice_index bytes k) ≡ false)
unended most left [] e = (omega arith, λ k lt. absurd (omega arith))
unended zero left (c ∷ rest) e = elim (cases_Bool (is_line_feed c)) [
  | inl h ↦ absurd (let k = sym (walk_here zero left c rest h) ∙ e in cc)
  | inr h ↦ absurd (let k = sym (walk_full left c rest h) ∙ e in cc)
]
unended (suc n) left (c ∷ rest) e = elim (cases_Bool (is_line_feed c)) [
  | inl h ↦ absurd (let k = sym (walk_here (suc n) left c rest h) ∙ e in cc)
  | inr h ↦ elim (cases_Bool (is_quote c)) [
    | inl q ↦ absurd (let k = sym (walk_quoted n left c rest h q) ∙ e in cc)
    | inr q ↦
        let later = unended n left rest (stays_open c (walk n left rest) (sym (passed n left c rest h q) ∙ e)) in
        (omega (arith, later.0), plain_cons c rest (rw (h, q) refl) later.1)
  ]
]

pub line_open : (bytes : List ℕ) → line bytes ≡ Err More → IsSearched (length bytes) bytes
line_open bytes e = let all = unended 65536 (length bytes) bytes (sym (line_walk bytes) ∙ e) in record { inside = omega arith; short = all.0; plain = all.1 }

-- ---- inline lines as requests

pub line_request : (bytes : List ℕ) → BeginsLine bytes → request bytes ≡ inline bytes
unfolding request
line_request [] begins = absurd (omega (arith, begins.some))
line_request (c ∷ bytes) begins = let other : (c == 42) ≡ false = (let k = begins.first in grind (arith, common_steps)) in rw other refl

pub line_header : (bytes : List ℕ) → BeginsLine bytes → header bytes ≡ (inline bytes >>= λ words. Ok (length words.0, words.1))
unfolding header
line_header [] begins = absurd (omega (arith, begins.some))
line_header (c ∷ bytes) begins = let other : (c == 42) ≡ false = (let k = begins.first in grind (arith, common_steps)) in rw other refl

pub inline_read : (bytes found rest : List ℕ) → line bytes ≡ Ok (found, rest) → inline bytes ≡ Ok (line_words found, rest)
unfolding inline
inline_read bytes found rest e = rw e refl

pub inline_fails : (bytes : List ℕ) (stop : Stop) → line bytes ≡ Err stop → inline bytes ≡ Err stop
unfolding inline
inline_fails bytes stop e = rw e refl

-- ---- lines that were read

plain_all : (c : ℕ) (rest : List ℕ) → is_stop c ≡ false → All (λ b. is_stop b ≡ false) rest → All (λ b. is_stop b ≡ false) (c ∷ rest)
plain_all c rest h plain = All-cons (λ b. is_stop b ≡ false) c rest h plain

same_read : (x y : List ℕ × List ℕ) → ◌≡◌ {A = Part (List ℕ)} (Ok x) (Ok y) → x ≡ y
same_read x y e = cc

ended_more : (n c : ℕ) (bytes : List ℕ) (r : Part (List ℕ)) (text rest : List ℕ) → is_stop c ≡ false → ((front : List ℕ) → r ≡ Ok (front, rest) → Ended n bytes front rest) → (r >>= with_byte c) ≡ Ok (text, rest) → Ended (suc n) (c ∷ bytes) text rest
ended_more n c bytes (Err e) text rest h before read = absurd cc
ended_more n c bytes (Ok x) text rest h before read =
    let same = same_read (c ∷ x.0, x.1) (text, rest) read in
    let front : c ∷ x.0 ≡ text = ap (λ (y : List ℕ × List ℕ). y.0) same in
    let behind : x.1 ≡ rest = ap (λ (y : List ℕ × List ℕ). y.1) same in
    let is = before x.0 (ap (λ (b : List ℕ). Ok (x.0, b)) behind) in
    let P : List ℕ → Type 0 = λ t. Ended (suc n) (c ∷ bytes) t rest in
    subst P front (record { is = ap (λ (b : List ℕ). c ∷ b) is.is; fits = omega (arith, is.fits); plain = plain_all c x.0 h is.plain })

ended_here : (most c : ℕ) (bytes text rest : List ℕ) → is_line_feed c ≡ true → ◌≡◌ {A = Part (List ℕ)} (Ok ([], bytes)) (Ok (text, rest)) → Ended most (c ∷ bytes) text rest
ended_here most c bytes text rest h read =
    let same = same_read ([], bytes) (text, rest) read in
    let none : [] ≡ text = ap (λ (y : List ℕ × List ℕ). y.0) same in
    let behind : bytes ≡ rest = ap (λ (y : List ℕ × List ℕ). y.1) same in
    let feed : c ≡ line_feed = grind (arith, common_steps) in
    let P : List ℕ → Type 0 = λ t. Ended most (c ∷ bytes) t rest in
    subst P none (record { is = ap (λ (b : ℕ). b ∷ bytes) feed ∙ ap (λ (b : List ℕ). line_feed ∷ b) behind; fits = omega arith; plain = All-nil (λ c. is_stop c ≡ false) })

ended : (most left : ℕ) (bytes text rest : List ℕ) → walk most left bytes ≡ Ok (text, rest) → Ended most bytes text rest
ended most left [] text rest e = absurd (let k = sym (walk_end most left) ∙ e in cc)
ended zero left (c ∷ bytes) text rest e = elim (cases_Bool (is_line_feed c)) [
  | inl h ↦ ended_here zero c bytes text rest h (sym (walk_here zero left c bytes h) ∙ e)
  | inr h ↦ absurd (let k = sym (walk_full left c bytes h) ∙ e in cc)
]
ended (suc n) left (c ∷ bytes) text rest e = elim (cases_Bool (is_line_feed c)) [
  | inl h ↦ ended_here (suc n) c bytes text rest h (sym (walk_here (suc n) left c bytes h) ∙ e)
  | inr h ↦ elim (cases_Bool (is_quote c)) [
    | inl q ↦ absurd (let k = sym (walk_quoted n left c bytes h q) ∙ e in cc)
    | inr q ↦ ended_more n c bytes (walk n left bytes) text rest (rw (h, q) refl) (λ front read. ended n left bytes front rest read) (sym (passed n left c bytes h q) ∙ e)
  ]
]

pub line_written : (bytes text rest : List ℕ) → line bytes ≡ Ok (text, rest) → Ended 65536 bytes text rest
line_written bytes text rest e = ended 65536 (length bytes) bytes text rest (sym (line_walk bytes) ∙ e)

-- A line that has no line feed and no quote, and is no longer than it may be, is read up to the line feed behind it.
pub line_read : (text rest : List ℕ) → length text ≤ 65536 → All (λ c. is_stop c ≡ false) text → line (text ++ line_feed ∷ rest) ≡ Ok (text, rest)
line_read text rest fits plain =
    let bytes : List ℕ = text ++ line_feed ∷ rest in
    let long : length bytes ≡ length text + suc (length rest) = length-append text (line_feed ∷ rest) in
    let searched : IsSearched (length text) bytes = record {
      inside = omega arith;
      short = fits;
      plain = λ k lt. rw (get_or_append_left text (line_feed ∷ rest) 0 k lt) (plain k 0 lt);
    } in
    let behind : drop (length text + 1) bytes ≡ rest = rw (← drop-drop 1 (length text) bytes, drop-append_seam text (line_feed ∷ rest)) refl in
    line_ended (length text) bytes searched (omega arith) (get_or-append_seam text line_feed rest 0) ∙ rw (take-append_seam text (line_feed ∷ rest), behind) refl
