-- The words of a line, cut off one after the other.
use Rattle.std.proofs.Common.{◌≡◌, ℕ, ◌+◌, ◌≤◌, ◌<◌, Bool, true, false, List, [], ◌∷◌, ◌++◌, length, take, drop, slice_index, refl, sym, ap, ◌∙◌, append_assoc, arith, inl, inr}
use Rattle.std.specs.Prelude.{filter}
use Rattle.std.specs.List.{before_first, after_first, position_or_len, slice_split}
use Rattle.std.proofs.lemmas.Bool.{cases_lt, cases_Bool}
use Rattle.std.proofs.lemmas.List.{take_all, drop_all, length-drop, length-append}
use Rattle.std.proofs.lemmas.List.Splits.{slice_split_first, slice_split-cons_no}
use Rattle.std.proofs.lemmas.List.Sums.{position_or_len_is}
use Rattle.memchr.specs.Find.{Nowhere, NoneBefore, Passes, is_byte2}
use Rattle.resp_wire.specs.Grammar.{is_blank, is_word}

-- ---- the first blank

not_true : (b : Bool) → (b ≡ true → ⊥) → b ≡ false
not_true true h = absurd (h refl)
not_true false h = refl

none_at : (text : List ℕ) (end : ℕ) → Nowhere (Passes (is_byte2 32 9) text) 0 end → (k : ℕ) → k < end → is_blank (slice_index text k) ≡ false
none_at text end none k lt = not_true (is_blank (slice_index text k)) (none k (omega arith) lt)

no_blank : (text : List ℕ) → Nowhere (Passes (is_byte2 32 9) text) 0 (length text) → position_or_len is_blank text ≡ length text
no_blank text none = position_or_len_is is_blank text (length text) 0 (omega arith) (none_at text (length text) none) (λ lt. absurd (omega arith))

first_blank : (text : List ℕ) (place : ℕ) → NoneBefore (Passes (is_byte2 32 9) text) 0 (length text) place → Passes (is_byte2 32 9) text place → position_or_len is_blank text ≡ place
first_blank text place before here = position_or_len_is is_blank text place 0 (omega (arith, before.high)) (none_at text place before.before) (λ lt. here)

pub none_before : (text : List ℕ) → Nowhere (Passes (is_byte2 32 9) text) 0 (length text) → text ≡ before_first is_blank text
none_before text none = sym (ap (λ n. take n text) (no_blank text none) ∙ take_all (length text) text (omega arith))

pub none_after : (text : List ℕ) → Nowhere (Passes (is_byte2 32 9) text) 0 (length text) → [] ≡ after_first is_blank text
none_after text none = sym (drop_all (position_or_len is_blank text + 1) text (omega (arith, no_blank text none)))

pub some_before : (text : List ℕ) (place : ℕ) → NoneBefore (Passes (is_byte2 32 9) text) 0 (length text) place → Passes (is_byte2 32 9) text place → take place text ≡ before_first is_blank text
some_before text place before here = sym (ap (λ n. take n text) (first_blank text place before here))

pub some_after : (text : List ℕ) (place : ℕ) → NoneBefore (Passes (is_byte2 32 9) text) 0 (length text) place → Passes (is_byte2 32 9) text place → drop (place + 1) text ≡ after_first is_blank text
some_after text place before here = sym (ap (λ n. drop (n + 1) text) (first_blank text place before here))

-- ---- words

abbrev pub words_in : List ℕ → List (List ℕ)
words_in text = filter is_word (slice_split is_blank text)

abbrev with_part : List ℕ → List (List ℕ) → List (List ℕ)
with_part part words = filter is_word (part ∷ []) ++ words

filter_part : (part : List ℕ) (parts : List (List ℕ)) → filter is_word (part ∷ parts) ≡ with_part part (filter is_word parts)
filter_part [] parts = refl
filter_part (c ∷ part) parts = refl

split_all : (p : ℕ → Bool) (text : List ℕ) → length text ≤ position_or_len p text → slice_split p text ≡ text ∷ []
split_all p [] h = refl
split_all p (c ∷ text) h = elim (cases_Bool (p c)) [
  | inl here ↦ absurd (let k : position_or_len p (c ∷ text) ≡ 0 = rw here refl in omega (arith, k))
  | inr here ↦
      let k : position_or_len p (c ∷ text) ≡ 1 + position_or_len p text = rw here refl in
      slice_split-cons_no p c text here ∙ rw (split_all p text (omega (arith, k))) refl
]

-- the first part, and the words of what is behind it
words_cut : (text : List ℕ) → words_in text ≡ with_part (before_first is_blank text) (words_in (after_first is_blank text))
words_cut text = elim (cases_lt (position_or_len is_blank text) (length text)) [
  | inl blank ↦ ap (filter is_word) (slice_split_first is_blank text 0 blank) ∙ filter_part (before_first is_blank text) (slice_split is_blank (after_first is_blank text))
  | inr none ↦
      let front : before_first is_blank text ≡ text = take_all (position_or_len is_blank text) text none in
      let behind : after_first is_blank text ≡ [] = drop_all (position_or_len is_blank text + 1) text (omega (arith, none)) in
      ap (filter is_word) (split_all is_blank text none) ∙ rw (front, behind) (filter_part text [] ∙ ap (with_part text) refl)
]

pub empty_cut : (text part behind : List ℕ) → part ≡ before_first is_blank text → behind ≡ after_first is_blank text → part ≡ [] → words_in text ≡ words_in behind
empty_cut text part behind front back none = words_cut text ∙ rw (← front, none, ← back) refl

word_part : (part : List ℕ) → 0 < length part → filter is_word (part ∷ []) ≡ part ∷ []
word_part [] some = absurd (omega arith)
word_part (c ∷ part) some = refl

pub word_cut : (text part behind : List ℕ) → part ≡ before_first is_blank text → behind ≡ after_first is_blank text → 0 < length part → words_in text ≡ part ∷ words_in behind
word_cut text part behind front back some = words_cut text ∙ rw (← front, ← back, word_part part some) refl

-- what is behind a part is shorter
pub cut_less : (text behind : List ℕ) → behind ≡ after_first is_blank text → 0 < length text → length behind < length text
cut_less text behind back some = rw back (omega (arith, length-drop (position_or_len is_blank text + 1) text))

module _ (words : List (List ℕ)) (text part behind : List ℕ) (all : List (List ℕ)) (front : part ≡ before_first is_blank text) (back : behind ≡ after_first is_blank text) (some : 0 < length part) (before : words ++ words_in text ≡ all) where
  split_words : all ≡ words ++ part ∷ words_in behind
  split_words = sym before ∙ ap (λ (more : List (List ℕ)). words ++ more) (word_cut text part behind front back some)

  -- a word is kept
  pub kept_word : (kept : List (List ℕ)) → kept ≡ words ++ part ∷ [] → kept ++ words_in behind ≡ all
  kept_word kept e = ap (λ (front : List (List ℕ)). front ++ words_in behind) e ∙ append_assoc words (part ∷ []) (words_in behind) ∙ sym split_words

  pub some_words : 0 < length all
  some_words = rw split_words (omega (arith, length-append words (part ∷ words_in behind)))
