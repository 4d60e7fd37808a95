-- Requests as a client writes them.
use Rattle.std.specs.Prelude.{◌≡◌, ℕ, ◌+◌, ◌-◌, ◌≤◌, false, ◌⊎◌, codes, All, slice_index, List, [], ◌∷◌, ◌++◌, length, sum_by, decimal, Ok}
use Rattle.std.specs.List.{flat_map}
use Rattle.resp_wire.specs.Grammar.{star, dollar, carriage_return, line_feed, behind_byte, count, array, line_words, request, requests, with_request}
use Rattle.resp_wire.specs.Lines.{is_stop}

-- a mark, a number and a line end
abbrev pub length_line : ℕ → ℕ → List ℕ
length_line byte n = byte ∷ (decimal n ++ carriage_return ∷ line_feed ∷ [])

abbrev pub bulk_text : List ℕ → List ℕ
bulk_text word = length_line dollar (length word) ++ word ++ carriage_return ∷ line_feed ∷ []

abbrev pub request_text : List (List ℕ) → List ℕ
request_text words = length_line star (length words) ++ flat_map bulk_text words

-- ---- words

-- A word takes 16 more than its length of its request's room.
abbrev pub cost : List ℕ → ℕ
cost word = length word + 16

-- at most 65,536 words, each of at most 1,048,576 bytes, and in all 16,777,216 with 16 more for each
pub record IsWithinLimits (words : List (List ℕ)) : Type 0 where
  pub count : length words ≤ 65536
  pub each : All (λ word. length word ≤ 1048576) words
  pub all : sum_by cost words ≤ 16777216

-- ---- requests

-- What a client writes is read, whatever follows it.
abbrev pub TextsAreRead : Type 0
TextsAreRead = (words : List (List ℕ)) (rest : List ℕ) → IsWithinLimits words → requests (request_text words ++ rest) ≡ with_request words (requests rest)

-- ---- inline lines

-- An inline line without its line feed: at most 65,536 bytes, none of them a line feed or a quote, and the first no `*`.
pub record IsLine (text : List ℕ) : Type 0 where
  pub fits : length text ≤ 65536
  pub plain : All (λ c. is_stop c ≡ false) text
  pub first : slice_index text 0 ≡ star → ⊥

-- The words of a line are read, whatever follows its line feed.
abbrev pub LinesAreRead : Type 0
LinesAreRead = (text rest : List ℕ) → IsLine text → requests (text ++ line_feed ∷ rest) ≡ with_request (line_words text) (requests rest)

-- ---- all that is read

-- the other text of an array without words: `*-1` and a line end
abbrev pub null_text : List ℕ
null_text = codes "*-1\r\n"

-- the text is an inline line of these words
pub record IsInline (words : List (List ℕ)) (text : List ℕ) : Type 0 where
  pub front : List ℕ
  pub is_line : IsLine front
  pub has : line_words front ≡ words
  pub is : text ≡ front ++ line_feed ∷ []

-- A request is what a client writes of its words, or the null array, or an inline line of its words.
abbrev pub IsRequest : List (List ℕ) → List ℕ → Type 0
IsRequest words text = (text ≡ request_text words) ⊎ (((words ≡ []) × (text ≡ null_text)) ⊎ IsInline words text)

-- Nothing else is read, and no words beyond the limits.
abbrev pub OnlyTextsAreRead : Type 0
OnlyTextsAreRead = (bytes : List ℕ) (words : List (List ℕ)) (rest : List ℕ) → request bytes ≡ Ok (words, rest) → IsWithinLimits words × ((text : List ℕ) × IsRequest words text × (bytes ≡ text ++ rest))

-- The words of each request of a text are within the limits.
abbrev pub WordsAreWithinLimits : Type 0
WordsAreWithinLimits = (bytes : List ℕ) → All IsWithinLimits (requests bytes).0
