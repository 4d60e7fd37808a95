-- The requests that a text holds. A request is an array of bulk strings: `*`, a number and a line end, and then
-- for each bulk string `$`, its length, a line end, its bytes and a line end. Any other first byte begins an inline
-- line: words between blanks, up to a line feed.
use Rattle.std.specs.Prelude.{ℕ, zero, suc, ◌+◌, ◌-◌, ◌*◌, Bool, true, false, not, ◌==◌, ◌||◌, nat_lt, if◌then◌else◌, List, [], ◌∷◌, length, take, drop, filter, Option, Some, None, unwrap_or, Result, Ok, Err}
use Rattle.std.specs.List.{list_any, position_or_len, before_first, after_first, slice_split}
use Rattle.std.specs.Char.{is_ascii_digit}
use Rattle.std.specs.Str.Lines.{strip_carriage_return}
use Rattle.resp_wire.specs.declared.stop.ProtocolFault.{ProtocolFault}
use Rattle.resp_wire.specs.declared.stop.ProtocolFault.TheVariants.{BadMark, BadLength, TooLong, Quote}
use Rattle.resp_wire.specs.declared.stop.Stop.{Stop}
use Rattle.resp_wire.specs.declared.stop.Stop.TheVariants.{More, Bad}
use Rattle.resp_wire.specs.declared.parts.LengthLimit.{LengthLimit}
use Rattle.resp_wire.specs.declared.parts.LengthLimit.TheVariants.{Words, Bytes}

-- A part of a text is read as its value and the text behind it. `More` says that the text ends before the part
-- does, and `Bad` that no longer text has the part either: its number counts the bytes from the fault's place on.
abbrev pub Part : Type 0 → Type 0
Part A = Result (A × List ℕ) Stop

infixl 10 ◌>>=◌
abbrev pub ◌>>=◌ : {A B : Type 0} → Result A Stop → (A → Result B Stop) → Result B Stop
(Ok x) >>= f = f x
(Err e) >>= f = Err e

-- the bytes that mark the parts: `*`, `$`, `-`, and the two of a line end
abbrev pub star : ℕ
star = 42

abbrev pub dollar : ℕ
dollar = 36

abbrev pub minus : ℕ
minus = 45

abbrev pub carriage_return : ℕ
carriage_return = 13

abbrev pub line_feed : ℕ
line_feed = 10

-- the text behind this byte
unfoldable pub behind_byte : ℕ → List ℕ → Result (List ℕ) Stop
behind_byte byte [] = Err More
behind_byte byte (c ∷ rest) = if c == byte then Ok rest else Err (Bad BadMark (length rest + 1))

-- the text behind a line end
unfoldable pub behind_line_end : List ℕ → Result (List ℕ) Stop
behind_line_end bytes = behind_byte carriage_return bytes >>= behind_byte line_feed

-- ---- lengths

-- A request has at most 65,536 words, and a word at most 1,048,576 bytes. The room is what its request may still
-- hold, where each word takes 16 more than its length.
abbrev pub exceeds : LengthLimit → ℕ → Bool
exceeds Words n = nat_lt 65536 n
exceeds (Bytes room) n = nat_lt 1048576 n || nat_lt room (n + 16)

-- The digits so far stand for a number, or there are none.
abbrev pub with_digit : Option ℕ → ℕ → ℕ
with_digit so_far digit = unwrap_or so_far 0 * 10 + (digit - 48)

abbrev pub is_lone_zero : Option ℕ → Bool
is_lone_zero None = false
is_lone_zero (Some n) = n == 0

-- the end of a length text, whose mark stands where `left` bytes are left
unfoldable pub text_end : ℕ → Option ℕ → List ℕ → Part ℕ
text_end left None bytes = Err (Bad BadLength left)
text_end left (Some n) [] = Err More
text_end left (Some n) (c ∷ rest) = if c == carriage_return then (behind_byte line_feed rest >>= λ behind. Ok (n, behind)) else Err (Bad BadLength left)

-- a length text behind its digits so far
unfoldable pub length_from : LengthLimit → ℕ → Option ℕ → List ℕ → Part ℕ
length_from limit left so_far [] = Err More
length_from limit left so_far (c ∷ rest) =
    if not (is_ascii_digit c) then text_end left so_far (c ∷ rest)
    else if is_lone_zero so_far then Err (Bad BadLength left)
    else if exceeds limit (with_digit so_far c) then Err (Bad TooLong left)
    else length_from limit left (Some (with_digit so_far c)) rest

-- a length text behind its mark: `0`, or a digit 1 to 9 and more digits, and a line end
unfoldable pub length_text : LengthLimit → List ℕ → Part ℕ
length_text limit bytes = length_from limit (length bytes + 1) None bytes

-- ---- arrays

-- n bytes and a line end
unfoldable pub body : ℕ → List ℕ → Part (List ℕ)
body n bytes = if nat_lt (length bytes) n then Err More else (behind_line_end (drop n bytes) >>= λ behind. Ok (take n bytes, behind))

-- a bulk string, for which its request has this room
unfoldable pub bulk : ℕ → List ℕ → Part (List ℕ)
bulk room bytes = do
  behind ← behind_byte dollar bytes
  n ← length_text (Bytes room) behind
  body n.0 n.1

unfoldable pub bulk_words : ℕ → ℕ → List ℕ → Part (List (List ℕ))
bulk_words zero room bytes = Ok ([], bytes)
bulk_words (suc n) room bytes = do
  first ← bulk room bytes
  others ← bulk_words n (room - (length first.0 + 16)) first.1
  Ok (first.0 ∷ others.0, others.1)

-- `-1` in the place of an array's number, behind its `-`: no words
unfoldable pub minus_one : ℕ → List ℕ → Part ℕ
minus_one left [] = Err More
minus_one left (c ∷ bytes) = if c == 49 then text_end left (Some 0) bytes else Err (Bad BadLength left)

-- how many words an array has, by what follows its `*`
unfoldable pub count : List ℕ → Part ℕ
count [] = Err More
count (c ∷ bytes) = if c == minus then minus_one (length bytes + 2) bytes else length_text Words (c ∷ bytes)

-- an array behind its `*`, which may hold 16,777,216
unfoldable pub array : List ℕ → Part (List (List ℕ))
array bytes = count bytes >>= λ n. bulk_words n.0 16777216 n.1

-- ---- inline lines

abbrev pub is_line_feed : ℕ → Bool
is_line_feed c = c == line_feed

-- `"` or `'`
abbrev pub is_quote : ℕ → Bool
is_quote c = c == 34 || c == 39

-- a space or a tab
abbrev pub is_blank : ℕ → Bool
is_blank c = c == 32 || c == 9

-- The line up to the first line feed, which has at most so many bytes, and whose first byte stands where `left` are
-- left. A quote among the bytes that it may have is a fault at that quote, and a byte more is one at the first byte.
unfoldable pub line_within : ℕ → ℕ → List ℕ → Part (List ℕ)
line_within most left bytes =
    if list_any is_quote (take most (before_first is_line_feed bytes)) then Err (Bad Quote (length bytes - position_or_len is_quote bytes))
    else if nat_lt most (length (before_first is_line_feed bytes)) then Err (Bad TooLong left)
    else if list_any is_line_feed bytes then Ok (before_first is_line_feed bytes, after_first is_line_feed bytes)
    else Err More

-- an inline line has at most 65,536 bytes
unfoldable pub line : List ℕ → Part (List ℕ)
line bytes = line_within 65536 (length bytes) bytes

abbrev pub is_word : List ℕ → Bool
is_word [] = false
is_word (c ∷ word) = true

-- the words of a line, which blanks part; a carriage return at its end is none of it
unfoldable pub line_words : List ℕ → List (List ℕ)
line_words bytes = filter is_word (slice_split is_blank (strip_carriage_return bytes))

unfoldable pub inline : List ℕ → Part (List (List ℕ))
inline bytes = line bytes >>= λ found. Ok (line_words found.0, found.1)

-- ---- requests

-- the words of the request in front
unfoldable pub request : List ℕ → Part (List (List ℕ))
request [] = Err More
request (c ∷ bytes) = if c == star then array bytes else inline (c ∷ bytes)

-- how many words the request in front has, as soon as that is known: behind an array's first line or an inline line
unfoldable pub header : List ℕ → Part ℕ
header [] = Err More
header (c ∷ bytes) = if c == star then count bytes else (inline (c ∷ bytes) >>= λ words. Ok (length words.0, words.1))

-- How a text ends: behind a request, in a request that begins where so many bytes are left, or in a fault there.
pub data End : Type 0 where
  Whole : End
  Open : ℕ → End
  Fault : ProtocolFault → ℕ → End

-- a request before others; one without words is passed over
abbrev pub with_request : List (List ℕ) → List (List (List ℕ)) × End → List (List (List ℕ)) × End
with_request [] found = found
with_request (word ∷ words) found = ((word ∷ words) ∷ found.0, found.1)

-- the end of a text that has less than a request
abbrev pub open_end : List ℕ → End
open_end [] = Whole
open_end (c ∷ bytes) = Open (length bytes + 1)

-- the requests of a text, which begins as this part says, where `others` gives those of what follows it
abbrev pub after_request : (List ℕ → List (List (List ℕ)) × End) → List ℕ → Part (List (List ℕ)) → List (List (List ℕ)) × End
after_request others bytes (Ok found) = with_request found.0 (others found.1)
after_request others bytes (Err More) = ([], open_end bytes)
after_request others bytes (Err (Bad kind left)) = ([], Fault kind left)

-- the requests of a text in order, at most so many, and how it ends
unfoldable pub requests_within : ℕ → List ℕ → List (List (List ℕ)) × End
requests_within zero bytes = ([], open_end bytes)
requests_within (suc n) bytes = after_request (requests_within n) bytes (request bytes)

-- Each request takes a byte, so there are no more of them than bytes.
unfoldable pub requests : List ℕ → List (List (List ℕ)) × End
requests bytes = requests_within (length bytes) bytes
