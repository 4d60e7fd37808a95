-- How the words of a command are judged, and what they say.
use Rattle.std.specs.Prelude.{◌≡◌, ◌%◌, ◌==◌, Bool, true, false, ◌||◌, if◌then◌else◌, List, [], ◌∷◌, length, Option, Some, None, Result, Ok, Err}
use Rattle.kv_base.specs.Map.{Bytes}
use Rattle.cmd_words.specs.Places.{Place, K, Said, said, too_long, off_pattern, not_int, not_score, bad_time, no_database}
use Rattle.cmd_words.specs.declared.fault.FaultKind.{FaultKind}
use Rattle.cmd_words.specs.declared.fault.FaultKind.TheVariants as wrong

-- words at their places
abbrev pub Placed : Type 0
Placed = List (Place × Bytes)

abbrev pub any : (Place → Bytes → Bool) → Placed → Bool
any test [] = false
any test (w ∷ ws) = test w.0 w.1 || any test ws

-- What words at their places say, or the first fault in this order that any of them has. Where `syntax` holds the words
-- of options are off the pattern.
abbrev pub judged_as : {A : Type 0} → Bool → Placed → A → Result A FaultKind
judged_as syntax ws a =
    if any too_long ws then Err wrong.TooLong
    else if syntax || any off_pattern ws then Err wrong.Syntax
    else if any not_int ws then Err wrong.NotInt
    else if any not_score ws then Err wrong.NotScore
    else if any bad_time ws then Err wrong.BadExpire
    else if any no_database ws then Err wrong.BadIndex
    else Ok a

abbrev pub judged : {A : Type 0} → Placed → A → Result A FaultKind
judged ws a = judged_as false ws a

infixl 10 ◌>>=◌
abbrev pub ◌>>=◌ : {A B : Type 0} → Result A FaultKind → (A → Result B FaultKind) → Result B FaultKind
(Ok x) >>= f = f x
(Err e) >>= f = Err e

-- ---- the words, where their number fits

unfoldable pub only : List Bytes → Result Bytes FaultKind
only (a ∷ []) = Ok a
only _ = Err wrong.Arity

unfoldable pub two_words : List Bytes → Result (Bytes × Bytes) FaultKind
two_words (a ∷ b ∷ []) = Ok (a, b)
two_words _ = Err wrong.Arity

unfoldable pub triple : List Bytes → Result (Bytes × Bytes × Bytes) FaultKind
triple (a ∷ b ∷ c ∷ []) = Ok (a, b, c)
triple _ = Err wrong.Arity

unfoldable pub four : List Bytes → Result (Bytes × Bytes × Bytes × Bytes) FaultKind
four (a ∷ b ∷ c ∷ d ∷ []) = Ok (a, b, c, d)
four _ = Err wrong.Arity

-- at least one word
unfoldable pub some : List Bytes → Result (List Bytes) FaultKind
some [] = Err wrong.Arity
some (a ∷ ws) = Ok (a ∷ ws)

-- a word, and at least one more
unfoldable pub one_and_some : List Bytes → Result (Bytes × List Bytes) FaultKind
one_and_some (a ∷ b ∷ ws) = Ok (a, b ∷ ws)
one_and_some _ = Err wrong.Arity

-- a word, and at least two more
unfoldable pub one_and_two : List Bytes → Result (Bytes × List Bytes) FaultKind
one_and_two (a ∷ b ∷ c ∷ ws) = Ok (a, b ∷ c ∷ ws)
one_and_two _ = Err wrong.Arity

-- two or three words, and any more
unfoldable pub two_and_any : List Bytes → Result (Bytes × Bytes × List Bytes) FaultKind
two_and_any (a ∷ b ∷ ws) = Ok (a, b, ws)
two_and_any _ = Err wrong.Arity

unfoldable pub three_and_any : List Bytes → Result (Bytes × Bytes × Bytes × List Bytes) FaultKind
three_and_any (a ∷ b ∷ c ∷ ws) = Ok (a, b, c, ws)
three_and_any _ = Err wrong.Arity

-- ---- words in pairs

-- every second word, from the first on
abbrev pub firsts : List Bytes → List Bytes
firsts [] = []
firsts (a ∷ []) = a ∷ []
firsts (a ∷ b ∷ ws) = a ∷ firsts ws

-- every second word, from the second on
abbrev pub seconds : List Bytes → List Bytes
seconds [] = []
seconds (a ∷ []) = []
seconds (a ∷ b ∷ ws) = b ∷ seconds ws

-- whole pairs, at least one
abbrev pub no_pairs : List Bytes → Bool
no_pairs ws = length ws == 0 || length ws % 2 == 1

unfoldable pub in_pairs : List Bytes → Result (List Bytes × List Bytes) FaultKind
in_pairs ws = if no_pairs ws then Err wrong.Arity else Ok (firsts ws, seconds ws)

-- ---- what they say, each word judged at its place

unfoldable pub said1 : (p : Place) → List Bytes → Result (Said p) FaultKind
said1 p ws = do
  a ← only ws
  judged ((p, a) ∷ []) (said p a)

unfoldable pub said2 : (p q : Place) → List Bytes → Result (Said p × Said q) FaultKind
said2 p q ws = do
  x ← two_words ws
  judged ((p, x.0) ∷ (q, x.1) ∷ []) (said p x.0, said q x.1)

unfoldable pub said3 : (p q r : Place) → List Bytes → Result (Said p × Said q × Said r) FaultKind
said3 p q r ws = do
  x ← triple ws
  judged ((p, x.0) ∷ (q, x.1) ∷ (r, x.2) ∷ []) (said p x.0, said q x.1, said r x.2)

unfoldable pub said4 : (p q r s : Place) → List Bytes → Result (Said p × Said q × Said r × Said s) FaultKind
said4 p q r s ws = do
  x ← four ws
  judged ((p, x.0) ∷ (q, x.1) ∷ (r, x.2) ∷ (s, x.3) ∷ []) (said p x.0, said q x.1, said r x.2, said s x.3)

abbrev pub all_at : Place → List Bytes → Placed
all_at p [] = []
all_at p (w ∷ ws) = (p, w) ∷ all_at p ws

-- words of one kind
unfoldable pub said_more : Place → List Bytes → Result (List Bytes) FaultKind
said_more p ws = do
  xs ← some ws
  judged (all_at p xs) xs

-- a key, and words of one kind
unfoldable pub said_k_more : Place → List Bytes → Result (Bytes × List Bytes) FaultKind
said_k_more p ws = do
  x ← one_and_some ws
  judged ((K, x.0) ∷ all_at p x.1) x

-- words of one kind, each with a value, which may be any bytes
unfoldable pub said_pairs : Place → List Bytes → Result (List Bytes × List Bytes) FaultKind
said_pairs p ws = do
  x ← in_pairs ws
  judged (all_at p x.0) x

-- and a key before them
unfoldable pub said_k_pairs : Place → List Bytes → Result (Bytes × List Bytes × List Bytes) FaultKind
said_k_pairs p ws = do
  x ← one_and_some ws
  y ← in_pairs x.1
  judged ((K, x.0) ∷ all_at p y.0) (x.0, y.0, y.1)

-- ---- a last word that may be left out

unfoldable pub said_maybe : (p : Place) → List Bytes → Result (Option (Said p)) FaultKind
said_maybe p ws = if length ws == 0 then Ok None else (said1 p ws >>= λ x. Ok (Some x))

unfoldable pub said_k_maybe : (p : Place) → List Bytes → Result (Bytes × Option (Said p)) FaultKind
said_k_maybe p ws = if length ws == 1 then (said1 K ws >>= λ x. Ok (x, None)) else (said2 K p ws >>= λ x. Ok (x.0, Some x.1))

-- ---- what a function that reads words returns

-- it is what was told, unless memory ran out
abbrev pub IsToldOrNoMem : {A : Type 0} → Result A FaultKind → Result A FaultKind → Type 0
IsToldOrNoMem (Ok a) told = told ≡ Ok a
IsToldOrNoMem (Err wrong.NoMem) told = Unit {0}
IsToldOrNoMem (Err e) told = told ≡ Err e

-- a word at its place: what it says, or its fault
abbrev pub ReadsWord : {A : Type 0} → Result A FaultKind → Bool → FaultKind → A → Type 0
ReadsWord (Ok a) bad fault x = (a ≡ x) × (bad ≡ false)
ReadsWord (Err e) bad fault x = (e ≡ fault) × (bad ≡ true)
