-- An inline line byte by byte: the same as by its first line feed and its first quote.
use Rattle.std.specs.Prelude.{◌≡◌, ℕ, zero, suc, ◌+◌, ◌-◌, ◌≤◌, ◌<◌, Bool, false, ◌||◌, if◌then◌else◌, List, [], ◌∷◌, ◌++◌, length, slice_index, All, Ok, Err}
use Rattle.resp_wire.specs.declared.stop.ProtocolFault.TheVariants.{TooLong, Quote}
use Rattle.resp_wire.specs.declared.stop.Stop.TheVariants.{More, Bad}
use Rattle.resp_wire.specs.Grammar.{Part, ◌>>=◌, star, line_feed, is_line_feed, is_quote, line, inline}

-- a byte before a line that was read
abbrev pub with_byte : ℕ → List ℕ × List ℕ → Part (List ℕ)
with_byte c x = Ok (c ∷ x.0, x.1)

unfoldable pub walk : ℕ → ℕ → List ℕ → Part (List ℕ)
walk zero left [] = Err More
walk (suc n) left [] = Err More
walk zero left (c ∷ rest) = if is_line_feed c then Ok ([], rest) else Err (Bad TooLong left)
walk (suc n) left (c ∷ rest) =
    if is_line_feed c then Ok ([], rest) else if is_quote c then Err (Bad Quote (length rest + 1)) else (walk n left rest >>= with_byte c)

-- ---- searching

-- a byte at which the search of a line stops
abbrev pub is_stop : ℕ → Bool
is_stop c = is_line_feed c || is_quote c

-- Bytes that are there and begin no array begin an inline line.
pub record BeginsLine (bytes : List ℕ) : Type 0 where
  pub some : 0 < length bytes
  pub first : slice_index bytes 0 ≡ star → ⊥

-- So many bytes in front have no line feed and no quote, and are no more than a line may have.
pub record IsSearched (n : ℕ) (bytes : List ℕ) : Type 0 where
  pub inside : n ≤ length bytes
  pub short : n ≤ 65536
  pub plain : (k : ℕ) → k < n → is_stop (slice_index bytes k) ≡ false

-- ---- lines that were read

-- the line up to its line feed, which has at most so many bytes
pub record Ended (most : ℕ) (bytes text rest : List ℕ) : Type 0 where
  pub is : bytes ≡ text ++ line_feed ∷ rest
  pub fits : length text ≤ most
  pub plain : All (λ c. is_stop c ≡ false) text
