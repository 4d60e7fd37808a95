-- Words of a request.
use Rattle.std.specs.Prelude.{ℕ, ◌+◌, ◌<◌, ◌≤◌, Bool, List, length, map, sum_by, All}
use Rattle.std.specs.Char.{to_ascii_lowercase}
use Rattle.std.specs.Str.{bytes_eq}
use Rattle.kv_base.specs.Map.{Bytes}
use Rattle.redis_model.specs.Limits.{IsShort, max_words, max_weight}

-- a word whose ASCII letters are small ones
abbrev pub lower : Bytes → Bytes
lower word = map to_ascii_lowercase word

-- is it this name, in any case?
unfoldable pub is : Bytes → Bytes → Bool
is name word = bytes_eq (lower word) (lower name)

-- 16 for each word, and its bytes
abbrev pub weight_of : List Bytes → ℕ
weight_of = sum_by (λ word. length word + 16)

-- the words of a request, within the limits of the wire
pub record AreRequestWords (words : List Bytes) : Type 0 where
  pub some : 0 < length words
  pub few : length words ≤ max_words
  pub short : All IsShort words
  pub light : weight_of words ≤ max_weight
