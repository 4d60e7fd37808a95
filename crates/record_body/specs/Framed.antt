-- A body as it stands in a gated file behind its gate.
use Rattle.std.specs.Prelude.{◌≡◌, ℕ, ◌+◌, ◌-◌, ◌<◌, ◌^◌, List, [], ◌∷◌, ◌++◌, length, take, drop}
use Rattle.std.specs.Int.{w32, from_be_bytes}
use Rattle.kv_base.specs.Fields.{text}

-- the number that four bytes spell
unfoldable pub framed_number : List ℕ → ℕ
framed_number bytes = from_be_bytes w32 bytes

-- a body's length, the body, and the next gate, closed
unfoldable pub framed : List ℕ → List ℕ
framed body = text body ++ 0 ∷ []

-- what stands between a length and a gate
unfoldable pub framed_body : List ℕ → List ℕ
framed_body bytes = take (length bytes - 5) (drop 4 bytes)

-- these bytes are a body between its length and a closed gate
pub record IsFramed (bytes : List ℕ) : Type 0 where
  pub is : bytes ≡ framed (framed_body bytes)
  pub long : length bytes ≡ length (framed_body bytes) + 5
  pub limit : length (framed_body bytes) < 2 ^ 32
