-- What the calls of `Files` do to the bytes of one file.
use Rattle.std.specs.Prelude.{◌≡◌, ◌⊎◌, ℕ, ◌+◌, ◌-◌, ◌≤◌, max, min, List, [], ◌++◌, length, take, drop, Option, Some, None}

-- after a write that is done: these bytes at this place, the same elsewhere
abbrev pub HasWritten : ℕ → List ℕ → List ℕ → List ℕ → Type 0
HasWritten at bytes old new = new ≡ take at old ++ bytes ++ drop (at + length bytes) old

-- after a write of n bytes that may be cut short: any bytes in its range, the same elsewhere
pub record Torn (at n : ℕ) (old new : List ℕ) : Type 0 where
  pub before : take at new ≡ take at old
  pub after : drop (at + n) new ≡ drop (at + n) old
  pub no_shorter : length old ≤ length new
  pub no_longer : length new ≤ max (length old) (at + n)

-- after a cut that is done
abbrev pub IsCut : ℕ → List ℕ → List ℕ → Type 0
IsCut len old new = new ≡ take len old

-- after a cut that may be cut short: any bytes behind that length, the same below it
pub record Shortened (len : ℕ) (old new : List ℕ) : Type 0 where
  pub before : take len new ≡ take len old
  pub no_shorter : min len (length old) ≤ length new
  pub no_longer : length new ≤ length old

-- after a purge that is done, the file is not there, which is as good as empty
abbrev pub IsGone : List ℕ → List ℕ → Type 0
IsGone old new = new ≡ []

-- after a purge that may not have been carried out: as it was, or not there
abbrev pub Purged : List ℕ → List ℕ → Type 0
Purged old new = (new ≡ old) ⊎ (new ≡ [])

-- where the old bytes are told, so are the new ones, and the step leads from the one to the other
abbrev pub Goes : (List ℕ → List ℕ → Type 0) → Option (List ℕ) → Option (List ℕ) → Type 0
Goes step None new = new ≡ None
Goes step (Some d) new = (c : List ℕ) × (new ≡ Some c) × step d c

-- a read into a buffer: as many bytes as stand from this place on, up to the buffer's length
pub record ReadsFrom (at : ℕ) (bytes old new : List ℕ) (n : ℕ) : Type 0 where
  pub count : n ≡ min (length old) (length bytes - at)
  pub taken : take n new ≡ take n (drop at bytes)
  pub rest : drop n new ≡ drop n old
