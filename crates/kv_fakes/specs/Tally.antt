-- The calls of a form in memory, and which of them fail.
use Rattle.std.specs.Prelude.{◌≡◌, ℕ, ◌+◌, ◌-◌, ◌^◌, min, List, Contains, Result, IsErr, is_err, if◌then◌else◌}

-- the numbers, from 0, of the calls that are to fail; how many calls were made; and how many of them failed
pub record Tally : Type 0 where
  pub fails : List ℕ
  pub made : ℕ
  pub failed : ℕ

-- the next call is one that is to fail
abbrev pub IsListed : Tally → Type 0
IsListed tally = Contains tally.fails tally.made

-- one more, where a number has 64 bits: the last one stays
abbrev pub one_more : ℕ → ℕ
one_more n = min (n + 1) (2 ^ 64 - 1)

-- One call was made. Where its number is listed it failed, and a failure is counted.
pub record Counts {T E : Type 0} (old new : Tally) (result : Result T E) : Type 0 where
  pub fails : new.fails ≡ old.fails
  pub made : new.made ≡ one_more old.made
  pub failed : new.failed ≡ (if is_err result then one_more old.failed else old.failed)
  pub listed : IsListed old → IsErr result
