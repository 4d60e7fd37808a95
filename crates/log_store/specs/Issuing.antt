-- Which rows a plan with the next sequence can be made on, and that the rows after it are such rows too.
use Rattle.std.specs.Prelude.{ℕ}
use Rattle.lives_model.specs.Rows.{Rows}
use Rattle.lives_model.specs.Issued.{IsIssued}

-- all that stands in the rows was issued up to this sequence, so that the versions of the next one are new
abbrev pub AreIssuedUpTo : Rows → ℕ → Type 0
AreIssuedUpTo rows sequence = IsIssued rows sequence
