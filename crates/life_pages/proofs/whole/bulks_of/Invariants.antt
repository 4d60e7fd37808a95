use Rattle.std.proofs.Common.{◌≡◌, ◌++◌, reverse, length}
use Rattle.life_pages.proofs.Bulks.{bulks_in}
use Rattle.life_pages.proofs.whole.bulks_of.Given as goal

-- what is answered of the rows that are left stands in front of what is answered of the others
abbrev pub invariant-loop-row : goal.invariant-loop-row
invariant-loop-row l = bulks_in l.form l.key l.rows ++ reverse l.parts.items ≡ bulks_in l.form l.key l.initial.rows

abbrev pub decreases-loop-row : goal.decreases-loop-row
decreases-loop-row l = length l.rows
