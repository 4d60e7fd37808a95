use Rattle.std.proofs.Common.{◌≡◌, [], List, length, nat_eq, true, ap, ◌∙◌, arith}
use Rattle.std.proofs.lemmas.Bool.Decides.{nat_tests}
use Rattle.mem_table.specs.Shared.{rows_of}
use Rattle.mem_table.specs.Tree.{leaf_rows}
use Rattle.mem_table.proofs.Spread.{merged_into, empty_of}
use Rattle.mem_table.proofs.root.branches_with.Goals as goal

none : {X : Type 0} (old : List X) → true ≡ nat_eq (length old) 0 → old ≡ []
none old h = let long : length old ≡ 0 = grind (arith, nat_tests) in empty_of old long

pub returns-then-is_empty : goal.returns-then-is_empty
returns-then-is_empty c =
    c.in_ok-branches.ensures ∙ merged_into (leaf_rows c.args.old.now) (rows_of c.args.new.items) (ap leaf_rows (none c.args.old.now c.if-is_empty.ensures)) c.requires.new
