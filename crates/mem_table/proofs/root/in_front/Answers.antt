use Rattle.std.proofs.Common.{◌≤◌, ◌∷◌, Some, take, sym, ap, ◌∙◌, arith}
use Rattle.std.specs.List.{list_all}
use Rattle.kv_base.specs.Map.{Bytes}
use Rattle.kv_base.specs.declared.row.Row.{Row}
use Rattle.row_model.specs.RowOrder.{is_ordered}
use Rattle.mem_table.specs.Search.{is_short}
use Rattle.mem_table.specs.Shared.{rows_of}
use Rattle.mem_table.specs.Tree.{are_before, leaf_rows}
use Rattle.mem_table.proofs.Parts.{in_front_of}
use Rattle.mem_table.proofs.root.in_front.Goals as goal

pub returns-in-Some-clause-front : goal.returns-in-Some-clause-front
returns-in-Some-clause-front c =
    let old = c.args.branches.now in
    let first = c.deref-first.result.now in
    let more = rows_of c.in-Some.field-0-1.now in
    let is = ap rows_of c.in-Some.ensures.cases.0 ∙ ap (λ (row : Row). row ∷ more) (sym c.deref-first.ensures) in
    let low : c.min.result ≤ c.branch_at.result = omega (arith, c.min.ensures) in
    let short = ap (λ (raw : Bytes). list_all (is_short raw (Some first.seq)) (leaf_rows (take c.branch_at.result old))) (sym c.bytes.ensures) ∙ c.branch_at.ensures.front in
    ap (list_all (are_before (leaf_rows (take c.min.result old)))) is ∙ in_front_of old c.branch_at.result c.min.result first more low short (ap is_ordered (sym is) ∙ c.requires.rows)
