use Rattle.std.proofs.Common.{ap, sym, ◌∙◌}
use Rattle.std.specs.Arc.{arc_value}
use Rattle.sst_file.specs.States.{rows_of_table}
use Rattle.sst_file.proofs.OpenedTable.{rows_found, still_left}
use Rattle.sst_file.proofs.table.Table.open.Goals as goal

pub returns-clause-found : goal.returns-clause-found
returns-clause-found g c = λ bytes is.
    let p = c.in_ok-open_parts.field-0 in
    rows_found p.spots.items p.bits p.desc (g.F.Files.sealed_bytes c.in-Ok.opened.file) bytes (rows_of_table (g.F.Files.sealed_bytes (arc_value c.in_ok-parts.parts).file)) (c.in-Ok.ensures.told bytes is) c.in_ok-open_parts.ensures.found
    (sym (ap (λ q. rows_of_table (g.F.Files.sealed_bytes q.file)) c.in_ok-parts.ensures ∙ ap (λ f. rows_of_table (g.F.Files.sealed_bytes f)) c.in_ok-open_parts.ensures.file))

pub returns-clause-durable : goal.returns-clause-durable
returns-clause-durable g c =
    still_left _ _ _ (g.F.Files.sealed_bytes c.in-Ok.opened.file) (rows_of_table (g.F.Files.sealed_bytes (arc_value c.in_ok-parts.parts).file)) c.in-Ok.ensures.durable c.open_parts.ensures.disk
    (sym (ap (λ q. rows_of_table (g.F.Files.sealed_bytes q.file)) c.in_ok-parts.ensures ∙ ap (λ f. rows_of_table (g.F.Files.sealed_bytes f)) c.in_ok-open_parts.ensures.file))
