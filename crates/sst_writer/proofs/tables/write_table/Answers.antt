use Rattle.std.proofs.Common.{◌≡◌, List, Option, None, IfSome, ap, subst, ◌∙◌, rules}
use Rattle.std.specs.Prelude.{is_some}
use Rattle.kv_base.specs.declared.name.FileName.TheVariants.{Table}
use Rattle.kv_base.specs.declared.row.Row.{Row}
use Rattle.merge_rows.specs.Cursors.{with_held}
use Rattle.sst_writer.specs.Cutting.{AreLeftOver}
use Rattle.sst_writer.specs.TakingLaws.{next_left, none_behind}
use Rattle.sst_writer.specs.Written.{IsNextTable}
use Rattle.sst_writer.specs.WrittenLaws.{is_told, leaves_table, next_is}
use Rattle.sst_writer.specs.WritingLaws.{nothing_touched, on_err, touched_then}
use Rattle.sst_writer.proofs.tables.write_table.Goals as goal

pub returns-then-is_none-clause-behind : goal.returns-then-is_none-clause-behind
returns-then-is_none-clause-behind g c =
    let none : c.peek.new.self.held ≡ None = search (rules, c.shown.ensures, c.is_none.ensures, c.if-is_none.true) in
    none_behind c.args.limit _ _ c.peek.new.self.held c.in_ok-peek.ensures.shown none c.in_ok-peek.ensures.rows

pub returns-in_err-table-clause-rest : goal.returns-in_err-table-clause-rest
returns-in_err-table-clause-rest g c =
    let s = c.in_ok-sealed.ensures.sealed in
    let mid = with_held c.peek.new.self.held (g.C.Upcoming.rows c.peek.new.self.cursor) in
    let now = with_held c.write_file.new.rows.held (g.C.Upcoming.rows c.write_file.new.rows.cursor) in
    on_err c.from_residual-in_err-table.result _ (subst (λ (o : Option (List Row)). AreLeftOver o now) c.in_ok-peek.ensures.rows (next_left c.args.limit s.rows mid now s.taken))

pub returns-clause-table : goal.returns-clause-table
returns-clause-table g c =
    let s = c.in_ok-sealed.ensures.sealed in
    let mid = with_held c.peek.new.self.held (g.C.Upcoming.rows c.peek.new.self.cursor) in
    let now = with_held c.write_file.new.rows.held (g.C.Upcoming.rows c.write_file.new.rows.cursor) in
    let held = g.F.Files.sealed_bytes c.in_ok-sealed.sealed.file in
    subst (λ (o : Option (List Row)). IfSome o (λ all. IsNextTable c.args.id c.args.limit all c.in_ok-table.table)) c.in_ok-peek.ensures.rows
    (next_is c.args.id c.args.limit s.rows mid now held c.in_ok-table.table s.taken (c.in_ok-table.ensures s.rows s.sealed) s.sealed.file)

pub returns-clause-told : goal.returns-clause-told
returns-clause-told g c = λ bytes is.
    let s = c.in_ok-sealed.ensures.sealed in
    let it = c.in_ok-table.ensures s.rows s.sealed in
    ap (λ (o : Option (List Row)). is_some o) it.told
    ∙ is_told s.rows (g.F.Files.sealed_bytes c.in_ok-sealed.sealed.file) it.lawful s.sealed.file (c.in_ok-sealed.ensures.told bytes (c.in_ok-peek.ensures.disk.reads (Table c.args.id) ∙ is))

pub returns-clause-durable : goal.returns-clause-durable
returns-clause-durable g c =
    let s = c.in_ok-sealed.ensures.sealed in
    let it = c.in_ok-table.ensures s.rows s.sealed in
    leaves_table (Table c.args.id) (g.F.Files.disk c.write_file.new.files) s.rows (g.F.Files.sealed_bytes c.in_ok-sealed.sealed.file) c.in_ok-table.table.rows it.lawful s.sealed.file it.told c.in_ok-sealed.ensures.durable

pub returns-clause-touched : goal.returns-clause-touched
returns-clause-touched g c =
    let name = Table c.args.id in
    let first = g.F.Files.disk c.args.files.now in
    let mid = g.F.Files.disk c.peek.new.files in
    touched_then name first mid (g.F.Files.disk c.write_file.new.files) (nothing_touched name first mid c.in_ok-peek.ensures.disk) c.write_file.ensures.touched
