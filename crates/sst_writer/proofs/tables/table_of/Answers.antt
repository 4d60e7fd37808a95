use Rattle.std.proofs.Common.{sym, subst}
use Rattle.kv_base.specs.declared.table.TableDesc.{TableDesc}
use Rattle.sst_writer.specs.Written.{IsDescOfRows}
use Rattle.sst_writer.specs.WrittenLaws.{are_table_rows, desc_of_rows, sealed_stands}
use Rattle.sst_writer.proofs.tables.table_of.Goals as goal

pub of_written-requires : goal.of_written-requires
of_written-requires g c =
    let t = c.args.sealed.table in
    let s = t.builder.sums in
    sealed_stands c.requires.0 t.tail.items t.builder.spots.items t.bits t.size s.rows s.keys.items s.least s.last (g.F.Files.sealed_bytes c.args.sealed.file) c.requires.1 c.in_ok-desc.desc c.args.id c.in_ok-desc.ensures

pub returns : goal.returns
returns g c = λ rows sealed.
    let t = c.args.sealed.table in
    let s = t.builder.sums in
    let held = g.F.Files.sealed_bytes c.args.sealed.file in
    let desc = c.in_ok-desc.desc in
    record {
      desc = subst (λ (d : TableDesc). IsDescOfRows d c.args.id rows) (sym c.in_ok-table.ensures.desc) (desc_of_rows rows t.tail.items t.builder.spots.items t.bits t.size s.rows s.keys.items s.least s.last held sealed desc c.args.id c.in_ok-desc.ensures);
      lawful = are_table_rows rows t.tail.items t.builder.spots.items t.bits t.size s.rows s.keys.items s.least s.last held sealed desc c.args.id c.in_ok-desc.ensures;
      told = c.in_ok-table.ensures.rows;
    }
