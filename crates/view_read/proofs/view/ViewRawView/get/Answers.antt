use Rattle.std.proofs.Common.{◌≡◌, Option, option_and_then, subst}
use Rattle.std.specs.Prelude.{IfSome}
use Rattle.kv_base.specs.Map.{get}
use Rattle.kv_base.specs.declared.row.Row.{Row}
use Rattle.view_read.specs.Sources.{map_of_sources, source_rows}
use Rattle.view_read.proofs.Finding.{value_of}
use Rattle.view_read.proofs.view.ViewRawView.get.Goals as goal

pub returns-in-Some-clause-value : goal.returns-in-Some-clause-value
returns-in-Some-clause-value g c =
    let view = c.args.self.now in
    subst (λ (o : Option Row). IfSome (map_of_sources view.sources.now view.seq) (λ m. option_and_then (λ (row : Row). row.value) o ≡ get m c.args.raw.now)) c.in-Some.is
    (value_of (source_rows view.sources.now) view.seq c.args.raw.now c.in_ok-row.field-0 c.in_ok-row.ensures.row)

pub returns-in-None-clause-value : goal.returns-in-None-clause-value
returns-in-None-clause-value g c =
    let view = c.args.self.now in
    subst (λ (o : Option Row). IfSome (map_of_sources view.sources.now view.seq) (λ m. option_and_then (λ (row : Row). row.value) o ≡ get m c.args.raw.now)) c.in-None.is
    (value_of (source_rows view.sources.now) view.seq c.args.raw.now c.in_ok-row.field-0 c.in_ok-row.ensures.row)
