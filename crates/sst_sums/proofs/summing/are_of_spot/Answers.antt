use Rattle.std.proofs.Common.{◌∙◌, ap, sym}
use Rattle.std.specs.Ordering.{is_eq}
use Rattle.kv_base.specs.Map.{byte_cmp}
use Rattle.sst_sums.specs.SummingLaws.{of_spot}
use Rattle.sst_sums.proofs.summing.are_of_spot.Goals as goal

pub returns : goal.returns
returns c =
    c.is_well_closed.ensures
    ∙ of_spot c.args.is_last c.args.is_full c.is_eq-is_named.result c.args.spot.now c.args.rows.now c.in-Some.row.now (sym c.in-Some.ensures.value) c.requires
    (c.is_eq-is_named.ensures ∙ ap is_eq (c.cmp.ensures ∙ ap (byte_cmp c.in-Some.row.now.raw.now) c.bytes.ensures))
