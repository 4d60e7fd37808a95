use Rattle.std.proofs.Common.{map, arith}
use Rattle.std.proofs.lemmas.List.{length-map}
use Rattle.kv_base.specs.RowRefs.{row_seen}
use Rattle.sst_sums.specs.SumLaws.{sums_then}
use Rattle.sst_sums.proofs.sums.Sums.with.Goals as goal

pub returns : goal.returns
returns c = λ done sums.
    let long = length-map c.args.rows.now row_seen in
    sums_then c.args.self.rows c.in-Some.total c.args.self.keys.items c.in_ok-keys.keys.items c.args.self.least c.in_ok-least.least c.args.self.last c.in_ok-last.last done (map row_seen c.args.rows.now) sums
    (omega (arith, long, c.in-Some.ensures)) c.in_ok-keys.ensures c.in_ok-least.ensures c.in_ok-last.ensures
