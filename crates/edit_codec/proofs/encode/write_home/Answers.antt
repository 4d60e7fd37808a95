use Rattle.std.proofs.Common.{ap, arith, length, List, ℕ}
use Rattle.edit_codec.specs.Records.{FitsHome}
use Rattle.edit_codec.proofs.Writing.{short_least, short_greatest, on_ok}
use Rattle.edit_codec.proofs.encode.write_home.Goals as goal

pub put_text-requires : goal.put_text-requires
put_text-requires c =
    let short = short_least c.args.home.now c.requires in
    omega (arith, short, ap (λ (l : List ℕ). length l) c.bytes.ensures)

pub put_text-requires-2 : goal.put_text-requires-2
put_text-requires-2 c =
    let short = short_greatest c.args.home.now c.requires in
    omega (arith, short, ap (λ (l : List ℕ). length l) c.bytes-2.ensures)

pub returns-clause-fits : goal.returns-clause-fits
returns-clause-fits c =
    let least = short_least c.args.home.now c.requires in
    let greatest = short_greatest c.args.home.now c.requires in
    let fits : FitsHome c.args.home.now = (tt, (c.write_id.ensures.fits, (c.write_sizes.ensures.fits.0, (c.write_sizes.ensures.fits.1, (omega (arith, least), omega (arith, greatest)))))) in
    on_ok c.put_text-2.result fits
