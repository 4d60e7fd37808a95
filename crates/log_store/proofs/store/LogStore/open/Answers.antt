use Rattle.std.proofs.Common.{arith, refl}
use Rattle.log_store.proofs.Replaying.{found_rises, found_sequence, is_opened, opened_within, replayed_last, replayed_rows}
use Rattle.log_store.proofs.store.LogStore.open.Goals as goal

pub replay-requires : goal.replay-requires
replay-requires g c =
    found_rises (g.F.Files.disk c.args.files.now) (g.F.Files.disk c.read_all.new.files) c.in_ok-found.found c.as_slice-records.result.now
    c.in_ok-found.ensures.reads c.as_slice-records.ensures

pub invariant_of-result : goal.invariant_of-result
invariant_of-result g c =
    let old = g.F.Files.disk c.args.files.now in
    let middle = g.F.Files.disk c.read_all.new.files in
    let rs = c.as_slice-records.result.now in
    let within = opened_within old middle c.in_ok-found.found rs c.in_ok-found.ensures.reads c.as_slice-records.ensures in
    (within.0, within.1, omega arith, replayed_last rs c.in_ok-table.table c.in_ok-found.found.last.seq (found_sequence old middle c.in_ok-found.found rs c.in_ok-found.ensures.reads c.as_slice-records.ensures) c.in_ok-table.ensures.last)

pub returns-clause-opened : goal.returns-clause-opened
returns-clause-opened g c =
    let old = g.F.Files.disk c.args.files.now in
    let middle = g.F.Files.disk c.read_all.new.files in
    let rs = c.as_slice-records.result.now in
    is_opened old middle (g.F.Files.disk c.resume.new.files) c.in_ok-found.found rs _ c.in_ok-found.ensures.reads c.as_slice-records.ensures
    (replayed_rows rs c.in_ok-table.table c.in_ok-found.found.last.seq (found_sequence old middle c.in_ok-found.found rs c.in_ok-found.ensures.reads c.as_slice-records.ensures) c.in_ok-table.ensures.shows) refl refl refl
    c.in-Ok.ensures.name c.in-Ok.ensures.sure c.in-Ok.ensures.rests
