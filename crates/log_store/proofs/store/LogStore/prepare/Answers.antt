use Rattle.log_store.specs.PlayLaws.{body_fits}
use Rattle.log_store.proofs.store.LogStore.prepare.Goals as goal
use Rattle.std.proofs.Common.{◌+◌, ◌≤◌, ap, arith}
use Rattle.redis_model.specs.Desk.{longest_body}
use Rattle.log_store.specs.Keeping.{KeptState}

pub encode_record-requires-clause-fits : goal.encode_record-requires-clause-fits
encode_record-requires-clause-fits g c =
    let same = ap (λ (s : KeptState). s.planned) c.self.view_is in
    let small : c.args.self.now.planned ≤ longest_body = omega (arith, same) in
    body_fits c.args.batch.now c.args.self.now.planned (c.self.inside.sequence + 1) c.args.moment c.requires.some c.requires.planned small
