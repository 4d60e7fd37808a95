use Rattle.std.proofs.Common.{refl}
use Rattle.kv_fakes.proofs.Files.{rewrites_at}
use Rattle.kv_fakes.proofs.file.place_file.Goals as goal

pub returns-clause-ok : goal.returns-clause-ok
returns-clause-ok c = rewrites_at c.args.files.now.items c.place_for.new.files.items _ c.args.name c.in_ok-place.place _ c.index_mut-file.result.now (λ old. c.args.bytes.items)
    c.in_ok-place.ensures.same c.in_ok-place.ensures.place c.in_ok-place.ensures.there c.index_mut-file.ensures.value refl refl refl
