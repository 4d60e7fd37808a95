use Rattle.std.proofs.Common.{refl}
use Rattle.kv_fakes.specs.Past.{overwritten}
use Rattle.kv_fakes.proofs.Files.{rewrites_at, same_rewritten}
use Rattle.kv_fakes.proofs.Outcomes.{on_ok, on_err}
use Rattle.kv_fakes.proofs.file.write_file.Goals as goal

pub returns-clause-ok : goal.returns-clause-ok
returns-clause-ok c = on_ok c.write_over.result
    (λ is. rewrites_at c.args.files.now.items c.place_for.new.files.items _ c.args.name c.in_ok-place.place _ c.index_mut-file.result.now (overwritten c.args.at c.args.piece.now)
    c.in_ok-place.ensures.same c.in_ok-place.ensures.place c.in_ok-place.ensures.there c.index_mut-file.ensures.value refl is refl)
    c.write_over.ensures.ok

pub returns-clause-err : goal.returns-clause-err
returns-clause-err c = on_err c.write_over.result
    (λ is. same_rewritten _ _ c.args.name (λ l. l) (λ l. refl) (rewrites_at c.args.files.now.items c.place_for.new.files.items _ c.args.name c.in_ok-place.place _ c.index_mut-file.result.now (λ l. l)
    c.in_ok-place.ensures.same c.in_ok-place.ensures.place c.in_ok-place.ensures.there c.index_mut-file.ensures.value refl is refl))
    c.write_over.ensures.err
