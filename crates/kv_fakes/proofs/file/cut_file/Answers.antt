use Rattle.std.proofs.Common.{refl, arith, ap, ◌∙◌}
use Rattle.kv_fakes.specs.Content.{file_place}
use Rattle.kv_fakes.proofs.Files.{rewrites_at, rewrites_absent, take_none}
use Rattle.kv_fakes.proofs.file.cut_file.Goals as goal

pub returns-then-place-len : goal.returns-then-place-len
returns-then-place-len c = rewrites_at c.args.files.now.items c.args.files.now.items _ c.args.name c.place_of-place.result _ c.index_mut-file.result.now _
    (record { each = λ name. refl }) (c.place_of-place.ensures ∙ ap (λ l. file_place l c.args.name) c.deref.ensures.value) (omega (arith, c.if-place-len.true, c.len.ensures)) c.index_mut-file.ensures.value refl c.truncate.ensures.items refl

pub returns-else-place-len : goal.returns-else-place-len
returns-else-place-len c = rewrites_absent c.args.files.now.items c.args.name _ (take_none c.args.len) (omega (arith, c.if-place-len.false, c.len.ensures, c.place_of-place.ensures ∙ ap (λ l. file_place l c.args.name) c.deref.ensures.value))
