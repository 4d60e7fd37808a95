use Rattle.std.proofs.Common.{sym, ◌∙◌, arith, ap, [], get_or}
use Rattle.kv_fakes.proofs.Files.{content_at, content_absent}
use Rattle.kv_fakes.proofs.file.content_of.Goals as goal

pub returns-in-Some : goal.returns-in-Some
returns-in-Some c =
    c.as_slice.ensures.value ∙ ap (λ f. f.bytes.items) (c.in-Some.ensures.lookup.1 ∙ ap (λ n. get_or c.args.files.now n c.in-Some.file.now) c.place_of.ensures)
    ∙ sym (content_at c.args.files.now c.args.name c.in-Some.file.now [] (omega (arith, c.place_of.ensures, c.in-Some.ensures.lookup.3.0)))

pub returns-in-None : goal.returns-in-None
returns-in-None c = sym (content_absent c.args.files.now c.args.name [] (omega (arith, c.place_of.ensures, c.in-None.ensures.lookup.3)))
