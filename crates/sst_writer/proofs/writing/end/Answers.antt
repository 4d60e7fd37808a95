use Rattle.std.proofs.Common.{◌++◌, List, ℕ, ap, subst, ◌∙◌}
use Rattle.kv_outside.specs.Files.{Goes}
use Rattle.sst_writer.specs.Writing.{Longer}
use Rattle.sst_writer.specs.WritingLaws.{whole_file}
use Rattle.sst_writer.proofs.writing.end.Goals as goal

pub returns-clause-file : goal.returns-clause-file
returns-clause-file g c = λ rows built was.
    let d = c.args.draft in
    let done = c.in_ok-done.done in
    let old = g.F.Files.bytes_of c.args.log in
    let new = g.F.Files.sealed_bytes c.in-Ok.file in
    whole_file rows done.tail.items d.waiting.items c.extend_from_slice.new.self.items done.builder.spots.items done.bits done.size d.written old new
    (c.in_ok-done.ensures.finished rows built)
    (c.in_ok-extend_from_slice.ensures.items ∙ ap (λ (b : List ℕ). d.waiting.items ++ b) c.as_slice.ensures.value)
    (subst (λ (b : List ℕ). Goes (Longer b) old new) c.as_slice-2.ensures.value c.in-Ok.ensures.longer)
    was
