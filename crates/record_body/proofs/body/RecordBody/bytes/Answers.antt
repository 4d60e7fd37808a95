use Rattle.std.proofs.Common.{◌-◌, ◌∙◌, ℕ, List, ap, arith, take, drop}
use Rattle.record_body.specs.FramedLaws.{framed_body_is_read}
use Rattle.record_body.proofs.body.RecordBody.bytes.Goals as goal

pub returns-clause-bytes : goal.returns-clause-bytes
returns-clause-bytes c =
    let n = c.len.result in
    c.split_at-2.ensures.back
    ∙ ap (λ (l : List ℕ). drop 4 l) (c.split_at.ensures.front ∙ ap (λ (l : List ℕ). take (n - 1) l) c.as_slice.ensures.value)
    ∙ framed_body_is_read _ n c.self.invariant (omega arith)
    ∙ c.self.view_is
