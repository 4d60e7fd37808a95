use Rattle.std.proofs.Common.{◌∙◌, ◌-◌, ℕ, List, ◌++◌, ap, arith, length, drop}
use Rattle.kv_base.specs.Fields.{u32}
use Rattle.record_body.specs.Framed.{framed_body}
use Rattle.record_body.specs.FramedLaws.{is_framed, body_of-framed}
use Rattle.record_body.proofs.Finished.{finished}
use Rattle.record_body.proofs.writer.BodyWriter.finish.Goals as goal

pub invariant_of-result : goal.invariant_of-result
invariant_of-result c =
    let before = c.self.inside.buffer.items in
    let n = c.len.result - 4 in
    let frame = finished before c.push.new.self.items c.fill_in.new.buffer n c.push.new.self.len c.self.invariant (omega arith) c.in_ok-push.ensures.items (omega arith)
    (c.fill_in.ensures ∙ ap (λ (l : List ℕ). u32 n ++ drop 4 l) c.as_mut_slice.ensures.value) in
    is_framed _ (drop 4 before) frame (omega (arith, c.requires, ap length c.self.view_is))

pub returns : goal.returns
returns c =
    let before = c.self.inside.buffer.items in
    let n = c.len.result - 4 in
    let frame = finished before c.push.new.self.items c.fill_in.new.buffer n c.push.new.self.len c.self.invariant (omega arith) c.in_ok-push.ensures.items (omega arith)
    (c.fill_in.ensures ∙ ap (λ (l : List ℕ). u32 n ++ drop 4 l) c.as_mut_slice.ensures.value) in
    ap framed_body frame ∙ body_of-framed (drop 4 before) ∙ c.self.view_is
