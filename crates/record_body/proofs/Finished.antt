-- A buffer whose length is filled in is a framed body.
use Rattle.std.proofs.Common.{◌≡◌, ℕ, ◌-◌, ◌≤◌, List, [], ◌∷◌, ◌++◌, length, take, drop, ◌∙◌, ap, arith, length-append, length-drop}
use Rattle.std.proofs.lemmas.List.{take_at}
use Rattle.kv_base.specs.Fields.{u32}
use Rattle.record_body.specs.Framed.{framed}
use Rattle.record_body.specs.FramedLaws.{framed_of, length-framed}

pub finished : (before after filled : List ℕ) (n all : ℕ) → 4 ≤ length before → n ≡ length before - 4 → after ≡ before ++ 0 ∷ [] → all ≡ length after
    → filled ≡ u32 n ++ drop 4 after → take all (filled ++ drop (length filled) after) ≡ framed (drop 4 before)
finished before after filled n all room is pushed whole fill =
    let body = drop 4 before in
    let frame : filled ≡ framed body =
    fill ∙ ap (λ (l : List ℕ). u32 n ++ drop 4 l) pushed ∙ framed_of before n (omega (arith, is, length-drop 4 before)) room in
    take_at filled (drop (length filled) after) all (omega (arith, whole, ap length frame, length-framed body, length-drop 4 before, ap length pushed, length-append before (0 ∷ []))) ∙ frame
