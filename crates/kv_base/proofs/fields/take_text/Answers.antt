use Rattle.std.proofs.Common.{◌≡◌, ℕ, ◌<◌, ◌≤◌, List, true, false, length, Option, Some, None, option_map, option_and_then, MatchOption, Bor, refl, ap, ◌∙◌, arith}
use Rattle.std.specs.Prelude.{nat_le}
use Rattle.std.specs.List.{IsSplitAt}
use Rattle.std.proofs.lemmas.Bool.Decides.{nat_tests}
use Rattle.kv_base.specs.Map.{Bytes}
use Rattle.kv_base.specs.Fields.{read_bytes, read_text}
use Rattle.kv_base.proofs.fields.take_text.Goals as goal

split : (n : ℕ) (behind : Bytes) (r : Option (Bor (List ℕ) × Bor (List ℕ))) → MatchOption r (length behind < n) (λ p. IsSplitAt behind n p.0.now p.1.now) → option_map (λ front. (front.0.now, front.1.now)) r ≡ read_bytes n behind
split n behind None h =
    let no : nat_le n (length behind) ≡ false = grind (arith, nat_tests) in
    rw no refl
split n behind (Some p) h =
    let bound : n ≤ length behind = omega (arith, h.0) in
    let enough : nat_le n (length behind) ≡ true = grind (arith, nat_tests) in
    rw enough (λ i. Some (h.1 i, h.2 i))

pub returns-in_err-length : goal.returns-in_err-length
unfolding read_text
returns-in_err-length c = rw c.from_residual.ensures (ap (option_and_then (λ front. read_bytes front.0 front.1)) c.in_err-length.ensures)

pub returns : goal.returns
unfolding read_text
returns c = split _ _ _ c.split_at_checked.ensures.cases ∙ ap (option_and_then (λ front. read_bytes front.0 front.1)) c.in_ok-length.ensures
