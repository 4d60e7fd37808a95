-- The pieces that are written of a line make it.
use Rattle.std.proofs.Common.{◌≡◌, ℕ, List, [], ◌++◌, ap, ◌∙◌, append_assoc}
use Rattle.std.specs.Prelude.{codes, decimal}
use Rattle.redis_model.specs.Render.{line_end}
use Rattle.session.specs.Answer.{error_line}

-- an error whose text is given in three pieces
pub error_pieces : (before name after : List ℕ) → codes "-" ++ (before ++ (name ++ (after ++ (line_end ++ [])))) ≡ error_line (before ++ name ++ after)
error_pieces before name after = simp append_assoc

-- a file by its name, and a place
pub damage_pieces : (name digits : List ℕ) (place : ℕ) → digits ≡ decimal place → codes "-DAMAGED " ++ (name ++ (codes " " ++ (digits ++ (line_end ++ [])))) ≡ error_line (codes "DAMAGED " ++ name ++ codes " " ++ decimal place)
damage_pieces name digits place e = regrouped ∙ ap (λ (t : List ℕ). error_line (codes "DAMAGED " ++ name ++ codes " " ++ t)) e
  where
    regrouped : codes "-DAMAGED " ++ (name ++ (codes " " ++ (digits ++ (line_end ++ [])))) ≡ error_line (codes "DAMAGED " ++ name ++ codes " " ++ digits)
    regrouped = simp append_assoc

-- a numbered file, and a place
pub numbered_pieces : (number digits : List ℕ) (n place : ℕ) → number ≡ decimal n → digits ≡ decimal place → codes "-DAMAGED wal-" ++ (number ++ (codes " " ++ (digits ++ (line_end ++ [])))) ≡ error_line (codes "DAMAGED " ++ (codes "wal-" ++ decimal n) ++ codes " " ++ decimal place)
numbered_pieces number digits n place d e = regrouped ∙ ap (λ (t : List ℕ). error_line (codes "DAMAGED " ++ (codes "wal-" ++ t) ++ codes " " ++ digits)) d ∙ ap (λ (t : List ℕ). error_line (codes "DAMAGED " ++ (codes "wal-" ++ decimal n) ++ codes " " ++ t)) e
  where
    regrouped : codes "-DAMAGED wal-" ++ (number ++ (codes " " ++ (digits ++ (line_end ++ [])))) ≡ error_line (codes "DAMAGED " ++ (codes "wal-" ++ number) ++ codes " " ++ digits)
    regrouped = simp append_assoc
