-- Views that are lists of tokens.
use Rattle.std.specs.Prelude.{ℕ, ◌+◌, List, [], ◌∷◌}
use Rattle.atomic_table.specs.Seated.{TableId}

-- f of each element, added up
abbrev pub total : {A : Type 0} → (A → ℕ) → List A → ℕ
total f [] = 0
total f (x ∷ xs) = f x + total f xs

-- the first token alone
abbrev pub first_token : {A : Type 0} → List A → List A
first_token [] = []
first_token (t ∷ ts) = t ∷ []

abbrev pub other_tokens : {A : Type 0} → List A → List A
other_tokens [] = []
other_tokens (t ∷ ts) = ts

-- the name of no table
abbrev pub no_table : TableId
no_table = record { words = 0; slots = 0; views_name = 0; atom = 0; block = 0; offset = 0; slot_names = [] }
