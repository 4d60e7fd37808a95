-- Places of a history: what their entries come to, and which batches they appended.
use Rattle.std.specs.Prelude.{◌≡◌, ◌+◌, ℕ, List, [], ◌∷◌, map, Option, Some, None}
use Rattle.redis_model.specs.declared.history.Step.{Step}
use Rattle.redis_model.specs.declared.history.Step.TheVariants.{Call, Exec}
use Rattle.redis_model.specs.declared.history.Note.{Note}
use Rattle.redis_model.specs.declared.history.Note.TheVariants.{Appended}
use Rattle.redis_model.specs.declared.history.Place.{Place}
use Rattle.redis_model.specs.Machine.{State, run}

-- the state of the machine that a store was opened with, and the sequence of its last batch
pub record Opening : Type 0 where
  pub state : State
  pub last : ℕ

abbrev pub steps_of : List Place → List Step
steps_of places = map (λ p. p.what) places

abbrev pub state_at : State → List Place → State
state_at first seen = run first (steps_of seen)

-- ---- what was appended

-- the sequence of the batch that an entry appended
abbrev pub appended_by : Step → Note → Option ℕ
appended_by (Call now caller c) (Appended seq) = Some seq
appended_by (Exec now caller cs) (Appended seq) = Some seq
appended_by _ _ = None

abbrev pub put_before : Option ℕ → List ℕ → List ℕ
put_before None rest = rest
put_before (Some n) rest = n ∷ rest

-- the sequences of all batches of a history
abbrev pub sequences : List Place → List ℕ
sequences [] = []
sequences (p ∷ ps) = put_before (appended_by p.what p.note) (sequences ps)

-- each sequence is one more than the one before it, and the last one is this
abbrev pub GoUp : ℕ → List ℕ → ℕ → Type 0
GoUp before [] last = last ≡ before
GoUp before (n ∷ ns) last = (n ≡ before + 1) × GoUp n ns last
