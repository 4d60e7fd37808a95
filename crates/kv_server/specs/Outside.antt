-- What is told of the outside of a run.
use Rattle.std.specs.Prelude.{ℕ, Bool, List, Option}
use Rattle.kv_outside.specs.Disk.{Disk}

pub record Outside : Type 1 where
  -- the disk, and how often a call to the files has failed
  pub disk : Disk
  pub files : ℕ
  -- the readings of the clock that are ahead, where they are told
  pub readings : Option (List ℕ)
  -- what is left of the input, where it is told, whether a read has answered its end, and how often the source has failed
  pub left : Option (List ℕ)
  pub ended : Bool
  pub source : ℕ
  -- what the sink holds, where it is told, and how often it has failed
  pub held : Option (List ℕ)
  pub sink : ℕ

-- what is told of a client: its input and its output
pub record Streams : Type 0 where
  -- what is left of the input, where it is told, whether a read has answered its end, and how often the source has failed
  pub left : Option (List ℕ)
  pub ended : Bool
  pub source : ℕ
  -- what the sink holds, where it is told, and how often it has failed
  pub held : Option (List ℕ)
  pub sink : ℕ

abbrev pub streams : Option (List ℕ) → Bool → ℕ → Option (List ℕ) → ℕ → Streams
streams left ended source held sink = record { left = left; ended = ended; source = source; held = held; sink = sink }

-- the client of a run that has one
abbrev pub client_of : Outside → Streams
client_of o = record { left = o.left; ended = o.ended; source = o.source; held = o.held; sink = o.sink }

abbrev pub outside : Disk → ℕ → Option (List ℕ) → Option (List ℕ) → Bool → ℕ → Option (List ℕ) → ℕ → Outside
outside disk files readings left ended source held sink =
    record { disk = disk; files = files; readings = readings; left = left; ended = ended; source = source; held = held; sink = sink }
