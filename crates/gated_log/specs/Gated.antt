-- Gated files: what bytes stand for, whatever a crash made of them.
use Rattle.std.specs.Prelude.{◌≡◌, ◌≢◌, ◌⊎◌, ℕ, zero, suc, ◌+◌, ◌<◌, ◌^◌, List, [], ◌∷◌, ◌++◌, length, take, drop, if◌then◌else◌, ◌==◌, ◌&&◌, nat_le}
use Rattle.kv_base.specs.Fields.{text}
use Rattle.record_body.specs.Framed.{framed_number, framed}

-- the bodies of the first open records, no more than this number of them
unfoldable pub open_bodies : ℕ → List ℕ → List (List ℕ)
open_bodies zero file = []
open_bodies (suc most) [] = []
open_bodies (suc most) (gate ∷ rest) =
    let n = framed_number (take 4 rest) in
    if (gate == 1) && nat_le (4 + n) (length rest) then take n (drop 4 rest) ∷ open_bodies most (drop (4 + n) rest) else []

-- the bodies of the open records from place 0 on: a gate 01, a length, and a body that is whole in the file
unfoldable pub records : List ℕ → List (List ℕ)
records file = open_bodies (length file) file

-- open records with these bodies
unfoldable pub gated : List (List ℕ) → List ℕ
gated [] = []
gated (body ∷ bodies) = 1 ∷ (text body ++ gated bodies)

-- each of these bodies has at most 2^32 - 1 bytes
abbrev pub AllBodiesFit : List (List ℕ) → Type 0
AllBodiesFit [] = Unit {0}
AllBodiesFit (body ∷ bodies) = (length body < 2 ^ 32) × AllBodiesFit bodies

-- the place behind these records
pub record IsEndOfRecords (end : ℕ) (bodies : List (List ℕ)) : Type 0 where
  pub fits : AllBodiesFit bodies
  pub place : end ≡ length (gated bodies)

-- these records up to this place, and there no open one
pub record EndsAt (end : ℕ) (bodies : List (List ℕ)) (file : List ℕ) : Type 0 where
  pub at : IsEndOfRecords end bodies
  pub tail : List ℕ
  pub none : records tail ≡ []
  pub is : file ≡ gated bodies ++ tail

-- these records up to this place, and there a gate that is not open
pub record IsShut (end : ℕ) (bodies : List (List ℕ)) (file : List ℕ) : Type 0 where
  pub at : IsEndOfRecords end bodies
  pub gate : ℕ
  pub rest : List ℕ
  pub closed : gate ≢ 1
  pub is : file ≡ gated bodies ++ gate ∷ rest

-- these records up to this place, there some gate, and behind it this body whole and a closed gate
pub record IsTried (end : ℕ) (bodies : List (List ℕ)) (body file : List ℕ) : Type 0 where
  pub at : IsEndOfRecords end bodies
  pub fits : length body < 2 ^ 32
  pub gate : ℕ
  pub rest : List ℕ
  pub is : file ≡ gated bodies ++ gate ∷ (framed body ++ rest)

-- at this place stands a gate that is not open
pub record HasShutGate (at : ℕ) (file : List ℕ) : Type 0 where
  pub gate : ℕ
  pub rest : List ℕ
  pub closed : gate ≢ 1
  pub is : drop at file ≡ gate ∷ rest

-- at this place stands an open gate, or the file has ended
abbrev pub HasNoShutGate : ℕ → List ℕ → Type 0
HasNoShutGate at file = (drop at file ≡ []) ⊎ ((rest : List ℕ) × (drop at file ≡ 1 ∷ rest))

-- the records are these, or these and one more
abbrev pub HasRecordsOrOneMore : List (List ℕ) → List ℕ → List ℕ → Type 0
HasRecordsOrOneMore bodies body file = (records file ≡ bodies) ⊎ (records file ≡ bodies ++ body ∷ [])

-- the records are these, or none
abbrev pub HasRecordsOrNone : List (List ℕ) → List ℕ → Type 0
HasRecordsOrNone bodies file = (records file ≡ bodies) ⊎ (records file ≡ [])
