-- Shares, the tally and sets of shares, as contracts see them.
use Rattle.std.specs.Prelude.{◌≡◌, ℕ, zero, suc, Bool, true, false, List, [], ◌∷◌, ◌++◌, Option, Some, None, if◌then◌else◌}
use Rattle.atomic_table.specs.Seated.{TableId}
use Rattle.key_locks.specs.declared.token.Token.{Token}
use Rattle.key_locks.specs.Tokens.{shares_from, books_from}

-- a share: its tally, its stripe and its count
pub record ShareOf : Type 0 where
  pub table : TableId
  pub stripe : ℕ
  pub count : ℕ

-- a tally: its name, the counts of its books, and whether its shares were taken
pub record TallyOf : Type 0 where
  pub table : TableId
  pub counts : List ℕ
  pub taken : Bool

-- a set of shares: its tally's name, and what stands at each stripe
pub record SharesOf : Type 0 where
  pub table : TableId
  pub shares : List (Option ShareOf)

-- the shares of a tally's stripes from the k-th on, with these counts
abbrev pub own_from : TableId → ℕ → List ℕ → List (Option ShareOf)
own_from table k [] = []
own_from table k (n ∷ ns) = Some (record { table = table; stripe = k; count = n }) ∷ own_from table (suc k) ns

-- each share that is there is the tally's, and of its place's stripe
abbrev pub AreOwn : TableId → ℕ → List (Option ShareOf) → Type 0
AreOwn table k [] = Unit {0}
AreOwn table k (None ∷ xs) = AreOwn table (suc k) xs
AreOwn table k (Some s ∷ xs) = (s.table ≡ table) × (s.stripe ≡ k) × AreOwn table (suc k) xs

-- none is lent out
abbrev pub all_here : List (Option ShareOf) → Bool
all_here [] = true
all_here (None ∷ xs) = false
all_here (Some s ∷ xs) = all_here xs

-- what the store's seat holds: the books, and until they are taken the shares
abbrev pub tokens_of : Bool → List ℕ → List Token
tokens_of true counts = books_from 0 counts
tokens_of false counts = shares_from 0 counts ++ books_from 0 counts

-- what a set has of a stripe: nothing, as it is none of its stripes; the share with its count; or nothing while it is lent out
pub data Spot : Type 0 where
  Elsewhere : Spot
  LentOut : Spot
  InHand : ℕ → Spot

abbrev pub is_held : Spot → Bool
is_held Elsewhere = false
is_held LentOut = false
is_held (InHand n) = true

abbrev pub spot_of : Option ShareOf → Spot
spot_of None = LentOut
spot_of (Some s) = InHand s.count

abbrev pub spot_at : List (Option ShareOf) → ℕ → Spot
spot_at [] k = Elsewhere
spot_at (x ∷ xs) zero = spot_of x
spot_at (x ∷ xs) (suc k) = spot_at xs k

-- the spot, where the stripe is one of these
abbrev pub spot_if : Bool → Spot → Spot
spot_if true s = s
spot_if false s = Elsewhere

-- what lies at the stripes that are none of these
abbrev pub outside_of : (ℕ → Bool) → ℕ → List (Option ShareOf) → List (Option ShareOf)
outside_of has k [] = []
outside_of has k (x ∷ xs) = (if has k then None else x) ∷ outside_of has (suc k) xs
