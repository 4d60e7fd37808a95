-- Two tokens stand for each stripe: its share, which goes to whoever changes keys of the stripe, and its book, which stays with the store.
use Rattle.std.specs.Prelude.{◌≡◌, ℕ, suc, ◌+◌, ◌≤◌, ◌==◌, Bool, true, false, not, ◌&&◌, if◌then◌else◌, List, [], ◌∷◌, map}
use Rattle.token_views.specs.Views.{total}
use Rattle.key_locks.specs.declared.token.Token.{Token}

abbrev pub share_of : ℕ → ℕ → Token
share_of stripe count = record { is_book = false; stripe = stripe; count = count }

abbrev pub book_of : ℕ → ℕ → Token
book_of stripe count = record { is_book = true; stripe = stripe; count = count }

-- 1 for the book of this stripe, or else for its share; and 0 for any other token
abbrev pub one_of : Bool → ℕ → Token → ℕ
one_of true stripe t = if t.is_book && (t.stripe == stripe) then 1 else 0
one_of false stripe t = if not t.is_book && (t.stripe == stripe) then 1 else 0

-- how many books, or shares, of one stripe stand among these tokens
abbrev pub times : Bool → ℕ → List Token → ℕ
times book stripe tokens = total (one_of book stripe) tokens

-- the shares of the stripes from the k-th on, with these counts
abbrev pub shares_from : ℕ → List ℕ → List Token
shares_from k [] = []
shares_from k (n ∷ ns) = share_of k n ∷ shares_from (suc k) ns

abbrev pub books_from : ℕ → List ℕ → List Token
books_from k [] = []
books_from k (n ∷ ns) = book_of k n ∷ books_from (suc k) ns

-- every token has the count of its stripe
abbrev pub HaveCounts : (ℕ → ℕ) → List Token → Type 0
HaveCounts count [] = Unit {0}
HaveCounts count (t ∷ ts) = (t.count ≡ count t.stripe) × HaveCounts count ts

-- every token of the stripe has this count
abbrev pub HaveCount : ℕ → ℕ → List Token → Type 0
HaveCount stripe count [] = Unit {0}
HaveCount stripe count (t ∷ ts) = (t.stripe ≡ stripe → t.count ≡ count) × HaveCount stripe count ts

-- n, and one more at the stripe
abbrev pub one_more_at : ℕ → ℕ → ℕ → ℕ
one_more_at stripe at n = if at == stripe then n + 1 else n

abbrev pub raise : ℕ → Token → Token
raise stripe t = record { is_book = t.is_book; stripe = t.stripe; count = one_more_at stripe t.stripe t.count }

-- the tokens, with one more at each of the first one's stripe
abbrev pub tokens_raised : List Token → List Token
tokens_raised [] = []
tokens_raised (t ∷ ts) = raise t.stripe t ∷ map (raise t.stripe) ts

-- the other side of the first token's stripe stands among the others
abbrev pub HasPair : List Token → Type 0
HasPair [] = Unit {0}
HasPair (t ∷ ts) = 1 ≤ times (not t.is_book) t.stripe ts

-- the first token's count is that of each other one of its stripe, and its own side stands nowhere else
abbrev pub MeetsBook : List Token → Type 0
MeetsBook [] = Unit {0}
MeetsBook (t ∷ ts) = HaveCount t.stripe t.count ts × (times t.is_book t.stripe ts ≡ 0)
