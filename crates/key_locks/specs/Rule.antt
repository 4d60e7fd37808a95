-- The rule of the tally: each token stands once, and the tokens of a stripe have one count.
use Rattle.std.specs.Prelude.{◌≡◌, ℕ, ◌≤◌, Bool, List, [], ◌∷◌, ◌++◌, replicate}
use mathlib.Core.Option.{some}
use lib.ListN.{get_elem?}
use Rattle.atomic_table.specs.Table.{State, Step, Me}
use Rattle.key_locks.specs.declared.token.Token.{Token}
use Rattle.key_locks.specs.Tokens.{shares_from, books_from, times, HaveCounts, MeetsBook, tokens_raised}
use Rattle.token_views.specs.Views.{total}

-- how many books, or shares, of one stripe stand in all views
abbrev pub in_all : Bool → ℕ → List (List Token) → ℕ
in_all book stripe views = total (times book stripe) views

-- Each side of each stripe stands once at most, and all tokens of a stripe have one count
pub record IsTallied (words : List ℕ) (views : List (List Token)) : Type 0 where
  pub word : words ≡ 0 ∷ []
  pub once : (book : Bool) (stripe : ℕ) → in_all book stripe views ≤ 1
  pub count : ℕ → ℕ
  pub equal : (k : ℕ) (v : List Token) → get_elem? views k ≡ some v → HaveCounts count v

abbrev pub KeepsTally : State (Unit {0}) (List Token) → Type 0
KeepsTally s = IsTallied s.words s.views

-- all tokens, with count 0
abbrev pub all_tokens : List Token
all_tokens = shares_from 0 (replicate 16 0) ++ books_from 0 (replicate 16 0)

abbrev pub Compares : Step (Unit {0}) → Me (Unit {0}) (List Token) → ℕ → Me (Unit {0}) (List Token) → Type 0
Compares s v found w = (w ≡ v) × MeetsBook v.0

abbrev pub Raises : Step (Unit {0}) → Me (Unit {0}) (List Token) → ℕ → Me (Unit {0}) (List Token) → Type 0
Raises s v found w = (w ≡ (tokens_raised v.0, v.1)) × MeetsBook v.0
