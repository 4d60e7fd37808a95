-- Sums over lists, and tokens among tokens.
use Rattle.std.proofs.Common.{◌≡◌, ◌≢◌, ℕ, zero, suc, ◌+◌, ◌≤◌, ◌<◌, Bool, true, false, not, ◌&&◌, cond, eqb, ne_eqb, eq-eqb, List, [], ◌∷◌, ◌++◌, length, map, set, get_or, refl, sym, ap, ◌∙◌, arith}
use Rattle.std.proofs.lemmas.Bool.{eqb-true}
use Rattle.std.specs.Prelude.{replicate}
use Rattle.key_locks.specs.declared.token.Token.{Token}
use Rattle.key_locks.specs.Tokens.{one_of, times, shares_from, books_from, HaveCounts, HaveCount, one_more_at, raise, tokens_raised}
use Rattle.token_views.specs.Views.{first_token, other_tokens}

pub have-append : (count : ℕ → ℕ) (xs ys : List Token) → HaveCounts count xs → HaveCounts count ys → HaveCounts count (xs ++ ys)
have-append count [] ys h g = g
have-append count (x ∷ xs) ys h g = (h.0, have-append count xs ys h.1 g)

pub have-first : (count : ℕ → ℕ) (v : List Token) → HaveCounts count v → HaveCounts count (first_token v)
have-first count [] h = tt
have-first count (x ∷ xs) h = (h.0, tt)

pub have-others : (count : ℕ → ℕ) (v : List Token) → HaveCounts count v → HaveCounts count (other_tokens v)
have-others count [] h = tt
have-others count (x ∷ xs) h = h.1

pub have_count : (count : ℕ → ℕ) (x : Token) (xs : List Token) → x.count ≡ count x.stripe → HaveCounts count xs → HaveCount x.stripe x.count xs
have_count count x [] e h = tt
have_count count x (t ∷ ts) e h = ((λ same. h.0 ∙ (ap count same ∙ sym e)), have_count count x ts e h.1)

-- a token is of its own side and stripe
pub is_one : (b : Bool) (t : Token) → t.is_book ≡ b → one_of b t.stripe t ≡ 1
is_one true t e = rw (e, eq-eqb t.stripe t.stripe refl) refl
is_one false t e = rw (e, eq-eqb t.stripe t.stripe refl) refl

-- no side's token is of the stripe
neither : (b q : Bool) → cond {A = ℕ} (b && q) 1 0 ≡ 0 → cond {A = ℕ} (not b && q) 1 0 ≡ 0 → q ≡ false
neither true true d e = absurd (omega arith)
neither true false d e = refl
neither false true d e = absurd (omega arith)
neither false false d e = refl

-- a raise changes no side and no stripe
pub times-raised : (b : Bool) (s k : ℕ) (ts : List Token) → times b s (map (raise k) ts) ≡ times b s ts
times-raised true s k [] = refl
times-raised true s k (t ∷ ts) = omega (arith, times-raised true s k ts)
times-raised false s k [] = refl
times-raised false s k (t ∷ ts) = omega (arith, times-raised false s k ts)

pub times-raised_first : (b : Bool) (s : ℕ) (ts : List Token) → times b s (tokens_raised ts) ≡ times b s ts
times-raised_first true s [] = refl
times-raised_first true s (t ∷ ts) = omega (arith, times-raised true s t.stripe ts)
times-raised_first false s [] = refl
times-raised_first false s (t ∷ ts) = omega (arith, times-raised false s t.stripe ts)

pub have-raised : (count : ℕ → ℕ) (s : ℕ) (ts : List Token) → HaveCounts count ts → HaveCounts (λ t. one_more_at s t (count t)) (map (raise s) ts)
have-raised count s [] h = tt
have-raised count s (t ∷ ts) h = (ap (one_more_at s t.stripe) h.0, have-raised count s ts h.1)

pub have-raised_first : (count : ℕ → ℕ) (t : Token) (ts : List Token) → HaveCounts count (t ∷ ts) → HaveCounts (λ k. one_more_at t.stripe k (count k)) (tokens_raised (t ∷ ts))
have-raised_first count t ts h = (ap (one_more_at t.stripe t.stripe) h.0, have-raised count t.stripe ts h.1)

-- tokens of other stripes are as they were
pub have-apart : (count : ℕ → ℕ) (s : ℕ) (ts : List Token) → times true s ts ≡ 0 → times false s ts ≡ 0 → HaveCounts count ts → HaveCounts (λ k. one_more_at s k (count k)) ts
have-apart count s [] d e h = tt
have-apart count s (t ∷ ts) d e h =
    let q : eqb t.stripe s ≡ false = neither t.is_book (eqb t.stripe s) (omega arith) (omega arith) in
    (rw q h.0, have-apart count s ts (omega arith) (omega arith) h.1)

-- which tokens the rows of shares and books have
pub no_books : (s k : ℕ) (ns : List ℕ) → times true s (shares_from k ns) ≡ 0
no_books s k [] = refl
no_books s k (n ∷ ns) = omega (arith, no_books s (suc k) ns)

pub no_shares : (s k : ℕ) (ns : List ℕ) → times false s (books_from k ns) ≡ 0
no_shares s k [] = refl
no_shares s k (n ∷ ns) = omega (arith, no_shares s (suc k) ns)

shares_below : (s k : ℕ) (ns : List ℕ) → s < k → times false s (shares_from k ns) ≡ 0
shares_below s k [] lt = refl
shares_below s k (n ∷ ns) lt = let q = ne_eqb k s (λ e. omega arith) in let r = shares_below s (suc k) ns (omega arith) in rw q (omega arith)

books_below : (s k : ℕ) (ns : List ℕ) → s < k → times true s (books_from k ns) ≡ 0
books_below s k [] lt = refl
books_below s k (n ∷ ns) lt = let q = ne_eqb k s (λ e. omega arith) in let r = books_below s (suc k) ns (omega arith) in rw q (omega arith)

-- one more where the number is the stripe, and no more below
at_most : (s k n : ℕ) (q : Bool) → eqb k s ≡ q → (k ≡ s → n ≡ 0) → n ≤ 1 → cond q 1 0 + n ≤ 1
at_most s k n true is none le = let z = none (eqb-true k s is) in omega arith
at_most s k n false is none le = omega arith

pub shares_once : (s k : ℕ) (ns : List ℕ) → times false s (shares_from k ns) ≤ 1
shares_once s k [] = omega arith
shares_once s k (n ∷ ns) = at_most s k (times false s (shares_from (suc k) ns)) (eqb k s) refl (λ e. shares_below s (suc k) ns (omega arith)) (shares_once s (suc k) ns)

pub books_once : (s k : ℕ) (ns : List ℕ) → times true s (books_from k ns) ≤ 1
books_once s k [] = omega arith
books_once s k (n ∷ ns) = at_most s k (times true s (books_from (suc k) ns)) (eqb k s) refl (λ e. books_below s (suc k) ns (omega arith)) (books_once s (suc k) ns)

pub zero_shares : (k n : ℕ) → HaveCounts (λ _. 0) (shares_from k (replicate n 0))
zero_shares k zero = tt
zero_shares k (suc n) = (refl, zero_shares (suc k) n)

pub zero_books : (k n : ℕ) → HaveCounts (λ _. 0) (books_from k (replicate n 0))
zero_books k zero = tt
zero_books k (suc n) = (refl, zero_books (suc k) n)

at_least : (s k n : ℕ) (q : Bool) → eqb k s ≡ q → (k ≢ s → 1 ≤ n) → 1 ≤ cond q 1 0 + n
at_least s k n true is more = omega arith
at_least s k n false is more = let m = more (λ e. cc (is, eq-eqb k s e)) in omega arith

pub book_there : (s k : ℕ) (ns : List ℕ) → k ≤ s → s < k + length ns → 1 ≤ times true s (books_from k ns)
book_there s k [] ge lt = absurd (omega arith)
book_there s k (n ∷ ns) ge lt = at_least s k (times true s (books_from (suc k) ns)) (eqb k s) refl (λ ne. book_there s (suc k) ns (omega arith) (omega arith))

pub share_there : (s k : ℕ) (ns : List ℕ) → k ≤ s → s < k + length ns → 1 ≤ times false s (shares_from k ns)
share_there s k [] ge lt = absurd (omega arith)
share_there s k (n ∷ ns) ge lt = at_least s k (times false s (shares_from (suc k) ns)) (eqb k s) refl (λ ne. share_there s (suc k) ns (omega arith) (omega arith))

-- the count of a stripe's book is the one that all tokens of the stripe have
pub book_has : (s k i n : ℕ) (ns : List ℕ) → k + i ≡ s → i < length ns → HaveCount s n (books_from k ns) → get_or ns i 0 ≡ n
book_has s k i n [] e lt h = absurd (omega arith)
book_has s k zero n (m ∷ ns) e lt h = h.0 (omega arith)
book_has s k (suc i) n (m ∷ ns) e lt h = book_has s (suc k) i n ns (omega arith) (omega arith) h.1

-- a raise at one stripe, in the row of books
pub books-raised_past : (s k : ℕ) (ns : List ℕ) → s < k → map (raise s) (books_from k ns) ≡ books_from k ns
books-raised_past s k [] lt = refl
books-raised_past s k (n ∷ ns) lt = let q = ne_eqb k s (λ e. omega arith) in rw (q, books-raised_past s (suc k) ns (omega arith)) refl

pub books-raised : (s k i : ℕ) (ns : List ℕ) → k + i ≡ s → i < length ns → map (raise s) (books_from k ns) ≡ books_from k (set ns i (get_or ns i 0 + 1))
books-raised s k i [] e lt = absurd (omega arith)
books-raised s k zero (n ∷ ns) e lt =
    let q = eq-eqb k s (omega arith) in
    rw (q, books-raised_past s (suc k) ns (omega arith)) refl
books-raised s k (suc i) (n ∷ ns) e lt =
    let q = ne_eqb k s (λ d. omega arith) in
    rw (q, books-raised s (suc k) i ns (omega arith) (omega arith)) refl
