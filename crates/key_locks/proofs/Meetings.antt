-- A share meets its book.
use Rattle.std.proofs.Common.{◌≡◌, ℕ, zero, suc, ◌+◌, ◌<◌, Bool, true, false, List, [], ◌∷◌, ◌++◌, length, map, set, get_or, drop, eq-eqb, refl, sym, ap, ◌∙◌, subst, arith}
use Rattle.atomic_table.specs.Table.{Me}
use Rattle.key_locks.specs.declared.token.Token.{Token}
use Rattle.key_locks.specs.Tokens.{one_of, share_of, shares_from, books_from, raise, tokens_raised, HasPair, MeetsBook}
use Rattle.token_views.specs.Views.{other_tokens}
use Rattle.key_locks.specs.Shares.{tokens_of}
use Rattle.key_locks.proofs.Lists.{book_has, book_there, share_there, books-raised}
use Rattle.token_views.specs.ViewsLaws.{total-append}

-- where the share meets its book, the shares were taken, and the counts are equal
pub meets_book : (taken : Bool) (counts : List ℕ) (s n : ℕ) → s < length counts → MeetsBook (share_of s n ∷ tokens_of taken counts) → (taken ≡ true) × (get_or counts s 0 ≡ n)
meets_book true counts s n lt h = (refl, book_has s 0 s n counts (omega arith) lt h.0)
meets_book false counts s n lt h = absurd (omega (arith, h.1, total-append (one_of false s) (shares_from 0 counts) (books_from 0 counts), share_there s 0 counts (omega arith) (omega arith)))

pub has_pair : (taken : Bool) (counts : List ℕ) (s n : ℕ) → s < length counts → HasPair (share_of s n ∷ tokens_of taken counts)
has_pair true counts s n lt = book_there s 0 counts (omega arith) (omega arith)
has_pair false counts s n lt = omega (arith, total-append (one_of true s) (shares_from 0 counts) (books_from 0 counts), book_there s 0 counts (omega arith) (omega arith))

pub raised_tokens : (taken : Bool) (counts : List ℕ) (s n : ℕ) → s < length counts → taken ≡ true → get_or counts s 0 ≡ n
    → tokens_raised (share_of s n ∷ tokens_of taken counts) ≡ share_of s (n + 1) ∷ tokens_of taken (set counts s (n + 1))
raised_tokens true counts s n lt t e =
    let q = eq-eqb s s refl in
    let row : map (raise s) (books_from 0 counts) ≡ books_from 0 (set counts s (n + 1)) = books-raised s 0 s counts (omega arith) lt ∙ ap (λ (m : ℕ). books_from 0 (set counts s (m + 1))) e in
    rw (q, row) refl
raised_tokens false counts s n lt t e = absurd (cc (t))

-- the first of the shares that are still there
pub next_share : (k s i : ℕ) (ns : List ℕ) → k + i ≡ s → i < length ns → shares_from s (drop i ns) ≡ share_of s (get_or ns i 0) ∷ shares_from (s + 1) (drop (i + 1) ns)
next_share k s i [] e lt = absurd (omega arith)
next_share k s zero (n ∷ ns) e lt = let q : suc s ≡ s + 1 = omega arith in ap (λ (j : ℕ). share_of s n ∷ shares_from j ns) q
next_share k s (suc i) (n ∷ ns) e lt = let q : suc i + 1 ≡ suc (i + 1) = omega arith in rw q (next_share (suc k) s i ns (omega arith) (omega arith))

-- a seat once it has taken the share in
pub joined : (m x y : Me (Unit {0}) (List Token)) (s n : ℕ) (ts : List Token) → m ≡ (x.0 ++ y.0, y.1) → x ≡ (share_of s n ∷ [], []) → y ≡ (ts, []) → m ≡ (share_of s n ∷ ts, [])
joined m x y s n ts e ex ey = e ∙ (λ i. ((ex i).0 ++ (ey i).0, (ey i).1))

pub met_book : (m : Me (Unit {0}) (List Token)) (taken : Bool) (counts : List ℕ) (s n : ℕ) → m ≡ (share_of s n ∷ tokens_of taken counts, []) → s < length counts → MeetsBook m.0 → (taken ≡ true) × (get_or counts s 0 ≡ n)
met_book m taken counts s n e lt h = meets_book taken counts s n lt (subst (λ (u : Me (Unit {0}) (List Token)). MeetsBook u.0) e h)

pub pair_of : (m : Me (Unit {0}) (List Token)) (taken : Bool) (counts : List ℕ) (s n : ℕ) → m ≡ (share_of s n ∷ tokens_of taken counts, []) → s < length counts → HasPair m.0
pair_of m taken counts s n e lt = subst (λ (u : Me (Unit {0}) (List Token)). HasPair u.0) (sym e) (has_pair taken counts s n lt)

pub equal_counts : (s n stripe count : ℕ) (xs ys : List ℕ) → s ≡ stripe → n ≡ count → xs ≡ ys → s < 16 → get_or xs s 0 ≡ n → (stripe < 16) × (count ≡ get_or ys stripe 0)
equal_counts s n stripe count xs ys is same e lt h = (omega arith, sym same ∙ (sym h ∙ (λ i. get_or (e i) (is i) 0)))

-- the store's seat once both are raised and the share is split off
pub raised_seat : (a b d : Me (Unit {0}) (List Token)) (taken : Bool) (counts : List ℕ) (s n i : ℕ) → a ≡ (share_of s n ∷ tokens_of taken counts, []) → b ≡ (tokens_raised a.0, a.1) → d ≡ (other_tokens b.0, b.1) → i ≡ s → s < length counts → taken ≡ true → get_or counts s 0 ≡ n
    → d ≡ (tokens_of taken (set counts i (n + 1)), [])
raised_seat a b d taken counts s n i ea eb ed is lt t h =
    ed ∙ ((λ k. (other_tokens (eb k).0, (eb k).1)) ∙ ((λ k. (other_tokens (tokens_raised (ea k).0), (ea k).1)) ∙ ((λ k. (other_tokens (raised_tokens taken counts s n lt t h k), [])) ∙ (λ k. (tokens_of taken (set counts (sym is k) (n + 1)), [])))))

-- the store's seat once one share more is split off
pub next_seat : (a b : Me (Unit {0}) (List Token)) (k : ℕ) (ns : List ℕ) (bs : List Token) → a ≡ (shares_from k (drop k ns) ++ bs, []) → b ≡ (other_tokens a.0, a.1) → k < length ns → b ≡ (shares_from (k + 1) (drop (k + 1) ns) ++ bs, [])
next_seat a b k ns bs ea eb lt =
    let row = next_share 0 k k ns (omega arith) lt in
    eb ∙ ((λ i. (other_tokens (ea i).0, (ea i).1)) ∙ (λ i. (other_tokens (row i ++ bs), [])))
