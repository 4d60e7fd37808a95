-- Each kind of step keeps the rule.
use Rattle.std.proofs.Common.{◌≡◌, ◌≢◌, ℕ, zero, suc, ◌≤◌, Bool, true, false, not, List, [], ◌∷◌, ◌++◌, set, refl, sym, ◌∙◌, subst, arith}
use Rattle.std.specs.Prelude.{replicate}
use mathlib.Core.Option.{some, some-injective, some-ne-none}
use lib.ListN.{get_elem?}
use Rattle.atomic_table.specs.Table.{State, Me, keeps, Allows, Splits, Joins}
use Rattle.atomic_table.proofs.Lists.{set_else}
use Rattle.key_locks.specs.declared.token.Token.{Token}
use Rattle.key_locks.specs.Tokens.{one_of, times, shares_from, books_from, HaveCounts, one_more_at, tokens_raised, HasPair, MeetsBook}
use Rattle.token_views.specs.Views.{first_token, other_tokens}
use Rattle.key_locks.specs.Rule.{in_all, IsTallied, KeepsTally, all_tokens}
use Rattle.key_locks.proofs.Lists.{have-append, have-first, have-others, have_count, is_one, times-raised_first, have-raised_first, have-apart, no_books, no_shares, shares_once, books_once, zero_shares, zero_books}
use Rattle.token_views.specs.ViewsLaws.{total-append, total-set, total-at, total-two, total-cut, each_set, each_snoc, same_word}

once_all : (b : Bool) (s : ℕ) → times b s all_tokens ≤ 1
once_all true s = let ns : List ℕ = replicate 16 0 in omega (arith, total-append (one_of true s) (shares_from 0 ns) (books_from 0 ns), no_books s 0 ns, books_once s 0 ns)
once_all false s = let ns : List ℕ = replicate 16 0 in omega (arith, total-append (one_of false s) (shares_from 0 ns) (books_from 0 ns), no_shares s 0 ns, shares_once s 0 ns)

pub opens : IsTallied (0 ∷ []) (all_tokens ∷ [])
opens = record {
  word = refl;
  once = λ b s. let o = once_all b s in omega arith;
  count = λ _. 0;
  equal = one;
}
  where
    one : (k : ℕ) (v : List Token) → get_elem? (all_tokens ∷ []) k ≡ some v → HaveCounts (λ _. 0) v
    one zero v e = subst (HaveCounts (λ _. 0)) (some-injective _ _ e) (have-append (λ _. 0) (shares_from 0 (replicate 16 0)) (books_from 0 (replicate 16 0)) (zero_shares 0 16) (zero_books 0 16))
    one (suc k) v e = absurd (some-ne-none v (sym e))

pub splits : (id : ℕ) (v : List Token) → Splits KeepsTally id v (other_tokens v) (first_token v)
splits id v s h at = record {
  word = h.word;
  once = λ b t. omega (arith, total-append (times b t) (set s.views id (other_tokens v)) (first_token v ∷ []), total-set (times b t) s.views id v (other_tokens v) at, total-cut (one_of b t) v, h.once b t);
  count = h.count;
  equal = each_snoc (HaveCounts h.count) s.views id (other_tokens v) (first_token v) (λ j x ne d. h.equal j x d) (have-others h.count v (h.equal id v at)) (have-first h.count v (h.equal id v at));
}

pub joins : (id : ℕ) (v : List Token) (other : ℕ) (w : List Token) → Joins KeepsTally id v other w (w ++ v) []
joins id v other w s h at apart there =
    let theirs : get_elem? s.views other ≡ some w = sym (set_else s.views id other (w ++ v) apart) ∙ there in
    let both = have-append h.count w v (h.equal other w theirs) (h.equal id v at) in record {
      word = h.word;
      once = λ b t. omega (arith, total-set (times b t) (set s.views id (w ++ v)) other w [] there, total-set (times b t) s.views id v (w ++ v) at, total-append (one_of b t) w v, h.once b t);
      count = h.count;
      equal = each_set (HaveCounts h.count) (set s.views id (w ++ v)) other [] (λ j x ne d. each_set (HaveCounts h.count) s.views id (w ++ v) (λ i y ne' d'. h.equal i y d') both j x d) tt;
    }

meets : (id : ℕ) (v : List Token) (s : State (Unit {0}) (List Token)) → KeepsTally s → get_elem? s.views id ≡ some v → MeetsBook v
meets id [] s h at = tt
meets id (x ∷ xs) s h at =
    let mine = h.equal id (x ∷ xs) at in (
      have_count h.count x xs mine.0 mine.1,
      omega (arith, is_one x.is_book x refl, total-at (times x.is_book x.stripe) s.views id (x ∷ xs) at, h.once x.is_book x.stripe),
    )

pub compares : (slots id : ℕ) (v : Me (Unit {0}) (List Token)) → Allows KeepsTally slots id v 0 (λ n. n) (λ n w. (w ≡ v) × MeetsBook v.0)
compares slots id v s h homes at fits = (
  v.0,
  keeps,
  tt,
  record {
    word = same_word s.words 0 h.word;
    once = λ b t. omega (arith, total-set (times b t) s.views id v.0 v.0 at, h.once b t);
    count = h.count;
    equal = each_set (HaveCounts h.count) s.views id v.0 (λ j x ne d. h.equal j x d) (h.equal id v.0 at);
  },
  (refl, meets id v.0 s h at),
)

-- both sides of the first token's stripe stand in this view, and so in no other
pair_apart : (b : Bool) (t : Token) (ts : List Token) → t.is_book ≡ b → 1 ≤ times (not b) t.stripe ts → (views : List (List Token)) → ((book : Bool) (stripe : ℕ) → in_all book stripe views ≤ 1)
    → (id : ℕ) → get_elem? views id ≡ some (t ∷ ts) → (k : ℕ) (u : List Token) → k ≢ id → get_elem? views k ≡ some u → (times true t.stripe u ≡ 0) × (times false t.stripe u ≡ 0)
pair_apart true t ts is pair views once id at k u ne e =
    let s = t.stripe in (
      omega (arith, is_one true t is, total-two (times true s) views k id u (t ∷ ts) ne e at, once true s),
      omega (arith, pair, total-two (times false s) views k id u (t ∷ ts) ne e at, once false s),
    )
pair_apart false t ts is pair views once id at k u ne e =
    let s = t.stripe in (
      omega (arith, pair, total-two (times true s) views k id u (t ∷ ts) ne e at, once true s),
      omega (arith, is_one false t is, total-two (times false s) views k id u (t ∷ ts) ne e at, once false s),
    )

pub raises : (slots id : ℕ) (v : List Token) (c : List (ℕ × Unit {0})) → HasPair v → Allows KeepsTally slots id (v, c) 0 (λ n. n) (λ n w. (w ≡ (tokens_raised v, c)) × MeetsBook v)
raises slots id [] c pair s h homes at fits = (
  [],
  keeps,
  tt,
  record {
    word = same_word s.words 0 h.word;
    once = λ b t. omega (arith, total-set (times b t) s.views id [] [] at, h.once b t);
    count = h.count;
    equal = each_set (HaveCounts h.count) s.views id [] (λ j x ne d. h.equal j x d) tt;
  },
  (refl, tt),
)
raises slots id (t ∷ ts) c pair s h homes at fits =
    let k = t.stripe in (
      tokens_raised (t ∷ ts),
      keeps,
      tt,
      record {
        word = same_word s.words 0 h.word;
        once = λ b x. omega (arith, total-set (times b x) s.views id (t ∷ ts) (tokens_raised (t ∷ ts)) at, times-raised_first b x (t ∷ ts), h.once b x);
        count = λ x. one_more_at k x (h.count x);
        equal = each_set (HaveCounts (λ x. one_more_at k x (h.count x))) s.views id (tokens_raised (t ∷ ts))
            (λ j u ne d. let z = pair_apart t.is_book t ts refl pair s.views h.once id at j u ne d in have-apart h.count k u z.0 z.1 (h.equal j u d))
            (have-raised_first h.count t ts (h.equal id (t ∷ ts) at));
      },
      (refl, meets id (t ∷ ts) s h at),
    )
