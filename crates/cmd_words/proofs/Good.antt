-- What the rows of the table read is within the limits.
use Rattle.std.proofs.Common.{◌≡◌, refl, ℕ, suc, ◌<◌, ◌≤◌, ◌+◌, ◌*◌, ◌%◌, Bool, true, false, if◌then◌else◌, List, [], ◌∷◌, length, Option, Some, None, Result, Ok, Err, ap, sym, ◌∙◌, subst, arith}
use Rattle.std.specs.Prelude.{All, IfSome, ℤ, pos, ◌≤ℤ◌, ◌==◌, is_none}
use Rattle.std.specs.Option.{unwrap_or}
use Rattle.std.proofs.lemmas.Bool.Decides.{nat_tests}
use Rattle.std.proofs.lemmas.List.Elements.{All-cons, All-tail, All-nil, All-weaker}
use Rattle.kv_base.specs.Map.{Bytes}
use Rattle.redis_model.specs.About.{keys_of, weight}
use Rattle.redis_model.specs.Limits.{IsName, IsShort, HasFields, repeated, IsWithin, max_words, max_weight}
use Rattle.redis_model.specs.declared.command.Command.{Command}
use Rattle.cmd_words.specs.Places.{Place, K, F, N, Count, Said, said, too_long, is_long}
use Rattle.cmd_words.specs.Reading.{Placed, ◌>>=◌, judged, judged_as, all_at, firsts, seconds, no_pairs, in_pairs, some, one_and_some, three_and_any, said1, said2, said3, said4, said_more, said_k_more, said_pairs, said_k_pairs, said_maybe, said_k_maybe}
use Rattle.cmd_words.specs.Options.{said_range, flag}
use Rattle.cmd_words.specs.Table.{of1, of2, of3, of4, more, k_more, read_pairs, k_pairs, maybe, k_maybe, ranged}
use Rattle.cmd_words.specs.declared.fault.FaultKind.{FaultKind}
use Rattle.cmd_words.specs.declared.fault.FaultKind.TheVariants as wrong
use Rattle.cmd_words.proofs.Fitting.{Fits, Passed, name_fits}
use Rattle.cmd_words.proofs.Right.{judged_right, first_passed, others_passed, list_passed, steps, some_right, one_and_some_right, length-firsts-seconds, length-seconds, All-seconds, said1_fits, said2_fits, said3_fits, said4_fits}

-- ---- a command that was read from n words behind its name, which weigh w with it

pub record Good (n w : ℕ) (c : Command) : Type 0 where
  pub names : All IsName (keys_of c)
  pub fields : HasFields c
  pub few : repeated c ≤ n
  pub weighs : weight c ≡ w

pub within : (n w : ℕ) (c : Command) → Good n w c → n ≤ max_words → w ≤ max_weight → 16 * n ≤ w → IsWithin c × (weight c ≡ w)
within n w c g few light weighed =
    let lists = g.few in
    let weighs = g.weighs in (
      record {
        names = g.names;
        fields = g.fields;
        few = omega arith;
        light = omega arith;
        weighed = omega arith;
      },
      g.weighs,
    )

-- one key, and no word that may be repeated
pub plain_good : (n w : ℕ) (c : Command) (k : Bytes) → keys_of c ≡ k ∷ [] → IsName k → HasFields c → repeated c ≡ 0 → weight c ≡ w → Good n w c
plain_good n w c k e name fields none weighs = record {
  names = subst (All IsName) (sym e) (All-cons IsName k [] name (All-nil IsName));
  fields = fields;
  few = omega arith;
  weighs = weighs;
}

-- and words that may be
pub list_good : (n w : ℕ) (c : Command) (k : Bytes) → keys_of c ≡ k ∷ [] → IsName k → HasFields c → repeated c ≤ n → weight c ≡ w → Good n w c
list_good n w c k e name fields few weighs = record {
  names = subst (All IsName) (sym e) (All-cons IsName k [] name (All-nil IsName));
  fields = fields;
  few = few;
  weighs = weighs;
}

pub pair_good : (n w : ℕ) (c : Command) (k l : Bytes) → keys_of c ≡ k ∷ l ∷ [] → IsName k → IsName l → HasFields c → repeated c ≡ 0 → weight c ≡ w → Good n w c
pair_good n w c k l e name other fields none weighs = record {
  names = subst (All IsName) (sym e) (All-cons IsName k (l ∷ []) name (All-cons IsName l [] other (All-nil IsName)));
  fields = fields;
  few = omega arith;
  weighs = weighs;
}

pub none_good : (n w : ℕ) (c : Command) → keys_of c ≡ [] → HasFields c → repeated c ≡ 0 → weight c ≡ w → Good n w c
none_good n w c e fields none weighs = record {
  names = subst (All IsName) (sym e) (All-nil IsName);
  fields = fields;
  few = omega arith;
  weighs = weighs;
}

-- words that are no longer than a name
abbrev pub IsNamed : Place → Type 0
IsNamed p = (w : Bytes) → too_long p w ≡ is_long w

pub names_from : (p : Place) → IsNamed p → (ws : List Bytes) → All (Passed p) ws → All IsName ws
names_from p e ws h = All-weaker (Passed p) IsName (λ w q. name_fits w (sym (e w) ∙ q.name)) ws h

-- ---- the patterns

module _ (n w : ℕ) where
  pub of1_good : (p : Place) (make : Said p → ℕ → Command) → ((x : Said p) → Fits p x → Good n w (make x w)) → (ws : List Bytes) (c : Command) → All IsShort ws → of1 p make w ws ≡ Ok c → Good n w c
  of1_good p make good ws c short h =
      let s = steps (said1 p ws) (λ x. Ok (make x w)) c h in
      let e : make s.middle w ≡ c = cc in
      subst (Good n w) e (good s.middle (said1_fits p ws s.middle short s.first))

  pub of2_good : (p q : Place) (make : Said p → Said q → ℕ → Command) → ((x : Said p) (y : Said q) → Fits p x → Fits q y → Good n w (make x y w)) → (ws : List Bytes) (c : Command) → All IsShort ws → of2 p q make w ws ≡ Ok c → Good n w c
  of2_good p q make good ws c short h =
      let s = steps (said2 p q ws) (λ x. Ok (make x.0 x.1 w)) c h in
      let e : make s.middle.0 s.middle.1 w ≡ c = cc in
      let f = said2_fits p q ws s.middle short s.first in
      subst (Good n w) e (good s.middle.0 s.middle.1 f.0 f.1)

  pub of3_good : (p q r : Place) (make : Said p → Said q → Said r → ℕ → Command) → ((x : Said p) (y : Said q) (z : Said r) → Fits p x → Fits q y → Fits r z → Good n w (make x y z w)) → (ws : List Bytes) (c : Command) → All IsShort ws → of3 p q r make w ws ≡ Ok c → Good n w c
  of3_good p q r make good ws c short h =
      let s = steps (said3 p q r ws) (λ x. Ok (make x.0 x.1 x.2 w)) c h in
      let e : make s.middle.0 s.middle.1 s.middle.2 w ≡ c = cc in
      let f = said3_fits p q r ws s.middle short s.first in
      subst (Good n w) e (good s.middle.0 s.middle.1 s.middle.2 f.0 f.1 f.2)

  pub of4_good : (p q r t : Place) (make : Said p → Said q → Said r → Said t → ℕ → Command) → ((x : Said p) (y : Said q) (z : Said r) (v : Said t) → Fits p x → Fits q y → Good n w (make x y z v w)) → (ws : List Bytes) (c : Command) → All IsShort ws → of4 p q r t make w ws ≡ Ok c → Good n w c
  of4_good p q r t make good ws c short h =
      let s = steps (said4 p q r t ws) (λ x. Ok (make x.0 x.1 x.2 x.3 w)) c h in
      let e : make s.middle.0 s.middle.1 s.middle.2 s.middle.3 w ≡ c = cc in
      let f = said4_fits p q r t ws s.middle short s.first in
      subst (Good n w) e (good s.middle.0 s.middle.1 s.middle.2 s.middle.3 f.0 f.1)

  pub more_good : (make : List Bytes → ℕ → Command) → ((xs : List Bytes) → 0 < length xs → All IsName xs → length xs ≤ n → Good n w (make xs w)) → (ws : List Bytes) (c : Command) → length ws ≤ n → more K make w ws ≡ Ok c → Good n w c
  unfolding said_more
  more_good make good ws c few h =
      let s = steps (said_more K ws) (λ x. Ok (make x w)) c h in
      let e : make s.middle w ≡ c = cc in
      let t = steps (some ws) (λ xs. judged (all_at K xs) xs) s.middle s.first in
      let r = some_right ws t.middle t.first in
      let j = judged_right false (all_at K t.middle) t.middle s.middle t.next in
      let same : ws ≡ s.middle = r.0 ∙ sym j.value in
      let named = names_from K (λ _. refl) t.middle (list_passed K t.middle j.passed) in
      subst (Good n w) e (good s.middle (subst (λ (l : List Bytes). 0 < length l) (sym j.value) r.1) (subst (All IsName) (sym j.value) named) (subst (λ (l : List Bytes). length l ≤ n) same few))

  pub k_more_good : (p : Place) (make : Bytes → List Bytes → ℕ → Command) → ((k : Bytes) (xs : List Bytes) → IsName k → 0 < length xs → All IsShort xs → All (Passed p) xs → length xs ≤ n → Good n w (make k xs w)) → (ws : List Bytes) (c : Command) → All IsShort ws → length ws ≤ n → k_more p make w ws ≡ Ok c → Good n w c
  unfolding said_k_more
  k_more_good p make good ws c short few h =
      let s = steps (said_k_more p ws) (λ x. Ok (make x.0 x.1 w)) c h in
      let e : make s.middle.0 s.middle.1 w ≡ c = cc in
      let t = steps (one_and_some ws) (λ x. judged ((K, x.0) ∷ all_at p x.1) x) s.middle s.first in
      let x = t.middle in
      let r = one_and_some_right ws x t.first in
      let j = judged_right false ((K, x.0) ∷ all_at p x.1) x s.middle t.next in
      let short_ = subst (All IsShort) r.0 short in
      let long : length ws ≡ suc (length x.1) = ap length r.0 in
      let key = name_fits x.0 (first_passed K x.0 (all_at p x.1) j.passed).name in
      let passed = list_passed p x.1 (others_passed K x.0 (all_at p x.1) j.passed) in
      let g : Good n w (make x.0 x.1 w) = good x.0 x.1 key r.1 (All-tail IsShort x.0 x.1 short_) passed (omega arith) in
      let f : make x.0 x.1 w ≡ c = sym (ap (λ (y : Bytes × List Bytes). make y.0 y.1 w) j.value) ∙ e in
      subst (Good n w) f g

  -- whole pairs
  pub record ArePairs (ws : List Bytes) (xs ys : List Bytes) : Type 0 where
    pub some : 0 < length xs
    pub even : length ys ≡ length xs
    pub all : length xs + length ys ≡ length ws
    pub short : All IsShort ys

  pub pairs_right : (ws : List Bytes) → All IsShort ws → no_pairs ws ≡ false → ArePairs ws (firsts ws) (seconds ws)
  pairs_right ws short h =
      let full : 0 < length ws = grind (arith, nat_tests) in
      let even : length ws % 2 ≡ 0 = grind (arith, nat_tests) in
      let whole = length-firsts-seconds ws in
      let same = length-seconds ws even in
      record { some = omega arith; even = same; all = whole; short = All-seconds IsShort ws short }

  taken : (b : Bool) (x y : List Bytes × List Bytes) → (if b then Err wrong.Arity else Ok x) ≡ Ok y → (b ≡ false) × (x ≡ y)
  taken true x y h = cc
  taken false x y h = (refl, cc)

  pub pairs_good : (make : List Bytes → List Bytes → ℕ → Command) → ((xs ys : List Bytes) → 0 < length xs → length ys ≡ length xs → All IsName xs → All IsShort ys → length xs + length ys ≤ n → Good n w (make xs ys w)) → (ws : List Bytes) (c : Command) → All IsShort ws → length ws ≤ n → read_pairs K make w ws ≡ Ok c → Good n w c
  unfolding said_pairs in_pairs
  pairs_good make good ws c short few h =
      let s = steps (said_pairs K ws) (λ x. Ok (make x.0 x.1 w)) c h in
      let e : make s.middle.0 s.middle.1 w ≡ c = cc in
      let t = steps (in_pairs ws) (λ x. judged (all_at K x.0) x) s.middle s.first in
      let x = t.middle in
      let i = taken (no_pairs ws) (firsts ws, seconds ws) x t.first in
      let a = subst (λ (y : List Bytes × List Bytes). ArePairs ws y.0 y.1) i.1 (pairs_right ws short i.0) in
      let all = a.all in
      let j = judged_right false (all_at K x.0) x s.middle t.next in
      let g : Good n w (make x.0 x.1 w) = good x.0 x.1 a.some a.even (names_from K (λ _. refl) x.0 (list_passed K x.0 j.passed)) a.short (omega arith) in
      let f : make x.0 x.1 w ≡ c = sym (ap (λ (y : List Bytes × List Bytes). make y.0 y.1 w) j.value) ∙ e in
      subst (Good n w) f g

  pub k_pairs_good : (make : Bytes → List Bytes → List Bytes → ℕ → Command) → ((k : Bytes) (xs ys : List Bytes) → IsName k → 0 < length xs → length ys ≡ length xs → All IsName xs → All IsShort ys → length xs + length ys ≤ n → Good n w (make k xs ys w)) → (ws : List Bytes) (c : Command) → All IsShort ws → length ws ≤ n → k_pairs F make w ws ≡ Ok c → Good n w c
  unfolding said_k_pairs in_pairs
  k_pairs_good make good ws c short few h =
      let s = steps (said_k_pairs F ws) (λ x. Ok (make x.0 x.1 x.2 w)) c h in
      let e : make s.middle.0 s.middle.1 s.middle.2 w ≡ c = cc in
      let t = steps (one_and_some ws) (λ x. in_pairs x.1 >>= λ y. judged ((K, x.0) ∷ all_at F y.0) (x.0, y.0, y.1)) s.middle s.first in
      let k = t.middle in
      let r = one_and_some_right ws k t.first in
      let long : length ws ≡ suc (length k.1) = ap length r.0 in
      let u = steps (in_pairs k.1) (λ y. judged ((K, k.0) ∷ all_at F y.0) (k.0, y.0, y.1)) s.middle t.next in
      let x = u.middle in
      let i = taken (no_pairs k.1) (firsts k.1, seconds k.1) x u.first in
      let a = subst (λ (y : List Bytes × List Bytes). ArePairs k.1 y.0 y.1) i.1 (pairs_right k.1 (All-tail IsShort k.0 k.1 (subst (All IsShort) r.0 short)) i.0) in
      let all = a.all in
      let j = judged_right false ((K, k.0) ∷ all_at F x.0) (k.0, x.0, x.1) s.middle u.next in
      let key = name_fits k.0 (first_passed K k.0 (all_at F x.0) j.passed).name in
      let g : Good n w (make k.0 x.0 x.1 w) = good k.0 x.0 x.1 key a.some a.even (names_from F (λ _. refl) x.0 (list_passed F x.0 (others_passed K k.0 (all_at F x.0) j.passed))) a.short (omega arith) in
      let f : make k.0 x.0 x.1 w ≡ c = sym (ap (λ (y : Bytes × List Bytes × List Bytes). make y.0 y.1 y.2 w) j.value) ∙ e in
      subst (Good n w) f g

  pub maybe_good : (p : Place) (make : Option (Said p) → ℕ → Command) → ((o : Option (Said p)) → IfSome o (Fits p) → Good n w (make o w)) → (ws : List Bytes) (c : Command) → All IsShort ws → maybe p make w ws ≡ Ok c → Good n w c
  unfolding said_maybe
  maybe_good p make good ws c short h = by (length ws == 0) h
    where
      by : (b : Bool) → ((if b then Ok None else (said1 p ws >>= λ x. Ok (Some x))) >>= λ x. Ok (make x w)) ≡ Ok c → Good n w c
      by true h = let e : make None w ≡ c = cc in subst (Good n w) e (good None tt)
      by false h =
          let s = steps (said1 p ws >>= λ x. Ok (Some x)) (λ x. Ok (make x w)) c h in
          let t = steps (said1 p ws) (λ x. Ok (Some x)) s.middle s.first in
          let e : make (Some t.middle) w ≡ c = cc in
          subst (Good n w) e (good (Some t.middle) (said1_fits p ws t.middle short t.first))

  bare : Bytes → Result (Bytes × Option (Said Count)) FaultKind
  bare x = Ok (x, None)

  counted : Bytes × ℤ → Result (Bytes × Option ℤ) FaultKind
  counted x = Ok (x.0, Some x.1)

  pub k_maybe_good : (make : Bytes → Option ℤ → ℕ → Command) → ((k : Bytes) (o : Option ℤ) → IsName k → IfSome o (λ i. pos 0 ≤ℤ i) → Good n w (make k o w)) → (ws : List Bytes) (c : Command) → All IsShort ws → k_maybe Count make w ws ≡ Ok c → Good n w c
  unfolding said_k_maybe bare counted
  k_maybe_good make good ws c short h = by (length ws == 1) h
    where
      by : (b : Bool) → ((if b then (said1 K ws >>= bare) else (said2 K Count ws >>= counted)) >>= λ x. Ok (make x.0 x.1 w)) ≡ Ok c → Good n w c
      by true h =
          let s = steps (said1 K ws >>= bare) (λ x. Ok (make x.0 x.1 w)) c h in
          let t = steps (said1 K ws) bare s.middle s.first in
          let e : make t.middle None w ≡ c = cc in
          subst (Good n w) e (good t.middle None (said1_fits K ws t.middle short t.first) tt)
      by false h =
          let s = steps (said2 K Count ws >>= counted) (λ x. Ok (make x.0 x.1 w)) c h in
          let t = steps (said2 K Count ws) counted s.middle s.first in
          let e : make t.middle.0 (Some t.middle.1) w ≡ c = cc in
          let f = said2_fits K Count ws t.middle short t.first in
          subst (Good n w) e (good t.middle.0 (Some t.middle.1) f.0 f.1)

  pub ranged_good : (make : Bytes → ℤ → ℤ → Bool → ℕ → Command) → ((k : Bytes) (a b : ℤ) (s : Bool) → IsName k → Good n w (make k a b s w)) → (ws : List Bytes) (c : Command) → ranged make w ws ≡ Ok c → Good n w c
  unfolding said_range
  ranged_good make good ws c h =
      let s = steps (said_range ws) (λ x. Ok (make x.0 x.1 x.2 x.3 w)) c h in
      let e : make s.middle.0 s.middle.1 s.middle.2 s.middle.3 w ≡ c = cc in
      let t = steps (three_and_any ws) (λ x. judged_as (is_none (flag x.3)) ((K, x.0) ∷ (N, x.1) ∷ (N, x.2) ∷ []) (x.0, said N x.1, said N x.2, unwrap_or (flag x.3) false)) s.middle s.first in
      let x = t.middle in
      let others : Placed = (N, x.1) ∷ (N, x.2) ∷ [] in
      let value : Bytes × ℤ × ℤ × Bool = (x.0, said N x.1, said N x.2, unwrap_or (flag x.3) false) in
      let j = judged_right (is_none (flag x.3)) ((K, x.0) ∷ others) value s.middle t.next in
      let key : IsName s.middle.0 = subst (λ (y : Bytes × ℤ × ℤ × Bool). IsName y.0) (sym j.value) (name_fits x.0 (first_passed K x.0 others j.passed).name) in
      subst (Good n w) e (good s.middle.0 s.middle.1 s.middle.2 s.middle.3 key)
