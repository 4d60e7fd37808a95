-- The laws of what is touched: a command names it, each key stands there once, and a key that is not there stays as it is.
use Rattle.std.proofs.Common.{◌≡◌, ℕ, Bool, true, false, cond, List, [], ◌∷◌, refl, sym, subst, ap, ◌∙◌}
use Rattle.std.specs.Prelude.{◌≢◌, not, ◌&&◌, ◌||◌, IsTrue, Option, Some, None, Ok, Err, filter}
use Rattle.std.specs.Bool.{Decides}
use Rattle.std.specs.Cmp.{eq_by_cmp_equiv}
use Rattle.std.specs.Cmp.Lexicographic.{nat_list_cmp_total, pointwise, pointwise_decides}
use Rattle.std.specs.List.{AllByRecursion, IsDistinct}
use Rattle.std.specs.Ordering.{int_eq}
use Rattle.std.proofs.lemmas.Bool.Decides.{Decides-and, Decides-like, Decides-eqb, Decides-int_eq}
use Rattle.std.proofs.lemmas.Map.Views.{any-filter_same}
use Rattle.kv_base.specs.Map.{Bytes, Map, Set, same, get, same_is, same_itself, same_entries_map, same_map}
use Rattle.redis_model.specs.declared.reply.Reply.{Reply}
use Rattle.redis_model.specs.declared.reply.ReplyError.{ReplyError}
use Rattle.redis_model.specs.declared.command.Command.{Command}
use Rattle.redis_model.specs.declared.command.Command.TheVariants as cmd
use Rattle.redis_model.specs.Value.{Value, Str, Hash, ListOf, SetOf, ZSet, Entry, RedisMap}
use Rattle.redis_model.specs.Outcome.{Outcome, answered}
use Rattle.redis_model.specs.Keys.{among}
use Rattle.redis_model.specs.About.{keys_of, writes}
use Rattle.redis_model.specs.Apply.{apply, carried_out}
use Rattle.redis_model.specs.ReadingLaws.{reading_keeps}
use Rattle.redis_model.specs.ElsewhereLaws.{apply_elsewhere}
use Rattle.redis_model.specs.Touched.{same_value, same_deadline, same_entry, differs, written_again, once, is_touched, touched_by, touched}

-- ---- the tests tell what is equal

same_decides : (a b : Bytes) → Decides (same a b) (a ≡ b)
same_decides a b = (same_is a b, λ e. subst (λ (x : Bytes). same a x ≡ true) e (same_itself a))

module _ {X : Type 0} (E : X → X → Bool) (decides : (a b : X) → Decides (E a b) (a ≡ b)) where
  pair_decides : (e f : Bytes × X) → Decides (same e.0 f.0 && E e.1 f.1) (e ≡ f)
  pair_decides e f =
      Decides-like {P = (e.0 ≡ f.0) × (e.1 ≡ f.1)} _ (λ p i. (p.0 i, p.1 i)) (λ p. (ap (λ (g : Bytes × X). g.0) p, ap (λ (g : Bytes × X). g.1) p))
      (Decides-and _ _ (same_decides e.0 f.0) (decides e.1 f.1))

  map_decides : (m n : Map X) → Decides (pointwise (λ e f. same e.0 f.0 && E e.1 f.1) m.entries n.entries) (m ≡ n)
  map_decides m n =
      Decides-like {P = m.entries ≡ n.entries} _ (same_entries_map m n) (λ p. ap (λ (o : Map X). o.entries) p)
      (pointwise_decides pair_decides m.entries n.entries)

member_decides : (e f : Bytes × Unit {0}) → Decides (same e.0 f.0) (e ≡ f)
member_decides e f = Decides-like {P = e.0 ≡ f.0} _ (λ p i. (p i, tt)) (λ p. ap (λ (g : Bytes × Unit {0}). g.0) p) (same_decides e.0 f.0)

set_decides : (s t : Set) → Decides (pointwise (λ e f. same e.0 f.0) s.entries t.entries) (s ≡ t)
set_decides s t =
    Decides-like {P = s.entries ≡ t.entries} _ (same_entries_map s t) (λ p. ap (λ (o : Set). o.entries) p)
    (pointwise_decides member_decides s.entries t.entries)

same_value_decides : (v w : Value) → Decides (same_value v w) (v ≡ w)
same_value_decides (Str a) (Str b) = Decides-like {P = a ≡ b} _ (λ p. ap Str p) (λ p. cc) (same_decides a b)
same_value_decides (Hash a) (Hash b) = Decides-like {P = a ≡ b} _ (λ p. ap Hash p) (λ p. cc) (map_decides same same_decides a b)
same_value_decides (ListOf a) (ListOf b) = Decides-like {P = a ≡ b} _ (λ p. ap ListOf p) (λ p. cc) (pointwise_decides same_decides a b)
same_value_decides (SetOf a) (SetOf b) = Decides-like {P = a ≡ b} _ (λ p. ap SetOf p) (λ p. cc) (set_decides a b)
same_value_decides (ZSet a) (ZSet b) = Decides-like {P = a ≡ b} _ (λ p. ap ZSet p) (λ p. cc) (map_decides int_eq Decides-int_eq a b)
same_value_decides _ _ = (λ t. cc, λ p. cc)

same_deadline_decides : (d e : Option ℕ) → Decides (same_deadline d e) (d ≡ e)
same_deadline_decides None None = (λ t. refl, λ p. refl)
same_deadline_decides (Some d) (Some e) = Decides-like {P = d ≡ e} _ (λ p. ap Some p) (λ p. cc) (Decides-eqb d e)
same_deadline_decides _ _ = (λ t. cc, λ p. cc)

pub same_entry_decides : (o p : Option Entry) → Decides (same_entry o p) (o ≡ p)
same_entry_decides None None = (λ t. refl, λ p. refl)
same_entry_decides (Some e) (Some f) =
    Decides-like {P = (e.value ≡ f.value) × (e.deadline ≡ f.deadline)} _ (λ p i. Some (record { value = p.0 i; deadline = p.1 i })) (λ p. let is : e ≡ f = cc in (ap (λ (g : Entry). g.value) is, ap (λ (g : Entry). g.deadline) is))
    (Decides-and _ _ (same_value_decides e.value f.value) (same_deadline_decides e.deadline f.deadline))
same_entry_decides _ _ = (λ t. cc, λ p. cc)

not_false : (b : Bool) → not b ≡ false → b ≡ true
not_false true h = refl
not_false false h = cc

differs_not : (m n : RedisMap) (k : Bytes) → differs m n k ≡ false → get m k ≡ get n k
differs_not m n k h = (same_entry_decides (get m k) (get n k)).0 (not_false _ h)

differs_itself : (m : RedisMap) (k : Bytes) → differs m m k ≡ false
differs_itself m k = ap not ((same_entry_decides (get m k) (get m k)).1 refl)

-- ---- a key among those that pass a test

or_turned : (a b : Bool) → (a || (not a && b)) ≡ (a || b)
or_turned true b = refl
or_turned false b = refl

and_false : (b : Bool) → (b && false) ≡ false
and_false true = refl
and_false false = refl

among_filter : (p : Bytes → Bool) (q : Bytes) (ks : List Bytes) → among (filter p ks) q ≡ (p q && among ks q)
among_filter p q ks = any-filter_same (same q) p (p q) (λ k is. ap p (sym (same_is q k is))) ks

pub among_once : (q : Bytes) (ks : List Bytes) → among (once ks) q ≡ among ks q
among_once q [] = refl
among_once q (k ∷ ks) =
    ap (λ (b : Bool). same q k || b) (among_filter (λ r. not (same r k)) q (once ks) ∙ ap (λ (b : Bool). not (same q k) && b) (among_once q ks))
    ∙ or_turned (same q k) (among ks q)

first_false : (a b : Bool) → (a && b) ≡ false → b ≡ true → a ≡ false
first_false true b h e = sym e ∙ h
first_false false b h e = refl

second_false : (a b : Bool) → (a || b) ≡ false → b ≡ false
second_false true b h = cc
second_false false b h = h

both_true : (a b : Bool) → (a && b) ≡ true → b ≡ true
both_true true b h = h
both_true false b h = cc

-- ---- the laws

-- what is touched by a command that was carried out from m to n
among_touched : (m : RedisMap) (c : Command) (r : Reply × RedisMap) (q : Bytes) → among (touched_by m c (Ok r)) q ≡ (is_touched m r.1 c q && among (keys_of c) q)
among_touched m c r q =
    among_filter (is_touched m r.1 c) q (once (keys_of c)) ∙ ap (λ (b : Bool). is_touched m r.1 c q && b) (among_once q (keys_of c))

named : (m : RedisMap) (c : Command) (o : Outcome (Reply × RedisMap)) (q : Bytes) → among (touched_by m c o) q ≡ true → among (keys_of c) q ≡ true
named m c (Ok r) q h = both_true _ _ (sym (among_touched m c r q) ∙ h)
named m c (Err e) q h = cc

-- a command names each key that it touches
pub touched_is_named : (m : RedisMap) (t : ℕ) (c : Command) (q : Bytes) → IsTrue (among (touched m t c) q) → IsTrue (among (keys_of c) q)
unfolding touched
touched_is_named m t c q h = named m c (carried_out m t c) q h

untouched : (m : RedisMap) (c : Command) (o : Outcome (Reply × RedisMap)) (q : Bytes)
    → (among (keys_of c) q ≡ false → get (answered m o).1 q ≡ get m q) → among (touched_by m c o) q ≡ false → get (answered m o).1 q ≡ get m q
untouched m c (Ok r) q elsewhere h = by_name (among (keys_of c) q) refl
  where
    by_name : (b : Bool) → among (keys_of c) q ≡ b → get r.1 q ≡ get m q
    by_name false unnamed = elsewhere unnamed
    by_name true is_named = sym (differs_not m r.1 q (second_false _ _ (first_false _ _ (sym (among_touched m c r q) ∙ h) is_named)))
untouched m c (Err e) q elsewhere h = refl

-- the entry at each key that a command does not touch stays
pub untouched_stays : (m : RedisMap) (t : ℕ) (c : Command) (q : Bytes) → among (touched m t c) q ≡ false → get (apply m t c).1 q ≡ get m q
unfolding touched apply
untouched_stays m t c q h = untouched m c (carried_out m t c) q (apply_elsewhere m t c q) h

-- so a key is touched where its entry differs, and where none is touched the map stays
pub differing_is_touched : (m : RedisMap) (t : ℕ) (c : Command) (q : Bytes) → get (apply m t c).1 q ≢ get m q → IsTrue (among (touched m t c) q)
differing_is_touched m t c q differs = by_test (among (touched m t c) q) refl
  where
    by_test : (b : Bool) → among (touched m t c) q ≡ b → b ≡ true
    by_test true e = refl
    by_test false e = absurd (differs (untouched_stays m t c q e))

pub apply-untouched : (m : RedisMap) (t : ℕ) (c : Command) → touched m t c ≡ [] → (apply m t c).1 ≡ m
apply-untouched m t c none = same_map _ m (λ q. untouched_stays m t c q (ap (λ (ks : List Bytes). among ks q) none))

-- what a command touches that was carried out, and one that was not
pub among_touched_done : (m : RedisMap) (t : ℕ) (c : Command) (r : Reply × RedisMap) (q : Bytes) → carried_out m t c ≡ Ok r → among (touched m t c) q ≡ (is_touched m r.1 c q && among (keys_of c) q)
unfolding touched
among_touched_done m t c r q is = ap (λ (o : Outcome (Reply × RedisMap)). among (touched_by m c o) q) is ∙ among_touched m c r q

pub touched_refused : (m : RedisMap) (t : ℕ) (c : Command) (e : ReplyError) → carried_out m t c ≡ Err e → touched m t c ≡ []
unfolding touched
touched_refused m t c e is = ap (λ (o : Outcome (Reply × RedisMap)). touched_by m c o) is

-- no key is written again by a command that only reads
none_again : (m n : RedisMap) (c : Command) → writes c ≡ false → written_again m n c ≡ []
none_again m n (cmd.Set k v c x w) h = cc
none_again m n (cmd.SetEx k x v w) h = cc
none_again m n (cmd.PSetEx k x v w) h = cc
none_again m n (cmd.GetSet k v w) h = cc
none_again m n (cmd.MSet ks vs w) h = cc
none_again m n (cmd.Append k v w) h = cc
none_again m n (cmd.Incr k w) h = cc
none_again m n (cmd.Decr k w) h = cc
none_again m n (cmd.IncrBy k i w) h = cc
none_again m n (cmd.DecrBy k i w) h = cc
none_again m n (cmd.Expire k x w) h = cc
none_again m n (cmd.PExpire k x w) h = cc
none_again m n (cmd.ExpireAt k x w) h = cc
none_again m n (cmd.PExpireAt k x w) h = cc
none_again m n (cmd.HSet k fs vs w) h = cc
none_again m n (cmd.HIncrBy k f i w) h = cc
none_again m n (cmd.LSet k i v w) h = cc
none_again m n (cmd.RPopLPush a b w) h = cc
none_again m n (cmd.LMove a b from to w) h = cc
none_again m n (cmd.SInterStore d ks w) h = cc
none_again m n (cmd.SUnionStore d ks w) h = cc
none_again m n (cmd.SDiffStore d ks w) h = cc
none_again m n _ h = refl

none_pass : (p : Bytes → Bool) → ((k : Bytes) → p k ≡ false) → (ks : List Bytes) → filter p ks ≡ []
none_pass p none [] = refl
none_pass p none (k ∷ ks) = ap (λ (b : Bool). cond b (k ∷ filter p ks) (filter p ks)) (none k) ∙ none_pass p none ks

quiet : (m : RedisMap) (c : Command) (o : Outcome (Reply × RedisMap)) → ((n : RedisMap) → written_again m n c ≡ []) → (answered m o).1 ≡ m → touched_by m c o ≡ []
quiet m c (Ok r) none is =
    none_pass _ (λ k. ap (λ (ks : List Bytes). among ks k || differs m r.1 k) (none r.1) ∙ ap (λ (n : RedisMap). differs m n k) is ∙ differs_itself m k) (once (keys_of c))
quiet m c (Err e) none is = refl

-- a command that only reads touches no key
pub reading_touches_nothing : (m : RedisMap) (t : ℕ) (c : Command) → writes c ≡ false → touched m t c ≡ []
unfolding touched apply
reading_touches_nothing m t c h = quiet m c (carried_out m t c) (λ n. none_again m n c h) (reading_keeps m t c h)

-- ---- each key once

all_filtered : (P : Bytes → Type 0) (p : Bytes → Bool) (ks : List Bytes) → AllByRecursion P ks → AllByRecursion P (filter p ks)
all_filtered P p [] h = h
all_filtered P p (k ∷ ks) h =
    elim (p k) as (λ b. AllByRecursion P (cond b (k ∷ filter p ks) (filter p ks))) [
      | true ↦ (h.0, all_filtered P p ks h.1)
      | false ↦ all_filtered P p ks h.1
    ]

all_pass : (p : Bytes → Bool) (ks : List Bytes) → AllByRecursion (λ k. p k ≡ true) (filter p ks)
all_pass p [] = tt
all_pass p (k ∷ ks) =
    elim (p k) as (λ b. p k ≡ b → AllByRecursion (λ q. p q ≡ true) (cond b (k ∷ filter p ks) (filter p ks))) [
      | true ↦ λ passes. (passes, all_pass p ks)
      | false ↦ λ fails. all_pass p ks
    ] refl

all_so : (P Q : Bytes → Type 0) → ((k : Bytes) → P k → Q k) → (ks : List Bytes) → AllByRecursion P ks → AllByRecursion Q ks
all_so P Q so [] h = tt
all_so P Q so (k ∷ ks) h = (so k h.0, all_so P Q so ks h.1)

distinct_filtered : (p : Bytes → Bool) (ks : List Bytes) → IsDistinct same ks → IsDistinct same (filter p ks)
unfolding IsDistinct
distinct_filtered p [] h = h
distinct_filtered p (k ∷ ks) h =
    elim (p k) as (λ b. IsDistinct same (cond b (k ∷ filter p ks) (filter p ks))) [
      | true ↦ (all_filtered (λ q. same k q ≡ false) p ks h.0, distinct_filtered p ks h.1)
      | false ↦ distinct_filtered p ks h.1
    ]

not_true : (b : Bool) → not b ≡ true → b ≡ false
not_true true h = cc
not_true false h = refl

distinct_once : (ks : List Bytes) → IsDistinct same (once ks)
unfolding IsDistinct
distinct_once [] = tt
distinct_once (k ∷ ks) =
    let apart = λ (q : Bytes) (h : not (same q k) ≡ true). (eq_by_cmp_equiv nat_list_cmp_total).symm k q ∙ not_true (same q k) h in
    (all_so _ _ apart (filter (λ q. not (same q k)) (once ks)) (all_pass (λ q. not (same q k)) (once ks)), distinct_filtered (λ q. not (same q k)) (once ks) (distinct_once ks))

distinct_by : (m : RedisMap) (c : Command) (o : Outcome (Reply × RedisMap)) → IsDistinct same (touched_by m c o)
unfolding IsDistinct
distinct_by m c (Ok r) = distinct_filtered (is_touched m r.1 c) (once (keys_of c)) (distinct_once (keys_of c))
distinct_by m c (Err e) = tt

-- no key stands twice among those that a command touches
pub touched_is_distinct : (m : RedisMap) (t : ℕ) (c : Command) → IsDistinct same (touched m t c)
unfolding touched
touched_is_distinct m t c = distinct_by m c (carried_out m t c)
