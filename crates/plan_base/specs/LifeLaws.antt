-- Laws on what stands in `Lives.antt`: what is found of a collection is the collection at its key.
use Rattle.std.proofs.Common.{ℕ, ◌≡◌, refl, sym, ap, subst, ◌∙◌, true, ◌<◌, ◌^◌, arith}
use Rattle.std.proofs.lemmas.Bool.Decides.{nat_tests}
use Rattle.std.specs.Prelude.{Option, Some, None, Ok, Err, IsTrue, option_map, ℤ, ◌&&◌, []}
use Rattle.kv_base.specs.Map.{Bytes, Map, Set, get, get-empty, size-empty}
use Rattle.kv_base.specs.InversionLaws.{both_first, both_second}
use Rattle.kv_base.specs.RawKeys.{ElementKey, raw_text, is_version}
use Rattle.kv_base.specs.MetaValues.{MetaValue, LifeValue, is_deadline, is_size, is_meta_within}
use Rattle.kv_base.specs.declared.kind.Kind.{Kind as Code}
use Rattle.kv_base.specs.declared.kind.Kind.TheVariants as code
use Rattle.redis_model.specs.Value.{Value, Str, Hash, ListOf, SetOf, ZSet, Entry, RedisMap}
use Rattle.redis_model.specs.Outcome.{Outcome, ◌>>=◌, Kind, hashes, sets, sorted_sets, seen, at_key}
use Rattle.lives_model.specs.Rows.{Rows, Elements, row_key}
use Rattle.lives_model.specs.Clean.{live_at}
use Rattle.lives_model.specs.Means.{Means, MeansAt, StandsForEntry, LifeAt, meta_for, row_of, has_life, score_text}
use Rattle.plan_base.specs.declared.life.LifeSight.{LifeSight}
use Rattle.plan_base.specs.Lives.{life_found, row_in_life, life_size, StandsAs, IsLifeOf, SeesLife}

-- ---- raw keys

-- the raw key of an element is that of a row of its life
pub element_key_is : (k : Bytes) (version : ℕ) (subkey : Bytes) → raw_text (ElementKey k version subkey) ≡ row_key Elements k version subkey
unfolding row_key raw_text
element_key_is k version subkey = refl

-- ---- metadata within its limits

low_size : (n : ℕ) → is_size n ≡ true → n < 2 ^ 32
low_size n h = grind (arith, nat_tests)

-- the version and the size in metadata within its limits are within their own
pub life_within : (meta : MetaValue) (kind : Code) (x version size : ℕ) → meta ≡ LifeValue kind x version size → IsTrue (is_meta_within meta) → IsTrue (is_version version) × (size < 2 ^ 32)
unfolding is_meta_within
life_within meta kind x version size is h =
    let fits : is_meta_within (LifeValue kind x version size) ≡ true = subst (λ (o : MetaValue). is_meta_within o ≡ true) is h in
    (both_second (is_deadline x) (is_version version) (both_first (is_deadline x && is_version version) (is_size size) fits), low_size size (both_second (is_deadline x && is_version version) (is_size size) fits))

-- ---- the kinds

-- a value that is one, and what is found of each value
hash_is : (v : Value) (h : Map Bytes) → hashes.seen_as v ≡ Ok h → v ≡ Hash h
hash_is (Hash g) h e = cc
hash_is (Str g) h e = absurd (cc)
hash_is (ListOf g) h e = absurd (cc)
hash_is (SetOf g) h e = absurd (cc)
hash_is (ZSet g) h e = absurd (cc)

hash_found : (v : Value) (life : LifeAt) (x : ℕ) → life_found code.Hash (Some (meta_for v life x)) ≡ (hashes.seen_as v >>= λ h. Ok (Some (record { version = life.version; size = hashes.count h })))
hash_found (Hash g) life x = refl
hash_found (Str g) life x = refl
hash_found (ListOf g) life x = refl
hash_found (SetOf g) life x = refl
hash_found (ZSet g) life x = refl

-- the row of a field is its value
pub hash_stands : StandsAs hashes code.Hash get
hash_stands = record {
  meta = λ h life x. refl;
  rows = λ h head subkey. refl;
  none = λ subkey. get-empty subkey;
  empty = size-empty Bytes;
  life = λ h. refl;
  one_type = λ a b. refl;
  is = hash_is;
  found = hash_found;
}

-- the row of a member has no value
abbrev pub member_row_of : Set → Bytes → Option Bytes
member_row_of s member = option_map (λ _. []) (get s member)

-- a value that is one, and what is found of each value
set_is : (v : Value) (s : Set) → sets.seen_as v ≡ Ok s → v ≡ SetOf s
set_is (SetOf g) s e = cc
set_is (Hash g) s e = absurd (cc)
set_is (Str g) s e = absurd (cc)
set_is (ListOf g) s e = absurd (cc)
set_is (ZSet g) s e = absurd (cc)

set_found : (v : Value) (life : LifeAt) (x : ℕ) → life_found code.Set (Some (meta_for v life x)) ≡ (sets.seen_as v >>= λ s. Ok (Some (record { version = life.version; size = sets.count s })))
set_found (Hash g) life x = refl
set_found (Str g) life x = refl
set_found (ListOf g) life x = refl
set_found (SetOf g) life x = refl
set_found (ZSet g) life x = refl

-- a set
pub set_stands : StandsAs sets code.Set member_row_of
set_stands = record {
  meta = λ s life x. refl;
  rows = λ s head subkey. refl;
  none = λ subkey. ap (option_map (λ _. [])) (get-empty subkey);
  empty = size-empty (Unit {0});
  life = λ s. refl;
  one_type = λ a b. refl;
  is = set_is;
  found = set_found;
}

-- on the side of elements the row of a member of a sorted set is its score
abbrev pub score_row_of : Map ℤ → Bytes → Option Bytes
score_row_of z member = option_map score_text (get z member)

-- a value that is one, and what is found of each value
sorted_set_is : (v : Value) (z : Map ℤ) → sorted_sets.seen_as v ≡ Ok z → v ≡ ZSet z
sorted_set_is (ZSet g) z e = cc
sorted_set_is (Hash g) z e = absurd (cc)
sorted_set_is (Str g) z e = absurd (cc)
sorted_set_is (ListOf g) z e = absurd (cc)
sorted_set_is (SetOf g) z e = absurd (cc)

sorted_set_found : (v : Value) (life : LifeAt) (x : ℕ) → life_found code.ZSet (Some (meta_for v life x)) ≡ (sorted_sets.seen_as v >>= λ z. Ok (Some (record { version = life.version; size = sorted_sets.count z })))
sorted_set_found (Hash g) life x = refl
sorted_set_found (Str g) life x = refl
sorted_set_found (ListOf g) life x = refl
sorted_set_found (SetOf g) life x = refl
sorted_set_found (ZSet g) life x = refl

-- a sorted set, by its members
pub sorted_set_stands : StandsAs sorted_sets code.ZSet score_row_of
sorted_set_stands = record {
  meta = λ z life x. refl;
  rows = λ z head subkey. refl;
  none = λ subkey. ap (option_map score_text) (get-empty subkey);
  empty = size-empty ℤ;
  life = λ z. refl;
  one_type = λ a b. refl;
  is = sorted_set_is;
  found = sorted_set_found;
}

-- ---- of rows that mean a map

module _ {A : Type 0} {kind : Kind A} {code : Code} {row : A → Bytes → Option Bytes} (stands : StandsAs kind code row) where
  -- what is found is what is there
  sees_entry : (c : Rows) (t : ℕ) (k : Bytes) (e : Entry) (s : StandsForEntry c t k e) (o : Outcome A) → kind.seen_as e.value ≡ o
      → SeesLife kind row c k (o >>= λ a. Ok (Some (record { version = s.life.version; size = kind.count a }))) o
  sees_entry c t k e s (Err fault) is = refl
  sees_entry c t k e s (Ok a) is =
      let value : e.value ≡ kind.value_of a = stands.is e.value a is in (
        refl,
        λ subkey.
            s.rows (subst (λ (v : Value). IsTrue (has_life v)) (sym value) (stands.life a)) Elements subkey
            ∙ ap (λ (v : Value). row_of v s.life.head Elements subkey) value
            ∙ stands.rows a s.life.head subkey,
      )

  sees_by : (c : Rows) (t : ℕ) (k : Bytes) (o : Option Entry) → MeansAt c t k o → SeesLife kind row c k (life_found code (live_at c t k)) (seen kind o)
  sees_by c t k None s = subst (λ (f : Option MetaValue). SeesLife kind row c k (life_found code f) (Ok kind.none)) (sym s) refl
  sees_by c t k (Some e) s =
      subst (λ (f : Outcome (Option LifeSight)). SeesLife kind row c k f (kind.seen_as e.value))
      (sym (ap (life_found code) s.meta ∙ stands.found e.value s.life s.expire))
      (sees_entry c t k e s (kind.seen_as e.value) refl)

  -- the life that is found at a key is that of its collection
  pub sees_life : {c : Rows} {t : ℕ} {m : RedisMap} (means : Means c t m) (k : Bytes) → SeesLife kind row c k (life_found code (live_at c t k)) (at_key kind m k)
  sees_life {c} {t} {m} means k = sees_by c t k (get m k) (means.stands k)

  -- what stands under a subkey there is the row of the collection
  pub element_there : (c : Rows) (k : Bytes) (found : Option LifeSight) (a : A) (subkey : Bytes) → IsLifeOf kind row c k found a → row_in_life c k found subkey ≡ row a subkey
  element_there c k None a subkey s = sym (ap (λ x. row x subkey) s ∙ stands.none subkey)
  element_there c k (Some life) a subkey s = s.1 subkey

  -- and its size is the number of elements
  pub size_there : (c : Rows) (k : Bytes) (found : Option LifeSight) (a : A) → IsLifeOf kind row c k found a → life_size found ≡ kind.count a
  size_there c k None a s = sym (ap kind.count s ∙ stands.empty)
  size_there c k (Some life) a s = s.0
