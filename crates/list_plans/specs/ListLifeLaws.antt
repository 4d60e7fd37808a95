-- Laws on what stands in `ListLives.antt`: what is found of a list is the list at its key.
use Rattle.std.proofs.Common.{ℕ, ◌≡◌, refl, sym, ap, subst, ◌∙◌, Bool, true, false, cond, ◌<◌, ◌^◌, ◌+◌, ◌-◌, List, [], ◌∷◌, length, arith}
use Rattle.std.proofs.lemmas.Bool.Decides.{nat_tests}
use Rattle.std.specs.Prelude.{Option, Some, None, Ok, Err, IsTrue, ◌&&◌, nat_lt, nat_le, slice_get}
use Rattle.kv_base.specs.Map.{Bytes, get}
use Rattle.kv_base.specs.Fields.{read_u64}
use Rattle.kv_base.specs.InversionLaws.{both_first, both_second}
use Rattle.kv_base.specs.RawKeys.{is_version}
use Rattle.kv_base.specs.MetaValues.{MetaValue, StringValue, LifeValue, ListValue, is_deadline, is_size, is_life, is_meta_within}
use Rattle.redis_model.specs.Value.{Value, Str, Hash, ListOf, SetOf, ZSet, Entry, RedisMap}
use Rattle.redis_model.specs.Outcome.{Outcome, lists, as_list, seen, at_key}
use Rattle.lives_model.specs.Rows.{Rows, Side, Elements, Scores, row_key}
use Rattle.lives_model.specs.Clean.{live_at}
use Rattle.lives_model.specs.Means.{Means, MeansAt, StandsForEntry, LifeAt, item_row, meta_for, row_of, has_life}
use Rattle.lives_model.specs.MeansOneLaws.{tail_fits}
use Rattle.lives_model.specs.Plans.{IsFresh}
use Rattle.lives_model.specs.StepLaws.{live_fits}
use Rattle.list_plans.specs.declared.sight.ListSight.{ListSight}
use Rattle.list_plans.specs.ListLives.{list_found, IsSightWithin, list_on, IsListAt, IsListOf, SeesList}

-- ---- metadata within its limits

size_low : (n : ℕ) → is_size n ≡ true → n < 2 ^ 32
size_low n h = grind (arith, nat_tests)

size_some : (n : ℕ) → is_size n ≡ true → 0 < n
size_some n h = grind (arith, nat_tests)

number_low : (a b : ℕ) → nat_lt a b ≡ true → a < b
number_low a b h = grind (arith, nat_tests)

-- a list in metadata within its limits is within its own
pub list_within : (meta : MetaValue) (x : ℕ) (list : ListSight) → meta ≡ ListValue x list.version list.head list.tail → IsTrue (is_meta_within meta) → IsSightWithin list
unfolding is_meta_within
list_within meta x list is h =
    let fits : is_meta_within (ListValue x list.version list.head list.tail) ≡ true = subst (λ (o : MetaValue). is_meta_within o ≡ true) is h in
    let life : is_life x list.version (list.tail - list.head) ≡ true = both_first _ (nat_lt list.tail (2 ^ 64)) fits in
    let size : is_size (list.tail - list.head) ≡ true = both_second (is_deadline x && is_version list.version) _ life in
    let some = size_some (list.tail - list.head) size in
    record {
      version = both_second (is_deadline x) (is_version list.version) (both_first _ (is_size (list.tail - list.head)) life);
      some = omega (arith, some);
      few = size_low (list.tail - list.head) size;
      low = number_low list.tail (2 ^ 64) (both_second (is_life x list.version (list.tail - list.head)) _ fits);
    }

-- ---- of rows that mean a map

-- an entry with this value sees the same in its metadata
sees_value : (c : Rows) (t : ℕ) (k : Bytes) (e : Entry) (s : StandsForEntry c t k e) (v : Value) → e.value ≡ v → SeesList c k (list_found (Some (meta_for v s.life s.expire))) (lists.seen_as v)
sees_value c t k e s (ListOf items) is = record {
  ends = refl;
  low = tail_fits items s.life s.expire (live_fits c t k _ (s.meta ∙ ap (λ v. Some (meta_for v s.life s.expire)) is));
  rows = λ side subkey. s.rows (subst (λ (v : Value). IsTrue (has_life v)) (sym is) refl) side subkey ∙ ap (λ v. row_of v s.life.head side subkey) is;
}
sees_value c t k e s (Str v) is = refl
sees_value c t k e s (Hash h) is = refl
sees_value c t k e s (SetOf x) is = refl
sees_value c t k e s (ZSet z) is = refl

sees_by : (c : Rows) (t : ℕ) (k : Bytes) (o : Option Entry) → MeansAt c t k o → SeesList c k (list_found (live_at c t k)) (seen lists o)
sees_by c t k None s = subst (λ (f : Option MetaValue). SeesList c k (list_found f) (Ok [])) (sym s) refl
sees_by c t k (Some e) s = subst (λ (f : Option MetaValue). SeesList c k (list_found f) (as_list e.value)) (sym s.meta) (sees_value c t k e s e.value refl)

-- the list that is found at a key is the one at the key
pub sees_list : {c : Rows} {t : ℕ} {m : RedisMap} (means : Means c t m) (k : Bytes) → SeesList c k (list_found (live_at c t k)) (at_key lists m k)
sees_list {c} {t} {m} means k = sees_by c t k (get m k) (means.stands k)

-- what is found is within its limits
pub found_within : (c : Rows) (t : ℕ) (k : Bytes) (list : ListSight) → list_found (live_at c t k) ≡ Ok (Some list) → IsSightWithin list
found_within c t k list is = by_found (live_at c t k) refl is
  where
    by_found : (o : Option MetaValue) → live_at c t k ≡ o → list_found o ≡ Ok (Some list) → IsSightWithin list
    by_found None e h = absurd (cc)
    by_found (Some (StringValue x payload)) e h = absurd (cc)
    by_found (Some (LifeValue kind x version size)) e h = absurd (cc)
    by_found (Some (ListValue x version head tail)) e h =
        let that : list ≡ record { version = version; head = head; tail = tail } = cc in
        list_within (ListValue x version head tail) x list (ap (λ (l : ListSight). ListValue x l.version l.head l.tail) (sym that)) (live_fits c t k _ e)

-- and its metadata is that of a list
pub list_meta : (found : Option MetaValue) (list : ListSight) → list_found found ≡ Ok (Some list) → (x : ℕ) × (found ≡ Some (ListValue x list.version list.head list.tail))
list_meta None list h = absurd (cc)
list_meta (Some (StringValue x payload)) list h = absurd (cc)
list_meta (Some (LifeValue kind x version size)) list h = absurd (cc)
list_meta (Some (ListValue x version head tail)) list h =
    let that : list ≡ record { version = version; head = head; tail = tail } = cc in
    (x, ap (λ (l : ListSight). Some (ListValue x l.version l.head l.tail)) (sym that))

-- no list, no key
pub none_meta : (found : Option MetaValue) → list_found found ≡ Ok None → found ≡ None
none_meta None h = refl
none_meta (Some (StringValue x payload)) h = absurd (cc)
none_meta (Some (LifeValue kind x version size)) h = absurd (cc)
none_meta (Some (ListValue x version head tail)) h = absurd (cc)

-- ---- where items may be added

-- nothing stands in a list of no items
none_stands : (head : ℕ) (side : Side) (subkey : Bytes) → row_of (ListOf []) head side subkey ≡ None
none_stands head Scores subkey = refl
none_stands head Elements subkey = by_read (read_u64 subkey)
  where
    by_test : (b : Bool) (items : List Bytes) (i : ℕ) → items ≡ [] → cond b (slice_get items i) None ≡ None
    by_test true items i none = ap (λ (l : List Bytes). slice_get l i) none
    by_test false items i none = refl

    by_read : (o : Option (ℕ × Bytes)) → item_row [] head o ≡ None
    by_read None = refl
    by_read (Some (n, [])) = by_test (nat_le head n) [] (n - head) refl
    by_read (Some (n, b ∷ rest)) = refl

-- the items that were found stand in the list that goes on, and a new list has none
pub list_stands : (c : Rows) (k : Bytes) (fresh : ℕ) (found : Option ListSight) (items : List Bytes) → IsListOf c k found items → IsTrue (is_version fresh) → IsFresh c fresh k → IsListAt c k (list_on fresh found) items
list_stands c k fresh (Some list) items is fits above = is
list_stands c k fresh None items is fits above = subst (IsListAt c k (list_on fresh None)) (sym is) (record {
  ends = refl;
  low = omega arith;
  rows = λ side subkey. above side fresh subkey (omega arith) fits ∙ sym (none_stands (2 ^ 63) side subkey);
})
