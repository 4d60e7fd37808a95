-- What the rows for a map have at the raw keys of its keys.
use Rattle.std.proofs.Common.{◌≡◌, ℕ, zero, suc, ◌+◌, ◌-◌, ◌≤◌, refl, sym, ap, subst, ◌∙◌, Bool, true, false, cond, ◌||◌, List, [], ◌∷◌, ◌++◌, map, append-nil, arith}
use Rattle.std.proofs.lemmas.Bool.{or_left, or_right}
use Rattle.std.proofs.lemmas.Bool.Decides.{nat_tests}
use Rattle.std.proofs.lemmas.Int.{ints}
use Rattle.std.proofs.lemmas.List.Folds.{list_any-append}
use Rattle.std.proofs.lemmas.List.Concat.{flat_map_single}
use Rattle.std.specs.Prelude.{nat_le, slice_get, Option, Some, None, IfSome, ℤ}
use Rattle.std.specs.List.{flat_map}
use Rattle.std.specs.FinMap.Entries.{find}
use Rattle.kv_base.specs.Map.{Bytes, Map, byte_cmp, same, same_is, same_itself, get}
use Rattle.kv_base.specs.Number.{fits}
use Rattle.kv_base.specs.Fields.{u64, read_u64}
use Rattle.kv_base.specs.FieldLaws.{only_u64_is_read}
use Rattle.kv_base.specs.InversionLaws.{same_some, map_is, if_is, number_is}
use Rattle.kv_base.specs.RawKeys.{score_number}
use Rattle.redis_model.specs.Value.{Value, Str, Hash, ListOf, SetOf, ZSet, Entry}
use Rattle.redis_model.specs.Keys.{among}
use Rattle.redis_model.specs.Limits.{IsWholeScore}
use Rattle.lives_model.specs.Rows.{Side, Elements, Scores, meta_key, row_key}
pub use Rattle.lives_model.specs.AskedKeyLaws.{name_is_key}
pub use Rattle.lives_model.specs.LifeRowLaws.{whole_fits}
use Rattle.lives_model.specs.Means.{row_of, item_row, member_row, is_scored}
use Rattle.plan_laws.specs.RowsFor.{first_life, indices, subkeys, raws_of}

-- ---- small facts

-- what holds of a value if there is one holds of the value that is there
pub if_some : {X : Type 0} (P : X → Type 0) (o : Option X) (x : X) → o ≡ Some x → IfSome o P → P x
if_some {X} P o x e h = subst (λ (u : Option X). IfSome u P) e h

-- what is never there is none
pub none_if : {X : Type 0} (o : Option X) → ((x : X) → o ≡ Some x → ⊥) → o ≡ None
none_if None never = refl
none_if (Some x) never = absurd (never x refl)

-- ---- among the entries

module _ {X : Type 0} (f : Bytes × X → List Bytes) (raw k : Bytes) (x : X) where
  -- it is the first entry, or among the others
  in_first : (y : Bytes × X) (es : List (Bytes × X)) (b : Bool) → same k y.0 ≡ b → cond b (Some y.1) (find byte_cmp k es) ≡ Some x → among (f (k, x)) raw ≡ true
      → (find byte_cmp k es ≡ Some x → among (flat_map f es) raw ≡ true) → (among (f y) raw || among (flat_map f es) raw) ≡ true
  in_first y es true is e h rest =
      let key : k ≡ y.0 = same_is k y.0 is in
      let value : x ≡ y.1 = sym (same_some y.1 x e) in
      or_left (among (f y) raw) _ (subst (λ (z : Bytes × X). among (f z) raw ≡ true) (λ i. (key i, value i)) h)
  in_first y es false is e h rest = or_right (among (f y) raw) _ (rest e)

  -- what is among the raw keys of an entry is among those of all
  pub in_entries : (es : List (Bytes × X)) → find byte_cmp k es ≡ Some x → among (f (k, x)) raw ≡ true → among (flat_map f es) raw ≡ true
  in_entries [] e h = cc
  in_entries (y ∷ es) e h = list_any-append (same raw) (f y) (flat_map f es) ∙ in_first y es (same k y.0) refl e h (λ e. in_entries es e h)

-- what an entry of a map is called is among the names
in_map : {X : Type 0} (f : Bytes × X → Bytes) (m : Map X) (k : Bytes) (x : X) → get m k ≡ Some x → among (map f m.entries) (f (k, x)) ≡ true
unfolding get
in_map f m k x e =
    ap (λ names. among names (f (k, x))) (sym (flat_map_single f m.entries))
    ∙ in_entries (λ e. f e ∷ []) (f (k, x)) k x m.entries e (or_left (same (f (k, x)) (f (k, x))) false (same_itself (f (k, x))))

-- a name that is changed is among the changed names
in_mapped : (f : Bytes → Bytes) (xs : List Bytes) (x : Bytes) → among xs x ≡ true → among (map f xs) (f x) ≡ true
in_mapped f [] x h = h
in_mapped f (y ∷ xs) x h = by_same (same x y) refl h (in_mapped f xs x)
  where
    by_same : (b : Bool) → same x y ≡ b → (b || among xs x) ≡ true → (among xs x ≡ true → among (map f xs) (f x) ≡ true) → (same (f x) (f y) || among (map f xs) (f x)) ≡ true
    by_same true is h rest = or_left (same (f x) (f y)) _ (ap (λ (z : Bytes). same (f x) (f z)) (sym (same_is x y is)) ∙ same_itself (f x))
    by_same false is h rest = or_right (same (f x) (f y)) _ (rest h)

-- ---- the items of a list

-- an item stands under its index
pub record IsItem (l : List Bytes) (head : ℕ) (subkey item : Bytes) : Type 0 where
  pub index : ℕ
  pub spelled : subkey ≡ u64 index
  pub from : head ≤ index
  pub is : slice_get l (index - head) ≡ Some item

-- an index at which an item is read is one of the list
at_item : (l : List Bytes) (head index : ℕ) (subkey item : Bytes) (b : Bool) → nat_le head index ≡ b → subkey ≡ u64 index → cond b (slice_get l (index - head)) None ≡ Some item → IsItem l head subkey item
at_item l head index subkey item true le spelled e = record { index = index; spelled = spelled; from = grind (arith, nat_tests); is = e }
at_item l head index subkey item false le spelled e = absurd (cc)

-- by what the subkey begins with
item_by : (l : List Bytes) (head : ℕ) (subkey item : Bytes) (o : Option (ℕ × Bytes)) → read_u64 subkey ≡ o → item_row l head o ≡ Some item → IsItem l head subkey item
item_by l head subkey item None read e = absurd (cc)
item_by l head subkey item (Some (index, [])) read e =
    at_item l head index subkey item (nat_le head index) refl ((only_u64_is_read subkey index [] read).0 ∙ append-nil (u64 index)) e
item_by l head subkey item (Some (index, b ∷ bs)) read e = absurd (cc)

-- the row of an item stands under its index
pub item_is : (l : List Bytes) (head : ℕ) (subkey item : Bytes) → item_row l head (read_u64 subkey) ≡ Some item → IsItem l head subkey item
item_is l head subkey item e = item_by l head subkey item (read_u64 subkey) refl e

-- each place of a list has its index
in_indices : (l : List Bytes) (head i : ℕ) (item : Bytes) → slice_get l i ≡ Some item → among (indices head l) (u64 (head + i)) ≡ true
in_indices [] head i item e = cc
in_indices (v ∷ l) head zero item e =
    let here : head + 0 ≡ head = omega arith in
    or_left (same (u64 (head + 0)) (u64 head)) _ (ap (λ (n : ℕ). same (u64 n) (u64 head)) here ∙ same_itself (u64 head))
in_indices (v ∷ l) head (suc i) item e =
    let there : (head + 1) + i ≡ head + suc i = omega arith in
    or_right (same (u64 (head + suc i)) (u64 head)) _ (subst (λ (n : ℕ). among (indices (head + 1) l) (u64 n) ≡ true) there (in_indices l (head + 1) i item e))

-- so has each item
item_among : (l : List Bytes) (head : ℕ) (subkey item : Bytes) → IsItem l head subkey item → among (indices head l) subkey ≡ true
item_among l head subkey item i =
    let from = i.from in
    let there : head + (i.index - head) ≡ i.index = omega arith in
    subst (λ (x : Bytes). among (indices head l) x ≡ true) (ap u64 there ∙ sym i.spelled) (in_indices l head (i.index - head) item i.is)

-- ---- the members of a sorted set by score

-- a member stands under its score
pub record IsMember (z : Map ℤ) (o : Option (ℕ × Bytes)) (row : Bytes) : Type 0 where
  pub member : Bytes
  pub score : ℤ
  pub has : get z member ≡ Some score
  pub spelled : o ≡ Some (score_number score, member)
  pub is : [] ≡ row

-- a score with this number is the member's
at_member : (z : Map ℤ) (number : ℕ) (member row : Bytes) (s : Option ℤ) → get z member ≡ s → is_scored s number ≡ true → [] ≡ row → IsMember z (Some (number, member)) row
at_member z number member row None has scored is = absurd (cc)
at_member z number member row (Some score) has scored is =
    record { member = member; score = score; has = has; spelled = ap (λ (n : ℕ). Some (n, member)) (sym (number_is (score_number score) number scored)); is = is }

-- the row of a member stands under its score
pub member_is : (z : Map ℤ) (o : Option (ℕ × Bytes)) (row : Bytes) → member_row z o ≡ Some row → IsMember z o row
member_is z None row e = absurd (cc)
member_is z (Some (number, member)) row e =
    let passed = if_is (is_scored (get z member) number) (Some []) row e in
    at_member z number member row (get z member) refl passed.0 (same_some [] row passed.1)

-- ---- each row stands at one of the raw keys

-- the subkey of a row is one of its value's
pub row_among : (v : Value) (side : Side) (subkey row : Bytes) → row_of v first_life.head side subkey ≡ Some row → among (subkeys v side) subkey ≡ true
row_among (Hash h) Elements field row e = in_map (λ e. e.0) h field row e
row_among (ListOf l) Elements subkey row e = item_among l first_life.head subkey row (item_is l first_life.head subkey row e)
row_among (SetOf s) Elements member row e = let there = map_is _ (get s member) row e in in_map (λ e. e.0) s member there.0 there.1
row_among (ZSet z) Elements member row e = let there = map_is _ (get z member) row e in in_map (λ e. e.0) z member there.0 there.1
row_among (ZSet z) Scores subkey row e =
    let m = member_is z (read_u64 subkey) row e in
    let spelled = (only_u64_is_read subkey (score_number m.score) m.member m.spelled).0 in
    subst (λ (x : Bytes). among (subkeys (ZSet z) Scores) x ≡ true) (sym spelled) (in_map (λ e. u64 (score_number e.1) ++ e.0) z m.member m.score m.has)
row_among (Str v) side subkey row e = absurd (cc)
row_among (Hash h) Scores subkey row e = absurd (cc)
row_among (ListOf l) Scores subkey row e = absurd (cc)
row_among (SetOf s) Scores subkey row e = absurd (cc)

-- and its raw key one of its key's
pub row_in_raws : (k : Bytes) (e : Entry) (side : Side) (subkey : Bytes) → among (subkeys e.value side) subkey ≡ true → among (raws_of (k, e)) (row_key side k first_life.version subkey) ≡ true
row_in_raws k e Elements subkey h =
    or_right (same (row_key Elements k first_life.version subkey) (meta_key k)) _ (list_any-append (same (row_key Elements k first_life.version subkey)) (map (row_key Elements k first_life.version) (subkeys e.value Elements)) _
    ∙ or_left _ _ (in_mapped (row_key Elements k first_life.version) (subkeys e.value Elements) subkey h))
row_in_raws k e Scores subkey h =
    or_right (same (row_key Scores k first_life.version subkey) (meta_key k)) _ (list_any-append (same (row_key Scores k first_life.version subkey)) (map (row_key Elements k first_life.version) (subkeys e.value Elements)) _
    ∙ or_right (among (map (row_key Elements k first_life.version) (subkeys e.value Elements)) (row_key Scores k first_life.version subkey)) _ (in_mapped (row_key Scores k first_life.version) (subkeys e.value Scores) subkey h))
