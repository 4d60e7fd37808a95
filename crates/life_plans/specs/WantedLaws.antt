-- What the wishes of a command come to among the elements of a life: with them, the rows are those of the collection after
-- the command.
use Rattle.std.proofs.Common.{ℕ, ◌≡◌, refl, sym, ap, ◌∙◌, Bool, true, false, cond, List, [], ◌∷◌, arith}
use Rattle.std.proofs.lemmas.List.Elements.{All-nil, All-cons, All-head, All-tail}
use Rattle.std.specs.Prelude.{◌||◌, not, Option, Some, None, IsTrue, All, zip, map, fold, option_map}
use Rattle.kv_base.specs.Map.{Bytes, Map, Set, same, kept, get, empty, keys, insert, remove, insert_all, keep, get-insert, get-remove, get-keep}
use Rattle.kv_base.specs.RawKeys.{is_key, is_version}
use Rattle.kv_base.specs.declared.kind.Kind.{Kind as Code}
use Rattle.batch_codec.specs.Batches.{Batch}
use Rattle.batch_codec.specs.EntryListLaws.{from_its_entries}
use Rattle.redis_model.specs.Outcome.{Kind, hashes, sets}
use Rattle.redis_model.specs.Keys.{among}
use Rattle.redis_model.specs.Sets.{with_members}
use Rattle.redis_model.specs.Limits.{IsName}
use Rattle.lives_model.specs.Rows.{Rows, Elements, row_key}
use Rattle.lives_model.specs.Plans.{IsFresh}
use Rattle.plan_base.specs.declared.life.LifeSight.{LifeSight}
use Rattle.plan_base.specs.KeyLimitLaws.{name_is_key, names_are_keys}
use Rattle.plan_base.specs.Lives.{StandsAs, IsLifeOf, HasVersionIn}
use Rattle.plan_base.specs.LifeLaws.{hash_stands, set_stands, member_row_of}
use Rattle.plan_base.specs.LifeSteps.{life_on}
use Rattle.plan_base.specs.LifeChanges.{WantsRows}
use Rattle.plan_base.specs.LifeChangeLaws.{with_element, wants_nothing, wants_one}
use Rattle.life_plans.specs.WantedRows.{Wish, with_wish, wanted, puts, joins, leaves}

-- ---- wishes

-- the subkey of a wish fits into a raw key
abbrev pub IsShortWish : Wish → Type 0
IsShortWish wish = IsTrue (is_key wish.0)

-- the rows with those that are wished for, of one subkey the last one
abbrev pub wished : List Wish → (Bytes → Option Bytes) → Bytes → Option Bytes
wished wishes rows = fold (λ now wish. with_element wish.0 wish.1 now) rows wishes

-- what a batch wants comes to the same rows by another name
pub wants_same : {c : Rows} {k : Bytes} {version : ℕ} {batch : Batch} {rows : Bytes → Option Bytes} (others : Bytes → Option Bytes)
    → ((subkey : Bytes) → rows subkey ≡ others subkey) → WantsRows c k version batch rows → WantsRows c k version batch others
wants_same others alike w = record { only = w.only; after = λ subkey. w.after subkey ∙ alike subkey }

-- wishes behind a batch that wants rows
wants_behind : (c : Rows) (k : Bytes) (version : ℕ) (wishes : List Wish) (batch : Batch) (rows : Bytes → Option Bytes) → IsTrue (is_key k) → IsTrue (is_version version) → All IsShortWish wishes
    → WantsRows c k version batch rows → WantsRows c k version (fold (with_wish k version) batch wishes) (wished wishes rows)
wants_behind c k version [] batch rows short fits low w = w
wants_behind c k version (wish ∷ wishes) batch rows short fits low w =
    wants_behind c k version wishes (with_wish k version batch wish) (with_element wish.0 wish.1 rows) short fits (All-tail IsShortWish wish wishes low)
    (wants_one c k version batch rows wish.0 wish.1 short fits (All-head IsShortWish wish wishes low) w)

-- Wishes want the rows that are there, with those that are wished for.
pub wants_all : (c : Rows) (k : Bytes) (version : ℕ) (wishes : List Wish) (rows : Bytes → Option Bytes) → ((subkey : Bytes) → get c (row_key Elements k version subkey) ≡ rows subkey)
    → IsTrue (is_key k) → IsTrue (is_version version) → All IsShortWish wishes → WantsRows c k version (wanted k version wishes) (wished wishes rows)
unfolding wanted
wants_all c k version wishes rows there short fits low = wants_behind c k version wishes _ rows short fits low (wants_nothing c k version rows there)

-- ---- the subkeys of wishes fit where they are names

-- fields with their values
pub puts_short : (fs vs : List Bytes) → All IsName fs → All IsShortWish (puts (zip fs vs))
puts_short [] vs names = All-nil IsShortWish
puts_short (f ∷ fs) [] names = All-nil IsShortWish
puts_short (f ∷ fs) (v ∷ vs) names =
    All-cons IsShortWish (f, Some v) (puts (zip fs vs)) (name_is_key f (All-head IsName f fs names)) (puts_short fs vs (All-tail IsName f fs names))

-- members, and elements that go
pub keys_short : (row : Option Bytes) (xs : List Bytes) → All (λ x. IsTrue (is_key x)) xs → All IsShortWish (map (λ x. (x, row)) xs)
keys_short row [] short = All-nil IsShortWish
keys_short row (x ∷ xs) short =
    All-cons IsShortWish (x, row) (map (λ y. (y, row)) xs) (All-head (λ y. IsTrue (is_key y)) x xs short) (keys_short row xs (All-tail (λ y. IsTrue (is_key y)) x xs short))

-- which they do where they are names
pub each_short : (row : Option Bytes) (xs : List Bytes) → All IsName xs → All IsShortWish (map (λ x. (x, row)) xs)
each_short row xs names = keys_short row xs (names_are_keys xs names)

-- and one alone
pub one_short : (x : Bytes) (row : Option Bytes) → IsName x → All IsShortWish ((x, row) ∷ [])
one_short x row name = All-cons IsShortWish (x, row) [] (name_is_key x name) (All-nil IsShortWish)

-- ---- what the rows of a collection become

-- rows that are alike stay so with the same wishes
wished_alike : (wishes : List Wish) (rows others : Bytes → Option Bytes) → ((q : Bytes) → rows q ≡ others q) → (q : Bytes) → wished wishes rows q ≡ wished wishes others q
wished_alike [] rows others alike q = alike q
wished_alike (wish ∷ wishes) rows others alike q =
    wished_alike wishes (with_element wish.0 wish.1 rows) (with_element wish.0 wish.1 others) (λ p. ap (cond (same p wish.0) wish.1) (alike p)) q

-- fields that are put
put_rows : (es : List (Bytes × Bytes)) (h : Map Bytes) (q : Bytes) → wished (puts es) (get h) q ≡ get (insert_all h es) q
put_rows [] h q = refl
put_rows (e ∷ es) h q =
    wished_alike (puts es) (with_element e.0 (Some e.1) (get h)) (get (insert h e.0 e.1)) (λ p. sym (get-insert h e.0 e.1 p)) q
    ∙ put_rows es (insert h e.0 e.1) q

-- a function of what one of two is
mapped_cond : {X Y : Type 0} (f : Option X → Option Y) (b : Bool) (o p : Option X) → f (cond b o p) ≡ cond b (f o) (f p)
mapped_cond f true o p = refl
mapped_cond f false o p = refl

-- members that join
join_rows : (xs : List Bytes) (s : Set) (q : Bytes) → wished (joins xs) (member_row_of s) q ≡ member_row_of (with_members s xs) q
join_rows [] s q = refl
join_rows (x ∷ xs) s q =
    wished_alike (joins xs) (with_element x (Some []) (member_row_of s)) (member_row_of (insert s x tt))
    (λ p. sym (ap (option_map (λ _. [])) (get-insert s x tt p) ∙ mapped_cond (option_map (λ _. [])) (same p x) (Some tt) (get s p))) q
    ∙ join_rows xs (insert s x tt) q

-- elements that go have no rows, and the other ones stay
leave_rows : (xs : List Bytes) (rows : Bytes → Option Bytes) (q : Bytes) → wished (leaves xs) rows q ≡ cond (among xs q) None (rows q)
leave_rows [] rows q = refl
leave_rows (x ∷ xs) rows q = leave_rows xs (with_element x None rows) q ∙ by_test (same q x) (among xs q) (rows q)
  where
    by_test : (s a : Bool) (o : Option Bytes) → cond a None (cond s None o) ≡ cond (s || a) None o
    by_test true true o = refl
    by_test true false o = refl
    by_test false a o = refl

-- what is kept that is not to go
kept_or_none : {X : Type 0} (gone : Bool) (o : Option X) → cond gone None o ≡ kept (λ _. not gone) o
kept_or_none true None = refl
kept_or_none true (Some x) = refl
kept_or_none false None = refl
kept_or_none false (Some x) = refl

-- a hash without these fields
hash_leave_rows : (fs : List Bytes) (h : Map Bytes) (q : Bytes) → wished (leaves fs) (get h) q ≡ get (keep (λ f _. not (among fs f)) h) q
hash_leave_rows fs h q = leave_rows fs (get h) q ∙ kept_or_none (among fs q) (get h q) ∙ sym (get-keep (λ f _. not (among fs f)) h q)

-- a set without these members
set_leave_rows : (xs : List Bytes) (s : Set) (q : Bytes) → wished (leaves xs) (member_row_of s) q ≡ member_row_of (keep (λ x _. not (among xs x)) s) q
set_leave_rows xs s q =
    leave_rows xs (member_row_of s) q
    ∙ sym (mapped_cond (option_map (λ _. [])) (among xs q) None (get s q))
    ∙ ap (option_map (λ _. [])) (kept_or_none (among xs q) (get s q) ∙ sym (get-keep (λ x _. not (among xs x)) s q))

-- ---- on the rows of a life

module _ (c : Rows) (k : Bytes) (version : ℕ) (short : IsTrue (is_key k)) (fits : IsTrue (is_version version)) where
  -- fields that are put, of a field that comes twice the last value
  pub wants_puts : (h : Map Bytes) → ((f : Bytes) → get c (row_key Elements k version f) ≡ get h f) → (fs vs : List Bytes) → All IsName fs
      → WantsRows c k version (wanted k version (puts (zip fs vs))) (get (insert_all h (zip fs vs)))
  wants_puts h there fs vs names =
      wants_same (get (insert_all h (zip fs vs))) (put_rows (zip fs vs) h) (wants_all c k version (puts (zip fs vs)) (get h) there short fits (puts_short fs vs names))

  -- one field
  pub wants_put : (h : Map Bytes) → ((f : Bytes) → get c (row_key Elements k version f) ≡ get h f) → (f v : Bytes) → IsName f
      → WantsRows c k version (wanted k version (puts ((f, v) ∷ []))) (get (insert h f v))
  wants_put h there f v name =
      wants_same (get (insert h f v)) (put_rows ((f, v) ∷ []) h) (wants_all c k version (puts ((f, v) ∷ [])) (get h) there short fits (one_short f (Some v) name))

  -- fields that go
  pub wants_no_fields : (h : Map Bytes) → ((f : Bytes) → get c (row_key Elements k version f) ≡ get h f) → (fs : List Bytes) → All IsName fs
      → WantsRows c k version (wanted k version (leaves fs)) (get (keep (λ f _. not (among fs f)) h))
  wants_no_fields h there fs names =
      wants_same (get (keep (λ f _. not (among fs f)) h)) (hash_leave_rows fs h) (wants_all c k version (leaves fs) (get h) there short fits (each_short None fs names))

  -- members that join
  pub wants_members : (s : Set) → ((x : Bytes) → get c (row_key Elements k version x) ≡ member_row_of s x) → (xs : List Bytes) → All IsName xs
      → WantsRows c k version (wanted k version (joins xs)) (member_row_of (with_members s xs))
  wants_members s there xs names =
      wants_same (member_row_of (with_members s xs)) (join_rows xs s) (wants_all c k version (joins xs) (member_row_of s) there short fits (each_short (Some []) xs names))

  -- one member
  pub wants_member : (s : Set) → ((x : Bytes) → get c (row_key Elements k version x) ≡ member_row_of s x) → (x : Bytes) → IsName x
      → WantsRows c k version (wanted k version (joins (x ∷ []))) (member_row_of (insert s x tt))
  wants_member s there x name = wants_members s there (x ∷ []) (All-cons IsName x [] name (All-nil IsName))

  -- members that go
  pub wants_no_members : (s : Set) → ((x : Bytes) → get c (row_key Elements k version x) ≡ member_row_of s x) → (xs : List Bytes) → All IsName xs
      → WantsRows c k version (wanted k version (leaves xs)) (member_row_of (keep (λ x _. not (among xs x)) s))
  wants_no_members s there xs names =
      wants_same (member_row_of (keep (λ x _. not (among xs x)) s)) (set_leave_rows xs s) (wants_all c k version (leaves xs) (member_row_of s) there short fits (each_short None xs names))

  -- one member
  pub wants_no_member : (s : Set) → ((x : Bytes) → get c (row_key Elements k version x) ≡ member_row_of s x) → (x : Bytes) → IsName x
      → WantsRows c k version (wanted k version (leaves (x ∷ []))) (member_row_of (remove s x))
  wants_no_member s there x name =
      wants_same (member_row_of (remove s x))
      (λ q. sym (ap (option_map (λ _. [])) (get-remove s x q) ∙ mapped_cond (option_map (λ _. [])) (same q x) None (get s q)))
      (wants_all c k version (leaves (x ∷ [])) (member_row_of s) there short fits (one_short x None name))

-- ---- a set that is stored whole

-- a set is what its members join to
members_again : (s : Set) → with_members empty (keys s) ≡ s
members_again s = ap (insert_all empty) (pairs s.entries) ∙ from_its_entries s
  where
    pairs : (es : List (Bytes × Unit {0})) → map (λ x. (x, tt)) (map (λ e. e.0) es) ≡ es
    pairs [] = refl
    pairs (e ∷ es) = ap (λ rest. e ∷ rest) (pairs es)

-- SINTERSTORE and its kin: in a life that begins there is nothing, and all members join
pub wants_set : (c : Rows) (k : Bytes) (fresh : ℕ) → IsTrue (is_key k) → IsTrue (is_version fresh) → IsFresh c fresh k → (s : Set) → All (λ x. IsTrue (is_key x)) (keys s)
    → WantsRows c k fresh (wanted k fresh (joins (keys s))) (member_row_of s)
wants_set c k fresh short fits above s low =
    wants_same (member_row_of s) (λ q. join_rows (keys s) empty q ∙ ap (λ (z : Set). member_row_of z q) (members_again s))
    (wants_all c k fresh (joins (keys s)) (member_row_of empty) (λ x. above Elements fresh x (omega arith) fits ∙ sym (set_stands.none x)) short fits (keys_short (Some []) (keys s) low))

-- ---- on the life that is found, or begins

-- its version is within its limits
pub life_on_fits : (fresh : ℕ) (found : Option LifeSight) → IsTrue (is_version fresh) → HasVersionIn found → IsTrue (is_version (life_on fresh found).version)
life_on_fits fresh None fits h = fits
life_on_fits fresh (Some life) fits h = h

module _ {A : Type 0} {kind : Kind A} {code : Code} {row : A → Bytes → Option Bytes} (stands : StandsAs kind code row) where
  -- its rows are those of the collection that is there: none where the life only begins
  pub life_on_rows : (c : Rows) (k : Bytes) (fresh : ℕ) (found : Option LifeSight) (a : A) → IsTrue (is_version fresh) → IsFresh c fresh k → IsLifeOf kind row c k found a
      → (subkey : Bytes) → get c (row_key Elements k (life_on fresh found).version subkey) ≡ row a subkey
  life_on_rows c k fresh None a fits above is subkey = above Elements fresh subkey (omega arith) fits ∙ sym (ap (λ x. row x subkey) is ∙ stands.none subkey)
  life_on_rows c k fresh (Some life) a fits above is subkey = is.1 subkey

module _ (c : Rows) (k : Bytes) (fresh : ℕ) (found : Option LifeSight) (short : IsTrue (is_key k)) (fits : IsTrue (is_version fresh)) (low : HasVersionIn found) (above : IsFresh c fresh k) where
  -- HSET: fields that are put
  pub life_puts : (h : Map Bytes) → IsLifeOf hashes get c k found h → (fs vs : List Bytes) → All IsName fs
      → WantsRows c k (life_on fresh found).version (wanted k (life_on fresh found).version (puts (zip fs vs))) (get (insert_all h (zip fs vs)))
  life_puts h is fs vs names = wants_puts c k (life_on fresh found).version short (life_on_fits fresh found fits low) h (life_on_rows hash_stands c k fresh found h fits above is) fs vs names

  -- HSETNX and HINCRBY: one field
  pub life_put : (h : Map Bytes) → IsLifeOf hashes get c k found h → (f v : Bytes) → IsName f
      → WantsRows c k (life_on fresh found).version (wanted k (life_on fresh found).version (puts ((f, v) ∷ []))) (get (insert h f v))
  life_put h is f v name = wants_put c k (life_on fresh found).version short (life_on_fits fresh found fits low) h (life_on_rows hash_stands c k fresh found h fits above is) f v name

  -- HDEL: fields that go
  pub life_no_fields : (h : Map Bytes) → IsLifeOf hashes get c k found h → (fs : List Bytes) → All IsName fs
      → WantsRows c k (life_on fresh found).version (wanted k (life_on fresh found).version (leaves fs)) (get (keep (λ f _. not (among fs f)) h))
  life_no_fields h is fs names = wants_no_fields c k (life_on fresh found).version short (life_on_fits fresh found fits low) h (life_on_rows hash_stands c k fresh found h fits above is) fs names

  -- SADD: members that join
  pub life_members : (s : Set) → IsLifeOf sets member_row_of c k found s → (xs : List Bytes) → All IsName xs
      → WantsRows c k (life_on fresh found).version (wanted k (life_on fresh found).version (joins xs)) (member_row_of (with_members s xs))
  life_members s is xs names = wants_members c k (life_on fresh found).version short (life_on_fits fresh found fits low) s (life_on_rows set_stands c k fresh found s fits above is) xs names

  -- SMOVE, at its target: one member
  pub life_member : (s : Set) → IsLifeOf sets member_row_of c k found s → (x : Bytes) → IsName x
      → WantsRows c k (life_on fresh found).version (wanted k (life_on fresh found).version (joins (x ∷ []))) (member_row_of (insert s x tt))
  life_member s is x name = wants_member c k (life_on fresh found).version short (life_on_fits fresh found fits low) s (life_on_rows set_stands c k fresh found s fits above is) x name

  -- SREM: members that go
  pub life_no_members : (s : Set) → IsLifeOf sets member_row_of c k found s → (xs : List Bytes) → All IsName xs
      → WantsRows c k (life_on fresh found).version (wanted k (life_on fresh found).version (leaves xs)) (member_row_of (keep (λ x _. not (among xs x)) s))
  life_no_members s is xs names = wants_no_members c k (life_on fresh found).version short (life_on_fits fresh found fits low) s (life_on_rows set_stands c k fresh found s fits above is) xs names

  -- SMOVE, at its source: one member
  pub life_no_member : (s : Set) → IsLifeOf sets member_row_of c k found s → (x : Bytes) → IsName x
      → WantsRows c k (life_on fresh found).version (wanted k (life_on fresh found).version (leaves (x ∷ []))) (member_row_of (remove s x))
  life_no_member s is x name = wants_no_member c k (life_on fresh found).version short (life_on_fits fresh found fits low) s (life_on_rows set_stands c k fresh found s fits above is) x name
