-- Laws on what stands in `RowKeys.antt`.
use Rattle.std.proofs.Common.{◌≡◌, ◌≢◌, ◌<◌, ◌^◌, ℕ, ◌∷◌, ◌++◌, refl, sym, ap, subst, ◌∙◌, Bool, true, false, inl, inr, length, arith}
use Rattle.std.proofs.lemmas.Bool.Decides.{nat_tests}
use Rattle.std.specs.Prelude.{◌&&◌, Option, Some, None, IsTrue, IfSome, is_some, ℤ}
use Rattle.kv_base.specs.Map.{Bytes, same, same_is, same_itself, get}
use Rattle.kv_base.specs.Number.{fits}
use Rattle.kv_base.specs.Fields.{u64, text}
use Rattle.kv_base.specs.InversionLaws.{same_some, kept_is, both_first, both_second}
use Rattle.kv_base.specs.RawKeys.{RawKey, MetaKey, ElementKey, ScoreKey, LifeAndRest, is_key, is_version, is_raw_within, score_number, raw_text, raw_parts, read_life, read_raw, is_raw_text}
use Rattle.kv_base.specs.RawKeyLaws.{life_is_read, raw_is_read, only_raw_is_read}
use Rattle.kv_base.specs.MetaValues.{is_value_text, is_value_of}
use Rattle.lives_model.specs.Rows.{Rows, IsOnGrammar, Side, Elements, Scores, meta_key, row_key}
use Rattle.lives_model.specs.RowKeys.{IsSameRow, IsOfKey, key_of, HasKey}

-- ---- metadata

-- different keys have their metadata at different places
pub meta_key_is : (k j : Bytes) → meta_key k ≡ meta_key j → k ≡ j
unfolding meta_key raw_text
meta_key_is k j e = cc

-- and the test tells it
pub same_meta_key : (k j : Bytes) → same (meta_key k) (meta_key j) ≡ same k j
same_meta_key k j = by_sides (same (meta_key k) (meta_key j)) (same k j) refl refl
  where
    by_sides : (a b : Bool) → same (meta_key k) (meta_key j) ≡ a → same k j ≡ b → a ≡ b
    by_sides true true ea eb = refl
    by_sides false false ea eb = refl
    by_sides true false ea eb = let is = meta_key_is k j (same_is (meta_key k) (meta_key j) ea) in let no : same k j ≡ true = subst (λ (x : Bytes). same k x ≡ true) is (same_itself k) in cc
    by_sides false true ea eb = let is = same_is k j eb in let no : same (meta_key k) (meta_key j) ≡ true = subst (λ (x : Bytes). same (meta_key k) (meta_key x) ≡ true) is (same_itself (meta_key k)) in cc

-- the place of a key's metadata is read as such, and as nothing else
pub meta_key_is_read : (k : Bytes) → IsTrue (is_key k) → read_raw (meta_key k) ≡ Some (MetaKey k)
unfolding meta_key is_raw_within
meta_key_is_read k h = raw_is_read (MetaKey k) h

-- it is read as nothing else, whatever the key's length
pub only_meta_key_is_read : (k : Bytes) (r : RawKey) → read_raw (meta_key k) ≡ Some r → r ≡ MetaKey k
unfolding meta_key raw_text read_raw raw_parts
only_meta_key_is_read k r e = sym (same_some (MetaKey k) r (kept_is is_raw_within (Some (MetaKey k)) r e).0)

-- ---- rows of a life

-- bytes that begin with different ones differ
differ : (a b : ℕ) (x y : Bytes) → a ≢ b → a ∷ x ≢ b ∷ y
differ a b x y other e = let first : a ≡ b = cc in other first

-- no row of a life stands where metadata stands
pub row_key_is_no_meta_key : (side : Side) (k : Bytes) (version : ℕ) (subkey j : Bytes) → row_key side k version subkey ≢ meta_key j
unfolding row_key meta_key raw_text
row_key_is_no_meta_key Elements k version subkey j e = differ 115 109 _ _ (λ n. omega arith) e
row_key_is_no_meta_key Scores k version subkey j e = differ 122 109 _ _ (λ n. omega arith) e

-- the test says no
pub same_row_meta : (side : Side) (k : Bytes) (version : ℕ) (subkey j : Bytes) → same (row_key side k version subkey) (meta_key j) ≡ false
same_row_meta side k version subkey j = by_test (same (row_key side k version subkey) (meta_key j)) refl
  where
    by_test : (b : Bool) → same (row_key side k version subkey) (meta_key j) ≡ b → b ≡ false
    by_test true e = absurd (row_key_is_no_meta_key side k version subkey j (same_is _ _ e))
    by_test false e = refl

-- nor the other way round
pub same_meta_row : (side : Side) (k : Bytes) (version : ℕ) (subkey j : Bytes) → same (meta_key j) (row_key side k version subkey) ≡ false
same_meta_row side k version subkey j = by_test (same (meta_key j) (row_key side k version subkey)) refl
  where
    by_test : (b : Bool) → same (meta_key j) (row_key side k version subkey) ≡ b → b ≡ false
    by_test true e = absurd (row_key_is_no_meta_key side k version subkey j (sym (same_is _ _ e)))
    by_test false e = refl

-- a key's length fits four bytes
short_key : (key : Bytes) → is_key key ≡ true → length key < 2 ^ 32
short_key key h = grind (arith, nat_tests)

-- a version fits eight bytes
low_version : (version : ℕ) → is_version version ≡ true → version < 2 ^ 64
low_version version h = grind (arith, nat_tests)

-- what stands behind the space of a row tells its key, its version and its subkey
same_behind : (k j : Bytes) (version v : ℕ) (subkey x : Bytes) → IsTrue (is_key k) → IsTrue (is_key j) → IsTrue (is_version version) → IsTrue (is_version v)
    → (text k ++ u64 version) ++ subkey ≡ (text j ++ u64 v) ++ x → (k ≡ j) × (version ≡ v) × (subkey ≡ x)
same_behind k j version v subkey x hk hj hv hw e =
    let both : Some (record { key = k; version = version; behind = subkey }) ≡ Some (record { key = j; version = v; behind = x }) =
    sym (life_is_read k version subkey (short_key k hk) (low_version version hv)) ∙ ap read_life e ∙ life_is_read j v x (short_key j hj) (low_version v hw) in
    let life = same_some {X = LifeAndRest} (record { key = k; version = version; behind = subkey }) (record { key = j; version = v; behind = x }) both in
    (ap (λ l. l.key) life, ap (λ l. l.version) life, ap (λ l. l.behind) life)

-- rows that stand at one place have equal parts
pub row_key_is : (side other : Side) (k j : Bytes) (version v : ℕ) (subkey x : Bytes) → IsTrue (is_key k) → IsTrue (is_key j) → IsTrue (is_version version) → IsTrue (is_version v)
    → row_key side k version subkey ≡ row_key other j v x → IsSameRow side other k j version v subkey x
unfolding row_key
row_key_is Elements Elements k j version v subkey x hk hj hv hw e =
    let behind : (text k ++ u64 version) ++ subkey ≡ (text j ++ u64 v) ++ x = cc in
    let parts = same_behind k j version v subkey x hk hj hv hw behind in
    record { side_is = refl; key_is = parts.0; version_is = parts.1; subkey_is = parts.2 }
row_key_is Scores Scores k j version v subkey x hk hj hv hw e =
    let behind : (text k ++ u64 version) ++ subkey ≡ (text j ++ u64 v) ++ x = cc in
    let parts = same_behind k j version v subkey x hk hj hv hw behind in
    record { side_is = refl; key_is = parts.0; version_is = parts.1; subkey_is = parts.2 }
row_key_is Elements Scores k j version v subkey x hk hj hv hw e = absurd (differ 115 122 _ _ (λ n. omega arith) e)
row_key_is Scores Elements k j version v subkey x hk hj hv hw e = absurd (differ 122 115 _ _ (λ n. omega arith) e)

-- within one life, rows differ where their subkeys do
pub same_row_key : (side : Side) (k : Bytes) (version : ℕ) (subkey x : Bytes) → IsTrue (is_key k) → IsTrue (is_version version) → same (row_key side k version subkey) (row_key side k version x) ≡ same subkey x
same_row_key side k version subkey x hk hv = by_sides (same (row_key side k version subkey) (row_key side k version x)) (same subkey x) refl refl
  where
    by_sides : (a b : Bool) → same (row_key side k version subkey) (row_key side k version x) ≡ a → same subkey x ≡ b → a ≡ b
    by_sides true true ea eb = refl
    by_sides false false ea eb = refl
    by_sides true false ea eb =
        let is = (row_key_is side side k k version version subkey x hk hk hv hv (same_is _ _ ea)).subkey_is in
        let no : same subkey x ≡ true = subst (λ (y : Bytes). same subkey y ≡ true) is (same_itself subkey) in cc
    by_sides false true ea eb =
        let is = same_is subkey x eb in
        let no : same (row_key side k version subkey) (row_key side k version x) ≡ true = subst (λ (y : Bytes). same (row_key side k version subkey) (row_key side k version y) ≡ true) is (same_itself (row_key side k version subkey)) in cc

-- rows of two keys, two versions or two sides stand at different places
pub same_row_other : (side other : Side) (k j : Bytes) (version v : ℕ) (subkey x : Bytes) → IsTrue (is_key k) → IsTrue (is_key j) → IsTrue (is_version version) → IsTrue (is_version v)
    → (IsSameRow side other k j version v subkey x → ⊥) → same (row_key side k version subkey) (row_key other j v x) ≡ false
same_row_other side other k j version v subkey x hk hj hv hw differ = by_test (same (row_key side k version subkey) (row_key other j v x)) refl
  where
    by_test : (b : Bool) → same (row_key side k version subkey) (row_key other j v x) ≡ b → b ≡ false
    by_test true e = absurd (differ (row_key_is side other k j version v subkey x hk hj hv hw (same_is _ _ e)))
    by_test false e = refl

-- ---- read back

-- two tests have passed
and_both : (a b : Bool) → a ≡ true → b ≡ true → (a && b) ≡ true
and_both true b e f = f
and_both false b e f = cc

-- a row among the elements is read as an element
pub element_row_is_read : (k : Bytes) (version : ℕ) (subkey : Bytes) → IsTrue (is_key k) → IsTrue (is_version version) → IsTrue (is_key subkey)
    → read_raw (row_key Elements k version subkey) ≡ Some (ElementKey k version subkey)
unfolding row_key raw_text is_raw_within
element_row_is_read k version subkey hk hv hx = raw_is_read (ElementKey k version subkey) (and_both _ _ (and_both _ _ hk hv) hx)

-- and a row on the side of scores as a member with its score
pub score_row_is_read : (k : Bytes) (version : ℕ) (score : ℤ) (member : Bytes) → IsTrue (is_key k) → IsTrue (is_version version) → IsTrue (fits score) → IsTrue (is_key member)
    → read_raw (row_key Scores k version (u64 (score_number score) ++ member)) ≡ Some (ScoreKey k version score member)
unfolding row_key raw_text is_raw_within
score_row_is_read k version score member hk hv hs hx = raw_is_read (ScoreKey k version score member) (and_both _ _ (and_both _ _ (and_both _ _ hk hv) hs) hx)

-- ---- each raw key is one of a key

-- a raw key is one of its own key
pub raw_is_of_key : (r : RawKey) → IsTrue (is_raw_within r) → IsTrue (is_key (key_of r)) × IsOfKey (key_of r) (raw_text r)
unfolding meta_key row_key raw_text is_raw_within
raw_is_of_key (MetaKey k) h = (h, inl refl)
raw_is_of_key (ElementKey k version subkey) h =
    let life = both_first (is_key k && is_version version) (is_key subkey) h in
    (both_first (is_key k) (is_version version) life, inr (record { side = Elements; version = version; subkey = subkey; fits = both_second (is_key k) (is_version version) life; is = refl }))
raw_is_of_key (ScoreKey k version score member) h =
    let life = both_first (is_key k && is_version version) (fits score) (both_first (is_key k && is_version version && fits score) (is_key member) h) in
    (both_first (is_key k) (is_version version) life, inr (record { side = Scores; version = version; subkey = u64 (score_number score) ++ member; fits = both_second (is_key k) (is_version version) life; is = refl }))

-- bytes that are read as a raw key have a key
pub has_key : (raw : Bytes) → IsTrue (is_raw_text raw) → HasKey raw
has_key raw h = by_read (read_raw raw) refl h
  where
    by_read : (o : Option RawKey) → read_raw raw ≡ o → is_some o ≡ true → HasKey raw
    by_read None e f = absurd (cc)
    by_read (Some r) e f =
        let whole = only_raw_is_read raw r e in
        let own = raw_is_of_key r whole.1 in
        record { key = key_of r; short = own.0; is = subst (IsOfKey (key_of r)) (sym whole.0) own.1 }

-- ---- rows on their grammar

-- what stands under a raw key is read as a raw key
pub row_is_read : (c : Rows) (raw value : Bytes) → IsOnGrammar c → get c raw ≡ Some value → is_value_of (read_raw raw) value ≡ true
unfolding is_value_text
row_is_read c raw value on e = subst (λ (o : Option Bytes). IfSome o (λ v. IsTrue (is_value_text raw v))) e (on.at raw)
