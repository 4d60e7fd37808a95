-- A raw key is read back as it was written, and nothing else is read. So different raw keys have different bytes, and only
-- the raw keys of a life begin with its prefix.
use Rattle.std.proofs.Common.{◌≡◌, ◌≢◌, ℕ, ◌+◌, ◌-◌, ◌<◌, ◌≤◌, ◌^◌, [], ◌∷◌, ◌++◌, refl, sym, ap, subst, ◌∙◌, Bool, true, false, cond, length, Some, None, option_map, option_and_then, append_assoc, arith}
use Rattle.std.specs.Prelude.{◌==◌, ◌&&◌, nat_le, IsTrue, ℤ, pos, negsuc}
use Rattle.std.proofs.lemmas.Bool.Decides.{nat_tests}
use Rattle.kv_base.specs.Map.{Bytes, kept}
use Rattle.kv_base.specs.Number.{fits}
use Rattle.kv_base.specs.Fields.{u64, text, read_u64, read_text}
use Rattle.kv_base.specs.FieldLaws.{u64_is_read, text_is_read, only_u64_is_read, only_text_is_read}
use Rattle.kv_base.specs.InversionLaws.{same_some, and_then_is, map_is, if_is, kept_is, both_first, both_second, number_is}
use Rattle.kv_base.specs.RawKeys.{RawKey, MetaKey, ElementKey, ScoreKey, LifeAndRest, is_key, is_version, meta_space, element_space, score_space, is_raw_within, life_prefix, score_number, raw_text, read_life, version_behind, score_from, element_of, score_of, raw_parts, read_raw, IsOfLife}

-- ---- scores

fits_above : (n : ℕ) → fits (pos n) ≡ true → n < 2 ^ 63
fits_above n h = grind (arith, nat_tests, h)

fits_below : (n : ℕ) → fits (negsuc n) ≡ true → n < 2 ^ 63
fits_below n h = grind (arith, nat_tests, h)

pub score_number_low : (s : ℤ) → fits s ≡ true → score_number s < 2 ^ 64
score_number_low (pos n) h = let low = fits_above n h in omega arith
score_number_low (negsuc n) h = omega arith

pub score_is_read : (s : ℤ) → fits s ≡ true → score_from (score_number s) ≡ s
score_is_read (pos n) h =
    let above : nat_le (2 ^ 63) (2 ^ 63 + n) ≡ true = grind (arith, nat_tests) in
    rw above (ap (λ (k : ℕ). pos k) (omega arith))
score_is_read (negsuc n) h =
    let low = fits_below n h in
    let below : nat_le (2 ^ 63) (2 ^ 63 - (n + 1)) ≡ false = grind (arith, nat_tests) in
    rw below (ap (λ (k : ℕ). negsuc k) (omega arith))

by_side : (n : ℕ) (b : Bool) → nat_le (2 ^ 63) n ≡ b → score_number (cond b (pos (n - 2 ^ 63)) (negsuc (2 ^ 63 - 1 - n))) ≡ n
by_side n true h = let above : 2 ^ 63 ≤ n = grind (arith, nat_tests) in omega arith
by_side n false h = let below : n < 2 ^ 63 = grind (arith, nat_tests) in omega arith

pub score_is_written : (n : ℕ) → score_number (score_from n) ≡ n
score_is_written n = by_side n (nat_le (2 ^ 63) n) refl

-- ---- the life in front

pub life_is_read : (key : Bytes) (version : ℕ) (behind : Bytes) → length key < 2 ^ 32 → version < 2 ^ 64
    → read_life ((text key ++ u64 version) ++ behind) ≡ Some (record { key = key; version = version; behind = behind })
unfolding read_life
life_is_read key version behind short low =
    rw (append_assoc (text key) (u64 version) behind, text_is_read key short (u64 version ++ behind), u64_is_read version low behind) refl

pub only_life_is_read : (bytes : Bytes) (life : LifeAndRest) → read_life bytes ≡ Some life
    → (bytes ≡ (text life.key ++ u64 life.version) ++ life.behind) × (length life.key < 2 ^ 32) × (life.version < 2 ^ 64)
unfolding read_life
only_life_is_read bytes life e =
    let front = and_then_is version_behind (read_text bytes) life e in
    let number = map_is (λ (n : ℕ × Bytes). record { key = front.0.0; version = n.0; behind = n.1 }) (read_u64 front.0.1) life front.2 in
    let key = only_text_is_read bytes front.0.0 front.0.1 front.1 in
    let version = only_u64_is_read front.0.1 number.0.0 number.0.1 number.1 in
    let whole : bytes ≡ (text front.0.0 ++ u64 number.0.0) ++ number.0.1 = key.0 ∙ ap (λ b. text front.0.0 ++ b) version.0 ∙ sym (append_assoc (text front.0.0) (u64 number.0.0) number.0.1) in
    subst (λ (l : LifeAndRest). (bytes ≡ (text l.key ++ u64 l.version) ++ l.behind) × (length l.key < 2 ^ 32) × (l.version < 2 ^ 64)) number.2 (whole, key.1, version.1)

short_key : (key : Bytes) → is_key key ≡ true → length key < 2 ^ 32
short_key key h = grind (arith, nat_tests)

low_version : (version : ℕ) → is_version version ≡ true → version < 2 ^ 64
low_version version h = grind (arith, nat_tests)

-- ---- raw keys

within : (r : RawKey) → is_raw_within r ≡ true → kept is_raw_within (Some r) ≡ Some r
within r h = ap (λ b. cond b (Some r) None) h

pub raw_is_read : (r : RawKey) → IsTrue (is_raw_within r) → read_raw (raw_text r) ≡ Some r
unfolding read_raw raw_text raw_parts is_raw_within
raw_is_read (MetaKey key) h = ap (λ b. cond b (Some (MetaKey key)) None) h
raw_is_read (ElementKey key version subkey) h =
    let life = both_first (is_key key && is_version version) (is_key subkey) h in
    let k = both_first (is_key key) (is_version version) life in
    let v = both_second (is_key key) (is_version version) life in
    ap (λ l. kept is_raw_within (option_map element_of l)) (life_is_read key version subkey (short_key key k) (low_version version v))
    ∙ ap (λ b. cond b (Some (ElementKey key version subkey)) None) h
raw_is_read (ScoreKey key version score member) h =
    let before = both_first (is_key key && is_version version && fits score) (is_key member) h in
    let life = both_first (is_key key && is_version version) (fits score) before in
    let s = both_second (is_key key && is_version version) (fits score) before in
    let k = both_first (is_key key) (is_version version) life in
    let v = both_second (is_key key) (is_version version) life in
    ap (λ l. kept is_raw_within (option_and_then score_of l)) (life_is_read key version (u64 (score_number score) ++ member) (short_key key k) (low_version version v))
    ∙ ap (λ n. kept is_raw_within (option_map (λ number. ScoreKey key version (score_from number.0) number.1) n)) (u64_is_read (score_number score) (score_number_low score s) member)
    ∙ ap (λ z. kept is_raw_within (Some (ScoreKey key version z member))) (score_is_read score s)
    ∙ ap (λ b. cond b (Some (ScoreKey key version score member)) None) h

-- a raw key behind its space
abbrev pub spelled_behind : ℕ → Bytes → RawKey → Type 0
spelled_behind space bytes r = space ∷ 0 ∷ bytes ≡ raw_text r

element_is : (bytes : Bytes) (r : RawKey) → option_map element_of (read_life bytes) ≡ Some r → spelled_behind element_space bytes r
unfolding raw_text
element_is bytes r e =
    let life = map_is element_of (read_life bytes) r e in
    let whole = only_life_is_read bytes life.0 life.1 in
    ap (λ b. element_space ∷ 0 ∷ b) whole.0 ∙ ap raw_text life.2

score_is : (bytes : Bytes) (r : RawKey) → option_and_then score_of (read_life bytes) ≡ Some r → spelled_behind score_space bytes r
unfolding raw_text
score_is bytes r e =
    let life = and_then_is score_of (read_life bytes) r e in
    let whole = only_life_is_read bytes life.0 life.1 in
    let number = map_is (λ (n : ℕ × Bytes). ScoreKey life.0.key life.0.version (score_from n.0) n.1) (read_u64 life.0.behind) r life.2 in
    let score = only_u64_is_read life.0.behind number.0.0 number.0.1 number.1 in
    ap (λ b. score_space ∷ 0 ∷ b) whole.0
    ∙ ap (λ b. life_prefix score_space life.0.key life.0.version ++ b) (score.0 ∙ ap (λ n. u64 n ++ number.0.1) (sym (score_is_written number.0.0)))
    ∙ ap raw_text number.2

by_space : (space : ℕ) (bytes : Bytes) (r : RawKey) (m s z : Bool) → (space == meta_space) ≡ m → (space == element_space) ≡ s → (space == score_space) ≡ z
    → cond m (Some (MetaKey bytes)) (cond s (option_map element_of (read_life bytes)) (cond z (option_and_then score_of (read_life bytes)) None)) ≡ Some r
    → spelled_behind space bytes r
unfolding raw_text
by_space space bytes r true s z m_is s_is z_is e =
    ap (λ n. n ∷ 0 ∷ bytes) (number_is space meta_space m_is) ∙ ap raw_text (same_some (MetaKey bytes) r e)
by_space space bytes r false true z m_is s_is z_is e =
    ap (λ n. n ∷ 0 ∷ bytes) (number_is space element_space s_is) ∙ element_is bytes r e
by_space space bytes r false false true m_is s_is z_is e =
    ap (λ n. n ∷ 0 ∷ bytes) (number_is space score_space z_is) ∙ score_is bytes r e
by_space space bytes r false false false m_is s_is z_is e = absurd (cc)

parts_are : (space : ℕ) (bytes : Bytes) (r : RawKey) → raw_parts space bytes ≡ Some r → spelled_behind space bytes r
unfolding raw_parts
parts_are space bytes r e = by_space space bytes r _ _ _ refl refl refl e

pub only_raw_is_read : (bytes : Bytes) (r : RawKey) → read_raw bytes ≡ Some r → (bytes ≡ raw_text r) × IsTrue (is_raw_within r)
unfolding read_raw
only_raw_is_read [] r e = absurd (cc)
only_raw_is_read (space ∷ []) r e = absurd (cc)
only_raw_is_read (space ∷ namespace ∷ bytes) r e =
    let empty = if_is (namespace == 0) (kept is_raw_within (raw_parts space bytes)) r e in
    let read = kept_is is_raw_within (raw_parts space bytes) r empty.1 in
    (ap (λ n. space ∷ n ∷ bytes) (number_is namespace 0 empty.0) ∙ parts_are space bytes r read.0, read.1)

-- ---- raw keys that differ

pub raw_keys_differ : (r q : RawKey) → IsTrue (is_raw_within r) → IsTrue (is_raw_within q) → raw_text r ≡ raw_text q → r ≡ q
raw_keys_differ r q hr hq e = same_some r q (sym (raw_is_read r hr) ∙ ap read_raw e ∙ raw_is_read q hq)

same_life : (key k : Bytes) (version v : ℕ) (behind rest : Bytes) → is_key key ≡ true → is_key k ≡ true → is_version version ≡ true → is_version v ≡ true
    → (text k ++ u64 v) ++ rest ≡ (text key ++ u64 version) ++ behind → (key ≡ k) × (version ≡ v)
same_life key k version v behind rest hk h hv h' e =
    let same : Some (record { key = key; version = version; behind = behind }) ≡ Some (record { key = k; version = v; behind = rest }) =
    sym (life_is_read key version behind (short_key key hk) (low_version version hv)) ∙ ap read_life (sym e) ∙ life_is_read k v rest (short_key k h) (low_version v h') in
    let life = same_some {X = LifeAndRest} (record { key = key; version = version; behind = behind }) (record { key = k; version = v; behind = rest }) same in
    (ap (λ l. l.key) life, ap (λ l. l.version) life)

pub only_its_rows_have_its_prefix : (r : RawKey) (space : ℕ) (key : Bytes) (version : ℕ) (rest : Bytes) → space ≢ meta_space → IsTrue (is_raw_within r) → IsTrue (is_key key) → IsTrue (is_version version)
    → raw_text r ≡ life_prefix space key version ++ rest → IsOfLife space key version r
unfolding raw_text is_raw_within
only_its_rows_have_its_prefix (MetaKey k) space key version rest other h hk hv e = let first : space ≡ meta_space = cc in other first
only_its_rows_have_its_prefix (ElementKey k v subkey) space key version rest other h hk hv e =
    let life = both_first (is_key k && is_version v) (is_key subkey) h in
    let first : space ≡ element_space = cc in
    let behind : (text k ++ u64 v) ++ subkey ≡ (text key ++ u64 version) ++ rest = cc in
    let same = same_life key k version v rest subkey hk (both_first (is_key k) (is_version v) life) hv (both_second (is_key k) (is_version v) life) behind in
    (first, same.0, same.1)
only_its_rows_have_its_prefix (ScoreKey k v score member) space key version rest other h hk hv e =
    let life = both_first (is_key k && is_version v) (fits score) (both_first (is_key k && is_version v && fits score) (is_key member) h) in
    let first : space ≡ score_space = cc in
    let behind : (text k ++ u64 v) ++ (u64 (score_number score) ++ member) ≡ (text key ++ u64 version) ++ rest = cc in
    let same = same_life key k version v rest (u64 (score_number score) ++ member) hk (both_first (is_key k) (is_version v) life) hv (both_second (is_key k) (is_version v) life) behind in
    (first, same.0, same.1)
