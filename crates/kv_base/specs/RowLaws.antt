-- How long raw keys and their values are.
use Rattle.std.proofs.Common.{◌≡◌, ◌-◌, ◌≤◌, [], ◌∷◌, ◌++◌, refl, ap, true, length, Option, Some, None, length-append, arith}
use Rattle.std.specs.Prelude.{◌&&◌, IsTrue, is_some}
use Rattle.std.proofs.lemmas.Bool.Decides.{nat_tests}
use Rattle.kv_base.specs.Map.{Bytes}
use Rattle.kv_base.specs.Number.{fits}
use Rattle.kv_base.specs.Fields.{u64, text}
use Rattle.kv_base.specs.FieldLaws.{length-u64, length-text}
use Rattle.kv_base.specs.InversionLaws.{both_first, both_second}
use Rattle.kv_base.specs.RawKeys.{RawKey, MetaKey, ElementKey, ScoreKey, is_key, is_version, score_number, is_raw_within, raw_text, read_raw, is_raw_text}
use Rattle.kv_base.specs.RawKeyLaws.{only_raw_is_read}
use Rattle.kv_base.specs.MetaValues.{MetaValue, StringValue, LifeValue, ListValue, is_deadline, is_payload, is_score, is_empty, is_meta_within, meta_text, read_meta, is_value_at, is_value_of, is_value_text}
use Rattle.kv_base.specs.MetaValueLaws.{only_meta_is_read}

some_of : {X : Type 0} (o : Option X) → is_some o ≡ true → (x : X) × (o ≡ Some x)
some_of None h = absurd (cc)
some_of (Some x) h = (x, refl)

short : (key : Bytes) → is_key key ≡ true → length key ≤ 65535
short key h = grind (arith, nat_tests)

raw_text_is_short : (r : RawKey) → is_raw_within r ≡ true → length (raw_text r) ≤ 131092
unfolding is_raw_within raw_text
raw_text_is_short (MetaKey key) h = let k = short key h in omega arith
raw_text_is_short (ElementKey key version subkey) h =
    let k = short key (both_first (is_key key) (is_version version) (both_first (is_key key && is_version version) (is_key subkey) h)) in
    let s = short subkey (both_second (is_key key && is_version version) (is_key subkey) h) in
    let a = length-append (text key ++ u64 version) subkey in
    let b = length-append (text key) (u64 version) in
    let t = length-text key in
    let v = length-u64 version in
    omega (arith, k, s, a, b, t, v)
raw_text_is_short (ScoreKey key version score member) h =
    let before = both_first (is_key key && is_version version && fits score) (is_key member) h in
    let k = short key (both_first (is_key key) (is_version version) (both_first (is_key key && is_version version) (fits score) before)) in
    let s = short member (both_second (is_key key && is_version version && fits score) (is_key member) h) in
    let a = length-append (text key ++ u64 version) (u64 (score_number score) ++ member) in
    let b = length-append (text key) (u64 version) in
    let c = length-append (u64 (score_number score)) member in
    let t = length-text key in
    let v = length-u64 version in
    let n = length-u64 (score_number score) in
    omega (arith, k, s, a, b, c, t, v, n)

pub raw_is_short : (bytes : Bytes) → IsTrue (is_raw_text bytes) → length bytes ≤ 131092
raw_is_short bytes h =
    let raw = some_of (read_raw bytes) h in
    let is = only_raw_is_read bytes raw.0 raw.1 in
    let long = ap length is.0 in
    let bound = raw_text_is_short raw.0 is.1 in
    omega (arith, long, bound)

short_payload : (bytes : Bytes) → is_payload bytes ≡ true → length bytes ≤ 1048576
short_payload bytes h = grind (arith, nat_tests)

meta_text_is_short : (m : MetaValue) → is_meta_within m ≡ true → length (meta_text m) ≤ 1048585
unfolding is_meta_within meta_text
meta_text_is_short (StringValue deadline payload) h =
    let p = short_payload payload (both_second (is_deadline deadline) (is_payload payload) h) in
    let a = length-append (u64 deadline) payload in
    let d = length-u64 deadline in
    omega (arith, p, a, d)
meta_text_is_short (LifeValue kind deadline version size) h =
    let a = length-append (u64 deadline) (u64 version ++ u64 size) in
    let b = length-append (u64 version) (u64 size) in
    let d = length-u64 deadline in
    let v = length-u64 version in
    let s = length-u64 size in
    omega (arith, a, b, d, v, s)
meta_text_is_short (ListValue deadline version head tail) h =
    let a = length-append (u64 deadline) (u64 version ++ (u64 (tail - head) ++ (u64 head ++ u64 tail))) in
    let b = length-append (u64 version) (u64 (tail - head) ++ (u64 head ++ u64 tail)) in
    let c = length-append (u64 (tail - head)) (u64 head ++ u64 tail) in
    let e = length-append (u64 head) (u64 tail) in
    let d = length-u64 deadline in
    let v = length-u64 version in
    let s = length-u64 (tail - head) in
    let h = length-u64 head in
    let t = length-u64 tail in
    omega (arith, a, b, c, e, d, v, s, h, t)

at_is_short : (r : RawKey) (value : Bytes) → is_value_at r value ≡ true → length value ≤ 1048585
at_is_short (MetaKey key) value h =
    let meta = some_of (read_meta value) h in
    let is = only_meta_is_read value meta.0 meta.1 in
    let long = ap length is.0 in
    let bound = meta_text_is_short meta.0 is.1 in
    omega (arith, long, bound)
at_is_short (ElementKey key version subkey) value h = let p = short_payload value h in omega (arith, p)
at_is_short (ScoreKey key version score member) value h = empty_is_short value (both_second (is_score score) (is_empty value) h)
  where
    empty_is_short : (bytes : Bytes) → is_empty bytes ≡ true → length bytes ≤ 1048585
    empty_is_short [] e = omega arith
    empty_is_short (b ∷ bytes) e = absurd (cc)

of_is_short : (o : Option RawKey) (value : Bytes) → is_value_of o value ≡ true → (length value ≤ 1048585) × (is_some o ≡ true)
of_is_short None value h = absurd (cc)
of_is_short (Some r) value h = (at_is_short r value h, refl)

pub value_is_short : (raw value : Bytes) → IsTrue (is_value_text raw value) → length value ≤ 1048585
unfolding is_value_text
value_is_short raw value h = (of_is_short (read_raw raw) value h).0

-- a value stands at a raw key
pub value_has_raw : (raw value : Bytes) → IsTrue (is_value_text raw value) → IsTrue (is_raw_text raw)
unfolding is_value_text
value_has_raw raw value h = (of_is_short (read_raw raw) value h).1
