-- The values of rows: what the metadata of a key says, and which values go with which raw keys.
use Rattle.std.specs.Prelude.{ℕ, ◌-◌, ◌^◌, nat_lt, nat_le, Bool, true, false, if◌then◌else◌, ◌&&◌, ◌==◌, [], ◌∷◌, ◌++◌, length, Option, Some, None, option_map, option_and_then, is_some, ℤ, pos, negsuc, int_le}
use Rattle.kv_base.specs.Map.{Bytes, kept}
use Rattle.kv_base.specs.Fields.{u64, read_u64}
use Rattle.kv_base.specs.RawKeys.{RawKey, MetaKey, ElementKey, ScoreKey, is_version, read_raw}
use Rattle.kv_base.specs.declared.kind.Kind.{Kind}
use Rattle.kv_base.specs.declared.kind.Kind.TheVariants.{Hash, Set, ZSet}

-- Each begins with a deadline in milliseconds, 0 for none. A string has its payload; a hash, set or sorted set its
-- version and its number of elements; a list its version and the places of its first element and behind its last.
pub data MetaValue : Type 0 where
  StringValue : ℕ → Bytes → MetaValue
  LifeValue : Kind → ℕ → ℕ → ℕ → MetaValue
  ListValue : ℕ → ℕ → ℕ → ℕ → MetaValue

-- the deadline in metadata, where 0 stands for none
abbrev pub expire_of : MetaValue → ℕ
expire_of (StringValue expire payload) = expire
expire_of (LifeValue kind expire version size) = expire
expire_of (ListValue expire version head tail) = expire

-- the version of a collection's life; a string has none
abbrev pub version_of : MetaValue → Option ℕ
version_of (StringValue expire payload) = None
version_of (LifeValue kind expire version size) = Some version
version_of (ListValue expire version head tail) = Some version

-- ---- the limits

abbrev pub is_deadline : ℕ → Bool
is_deadline deadline = nat_le deadline (2 ^ 62)

abbrev pub is_payload : Bytes → Bool
is_payload bytes = nat_le (length bytes) 1048576

abbrev pub is_size : ℕ → Bool
is_size size = nat_le 1 size && nat_lt size (2 ^ 32)

abbrev pub is_life : ℕ → ℕ → ℕ → Bool
is_life deadline version size = is_deadline deadline && is_version version && is_size size

unfoldable pub is_meta_within : MetaValue → Bool
is_meta_within (StringValue deadline payload) = is_deadline deadline && is_payload payload
is_meta_within (LifeValue kind deadline version size) = is_life deadline version size
is_meta_within (ListValue deadline version head tail) = is_life deadline version (tail - head) && nat_lt tail (2 ^ 64)

-- ---- the bytes

-- 128 and the number of the type
abbrev pub string_flags : ℕ
string_flags = 129

abbrev pub list_flags : ℕ
list_flags = 131

abbrev pub kind_flags : Kind → ℕ
kind_flags Hash = 130
kind_flags Set = 132
kind_flags ZSet = 133

unfoldable pub meta_text : MetaValue → Bytes
meta_text (StringValue deadline payload) = string_flags ∷ (u64 deadline ++ payload)
meta_text (LifeValue kind deadline version size) = kind_flags kind ∷ (u64 deadline ++ (u64 version ++ u64 size))
meta_text (ListValue deadline version head tail) = list_flags ∷ (u64 deadline ++ (u64 version ++ (u64 (tail - head) ++ (u64 head ++ u64 tail))))

-- ---- back

abbrev pub kind_from : ℕ → Option Kind
kind_from flags = if flags == 130 then Some Hash else if flags == 132 then Some Set else if flags == 133 then Some ZSet else None

-- the three numbers that the metadata of every collection has in front, and what is behind them
pub record LifeNumbers : Type 0 where
  pub deadline : ℕ
  pub version : ℕ
  pub size : ℕ
  pub behind : Bytes

unfoldable pub read_life_numbers : Bytes → Option LifeNumbers
read_life_numbers bytes =
    option_and_then (λ deadline. option_and_then (λ version. option_map (λ size. record { deadline = deadline.0; version = version.0; size = size.0; behind = size.1 }) (read_u64 version.1)) (read_u64 deadline.1)) (read_u64 bytes)

abbrev pub is_empty : Bytes → Bool
is_empty [] = true
is_empty (b ∷ bytes) = false

abbrev pub life_with : Kind → LifeNumbers → Option MetaValue
life_with kind n = if is_empty n.behind then Some (LifeValue kind n.deadline n.version n.size) else None

abbrev pub list_ends : LifeNumbers → ℕ → ℕ × Bytes → Option MetaValue
list_ends n head tail = if n.size == tail.0 - head && is_empty tail.1 then Some (ListValue n.deadline n.version head tail.0) else None

abbrev pub list_with : LifeNumbers → Option MetaValue
list_with n = option_and_then (λ head. option_and_then (list_ends n head.0) (read_u64 head.1)) (read_u64 n.behind)

unfoldable pub meta_parts : ℕ → Bytes → Option MetaValue
meta_parts flags bytes =
    if flags == string_flags then option_map (λ deadline. StringValue deadline.0 deadline.1) (read_u64 bytes)
    else if flags == list_flags then option_and_then list_with (read_life_numbers bytes)
    else option_and_then (λ kind. option_and_then (life_with kind) (read_life_numbers bytes)) (kind_from flags)

-- the metadata that these bytes are, if they are some
unfoldable pub read_meta : Bytes → Option MetaValue
read_meta [] = None
read_meta (flags ∷ bytes) = kept is_meta_within (meta_parts flags bytes)

-- ---- the value of a row

abbrev pub is_score : ℤ → Bool
is_score score = int_le (negsuc (2 ^ 53 - 1)) score && int_le score (pos (2 ^ 53))

-- is the value of the shape that its raw key asks for: metadata; an element; nothing, at a score within the range
abbrev pub is_value_at : RawKey → Bytes → Bool
is_value_at (MetaKey key) value = is_some (read_meta value)
is_value_at (ElementKey key version subkey) value = is_payload value
is_value_at (ScoreKey key version score member) value = is_score score && is_empty value

abbrev pub is_value_of : Option RawKey → Bytes → Bool
is_value_of None value = false
is_value_of (Some raw) value = is_value_at raw value

unfoldable pub is_value_text : Bytes → Bytes → Bool
is_value_text raw value = is_value_of (read_raw raw) value
