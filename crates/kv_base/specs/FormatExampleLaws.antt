-- Bytes of raw keys and metadata.
use Rattle.std.specs.Prelude.{◌≡◌, ◌-◌, ◌^◌, [], ◌∷◌, refl, pos, negsuc}
use Rattle.kv_base.specs.Fields.{u32, u64, text}
use Rattle.kv_base.specs.RawKeys.{MetaKey, ElementKey, score_number, raw_text}
use Rattle.kv_base.specs.MetaValues.{StringValue, meta_text}

-- 6D 00 61
pub metadata_of_a : raw_text (MetaKey (97 ∷ [])) ≡ 0x6D ∷ 0 ∷ 0x61 ∷ []
unfolding raw_text
metadata_of_a = refl

-- 73 00, 00000001 61, 0000000000000800, 66
pub field_f_of_a : raw_text (ElementKey (97 ∷ []) 2048 (102 ∷ [])) ≡ 0x73 ∷ 0 ∷ 0 ∷ 0 ∷ 0 ∷ 1 ∷ 0x61 ∷ 0 ∷ 0 ∷ 0 ∷ 0 ∷ 0 ∷ 0 ∷ 8 ∷ 0 ∷ 0x66 ∷ []
unfolding raw_text text u32 u64
field_f_of_a = refl

-- 80 00 00 00 00 00 00 00
pub score_0 : u64 (score_number (pos 0)) ≡ 0x80 ∷ 0 ∷ 0 ∷ 0 ∷ 0 ∷ 0 ∷ 0 ∷ 0 ∷ []
unfolding u64
score_0 = refl

-- 80 20 00 00 00 00 00 00
pub greatest_score : u64 (score_number (pos (2 ^ 53))) ≡ 0x80 ∷ 0x20 ∷ 0 ∷ 0 ∷ 0 ∷ 0 ∷ 0 ∷ 0 ∷ []
unfolding u64
greatest_score = refl

-- 7F E0 00 00 00 00 00 00
pub least_score : u64 (score_number (negsuc (2 ^ 53 - 1))) ≡ 0x7F ∷ 0xE0 ∷ 0 ∷ 0 ∷ 0 ∷ 0 ∷ 0 ∷ 0 ∷ []
unfolding u64
least_score = refl

-- 81, 0000000000000000, 31
pub string_1 : meta_text (StringValue 0 (49 ∷ [])) ≡ 0x81 ∷ 0 ∷ 0 ∷ 0 ∷ 0 ∷ 0 ∷ 0 ∷ 0 ∷ 0 ∷ 0x31 ∷ []
unfolding meta_text u64
string_1 = refl
