-- The codes of what a user's keys hold, for a type whose model is such a map.
use Rattle.std.specs.Prelude.{◌≡◌, ◌⊎◌, ℕ, ℤ, List, Option, refl}
use Rattle.std.proofs.Common.{inl, inr}
use Rattle.std.specs.Coded.{Coded, code_by, coded×, coded⊎, coded_ℕ, coded_ℤ, coded_list, coded_option}
use base.Stored.{coded_unit}
use Rattle.kv_base.specs.Map as map
use Rattle.kv_base.specs.Map.{Bytes, Map, Set}
use Rattle.redis_model.specs.Value.{Value, Str, Hash, ListOf, SetOf, ZSet, Entry, RedisMap}

abbrev bytes_code : Coded Bytes
bytes_code = coded_list coded_ℕ

abbrev Parts : Type 0
Parts = Bytes ⊎ (Map Bytes ⊎ (List Bytes ⊎ (Set ⊎ Map ℤ)))

abbrev split : Value → Parts
split (Str v) = inl v
split (Hash h) = inr (inl h)
split (ListOf l) = inr (inr (inl l))
split (SetOf s) = inr (inr (inr (inl s)))
split (ZSet z) = inr (inr (inr (inr z)))

abbrev join : Parts → Value
join (inl v) = Str v
join (inr (inl h)) = Hash h
join (inr (inr (inl l))) = ListOf l
join (inr (inr (inr (inl s)))) = SetOf s
join (inr (inr (inr (inr z)))) = ZSet z

pub join-split : (v : Value) → join (split v) ≡ v
join-split (Str v) = refl
join-split (Hash h) = refl
join-split (ListOf l) = refl
join-split (SetOf s) = refl
join-split (ZSet z) = refl

abbrev pub value_code : Coded Value
value_code = code_by Parts (coded⊎ bytes_code (coded⊎ (map.code bytes_code) (coded⊎ (coded_list bytes_code) (coded⊎ (map.code coded_unit) (map.code coded_ℤ))))) split join join-split

abbrev pub entry_code : Coded Entry
entry_code = code_by (Value × Option ℕ) (coded× value_code (coded_option coded_ℕ)) (λ e. (e.value, e.deadline)) (λ p. record { value = p.0; deadline = p.1 }) (λ _. refl)

abbrev pub redis_map_code : Coded RedisMap
redis_map_code = map.code entry_code
