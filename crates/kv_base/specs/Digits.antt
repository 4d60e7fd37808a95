-- Decimal digits.
use Rattle.std.specs.Prelude.{◌≡◌, ◌<◌, Bool, true, length, slice_index}
use Rattle.std.specs.Char.{is_ascii_digit}
use Rattle.std.specs.List.{list_all}
use Rattle.kv_base.specs.Map.{Bytes}

abbrev pub are_digits : Bytes → Bool
are_digits = list_all is_ascii_digit

-- digits, at least one, with no zero in front of another
abbrev pub IsPlain : Bytes → Type 0
IsPlain ds = (are_digits ds ≡ true) × (0 < length ds) × (slice_index ds 0 ≡ 48 → length ds ≡ 1)
