-- Scores as texts: whole numbers, which a double holds exactly.
use Rattle.std.specs.Prelude.{ℕ, ◌^◌, ◌==◌, nat_lt, nat_le, Bool, true, ◌&&◌, if◌then◌else◌, [], ◌∷◌, length, take, drop, Option, None, Some, option_map, ℤ, pos, neg_ℤ}
use Rattle.std.specs.Char.{is_ascii_digit}
use Rattle.std.specs.List.{list_all, prefix_len}
use Rattle.kv_base.specs.Map.{Bytes}
use Rattle.kv_base.specs.Number.{value_of_digits}

-- nothing, or a point with zeros after it, none or more
abbrev pub is_zero_fraction : Bytes → Bool
is_zero_fraction [] = true
is_zero_fraction (b ∷ bs) = b == 46 && list_all (λ c. c == 48) bs

-- digits, at least one, and behind them a zero fraction: the number of the digits, at most 2 ^ 53
unfoldable pub read_magnitude : Bytes → Option ℕ
read_magnitude text =
    let count = prefix_len is_ascii_digit text in
    let value = value_of_digits (take count text) in
    if nat_lt 0 count && is_zero_fraction (drop count text) && nat_le value (2 ^ 53) then Some value else None

-- a sign or none, and a magnitude
abbrev pub signed : Bytes → Option ℤ
signed [] = None
signed (b ∷ bs) =
    if b == 45 then option_map (λ n. neg_ℤ (pos n)) (read_magnitude bs)
    else if b == 43 then option_map pos (read_magnitude bs)
    else option_map pos (read_magnitude (b ∷ bs))

-- the score whose text this is, of at most 64 bytes
unfoldable pub read_score : Bytes → Option ℤ
read_score text = if nat_le (length text) 64 then signed text else None
