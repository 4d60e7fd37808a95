-- What a word stands for at its place in a command, and what it can be wrong in.
use Rattle.std.specs.Prelude.{ℕ, zero, suc, ◌-◌, ◌^◌, nat_lt, Bool, true, false, ◌||◌, if◌then◌else◌, length, Option, Some, None, is_none, ℤ, pos, negsuc, ◌*ℤ◌, int_le, int_lt, codes}
use Rattle.std.specs.Option.{unwrap_or}
use Rattle.kv_base.specs.Map.{Bytes}
use Rattle.kv_base.specs.Number.{read_int}
use Rattle.kv_base.specs.Score.{read_score}
use Rattle.redis_model.specs.declared.command.Bound.{Bound}
use Rattle.redis_model.specs.declared.command.Bound.TheVariants as bound
use Rattle.redis_model.specs.declared.command.End.{End}
use Rattle.redis_model.specs.declared.command.End.TheVariants as ends
use Rattle.redis_model.specs.declared.command.Expiry.{Expiry}
use Rattle.redis_model.specs.declared.command.Expiry.TheVariants as expiry
use Rattle.redis_model.specs.Limits.{max_name}
use Rattle.cmd_words.specs.Words.{is}
use Rattle.cmd_words.specs.Bounds.{read_bound}

-- K key, V value, F field, M member, N whole number, S score, B end of a range of scores, D direction;
-- whole numbers with a rule of their own: Count from 0 on, NotLeast all but -2^63, Zero the number of the one database;
-- times, with the milliseconds in a unit: TimeToLive an amount from 1 on, After any amount, Until a deadline
pub data Place : Type 0 where
  K : Place
  V : Place
  F : Place
  M : Place
  N : Place
  S : Place
  B : Place
  D : Place
  Count : Place
  NotLeast : Place
  Zero : Place
  TimeToLive : ℕ → Place
  After : ℕ → Place
  Until : ℕ → Place

abbrev pub direction : Bytes → Option End
direction w = if is (codes "left") w then Some ends.Left else if is (codes "right") w then Some ends.Right else None

abbrev pub int_of : Bytes → ℤ
int_of w = unwrap_or (read_int w) (pos 0)

-- ---- what a word says

abbrev pub Said : Place → Type 0
Said K = Bytes
Said V = Bytes
Said F = Bytes
Said M = Bytes
Said N = ℤ
Said S = ℤ
Said B = Bound
Said D = End
Said Count = ℤ
Said NotLeast = ℤ
Said Zero = ℤ
Said (TimeToLive u) = Expiry
Said (After u) = Expiry
Said (Until u) = Expiry

abbrev pub said : (p : Place) → Bytes → Said p
said K w = w
said V w = w
said F w = w
said M w = w
said N w = int_of w
said S w = unwrap_or (read_score w) (pos 0)
said B w = unwrap_or (read_bound w) bound.Least
said D w = unwrap_or (direction w) ends.Left
said Count w = int_of w
said NotLeast w = int_of w
said Zero w = int_of w
said (TimeToLive u) w = expiry.After (pos u *ℤ int_of w)
said (After u) w = expiry.After (pos u *ℤ int_of w)
said (Until u) w = expiry.At (pos u *ℤ int_of w)

-- ---- what a word is wrong in

-- a key, a field or a member has at most 65,535 bytes
abbrev pub is_long : Bytes → Bool
is_long w = nat_lt max_name (length w)

abbrev pub too_long : Place → Bytes → Bool
too_long K w = is_long w
too_long F w = is_long w
too_long M w = is_long w
too_long _ w = false

abbrev pub off_pattern : Place → Bytes → Bool
off_pattern D w = is_none (direction w)
off_pattern _ w = false

abbrev pub no_int : Bytes → Bool
no_int w = is_none (read_int w)

abbrev pub no_count : Bytes → Bool
no_count w = no_int w || int_lt (int_of w) (pos 0)

abbrev pub no_negatable : Bytes → Bool
no_negatable w = no_int w || int_le (int_of w) (negsuc (2 ^ 63 - 1))

abbrev pub not_int : Place → Bytes → Bool
not_int N w = no_int w
not_int Count w = no_count w
not_int NotLeast w = no_negatable w
not_int Zero w = no_int w
not_int (TimeToLive u) w = no_int w
not_int (After u) w = no_int w
not_int (Until u) w = no_int w
not_int _ w = false

abbrev pub not_score : Place → Bytes → Bool
not_score S w = is_none (read_score w)
not_score B w = is_none (read_bound w)
not_score _ w = false

-- an amount within 2 ^ 61 milliseconds, a deadline within 2 ^ 62
abbrev pub beyond : ℕ → ℤ → Bool
beyond n z = int_lt z (negsuc (2 ^ n - 1)) || int_lt (pos (2 ^ n)) z

abbrev pub bad_time_to_live : ℕ → ℤ → Bool
bad_time_to_live u z = int_lt z (pos 1) || beyond 61 (pos u *ℤ z)

abbrev pub bad_after : ℕ → ℤ → Bool
bad_after u z = beyond 61 (pos u *ℤ z)

abbrev pub bad_until : ℕ → ℤ → Bool
bad_until u z = beyond 62 (pos u *ℤ z)

abbrev pub bad_time : Place → Bytes → Bool
bad_time (TimeToLive u) w = bad_time_to_live u (int_of w)
bad_time (After u) w = bad_after u (int_of w)
bad_time (Until u) w = bad_until u (int_of w)
bad_time _ w = false

abbrev pub is_not_zero : ℤ → Bool
is_not_zero (pos zero) = false
is_not_zero (pos (suc n)) = true
is_not_zero (negsuc n) = true

abbrev pub no_database : Place → Bytes → Bool
no_database Zero w = is_not_zero (int_of w)
no_database _ w = false
