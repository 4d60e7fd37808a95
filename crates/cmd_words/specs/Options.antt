-- The commands with options (Redis command reference, SET, ZRANGE, ZREVRANGE and ZRANGEBYSCORE).
use Rattle.std.specs.Prelude.{ℕ, Bool, true, false, ◌&&◌, not, if◌then◌else◌, List, [], ◌∷◌, Option, Some, None, is_none, Result, Ok, ℤ, codes}
use Rattle.std.specs.Option.{unwrap_or, option_and_then}
use Rattle.kv_base.specs.Map.{Bytes}
use Rattle.redis_model.specs.declared.command.Command.{Command}
use Rattle.redis_model.specs.declared.command.Command.TheVariants as cmd
use Rattle.redis_model.specs.declared.command.When.{When}
use Rattle.redis_model.specs.declared.command.When.TheVariants as when
use Rattle.redis_model.specs.declared.command.Expiry.{Expiry}
use Rattle.redis_model.specs.declared.command.Expiry.TheVariants as expiry
use Rattle.redis_model.specs.declared.command.Limit.{Limit}
use Rattle.redis_model.specs.declared.command.Bound.{Bound}
use Rattle.cmd_words.specs.Words.{is}
use Rattle.cmd_words.specs.Places.{K, N, B, TimeToLive, said}
use Rattle.cmd_words.specs.Reading.{◌>>=◌, two_and_any, three_and_any, judged, judged_as}
use Rattle.cmd_words.specs.declared.fault.FaultKind.{FaultKind}
use Rattle.cmd_words.specs.declared.set_options.SetOptions.{SetOptions}
use Rattle.cmd_words.specs.declared.range_options.RangeOptions.{RangeOptions}

-- ---- SET: NX or XX, and EX n, PX n or KEEPTTL, in any order, each of the two at most once

-- the milliseconds in the unit of EX or PX
unfoldable pub unit : Bytes → Option ℕ
unit w = if is (codes "ex") w then Some 1000 else if is (codes "px") w then Some 1 else None

unfoldable pub amount : ℕ → Bytes → Result Expiry FaultKind
amount u n = judged ((TimeToLive u, n) ∷ []) (said (TimeToLive u) n)

abbrev pub with_when : SetOptions → When → Option SetOptions
with_when o x = if is_none o.when then Some (record o { when = Some x }) else None

abbrev pub with_time : SetOptions → Result Expiry FaultKind → Option SetOptions
with_time o x = if is_none o.time then Some (record o { time = Some x }) else None

unfoldable pub with_word : SetOptions → Bytes → Option SetOptions
with_word o w =
    if is (codes "nx") w then with_when o when.IfAbsent
    else if is (codes "xx") w then with_when o when.IfPresent
    else if is (codes "keepttl") w then with_time o (Ok expiry.Keep)
    else None

abbrev pub by_unit : {A : Type 0} → Option ℕ → (ℕ → A) → A → A
by_unit None f x = x
by_unit (Some u) f x = f u

-- the options after these; none where the words are off the pattern. The word behind EX or PX is always its amount
unfoldable pub set_options : SetOptions → List Bytes → Option SetOptions
set_options o [] = Some o
set_options o (w ∷ []) = with_word o w
set_options o (w ∷ n ∷ ws) = by_unit (unit w) (λ u. option_and_then (λ p. set_options p ws) (with_time o (amount u n))) (option_and_then (λ p. set_options p (n ∷ ws)) (with_word o w))

abbrev pub no_options : SetOptions
no_options = record { when = None; time = None }

-- a key, a value and the options: the key is judged, then the options, and then the amount
unfoldable pub set_command : ℕ → List Bytes → Result Command FaultKind
set_command weight ws = do
  x ← two_and_any ws
  o ← judged_as (is_none (set_options no_options x.2)) ((K, x.0) ∷ []) (unwrap_or (set_options no_options x.2) no_options)
  time ← unwrap_or o.time (Ok expiry.None)
  Ok (cmd.Set x.0 x.1 (unwrap_or o.when when.Any) time weight)

-- ---- ZRANGEBYSCORE: WITHSCORES and LIMIT n n, in any order, each at most once

unfoldable pub limit : Bytes → Bytes → Result Limit FaultKind
limit a b = judged ((N, a) ∷ (N, b) ∷ []) (record { offset = said N a; count = said N b })

unfoldable pub with_scores : RangeOptions → Bytes → Option RangeOptions
with_scores o w = if is (codes "withscores") w && not o.scores then Some (record o { scores = true }) else None

unfoldable pub range_options : RangeOptions → List Bytes → Option RangeOptions
range_options o [] = Some o
range_options o (w ∷ []) = with_scores o w
range_options o (w ∷ a ∷ []) = option_and_then (λ p. with_scores p a) (with_scores o w)
range_options o (w ∷ a ∷ b ∷ ws) =
    if is (codes "limit") w then (if is_none o.limit then range_options (record o { limit = Some (limit a b) }) ws else None)
    else option_and_then (λ p. range_options p (a ∷ b ∷ ws)) (with_scores o w)

abbrev pub no_range_options : RangeOptions
no_range_options = record { scores = false; limit = None }

unfoldable pub limited : Option (Result Limit FaultKind) → Result (Option Limit) FaultKind
limited None = Ok None
limited (Some r) = r >>= λ l. Ok (Some l)

unfoldable pub bounds : Bytes → Bytes → Result (Bound × Bound) FaultKind
bounds a b = judged ((B, a) ∷ (B, b) ∷ []) (said B a, said B b)

-- a key, two bounds and the options: the key is judged, then the options, then the numbers of LIMIT, and then the bounds
unfoldable pub range_by_score : ℕ → List Bytes → Result Command FaultKind
range_by_score weight ws = do
  x ← three_and_any ws
  o ← judged_as (is_none (range_options no_range_options x.3)) ((K, x.0) ∷ []) (unwrap_or (range_options no_range_options x.3) no_range_options)
  l ← limited o.limit
  b ← bounds x.1 x.2
  Ok (cmd.ZRangeByScore x.0 b.0 b.1 o.scores l weight)

-- ---- ZRANGE and ZREVRANGE: WITHSCORES or nothing

unfoldable pub flag : List Bytes → Option Bool
flag [] = Some false
flag (w ∷ []) = if is (codes "withscores") w then Some true else None
flag (w ∷ x ∷ ws) = None

unfoldable pub said_range : List Bytes → Result (Bytes × ℤ × ℤ × Bool) FaultKind
said_range ws = do
  x ← three_and_any ws
  judged_as (is_none (flag x.3)) ((K, x.0) ∷ (N, x.1) ∷ (N, x.2) ∷ []) (x.0, said N x.1, said N x.2, unwrap_or (flag x.3) false)
