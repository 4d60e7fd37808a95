-- What the commands with options read is within the limits.
use Rattle.std.proofs.Common.{◌≡◌, refl, ℕ, suc, ◌<◌, ◌≤◌, ◌+◌, ◌%◌, Bool, true, false, ◌||◌, ◌&&◌, if◌then◌else◌, nat_lt, List, [], ◌∷◌, ◌++◌, length, map, Option, Some, None, Result, Ok, ap, sym, subst, arith}
use Rattle.std.specs.Prelude.{All, ℤ, pos, ◌*ℤ◌, int_lt, is_none, codes}
use Rattle.std.specs.Bool.{OnTrue}
use Rattle.std.specs.Option.{unwrap_or, option_and_then}
use Rattle.std.proofs.lemmas.Bool.Decides.{nat_tests}
use Rattle.std.proofs.lemmas.List.{length-map}
use Rattle.std.proofs.lemmas.List.Elements.{All-cons, All-head, All-tail, All-nil}
use Rattle.kv_base.specs.Map.{Bytes}
use Rattle.redis_model.specs.Limits.{IsName, IsShort, IsWholeScore, IsBound, IsTime, Pairs}
use Rattle.redis_model.specs.declared.command.Command.{Command}
use Rattle.redis_model.specs.declared.command.Command.TheVariants as cmd
use Rattle.redis_model.specs.declared.command.Bound.{Bound}
use Rattle.redis_model.specs.declared.command.Expiry.{Expiry}
use Rattle.redis_model.specs.declared.command.Expiry.TheVariants as expiry
use Rattle.redis_model.specs.declared.command.When.{When}
use Rattle.redis_model.specs.declared.command.When.TheVariants as when
use Rattle.cmd_words.specs.Words.{is}
use Rattle.cmd_words.specs.Places.{K, M, S, B, TimeToLive, said, int_of}
use Rattle.cmd_words.specs.Reading.{Placed, judged, judged_as, all_at, firsts, seconds, no_pairs, one_and_two, two_and_any, three_and_any}
use Rattle.cmd_words.specs.Options.{unit, amount, with_when, with_time, with_word, by_unit, set_options, no_options, set_command, range_options, no_range_options, limited, bounds, range_by_score}
use Rattle.cmd_words.specs.Add.{with_flag, or_else, flags, no_flags, off, how, scored, add}
use Rattle.cmd_words.specs.declared.fault.FaultKind.{FaultKind}
use Rattle.cmd_words.specs.declared.set_options.SetOptions.{SetOptions}
use Rattle.cmd_words.specs.declared.range_options.RangeOptions.{RangeOptions}
use Rattle.cmd_words.specs.declared.add.AddFlags.{AddFlags}
use Rattle.cmd_words.proofs.Fitting.{Passed, name_fits, amount_fits, score_whole, bound_bounded, or_false_left, or_false_right}
use Rattle.cmd_words.proofs.Right.{judged_right, judged_syntax, first_passed, list_passed, passed_back, steps, one_and_two_right, two_and_any_right, length-firsts-seconds, length-seconds}
use Rattle.cmd_words.proofs.Good.{Good, plain_good, list_good, names_from}

-- ---- SET

-- the time that the options say is within its range, where it was right
abbrev Timely : SetOptions → Type 0
Timely o = (e : Expiry) → o.time ≡ Some (Ok e) → IsTime e

some_if : {A : Type 0} (b : Bool) (q p : A) → (if b then Some q else None) ≡ Some p → q ≡ p
some_if true q p h = cc
some_if false q p h = cc

when_timely : (o p : SetOptions) (x : When) → Timely o → with_when o x ≡ Some p → Timely p
when_timely o p x t h = subst Timely (some_if (is_none o.when) (record o { when = Some x }) p h) t

time_timely : (o p : SetOptions) (r : Result Expiry FaultKind) → ((e : Expiry) → r ≡ Ok e → IsTime e) → with_time o r ≡ Some p → Timely p
time_timely o p r t h = subst Timely (some_if (is_none o.time) (record o { time = Some r }) p h) (λ e k. t e cc)

keep_timely : (r : Result Expiry FaultKind) → r ≡ Ok expiry.Keep → (e : Expiry) → r ≡ Ok e → IsTime e
keep_timely r h e k = let same : expiry.Keep ≡ e = cc in subst IsTime same tt

amount_timely : (u : ℕ) (n : Bytes) (e : Expiry) → amount u n ≡ Ok e → IsTime e
unfolding amount
amount_timely u n e h =
    let value : Expiry = expiry.After (pos u *ℤ int_of n) in
    let j = judged_right false ((TimeToLive u, n) ∷ []) value e h in
    let passed : Passed (TimeToLive u) n = first_passed (TimeToLive u) n [] j.passed in
    let within : IsTime value = amount_fits (pos u *ℤ int_of n) (or_false_right (int_lt (int_of n) (pos 1)) _ passed.time) in
    subst IsTime (sym j.value) within

word_by : (a b c : Bool) (o p : SetOptions) → Timely o → (if a then with_when o when.IfAbsent else if b then with_when o when.IfPresent else if c then with_time o (Ok expiry.Keep) else None) ≡ Some p → Timely p
word_by true b c o p t h = when_timely o p when.IfAbsent t h
word_by false true c o p t h = when_timely o p when.IfPresent t h
word_by false false true o p t h = time_timely o p (Ok expiry.Keep) (keep_timely (Ok expiry.Keep) refl) h
word_by false false false o p t h = cc

word_timely : (o p : SetOptions) (w : Bytes) → Timely o → with_word o w ≡ Some p → Timely p
unfolding with_word
word_timely o p w t h = word_by (is (codes "nx") w) (is (codes "xx") w) (is (codes "keepttl") w) o p t h

by_unit_timely : (u : Option ℕ) (f : ℕ → Option SetOptions) (a : Option SetOptions) (p : SetOptions) → ((k : ℕ) → f k ≡ Some p → Timely p) → (a ≡ Some p → Timely p) → by_unit u f a ≡ Some p → Timely p
by_unit_timely None f a p s t h = t h
by_unit_timely (Some k) f a p s t h = s k h

then_timely : (o : Option SetOptions) (f : SetOptions → Option SetOptions) (p : SetOptions) → ((q : SetOptions) → o ≡ Some q → f q ≡ Some p → Timely p) → option_and_then f o ≡ Some p → Timely p
then_timely None f p s h = cc
then_timely (Some q) f p s h = s q refl h

options_timely : (ws : List Bytes) (o p : SetOptions) → Timely o → set_options o ws ≡ Some p → Timely p
unfolding set_options
options_timely [] o p t h = let e : o ≡ p = cc in subst Timely e t
options_timely (w ∷ []) o p t h = word_timely o p w t h
options_timely (w ∷ n ∷ ws) o p t h =
    by_unit_timely (unit w) (λ u. option_and_then (λ q. set_options q ws) (with_time o (amount u n))) (option_and_then (λ q. set_options q (n ∷ ws)) (with_word o w)) p
    (λ u k. then_timely (with_time o (amount u n)) (λ q. set_options q ws) p (λ q i j. options_timely ws q p (time_timely o q (amount u n) (amount_timely u n) i) j) k)
    (λ k. then_timely (with_word o w) (λ q. set_options q (n ∷ ws)) p (λ q i j. options_timely (n ∷ ws) q p (word_timely o q w t i) j) k)
    h

none_timely : Timely no_options
none_timely e h = cc

unwrap_timely : (m : Option SetOptions) → ((p : SetOptions) → m ≡ Some p → Timely p) → Timely (unwrap_or m no_options)
unwrap_timely None h = none_timely
unwrap_timely (Some p) h = h p refl

time_of : (o : Option (Result Expiry FaultKind)) (time : Expiry) → ((e : Expiry) → o ≡ Some (Ok e) → IsTime e) → unwrap_or o (Ok expiry.None) ≡ Ok time → IsTime time
time_of None time t h = let same : expiry.None ≡ time = cc in subst IsTime same tt
time_of (Some r) time t h = t time (ap Some h)

pub set_good : (n w : ℕ) (ws : List Bytes) (c : Command) → All IsShort ws → set_command w ws ≡ Ok c → Good n w c
unfolding set_command
set_good n w ws c short h =
    let s = steps (two_and_any ws) _ c h in
    let x = s.middle in
    let short_ = subst (All IsShort) (two_and_any_right ws x s.first) short in
    let chosen : SetOptions = unwrap_or (set_options no_options x.2) no_options in
    let t = steps (judged_as (is_none (set_options no_options x.2)) ((K, x.0) ∷ []) chosen) _ c s.next in
    let o = t.middle in
    let j = judged_right (is_none (set_options no_options x.2)) ((K, x.0) ∷ []) chosen o t.first in
    let timely : Timely o = subst Timely (sym j.value) (unwrap_timely (set_options no_options x.2) (λ p k. options_timely x.2 no_options p none_timely k)) in
    let u = steps (unwrap_or o.time (Ok expiry.None)) _ c t.next in
    let made : Command = cmd.Set x.0 x.1 (unwrap_or o.when when.Any) u.middle w in
    let e : made ≡ c = cc in
    let key : Passed K x.0 = first_passed K x.0 [] j.passed in
    let value : IsShort x.1 = All-head IsShort x.1 x.2 (All-tail IsShort x.0 (x.1 ∷ x.2) short_) in
    subst (Good n w) e (plain_good n w made x.0 refl (name_fits x.0 key.name) (value, time_of o.time u.middle timely u.first) refl refl)

-- ---- ZRANGEBYSCORE

bounds_right : (a b : Bytes) (x : Bound × Bound) → bounds a b ≡ Ok x → IsBound x.0 × IsBound x.1
unfolding bounds
bounds_right a b x h =
    let value : Bound × Bound = (said B a, said B b) in
    let j = judged_right false ((B, a) ∷ (B, b) ∷ []) value x h in
    subst (λ (y : Bound × Bound). IsBound y.0 × IsBound y.1) (sym j.value) (bound_bounded a, bound_bounded b)

pub range_by_score_good : (n w : ℕ) (ws : List Bytes) (c : Command) → range_by_score w ws ≡ Ok c → Good n w c
unfolding range_by_score
range_by_score_good n w ws c h =
    let s = steps (three_and_any ws) _ c h in
    let x = s.middle in
    let chosen : RangeOptions = unwrap_or (range_options no_range_options x.3) no_range_options in
    let t = steps (judged_as (is_none (range_options no_range_options x.3)) ((K, x.0) ∷ []) chosen) _ c s.next in
    let o = t.middle in
    let j = judged_right (is_none (range_options no_range_options x.3)) ((K, x.0) ∷ []) chosen o t.first in
    let l = steps (limited o.limit) _ c t.next in
    let b = steps (bounds x.1 x.2) _ c l.next in
    let made : Command = cmd.ZRangeByScore x.0 b.middle.0 b.middle.1 o.scores l.middle w in
    let e : made ≡ c = cc in
    let key : Passed K x.0 = first_passed K x.0 [] j.passed in
    subst (Good n w) e (plain_good n w made x.0 refl (name_fits x.0 key.name) (bounds_right x.1 x.2 b.middle b.first) refl refl)

-- ---- ZADD

all_whole : (ws : List Bytes) → All IsWholeScore (map (said S) ws)
all_whole [] = All-nil IsWholeScore
all_whole (w ∷ ws) = All-cons IsWholeScore (said S w) (map (said S) ws) (score_whole w) (all_whole ws)

record Scored (f : AddFlags) (ws : List Bytes) (z : List ℤ × List Bytes) : Type 0 where
  pub pairs : Pairs IsWholeScore IsName z.0 z.1
  pub one : OnTrue f.incr (length z.0 ≡ 1)
  pub all : length z.0 + length z.1 ≡ length ws

one_pair : (b : Bool) (n m : ℕ) → (b && nat_lt 2 (n + m)) ≡ false → 0 < n → m ≡ n → OnTrue b (n ≡ 1)
one_pair false n m h k i = tt
one_pair true n m h k i = let few : n + m ≤ 2 = grind (arith, nat_tests) in omega arith

scored_right : (f : AddFlags) (ws : List Bytes) (z : List ℤ × List Bytes) → scored f ws ≡ Ok z → Scored f ws z
unfolding scored off
scored_right f ws z h =
    let value : List ℤ × List Bytes = (map (said S) (firsts ws), seconds ws) in
    let placed : Placed = all_at S (firsts ws) ++ all_at M (seconds ws) in
    let j = judged_right (off f ws) placed value z h in
    let right : off f ws ≡ false = judged_syntax (off f ws) placed value z h in
    let whole : no_pairs ws ≡ false = or_false_right (f.nx && f.xx) (no_pairs ws) (or_false_left ((f.nx && f.xx) || no_pairs ws) (f.incr && nat_lt 2 (length ws)) right) in
    let alone : (f.incr && nat_lt 2 (length ws)) ≡ false = or_false_right ((f.nx && f.xx) || no_pairs ws) (f.incr && nat_lt 2 (length ws)) right in
    let full : 0 < length ws = grind (arith, nat_tests) in
    let even : length ws % 2 ≡ 0 = grind (arith, nat_tests) in
    let sum = length-firsts-seconds ws in
    let same = length-seconds ws even in
    let long : length (map (said S) (firsts ws)) ≡ length (firsts ws) = length-map (firsts ws) (said S) in
    let some : 0 < length (map (said S) (firsts ws)) = omega arith in
    let equal : length (seconds ws) ≡ length (map (said S) (firsts ws)) = omega arith in
    let all : length (map (said S) (firsts ws)) + length (seconds ws) ≡ length ws = omega arith in
    let named = names_from M (λ _. refl) (seconds ws) (list_passed M (seconds ws) (passed_back (all_at S (firsts ws)) (all_at M (seconds ws)) j.passed)) in
    let good : Scored f ws value = record {
      pairs = ((some, all_whole (firsts ws)), equal, named);
      one = one_pair f.incr (length (map (said S) (firsts ws))) (length (seconds ws)) (subst (λ (l : ℕ). (f.incr && nat_lt 2 l) ≡ false) (sym all) alone) some equal;
      all = all;
    } in
    subst (Scored f ws) (sym j.value) good

flags_by : (f : AddFlags) (w : Bytes) (ws : List Bytes) (o : Option AddFlags) → ((g : AddFlags) → length (flags g ws).1 ≤ length ws) → length (or_else o (f, w ∷ ws) (λ g. flags g ws)).1 ≤ suc (length ws)
flags_by f w ws None h = omega arith
flags_by f w ws (Some g) h = let k = h g in omega arith

flags_shorter : (ws : List Bytes) (f : AddFlags) → length (flags f ws).1 ≤ length ws
unfolding flags
flags_shorter [] f = omega arith
flags_shorter (w ∷ ws) f = flags_by f w ws (with_flag f w) (λ g. flags_shorter ws g)

pub add_good : (n w : ℕ) (ws : List Bytes) (c : Command) → length ws ≤ n → add w ws ≡ Ok c → Good n w c
unfolding add
add_good n w ws c few h =
    let s = steps (one_and_two ws) _ c h in
    let x = s.middle in
    let long : length ws ≡ suc (length x.1) = ap length (one_and_two_right ws x s.first) in
    let t = steps (judged ((K, x.0) ∷ []) x.0) _ c s.next in
    let j = judged_right false ((K, x.0) ∷ []) x.0 t.middle t.first in
    let y = flags no_flags x.1 in
    let u = steps (scored y.0 y.1) _ c t.next in
    let z = u.middle in
    let r = scored_right y.0 y.1 z u.first in
    let shorter = flags_shorter x.1 no_flags in
    let all = r.all in
    let made : Command = cmd.ZAdd t.middle z.0 z.1 (how y.0) w in
    let e : made ≡ c = cc in
    let key : IsName t.middle = subst IsName (sym j.value) (name_fits x.0 (first_passed K x.0 [] j.passed).name) in
    subst (Good n w) e (list_good n w made t.middle refl key (r.pairs, r.one) (omega arith) refl)
