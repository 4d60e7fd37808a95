-- Until when what a command comes to stays right: the least deadline ahead.
use Rattle.std.proofs.Common.{◌≡◌, ℕ, ◌<◌, ◌≤◌, Bool, true, false, ◌||◌, List, [], ◌∷◌, refl, subst, arith}
use Rattle.std.proofs.lemmas.Bool.Decides.{nat_tests}
use Rattle.std.proofs.lemmas.Bool.{or_parts}
use Rattle.std.proofs.lemmas.List.Elements.{All-nil, All-cons}
use Rattle.std.specs.Prelude.{nat_lt, nat_le, ◌&&◌, if◌then◌else◌, IsFalse, Option, Some, None, All}
use Rattle.std.specs.List.{list_any}
use Rattle.redis_model.specs.declared.command.Command.{Command}
use Rattle.redis_model.specs.Value.{RedisMap, alive}
use Rattle.redis_model.specs.About.{keys_of}
use Rattle.redis_model.specs.Deadlines.{deadlines, reads_clock, sooner, least_above, is_past}
use Rattle.key_locality.specs.Agree.{AgreeOn, SameMoment}
use Rattle.key_locality.specs.Between.{IsNotBetween, NoneBetween, FindsTheSame}
use Rattle.key_locality.specs.Moments.{none_between_itself}

-- ---- deadlines

-- the sooner of two has not come: the first is not in between, whether it is the sooner one or not
alone : (t u d : ℕ) (b : Bool) → nat_lt t d ≡ b → is_past u (if b then Some d else None) ≡ false → t < d → u < d
alone t u d true is h ahead = grind (arith, nat_tests)
alone t u d false is h ahead = absurd (grind (arith, nat_tests))

sooner_one : (t u d e : ℕ) (b : Bool) → (nat_lt t d && nat_lt d e) ≡ b → is_past u (if b then Some d else Some e) ≡ false → t < d → u < d
sooner_one t u d e true is h ahead = grind (arith, nat_tests)
sooner_one t u d e false is h ahead = grind (arith, nat_tests)

-- and the other has not come either
later_one : (t u d e : ℕ) (b : Bool) → (nat_lt t d && nat_lt d e) ≡ b → is_past u (if b then Some d else Some e) ≡ false → is_past u (Some e) ≡ false
later_one t u d e true is h = grind (arith, nat_tests)
later_one t u d e false is h = h

-- so the first does not lie in between
first_ahead : (t u : ℕ) (d o : Option ℕ) → is_past u (sooner t d o) ≡ false → IsNotBetween t u d
first_ahead t u None o h = tt
first_ahead t u (Some d) None h = alone t u d (nat_lt t d) refl h
first_ahead t u (Some d) (Some e) h = sooner_one t u d e (nat_lt t d && nat_lt d e) refl h

-- nor has the other come
other_ahead : (t u : ℕ) (d o : Option ℕ) → is_past u (sooner t d o) ≡ false → is_past u o ≡ false
other_ahead t u None o h = h
other_ahead t u (Some d) None h = refl
other_ahead t u (Some d) (Some e) h = later_one t u d e (nat_lt t d && nat_lt d e) refl h

-- before the least deadline above t none of the deadlines has passed since t
pub none_between_until : (t u : ℕ) (ds : List (Option ℕ)) → IsFalse (is_past u (least_above t ds)) → NoneBetween t u ds
none_between_until t u [] h = All-nil (IsNotBetween t u)
none_between_until t u (d ∷ ds) h =
    All-cons (IsNotBetween t u) d ds (first_ahead t u d (least_above t ds) h) (none_between_until t u ds (other_ahead t u d (least_above t ds) h))

-- ---- commands

-- a command that does not read the clock
does_not_read : (t u : ℕ) (c : Command) → reads_clock c ≡ false → SameMoment c t u
does_not_read t u c h reads = cc

-- where none of them reads the clock, one moment serves them as well as the other
pub none_reads_clock : (t u : ℕ) (cs : List Command) → IsFalse (list_any reads_clock cs) → All (λ c. SameMoment c t u) cs
none_reads_clock t u [] h = All-nil (λ (c : Command). SameMoment c t u)
none_reads_clock t u (c ∷ cs) h =
    All-cons (λ (d : Command). SameMoment d t u) c cs (does_not_read t u c (or_parts (reads_clock c) (list_any reads_clock cs) h).0) (none_reads_clock t u cs (or_parts (reads_clock c) (list_any reads_clock cs) h).1)

-- What a command comes to at t has lapsed at u where u is later, and a deadline ahead has come or the command reads the clock.
abbrev pub lapsed : ℕ → ℕ → Option ℕ → Command → Bool
lapsed t u until c = nat_lt t u && (is_past u until || reads_clock c)

-- until then a command finds the same
pub finds_until : (m n : RedisMap) (t u : ℕ) (c : Command) → t ≤ u → IsFalse (lapsed t u (least_above t (deadlines (alive m t) t c)) c) → AgreeOn (keys_of c) (alive m u) (alive n u) → FindsTheSame m n t u c
finds_until m n t u c later current agree = by_test (nat_lt t u) refl current
  where
    by_test : (b : Bool) → nat_lt t u ≡ b → (b && (is_past u (least_above t (deadlines (alive m t) t c)) || reads_clock c)) ≡ false → FindsTheSame m n t u c
    by_test true is h = record {
      later = later;
      clock = does_not_read t u c (or_parts (is_past u (least_above t (deadlines (alive m t) t c))) (reads_clock c) h).1;
      ahead = none_between_until t u (deadlines (alive m t) t c) (or_parts (is_past u (least_above t (deadlines (alive m t) t c))) (reads_clock c) h).0;
      agree = agree;
    }
    by_test false is h =
        let at_once : t ≡ u = grind (arith, nat_tests) in
        record {
          later = later;
          clock = λ reads. at_once;
          ahead = subst (λ (x : ℕ). NoneBetween t x (deadlines (alive m t) t c)) at_once (none_between_itself t (deadlines (alive m t) t c));
          agree = agree;
        }
