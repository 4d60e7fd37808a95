-- One read of a source.
use Rattle.std.proofs.Common.{◌≡◌, ◌≤◌, ◌<◌, ℕ, Bool, true, false, List, ◌++◌, length, take, Option, Ok, Err, refl, ap, ◌∙◌, arith}
use Rattle.std.specs.Prelude.{◌||◌, ◌&&◌, ◌==◌, nat_lt}
use Rattle.std.proofs.lemmas.List.{append-nil, length-take, nil_from_length}
use Rattle.std.proofs.lemmas.Bool.Decides.{nat_tests}
use Rattle.std.specs.Io.KnownBytes.{Consumes, IsAtEnd, Keeps}
use Rattle.kv_base.specs.Map.{Bytes}
use Rattle.kv_outside.specs.Causes.{Rose}
use Rattle.kv_outside.specs.CauseLaws.{rose_since}
use Rattle.kv_outside.specs.TakenLaws.{kept_taken}
use Rattle.resp_wire.specs.Reading.{IsUnfinished}
use Rattle.session.specs.declared.session.Outcome.{Outcome}
use Rattle.session.specs.declared.session.Outcome.TheVariants as outcome
use Rattle.session.specs.Serving.{Pulls}
use Rattle.session.specs.Session.{IsCaused}
use Rattle.std.proofs.Common.{subst, sym}

abbrev Known : Type 0
Known = Option (List ℕ)

pub pull_failed : (l l' : Option (List ℕ)) (ended ended' : Bool) (f f' : ℕ) (bytes bytes' : Bytes) (room : ℕ) → Keeps l l' → Rose f f' → Pulls l l' ended ended' f f' bytes bytes' room (Err outcome.ReadFault)
unfolding Pulls
pull_failed l l' ended ended' f f' bytes bytes' room k r = (kept_taken l l' k, r)

always : (before now : Bool) → now ≡ (before || true) → now ≡ true
always true now e = e
always false now e = e

none_read : (before now : Bool) (room : ℕ) → 0 < room → now ≡ (before || (nat_lt 0 room && (0 == 0))) → now ≡ true
none_read before now room some e =
    let t : nat_lt 0 room ≡ true = grind (arith, nat_tests) in
    always before now (e ∙ ap (λ (b : Bool). before || (b && true)) t)

or_and_false : (a b : Bool) → (a || (b && false)) ≡ a
or_and_false true b = refl
or_and_false false true = refl
or_and_false false false = refl

some_read : (before now : Bool) (room n : ℕ) → 0 < n → now ≡ (before || (nat_lt 0 room && (n == 0))) → now ≡ before
some_read before now room n some e =
    let t : (n == 0) ≡ false = grind (arith, nat_tests) in
    e ∙ ap (λ (b : Bool). before || (nat_lt 0 room && b)) t ∙ or_and_false before (nat_lt 0 room)

pub pulled : (l l' : Option (List ℕ)) (ended ended' : Bool) (f f' : ℕ) (bytes bytes' : Bytes) (room : ℕ) (piece out : Bytes) (n : ℕ) → 0 < room → n ≤ length out → piece ≡ take n out → Consumes l l' (take n out) × (n ≡ 0 → 0 < length out → IsAtEnd l')
    → ended' ≡ (ended || (nat_lt 0 (length out) && (n == 0))) → bytes' ≡ bytes ++ piece → length out ≡ room → Pulls l l' ended ended' f f' bytes bytes' room (Ok n)
unfolding Pulls
pulled l l' ended ended' f f' bytes bytes' room piece out n some bound is took end feeds same = (
  take n out,
  omega (arith, length-take n out),
  omega arith,
  feeds ∙ ap (λ (x : Bytes). bytes ++ x) is,
  took.0,
  λ none. (none_read ended ended' (length out) (omega arith) (end ∙ ap (λ (k : ℕ). ended || (nat_lt 0 (length out) && (k == 0))) none), took.1 none (omega arith)),
  λ there. some_read ended ended' (length out) n there end,
)

-- a read gave nothing
pub still_unfinished : (l l' : Known) (e e' : Bool) (f f' : ℕ) (bytes bytes' : Bytes) (room n : ℕ) → Pulls l l' e e' f f' bytes bytes' room (Ok n) → n ≡ 0 → IsUnfinished bytes → IsUnfinished bytes'
unfolding Pulls
still_unfinished l l' e e' f f' bytes bytes' room n p none unfinished =
    let same : bytes' ≡ bytes = p.3 ∙ ap (λ (x : Bytes). bytes ++ x) (nil_from_length p.0 (p.1 ∙ none)) ∙ append-nil bytes in
    subst IsUnfinished (sym same) unfinished

pub pull_caused : (l1 l2 : Known) (rest fed : Bytes) (room first f f' sink sink' : ℕ) (e1 e2 : Bool) (o : Outcome) → Pulls l1 l2 e1 e2 f f' rest fed room (Err o) → first ≤ f → IsCaused o first f' sink sink'
unfolding Pulls
pull_caused l1 l2 rest fed room first f f' sink sink' e1 e2 outcome.Closed q le = absurd q
pull_caused l1 l2 rest fed room first f f' sink sink' e1 e2 outcome.NoMem q le = tt
pull_caused l1 l2 rest fed room first f f' sink sink' e1 e2 outcome.ReadFault q le = rose_since first f f' le q.1
pull_caused l1 l2 rest fed room first f f' sink sink' e1 e2 outcome.WriteFault q le = absurd q
pull_caused l1 l2 rest fed room first f f' sink sink' e1 e2 outcome.Protocol q le = absurd q
pull_caused l1 l2 rest fed room first f f' sink sink' e1 e2 outcome.Spent q le = absurd q

pub pulled_few : (l1 l2 : Known) (e1 e2 : Bool) (f f' : ℕ) (rest fed : Bytes) (room n : ℕ) → Pulls l1 l2 e1 e2 f f' rest fed room (Ok n) → n ≤ room
unfolding Pulls
pulled_few l1 l2 e1 e2 f f' rest fed room n q = q.2

pub pulled_on : (l1 l2 : Known) (e1 e2 : Bool) (f f' : ℕ) (rest fed : Bytes) (room n : ℕ) → Pulls l1 l2 e1 e2 f f' rest fed room (Ok n) → 0 < n → e2 ≡ e1
unfolding Pulls
pulled_on l1 l2 e1 e2 f f' rest fed room n q some = q.6 some
