-- Taking bytes from a source, piece by piece.
use Rattle.std.proofs.Common.{◌≡◌, ◌<◌, ◌≤◌, ℕ, Bool, true, false, List, [], ◌++◌, length, take, Option, Result, Ok, Err, ap, subst, sym, ◌∙◌, arith, inl, inr}
use Rattle.std.specs.Prelude.{◌||◌, ◌&&◌, ◌==◌, nat_lt}
use Rattle.std.proofs.lemmas.List.{append-nil}
use Rattle.std.proofs.lemmas.Bool.Decides.{nat_tests}
use Rattle.std.specs.Io.KnownBytes.{Consumes}
use Rattle.kv_base.specs.Map.{Bytes}
use Rattle.kv_outside.specs.TakenLaws.{taken_then}
use Rattle.kv_outside.specs.Causes.{Rose}
use Rattle.conf_file.specs.declared.conf.Conf.{Conf}
use Rattle.conf_file.specs.declared.fault.ConfFault.{ConfFault}
use Rattle.conf_file.specs.declared.fault.ConfFault.TheVariants as fault
use Rattle.conf_file.specs.declared.fault.ConfFlaw.{ConfFlaw}
use Rattle.conf_file.specs.Configuration.{configured, most_bytes}
use Rattle.conf_file.specs.Reading.{ConfAnswers, AnswersTaken, IsNoFlaw, WereTaken}

abbrev Known : Type 0
Known = Option (List ℕ)

or_true : (before now : Bool) → now ≡ (before || true) → now ≡ true
or_true true now e = e
or_true false now e = e

-- a read of nothing into some room has answered the end
has_ended : (before now : Bool) (room : ℕ) → 0 < room → now ≡ (before || (nat_lt 0 room && (0 == 0))) → now ≡ true
has_ended before now room some e =
    let t : nat_lt 0 room ≡ true = grind (arith, nat_tests) in
    or_true before now (e ∙ ap (λ (b : Bool). before || (b && true)) t)

-- the source has ended
pub taken_all : (first before after : Known) (was now : Bool) (bytes piece : Bytes) (room count : ℕ) → count ≡ 0 → 0 < room
    → Consumes first before bytes → Consumes before after (take count piece) → now ≡ (was || (nat_lt 0 room && (count == 0))) → WereTaken first after now bytes
taken_all first before after was now bytes piece room count none some p q e = record {
  consumed = subst (Consumes first after) (append-nil bytes) (taken_then first before after bytes [] p (subst (λ (n : ℕ). Consumes before after (take n piece)) none q));
  whole = inl (has_ended was now room some (e ∙ ap (λ (n : ℕ). was || (nat_lt 0 room && (n == 0))) none));
}

-- there are more bytes than a configuration has
pub taken_many : (first after : Known) (now : Bool) (bytes : Bytes) → most_bytes < length bytes → length bytes ≤ 65537 → Consumes first after bytes → WereTaken first after now bytes
taken_many first after now bytes many few p = record { consumed = p; whole = inr (omega arith) }

-- one more piece is taken
pub taken_more : (first before after : Known) (bytes out piece grown : Bytes) (count : ℕ) → Consumes first before bytes → Consumes before after (take count out) → piece ≡ take count out → grown ≡ bytes ++ piece → Consumes first after grown
taken_more first before after bytes out piece grown count p q is all =
    subst (Consumes first after) (sym (all ∙ ap (λ (x : Bytes). bytes ++ x) is)) (taken_then first before after bytes (take count out) p q)

-- what is answered for the bytes is answered for the source
pub answers_taken : (before after : Known) (ended : Bool) (bytes : Bytes) (r : Result Conf ConfFault) → WereTaken before after ended bytes → ConfAnswers (configured bytes) r → AnswersTaken before after ended r
answers_taken before after ended bytes (Ok conf) p q = (bytes, p, q)
answers_taken before after ended bytes (Err (fault.Conf flaw)) p q = (bytes, p, q)
answers_taken before after ended bytes (Err fault.NoMem) p q = tt
answers_taken before after ended bytes (Err fault.ReadFault) p q = tt

-- bytes at hand have no fault of a source
pub none_unread : (said : Result Conf ConfFlaw) (r : Result Conf ConfFault) (before now : ℕ) → ConfAnswers said r → r ≡ Err fault.ReadFault → Rose before now
none_unread said r before now p e = absurd (subst (ConfAnswers said) e p)

-- a fault that is no flaw is answered as it is
pub fault_taken : (before after : Known) (ended : Bool) (e : ConfFault) → IsNoFlaw e → AnswersTaken before after ended (Err e)
fault_taken before after ended (fault.Conf flaw) never = absurd never
fault_taken before after ended fault.NoMem none = tt
fault_taken before after ended fault.ReadFault none = tt
