-- Laws on what stands in `Alone.antt`.
use Rattle.std.specs.Prelude.{◌≡◌, ◌+◌, ◌==◌, ℕ, Bool, true, false, if◌then◌else◌, List, [], ◌∷◌, ◌++◌, Option, Some, None, Ok, Err, refl}
use Rattle.std.proofs.Common.{sym, ap, subst, ◌∙◌, inl, arith}
use Rattle.std.proofs.lemmas.List.{append-nil}
use Rattle.redis_model.specs.declared.command.Command.{Command}
use Rattle.redis_model.specs.declared.desk.DeskFault.{DeskFault}
use Rattle.redis_model.specs.declared.reply.Reply.{Reply}
use Rattle.redis_model.specs.declared.history.Step.{Step}
use Rattle.redis_model.specs.declared.history.Step.TheVariants.{Call}
use Rattle.redis_model.specs.declared.history.Place.{Place}
use Rattle.redis_model.specs.declared.history.Note.{Note}
use Rattle.redis_model.specs.declared.history.Note.TheVariants.{Bare, Appended}
use Rattle.redis_model.specs.Machine.{State, run, step}
use Rattle.redis_model.specs.Legal.{IsLegal, IsLegalFrom, MayStep, Jobs, no_jobs, jobs_after}
use Rattle.redis_model.specs.Desk.{has_pin, IsSeen}
use Rattle.redis_model.specs.Places.{steps_of, state_at, sequences, appended_by, put_before, GoUp}
use Rattle.log_store.specs.Playing.{batches}
use Rattle.kv_server.specs.Alone.{IsOwnCall, AreOwnCalls, IsAlone, batches_in, note_of, CallGoesOn}

pub free_has_none : (s : State) → s.pins ≡ [] → has_pin s 0 ≡ false
free_has_none s free = rw free refl

pub knows_alone : (first : State) (seen : List Place) → IsAlone first seen → IsSeen 0 false first seen
knows_alone first seen alone = record { legal = alone.legal; pin = free_has_none (state_at first seen) alone.free }

-- ---- one call more

run_more : (s : State) (es : List Step) (e : Step) → run s (es ++ e ∷ []) ≡ (step (run s es) e).1
run_more s [] e = refl
run_more s (x ∷ es) e = run_more (step s x).1 es e

pub steps_more : (seen : List Place) (p : Place) → steps_of (seen ++ p ∷ []) ≡ steps_of seen ++ p.what ∷ []
steps_more [] p = refl
steps_more (x ∷ seen) p = ap (λ (es : List Step). x.what ∷ es) (steps_more seen p)

calls_more : (seen : List Place) (p : Place) → AreOwnCalls seen → IsOwnCall p.what → AreOwnCalls (seen ++ p ∷ [])
calls_more [] p all own = (own, tt)
calls_more (x ∷ seen) p all own = (all.0, calls_more seen p all.1 own)

-- a call opens no job
no_job : (j : Jobs) (e : Step) → IsOwnCall e → jobs_after j e ≡ j
no_job j (Call now caller c) own = refl
no_job j _ own = absurd own

legal_more : (s : State) (j : Jobs) (seen : List Place) (e : Step) → AreOwnCalls seen → IsLegalFrom s j (steps_of seen) → MayStep (run s (steps_of seen)) j e → IsLegalFrom s j (steps_of seen ++ e ∷ [])
legal_more s j [] e all legal may = (may, tt)
legal_more s j (p ∷ seen) e all legal may =
    let same = no_job j p.what all.0 in (
      legal.0,
      subst (λ (k : Jobs). IsLegalFrom (step s p.what).1 k (steps_of seen ++ e ∷ [])) (sym same)
          (legal_more (step s p.what).1 j seen e all.1 (subst (λ (k : Jobs). IsLegalFrom (step s p.what).1 k (steps_of seen)) same legal.1) may),
    )

pub state_more : (first : State) (seen : List Place) (p : Place) → state_at first (seen ++ p ∷ []) ≡ (step (state_at first seen) p.what).1
state_more first seen p = ap (run first) (steps_more seen p) ∙ run_more first (steps_of seen) p.what

-- a call more, after which nobody has a pin
pub alone_on : (now : ℕ) (c : Command) (note : Note) (first : State) (seen : List Place) → IsAlone first seen → (step (state_at first seen) (Call now 0 c)).1.pins ≡ []
    → IsAlone first (seen ++ record { what = Call now 0 c; note = note } ∷ [])
alone_on now c note first seen alone free =
    let p : Place = record { what = Call now 0 c; note = note } in
    record {
      calls = calls_more seen p alone.calls refl;
      legal = subst (λ (es : List Step). IsLegal first es) (sym (steps_more seen p)) (legal_more first no_jobs seen (Call now 0 c) alone.calls alone.legal (may_call (state_at first seen) alone.free));
      free = ap (λ (s : State). s.pins) (state_more first seen p) ∙ free;
    }
  where
    may_call : (s : State) → s.pins ≡ [] → MayStep s no_jobs (Call now 0 c)
    may_call s none = rw none refl

-- ---- batches

pub batches_in-append : (s : State) (ps qs : List Place) → batches_in s (ps ++ qs) ≡ batches_in s ps + batches_in (state_at s ps) qs
batches_in-append s [] qs = omega arith
batches_in-append s (p ∷ ps) qs = let rest = batches_in-append (step s p.what).1 ps qs in omega (arith, rest)

put_before-append : (o : Option ℕ) (ms ns : List ℕ) → put_before o (ms ++ ns) ≡ put_before o ms ++ ns
put_before-append None ms ns = refl
put_before-append (Some n) ms ns = refl

sequences-append : (ps qs : List Place) → sequences (ps ++ qs) ≡ sequences ps ++ sequences qs
sequences-append [] qs = refl
sequences-append (p ∷ ps) qs = ap (put_before (appended_by p.what p.note)) (sequences-append ps qs) ∙ put_before-append (appended_by p.what p.note) (sequences ps) (sequences qs)

-- sequences that go on where others end
go_up_then : (first mid last : ℕ) (ms ns : List ℕ) → GoUp first ms mid → GoUp mid ns last → GoUp first (ms ++ ns) last
go_up_then first mid last [] ns p q = subst (λ (n : ℕ). GoUp n ns last) p q
go_up_then first mid last (m ∷ ms) ns p q = (p.0, go_up_then m mid last ms ns p.1 q)

noted_by : (now : ℕ) (c : Command) (n : ℕ) (none : Bool) → GoUp n (sequences (record { what = Call now 0 c; note = if none then Bare else Appended (n + 1) } ∷ [])) (n + (if none then 0 else 1))
noted_by now c n true = omega arith
noted_by now c n false = (refl, refl)

-- each batch has the next sequence, and this is the last
noted_on : (now : ℕ) (c : Command) (first n planned : ℕ) (seen : List Place) → GoUp first (sequences seen) n
    → GoUp first (sequences (seen ++ record { what = Call now 0 c; note = note_of n planned } ∷ [])) (n + batches planned)
noted_on now c first n planned seen has =
    let own : Place = record { what = Call now 0 c; note = note_of n planned } in
    subst (λ (ms : List ℕ). GoUp first ms (n + batches planned)) (sym (sequences-append seen (own ∷ [])))
    (go_up_then first n (n + batches planned) (sequences seen) (sequences (own ∷ [])) has (noted_by now c n (planned == 0)))

-- ---- what the desk's calls leave

-- it answered as the machine does
pub goes_on : (reply : Reply) (now : ℕ) (c : Command) (planned begun n : ℕ) (first : State) (seen : List Place) → IsAlone first seen → GoUp begun (sequences seen) n → (step (state_at first seen) (Call now 0 c)).0 ≡ Some reply
    → (step (state_at first seen) (Call now 0 c)).1.pins ≡ [] → CallGoesOn first seen now c (Ok reply) (step (state_at first seen) (Call now 0 c)).1 begun (n + batches planned)
goes_on reply now c planned begun n first seen alone noted answer free =
    let own : Place = record { what = Call now 0 c; note = note_of n planned } in
    let known = knows_alone first seen alone in
    record {
      after = seen ++ own ∷ [];
      alone = alone_on now c (note_of n planned) first seen alone free;
      state = state_more first seen own;
      follows = record { added = own ∷ []; grown = refl; ended = tt };
      leaves = record {
        before = [];
        own = own;
        behind = [];
        grown = ap (λ (xs : List Place). xs ++ own ∷ []) (sym (append-nil seen));
        ticked = inl refl;
        idle = refl;
        is = rw known.pin refl;
        once = refl;
        answered = ap (λ (xs : List Place). (step (state_at first xs) (Call now 0 c)).0) (append-nil seen) ∙ answer;
      };
      batches = (let more = batches_in-append first seen (own ∷ []) in omega (arith, more));
      noted = noted_on now c begun n planned seen noted;
    }

-- it failed, and is as it was
pub stays_so : (now : ℕ) (c : Command) (fault : DeskFault) (begun n : ℕ) (first : State) (seen : List Place) → IsAlone first seen → GoUp begun (sequences seen) n → CallGoesOn first seen now c (Err fault) (state_at first seen) begun n
stays_so now c fault begun n first seen alone noted = record {
  after = seen;
  alone = alone;
  state = refl;
  follows = record { added = []; grown = sym (append-nil seen); ended = tt };
  leaves = record { added = []; grown = sym (append-nil seen); own = tt };
  batches = omega arith;
  noted = noted;
}
