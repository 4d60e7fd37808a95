-- What is told of the desk of a store that is kept by a log.
use Rattle.std.proofs.Common.{◌≡◌, ◌≤◌, ◌<◌, ◌+◌, ℕ, zero, suc, inl, inr, List, [], Result, Ok, Err, ⊎_elim, refl, sym, ap, subst, ◌∙◌, arith}
use Rattle.std.specs.Prelude.{IsFalse, IfOk, IfErr, OnOk, OnErr}
use Rattle.kv_base.specs.Map.{empty, size-empty}
use Rattle.redis_model.specs.declared.command.Command.{Command}
use Rattle.redis_model.specs.declared.command.Cmds.{Cmds}
use Rattle.redis_model.specs.declared.command.Cmds.TheVariants.{One}
use Rattle.redis_model.specs.declared.desk.DeskFault.{DeskFault}
use Rattle.redis_model.specs.declared.desk.DeskFault.TheVariants as fault
use Rattle.redis_model.specs.declared.history.Place.{Place}
use Rattle.redis_model.specs.declared.reply.Reply.{Reply}
use Rattle.redis_model.specs.About.{writes}
use Rattle.redis_model.specs.Asks as ask
use Rattle.redis_model.specs.DeskState.{DeskState}
use Rattle.redis_model.specs.Desk.{TakesCall, HasReason, Follows, LeavesPlaces, failed_with, fault_of, last_sequence, longest_body}
use Rattle.redis_model.specs.Machine.{State, moment_at, at_moment}
use Rattle.redis_model.specs.Places.{Opening, state_at, sequences, GoUp}
use Rattle.redis_model.specs.Value.{alive}
use Rattle.lives_model.specs.Rows.{Rows}
use Rattle.lives_model.specs.Plans.{IsPlanFor, version}
use Rattle.lives_model.specs.CleanLaws.{means_later}
use Rattle.lives_model.specs.OwnKeyLaws.{reading_step}
use Rattle.log_store.specs.Keeping.{KeptState, StandsFor, IsKept}
use Rattle.log_store.specs.Playing.{batches, batches_of, planned_for, IsBodyOfPlan, IsSized, IsUnchanged, PlayFails, Plays}
use Rattle.log_store.specs.KeepLaws.{holds_alike, stands_mean}
use Rattle.log_store.specs.PlayLaws.{batches_are, planned_none, some_batch}
use Rattle.kv_server.specs.AloneLaws.{knows_alone, goes_on, stays_so}
use Rattle.kv_server.specs.Standing.{DeskParts, StoreStands, Planned, told_of}
use Rattle.kv_server.proofs.Talk.{IsForOne, IsUnwritten}

-- ---- a call

why : (before : ℕ) (d : DeskParts) (sequence : ℕ) (e : DeskFault) → d.sequence ≡ sequence → d.body ≡ d.kept.planned → PlayFails before d.faults sequence d.kept.planned e → HasReason before (told_of d) (Err e)
why before d sequence fault.IoError is same fails = fails
why before d sequence fault.NoMem is same fails = tt
why before d sequence (fault.Damaged file place) is same fails = absurd fails
why before d sequence fault.SeqFull is same fails = (omega (arith, fails.0, same), is ∙ fails.1)
why before d sequence fault.TooBig is same fails = (omega (arith, fails.0, same), λ full. fails.1 (sym is ∙ full))
why before d sequence fault.Busy is same fails = absurd fails

-- what was planned for a command that only reads has no body
no_body : (k : KeptState) (now : ℕ) (s : State) (c : Command) (planned : ℕ) → IsBodyOfPlan k now s (One c) planned → IsFalse (writes c) → planned ≡ 0
no_body k now s c planned body reads =
    body.bytes ∙ ap planned_for (reading_step k.rows (moment_at s now) (version k.sequence 0) (at_moment s now).keys c body.batch body.answer body.plan.step reads) ∙ planned_none empty (size-empty _)

sized_none : (k : KeptState) (now : ℕ) (s : State) (c : Command) (planned : ℕ) → IsSized k now s (One c) planned → IsFalse (writes c) → planned ≡ 0
sized_none k now s c planned sized reads = ⊎_elim (λ (none : planned ≡ 0). none) (λ (body : IsBodyOfPlan k now s (One c) planned). no_body k now s c planned body reads) sized

-- rows, floor and sequence that stay as they were stand for the same state, and a plan on them is one on them still
same_stands : (k k' : KeptState) (s : State) → IsUnchanged k k' → StandsFor k s → StandsFor k' s
same_stands k k' s same stands = record {
  at_last_batch = stands.at_last_batch;
  holds = holds_alike k k' stands.at_last_batch same.rows same.written same.sequence stands.holds;
  past = omega (arith, stands.past, same.written, same.floor);
  keys = stands.keys ∙ ap (alive stands.at_last_batch) (sym same.floor);
  floor = stands.floor ∙ sym same.floor;
  free = stands.free;
}

same_body : (k k' : KeptState) (now : ℕ) (s : State) (c : Command) (planned : ℕ) → IsUnchanged k k' → IsBodyOfPlan k now s (One c) planned → IsBodyOfPlan k' now s (One c) planned
same_body k k' now s c planned same body = record {
  batch = body.batch;
  answer = body.answer;
  until = body.until;
  plan = subst (λ (n : ℕ). IsPlanFor k'.rows (moment_at s now) n (at_moment s now).keys (One c) body.batch body.answer body.until) (sym same.sequence)
      (subst (λ (rows : Rows). IsPlanFor rows (moment_at s now) k.sequence (at_moment s now).keys (One c) body.batch body.answer body.until) (sym same.rows) body.plan);
  bytes = body.bytes;
}

still_planned : (k k' : KeptState) (now : ℕ) (c : Command) (met body : ℕ) → IsUnchanged k k' → met ≡ k.sequence → body ≡ k'.planned → ((s : State) → StandsFor k s → IsSized k now s (One c) k'.planned) → Planned k' met body now (ask.Call c)
still_planned k k' now c met body same met_is body_is sized = (
  met_is ∙ sym same.sequence,
  λ s stands. ⊎_elim
      (λ (none : k'.planned ≡ 0). inl (body_is ∙ none))
      (λ (here : IsBodyOfPlan k now s (One c) k'.planned). inr (subst (IsBodyOfPlan k' now s (One c)) (sym body_is) (same_body k k' now s c k'.planned same here)))
      (sized s (same_stands k' k s (reversed same) stands)),
)
  where
    reversed : IsUnchanged k k' → IsUnchanged k' k
    reversed u = record { rows = sym u.rows; floor = sym u.floor; written = sym u.written; sequence = sym u.sequence }

-- a sequence that has room, or needs none, stays within its limit
within : (k k' : KeptState) → k'.sequence ≡ k.sequence + batches k'.planned → (0 < k'.planned → k.sequence < last_sequence) → k.sequence ≤ last_sequence → k'.sequence ≤ last_sequence
within k k' more room limit = by_planned k'.planned refl
  where
    by_planned : (n : ℕ) → k'.planned ≡ n → k'.sequence ≤ last_sequence
    by_planned zero is = let none : batches k'.planned ≡ 0 = ap batches is in omega (arith, more, none, limit)
    by_planned (suc n) is = let one : batches k'.planned ≡ 1 = ap batches is ∙ some_batch (suc n) (omega arith) in let left = room (omega (arith, is)) in omega (arith, more, one, left)

-- from the parts before a call to those after it
module _ (old new : DeskParts) (now : ℕ) (c : Command) where
  -- all that is told but the history
  calls : (result : Result Reply DeskFault)
      → ((opening : Opening) (seen : List Place) → StoreStands old.kept opening seen
      → (after : List Place) × StoreStands new.kept opening after × Follows 0 seen after × LeavesPlaces 0 opening.state seen now (ask.Call c) result after)
      → ((failed : List Cmds) → IsKept old.disk old.kept failed → IsKept new.disk new.kept (failed_with (One c) result failed))
      → HasReason old.faults (told_of new) result
      → ((opening : Opening) (seen : List Place) → StoreStands old.kept opening seen → IsFalse (writes c) → new.body ≡ 0)
      → OnErr result (Planned new.kept new.sequence new.body now (ask.Call c))
      → new.fault ≡ fault_of result → old.faults ≤ new.faults → new.readings ≡ old.readings → new.last ≡ old.last
      → TakesCall (told_of old) (told_of new) now (ask.Call c) result
  calls (Ok reply) history kept reason idle planned fault later readings last =
      record { history = history; kept = kept; reason = reason; idle = idle; planned = planned; fault = fault; met = refl; later = later; readings = readings; last = last; number = refl; pinned = refl }
  calls (Err e) history kept reason idle planned fault later readings last =
      record { history = history; kept = kept; reason = reason; idle = idle; planned = planned; fault = fault; met = refl; later = later; readings = readings; last = last; number = refl; pinned = refl }

  pub desk_called : (result : Result Reply DeskFault)
      → IfOk result (λ reply. Plays old.kept new.kept now (One c) reply)
      → OnOk result (new.kept.sequence ≡ old.kept.sequence + batches new.kept.planned)
      → OnOk result (new.kept.planned ≤ longest_body)
      → OnOk result (0 < new.kept.planned → old.kept.sequence < last_sequence)
      → OnOk result ((s : State) → StandsFor old.kept s → IsBodyOfPlan old.kept now s (One c) new.kept.planned)
      → OnErr result ((s : State) → StandsFor old.kept s → IsSized old.kept now s (One c) new.kept.planned)
      → OnErr result (IsUnchanged old.kept new.kept)
      → IfErr result (λ e. PlayFails old.faults new.faults old.kept.sequence new.kept.planned e)
      → old.faults ≤ new.faults → ((failed : List Cmds) → IsKept old.disk old.kept failed → IsKept new.disk new.kept (failed_with (One c) result failed))
      → new.sequence ≡ old.kept.sequence → new.body ≡ new.kept.planned → new.fault ≡ fault_of result → new.readings ≡ old.readings → new.last ≡ old.last
      → TakesCall (told_of old) (told_of new) now (ask.Call c) result
  desk_called (Ok reply) plays more fits room planned sized same fails later kept sequence body fault readings last =
      calls (Ok reply)
      (λ opening seen stands.
      let s : State = state_at opening.state seen in
      let next = plays.stands s stands.store in
      let went = goes_on reply now c new.kept.planned opening.last old.kept.sequence opening.state seen stands.alone stands.noted (plays.answer s stands.store) next.free in
      let count : batches new.kept.planned ≡ batches_of s now (One c) = batches_are old.kept now s (One c) new.kept.planned (planned s stands.store) in
      let standing : StoreStands new.kept opening went.after = record {
        alone = went.alone;
        store = subst (StandsFor new.kept) (sym went.state) next;
        batches = omega (arith, more, count, stands.batches, went.batches);
        noted = subst (GoUp opening.last (sequences went.after)) (sym more) went.noted;
        limit = within old.kept new.kept more room stands.limit;
      } in
      (went.after, standing, went.follows, went.leaves))
      kept
      (omega (arith, fits, body), λ some. (let left = room (omega (arith, some, body)) in omega (arith, left, sequence)))
      (λ opening seen stands reads. body ∙ no_body old.kept now (state_at opening.state seen) c new.kept.planned (planned (state_at opening.state seen) stands.store) reads)
      tt fault later readings last
  desk_called (Err e) plays more fits room planned sized same fails later kept sequence body fault readings last =
      calls (Err e)
      (λ opening seen stands.
      let went = stays_so now c e opening.last old.kept.sequence opening.state seen stands.alone stands.noted in
      let standing : StoreStands new.kept opening went.after = record {
        alone = went.alone;
        store = subst (StandsFor new.kept) (sym went.state) (same_stands old.kept new.kept (state_at opening.state seen) same stands.store);
        batches = omega (arith, same.sequence, stands.batches, went.batches);
        noted = subst (GoUp opening.last (sequences went.after)) (sym same.sequence) went.noted;
        limit = omega (arith, same.sequence, stands.limit);
      } in
      (went.after, standing, went.follows, went.leaves))
      kept
      (why old.faults new old.kept.sequence e sequence body fails)
      (λ opening seen stands reads. body ∙ sized_none old.kept now (state_at opening.state seen) c new.kept.planned (sized (state_at opening.state seen) stands.store) reads)
      (still_planned old.kept new.kept now c new.sequence new.body same sequence body sized)
      fault later readings last

-- ---- a session at the desk

-- what such a body was planned for, by the machine
unwritten_at : (k : KeptState) (sequence body now : ℕ) (c : Command) (s : State) → StandsFor k s → Planned k sequence body now (ask.Call c) → 0 < body → IsUnwritten s k.sequence now c body
unwritten_at k sequence body now c s stands planned some = ⊎_elim
    (λ (none : body ≡ 0). absurd (omega (arith, none, some)))
    (λ (here : IsBodyOfPlan k now s (One c) body). record {
      rows = k.rows;
      means = means_later k.rows k.floor (moment_at s now) s.keys (omega (arith, stands.floor)) (stands_mean k s stands);
      batch = here.batch;
      answer = here.answer;
      until = here.until;
      plan = here.plan;
      bytes = here.bytes;
      touches = sym (batches_are k now s (One c) body here) ∙ some_batch body some;
    })
    (planned.1 s stands)

module _ {D : Type 0} (parts : D → DeskParts) where
  abbrev pub told_at : D → DeskState
  told_at d = told_of (parts d)

  abbrev pub sequence_at : D → ℕ
  sequence_at d = (parts d).kept.sequence

  pub alone : IsForOne told_at sequence_at
  alone = record {
    number = λ d. refl;
    calls = λ d opening seen stands. stands.alone.calls;
    free = λ d opening seen stands. (knows_alone opening.state seen stands.alone).pin;
    unpinned = λ d. refl;
    batches = λ d opening seen stands. stands.batches;
    met = λ d now c planned. planned.0;
    limit = λ d opening seen stands. stands.limit;
    unwritten = λ d opening seen now c stands planned some. unwritten_at (parts d).kept (parts d).sequence (parts d).body now c (state_at opening.state seen) stands.store planned some;
    on_grammar = λ d file place off. off;
  }

-- ---- its beginning

-- what a store stands for before any call
abbrev pub opened_as : KeptState → State → Opening
opened_as k s = record { state = s; last = k.sequence }

pub begins_to_stand : (k : KeptState) (s : State) → k.sequence ≤ last_sequence → StandsFor k s → StoreStands k (opened_as k s) []
begins_to_stand k s limit stands = record {
  alone = record { calls = tt; legal = tt; free = stands.free };
  store = stands;
  batches = omega arith;
  noted = refl;
  limit = limit;
}
