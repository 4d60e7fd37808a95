-- The events of a call leave what a desk owes its caller.
use Rattle.std.proofs.Common.{◌≡◌, ℕ, List, [], ◌∷◌, ◌++◌, refl, sym, ap, subst, ◌∙◌, Bool, true, false, cond, append_assoc, append-nil}
use Rattle.std.proofs.lemmas.List.{map-append}
use Rattle.std.proofs.lemmas.List.Elements.{filter-append}
use Rattle.std.specs.Prelude.{Option, Some, IsFalse, IsNone, is_some, Result, Ok, Err}
use Rattle.kv_base.specs.InversionLaws.{same_some}
use Rattle.redis_model.specs.declared.reply.Reply.{Reply}
use Rattle.redis_model.specs.declared.command.Command.{Command}
use Rattle.redis_model.specs.declared.command.Cmds.{Cmds}
use Rattle.redis_model.specs.declared.command.Cmds.TheVariants.{One, Many}
use Rattle.redis_model.specs.declared.history.Step.TheVariants.{PinnedRead, PinnedRefused}
use Rattle.redis_model.specs.declared.history.Place.{Place}
use Rattle.redis_model.specs.declared.desk.DeskFault.{DeskFault}
use Rattle.redis_model.specs.About.{writes}
use Rattle.redis_model.specs.Machine.{State, step, run}
use Rattle.redis_model.specs.MachineLaws.{run-append}
use Rattle.redis_model.specs.Legal.{IsRefusedUnderPin, is_job_of, jobs_of}
use Rattle.redis_model.specs.Places.{Opening, steps_of, state_at}
use Rattle.redis_model.specs.Asks as asks
use Rattle.redis_model.specs.Asks.{Ask, entry_of}
use Rattle.redis_model.specs.Desk.{has_pin, AreEnded, Follows, Entered, LeavesPlaces}
use Rattle.core_model.specs.Core.{CoreState, pin_at}
use Rattle.core_model.specs.Events.{entry_with}
use Rattle.core_model.specs.Runs.{Event, Glance, Read, Commit, Lapse, Rerun, Play, Pin, LetGo, Look, Refuse, Freeze, NoFlush, OtherFlush, InstallFlush, DropFlush, BeginCompact, NoCompact, OtherCompact, InstallCompact, DropCompact, CountLevels, FailCommit, FailRerun, Fail, Happens, adds, answer_in, IsAnsweredAt, seen_after, IsCoreRun}
use Rattle.core_model.specs.Filtered.{StandsFiltered}
use Rattle.core_events.specs.GoingLaws.{same_pin}
use Rattle.core_filter.specs.RunLaws.{event_answers, run_whole}
use Rattle.core_desk.specs.DeskCalls.{places_of, AskBy, ask_for, asked_in, AnswersAsk, AreOfCall}
use Rattle.core_desk.specs.PinSightLaws.{ticked_keeps_pin}

-- ---- lists of events

-- a history goes on by the places of events
seen_with : (seen : List Place) (es : List Event) → seen_after seen es ≡ seen ++ places_of es
seen_with seen [] = sym (append-nil seen)
seen_with seen (e ∷ es) = seen_with (seen ++ adds e) es ∙ append_assoc seen (adds e) (places_of es)

places-append : (xs ys : List Event) → places_of (xs ++ ys) ≡ places_of xs ++ places_of ys
places-append [] ys = refl
places-append (e ∷ xs) ys = ap (λ ps. adds e ++ ps) (places-append xs ys) ∙ sym (append_assoc (adds e) (places_of xs) (places_of ys))

-- a run goes on where its first part ends
record Parted (seen : List Place) (core new : CoreState) (xs ys : List Event) : Type 0 where
  pub mid : CoreState
  pub first : IsCoreRun seen core xs mid
  pub rest : IsCoreRun (seen_after seen xs) mid ys new

parted : (seen : List Place) (core new : CoreState) (xs ys : List Event) → IsCoreRun seen core (xs ++ ys) new → Parted seen core new xs ys
parted seen core new [] ys run = record { mid = core; first = refl; rest = run }
parted seen core new (e ∷ xs) ys (next, first, rest) =
    let more = parted (seen ++ adds e) next new xs ys rest in
    record { mid = more.mid; first = (next, first, more.first); rest = more.rest }

-- ---- the event that answers

-- it adds one place, the entry of what was asked
record HasEntry (pinned : Bool) (e : Event) (a : AskBy) : Type 0 where
  pub own : Place
  pub only : adds e ≡ own ∷ []
  pub is : own.what ≡ entry_of pinned a.now a.caller a.ask

-- commands of a caller without a pin
free_entry : (now caller : ℕ) (ds : Cmds) (pinned : Bool) → pinned ≡ false → entry_with now caller ds ≡ entry_of pinned now caller (ask_for ds)
free_entry now caller (One c) pinned free = ap (λ b. entry_of b now caller (asks.Call c)) (sym free)
free_entry now caller (Many cs) pinned free = ap (λ b. entry_of b now caller (asks.Exec cs)) (sym free)

-- one that reads, and commands that are refused, of a caller with a pin
look_entry : (now caller : ℕ) (c : Command) (pinned : Bool) → pinned ≡ true → IsFalse (writes c) → PinnedRead now caller c ≡ entry_of pinned now caller (asks.Call c)
look_entry now caller c pinned has reads =
    ap (λ b. cond b (PinnedRefused now caller (One c)) (PinnedRead now caller c)) (sym reads) ∙ ap (λ b. entry_of b now caller (asks.Call c)) (sym has)

refused_entry : (now caller : ℕ) (ds : Cmds) (pinned : Bool) → pinned ≡ true → IsRefusedUnderPin ds → PinnedRefused now caller ds ≡ entry_of pinned now caller (ask_for ds)
refused_entry now caller (One c) pinned has refused =
    ap (λ b. cond b (PinnedRefused now caller (One c)) (PinnedRead now caller c)) (sym refused) ∙ ap (λ b. entry_of b now caller (asks.Call c)) (sym has)
refused_entry now caller (Many cs) pinned has refused = ap (λ b. entry_of b now caller (asks.Exec cs)) (sym has)

-- its own entry is no job
own_is_call : (pinned : Bool) (now caller : ℕ) (ask : Ask) → is_job_of caller (entry_of pinned now caller ask) ≡ false
own_is_call false now caller (asks.Call c) = refl
own_is_call true now caller (asks.Call c) = by_test (writes c)
  where
    by_test : (b : Bool) → is_job_of caller (cond b (PinnedRefused now caller (One c)) (PinnedRead now caller c)) ≡ false
    by_test true = refl
    by_test false = refl
own_is_call false now caller (asks.Exec cs) = refl
own_is_call true now caller (asks.Exec cs) = refl
own_is_call pinned now caller asks.Pin = refl
own_is_call pinned now caller asks.Unpin = refl

module _ (opening : Opening) (core new : CoreState) (seen : List Place) (whole : StandsFiltered opening core seen) where
  abbrev s : State
  s = state_at opening.state seen

  -- the caller has a pin in the machine just where it has one in the core
  pin_seen : (caller : ℕ) → is_some (pin_at core caller) ≡ has_pin s caller
  pin_seen caller = same_pin core caller core.pins s.pins whole.stands.pins

  free_seen : (caller : ℕ) → IsNone (pin_at core caller) → has_pin s caller ≡ false
  free_seen caller none = sym (pin_seen caller) ∙ none

  asked_entry : (e : Event) (a : AskBy) → Happens seen core e new → asked_in e ≡ Some a → HasEntry (has_pin s a.caller) e a
  asked_entry e a h is = by_event e h is
    where
      entry : (e : Event) (own : Place) (x : AskBy) → adds e ≡ own ∷ [] → Some x ≡ Some a → own.what ≡ entry_of (has_pin s x.caller) x.now x.caller x.ask → HasEntry (has_pin s a.caller) e a
      entry e own x only same is = subst (λ (y : AskBy). HasEntry (has_pin s y.caller) e y) (same_some x a same) (record { own = own; only = only; is = is })

      by_event : (e : Event) → Happens seen core e new → asked_in e ≡ Some a → HasEntry (has_pin s a.caller) e a
      by_event (Read now caller c answer) h is = entry (Read now caller c answer) _ _ refl is (free_entry now caller (One c) (has_pin s caller) (free_seen caller h.free))
      by_event (Commit w note) h is = entry (Commit w note) _ _ refl is (free_entry w.now w.caller w.ds (has_pin s w.caller) (free_seen w.caller h.can.own.free))
      by_event (Rerun caller now ds view batch answer note) h is = entry (Rerun caller now ds view batch answer note) _ _ refl is (free_entry now caller ds (has_pin s caller) (free_seen caller h.own.free))
      by_event (Play caller now ds batch answer note) h is = entry (Play caller now ds batch answer note) _ _ refl is (free_entry now caller ds (has_pin s caller) (free_seen caller h.own.free))
      by_event (Pin now caller answer) h is = entry (Pin now caller answer) _ _ refl is refl
      by_event (LetGo now caller answer) h is = entry (LetGo now caller answer) _ _ refl is refl
      by_event (Look now caller c answer) h is = entry (Look now caller c answer) _ _ refl is (look_entry now caller c (has_pin s caller) (sym (pin_seen caller) ∙ ap is_some h.found) h.reads)
      by_event (Refuse now caller ds answer) h is = entry (Refuse now caller ds answer) _ _ refl is (refused_entry now caller ds (has_pin s caller) (sym (pin_seen caller) ∙ h.pinned) h.refused)
      by_event (Glance now caller view) h is = absurd (cc)
      by_event (Lapse w) h is = absurd (cc)
      by_event (Freeze caller forced task) h is = absurd (cc)
      by_event (NoFlush caller forced) h is = absurd (cc)
      by_event (OtherFlush caller forced) h is = absurd (cc)
      by_event (InstallFlush caller t) h is = absurd (cc)
      by_event (DropFlush caller) h is = absurd (cc)
      by_event (BeginCompact caller named job) h is = absurd (cc)
      by_event (NoCompact caller named) h is = absurd (cc)
      by_event (OtherCompact caller named) h is = absurd (cc)
      by_event (InstallCompact caller outputs) h is = absurd (cc)
      by_event (DropCompact caller) h is = absurd (cc)
      by_event (CountLevels caller counts) h is = absurd (cc)
      by_event (FailCommit w) h is = absurd (cc)
      by_event (FailRerun caller now ds view batch answer) h is = absurd (cc)
      by_event Fail h is = absurd (cc)

-- ---- a call that is answered

module _ (opening : Opening) (core new : CoreState) (seen : List Place) (caller now : ℕ) (ask : Ask) (reply : Reply) (es : List Event)
    (whole : StandsFiltered opening core seen) (call : AnswersAsk caller now ask reply es) (ran : IsCoreRun seen core es new) where
  abbrev first : State
  first = opening.state

  -- the history before the event that answers
  abbrev earlier : List Place
  earlier = seen ++ places_of call.before

  abbrev asked : AskBy
  asked = record { caller = caller; now = now; ask = ask }

  -- what is told of that event
  record Answered : Type 0 where
    pub own : Place
    pub only : adds call.own ≡ own ∷ []
    pub is : own.what ≡ entry_of (has_pin (state_at first earlier) caller) now caller ask
    pub answer : (step (state_at first earlier) own.what).0 ≡ Some reply

  answered : Answered
  answered = at_it (subst (λ (l : List Event). IsCoreRun seen core l new) call.are ran)
    where
      at_it : IsCoreRun seen core (call.before ++ call.own ∷ call.behind) new → Answered
      at_it ran_on =
          let p = parted seen core new call.before (call.own ∷ call.behind) ran_on in
          let mid : StandsFiltered opening p.mid earlier =
          subst (StandsFiltered opening p.mid) (seen_with seen call.before) (run_whole opening core p.mid seen call.before whole p.first) in
          let rest = subst (λ (l : List Place). IsCoreRun l p.mid (call.own ∷ call.behind) new) (seen_with seen call.before) p.rest in
          let entry = asked_entry opening p.mid rest.0 earlier mid call.own asked rest.1 call.asked in
          let says : IsAnsweredAt (state_at first earlier) (entry.own ∷ []) (Some reply) =
          subst (λ (o : Option Reply). IsAnsweredAt (state_at first earlier) (entry.own ∷ []) o) call.answer
          (subst (λ (l : List Place). IsAnsweredAt (state_at first earlier) l (answer_in call.own)) entry.only (event_answers opening p.mid rest.0 earlier mid call.own rest.1)) in
          record { own = entry.own; only = entry.only; is = entry.is; answer = says }

  -- the caller has a pin there just where it had one before
  pin_stays : has_pin (state_at first earlier) caller ≡ has_pin (state_at first seen) caller
  pin_stays =
      ap (λ es. has_pin (run first es) caller) (map-append (λ (p : Place). p.what) seen (places_of call.before))
      ∙ ap (λ t. has_pin t caller) (run-append first (steps_of seen) (steps_of (places_of call.before)))
      ∙ ticked_keeps_pin (state_at first seen) caller now (steps_of (places_of call.before)) call.ticked

  -- the places of the call
  are_places : places_of es ≡ places_of call.before ++ answered.own ∷ places_of call.behind
  are_places =
      ap places_of call.are ∙ places-append call.before (call.own ∷ call.behind) ∙ ap (λ l. places_of call.before ++ (l ++ places_of call.behind)) answered.only

  grown : seen_after seen es ≡ earlier ++ answered.own ∷ places_of call.behind
  grown =
      seen_with seen es ∙ ap (λ l. seen ++ l) are_places ∙ sym (append_assoc seen (places_of call.before) (answered.own ∷ places_of call.behind))

  call_enters : Entered caller first seen now ask reply (seen_after seen es)
  call_enters = record {
    before = places_of call.before;
    own = answered.own;
    behind = places_of call.behind;
    grown = grown;
    ticked = call.ticked;
    idle = call.idle;
    is = answered.is ∙ ap (λ b. entry_of b now caller ask) pin_stays;
    once = call.once;
    answered = answered.answer;
  }

  own_no_job : is_job_of caller answered.own.what ≡ false
  own_no_job = ap (is_job_of caller) answered.is ∙ own_is_call (has_pin (state_at first earlier) caller) now caller ask

  -- of its jobs there are those behind the answer
  jobs_are : jobs_of caller (steps_of (places_of es)) ≡ jobs_of caller (steps_of (places_of call.behind))
  jobs_are =
      ap (λ l. jobs_of caller (steps_of l)) are_places
      ∙ ap (jobs_of caller) (map-append (λ (p : Place). p.what) (places_of call.before) (answered.own ∷ places_of call.behind))
      ∙ filter-append (is_job_of caller) (steps_of (places_of call.before)) (answered.own.what ∷ steps_of (places_of call.behind))
      ∙ ap (λ l. l ++ jobs_of caller (answered.own.what ∷ steps_of (places_of call.behind))) call.idle
      ∙ ap (λ b. cond b (answered.own.what ∷ jobs_of caller (steps_of (places_of call.behind))) (jobs_of caller (steps_of (places_of call.behind)))) own_no_job

  call_follows : Follows caller seen (seen_after seen es)
  call_follows = record { added = places_of es; grown = seen_with seen es; ended = subst AreEnded (sym jobs_are) call.ended }

-- ---- every call

pub calls_leave_places : (opening : Opening) (core new : CoreState) (seen : List Place) (caller now : ℕ) (ask : Ask) (result : Result Reply DeskFault) (es : List Event)
    → StandsFiltered opening core seen → AreOfCall caller now (has_pin (state_at opening.state seen) caller) ask result es → IsCoreRun seen core es new
    → Follows caller seen (seen_after seen es) × LeavesPlaces caller opening.state seen now ask result (seen_after seen es)
calls_leave_places opening core new seen caller now ask (Ok reply) es whole call ran =
    (call_follows opening core new seen caller now ask reply es whole call ran, call_enters opening core new seen caller now ask reply es whole call ran)
calls_leave_places opening core new seen caller now ask (Err e) es whole call ran = (
  record { added = places_of es; grown = seen_with seen es; ended = call.ended },
  record { added = places_of es; grown = seen_with seen es; own = call.withheld },
)
