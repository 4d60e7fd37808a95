-- What a session says at a desk whose caller is alone is what the machine says.
use Rattle.std.proofs.Common.{◌≡◌, ◌⊎◌, ◌≤◌, ◌<◌, ◌+◌, arith, ⊎_elim, inl, inr, ℕ, Bool, false, List, [], ◌∷◌, ◌++◌, length, Option, Some, None, Result, Ok, Err, refl, sym, ap, subst, ◌∙◌}
use Rattle.std.specs.Prelude.{Contains, IsFalse, IsSome, OnErr, ◌==◌, if◌then◌else◌}
use Rattle.std.proofs.lemmas.List.{append-nil}
use Rattle.std.proofs.lemmas.List.Elements.{Contains-push_cases}
use Rattle.kv_base.specs.Map.{Bytes}
use Rattle.kv_outside.specs.Readings.{TakesAll}
use Rattle.kv_outside.specs.ReadingLaws.{takes_none, takes_one, takes_then}
use Rattle.batch_codec.specs.Batches.{Batch}
use Rattle.redis_model.specs.declared.command.Command.{Command}
use Rattle.redis_model.specs.declared.command.Cmds.{Cmds}
use Rattle.redis_model.specs.declared.command.Cmds.TheVariants.{One}
use Rattle.kv_base.specs.declared.name.FileName.{FileName}
use Rattle.redis_model.specs.declared.desk.DeskFault.{DeskFault}
use Rattle.redis_model.specs.declared.desk.DeskFault.TheVariants as fault
use Rattle.redis_model.specs.declared.history.JobKind.{JobKind}
use Rattle.redis_model.specs.declared.history.Step.{Step}
use Rattle.redis_model.specs.declared.history.Step.TheVariants.{Tick, Call}
use Rattle.redis_model.specs.declared.history.Place.{Place}
use Rattle.redis_model.specs.declared.reply.Reply.{Reply}
use Rattle.redis_model.specs.About.{writes}
use Rattle.redis_model.specs.Apply.{due}
use Rattle.redis_model.specs.Asks as ask
use Rattle.redis_model.specs.DeskState.{DeskState}
use Rattle.redis_model.specs.Places.{Opening, steps_of, state_at}
use Rattle.redis_model.specs.Desk.{mine, has_pin, IsTicked, IsWithheld as IsWithheldEntry, Entered, Withheld, LeavesPlaces, HasReason, can_write, failed_with, last_sequence}
use Rattle.redis_model.specs.Legal.{calls_of}
use Rattle.redis_model.specs.Machine.{State, step, moment_at, at_moment}
use Rattle.redis_model.specs.TouchedLaws.{reading_touches_nothing}
use Rattle.lives_model.specs.Rows.{Rows}
use Rattle.lives_model.specs.Means.{Means}
use Rattle.lives_model.specs.Plans.{IsPlanFor}
use Rattle.cmd_words.specs.Parsed.{parsed_as, IsParsed}
use Rattle.cmd_words.specs.declared.fault.CommandFault.{CommandFault}
use Rattle.cmd_words.specs.declared.parsed.Parsed.{Parsed}
use Rattle.cmd_words.specs.declared.parsed.Parsed.TheVariants as parsed
use Rattle.session.specs.declared.answer.Answer.{Answer}
use Rattle.session.specs.Answer.{desk_answer}
use Rattle.session.specs.Talk.{Asked, ToDesk, Own, asked, Asks, TurnBy as TurnAt, Talks}
use Rattle.log_store.specs.Playing.{batches_of, planned_for}
use Rattle.kv_server.specs.Alone.{IsOwnCall, AreOwnCalls, batches_at, batches_in, batches_by}
use Rattle.kv_server.specs.AloneLaws.{batches_in-append, state_more}
use Rattle.kv_server.specs.Dialog.{StoreState, HasFault, HasFailed, OneFailed, LeavesState, CommandAnswers, ExchangeBy, Dialog}

-- ---- histories of one caller

own_apart : (xs ys : List Place) → AreOwnCalls (xs ++ ys) → AreOwnCalls xs × AreOwnCalls ys
own_apart [] ys all = (tt, all)
own_apart (p ∷ xs) ys all = let rest = own_apart xs ys all.1 in ((all.0, rest.0), rest.1)

own_is_mine : (e : Step) (es : List Step) → IsOwnCall e → calls_of 0 (e ∷ es) ≡ e ∷ calls_of 0 es
own_is_mine (Call now caller c) es own = rw own refl
own_is_mine _ es own = absurd own

-- all entries are its caller's
all_mine : (ps : List Place) → AreOwnCalls ps → mine 0 ps ≡ steps_of ps
all_mine [] all = refl
all_mine (p ∷ ps) all = own_is_mine p.what (steps_of ps) all.0 ∙ ap (λ (es : List Step). p.what ∷ es) (all_mine ps all.1)

no_steps : (ps : List Place) → steps_of ps ≡ [] → ps ≡ []
no_steps [] e = refl
no_steps (p ∷ ps) e = absurd (cc)

tick_is_no_call : (now : ℕ) (ps : List Place) → AreOwnCalls ps → steps_of ps ≡ Tick now 0 ∷ [] → ⊥
tick_is_no_call now [] all e = absurd (cc)
tick_is_no_call now (p ∷ ps) all e = let is : p.what ≡ Tick now 0 = cc in subst IsOwnCall is all.0

none_before : (now : ℕ) (ps : List Place) → AreOwnCalls ps → IsTicked 0 now (mine 0 ps) → ps ≡ []
none_before now ps all ticked = ⊎_elim
    (λ (none : mine 0 ps ≡ []). no_steps ps (sym (all_mine ps all) ∙ none))
    (λ (tick : mine 0 ps ≡ Tick now 0 ∷ []). absurd (tick_is_no_call now ps all (sym (all_mine ps all) ∙ tick)))
    ticked

-- A body of so many bytes is that of a batch that carries the command out, on rows that mean the keys of this state, behind
-- a sequence; and so it touches a key.
pub record IsUnwritten (s : State) (sequence now : ℕ) (c : Command) (body : ℕ) : Type 0 where
  pub rows : Rows
  pub means : Means rows (moment_at s now) (at_moment s now).keys
  pub batch : Batch
  pub answer : Reply
  pub until : Option ℕ
  pub plan : IsPlanFor rows (moment_at s now) sequence (at_moment s now).keys (One c) batch answer until
  pub bytes : body ≡ planned_for batch
  pub touches : batches_of s now (One c) ≡ 1

-- what is known of a desk whose caller is alone, by the sequence of its last batch
pub record IsForOne {D : Type 0} (told : D → DeskState) (sequence : D → ℕ) : Type 0 where
  pub number : (d : D) → (told d).number ≡ 0
  pub calls : (d : D) (opening : Opening) (seen : List Place) → (told d).stands opening seen → AreOwnCalls seen
  pub free : (d : D) (opening : Opening) (seen : List Place) → (told d).stands opening seen → has_pin (state_at opening.state seen) 0 ≡ false
  pub unpinned : (d : D) → (told d).pinned ≡ false
  pub batches : (d : D) (opening : Opening) (seen : List Place) → (told d).stands opening seen → sequence d ≡ opening.last + batches_in opening.state seen
  pub met : (d : D) (now : ℕ) (c : Command) → (told d).planned now (ask.Call c) → (told d).sequence ≡ sequence d
  pub limit : (d : D) (opening : Opening) (seen : List Place) → (told d).stands opening seen → sequence d ≤ last_sequence
  pub unwritten : (d : D) (opening : Opening) (seen : List Place) (now : ℕ) (c : Command) → (told d).stands opening seen → (told d).planned now (ask.Call c) → 0 < (told d).body
      → IsUnwritten (state_at opening.state seen) (sequence d) now c (told d).body
  pub on_grammar : (d : D) (file : FileName) (place : ℕ) → (told d).off file place → ⊥

-- the sequence goes on by the batches
sequence_grows : (start : State) (last : ℕ) (seen added after : List Place) → after ≡ seen ++ added → (n n' : ℕ) → n ≡ last + batches_in start seen → n' ≡ last + batches_in start after → n' ≡ n + batches_in (state_at start seen) added
sequence_grows start last seen added after grown n n' was is =
    let all : batches_in start after ≡ batches_in start (seen ++ added) = ap (batches_in start) grown in
    let both = batches_in-append start seen added in
    omega (arith, was, is, all, both)

-- ---- a call that was entered or withheld, by the machine

-- what one call adds to a history of its caller
pub record Grows (first : State) (seen after : List Place) (count : ℕ) : Type 0 where
  pub added : List Place
  pub grown : after ≡ seen ++ added
  pub batches : batches_in (state_at first seen) added ≡ count

-- a command that only reads appends no batch
no_batch : (s : State) (now : ℕ) (c : Command) → IsFalse (writes c) → batches_of s now (One c) ≡ 0
no_batch s now c reads = ap (λ (ks : List Bytes). if length ks == 0 then 0 else 1) (reading_touches_nothing (at_moment s now).keys (moment_at s now) c reads)

module _ (first : State) (seen after : List Place) (now : ℕ) (c : Command) (all : AreOwnCalls after) (free : has_pin (state_at first seen) 0 ≡ false) where
  entered_is : (reply : Reply) → Entered 0 first seen now (ask.Call c) reply after → (step (state_at first seen) (Call now 0 c) ≡ (Some reply, state_at first after)) × Grows first seen after (batches_of (state_at first seen) now (One c))
  entered_is reply p =
      let apart = own_apart (seen ++ p.before) (p.own ∷ p.behind) (subst AreOwnCalls p.grown all) in
      let front = own_apart seen p.before apart.0 in
      let before : p.before ≡ [] = none_before now p.before front.1 p.ticked in
      let behind : p.behind ≡ [] = no_steps p.behind (sym (all_mine p.behind apart.1.1) ∙ p.once) in
      let is : p.own.what ≡ Call now 0 c = p.is ∙ ap (λ (b : Bool). ask.entry_of b now 0 (ask.Call c)) free in
      let grown : after ≡ seen ++ p.own ∷ [] = p.grown ∙ ap (λ (xs : List Place). (seen ++ xs) ++ p.own ∷ p.behind) before ∙ ap (λ (xs : List Place). xs ++ p.own ∷ p.behind) (append-nil seen) ∙ ap (λ (xs : List Place). seen ++ p.own ∷ xs) behind in
      let answer : (step (state_at first seen) (Call now 0 c)).0 ≡ Some reply =
      ap (λ (e : Step). (step (state_at first seen) e).0) (sym is) ∙ ap (λ (xs : List Place). (step (state_at first xs) p.own.what).0) (sym (append-nil seen) ∙ ap (λ (xs : List Place). seen ++ xs) (sym before)) ∙ p.answered in
      let next : (step (state_at first seen) (Call now 0 c)).1 ≡ state_at first after =
      ap (λ (e : Step). (step (state_at first seen) e).1) (sym is) ∙ sym (state_more first seen p.own) ∙ ap (state_at first) (sym grown) in
      let one : batches_at (state_at first seen) p.own.what ≡ batches_of (state_at first seen) now (One c) = ap (batches_at (state_at first seen)) is in
      (λ i. (answer i, next i), record { added = p.own ∷ []; grown = grown; batches = omega (arith, one) })

  withheld_is : Withheld 0 first seen now (ask.Call c) after → LeavesState (state_at first seen) now c (state_at first after) × Grows first seen after 0
  withheld_is p = by_added p.added (own_apart seen p.added (subst AreOwnCalls p.grown all)).1 p.grown p.own
    where
      reads_no_batch : (e : Step) → e ≡ Call now 0 c → IsFalse (writes c) → batches_at (state_at first seen) e + 0 ≡ 0
      reads_no_batch e is reads = ap (λ (x : Step). batches_at (state_at first seen) x + 0) is ∙ ap (λ (n : ℕ). n + 0) (no_batch (state_at first seen) now c reads)

      by_added : (added : List Place) → AreOwnCalls added → after ≡ seen ++ added → IsWithheldEntry 0 (has_pin (state_at first seen) 0) now (ask.Call c) (mine 0 added)
          → LeavesState (state_at first seen) now c (state_at first after) × Grows first seen after 0
      by_added [] own grown w = (inl (ap (state_at first) (grown ∙ append-nil seen)), record { added = []; grown = grown; batches = refl })
      by_added (p ∷ []) own grown w =
          ⊎_elim
          (λ (tick : p.what ≡ Tick now 0). absurd (subst IsOwnCall tick own.0))
          (λ (read : (p.what ≡ ask.entry_of (has_pin (state_at first seen) 0) now 0 (ask.Call c)) × IsFalse (writes c)).
          let is : p.what ≡ Call now 0 c = read.0 ∙ ap (λ (b : Bool). ask.entry_of b now 0 (ask.Call c)) free in (
            inr (read.1, ap (state_at first) grown ∙ state_more first seen p ∙ ap (λ (e : Step). (step (state_at first seen) e).1) is),
            record { added = p ∷ []; grown = grown; batches = reads_no_batch p.what is read.1 },
          ))
          (subst (IsWithheldEntry 0 (has_pin (state_at first seen) 0) now (ask.Call c)) (own_is_mine p.what [] own.0) w)
      by_added (p ∷ q ∷ ps) own grown w =
          absurd (subst (IsWithheldEntry 0 (has_pin (state_at first seen) 0) now (ask.Call c)) (own_is_mine p.what (q.what ∷ steps_of ps) own.0 ∙ ap (λ (es : List Step). p.what ∷ es) (own_is_mine q.what (steps_of ps) own.1.0)) w)

-- ---- what is asked

-- one command at a time, by now
abbrev IsOfCalls : Asked → Type 0
IsOfCalls (ToDesk (ask.Call c)) = Unit {0}
IsOfCalls (ToDesk _) = ⊥
IsOfCalls (Own said) = Unit {0}

of_calls : (read : Result Parsed CommandFault) → IsOfCalls (asked read)
of_calls (Ok (parsed.Data c)) = tt
of_calls (Ok _) = tt
of_calls (Err fault) = tt

-- ---- a talk

module _ {D : Type 0} (told : D → DeskState) (sequence : D → ℕ) where
  -- the store at a desk that stands for this history
  abbrev pub store_at : D → Opening → List Place → StoreState
  store_at d opening seen = record { state = state_at opening.state seen; sequence = sequence d; faults = (told d).faults }

-- what a desk whose caller is alone comes to by these requests
pub record Said {D : Type 0} (told : D → DeskState) (sequence : D → ℕ) (old new : D) (opening : Opening) (s : StoreState) (served : List (List Bytes)) (answers : List Answer) : Type 0 where
  pub nows : List ℕ
  pub readings : TakesAll (told old).readings (told new).readings nows
  pub seen : List Place
  pub stands : (told new).stands opening seen
  pub dialog : Dialog s served nows answers (store_at told sequence new opening seen)

-- what it comes to by one request
pub record Replied {D : Type 0} (told : D → DeskState) (sequence : D → ℕ) (old new : D) (opening : Opening) (s : StoreState) (a : Asked) (answer : Answer) : Type 0 where
  pub nows : List ℕ
  pub readings : TakesAll (told old).readings (told new).readings nows
  pub seen : List Place
  pub stands : (told new).stands opening seen
  pub turn : ExchangeBy s a nows answer (store_at told sequence new opening seen)

module _ {D : Type 0} (told : D → DeskState) (sequence : D → ℕ) (alone : IsForOne told sequence) where
  -- why a call failed that came to this
  cause_is : (old mid new : D) (opening : Opening) (seen after : List Place) (now : ℕ) (c : Command) (f : DeskFault) → (told mid).faults ≡ (told old).faults → (told new).met ≡ None → (IsFalse (writes c) → (told new).body ≡ 0) → (told new).planned now (ask.Call c)
      → (told new).stands opening after → LeavesState (state_at opening.state seen) now c (state_at opening.state after) → sequence new ≡ sequence old → HasReason (told mid).faults (told new) (Err f)
      → HasFault (store_at told sequence old opening seen) (store_at told sequence new opening after) now c f
  cause_is old mid new opening seen after now c f same none idle planned stands withheld stays why = by_fault f why
    where
      -- where something was to be written, the state is as it was
      unwritten : 0 < (told new).body → IsUnwritten (state_at opening.state seen) (sequence old) now c (told new).body
      unwritten some =
          let here = alone.unwritten new opening after now c stands planned some in
          subst (λ (n : ℕ). IsUnwritten (state_at opening.state seen) n now c (told new).body) stays
          (⊎_elim
          (λ (still : state_at opening.state after ≡ state_at opening.state seen). subst (λ (s : State). IsUnwritten s (sequence new) now c (told new).body) still here)
          (λ (read : IsFalse (writes c) × (state_at opening.state after ≡ (step (state_at opening.state seen) (Call now 0 c)).1)). absurd (omega (arith, idle read.0, some)))
          withheld)

      by_fault : (f : DeskFault) → HasReason (told mid).faults (told new) (Err f) → HasFault (store_at told sequence old opening seen) (store_at told sequence new opening after) now c f
      by_fault fault.IoError why = omega (arith, same, why)
      by_fault fault.NoMem why = tt
      by_fault (fault.Damaged file place) why = absurd (alone.on_grammar new file place why)
      by_fault fault.SeqFull why =
          ((unwritten why.0).touches, sym stays ∙ sym (alone.met new now c planned) ∙ why.1)
      by_fault fault.TooBig why =
          let u = unwritten (omega (arith, why.0)) in (
            record { rows = u.rows; means = u.means; batch = u.batch; answer = u.answer; until = u.until; plan = u.plan; long = omega (arith, why.0, u.bytes) },
            λ (full : sequence old ≡ last_sequence). why.1 (alone.met new now c planned ∙ stays ∙ full),
          )
      by_fault fault.Busy why = nothing_met (subst (λ (m : Option JobKind). IsSome m) none why)
        where
          nothing_met : IsSome {T = JobKind} None → ⊥
          nothing_met met = cc

  asks_is : (old new : D) (opening : Opening) (seen : List Place) (asking : Command) (answer : Answer) → (told old).stands opening seen → Asks told old new (ask.Call asking) answer
      → Replied told sequence old new opening (store_at told sequence old opening seen) (ToDesk (ask.Call asking)) answer
  asks_is old new opening seen asking answer stood p =
      let c : Command = due p.now asking in
      let ready = p.reading.stands opening seen stood in
      let went = p.call.history opening seen ready in
      let after = went.0 in
      let leaves : LeavesPlaces 0 opening.state seen p.now (ask.Call c) p.result after = subst (λ (n : ℕ). LeavesPlaces n opening.state seen p.now (ask.Call c) p.result after) (alone.number p.mid) went.3 in
      let said = by_result p.result after went.1 leaves p.call.reason (λ reads. p.call.idle opening seen ready (subst (λ (b : Bool). IsFalse (can_write b (ask.Call c))) (sym (alone.unpinned p.mid)) reads)) p.call.planned in
      record {
        nows = p.now ∷ [];
        readings = subst (λ (r : Option (List ℕ)). TakesAll (told old).readings r (p.now ∷ [])) (sym p.call.readings) (takes_one (told old).readings (told p.mid).readings p.now p.reading.reading);
        seen = after;
        stands = went.1;
        turn = (p.now, refl, subst (λ (x : Answer). CommandAnswers (store_at told sequence old opening seen) p.now c x (store_at told sequence new opening after)) (sym p.says) said.0, omega (arith, p.reading.faults, p.call.later));
      }
    where
      by_result : (result : Result Reply DeskFault) (after : List Place) → (told new).stands opening after → LeavesPlaces 0 opening.state seen p.now (ask.Call (due p.now asking)) result after → HasReason (told p.mid).faults (told new) result
          → (IsFalse (writes (due p.now asking)) → (told new).body ≡ 0) → OnErr result ((told new).planned p.now (ask.Call (due p.now asking)))
          → CommandAnswers (store_at told sequence old opening seen) p.now (due p.now asking) (desk_answer result) (store_at told sequence new opening after) × Grows opening.state seen after (batches_by (state_at opening.state seen) p.now (due p.now asking) result)
      by_result (Ok reply) after stands l why idle planned =
          let e = entered_is opening.state seen after p.now (due p.now asking) (alone.calls new opening after stands) (alone.free old opening seen stood) reply l in
          let n = sequence_grows opening.state opening.last seen e.1.added after e.1.grown (sequence old) (sequence new) (alone.batches old opening seen stood) (alone.batches new opening after stands) in
          ((e.0, omega (arith, n, e.1.batches), alone.limit new opening after stands), e.1)
      by_result (Err f) after stands l why idle planned =
          let e = withheld_is opening.state seen after p.now (due p.now asking) (alone.calls new opening after stands) (alone.free old opening seen stood) l in
          let n = sequence_grows opening.state opening.last seen e.1.added after e.1.grown (sequence old) (sequence new) (alone.batches old opening seen stood) (alone.batches new opening after stands) in
          let stays : sequence new ≡ sequence old = omega (arith, n, e.1.batches) in
          ((e.0, stays, cause_is old p.mid new opening seen after p.now (due p.now asking) f p.reading.faults p.call.met idle planned stands e.0 stays why), e.1)

  turned : (old new : D) (opening : Opening) (seen : List Place) (a : Asked) (answer : Answer) → IsOfCalls a → (told old).stands opening seen → TurnAt told old new a answer
      → Replied told sequence old new opening (store_at told sequence old opening seen) a answer
  turned old new opening seen (Own said) answer calls stood p = record {
    nows = [];
    readings = subst (λ (d : D). TakesAll (told old).readings (told d).readings []) (sym p.1) (takes_none (told old).readings);
    seen = seen;
    stands = subst (λ (d : D). (told d).stands opening seen) (sym p.1) stood;
    turn = (p.0, refl, ap (λ (d : D). store_at told sequence d opening seen) p.1);
  }
  turned old new opening seen (ToDesk (ask.Call c)) answer calls stood p = asks_is old new opening seen c answer stood p
  turned old new opening seen (ToDesk _) answer calls stood p = absurd calls

  pub talk_is : (old new : D) (opening : Opening) (seen : List Place) (served : List (List Bytes)) (answers : List Answer) → (told old).stands opening seen → Talks told old new served answers
      → Said told sequence old new opening (store_at told sequence old opening seen) served answers
  talk_is old new opening seen [] [] stood talk = record {
    nows = [];
    readings = subst (λ (d : D). TakesAll (told old).readings (told d).readings []) (sym talk) (takes_none (told old).readings);
    seen = seen;
    stands = subst (λ (d : D). (told d).stands opening seen) (sym talk) stood;
    dialog = (refl, ap (λ (d : D). store_at told sequence d opening seen) talk);
  }
  talk_is old new opening seen [] (answer ∷ answers) stood talk = absurd talk
  talk_is old new opening seen (words ∷ others) [] stood talk = absurd talk
  talk_is old new opening seen (words ∷ others) (answer ∷ answers) stood talk =
      let mid = talk.0 in
      let one = turned old mid opening seen (asked talk.1.read) answer (of_calls talk.1.read) stood talk.1.turn in
      let rest = talk_is mid new opening one.seen others answers one.stands talk.2 in
      record {
        nows = one.nows ++ rest.nows;
        readings = takes_then (told old).readings (told mid).readings (told new).readings one.nows rest.nows one.readings rest.readings;
        seen = rest.seen;
        stands = rest.stands;
        dialog = (store_at told sequence mid opening one.seen, one.nows, rest.nows, refl, record { read = talk.1.read; is = talk.1.is; turn = one.turn }, rest.dialog);
      }

-- ---- what failed

-- The desk keeps what it stands for, but for the commands whose calls failed: those before, and these requests.
pub record KeptOn {D : Type 0} (told : D → DeskState) (new : D) (before : List Cmds) (served : List (List Bytes)) (answers : List Answer) : Type 0 where
  pub failed : List Cmds
  pub kept : (told new).kept failed
  pub were : (ds : Cmds) → Contains failed ds → Contains before ds ⊎ OneFailed served answers ds

kept_by_answer : {D : Type 0} (told : D → DeskState) (new : D) (before : List Cmds) (words : List Bytes) (read : Result Parsed CommandFault) (now : ℕ) (c : Command) (answer : Answer) (result : Result Reply DeskFault)
    → IsParsed read (parsed_as words) → asked read ≡ ToDesk (ask.Call c) → answer ≡ desk_answer result → (told new).kept (failed_with (One (due now c)) result before) → KeptOn told new before (words ∷ []) (answer ∷ [])
kept_by_answer told new before words read now c answer (Ok reply) is asks says kept = record { failed = before; kept = kept; were = λ ds among. inl among }
kept_by_answer told new before words read now c answer (Err e) is asks says kept = record {
  failed = before ++ One (due now c) ∷ [];
  kept = kept;
  were = λ ds among. ⊎_elim
      (λ (old : Contains before ds). inl old)
      (λ (this : One (due now c) ≡ ds). inr (inl (record { read = read; is = is; command = c; asks = asks; now = now; due = sym this; fault = e; failed = says })))
      (Contains-push_cases before (One (due now c)) ds among);
}

kept_by_turn : {D : Type 0} (told : D → DeskState) (old new : D) (before : List Cmds) (words : List Bytes) (read : Result Parsed CommandFault) (a : Asked) (answer : Answer)
    → IsParsed read (parsed_as words) → asked read ≡ a → IsOfCalls a → (told old).kept before → TurnAt told old new a answer → KeptOn told new before (words ∷ []) (answer ∷ [])
kept_by_turn told old new before words read (Own said) answer is asks calls kept p =
    record { failed = before; kept = subst (λ (d : _). (told d).kept before) (sym p.1) kept; were = λ ds among. inl among }
kept_by_turn told old new before words read (ToDesk (ask.Call c)) answer is asks calls kept p =
    kept_by_answer told new before words read p.now c answer p.result is asks p.says (p.call.kept before (p.reading.kept before kept))
kept_by_turn told old new before words read (ToDesk _) answer is asks calls kept p = absurd calls

pub kept_on : {D : Type 0} (told : D → DeskState) (old new : D) (before : List Cmds) (served : List (List Bytes)) (answers : List Answer) → (told old).kept before → Talks told old new served answers → KeptOn told new before served answers
kept_on told old new before [] [] kept talk = record { failed = before; kept = subst (λ (d : _). (told d).kept before) (sym talk) kept; were = λ ds among. inl among }
kept_on told old new before [] (answer ∷ answers) kept talk = absurd talk
kept_on told old new before (words ∷ others) [] kept talk = absurd talk
kept_on told old new before (words ∷ others) (answer ∷ answers) kept talk =
    let one = kept_by_turn told old talk.0 before words talk.1.read (asked talk.1.read) answer talk.1.is refl (of_calls talk.1.read) kept talk.1.turn in
    let rest = kept_on told talk.0 new one.failed others answers one.kept talk.2 in
    record {
      failed = rest.failed;
      kept = rest.kept;
      were = λ ds among. ⊎_elim
          (λ (here : Contains one.failed ds). ⊎_elim (λ (old : Contains before ds). inl old) (λ (this : OneFailed (words ∷ []) (answer ∷ []) ds). inr (first ds this)) (one.were ds here))
          (λ (later : OneFailed others answers ds). inr (inr later))
          (rest.were ds among);
    }
  where
    first : (ds : Cmds) → OneFailed (words ∷ []) (answer ∷ []) ds → OneFailed (words ∷ others) (answer ∷ answers) ds
    first ds this = ⊎_elim (λ (it : HasFailed words answer ds). inl it) (λ (never : ⊥). absurd never) this

-- ---- the count of faults does not fall

asks_later : {D : Type 0} (told : D → DeskState) (old new : D) (c : ask.Ask) (answer : Answer) → Asks told old new c answer → (told old).faults ≤ (told new).faults
asks_later told old new c answer p = let same = p.reading.faults in let more = p.call.later in omega (arith, same, more)

turn_later : {D : Type 0} (told : D → DeskState) (old new : D) (a : Asked) (answer : Answer) → TurnAt told old new a answer → (told old).faults ≤ (told new).faults
turn_later told old new (Own said) answer p = subst (λ (d : _). (told old).faults ≤ (told d).faults) (sym p.1) (omega arith)
turn_later told old new (ToDesk c) answer p = asks_later told old new c answer p

pub talks_later : {D : Type 0} (told : D → DeskState) (old new : D) (served : List (List Bytes)) (answers : List Answer) → Talks told old new served answers → (told old).faults ≤ (told new).faults
talks_later told old new [] [] talk = subst (λ (d : _). (told old).faults ≤ (told d).faults) (sym talk) (omega arith)
talks_later told old new [] (answer ∷ answers) talk = absurd talk
talks_later told old new (words ∷ others) [] talk = absurd talk
talks_later told old new (words ∷ others) (answer ∷ answers) talk =
    let one = turn_later told old talk.0 (asked talk.1.read) answer talk.1.turn in
    let rest = talks_later told talk.0 new others answers talk.2 in
    omega (arith, one, rest)
