-- Reading commands, and the events of callers that keep an earlier map.
use Rattle.std.proofs.Common.{◌≡◌, ℕ, List, [], ◌∷◌, ◌++◌, refl, sym, ap, subst, ◌∙◌, Bool, true, false, cond, inl, arith}
use Rattle.std.specs.Prelude.{not, ◌==◌, find, filter, Option, Some, None, IsTrue, IsFalse, IsSome, is_some}
use Rattle.kv_base.specs.Map.{Bytes, empty}
use Rattle.batch_codec.specs.Batches.{Batch, are_rows}
use Rattle.row_model.specs.Rows.{at}
use Rattle.redis_model.specs.declared.reply.Reply.{Reply}
use Rattle.redis_model.specs.declared.reply.Reply.TheVariants as reply
use Rattle.redis_model.specs.declared.reply.ReplyError.TheVariants.{Pinned}
use Rattle.redis_model.specs.declared.command.Command.{Command}
use Rattle.redis_model.specs.declared.command.Cmds.{Cmds}
use Rattle.redis_model.specs.declared.command.Cmds.TheVariants.{One}
use Rattle.redis_model.specs.declared.history.Step.TheVariants.{Call, PinNow, PinnedRead, PinnedRefused, Unpin}
use Rattle.redis_model.specs.About.{writes}
use Rattle.redis_model.specs.Apply.{apply}
use Rattle.redis_model.specs.Value.{RedisMap, alive}
use Rattle.redis_model.specs.Machine as machine
use Rattle.redis_model.specs.Machine.{State, Pin, is_of, pin_of, step, at_moment, pinned, unpinned, answer_of_pin, fold}
use Rattle.key_locality.specs.Moments.{alive-twice}
use Rattle.lives_model.specs.Rows.{Rows}
use Rattle.lives_model.specs.Means.{Means}
use Rattle.lives_model.specs.Plans.{IsPlanFor, IsPlanned, AreAsked}
use Rattle.lives_model.specs.Issued.{IsIssued}
use Rattle.lives_model.specs.IssuedLaws.{issued_is_ready}
use Rattle.lives_model.specs.JoinedBatchLaws.{plan_means}
use Rattle.lives_model.specs.OwnKeyLaws.{reading_step}
use Rattle.lives_model.specs.StepLaws.{applied}
use Rattle.core_model.specs.Sources.{rows_in}
use Rattle.redis_model.specs.declared.history.Place.{Place}
use Rattle.redis_model.specs.declared.history.Note.TheVariants.{Bare}
use Rattle.redis_model.specs.Places.{state_at, Opening}
use Rattle.core_model.specs.Core.{PinAt, CoreState, newest_rows, is_at, pin_at, event_moment, raised}
use Rattle.core_model.specs.Stands.{IsPinned, ArePinned, Stands}
use Rattle.core_model.specs.Events.{Reads, Pins, Unpins, LooksPinned, RefusesPinned, bare_place, with_pin, without_pin, pin_answer, unpin_answer}
use Rattle.lives_model.specs.IssuedRowLaws.{shown_is_issued}
use Rattle.core_model.specs.PlacesLaws.{with_place}
use Rattle.core_events.specs.GoingLaws.{WritesNothing, MarksNoJob, same_pin, later_keys}
use Rattle.core_events.specs.RaisingLaws.{OnlyRaises, raised_with, raised_stands, old_pins, same_moment, at_moment_raises}
use Rattle.core_events.specs.CommittingLaws.{planned_carried, carried_stands}

-- ---- a reading command

no_rows : IsTrue (are_rows (empty {X = Option Bytes}).entries)
unfolding empty
no_rows = refl

-- its plan writes nothing
reading_writes_none : (opening : Opening) (core : CoreState) (seen : List Place) (now : ℕ) (c : Command) (batch : Batch) (answer : Reply) (until : Option ℕ) → Stands opening core seen → AreAsked (One c) → IsFalse (writes c)
    → IsPlanned (newest_rows core) (event_moment core now) core.last (One c) batch answer until → batch ≡ empty
reading_writes_none opening core seen now c batch answer until stands asked reads planned =
    let keys : RedisMap = alive (state_at opening.state seen).keys (event_moment core now) in
    let means : Means (newest_rows core) (event_moment core now) keys = later_keys (newest_rows core) core.floor (event_moment core now) (state_at opening.state seen).keys (omega arith) stands.keys.means in
    let issued : IsIssued (newest_rows core) core.last = shown_is_issued (rows_in core.sources) core.last stands.rows.issued in
    let plan : IsPlanFor (newest_rows core) (event_moment core now) core.last keys (One c) batch answer until =
    planned.plan keys means (issued_is_ready (newest_rows core) (event_moment core now) core.last (One c) stands.counts.limit asked issued) in
    reading_step (newest_rows core) (event_moment core now) _ keys c batch answer plan.step reads

-- a reading command is answered
pub read_stands : (opening : Opening) (core new : CoreState) (seen : List Place) (now caller : ℕ) (c : Command) (answer : Reply) → Stands opening core seen → Reads core new now caller c answer
    → Stands opening new (with_place seen (bare_place (Call now caller c))) × ((step (state_at opening.state seen) (Call now caller c)).0 ≡ Some answer)
read_stands opening core new seen now caller c answer stands reads =
    let plan : IsPlanned (newest_rows core) (event_moment core now) core.last (One c) reads.batch answer reads.until =
    subst (λ (x : CoreState). IsPlanned (newest_rows x) x.floor x.last (One c) reads.batch answer reads.until) reads.core reads.plan in
    let none = reading_writes_none opening core seen now c reads.batch answer reads.until stands reads.asked reads.reads plan in
    carried_stands opening core seen now caller (One c) reads.batch answer stands
    (planned_carried opening core seen now (One c) reads.batch answer reads.until stands reads.asked (subst (λ (b : Batch). IsTrue (are_rows b.entries)) (sym none) no_rows) plan) reads.free new Bare
    (inl (record { nothing = none; core = reads.core; bare = refl }))

-- ---- pins

pinned_more : (core : CoreState) (ps : List PinAt) (qs : List Pin) (p : PinAt) (q : Pin) → ArePinned core ps qs → IsPinned core p q → ArePinned core (ps ++ p ∷ []) (qs ++ q ∷ [])
pinned_more core [] [] p q are is = (is, tt)
pinned_more core [] (y ∷ qs) p q are is = absurd are
pinned_more core (x ∷ ps) [] p q are is = absurd are
pinned_more core (x ∷ ps) (y ∷ qs) p q are is = (are.0, pinned_more core ps qs p q are.1 is)

pinned_less : (core : CoreState) (caller : ℕ) (ps : List PinAt) (qs : List Pin) → ArePinned core ps qs → ArePinned core (filter (λ p. not (is_at caller p)) ps) (filter (λ q. not (is_of caller q)) qs)
pinned_less core caller [] [] are = tt
pinned_less core caller [] (y ∷ qs) are = absurd are
pinned_less core caller (x ∷ ps) [] are = absurd are
pinned_less core caller (x ∷ ps) (y ∷ qs) are =
    by_test (x.caller == caller) (y.caller == caller) (ap (λ (n : ℕ). n == caller) are.0.caller) (pinned_less core caller ps qs are.1)
  where
    by_test : (a b : Bool) → a ≡ b → ArePinned core (filter (λ p. not (is_at caller p)) ps) (filter (λ q. not (is_of caller q)) qs)
        → ArePinned core (cond (not a) (x ∷ filter (λ p. not (is_at caller p)) ps) (filter (λ p. not (is_at caller p)) ps)) (cond (not b) (y ∷ filter (λ q. not (is_of caller q)) qs) (filter (λ q. not (is_of caller q)) qs))
    by_test true true e rest = rest
    by_test true false e rest = absurd (cc)
    by_test false true e rest = absurd (cc)
    by_test false false e rest = (are.0, rest)

-- the machine's pin of a caller
pub record FoundPin (core : CoreState) (caller : ℕ) (p : PinAt) (qs : List Pin) : Type 0 where
  pub pin : Pin
  pub found : find (is_of caller) qs ≡ Some pin
  pub is : IsPinned core p pin

-- the pin of a caller is that of the machine
pub found_pin : (core : CoreState) (caller : ℕ) (ps : List PinAt) (qs : List Pin) (p : PinAt) → ArePinned core ps qs → find (is_at caller) ps ≡ Some p → FoundPin core caller p qs
found_pin core caller [] qs p are e = absurd (cc)
found_pin core caller (x ∷ ps) [] p are e = absurd are
found_pin core caller (x ∷ ps) (y ∷ qs) p are e =
    by_test (x.caller == caller) (y.caller == caller) refl (ap (λ (n : ℕ). n == caller) are.0.caller) e (found_pin core caller ps qs p are.1)
  where
    by_test : (a b : Bool) → (y.caller == caller) ≡ b → a ≡ b → cond a (Some x) (find (is_at caller) ps) ≡ Some p → (find (is_at caller) ps ≡ Some p → FoundPin core caller p qs) → FoundPin core caller p (y ∷ qs)
    by_test true true is same e rest =
        let it : x ≡ p = cc in
        record { pin = y; found = ap (λ (t : Bool). cond t (Some y) (find (is_of caller) qs)) is; is = subst (λ (z : PinAt). IsPinned core z y) it are.0 }
    by_test true false is same e rest = absurd (cc)
    by_test false true is same e rest = absurd (cc)
    by_test false false is same e rest =
        let behind = rest e in
        record { pin = behind.pin; found = ap (λ (t : Bool). cond t (Some y) (find (is_of caller) qs)) is ∙ behind.found; is = behind.is }

bare_quiet_pin : (now caller : ℕ) → WritesNothing (bare_place (PinNow now caller))
bare_quiet_pin now caller = record { whole = refl; each = λ b. refl }

bare_idle_pin : (now caller : ℕ) → MarksNoJob (bare_place (PinNow now caller))
bare_idle_pin now caller = record { flush = λ o. refl; compact = λ o. refl }

pin_step : (s : State) (now caller : ℕ) → step s (PinNow now caller) ≡ pinned (at_moment s now) caller (pin_of s caller)
unfolding step
pin_step s now caller = refl

-- a pin is made
pub pin_stands : (opening : Opening) (core new : CoreState) (seen : List Place) (now caller : ℕ) (answer : Reply) → Stands opening core seen → Pins core new now caller answer
    → Stands opening new (with_place seen (bare_place (PinNow now caller))) × ((step (state_at opening.state seen) (PinNow now caller)).0 ≡ Some answer)
pin_stands opening core new seen now caller answer stands pins =
    let done = by_pin (pin_at core caller) (pin_of s caller) (same_pin core caller core.pins s.pins stands.pins) (pin_step s now caller) in (
      subst (λ (c : CoreState). Stands opening c (with_place seen (bare_place (PinNow now caller)))) (sym pins.core) done.0,
      done.1 ∙ ap (λ (r : Reply). Some r) (sym pins.reply),
    )
  where
    s : State
    s = state_at opening.state seen

    place : Place
    place = bare_place (PinNow now caller)

    new_pin : PinAt
    new_pin = record { caller = caller; seq = core.last; moment = event_moment core now }

    same : event_moment core now ≡ machine.moment_at (state_at opening.state seen) now
    same = same_moment core (state_at opening.state seen) now stands.keys.floor

    is_pinned : (c : CoreState) → c ≡ raised_with core now (core.pins ++ new_pin ∷ []) → IsPinned c new_pin (record { caller = caller; seen = (at_moment (state_at opening.state seen) now).keys; moment = (at_moment (state_at opening.state seen) now).floor })
    is_pinned c e = subst (λ (x : CoreState). IsPinned x (record { caller = caller; seq = core.last; moment = event_moment core now })
        (record { caller = caller; seen = (at_moment (state_at opening.state seen) now).keys; moment = (at_moment (state_at opening.state seen) now).floor })) (sym e) (record {
          caller = refl;
          moment = same;
          means = subst (λ (t : ℕ). Means (newest_rows core) (event_moment core now) (alive (state_at opening.state seen).keys t)) same
              (later_keys (newest_rows core) core.floor (event_moment core now) (state_at opening.state seen).keys (omega arith) stands.keys.means);
          written = omega arith;
          past = omega arith;
        })

    by_pin : (o : Option PinAt) (q : Option Pin) → is_some o ≡ is_some q → step s (PinNow now caller) ≡ pinned (at_moment s now) caller q
        → Stands opening (with_pin (raised core now) caller o) (with_place seen place) × ((step s (PinNow now caller)).0 ≡ Some (pin_answer o))
    by_pin None None e is = (
      raised_stands opening core seen place now (core.pins ++ new_pin ∷ []) stands (bare_quiet_pin now caller) (bare_idle_pin now caller) tt
          (subst (λ (r : Option Reply × State). OnlyRaises s r.1 now) (sym is) (record { floor = refl; keys = alive-twice s.keys (machine.moment_at s now) }))
          (subst (λ (r : Option Reply × State). ArePinned (raised_with core now (core.pins ++ new_pin ∷ [])) (core.pins ++ new_pin ∷ []) r.1.pins) (sym is)
          (pinned_more (raised_with core now (core.pins ++ new_pin ∷ [])) core.pins s.pins new_pin _ (old_pins opening core seen place now (core.pins ++ new_pin ∷ []) stands core.pins s.pins stands.pins)
          (is_pinned (raised_with core now (core.pins ++ new_pin ∷ [])) refl))) tt,
      ap (λ (r : Option Reply × State). r.0) is,
    )
    by_pin None (Some q) e is = absurd (cc)
    by_pin (Some p) None e is = absurd (cc)
    by_pin (Some p) (Some q) e is = (
      raised_stands opening core seen place now core.pins stands (bare_quiet_pin now caller) (bare_idle_pin now caller) tt
          (subst (λ (r : Option Reply × State). OnlyRaises s r.1 now) (sym is) (at_moment_raises s now))
          (subst (λ (r : Option Reply × State). ArePinned (raised core now) core.pins r.1.pins) (sym is) (old_pins opening core seen place now core.pins stands core.pins s.pins stands.pins)) tt,
      ap (λ (r : Option Reply × State). r.0) is,
    )

unpin_step : (s : State) (now caller : ℕ) → step s (Unpin now caller) ≡ unpinned (at_moment s now) caller (pin_of s caller)
unfolding step
unpin_step s now caller = refl

-- a pin is let go
pub unpin_stands : (opening : Opening) (core new : CoreState) (seen : List Place) (now caller : ℕ) (answer : Reply) → Stands opening core seen → Unpins core new now caller answer
    → Stands opening new (with_place seen (bare_place (Unpin now caller))) × ((step (state_at opening.state seen) (Unpin now caller)).0 ≡ Some answer)
unpin_stands opening core new seen now caller answer stands unpins =
    let done = by_pin (pin_at core caller) (pin_of s caller) (same_pin core caller core.pins s.pins stands.pins) (unpin_step s now caller) in (
      subst (λ (c : CoreState). Stands opening c (with_place seen (bare_place (Unpin now caller)))) (sym unpins.core) done.0,
      done.1 ∙ ap (λ (r : Reply). Some r) (sym unpins.reply),
    )
  where
    s : State
    s = state_at opening.state seen

    place : Place
    place = bare_place (Unpin now caller)

    quiet : WritesNothing (bare_place (Unpin now caller))
    quiet = record { whole = refl; each = λ b. refl }

    idle : MarksNoJob (bare_place (Unpin now caller))
    idle = record { flush = λ o. refl; compact = λ o. refl }

    left : List PinAt
    left = filter (λ p. not (is_at caller p)) core.pins

    by_pin : (o : Option PinAt) (q : Option Pin) → is_some o ≡ is_some q → step s (Unpin now caller) ≡ unpinned (at_moment s now) caller q
        → Stands opening (without_pin (raised core now) caller o) (with_place seen place) × ((step s (Unpin now caller)).0 ≡ Some (unpin_answer o))
    by_pin None None e is = (
      raised_stands opening core seen place now core.pins stands quiet idle tt
          (subst (λ (r : Option Reply × State). OnlyRaises s r.1 now) (sym is) (at_moment_raises s now))
          (subst (λ (r : Option Reply × State). ArePinned (raised core now) core.pins r.1.pins) (sym is) (old_pins opening core seen place now core.pins stands core.pins s.pins stands.pins)) tt,
      ap (λ (r : Option Reply × State). r.0) is,
    )
    by_pin None (Some q) e is = absurd (cc)
    by_pin (Some p) None e is = absurd (cc)
    by_pin (Some p) (Some q) e is = (
      raised_stands opening core seen place now left stands quiet idle tt
          (subst (λ (r : Option Reply × State). OnlyRaises s r.1 now) (sym is) (record { floor = refl; keys = alive-twice s.keys (machine.moment_at s now) }))
          (subst (λ (r : Option Reply × State). ArePinned (raised_with core now left) left r.1.pins) (sym is)
          (pinned_less (raised_with core now left) caller core.pins s.pins (old_pins opening core seen place now left stands core.pins s.pins stands.pins))) tt,
      ap (λ (r : Option Reply × State). r.0) is,
    )

-- ---- a caller with a pin

look_step : (s : State) (now caller : ℕ) (c : Command) → step s (PinnedRead now caller c) ≡ (answer_of_pin (pin_of s caller) c, at_moment s now)
unfolding step
look_step s now caller c = refl

-- a reading command is answered from the rows of a pin
pub look_stands : (opening : Opening) (core new : CoreState) (seen : List Place) (now caller : ℕ) (c : Command) (answer : Reply) → Stands opening core seen → LooksPinned core new now caller c answer
    → Stands opening new (with_place seen (bare_place (PinnedRead now caller c))) × ((step (state_at opening.state seen) (PinnedRead now caller c)).0 ≡ Some answer)
look_stands opening core new seen now caller c answer stands looks =
    let here = found_pin core caller core.pins s.pins looks.pin stands.pins looks.found in (
      subst (λ (x : CoreState). Stands opening x (with_place seen place)) (sym looks.core)
          (raised_stands opening core seen place now core.pins stands (record { whole = refl; each = λ b. refl }) (record { flush = λ o. refl; compact = λ o. refl })
          (some_pin (pin_of s caller) here.pin here.found, looks.reads)
          (subst (λ (r : Option Reply × State). OnlyRaises s r.1 now) (sym (look_step s now caller c)) (at_moment_raises s now))
          (subst (λ (r : Option Reply × State). ArePinned (raised core now) core.pins r.1.pins) (sym (look_step s now caller c)) (old_pins opening core seen place now core.pins stands core.pins s.pins stands.pins)) tt),
      ap (λ (r : Option Reply × State). r.0) (look_step s now caller c) ∙ ap (λ (o : Option Pin). answer_of_pin o c) here.found ∙ answered here.pin here.is,
    )
  where
    s : State
    s = state_at opening.state seen

    place : Place
    place = bare_place (PinnedRead now caller c)

    some_pin : (o : Option Pin) (q : Pin) → o ≡ Some q → IsSome o
    some_pin None q e = absurd (cc)
    some_pin (Some x) q e = refl

    answered : (q : Pin) → IsPinned core looks.pin q → Some (apply q.seen q.moment c).0 ≡ Some answer
    answered q is =
        let rows : Rows = at (rows_in core.sources) looks.pin.seq in
        let written = is.written in
        let limit = stands.counts.limit in
        let issued : IsIssued rows looks.pin.seq = shown_is_issued (rows_in core.sources) looks.pin.seq stands.rows.issued in
        let plan : IsPlanFor rows looks.pin.moment looks.pin.seq q.seen (One c) looks.batch answer looks.until =
        looks.plan.plan q.seen is.means (issued_is_ready rows looks.pin.moment looks.pin.seq (One c) (omega (arith, written, limit)) looks.asked issued) in
        let reply : answer ≡ (fold q.seen looks.pin.moment (One c)).0 = (plan_means rows looks.pin.moment looks.pin.seq q.seen (One c) looks.batch answer looks.until is.means plan).0 in
        ap (λ (r : Reply). Some r) (sym (reply ∙ ap (λ (r : Reply × RedisMap). r.0) (applied rows looks.pin.moment q.seen c is.means) ∙ ap (λ (t : ℕ). (apply q.seen t c).0) is.moment))

refuse_step : (s : State) (now caller : ℕ) (ds : Cmds) → step s (PinnedRefused now caller ds) ≡ (Some (reply.Error Pinned), at_moment s now)
unfolding step
refuse_step s now caller ds = refl

-- a pin refuses what writes
pub refuse_stands : (opening : Opening) (core new : CoreState) (seen : List Place) (now caller : ℕ) (ds : Cmds) (answer : Reply) → Stands opening core seen → RefusesPinned core new now caller ds answer
    → Stands opening new (with_place seen (bare_place (PinnedRefused now caller ds))) × ((step (state_at opening.state seen) (PinnedRefused now caller ds)).0 ≡ Some answer)
refuse_stands opening core new seen now caller ds answer stands refuses = (
  subst (λ (x : CoreState). Stands opening x (with_place seen place)) (sym refuses.core)
      (raised_stands opening core seen place now core.pins stands (record { whole = refl; each = λ b. refl }) (record { flush = λ o. refl; compact = λ o. refl })
      (some_too (pin_of s caller) (sym (same_pin core caller core.pins s.pins stands.pins)) refuses.pinned, refuses.refused)
      (subst (λ (r : Option Reply × State). OnlyRaises s r.1 now) (sym (refuse_step s now caller ds)) (at_moment_raises s now))
      (subst (λ (r : Option Reply × State). ArePinned (raised core now) core.pins r.1.pins) (sym (refuse_step s now caller ds)) (old_pins opening core seen place now core.pins stands core.pins s.pins stands.pins)) tt),
  ap (λ (r : Option Reply × State). r.0) (refuse_step s now caller ds) ∙ ap (λ (r : Reply). Some r) (sym refuses.reply),
)
  where
    s : State
    s = state_at opening.state seen

    place : Place
    place = bare_place (PinnedRefused now caller ds)

    some_too : (o : Option Pin) → is_some o ≡ is_some (pin_at core caller) → IsSome (pin_at core caller) → IsSome o
    some_too o e h = e ∙ h
