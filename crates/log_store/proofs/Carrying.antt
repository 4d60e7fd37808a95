-- How a plan that is carried out answers as the machine does.
use Rattle.std.proofs.Common.{◌≡◌, ⊎_elim, inl, inr, ℕ, zero, suc, ◌+◌, ◌^◌, false, cond, Option, Some, refl, sym, ap, subst, List, ◌∙◌, arith}
use Rattle.std.specs.Prelude.{◌==◌, if◌then◌else◌, min, max}
use Rattle.kv_base.specs.Map.{Bytes}
use Rattle.kv_outside.specs.Disk.{Disk, Touches}
use Rattle.kv_outside.specs.RunLaws.{run_weaken}
use Rattle.gated_log.specs.States.{LogState}
use Rattle.batch_codec.specs.Batches.{Batch, after}
use Rattle.redis_model.specs.declared.command.Cmds.{Cmds}
use Rattle.redis_model.specs.declared.command.Cmds.TheVariants.{One, Many}
use Rattle.redis_model.specs.declared.reply.Reply.{Reply}
use Rattle.redis_model.specs.Machine.{State, step, fold, moment_at, at_moment}
use Rattle.redis_model.specs.Value.{RedisMap, alive}
use Rattle.lives_model.specs.Rows.{Rows}
use Rattle.lives_model.specs.Means.{Means}
use Rattle.lives_model.specs.CleanLaws.{means_later}
use Rattle.lives_model.specs.JoinedBatchLaws.{after-empty, plan_means}
use Rattle.lives_model.specs.MeansOneLaws.{means_one}
use Rattle.lives_model.specs.Plans.{AreAsked, IsPlanFor}
use Rattle.lives_model.specs.StepLaws.{alive_means}
use Rattle.log_store.specs.Planned.{IsBatchOf, IsPlannedNext}
use Rattle.log_store.specs.Recover.{Recovered, with_batch}
use Rattle.log_store.specs.Keeping.{log_file, state_of, HoldsKeys, IsKept, KeptState, StandsFor, ComesTo, ComesToEither, ComesToKeys}
use Rattle.log_store.specs.KeepLaws.{comes_to_keys, holds_after, holds_alike, keys_stand_later, stands_mean}
use Rattle.log_store.specs.Playing.{entry, batches, planned_for, IsBeforeOrAfter, IsBodyOfPlan, Plays}
use Rattle.log_store.specs.PlayLaws.{none_planned, not_none, some_batch}
use Rattle.log_store.proofs.Appending.{kept_still, still_comes}

-- ---- the moment of a call

-- another state of a store of the same rows, floor, log and last batch
pub record IsSame (old mid : KeptState) : Type 0 where
  pub rows : mid.rows ≡ old.rows
  pub floor : mid.floor ≡ old.floor
  pub written : mid.written ≡ old.written
  pub log : mid.log ≡ old.log
  pub sequence : mid.sequence ≡ old.sequence

pub same_but_planned : (old : KeptState) (rows : Rows) (floor written : ℕ) (log : LogState) (sequence planned next : ℕ)
    → record { rows = rows; floor = floor; written = written; log = log; sequence = sequence; planned = planned } ≡ old
    → IsSame old (record { rows = rows; floor = floor; written = written; log = log; sequence = sequence; planned = next })
same_but_planned old rows floor written log sequence planned next is = record {
  rows = ap (λ (s : KeptState). s.rows) is;
  floor = ap (λ (s : KeptState). s.floor) is;
  written = ap (λ (s : KeptState). s.written) is;
  log = ap (λ (s : KeptState). s.log) is;
  sequence = ap (λ (s : KeptState). s.sequence) is;
}

pub same_kept : (disk : Disk) (old mid : KeptState) (failed : List Cmds) → IsSame old mid → IsKept disk old failed → IsKept disk mid failed
same_kept disk old mid failed same kept = kept_still disk old mid failed same.rows same.written same.log same.sequence kept

-- a plan that was made at the moment of a call
pub record IsPlanAt (old mid : KeptState) (now : ℕ) (ds : Cmds) (b : Batch) (answer : Reply) (until : Option ℕ) (moment : ℕ) : Type 0 where
  pub same : IsSame old mid
  pub at : moment ≡ max mid.floor (min now (2 ^ 61))
  pub asked : AreAsked ds
  pub planned : IsPlannedNext mid.rows moment mid.sequence ds b answer until

moment_is : (old mid : KeptState) (s : State) (now moment : ℕ) → IsSame old mid → StandsFor old s → moment ≡ max mid.floor (min now (2 ^ 61)) → moment ≡ moment_at s now
moment_is old mid s now moment same stands is = is ∙ ap (λ (f : ℕ). max f (min now 2305843009213693952)) (same.floor ∙ sym stands.floor)

-- the batch of a plan is that of its commands
pub of_commands : (old mid : KeptState) (now : ℕ) (ds : Cmds) (b : Batch) (answer : Reply) (until : Option ℕ) (moment : ℕ) → IsPlanAt old mid now ds b answer until moment
    → IsBatchOf mid.rows moment mid.sequence ds b
of_commands old mid now ds b answer until moment plan = record { answer = answer; until = until; asked = plan.asked; plan = plan.planned }

-- what the rows mean at the moment of a call
means_now : (old : KeptState) (s : State) (now : ℕ) → StandsFor old s → Means old.rows (moment_at s now) (at_moment s now).keys
means_now old s now stands = means_later old.rows old.floor (moment_at s now) s.keys (omega (arith, stands.floor)) (stands_mean old s stands)

-- ---- what the machine does

step_is : (s : State) (now : ℕ) (ds : Cmds) → step s (entry now ds) ≡ (Some (fold (at_moment s now).keys (moment_at s now) ds).0, record { keys = (fold (at_moment s now).keys (moment_at s now) ds).1; floor = moment_at s now; pins = s.pins })
unfolding step
step_is s now (One c) = refl
step_is s now (Many cs) = refl

module _ (old mid : KeptState) (now : ℕ) (ds : Cmds) (b : Batch) (answer : Reply) (until : Option ℕ) (moment : ℕ) (plan : IsPlanAt old mid now ds b answer until moment) (s : State) (stands : StandsFor old s) where
  -- the plan of a call, at the moment that the machine has
  planned_at : IsPlannedNext old.rows (moment_at s now) old.sequence ds b answer until
  planned_at =
      subst (λ (c : Rows). IsPlannedNext c (moment_at s now) old.sequence ds b answer until) plan.same.rows
      (subst (λ (t : ℕ). IsPlannedNext mid.rows t old.sequence ds b answer until) (moment_is old mid s now moment plan.same stands plan.at)
      (subst (λ (base : ℕ). IsPlannedNext mid.rows moment base ds b answer until) plan.same.sequence plan.planned))

  -- and for the keys that it has
  plan_for : IsPlanFor old.rows (moment_at s now) old.sequence (at_moment s now).keys ds b answer until
  plan_for = planned_at.plan (at_moment s now).keys (means_now old s now stands) stands.holds.issued

  carried : (answer ≡ (fold (at_moment s now).keys (moment_at s now) ds).0) × Means (after old.rows b) (moment_at s now) (fold (at_moment s now).keys (moment_at s now) ds).1
  carried = plan_means old.rows (moment_at s now) old.sequence (at_moment s now).keys ds b answer until (means_now old s now stands) plan_for

  -- the rows after it hold the keys after the commands
  holds_then : HoldsKeys (with_batch (state_of old) b (moment_at s now)) (fold (at_moment s now).keys (moment_at s now) ds).1
  holds_then =
      subst (λ (m : RedisMap). HoldsKeys (with_batch (state_of old) b (moment_at s now)) (fold m (moment_at s now) ds).1)
      (sym (keys_stand_later old s stands (moment_at s now) (omega (arith, stands.floor))))
      (holds_after (state_of old) stands.at_last_batch ds b (moment_at s now) stands.holds (omega (arith, stands.past, stands.floor))
      (record { answer = answer; until = until; asked = plan.asked; plan = planned_at }))

-- a plan that was carried out answers as the machine, and leaves a store that stands for the machine's state
pub plays : (old mid new : KeptState) (now : ℕ) (ds : Cmds) (b : Batch) (answer : Reply) (until : Option ℕ) (moment planned : ℕ) → IsPlanAt old mid now ds b answer until moment
    → planned ≡ planned_for b → new.rows ≡ after mid.rows b → new.floor ≡ moment → new.written ≡ (if planned == 0 then mid.written else new.floor) → new.sequence ≡ mid.sequence + batches planned
    → Plays old new now ds answer
plays old mid new now ds b answer until moment planned plan bytes rows floor written sequence = record {
  answer = λ s stands.
      ap (λ (r : Option Reply × State). r.0) (step_is s now ds) ∙ ap (λ (r : Reply). Some r) (sym (carried old mid now ds b answer until moment plan s stands).0);
  stands = λ s stands. subst (λ (r : Option Reply × State). StandsFor new r.1) (sym (step_is s now ds)) (by_planned s stands planned refl);
}
  where
    same : after old.rows b ≡ new.rows
    same = ap (λ (c : Rows). after c b) (sym plan.same.rows) ∙ sym rows

    moment_so : (s : State) → StandsFor old s → moment ≡ moment_at s now
    moment_so s stands = moment_is old mid s now moment plan.same stands plan.at

    -- the state after the commands
    after_it : State → State
    after_it s = record { keys = (fold (at_moment s now).keys (moment_at s now) ds).1; floor = moment_at s now; pins = s.pins }

    by_planned : (s : State) → StandsFor old s → (n : ℕ) → planned ≡ n → StandsFor new (after_it s)
    by_planned s stands zero none =
        let same_rows : after old.rows b ≡ old.rows = ap (after old.rows) (none_planned b (sym bytes ∙ none)) ∙ after-empty old.rows in
        let same_written : new.written ≡ old.written = written ∙ ap (λ (n : ℕ). if n == 0 then mid.written else new.floor) none ∙ plan.same.written in
        let no_batch : batches planned ≡ 0 = ap batches none in
        record {
          at_last_batch = stands.at_last_batch;
          holds = holds_alike old new stands.at_last_batch (sym same ∙ same_rows) same_written (omega (arith, sequence, no_batch, plan.same.sequence)) stands.holds;
          past = omega (arith, floor, same_written, stands.past, stands.floor, moment_so s stands);
          keys = means_one old.rows (moment_at s now) (after_it s).keys (alive stands.at_last_batch (moment_at s now))
              (subst (λ (c : Rows). Means c (moment_at s now) (after_it s).keys) same_rows (carried old mid now ds b answer until moment plan s stands).1)
              (means_later old.rows old.written (moment_at s now) stands.at_last_batch (omega (arith, stands.past, stands.floor)) stands.holds.means)
              ∙ ap (alive stands.at_last_batch) (sym (floor ∙ moment_so s stands));
          floor = sym (floor ∙ moment_so s stands);
          free = stands.free;
        }
    by_planned s stands (suc n) some =
        let now_is : new.floor ≡ moment_at s now = floor ∙ moment_so s stands in
        let same_written : new.written ≡ new.floor = written ∙ ap (λ (n : ℕ). if n == 0 then mid.written else new.floor) some ∙ ap (λ b. cond {A = ℕ} b mid.written new.floor) (not_none (suc n) (omega arith)) in
        let one_batch : batches planned ≡ 1 = ap batches some ∙ some_batch (suc n) (omega arith) in
        let next : old.sequence + 1 ≡ new.sequence = omega (arith, sequence, one_batch, plan.same.sequence) in
        let state : with_batch (state_of old) b (moment_at s now) ≡ state_of new = λ i. record { rows = same i; floor = sym (same_written ∙ now_is) i; sequence = next i } in
        let holds : HoldsKeys (state_of new) (after_it s).keys = subst (λ (r : Recovered). HoldsKeys r (after_it s).keys) state (holds_then old mid now ds b answer until moment plan s stands) in
        record {
          at_last_batch = (after_it s).keys;
          holds = holds;
          past = omega (arith, same_written);
          keys = sym (ap (alive (after_it s).keys) (sym same_written) ∙ alive_means new.rows new.written (after_it s).keys holds.means);
          floor = sym now_is;
          free = stands.free;
        }

-- and so many bytes has its body
pub body_is_planned : (old mid : KeptState) (now : ℕ) (ds : Cmds) (b : Batch) (answer : Reply) (until : Option ℕ) (moment planned : ℕ) → IsPlanAt old mid now ds b answer until moment
    → planned ≡ planned_for b → (s : State) → StandsFor old s → IsBodyOfPlan old now s ds planned
body_is_planned old mid now ds b answer until moment planned plan is s stands =
    record { batch = b; answer = answer; until = until; plan = plan_for old mid now ds b answer until moment plan s stands; bytes = is }

-- ---- what a crash leaves

-- a log that comes to the rows before a call comes to the keys before it
keys_before : (old : KeptState) (s : State) (now : ℕ) → StandsFor old s → (c : Bytes) → ComesTo (state_of old) c → ComesToKeys (moment_at s now) (at_moment s now).keys c
keys_before old s now stands =
    comes_to_keys (state_of old) (moment_at s now) stands.at_last_batch (at_moment s now).keys stands.holds (omega (arith, stands.past, stands.floor))
    (keys_stand_later old s stands (moment_at s now) (omega (arith, stands.floor)))

-- the log comes to the keys before a call, or to those after it
pub keys_come : (before now_disk : Disk) (old mid : KeptState) (now : ℕ) (ds : Cmds) (b : Batch) (answer : Reply) (until : Option ℕ) (moment : ℕ) → IsPlanAt old mid now ds b answer until moment
    → (mid.log.unsure ≡ false → (failed : List Cmds) → IsKept before mid failed → Touches log_file before now_disk (ComesToEither (state_of mid) b moment))
    → old.log.unsure ≡ false → (failed : List Cmds) → IsKept before old failed → (s : State) → StandsFor old s → Touches log_file before now_disk (IsBeforeOrAfter s now ds)
keys_come before now_disk old mid now ds b answer until moment plan run sure failed kept s stands =
    run_weaken log_file before now_disk (ComesToEither (state_of mid) b moment) (IsBeforeOrAfter s now ds)
    (run (ap (λ (l : LogState). l.unsure) plan.same.log ∙ sure) failed (same_kept before old mid failed plan.same kept))
    (λ c is. ⊎_elim (λ (e : ComesTo (state_of mid) c). inl (first c e)) (λ (e : ComesTo (with_batch (state_of mid) b moment) c). inr (second c e)) is)
  where
    same : state_of mid ≡ state_of old
    same = λ i. record { rows = plan.same.rows i; floor = plan.same.written i; sequence = plan.same.sequence i }

    first : (c : Bytes) → ComesTo (state_of mid) c → ComesToKeys (moment_at s now) (at_moment s now).keys c
    first c is = keys_before old s now stands c (subst (λ (r : Recovered). ComesTo r c) same is)

    keys : RedisMap
    keys = (fold (at_moment s now).keys (moment_at s now) ds).1

    holds : HoldsKeys (with_batch (state_of old) b (moment_at s now)) keys
    holds = holds_then old mid now ds b answer until moment plan s stands

    second : (c : Bytes) → ComesTo (with_batch (state_of mid) b moment) c → ComesToKeys (moment_at s now) (step s (entry now ds)).1.keys c
    second c is = subst (λ (r : Option Reply × State). ComesToKeys (moment_at s now) r.1.keys c) (sym (step_is s now ds))
        (comes_to_keys (with_batch (state_of old) b (moment_at s now)) (moment_at s now) keys keys holds (omega arith) (sym (alive_means (after old.rows b) (moment_at s now) keys holds.means)) c
        (subst (λ (t : ℕ). ComesTo (with_batch (state_of old) b t) c) (moment_is old mid s now moment plan.same stands plan.at)
        (subst (λ (r : Recovered). ComesTo (with_batch r b moment) c) same is)))

-- where no call was made, to those before it
pub keys_stay : (disk : Disk) (old : KeptState) (now : ℕ) (ds : Cmds) → old.log.unsure ≡ false → (failed : List Cmds) → IsKept disk old failed → (s : State) → StandsFor old s → Touches log_file disk disk (IsBeforeOrAfter s now ds)
keys_stay disk old now ds sure failed kept s stands =
    still_comes disk old (IsBeforeOrAfter s now ds) sure failed kept (λ c comes. inl (keys_before old s now stands c comes))
