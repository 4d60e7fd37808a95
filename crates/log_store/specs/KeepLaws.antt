-- What a store stands for, by its floor and by its last batch: when it was opened, later, and once its log is read again.
use Rattle.std.proofs.Common.{◌≡◌, ⊎_elim, inl, inr, ℕ, ◌+◌, ◌≤◌, List, [], Result, Ok, refl, sym, ap, subst, ◌∙◌, arith}
use Rattle.kv_base.specs.Map.{Bytes, empty}
use Rattle.kv_outside.specs.Disk.{Disk}
use Rattle.gated_log.specs.RecordLaws.{records_none}
use Rattle.batch_codec.specs.Batches.{Batch, after}
use Rattle.wal_log.specs.Segments.{records_of, records_from}
use Rattle.wal_log.specs.SegmentLaws.{segment_of-records}
use Rattle.redis_model.specs.declared.command.Cmds.{Cmds}
use Rattle.redis_model.specs.Machine.{State, fold}
use Rattle.redis_model.specs.Value.{RedisMap, alive}
use Rattle.lives_model.specs.CleanLaws.{means_later}
use Rattle.lives_model.specs.GrammarLaws.{empty_means}
use Rattle.lives_model.specs.JoinedBatchLaws.{plan_means}
use Rattle.lives_model.specs.Means.{Means}
use Rattle.lives_model.specs.MeansOneLaws.{means_one}
use Rattle.lives_model.specs.Rows.{Rows}
use Rattle.lives_model.specs.StepLaws.{alive_means}
use Rattle.log_store.specs.IssuingLaws.{issued_after, nothing_is_issued}
use Rattle.log_store.specs.Planned.{IsBatchOf}
use Rattle.log_store.specs.Recover.{Recovered, before_all, nothing, recovered, recovered_by, with_batch}
use Rattle.log_store.specs.Keeping.{KeptState, state_of, HoldsKeys, StandsFor, ComesTo, ComesToKeys, ComesToKeysAt, Keeps, KeepsOrMore, KeepsKeysOrMore, IsOpened, log_file}

-- ---- a store and its state

-- the rows mean the keys at the floor
pub stands_mean : (store : KeptState) (s : State) → StandsFor store s → Means store.rows store.floor s.keys
stands_mean store s stands =
    subst (λ (m : RedisMap). Means store.rows store.floor m) (sym stands.keys) (means_later store.rows store.written store.floor stands.at_last_batch stands.past stands.holds.means)

-- so no key has expired by then
pub stands_alive : (store : KeptState) (s : State) → StandsFor store s → alive s.keys s.floor ≡ s.keys
stands_alive store s stands = ap (alive s.keys) stands.floor ∙ alive_means store.rows store.floor s.keys (stands_mean store s stands)

-- what is alive of the keys later is what is alive then of the map at the last batch
pub keys_stand_later : (store : KeptState) (s : State) (stands : StandsFor store s) (moment : ℕ) → store.floor ≤ moment → alive s.keys moment ≡ alive stands.at_last_batch moment
keys_stand_later store s stands moment later =
    means_one store.rows moment (alive s.keys moment) (alive stands.at_last_batch moment)
    (means_later store.rows store.floor moment s.keys later (stands_mean store s stands))
    (means_later store.rows store.written moment stands.at_last_batch (omega (arith, stands.past)) stands.holds.means)

-- a store of the same rows and of the same last batch holds the same keys
pub holds_alike : (old new : KeptState) (keys : RedisMap) → new.rows ≡ old.rows → new.written ≡ old.written → new.sequence ≡ old.sequence → HoldsKeys (state_of old) keys → HoldsKeys (state_of new) keys
holds_alike old new keys rows written sequence holds =
    subst (λ (r : Recovered). HoldsKeys r keys) (λ i. record { rows = sym rows i; floor = sym written i; sequence = sym sequence i }) holds

-- what was opened stands for the map that its rows hold
pub opened_stands : (old new : Disk) (store : KeptState) → IsOpened old new store → (keys : RedisMap) → HoldsKeys (state_of store) keys
    → StandsFor store (record { keys = keys; floor = store.written; pins = [] })
opened_stands old new store opened keys holds = record {
  at_last_batch = keys;
  holds = holds;
  past = omega (arith, opened.floor);
  keys = sym (ap (alive keys) opened.floor ∙ alive_means store.rows store.written keys holds.means);
  floor = sym opened.floor;
  free = refl;
}

-- ---- a batch more

-- the rows after a batch that carries commands out hold the keys after them
pub holds_after : (state : Recovered) (m : RedisMap) (ds : Cmds) (batch : Batch) (moment : ℕ) → HoldsKeys state m → state.floor ≤ moment → (of : IsBatchOf state.rows moment state.sequence ds batch)
    → HoldsKeys (with_batch state batch moment) (fold (alive m moment) moment ds).1
holds_after state m ds batch moment holds later of =
    let means : Means state.rows moment (alive m moment) = means_later state.rows state.floor moment m later holds.means in
    let plan = of.plan.plan (alive m moment) means holds.issued in
    record {
      means = (plan_means state.rows moment state.sequence (alive m moment) ds batch of.answer of.until means plan).1;
      issued = issued_after state.rows moment state.sequence (alive m moment) ds batch of.answer of.until of.asked means holds.issued plan;
    }

-- ---- a log that is read again

-- what is recovered is one state
pub same_state : (a b : Recovered) → ◌≡◌ {A = Result Recovered ℕ} (Ok a) (Ok b) → a ≡ b
same_state a b e = cc

-- bytes that come to rows come to the keys that are alive of what these hold
pub comes_to_keys : (state : Recovered) (moment : ℕ) (m keys : RedisMap) → HoldsKeys state m → state.floor ≤ moment → keys ≡ alive m moment
    → (bytes : Bytes) → ComesTo state bytes → ComesToKeys moment keys bytes
comes_to_keys state moment m keys holds past are bytes comes = record { state = state; is = comes; at_last_batch = m; holds = holds; past = past; keys_are = are }

-- an empty log comes to no keys
pub nothing_is_recovered : recovered [] ≡ Ok nothing
unfolding records_of records_from
nothing_is_recovered = ap recovered_by (segment_of-records before_all [] [] records_none)

pub nothing_comes : (moment : ℕ) → ComesToKeys moment empty []
nothing_comes moment = record {
  state = nothing;
  is = nothing_is_recovered;
  at_last_batch = empty;
  holds = record { means = empty_means 0; issued = nothing_is_issued };
  past = omega arith;
  keys_are = sym (alive_means empty moment empty (empty_means moment));
}

-- what comes to the store's rows comes to the keys
pub stands_comes : (store : KeptState) (s : State) → StandsFor store s → (bytes : Bytes) → ComesTo (state_of store) bytes → ComesToKeys s.floor s.keys bytes
stands_comes store s stands =
    comes_to_keys (state_of store) s.floor stands.at_last_batch s.keys stands.holds (omega (arith, stands.past, stands.floor)) (stands.keys ∙ ap (alive stands.at_last_batch) (sym stands.floor))

-- with the sequence of the last batch
pub stands_comes_at : (store : KeptState) (s : State) → StandsFor store s → (bytes : Bytes) → ComesTo (state_of store) bytes → ComesToKeysAt store.sequence s.floor s.keys bytes
unfolding stands_comes comes_to_keys
stands_comes_at store s stands bytes comes = record { comes = stands_comes store s stands bytes comes; sequence = refl }

-- what comes to the rows after a batch of commands comes to the keys after them
comes_after : (state : Recovered) (m : RedisMap) (ds : Cmds) (batch : Batch) (moment : ℕ) → HoldsKeys state m → state.floor ≤ moment → IsBatchOf state.rows moment state.sequence ds batch
    → (bytes : Bytes) → ComesTo (with_batch state batch moment) bytes → ComesToKeysAt (state.sequence + 1) moment (fold (alive m moment) moment ds).1 bytes
unfolding comes_to_keys
comes_after state m ds batch moment holds later of bytes comes =
    let keys : RedisMap = (fold (alive m moment) moment ds).1 in
    let after_it = holds_after state m ds batch moment holds later of in
    record {
      comes = comes_to_keys (with_batch state batch moment) moment keys keys after_it (omega arith) (sym (alive_means (after state.rows batch) moment keys after_it.means)) bytes comes;
      sequence = refl;
    }

-- a log that comes to the rows, or to those after a batch of commands, comes to the keys, or to those after the commands
pub keeps_keys_or_more : (disk : Disk) (store : KeptState) (s : State) (failed : List Cmds) → StandsFor store s → KeepsOrMore disk store failed → KeepsKeysOrMore disk store.sequence s failed
keeps_keys_or_more disk store s failed stands more = record {
  at_last_batch = stands.at_last_batch;
  keys = stands.keys ∙ ap (alive stands.at_last_batch) (sym stands.floor);
  commands = more.commands;
  among = more.among;
  moment = more.moment;
  leaves = record {
    each = λ c image. ⊎_elim
        (λ (comes : ComesTo (state_of store) c). inl (stands_comes_at store s stands c comes))
        (λ (comes : ComesTo (with_batch (state_of store) more.batch more.moment) c). inr (comes_after (state_of store) stands.at_last_batch more.commands more.batch more.moment stands.holds more.later more.of c comes))
        (more.leaves.each c image);
  };
}
