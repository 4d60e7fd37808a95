-- A run of the server, from the opening of its store to the closing.
use Rattle.std.proofs.Common.{◌≡◌, ◌≢◌, ◌≤◌, ℕ, List, [], Option, inl, inr, ◌⊎◌, ⊎_elim, refl, arith}
use Rattle.std.specs.Prelude.{Ok, Err}
use Rattle.kv_base.specs.Map.{Bytes}
use Rattle.kv_base.specs.declared.fault.StoreFault.{StoreFault}
use Rattle.kv_base.specs.declared.fault.StoreFault.TheVariants as fault
use Rattle.kv_outside.specs.Causes.{Rose}
use Rattle.kv_outside.specs.CauseLaws.{rose_since}
use Rattle.kv_outside.specs.Disk.{Disk}
use Rattle.redis_model.specs.declared.command.Cmds.{Cmds}
use Rattle.redis_model.specs.Value.{RedisMap}
use Rattle.session.specs.declared.session.Outcome.TheVariants as outcome
use Rattle.log_store.specs.Keeping.{KeptState, state_of, FailsToOpen, HoldsKeys, IsKept, IsOpened, Keeps, KeepsOrMore}
use Rattle.log_store.specs.KeepLaws.{keeps_keys_or_more, opened_stands}
use Rattle.kv_server.specs.Script.{EndsWith, opening_status, store_of, store_from}
use Rattle.kv_server.specs.Connections.{ServerOutside, EndsServing, Attended, IsAttended, IsServing}
use Rattle.kv_server.specs.Attending.{Attending, AttendsFrom}
use Rattle.kv_server.proofs.Running.{comes_to_store}

-- how a store is closed
pub record Closes (n : ℕ) (before after : Disk) (files files' : ℕ) (kept : KeptState) : Type 0 where
  pub ends : EndsWith outcome.Closed n files files'
  pub later : files ≤ files'
  pub kept_all : n ≡ 0 → (failed : List Cmds) → IsKept before kept failed → Keeps after kept
  pub kept_or_more : (failed : List Cmds) → IsKept before kept failed → Keeps after kept ⊎ KeepsOrMore after kept failed

module _ (old mid : ServerOutside) (opened new : Disk) (f1 f3 : ℕ) (k k' : KeptState) (closed : ℕ) (opening : IsOpened old.disk opened k) (later : old.files ≤ f1) (closes : Closes closed mid.disk new mid.files f3 k') where
  abbrev begun : ServerOutside
  begun = record old { disk = opened; files = f1 }

  abbrev end : ServerOutside
  end = record mid { disk = new; files = f3 }

  attended_on : (n : ℕ) (links : Option (List Bytes)) (served : Attending k k' begun mid links) → (n ≡ 0 → closed ≡ 0) → (keys : RedisMap) → HoldsKeys (state_of k) keys
      → Attended n end served.clients old.readings (store_from (state_of k) keys f1)
  attended_on n links served zero keys holds =
      let on = served.leads (record { keys = keys; floor = k.written; pins = [] }) (opened_stands old.disk opened k opening keys holds) in
      record {
        last = store_of on.state k' mid.files;
        until = closes.later;
        served = on.served;
        kept = λ none. comes_to_store new k' on.state mid.files on.stands (closes.kept_all (zero none) served.keeps.failed served.keeps.keeps);
        kept_or_more = record {
          failed = served.keeps.failed;
          were = served.keeps.were;
          leaves = ⊎_elim
              (λ (all : Keeps new k'). inl (comes_to_store new k' on.state mid.files on.stands all))
              (λ (more : KeepsOrMore new k' served.keeps.failed). inr (keeps_keys_or_more new k' on.state served.keeps.failed on.stands more))
              (closes.kept_or_more served.keeps.failed served.keeps.keeps);
        };
      }

  whole_run : (n : ℕ) (links : Option (List Bytes)) (served : Attending k k' begun mid links) → EndsServing n links old end → (n ≡ 0 → closed ≡ 0) → IsAttended n old end
  whole_run n links served ends zero = record {
    clients = served.clients;
    links = links;
    accepted = served.accepted;
    ends = ends;
    opened = record { start = state_of k; begins = opening.start; faults = f1; since = later; holds = λ keys holds. attended_on n links served zero keys holds };
  }

  closing : f1 ≤ mid.files → EndsWith outcome.Closed closed mid.files f3 → (closed ≡ 0) ⊎ ((closed ≡ 2) × Rose old.files f3)
  closing more (inl zero) = inl zero
  closing more (inr two) = inr (two.0, rose_since old.files mid.files f3 (omega (arith, later, more)) two.1)

  -- accepting ended
  pub ended_run : {E : Type 0} (x : Unit {0}) → AttendsFrom {E = E} k k' begun mid (Ok x) → IsAttended closed old end
  ended_run x attends = whole_run closed attends.links attends.served (inr (attends.ended, closing attends.served.later closes.ends)) (λ zero. zero)

  -- or failed
  pub failed_run : {E : Type 0} (e : E) → AttendsFrom k k' begun mid (Err e) → IsAttended 9 old end
  failed_run e attends = whole_run 9 attends.links attends.served (inl (refl, attends.failed.0, attends.failed.1)) (λ never. absurd (omega (arith, never)))

-- ---- which status can be which

-- a status of an opening that failed
unopened_is : (n : ℕ) (f : StoreFault) → n ≡ opening_status f → (n ≡ 2) ⊎ ((n ≡ 3) ⊎ (n ≡ 4))
unopened_is n fault.Failed is = inl is
unopened_is n (fault.Damaged file place) is = inr (inl is)
unopened_is n fault.NoMem is = inr (inr is)

module _ (n : ℕ) (old new : ServerOutside) where
  pub never_usage : IsServing n old new → n ≢ 1
  never_usage (inl r) one = let is = unopened_is n r.fault r.status in omega (arith, one, is)
  never_usage (inr r) one = by_end r.ends
    where
      by_end : EndsServing n r.links old new → ⊥
      by_end (inl failed) = let nine = failed.0 in omega (arith, one, nine)
      by_end (inr ended) = ⊎_elim (λ (zero : n ≡ 0). omega (arith, one, zero)) (λ (two : (n ≡ 2) × Rose old.files new.files). (let is = two.0 in omega (arith, one, is))) ended.1

  pub attended_when : IsServing n old new → (n ≡ 0) ⊎ (n ≡ 9) → IsAttended n old new
  attended_when (inl r) which = let is = unopened_is n r.fault r.status in absurd (omega (arith, which, is))
  attended_when (inr r) which = r

  opening_cause : (f : StoreFault) → n ≡ opening_status f → FailsToOpen old.disk old.files new.files f → n ≡ 2 → Rose old.files new.files
  opening_cause fault.Failed is cause two = cause
  opening_cause (fault.Damaged file place) is cause two = absurd (omega (arith, is, two))
  opening_cause fault.NoMem is cause two = absurd (omega (arith, is, two))

  pub files_cause : IsServing n old new → n ≡ 2 → Rose old.files new.files
  files_cause (inl r) two = opening_cause r.fault r.status r.cause two
  files_cause (inr r) two = by_end r.ends
    where
      by_end : EndsServing n r.links old new → Rose old.files new.files
      by_end (inl failed) = let nine = failed.0 in absurd (omega (arith, two, nine))
      by_end (inr ended) = ⊎_elim (λ (zero : n ≡ 0). absurd (omega (arith, two, zero))) (λ (closing : (n ≡ 2) × Rose old.files new.files). closing.1) ended.1

  pub door_cause : IsServing n old new → n ≡ 9 → Rose old.door new.door
  door_cause (inl r) nine = let is = unopened_is n r.fault r.status in absurd (omega (arith, nine, is))
  door_cause (inr r) nine = by_end r.ends
    where
      by_end : EndsServing n r.links old new → Rose old.door new.door
      by_end (inl failed) = failed.2
      by_end (inr ended) = ⊎_elim (λ (zero : n ≡ 0). absurd (omega (arith, nine, zero))) (λ (closing : (n ≡ 2) × Rose old.files new.files). (let is = closing.0 in absurd (omega (arith, nine, is)))) ended.1
