-- What a run says, by its status.
use Rattle.std.proofs.Common.{◌≡◌, ◌≢◌, ◌≤◌, ℕ, List, [], inl, inr, ◌⊎◌, ⊎_elim, refl, sym, subst, ◌∙◌, arith}
use Rattle.std.specs.Prelude.{Contains}
use Rattle.kv_base.specs.declared.fault.StoreFault.{StoreFault}
use Rattle.kv_base.specs.declared.fault.StoreFault.TheVariants as fault
use Rattle.kv_outside.specs.Causes.{Rose}
use Rattle.kv_outside.specs.CauseLaws.{rose_since}
use Rattle.kv_outside.specs.Disk.{Disk}
use Rattle.session.specs.declared.session.Outcome.{Outcome}
use Rattle.session.specs.declared.session.Outcome.TheVariants as outcome
use Rattle.session.specs.Session.{IsCaused}
use Rattle.session.specs.Answer.{damage_line}
use Rattle.redis_model.specs.declared.command.Cmds.{Cmds}
use Rattle.redis_model.specs.Machine.{State}
use Rattle.redis_model.specs.Value.{RedisMap}
use Rattle.log_store.specs.Keeping.{KeptState, state_of, FailsToOpen, HoldsKeys, IsKept, IsOpened, StandsFor, Keeps, KeepsOrMore}
use Rattle.log_store.specs.KeepLaws.{keeps_keys_or_more, opened_stands, stands_comes_at}
use Rattle.kv_server.specs.Dialog.{StoreState, OneFailed}
use Rattle.kv_server.specs.Outside.{Outside}
use Rattle.kv_server.specs.Script.{status, opening_status, unclosed_status, EndsWith, TellsFault, IsWritten, IsRun, IsGood, IsFaultTold, IsFront, IsDamageTold, IsWhole, IsSession, LeavesKeys, Opened, Went, store_of, store_from}
use Rattle.kv_server.proofs.Output.{closed_output, broken_output, protocol_output, whole_is_answered}

-- ---- which status can be which

opening_is : (f : StoreFault) → (opening_status f ≡ 2) ⊎ ((opening_status f ≡ 3) ⊎ (opening_status f ≡ 4))
opening_is fault.Failed = inl refl
opening_is (fault.Damaged file place) = inr (inl refl)
opening_is fault.NoMem = inr (inr refl)

unclosed_is : (o : Outcome) → (unclosed_status o ≡ 2) ⊎ (unclosed_status o ≡ status o)
unclosed_is outcome.Closed = inl refl
unclosed_is outcome.NoMem = inr refl
unclosed_is outcome.ReadFault = inr refl
unclosed_is outcome.WriteFault = inr refl
unclosed_is outcome.Protocol = inr refl
unclosed_is outcome.Spent = inr refl

status_is_not : (o : Outcome) → (status o ≢ 1) × (status o ≢ 2) × (status o ≢ 3)
status_is_not outcome.Closed = (omega arith, omega arith, omega arith)
status_is_not outcome.NoMem = (omega arith, omega arith, omega arith)
status_is_not outcome.ReadFault = (omega arith, omega arith, omega arith)
status_is_not outcome.WriteFault = (omega arith, omega arith, omega arith)
status_is_not outcome.Protocol = (omega arith, omega arith, omega arith)
status_is_not outcome.Spent = (omega arith, omega arith, omega arith)

-- a status of a session that is not 2 is that of its outcome
session_status : (o : Outcome) (n before now : ℕ) → EndsWith o n before now → n ≢ 2 → n ≡ status o
session_status o n before now (inl is) other = is
session_status o n before now (inr closing) other = ⊎_elim (λ (two : unclosed_status o ≡ 2). absurd (other (closing.0 ∙ two))) (λ (same : unclosed_status o ≡ status o). closing.0 ∙ same) (unclosed_is o)

-- a status of an opening that failed
refused_status : (n : ℕ) (f : StoreFault) → n ≡ opening_status f → (n ≡ 2) ⊎ ((n ≡ 3) ⊎ (n ≡ 4))
refused_status n f is = rw is (opening_is f)

module _ (n : ℕ) (old new : Outside) where
  -- what holds of what comes of a store that was opened holds of the store
  opened_on : {P Q : StoreState → Type 0} → ((first : StoreState) → P first → Q first) → Opened old.disk old.files P → Opened old.disk old.files Q
  opened_on on o = record { start = o.start; begins = o.begins; faults = o.faults; since = o.since; holds = λ keys holds. on (store_from o.start keys o.faults) (o.holds keys holds) }

  pub good_run : IsRun n old new → n ≡ 0 → Opened old.disk old.files (IsGood new.disk new.files old.left old.readings old.held new.held)
  good_run (inl r) zero = let is = refused_status n r.fault r.status in absurd (omega (arith, zero, is))
  good_run (inr r) zero =
      let is : n ≡ status r.outcome = session_status r.outcome n old.files new.files r.ends (omega (arith, zero)) in
      opened_on (λ first (w : Went n new r.ran.served r.ran.answers old.readings first). record { last = w.last; until = w.until; answered = closed_output n first w.last old new r.outcome old.left is r.ran w.talked zero; kept = w.kept zero }) r.opened

  pub front_run : IsRun n old new → n ≡ 6 → Opened old.disk old.files (IsFront new.disk new.files old.left old.readings old.held new.held)
  front_run (inl r) six = let is = refused_status n r.fault r.status in absurd (omega (arith, six, is))
  front_run (inr r) six =
      let is : n ≡ status r.outcome = session_status r.outcome n old.files new.files r.ends (omega (arith, six)) in
      opened_on (λ first (w : Went n new r.ran.served r.ran.answers old.readings first). record { last = w.last; until = w.until; served = r.ran.served; answers = r.ran.answers; front = broken_output n first w.last old new r.outcome old.left is r.ran w.talked six; kept_or_more = w.kept_or_more }) r.opened

  pub protocol_run : IsRun n old new → n ≡ 7 → Opened old.disk old.files (IsFaultTold new.disk new.files old.left old.readings old.held new.held)
  protocol_run (inl r) seven = let is = refused_status n r.fault r.status in absurd (omega (arith, seven, is))
  protocol_run (inr r) seven =
      let is : n ≡ status r.outcome = session_status r.outcome n old.files new.files r.ends (omega (arith, seven)) in
      opened_on (λ first (w : Went n new r.ran.served r.ran.answers old.readings first). record { last = w.last; until = w.until; served = r.ran.served; answers = r.ran.answers; rejected = protocol_output n first w.last old new r.outcome old.left is r.ran w.talked seven; kept_or_more = w.kept_or_more }) r.opened

  told_damage : (f : StoreFault) → n ≡ opening_status f → FailsToOpen old.disk old.files new.files f → TellsFault f old.held new.held old.sink new.sink → n ≡ 3 → IsDamageTold old.disk old.held new.held old.sink new.sink
  told_damage fault.Failed is cause wrote three = absurd (omega (arith, is, three))
  told_damage (fault.Damaged file place) is cause wrote three = record {
    place = place;
    damaged = record { bytes = cause.bytes; told = cause.told; is = cause.is; named = refl };
    line = subst (λ name. IsWritten (damage_line name place) old.held new.held old.sink new.sink) cause.named wrote;
  }
  told_damage fault.NoMem is cause wrote three = absurd (omega (arith, is, three))

  pub damaged_run : IsRun n old new → n ≡ 3 → IsDamageTold old.disk old.held new.held old.sink new.sink
  damaged_run (inl r) three = told_damage r.fault r.status r.cause r.wrote three
  damaged_run (inr r) three = absurd ((status_is_not r.outcome).2 (sym (session_status r.outcome n old.files new.files r.ends (omega (arith, three))) ∙ three))

  opening_cause : (f : StoreFault) → n ≡ opening_status f → FailsToOpen old.disk old.files new.files f → n ≡ 2 → Rose old.files new.files
  opening_cause fault.Failed is cause two = cause
  opening_cause (fault.Damaged file place) is cause two = absurd (omega (arith, is, two))
  opening_cause fault.NoMem is cause two = absurd (omega (arith, is, two))

  closing_cause : (o : Outcome) → EndsWith o n old.files new.files → n ≡ 2 → Rose old.files new.files
  closing_cause o (inl is) two = absurd ((status_is_not o).1 (sym is ∙ two))
  closing_cause o (inr closing) two = closing.1

  pub files_run : IsRun n old new → n ≡ 2 → Rose old.files new.files
  files_run (inl r) two = opening_cause r.fault r.status r.cause two
  files_run (inr r) two = closing_cause r.outcome r.ends two

  input_cause : (o : Outcome) → n ≡ status o → IsCaused o old.source new.source old.sink new.sink → n ≡ 5 → Rose old.source new.source
  input_cause outcome.ReadFault is c five = c
  input_cause outcome.Closed is c five = absurd (omega (arith, is, five))
  input_cause outcome.NoMem is c five = absurd (omega (arith, is, five))
  input_cause outcome.WriteFault is c five = absurd (omega (arith, is, five))
  input_cause outcome.Protocol is c five = absurd (omega (arith, is, five))
  input_cause outcome.Spent is c five = absurd (omega (arith, is, five))

  pub input_run : IsRun n old new → n ≡ 5 → Rose old.source new.source
  input_run (inl r) five = let is = refused_status n r.fault r.status in absurd (omega (arith, five, is))
  input_run (inr r) five = input_cause r.outcome (session_status r.outcome n old.files new.files r.ends (omega (arith, five))) r.caused five

  output_cause : (o : Outcome) → n ≡ status o → IsCaused o old.source new.source old.sink new.sink → n ≡ 6 → Rose old.sink new.sink
  output_cause outcome.WriteFault is c six = c
  output_cause outcome.Closed is c six = absurd (omega (arith, is, six))
  output_cause outcome.NoMem is c six = absurd (omega (arith, is, six))
  output_cause outcome.ReadFault is c six = absurd (omega (arith, is, six))
  output_cause outcome.Protocol is c six = absurd (omega (arith, is, six))
  output_cause outcome.Spent is c six = absurd (omega (arith, is, six))

  pub output_run : IsRun n old new → n ≡ 6 → Rose old.sink new.sink
  output_run (inl r) six = let is = refused_status n r.fault r.status in absurd (omega (arith, six, is))
  output_run (inr r) six = output_cause r.outcome (session_status r.outcome n old.files new.files r.ends (omega (arith, six))) r.caused six

  opened_or_not : (f : StoreFault) → n ≡ opening_status f → FailsToOpen old.disk old.files new.files f → (Rose old.files new.files → ⊥) → (n ≡ 0) ⊎ ((n ≡ 3) ⊎ (n ≡ 4))
  opened_or_not fault.Failed is cause never = absurd (never cause)
  opened_or_not (fault.Damaged file place) is cause never = inr (inl is)
  opened_or_not fault.NoMem is cause never = inr (inr is)

  closed_or_not : (o : Outcome) → EndsWith o n old.files new.files → (Rose old.files new.files → ⊥) → n ≡ status o
  closed_or_not o (inl is) never = is
  closed_or_not o (inr closing) never = absurd (never closing.1)

  pub whole_run : IsRun n old new → IsWhole old.left → (Rose old.files new.files → ⊥) → (Rose old.source new.source → ⊥) → (Rose old.sink new.sink → ⊥) → (n ≡ 0) ⊎ ((n ≡ 3) ⊎ (n ≡ 4))
  whole_run (inl r) whole never read written = opened_or_not r.fault r.status r.cause never
  whole_run (inr r) whole never read written =
      ⊎_elim (λ (zero : n ≡ 0). inl zero) (λ (four : n ≡ 4). inr (inr four))
      (whole_is_answered r.outcome n old.left old new (closed_or_not r.outcome r.ends never) r.ran r.caused whole read written)

  not_one : IsRun n old new → n ≢ 1
  not_one (inl r) one = let is = refused_status n r.fault r.status in omega (arith, one, is)
  not_one (inr r) one = (status_is_not r.outcome).0 (sym (session_status r.outcome n old.files new.files r.ends (omega (arith, one))) ∙ one)

  pub never_one : IsRun n old new → n ≢ 1
  never_one r = not_one r

-- ---- the parts of a run

ends_since : (o : Outcome) (n first before now : ℕ) → first ≤ before → EndsWith o n before now → EndsWith o n first now
ends_since o n first before now later (inl is) = inl is
ends_since o n first before now later (inr closing) = inr (closing.0, rose_since first before now later closing.1)

-- what the log of a store comes to is what the store stands for
pub comes_to_store : (disk : Disk) (k : KeptState) (s : State) (faults : ℕ) → StandsFor k s → Keeps disk k → LeavesKeys disk (store_of s k faults)
comes_to_store disk k s faults stands keeps = record { each = λ c image. stands_comes_at k s stands c (keeps.each c image) }

-- A store was opened on this outside, a session was served from the disk and the count of the opening on, and the store was
-- closed on that which the session left.
pub served_run : (n : ℕ) (old : Outside) (opened : Disk) (f1 : ℕ) (ended : Outside) (new : Disk) (f3 : ℕ) (k k' : KeptState) (o : Outcome)
    → IsOpened old.disk opened k → old.files ≤ f1 → f1 ≤ ended.files → ended.files ≤ f3
    → ((before : List Cmds) → IsKept opened k before → IsSession before o k k' (record old { disk = opened; files = f1 }) ended) → IsCaused o old.source ended.source old.sink ended.sink
    → EndsWith o n ended.files f3 → (n ≡ 0 → (failed : List Cmds) → IsKept ended.disk k' failed → Keeps new k') → ((failed : List Cmds) → IsKept ended.disk k' failed → Keeps new k' ⊎ KeepsOrMore new k' failed)
    → IsRun n old (record ended { disk = new; files = f3 })
served_run n old opened f1 ended new f3 k k' o opening later more closing session caused ends closed unclosed =
    let went = session [] opening.keeps in
    inr (record {
      outcome = o;
      ran = record { taken = went.ran.taken; served = went.ran.served; answers = went.ran.answers; line = went.ran.line; took = went.ran.took; limit = went.ran.limit; ends = went.ran.ends; wrote = went.ran.wrote };
      caused = caused;
      ends = ends_since o n old.files ended.files f3 (omega (arith, later, more)) ends;
      opened = record { start = state_of k; begins = opening.start; faults = f1; since = later; holds = λ keys holds. leads_to went keys holds };
    })
  where
    one_of_these : (ds : Cmds) (went : IsSession [] o k k' (record old { disk = opened; files = f1 }) ended) → Contains [] ds ⊎ OneFailed went.ran.served went.ran.answers ds → OneFailed went.ran.served went.ran.answers ds
    one_of_these ds went (inl none) = absurd (omega (arith, none.1))
    one_of_these ds went (inr one) = one

    leads_to : (went : IsSession [] o k k' (record old { disk = opened; files = f1 }) ended) (keys : RedisMap) → HoldsKeys (state_of k) keys
        → Went n (record ended { disk = new; files = f3 }) went.ran.served went.ran.answers old.readings (store_from (state_of k) keys f1)
    leads_to went keys holds =
        let on = went.leads (record { keys = keys; floor = k.written; pins = [] }) (opened_stands old.disk opened k opening keys holds) in
        record {
          last = store_of on.state k' ended.files;
          until = closing;
          talked = on.talked;
          kept = λ zero. comes_to_store new k' on.state ended.files on.stands (closed zero went.keeps.failed went.keeps.keeps);
          kept_or_more = record {
            failed = went.keeps.failed;
            were = λ ds among. one_of_these ds went (went.keeps.were ds among);
            leaves = ⊎_elim
                (λ (all : Keeps new k'). inl (comes_to_store new k' on.state ended.files on.stands all))
                (λ (more : KeepsOrMore new k' went.keeps.failed). inr (keeps_keys_or_more new k' on.state went.keeps.failed on.stands more))
                (unclosed went.keeps.failed went.keeps.keeps);
          };
        }
