-- A session at the desk of a store that is kept by a log.
use Rattle.std.proofs.Common.{◌≡◌, ◌≤◌, [], ℕ, Bool, List, sym, ap, subst, arith}
use Rattle.kv_base.specs.Map.{Bytes}
use Rattle.kv_outside.specs.Disk.{Disk}
use Rattle.redis_model.specs.declared.command.Cmds.{Cmds}
use Rattle.redis_model.specs.Desk.{last_sequence}
use Rattle.redis_model.specs.Machine.{State}
use Rattle.redis_model.specs.Places.{state_at}
use Rattle.session.specs.declared.answer.Answer.{Answer}
use Rattle.session.specs.declared.session.Outcome.{Outcome}
use Rattle.session.specs.Session.{Session}
use Rattle.session.specs.Talk.{Talks}
use Rattle.log_store.specs.Keeping.{KeptState, IsKept, StandsFor}
use Rattle.kv_server.specs.Outside.{Outside}
use Rattle.kv_server.specs.Script.{IsSession, LeadsOn}
use Rattle.kv_server.specs.Standing.{DeskParts}
use Rattle.kv_server.proofs.Output.{Known, ran_at, went_at, later_at}
use Rattle.kv_server.proofs.Talk.{kept_on}
use Rattle.kv_server.proofs.ToldDesk.{told_at, sequence_at, alone, opened_as, begins_to_stand}

module _ {D : Type 0} (parts : D → DeskParts) where
  -- from a state that the store stood for
  leads_on : (d d' : D) (served : List (List Bytes)) (answers : List Answer) (s : State) → Talks (told_at parts) d d' served answers → (parts d).kept.sequence ≤ last_sequence → StandsFor (parts d).kept s
      → LeadsOn (parts d).kept (parts d').kept (parts d).faults (parts d').faults s served answers (parts d).readings (parts d').readings
  leads_on d d' served answers s talk limit stands =
      let k = (parts d).kept in
      let went = went_at (told_at parts) (sequence_at parts) (alone parts) d d' served answers (opened_as k s) [] (begins_to_stand k s limit stands) talk in
      record { state = state_at s went.seen; stands = went.stands.store; talked = went.talked }

-- what the desk leads on from is what the store and the outside were, and were left as
parts_are : (d : DeskParts) (k : KeptState) (disk : Disk) (faults : ℕ) (readings : Known) → d.kept ≡ k → d.disk ≡ disk → d.faults ≡ faults → d.readings ≡ readings
    → d ≡ record d { kept = k; disk = disk; faults = faults; readings = readings }
parts_are d k disk faults readings kept_is disk_is faults_is readings_is = λ i. record d { kept = kept_is i; disk = disk_is i; faults = faults_is i; readings = readings_is i }

module _ {D : Type 0} (parts : D → DeskParts) where
  pub served_by : (o : Outcome) (d d' : D) (k k' : KeptState) (old new : Outside)
      → (parts d).kept ≡ k → (parts d).disk ≡ old.disk → (parts d).faults ≡ old.files → (parts d).readings ≡ old.readings
      → (parts d').kept ≡ k' → (parts d').disk ≡ new.disk → (parts d').faults ≡ new.files → (parts d').readings ≡ new.readings
      → (parts d).sequence ≡ k.sequence → (parts d).sequence ≤ last_sequence
      → Session (told_at parts) o d d' old.left new.left old.held new.held old.ended new.ended
      → (before : List Cmds) → IsKept old.disk k before → IsSession before o k k' old new
  served_by o d d' k k' old new kept disk faults readings kept' disk' faults' readings' met limit session before keeps =
      let begins = parts_are (parts d) k old.disk old.files old.readings kept disk faults readings in
      let ends = parts_are (parts d') k' new.disk new.files new.readings kept' disk' faults' readings' in
      let r = ran_at (told_at parts) o d d' old new session in
      let on = kept_on (told_at parts) d d' before r.0.served r.0.answers (subst (λ (p : DeskParts). IsKept p.disk p.kept before) (sym begins) keeps) r.1 in
      record {
        ran = r.0;
        keeps = record {
          failed = on.failed;
          were = on.were;
          keeps = subst (λ (q : DeskParts). IsKept q.disk q.kept on.failed) ends on.kept;
        };
        leads = λ s stands.
            subst (λ (p : DeskParts). LeadsOn p.kept k' p.faults new.files s r.0.served r.0.answers p.readings new.readings) begins
            (subst (λ (q : DeskParts). LeadsOn (parts d).kept q.kept (parts d).faults q.faults s r.0.served r.0.answers (parts d).readings q.readings) ends
            (leads_on parts d d' r.0.served r.0.answers s r.1
            (let same : (parts d).kept.sequence ≡ k.sequence = ap (λ (x : KeptState). x.sequence) kept in omega (arith, same, met, limit))
            (subst (λ (p : DeskParts). StandsFor p.kept s) (sym begins) stands)));
      }

  pub count_later : (o : Outcome) (d d' : D) (l l' h i : Known) (b b' : Bool) (n n' : ℕ) → (parts d).faults ≡ n → (parts d').faults ≡ n' → Session (told_at parts) o d d' l l' h i b b' → n ≤ n'
  count_later o d d' l l' h i b b' n n' is is' session = let later = later_at (told_at parts) o d d' l l' h i b b' session in omega (arith, is, is', later)
