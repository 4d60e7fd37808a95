-- The loop over the clients of a server, client by client.
use Rattle.std.proofs.Common.{◌≤◌, ℕ, List, [], ◌∷◌, ◌++◌, Option, inl, inr, ⊎_elim, refl, subst, arith}
use Rattle.std.specs.Prelude.{Contains}
use Rattle.kv_base.specs.Map.{Bytes}
use Rattle.kv_doors.specs.Accepting.{OneCame}
use Rattle.redis_model.specs.declared.command.Cmds.{Cmds}
use Rattle.session.specs.declared.session.Outcome.{Outcome}
use Rattle.session.specs.Session.{IsCaused}
use Rattle.log_store.specs.Keeping.{KeptState, IsKept}
use Rattle.kv_server.specs.Dialog.{StoreState, OneFailed}
use Rattle.kv_server.specs.Outside.{Streams, outside}
use Rattle.kv_server.specs.Script.{Talked, IsSession, store_of}
use Rattle.kv_server.specs.Connections.{Connection, ServerOutside, AreAccepted, AreServed, OneFailedAmong}
use Rattle.kv_server.specs.Attending.{Attending}

-- ---- one client more

accepted_more : (links mid left : Option (List Bytes)) (cs : List Connection) (c : Connection) → AreAccepted links cs mid → OneCame mid left c.before.left → AreAccepted links (cs ++ c ∷ []) left
accepted_more links mid left [] c is came = (left, subst (λ l. OneCame l left c.before.left) is came, refl)
accepted_more links mid left (d ∷ cs) c (later, first, rest) came = (later, first, accepted_more later mid left cs c rest came)

served_more : (first mid last : StoreState) (ahead later left : Option (List ℕ)) (cs : List Connection) (c : Connection) → AreServed first cs mid ahead later → Talked mid last c.ran.served c.ran.answers later left
    → AreServed first (cs ++ c ∷ []) last ahead left
served_more first mid last ahead later left [] c is talked =
    (last, left, subst (λ s. Talked s last c.ran.served c.ran.answers ahead left) is.0 (subst (λ l. Talked mid last c.ran.served c.ran.answers l left) is.1 talked), (refl, refl))
served_more first mid last ahead later left (d ∷ cs) c (next, ahead', said, rest) talked = (next, ahead', said, served_more next mid last ahead' later left cs c rest talked)

failed_before : (cs : List Connection) (c : Connection) (ds : Cmds) → OneFailedAmong cs ds → OneFailedAmong (cs ++ c ∷ []) ds
failed_before [] c ds never = absurd never
failed_before (d ∷ cs) c ds (inl here) = inl here
failed_before (d ∷ cs) c ds (inr later) = inr (failed_before cs c ds later)

failed_last : (cs : List Connection) (c : Connection) (ds : Cmds) → OneFailed c.ran.served c.ran.answers ds → OneFailedAmong (cs ++ c ∷ []) ds
failed_last [] c ds one = inl one
failed_last (d ∷ cs) c ds one = inr (failed_last cs c ds one)

-- ---- the loop

-- no client yet
pub none_attended : (kept : KeptState) (o : ServerOutside) → IsKept o.disk kept [] → Attending kept kept o o o.links
none_attended kept o keeps = record {
  clients = [];
  accepted = refl;
  keeps = record { failed = []; were = λ ds none. absurd (omega (arith, none.1)); keeps = keeps };
  leads = λ s stands. record { state = s; stands = stands; served = (refl, refl) };
  later = omega arith;
}

-- the next one
pub one_more_attended : (kept mid kept' : KeptState) (old now new : ServerOutside) (links left : Option (List Bytes)) (before after : Streams) (o : Outcome)
    → Attending kept mid old now links → OneCame links left before.left
    → ((failed : List Cmds) → IsKept now.disk mid failed → IsSession failed o mid kept'
    (outside now.disk now.files now.readings before.left before.ended before.source before.held before.sink)
    (outside new.disk new.files new.readings after.left after.ended after.source after.held after.sink))
    → IsCaused o before.source after.source before.sink after.sink → now.files ≤ new.files → Attending kept kept' old new left
one_more_attended kept mid kept' old now new links left before after o so_far came session caused more =
    let went = session so_far.keeps.failed so_far.keeps.keeps in
    let client : Connection = record { before = before; after = after; outcome = o; ran = went.ran; caused = caused } in
    record {
      clients = so_far.clients ++ client ∷ [];
      accepted = accepted_more old.links links left so_far.clients client so_far.accepted came;
      keeps = record {
        failed = went.keeps.failed;
        were = λ ds among. ⊎_elim
            (λ (earlier : Contains so_far.keeps.failed ds). failed_before so_far.clients client ds (so_far.keeps.were ds earlier))
            (λ (one : OneFailed went.ran.served went.ran.answers ds). failed_last so_far.clients client ds one)
            (went.keeps.were ds among);
        keeps = went.keeps.keeps;
      };
      leads = λ s stands.
          let was = so_far.leads s stands in
          let on = went.leads was.state was.stands in
          record {
            state = on.state;
            stands = on.stands;
            served = served_more (store_of s kept old.files) (store_of was.state mid now.files) (store_of on.state kept' new.files) old.readings now.readings new.readings so_far.clients client was.served on.talked;
          };
      later = let was = so_far.later in omega (arith, was, more);
    }
