-- What a session says of an input that is told.
use Rattle.std.proofs.Common.{◌≡◌, ◌≤◌, ℕ, List, [], ◌∷◌, ◌++◌, length, Bool, true, false, Option, Some, None, refl, sym, ap, subst, ◌∙◌, arith, ◌⊎◌, ⊎_elim, inl, inr}
use Rattle.std.specs.Io.KnownBytes.{Appends}
use Rattle.kv_base.specs.Map.{Bytes}
use Rattle.kv_outside.specs.Readings.{next_reading, TakesAll}
use Rattle.kv_outside.specs.Causes.{Rose}
use Rattle.redis_model.specs.declared.history.Place.{Place}
use Rattle.redis_model.specs.DeskState.{DeskState}
use Rattle.redis_model.specs.Places.{Opening}
use Rattle.resp_wire.specs.Grammar.{Whole, requests}
use Rattle.session.specs.declared.answer.Answer.{Answer}
use Rattle.session.specs.declared.session.Outcome.{Outcome}
use Rattle.session.specs.declared.session.Outcome.TheVariants as outcome
use Rattle.session.specs.Input.{IsOff}
use Rattle.session.specs.InputLaws.{ends_input}
use Rattle.session.specs.Quits.{has_quit}
use Rattle.session.specs.QuitLaws.{has_quit-none}
use Rattle.session.specs.Session.{Session, IsCaused}
use Rattle.session.specs.Talk.{Talks, answers_text}
use Rattle.kv_server.specs.Dialog.{StoreState}
use Rattle.kv_server.specs.Outside.{Outside, client_of}
use Rattle.kv_server.specs.Script.{status, first_readings, AreTold, Ran, Talked, OutputOf, IsAnswered, IsRejected, HasFront, IsComplete, EndsBadly, IsWhole}
use Rattle.kv_server.proofs.Talk.{IsForOne, store_at, talk_is, talks_later}

abbrev pub Known : Type 0
Known = Option (List ℕ)

-- readings that were taken are those that were told
are_told : (a b : Known) (nows : List ℕ) → TakesAll a b nows → AreTold a nows
are_told None b nows p = tt
are_told (Some told) b [] p = refl
are_told (Some told) b (now ∷ nows) (None, p, q) = absurd p
are_told (Some told) b (now ∷ nows) (Some later, p, q) =
    let rest : nows ≡ first_readings (length nows) later = are_told (Some later) b nows q in
    ap (λ (x : ℕ). x ∷ nows) p.0 ∙ ap (λ (xs : List ℕ). next_reading told ∷ xs) (rest ∙ ap (first_readings (length nows)) p.1)

-- A session at a desk whose caller is alone, from a history that the desk stood for: it stands for what comes of it.
pub record WentOn {D : Type 0} (told : D → DeskState) (sequence : D → ℕ) (old new : D) (served : List (List Bytes)) (answers : List Answer) (opening : Opening) (before : List Place) : Type 0 where
  pub seen : List Place
  pub stands : (told new).stands opening seen
  pub talked : Talked (store_at told sequence old opening before) (store_at told sequence new opening seen) served answers (told old).readings (told new).readings

pub went_at : {D : Type 0} (told : D → DeskState) (sequence : D → ℕ) (alone : IsForOne told sequence) (old new : D) (served : List (List Bytes)) (answers : List Answer) (opening : Opening) (before : List Place)
    → (told old).stands opening before → Talks told old new served answers → WentOn told sequence old new served answers opening before
went_at told sequence alone old new served answers opening before stood talk =
    let said = talk_is told sequence alone old new opening before served answers stood talk in
    record { seen = said.seen; stands = said.stands; talked = record { nows = said.nows; readings = said.readings; dialog = said.dialog } }

-- what a session took, answered and wrote
pub ran_at : {D : Type 0} (told : D → DeskState) (o : Outcome) (d d' : D) (old new : Outside) → Session told o d d' old.left new.left old.held new.held old.ended new.ended
    → (r : Ran o (client_of old) (client_of new)) × Talks told d d' r.served r.answers
unfolding Session
ran_at told o d d' old new p = (record { taken = p.taken; served = p.served; answers = p.answers; line = p.line; took = p.took; limit = p.limit; ends = p.ends; wrote = p.wrote }, p.talk)

-- the count of faults does not fall
pub later_at : {D : Type 0} (told : D → DeskState) (o : Outcome) (old new : D) (l l' h i : Known) (b b' : Bool) → Session told o old new l l' h i b b' → (told old).faults ≤ (told new).faults
unfolding Session
later_at told o old new l l' h i b b' p = talks_later told old new p.served p.answers p.talk

-- ---- by the status

-- what was written, where no call to the sink failed
output_of : (s t : StoreState) (a b h i : Known) (served : List (List Bytes)) (answers : List Answer) (line : Bytes) → Talked s t served answers a b → Appends h i (answers_text answers ++ line) → OutputOf s t a h i served answers line
output_of s t a b h i served answers line talked wrote = record { nows = talked.nows; told = are_told a b talked.nows talked.readings; dialog = talked.dialog; wrote = wrote }

-- an input that goes off has no QUIT before
ends_badly : (input : Bytes) (served : List (List Bytes)) (line : Bytes) → IsOff input served line → EndsBadly input
ends_badly input served line off = (ap has_quit (sym off.all) ∙ has_quit-none served off.none, off.broken)

module _ (n : ℕ) (s t : StoreState) (old new : Outside) where
  -- the input was read to its end, or to a QUIT
  pub closed_output : (o : Outcome) (l : Known) → n ≡ status o → (p : Ran o (client_of (record old { left = l })) (client_of new)) → Talked s t p.served p.answers old.readings new.readings → n ≡ 0 → IsAnswered s t l old.readings old.held new.held
  closed_output outcome.Closed None is p talked zero = tt
  closed_output outcome.Closed (Some input) is p talked zero =
      let q = ends_input outcome.Closed input p.taken new.left p.served p.line old.ended new.ended p.took p.ends in
      let all = output_of s t old.readings new.readings old.held new.held p.served p.answers p.line talked p.wrote in
      (p.answers, subst (λ (rs : List (List Bytes)). OutputOf s t old.readings old.held new.held rs p.answers []) q.1 (subst (OutputOf s t old.readings old.held new.held p.served p.answers) q.0 all), q.2)
  closed_output outcome.NoMem l is p talked zero = absurd (omega (arith, is, zero))
  closed_output outcome.ReadFault l is p talked zero = absurd (omega (arith, is, zero))
  closed_output outcome.WriteFault l is p talked zero = absurd (omega (arith, is, zero))
  closed_output outcome.Protocol l is p talked zero = absurd (omega (arith, is, zero))
  closed_output outcome.Spent l is p talked zero = absurd (omega (arith, is, zero))

  -- the sink failed
  pub broken_output : (o : Outcome) (l : Known) → n ≡ status o → (p : Ran o (client_of (record old { left = l })) (client_of new)) → Talked s t p.served p.answers old.readings new.readings → n ≡ 6 → HasFront s t p.served p.answers l old.readings old.held new.held
  broken_output outcome.WriteFault None is p talked six = tt
  broken_output outcome.WriteFault (Some input) is p talked six = record {
    line = p.line;
    under_way = ends_input outcome.WriteFault input p.taken new.left p.served p.line old.ended new.ended p.took p.ends;
    nows = talked.nows;
    told = are_told old.readings new.readings talked.nows talked.readings;
    dialog = talked.dialog;
    wrote = p.wrote;
  }
  broken_output outcome.Closed l is p talked six = absurd (omega (arith, is, six))
  broken_output outcome.NoMem l is p talked six = absurd (omega (arith, is, six))
  broken_output outcome.ReadFault l is p talked six = absurd (omega (arith, is, six))
  broken_output outcome.Protocol l is p talked six = absurd (omega (arith, is, six))
  broken_output outcome.Spent l is p talked six = absurd (omega (arith, is, six))

  -- the input is off the grammar, or ends inside a request
  pub protocol_output : (o : Outcome) (l : Known) → n ≡ status o → (p : Ran o (client_of (record old { left = l })) (client_of new)) → Talked s t p.served p.answers old.readings new.readings → n ≡ 7 → IsRejected s t p.served p.answers l old.readings old.held new.held
  protocol_output outcome.Protocol None is p talked seven = tt
  protocol_output outcome.Protocol (Some input) is p talked seven =
      let off = ends_input outcome.Protocol input p.taken new.left p.served p.line old.ended new.ended p.took p.ends in
      let all = output_of s t old.readings new.readings old.held new.held p.served p.answers p.line talked p.wrote in
      (off.all, subst (OutputOf s t old.readings old.held new.held p.served p.answers) off.tells all, ends_badly input p.served p.line off)
  protocol_output outcome.Closed l is p talked seven = absurd (omega (arith, is, seven))
  protocol_output outcome.NoMem l is p talked seven = absurd (omega (arith, is, seven))
  protocol_output outcome.ReadFault l is p talked seven = absurd (omega (arith, is, seven))
  protocol_output outcome.WriteFault l is p talked seven = absurd (omega (arith, is, seven))
  protocol_output outcome.Spent l is p talked seven = absurd (omega (arith, is, seven))

-- an input that is complete does not end badly
complete_or_bad : (input : Bytes) → IsComplete input → EndsBadly input → ⊥
complete_or_bad input complete bad =
    ⊎_elim
    (λ (quit : has_quit (requests input).0 ≡ true). (let both : false ≡ true = sym bad.0 ∙ quit in absurd cc))
    (λ (whole : (requests input).1 ≡ Whole). bad.1 whole)
    complete

-- an input that is whole is answered, unless the source or the sink failed or memory ran out
pub whole_is_answered : (o : Outcome) (n : ℕ) (l : Known) (old new : Outside) → n ≡ status o → Ran o (client_of (record old { left = l })) (client_of new) → IsCaused o old.source new.source old.sink new.sink → IsWhole l → (Rose old.source new.source → ⊥) → (Rose old.sink new.sink → ⊥) → (n ≡ 0) ⊎ (n ≡ 4)
whole_is_answered outcome.Closed n l old new is p c whole read written = inl is
whole_is_answered outcome.NoMem n l old new is p c whole read written = inr is
whole_is_answered outcome.ReadFault n l old new is p c whole read written = absurd (read c)
whole_is_answered outcome.WriteFault n l old new is p c whole read written = absurd (written c)
whole_is_answered outcome.Protocol n None old new is p c whole read written = absurd whole
whole_is_answered outcome.Protocol n (Some input) old new is p c whole read written =
    let off = ends_input outcome.Protocol input p.taken new.left p.served p.line old.ended new.ended p.took p.ends in
    absurd (complete_or_bad input whole.0 (ends_badly input p.served p.line off))
whole_is_answered outcome.Spent n None old new is p c whole read written = absurd whole
whole_is_answered outcome.Spent n (Some input) old new is p c whole read written =
    let spent = ends_input outcome.Spent input p.taken new.left p.served p.line old.ended new.ended p.took p.ends in
    absurd (omega (arith, whole.1, spent.2))
