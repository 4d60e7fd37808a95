-- A run over a source.
use Rattle.std.proofs.Common.{◌≡◌, ◌≤◌, ◌+◌, ◌-◌, ◌^◌, inl, inr, ℕ, Bool, true, false, List, [], ◌∷◌, ◌++◌, length, Option, Result, Ok, Err, refl, sym, ap, subst, ◌∙◌, arith}
use Rattle.std.proofs.lemmas.List.{append-nil, length-append, nil_from_length}
use Rattle.std.specs.Io.KnownBytes.{Appends, Consumes, IsAtEnd}
use Rattle.kv_base.specs.Map.{Bytes}
use Rattle.kv_outside.specs.Causes.{Rose}
use Rattle.kv_outside.specs.CauseLaws.{rose_since}
use Rattle.kv_outside.specs.SentLaws.{nothing_sent, sent_then}
use Rattle.kv_outside.specs.TakenLaws.{taken_then, nothing_taken}
use Rattle.kv_outside.specs.Writing.{AppendsFront}
use Rattle.kv_outside.specs.WritingLaws.{front_after}
use Rattle.redis_model.specs.DeskState.{DeskState}
use Rattle.resp_wire.specs.declared.fault.WireFault.TheVariants.{Cut}
use Rattle.resp_wire.specs.Fault.{wire_fault, fault_line as wire_line}
use Rattle.resp_wire.specs.Grammar.{End, Whole, Open, Fault, requests, requests_within, open_end}
use Rattle.resp_wire.specs.Reading.{IsUnfinished}
use Rattle.resp_wire.specs.Holding.{HoldsRequests}
use Rattle.resp_wire.specs.HoldingLaws.{holds_then, holds_fed, holds_unfinished, holds_faulty}
use Rattle.session.specs.declared.serve.Stopped.{Stopped}
use Rattle.session.specs.declared.serve.Stopped.TheVariants as stopped
use Rattle.session.specs.declared.session.Outcome.{Outcome}
use Rattle.session.specs.declared.session.Outcome.TheVariants as outcome
use Rattle.session.specs.Talk.{answers_text}
use Rattle.session.specs.Serving.{Pulls, Passes, Answered, Broken, Serves, Serving, Breaking, TellsAs, StopsAs, FinishesAs, is_write_fault}
use Rattle.session.specs.Session.{Session, AreFirst, AreAll, IsQuit, IsThrough, IsProtocol, EndsAs, HasNoFault, IsCaused, Writing, IsBroken, end_line}
use Rattle.session.proofs.Waiting.{passed_all}
use Rattle.session.proofs.Quitting.{none_quits_then, last_quits_then, few_quit_then}
use Rattle.session.proofs.Serving.{serving_none, answered_then, broken_then}

abbrev Known : Type 0
Known = Option (List ℕ)

-- ---- what waits is passed on after the requests at hand

passes_flushed : (h i j : Known) (w x y said : Bytes) → y ≡ [] → Passes h i w x said → Appends i j x → Passes h j w y said
passes_flushed h i j w x y said none p q = record {
  passed = p.passed ++ x;
  grew = sent_then h i j p.passed x p.grew q;
  parts = p.parts ∙ sym (append-nil (p.passed ++ x)) ∙ ap (λ (v : Bytes). p.passed ++ x ++ v) (sym none);
}

front_flushed : (h i j : Known) (w x said : Bytes) → Passes h i w x said → AppendsFront i j x → AppendsFront h j (w ++ said)
front_flushed h i j w x said p q = subst (AppendsFront h j) (sym p.parts) (front_after h i j p.passed x p.grew q)

all_sent : (h i : Known) (said : Bytes) → Passes h i [] [] said → Appends h i said
all_sent h i said p = passed_all h i i [] [] said refl p (nothing_sent i)

nothing_unfinished : IsUnfinished []
unfolding requests requests_within
nothing_unfinished = refl

-- the requests served so far, and those served now, where a piece was read between them
together : (taken piece rest fed behind : Bytes) (served more : List (List Bytes)) → HoldsRequests taken served rest → fed ≡ rest ++ piece → HoldsRequests fed more behind → HoldsRequests (taken ++ piece) (served ++ more) behind
together taken piece rest fed behind served more p e q =
    holds_then (taken ++ piece) served (rest ++ piece) more behind (holds_fed taken served rest piece p) (subst (λ (x : Bytes). HoldsRequests x more behind) e q)

first_of : (a b : Bytes) (served : List (List Bytes)) → HoldsRequests a served b → AreFirst served (requests a).0
first_of a b served p = ((requests (b ++ [])).0, ap (λ (x : List (List Bytes) × End). x.0) (ap requests (sym (append-nil a)) ∙ p []))

rest_end : (rest : Bytes) → IsUnfinished rest → (requests rest).1 ≡ open_end rest
rest_end rest p = ap (λ (x : List (List Bytes) × End). x.1) p

module _ {D : Type 0} (told : D → DeskState) where
  answered_flushed : (d e : D) (h i j : Known) (w x y : Bytes) (served : List (List Bytes)) → y ≡ [] → Answered told d e h i w x served → Appends i j x → Answered told d e h j w y served
  answered_flushed d e h i j w x y served none p q = record { answers = p.answers; talk = p.talk; wrote = passes_flushed h i j w x y _ none p.wrote q }

  answered_stuck : (d e : D) (h i j : Known) (w x : Bytes) (served : List (List Bytes)) → Answered told d e h i w x served → AppendsFront i j x → Broken told d e h j w served
  answered_stuck d e h i j w x served p q = record { answers = p.answers; talk = p.talk; wrote = front_flushed h i j w x _ p.wrote q }

  -- what waited is passed on: with success
  serving_flushed : (d e : D) (h i j : Known) (w x bytes rest : Bytes) → Serving told d e h i w x bytes rest → Appends i j x → Serving told d e h j w [] bytes rest
  serving_flushed d e h i j w x bytes rest p q = record { served = p.served; holds = p.holds; answered = answered_flushed d e h i j w x [] p.served refl p.answered q; none = p.none }

  -- and without it
  serving_stuck : (d e : D) (h i j : Known) (w x bytes rest : Bytes) → Serving told d e h i w x bytes rest → AppendsFront i j x → Breaking told d e h j w bytes rest
  serving_stuck d e h i j w x bytes rest p q = record { served = p.served; holds = p.holds; broken = answered_stuck d e h i j w x p.served p.answered q; quits = inl p.none }

  -- the sink failed already
  pub attend_broken : (d e : D) (h i : Known) (w x : Bytes) (f g : ℕ) (bytes rest : Bytes) (r : Result (Unit {0}) Stopped) → is_write_fault r ≡ true → Serves told d e h i w x f g bytes rest r → Serves told d e h i w [] f g bytes rest r
  unfolding Serves
  attend_broken d e h i w x f g bytes rest (Ok u) is p = absurd cc
  attend_broken d e h i w x f g bytes rest (Err stopped.NoMem) is p = absurd cc
  attend_broken d e h i w x f g bytes rest (Err stopped.WriteFault) is p = p
  attend_broken d e h i w x f g bytes rest (Err (stopped.Wire kind left)) is p = absurd cc
  attend_broken d e h i w x f g bytes rest (Err stopped.Quit) is p = absurd cc

  pub attend_flushed : (d e : D) (h i j : Known) (w x : Bytes) (f g k : ℕ) (bytes rest : Bytes) (r : Result (Unit {0}) Stopped) → is_write_fault r ≡ false → Serves told d e h i w x f g bytes rest r → Appends i j x → Serves told d e h j w [] f k bytes rest r
  unfolding Serves
  attend_flushed d e h i j w x f g k bytes rest (Ok u) is p q = (serving_flushed d e h i j w x bytes rest p.0 q, p.1)
  attend_flushed d e h i j w x f g k bytes rest (Err stopped.NoMem) is p q = (p.0, serving_flushed d e h i j w x bytes p.0 p.1 q)
  attend_flushed d e h i j w x f g k bytes rest (Err stopped.WriteFault) is p q = absurd cc
  attend_flushed d e h i j w x f g k bytes rest (Err (stopped.Wire kind left)) is p q = (p.0, serving_flushed d e h i j w x bytes p.0 p.1 q, p.2)
  attend_flushed d e h i j w x f g k bytes rest (Err stopped.Quit) is p q =
      (p.0, record { served = p.1.served; holds = p.1.holds; answered = answered_flushed d e h i j w x [] p.1.served refl p.1.answered q; quits = p.1.quits })

  pub attend_stuck : (d e : D) (h i j : Known) (w x : Bytes) (f g k : ℕ) (bytes rest : Bytes) (r : Result (Unit {0}) Stopped) → is_write_fault r ≡ false → Serves told d e h i w x f g bytes rest r → AppendsFront i j x → f ≤ g → Rose g k → Serves told d e h j w [] f k bytes rest (Err stopped.WriteFault)
  unfolding Serves
  attend_stuck d e h i j w x f g k bytes rest (Ok u) is p q le rose = (rest, serving_stuck d e h i j w x bytes rest p.0 q, rose_since f g k le rose)
  attend_stuck d e h i j w x f g k bytes rest (Err stopped.NoMem) is p q le rose = (p.0, serving_stuck d e h i j w x bytes p.0 p.1 q, rose_since f g k le rose)
  attend_stuck d e h i j w x f g k bytes rest (Err stopped.WriteFault) is p q le rose = absurd cc
  attend_stuck d e h i j w x f g k bytes rest (Err (stopped.Wire kind left)) is p q le rose = (p.0, serving_stuck d e h i j w x bytes p.0 p.1 q, rose_since f g k le rose)
  attend_stuck d e h i j w x f g k bytes rest (Err stopped.Quit) is p q le rose =
      (p.0, record { served = p.1.served; holds = p.1.holds; broken = answered_stuck d e h i j w x p.1.served p.1.answered q; quits = inr p.1.quits }, rose_since f g k le rose)

-- What was taken so far was answered, up to less than a request, and nothing waits.
pub record InRun {D : Type 0} (told : D → DeskState) (d e : D) (l l' h i : Known) (waits rest : Bytes) (total : ℕ) : Type 0 where
  pub taken : Bytes
  pub count : length taken ≡ total
  pub within : total ≤ 2 ^ 40
  pub took : Consumes l l' taken
  pub serving : Serving told d e h i [] [] taken rest
  pub none : waits ≡ []
  pub unfinished : IsUnfinished rest

-- the line of a fault was written behind the answers, or a front of it
said_on : (o : Outcome) (h i j : Known) (f g : ℕ) (said line : Bytes) → Appends h i said → TellsAs i j f g line o → Writing o h j (said ++ line)
said_on outcome.Closed h i j f g said line p q = absurd q
said_on outcome.NoMem h i j f g said line p q = absurd q
said_on outcome.ReadFault h i j f g said line p q = absurd q
said_on outcome.WriteFault h i j f g said line p q = front_after h i j said line p q.0
said_on outcome.Protocol h i j f g said line p q = sent_then h i j said line p q
said_on outcome.Spent h i j f g said line p q = absurd q

-- a session ends so where a line tells of what it was stopped by
told_ends : (o : Outcome) (taken : Bytes) (served : List (List Bytes)) (line : Bytes) (i j l : Known) (f g : ℕ) (b b' : Bool) → TellsAs i j f g line o → IsProtocol taken served line l b' → EndsAs o taken served line l b b'
told_ends outcome.Closed taken served line i j l f g b b' q p = absurd q
told_ends outcome.NoMem taken served line i j l f g b b' q p = absurd q
told_ends outcome.ReadFault taken served line i j l f g b b' q p = absurd q
told_ends outcome.WriteFault taken served line i j l f g b b' q p = inr p
told_ends outcome.Protocol taken served line i j l f g b b' q p = p
told_ends outcome.Spent taken served line i j l f g b b' q p = absurd q

-- and it has its cause
pub told_caused : (o : Outcome) (i j : Known) (first f g source source' : ℕ) (line : Bytes) → TellsAs i j f g line o → first ≤ f → IsCaused o source source' first g
told_caused outcome.Closed i j first f g source source' line q le = absurd q
told_caused outcome.NoMem i j first f g source source' line q le = absurd q
told_caused outcome.ReadFault i j first f g source source' line q le = absurd q
told_caused outcome.WriteFault i j first f g source source' line q le = rose_since first f g le q.1
told_caused outcome.Protocol i j first f g source source' line q le = tt
told_caused outcome.Spent i j first f g source source' line q le = absurd q

-- so has an end of the input
pub finish_caused : (i j : Known) (first f f' total source source' : ℕ) (x : End) (o : Outcome) → FinishesAs i j f f' total x o → first ≤ f → IsCaused o source source' first f'
finish_caused i j first f f' total source source' Whole o s le = subst (λ (v : Outcome). IsCaused v source source' first f') (sym s.0) tt
finish_caused i j first f f' total source source' (Open left) o s le = told_caused o i j first f f' source source' _ s le
finish_caused i j first f f' total source source' (Fault kind left) o s le = absurd s

-- nothing is written behind the answers
no_line : (h i : Known) (said : Bytes) → Appends h i said → Appends h i (said ++ [])
no_line h i said p = subst (Appends h i) (sym (append-nil said)) p

no_line_front : (h i : Known) (said : Bytes) → AppendsFront h i said → AppendsFront h i (said ++ [])
no_line_front h i said p = subst (AppendsFront h i) (sym (append-nil said)) p

-- less than a request is no fault
no_fault : (rest : Bytes) → HasNoFault (open_end rest)
no_fault [] = tt
no_fault (c ∷ rest) = tt

module _ {D : Type 0} (told : D → DeskState) where
  pub run_begins : (d : D) (l h : Known) (waits rest : Bytes) → waits ≡ [] → rest ≡ [] → InRun told d d l l h h waits rest 0
  run_begins d l h waits rest none e =
      rw e (record { taken = []; count = refl; within = omega arith; took = nothing_taken l; serving = serving_none told d h [] []; none = none; unfinished = nothing_unfinished })

  -- the requests of a piece were answered behind those before it
  serving_on : (d e f : D) (h i j : Known) (w taken piece rest fed behind : Bytes) → Serving told d e h i [] [] taken rest → w ≡ [] → fed ≡ rest ++ piece → Serving told e f i j w [] fed behind → Serving told d f h j [] [] (taken ++ piece) behind
  serving_on d e f h i j w taken piece rest fed behind p none is q =
      let answered : Answered told e f i j [] [] q.served = subst (λ (x : Bytes). Answered told e f i j x [] q.served) none q.answered in
      record {
        served = p.served ++ q.served;
        holds = together taken piece rest fed behind p.served q.served p.holds is q.holds;
        answered = answered_then told d e f h i j [] [] [] p.served q.served p.answered answered;
        none = none_quits_then p.served q.served p.none q.none;
      }

  run_goes_on : (d e f : D) (l l1 l2 h i j : Known) (w w' rest fed rest' piece : Bytes) (n k g g' : ℕ) (u : Unit {0}) → InRun told d e l l1 h i w rest n → Consumes l1 l2 piece → length piece ≡ k → fed ≡ rest ++ piece
      → Serves told e f i j w [] g g' fed rest' (Ok u) → w' ≡ [] → n + k ≤ 2 ^ 40 → InRun told d f l l2 h j w' rest' (n + k)
  unfolding Serves
  run_goes_on d e f l l1 l2 h i j w w' rest fed rest' piece n k g g' u p took len is q none few = record {
    taken = p.taken ++ piece;
    count = length-append p.taken piece ∙ omega (arith, p.count);
    within = few;
    took = taken_then l l1 l2 p.taken piece p.took took;
    serving = serving_on d e f h i j w p.taken piece rest fed rest' p.serving p.none is q.0;
    none = none;
    unfinished = q.1;
  }

  -- ---- how it ends

  -- nothing more was read
  module _ (d e : D) (l l1 l2 h i : Known) (w rest piece : Bytes) (n : ℕ) (p : InRun told d e l l1 h i w rest n) (took : Consumes l1 l2 piece) (empty : length piece ≡ 0) where
    same : piece ≡ []
    same = nil_from_length piece empty

    took_all : Consumes l l2 p.taken
    took_all = subst (Consumes l l2) (ap (λ (x : Bytes). p.taken ++ x) same ∙ append-nil p.taken) (taken_then l l1 l2 p.taken piece p.took took)

    rest_is : (fed : Bytes) → fed ≡ rest ++ piece → fed ≡ rest
    rest_is fed is = is ∙ ap (λ (x : Bytes). rest ++ x) same ∙ append-nil rest

    at_end : requests p.taken ≡ (p.serving.served, open_end rest)
    at_end = holds_unfinished p.taken p.serving.served rest p.unfinished p.serving.holds

    end_is : (requests p.taken).1 ≡ open_end rest
    end_is = ap (λ (x : List (List Bytes) × End). x.1) at_end

    are_all : AreAll p.taken p.serving.served
    are_all = record { all = ap (λ (x : List (List Bytes) × End). x.0) at_end; none = p.serving.none }

    said : Bytes
    said = answers_text p.serving.answered.answers

    all_said : Appends h i (answers_text p.serving.answered.answers)
    all_said = all_sent h i (answers_text p.serving.answered.answers) p.serving.answered.wrote

    parts : (o : Outcome) (line : Bytes) (j : Known) (b b' : Bool) → EndsAs o p.taken p.serving.served line l2 b b' → Writing o h j (answers_text p.serving.answered.answers ++ line) → Session told o d e l l2 h j b b'
    unfolding Session
    parts o line j b b' ends wrote = record { taken = p.taken; limit = omega (arith, p.count, p.within); served = p.serving.served; answers = p.serving.answered.answers; line = line; took = took_all; ends = ends; talk = p.serving.answered.talk; wrote = wrote }

    run_ends : (o : Outcome) (fed : Bytes) (j : Known) (f g : ℕ) (b b' : Bool) → fed ≡ rest ++ piece → FinishesAs i j f g n (requests fed).1 o → b' ≡ true → IsAtEnd l2 → Session told o d e l l2 h j b b'
    run_ends o fed j f g b b' is ends ended left = by_end (requests p.taken).1 refl (subst (λ (x : End). FinishesAs i j f g n x o) (ap (λ (x : Bytes). (requests x).1) (rest_is fed is) ∙ rest_end rest p.unfinished ∙ sym end_is) ends)
      where
        by_end : (x : End) → (requests p.taken).1 ≡ x → FinishesAs i j f g n x o → Session told o d e l l2 h j b b'
        by_end Whole at q =
            let through : IsThrough p.taken p.serving.served l2 b' = record { are = are_all; whole = at; told = ended; none_left = left } in
            subst (λ (k : Known). Session told o d e l l2 h k b b') (sym q.1)
            (subst (λ (x : Outcome). Session told x d e l l2 h i b b') (sym q.0) (parts outcome.Closed [] i b b' (refl, inr through) (no_line h i _ all_said)))
        by_end (Open unread) at q =
            let line : Bytes = wire_line Cut (n - unread) in
            let tells : line ≡ end_line (length p.taken) (requests p.taken).1 = ap (λ (m : ℕ). wire_line Cut (m - unread)) (sym p.count) ∙ ap (end_line (length p.taken)) (sym at) in
            let broken : IsBroken (requests p.taken).1 b' l2 = subst (λ (x : End). IsBroken x b' l2) (sym at) (ended, left) in
            parts o line j b b' (told_ends o p.taken p.serving.served line i j l2 f g b b' q (record { are = are_all; broken = broken; tells = tells })) (said_on o h i j f g _ line all_said q)
        by_end (Fault kind unread) at q = absurd q

    pub run_unread : (b b' : Bool) → Session told outcome.ReadFault d e l l2 h i b b'
    run_unread b b' = parts outcome.ReadFault [] i b b' (refl, are_all, subst HasNoFault (sym end_is) (no_fault rest)) (no_line h i _ all_said)

    pub run_spent : (b b' : Bool) → n ≡ 2 ^ 40 → b' ≡ b → Session told outcome.Spent d e l l2 h i b b'
    run_spent b b' full ended = parts outcome.Spent [] i b b' (refl, are_all, p.count ∙ full, subst HasNoFault (sym end_is) (no_fault rest), ended) (no_line h i _ all_said)

  -- memory ran out for what was read
  run_unfed : (d e : D) (l l1 l2 h i : Known) (w rest piece : Bytes) (n : ℕ) (b b' : Bool) → InRun told d e l l1 h i w rest n → Consumes l1 l2 piece → n + length piece ≤ 2 ^ 40 → Session told outcome.NoMem d e l l2 h i b b'
  unfolding Session
  run_unfed d e l l1 l2 h i w rest piece n b b' p took few = record {
    taken = p.taken ++ piece;
    limit = omega (arith, length-append p.taken piece, p.count, few);
    served = p.serving.served;
    answers = p.serving.answered.answers;
    line = [];
    took = taken_then l l1 l2 p.taken piece p.took took;
    ends = (refl, first_of (p.taken ++ piece) (rest ++ piece) p.serving.served (holds_fed p.taken p.serving.served rest piece p.serving.holds), p.serving.none);
    talk = p.serving.answered.talk;
    wrote = no_line h i _ (all_sent h i _ p.serving.answered.wrote);
  }

  -- an answer or the reader stopped
  run_stops : (d e f : D) (l l1 l2 h i j m : Known) (w rest fed rest' piece : Bytes) (n k g g' g2 : ℕ) (b b' : Bool) (x : Stopped) (o : Outcome) → InRun told d e l l1 h i w rest n → n + k ≤ 2 ^ 40 → Consumes l1 l2 piece → length piece ≡ k → fed ≡ rest ++ piece
      → Serves told e f i j w [] g g' fed rest' (Err x) → StopsAs j m g' g2 (n + k) x o → Session told o d f l l2 h m b b'
  unfolding Serves Session
  run_stops d e f l l1 l2 h i j m w rest fed rest' piece n k g g' g2 b b' stopped.NoMem o p few took len is q s =
      let all = serving_on d e f h i j w p.taken piece rest fed q.0 p.serving p.none is q.1 in
      subst (λ (v : Known). Session told o d f l l2 h v b b') (sym s.1) (subst (λ (v : Outcome). Session told v d f l l2 h j b b') (sym s.0) (record {
        taken = p.taken ++ piece;
        limit = omega (arith, length-append p.taken piece, p.count, len, few);
        served = all.served;
        answers = all.answered.answers;
        line = [];
        took = taken_then l l1 l2 p.taken piece p.took took;
        ends = (refl, first_of (p.taken ++ piece) q.0 all.served all.holds, all.none);
        talk = all.answered.talk;
        wrote = no_line h j _ (all_sent h j _ all.answered.wrote);
      }))
  run_stops d e f l l1 l2 h i j m w rest fed rest' piece n k g g' g2 b b' stopped.WriteFault o p few took len is q s =
      let holds = together p.taken piece rest fed q.0 p.serving.served q.1.served p.serving.holds is q.1.holds in
      let broke = broken_then told d e f h i j [] [] p.serving.served q.1.served p.serving.answered (subst (λ (v : Bytes). Broken told e f i j v q.1.served) p.none q.1.broken) in
      subst (λ (v : Known). Session told o d f l l2 h v b b') (sym s.1) (subst (λ (v : Outcome). Session told v d f l l2 h j b b') (sym s.0) (record {
        taken = p.taken ++ piece;
        limit = omega (arith, length-append p.taken piece, p.count, len, few);
        served = p.serving.served ++ q.1.served;
        answers = broke.answers;
        line = [];
        took = taken_then l l1 l2 p.taken piece p.took took;
        ends = inl (refl, record { first = first_of (p.taken ++ piece) q.0 (p.serving.served ++ q.1.served) holds; quits = few_quit_then p.serving.served q.1.served p.serving.none q.1.quits });
        talk = broke.talk;
        wrote = no_line_front h j _ broke.wrote;
      }))
  run_stops d e f l l1 l2 h i j m w rest fed rest' piece n k g g' g2 b b' (stopped.Wire kind left) o p few took len is q s =
      let all = serving_on d e f h i j w p.taken piece rest fed q.0 p.serving p.none is q.1 in
      let at_end = holds_faulty (p.taken ++ piece) all.served q.0 kind left q.2 all.holds in
      let line : Bytes = wire_line (wire_fault kind) (n + k - left) in
      let at : Fault kind left ≡ (requests (p.taken ++ piece)).1 = ap (λ (v : List (List Bytes) × End). v.1) (sym at_end) in
      let all_of : n + k ≡ length (p.taken ++ piece) = omega (arith, length-append p.taken piece, p.count, len) in
      let tells : line ≡ end_line (length (p.taken ++ piece)) (requests (p.taken ++ piece)).1 = ap (λ (v : ℕ). wire_line (wire_fault kind) (v - left)) all_of ∙ ap (end_line (length (p.taken ++ piece))) at in
      let broken : IsBroken (requests (p.taken ++ piece)).1 b' l2 = subst (λ (v : End). IsBroken v b' l2) at tt in
      record {
        taken = p.taken ++ piece;
        limit = omega (arith, length-append p.taken piece, p.count, len, few);
        served = all.served;
        answers = all.answered.answers;
        line = line;
        took = taken_then l l1 l2 p.taken piece p.took took;
        ends = told_ends o (p.taken ++ piece) all.served line j m l2 g' g2 b b' s (record { are = record { all = ap (λ (v : List (List Bytes) × End). v.0) at_end; none = all.none }; broken = broken; tells = tells });
        talk = all.answered.talk;
        wrote = said_on o h j m g' g2 _ line (all_sent h j _ all.answered.wrote) s;
      }
  run_stops d e f l l1 l2 h i j m w rest fed rest' piece n k g g' g2 b b' stopped.Quit o p few took len is q s =
      let holds = together p.taken piece rest fed q.0 p.serving.served q.1.served p.serving.holds is q.1.holds in
      let said = answered_then told d e f h i j [] [] [] p.serving.served q.1.served p.serving.answered (subst (λ (v : Bytes). Answered told e f i j v [] q.1.served) p.none q.1.answered) in
      let quit : IsQuit (p.taken ++ piece) (p.serving.served ++ q.1.served) = record { first = first_of (p.taken ++ piece) q.0 (p.serving.served ++ q.1.served) holds; quits = last_quits_then p.serving.served q.1.served p.serving.none q.1.quits } in
      subst (λ (v : Known). Session told o d f l l2 h v b b') (sym s.1) (subst (λ (v : Outcome). Session told v d f l l2 h j b b') (sym s.0) (record {
        taken = p.taken ++ piece;
        limit = omega (arith, length-append p.taken piece, p.count, len, few);
        served = p.serving.served ++ q.1.served;
        answers = said.answers;
        line = [];
        took = taken_then l l1 l2 p.taken piece p.took took;
        ends = (refl, inl quit);
        talk = said.talk;
        wrote = no_line h j _ (all_sent h j _ said.wrote);
      }))

  -- ---- by what a read gave

  pub run_closes : (d e : D) (l l1 l2 h i j : Known) (w rest fed : Bytes) (total n room g g' f f' : ℕ) (b b1 b2 : Bool) (o : Outcome) → InRun told d e l l1 h i w rest total → Pulls l1 l2 b1 b2 g g' rest fed room (Ok n) → n ≡ 0 → FinishesAs i j f f' total (requests fed).1 o
      → Session told o d e l l2 h j b b2
  unfolding Pulls
  run_closes d e l l1 l2 h i j w rest fed total n room g g' f f' b b1 b2 o p q none ends =
      let at_end = q.5 none in
      run_ends d e l l1 l2 h i w rest q.0 total p q.4 (q.1 ∙ none) o fed j f f' b b2 q.3 ends at_end.0 at_end.1

  pub pull_stops : (d e : D) (l l1 l2 h i : Known) (w rest fed : Bytes) (total room g g' : ℕ) (b b1 b2 : Bool) (o : Outcome) → InRun told d e l l1 h i w rest total → Pulls l1 l2 b1 b2 g g' rest fed room (Err o) → total + room ≤ 2 ^ 40 → Session told o d e l l2 h i b b2
  unfolding Pulls
  pull_stops d e l l1 l2 h i w rest fed total room g g' b b1 b2 outcome.Closed p q few = absurd q
  pull_stops d e l l1 l2 h i w rest fed total room g g' b b1 b2 outcome.NoMem p q few = run_unfed d e l l1 l2 h i w rest q.0 total b b2 p q.2 (omega (arith, few, q.1))
  pull_stops d e l l1 l2 h i w rest fed total room g g' b b1 b2 outcome.ReadFault p q few = run_unread d e l l1 l2 h i w rest [] total p q.0 refl b b2
  pull_stops d e l l1 l2 h i w rest fed total room g g' b b1 b2 outcome.WriteFault p q few = absurd q
  pull_stops d e l l1 l2 h i w rest fed total room g g' b b1 b2 outcome.Protocol p q few = absurd q
  pull_stops d e l l1 l2 h i w rest fed total room g g' b b1 b2 outcome.Spent p q few = absurd q

  -- what stopped a session has its cause
  pub stop_caused : (d e : D) (i j m : Known) (w fed rest : Bytes) (first g g' g2 total source source' : ℕ) (x : Stopped) (o : Outcome) → Serves told d e i j w [] g g' fed rest (Err x) → StopsAs j m g' g2 total x o → first ≤ g → g ≤ g' → IsCaused o source source' first g2
  unfolding Serves
  stop_caused d e i j m w fed rest first g g' g2 total source source' stopped.NoMem o q s le later = subst (λ (v : Outcome). IsCaused v source source' first g2) (sym s.0) tt
  stop_caused d e i j m w fed rest first g g' g2 total source source' stopped.WriteFault o q s le later =
      let rose : Rose g g' = q.2 in
      subst (λ (v : Outcome). IsCaused v source source' first g2) (sym s.0) (subst (λ (v : ℕ). Rose first v) (sym s.2) (rose_since first g g' le rose))
  stop_caused d e i j m w fed rest first g g' g2 total source source' (stopped.Wire kind left) o q s le later = told_caused o j m first g' g2 source source' _ s (omega arith)
  stop_caused d e i j m w fed rest first g g' g2 total source source' stopped.Quit o q s le later = subst (λ (v : Outcome). IsCaused v source source' first g2) (sym s.0) tt

  pub run_stops_at : (d e f : D) (l l1 l2 h i j m : Known) (w rest fed rest' : Bytes) (total n room k k' g g' g2 : ℕ) (b b1 b2 : Bool) (x : Stopped) (o : Outcome) → InRun told d e l l1 h i w rest total → Pulls l1 l2 b1 b2 k k' rest fed room (Ok n)
      → Serves told e f i j w [] g g' fed rest' (Err x) → StopsAs j m g' g2 (total + n) x o → total + room ≤ 2 ^ 40 → Session told o d f l l2 h m b b2
  unfolding Pulls
  run_stops_at d e f l l1 l2 h i j m w rest fed rest' total n room k k' g g' g2 b b1 b2 x o p q r s few =
      run_stops d e f l l1 l2 h i j m w rest fed rest' q.0 total n g g' g2 b b2 x o p (omega (arith, few, q.2)) q.4 q.1 q.3 r s

  pub run_on : (d e f : D) (l l1 l2 h i j : Known) (w w' rest fed rest' : Bytes) (total n room k k' g g' : ℕ) (b1 b2 : Bool) (u : Unit {0}) → InRun told d e l l1 h i w rest total → Pulls l1 l2 b1 b2 k k' rest fed room (Ok n)
      → Serves told e f i j w [] g g' fed rest' (Ok u) → w' ≡ [] → total + room ≤ 2 ^ 40 → InRun told d f l l2 h j w' rest' (total + n)
  unfolding Pulls
  run_on d e f l l1 l2 h i j w w' rest fed rest' total n room k k' g g' b1 b2 u p q r none few =
      run_goes_on d e f l l1 l2 h i j w w' rest fed rest' q.0 total n g g' u p q.4 q.1 q.3 r none (omega (arith, few, q.2))
