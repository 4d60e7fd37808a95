-- What a loop over requests keeps, and how it ends.
use Rattle.std.proofs.Common.{◌≡◌, ◌≤◌, ◌<◌, ℕ, true, false, ◌∙◌, List, [], ◌∷◌, ◌++◌, length, Option, Ok, Err, refl, sym, subst}
use Rattle.std.proofs.lemmas.List.{append-nil}
use Rattle.kv_base.specs.Map.{Bytes}
use Rattle.kv_outside.specs.Causes.{Rose}
use Rattle.kv_outside.specs.CauseLaws.{rose_since}
use Rattle.kv_outside.specs.Writing.{AppendsFront}
use Rattle.redis_model.specs.DeskState.{DeskState}
use Rattle.resp_wire.specs.Reading.{ReadsRequest, IsUnfinished}
use Rattle.resp_wire.specs.Holding.{HoldsRequests}
use Rattle.resp_wire.specs.HoldingLaws.{holds_here, holds_one, holds_skip, holds_then}
use Rattle.session.specs.declared.answer.Answer.{Answer}
use Rattle.session.specs.declared.serve.Stopped.{Stopped}
use Rattle.session.specs.declared.serve.Stopped.TheVariants as stopped
use Rattle.session.specs.Answer.{say, quits}
use Rattle.session.specs.Talk.{Turn}
use Rattle.session.specs.Serving.{Passes, Answered, Broken, Answers, Serves, NextAs, Serving}
use Rattle.session.proofs.Waiting.{passes_here, passes_then, passes_front}
use Rattle.session.proofs.Quitting.{none_quits, none_quits_one, none_quits_then, last_quits_one, last_quits_then, few_quit_one, few_quit_then, turn_quits}
use Rattle.session.proofs.Talks.{text-append, text_one, talks_then, talks_one}

abbrev Known : Type 0
Known = Option (List ℕ)

module _ {D : Type 0} (told : D → DeskState) where
  -- ---- one request

  answered_one : (d e : D) (h i : Known) (w x : Bytes) (words : List Bytes) (answer : Answer) → Turn told d e words answer → Passes h i w x (say answer) → Answered told d e h i w x (words ∷ [])
  answered_one d e h i w x words answer turn p = record {
    answers = answer ∷ [];
    talk = talks_one told d e words answer turn;
    wrote = subst (Passes h i w x) (sym (text_one answer)) p;
  }

  broken_one : (d e : D) (h i : Known) (w : Bytes) (words : List Bytes) (answer : Answer) → Turn told d e words answer → AppendsFront h i (w ++ say answer) → Broken told d e h i w (words ∷ [])
  broken_one d e h i w words answer turn p = record {
    answers = answer ∷ [];
    talk = talks_one told d e words answer turn;
    wrote = subst (λ (x : List ℕ). AppendsFront h i (w ++ x)) (sym (text_one answer)) p;
  }

  -- the answer was written, and it is that of QUIT
  pub answers_quit : (d e : D) (h i : Known) (w x : Bytes) (f g : ℕ) (words : List Bytes) (answer : Answer) → Turn told d e words answer → quits answer ≡ true → Passes h i w x (say answer) → Answers told d e h i w x f g words (Err stopped.Quit)
  unfolding Answers
  answers_quit d e h i w x f g words answer turn is p = (answered_one d e h i w x words answer turn p, sym (turn_quits told d e words answer turn) ∙ is)

  -- and the session goes on
  pub answers_on : (d e : D) (h i : Known) (w x : Bytes) (f g : ℕ) (words : List Bytes) (answer : Answer) (u : Unit {0}) → Turn told d e words answer → quits answer ≡ false → Passes h i w x (say answer) → Answers told d e h i w x f g words (Ok u)
  unfolding Answers
  answers_on d e h i w x f g words answer u turn is p = (answered_one d e h i w x words answer turn p, sym (turn_quits told d e words answer turn) ∙ is)

  -- the sink failed within it
  pub answers_broken : (d e : D) (h i : Known) (w x : Bytes) (f g : ℕ) (words : List Bytes) (answer : Answer) → Turn told d e words answer → AppendsFront h i (w ++ say answer) → Rose f g → Answers told d e h i w x f g words (Err stopped.WriteFault)
  unfolding Answers
  answers_broken d e h i w x f g words answer turn p rose = (broken_one d e h i w words answer turn p, rose)

  -- ---- requests in order

  answered_none : (d : D) (h : Known) (w : Bytes) → Answered told d d h h w w []
  answered_none d h w = record { answers = []; talk = refl; wrote = passes_here h w }

  pub answered_then : (d e f : D) (h i j : Known) (w x y : Bytes) (first others : List (List Bytes)) → Answered told d e h i w x first → Answered told e f i j x y others → Answered told d f h j w y (first ++ others)
  answered_then d e f h i j w x y first others p q = record {
    answers = p.answers ++ q.answers;
    talk = talks_then told d e f first others p.answers q.answers p.talk q.talk;
    wrote = subst (Passes h j w y) (sym (text-append p.answers q.answers)) (passes_then h i j w x y _ _ p.wrote q.wrote);
  }

  pub broken_then : (d e f : D) (h i j : Known) (w x : Bytes) (first others : List (List Bytes)) → Answered told d e h i w x first → Broken told e f i j x others → Broken told d f h j w (first ++ others)
  broken_then d e f h i j w x first others p q = record {
    answers = p.answers ++ q.answers;
    talk = talks_then told d e f first others p.answers q.answers p.talk q.talk;
    wrote = subst (λ (z : List ℕ). AppendsFront h j (w ++ z)) (sym (text-append p.answers q.answers)) (passes_front h i j w x _ _ p.wrote q.wrote);
  }

  -- ---- the loop

  -- nothing was answered yet
  pub serving_none : (d : D) (h : Known) (w bytes : Bytes) → Serving told d d h h w w bytes bytes
  serving_none d h w bytes = record { served = []; holds = holds_here bytes; answered = answered_none d h w; none = none_quits }

  -- one more request of the bytes
  one_more : (bytes rest rest' : Bytes) (served : List (List Bytes)) (words : List Bytes) → HoldsRequests bytes served rest → ReadsRequest rest words rest' → 0 < length words → HoldsRequests bytes (served ++ words ∷ []) rest'
  one_more bytes rest rest' served words p reads some = holds_then bytes served rest (words ∷ []) rest' p (holds_one rest words rest' some reads)

  -- one more request was answered
  pub serving_more : (d e f : D) (h i j : Known) (w x y bytes rest rest' : Bytes) (words : List Bytes) (u : Unit {0}) (k g : ℕ) → Serving told d e h i w x bytes rest → ReadsRequest rest words rest' → 0 < length words → Answers told e f i j x y k g words (Ok u) → Serving told d f h j w y bytes rest'
  unfolding Answers
  serving_more d e f h i j w x y bytes rest rest' words u k g p reads some q = record {
    served = p.served ++ words ∷ [];
    holds = one_more bytes rest rest' p.served words p.holds reads some;
    answered = answered_then d e f h i j w x y p.served (words ∷ []) p.answered q.0;
    none = none_quits_then p.served (words ∷ []) p.none (none_quits_one words q.1);
  }

  -- empty requests were passed over
  skipped : (bytes rest rest' : Bytes) (served : List (List Bytes)) → HoldsRequests bytes served rest → ReadsRequest rest [] rest' → HoldsRequests bytes served rest'
  skipped bytes rest rest' served p q = subst (λ (rs : List (List Bytes)). HoldsRequests bytes rs rest') (append-nil served) (holds_then bytes served rest [] rest' p (holds_skip rest rest' q))

  -- no request is whole any more
  pub serves_all : (d e : D) (h i : Known) (w x bytes rest rest' : Bytes) (f g : ℕ) (u : Unit {0}) → Serving told d e h i w x bytes rest → ReadsRequest rest [] rest' → IsUnfinished rest' → Serves told d e h i w x f g bytes rest' (Ok u)
  unfolding Serves
  serves_all d e h i w x bytes rest rest' f g u p reads unfinished = (record { served = p.served; holds = skipped bytes rest rest' p.served p.holds reads; answered = p.answered; none = p.none }, unfinished)

  -- the reader stopped
  pub reader_stops : (d e : D) (h i : Known) (w x bytes rest rest' : Bytes) (f g : ℕ) (why : Stopped) → Serving told d e h i w x bytes rest → NextAs rest rest' (Err why) → Serves told d e h i w x f g bytes rest' (Err why)
  unfolding Serves
  reader_stops d e h i w x bytes rest rest' f g stopped.NoMem p n = (rest, p)
  reader_stops d e h i w x bytes rest rest' f g stopped.WriteFault p n = absurd n
  reader_stops d e h i w x bytes rest rest' f g (stopped.Wire kind left) p n = (rest, p, n)
  reader_stops d e h i w x bytes rest rest' f g stopped.Quit p n = absurd n

  -- an answer stopped: it was that of a QUIT, or the sink failed within it
  pub answer_stops : (d e f : D) (h i j : Known) (w x y bytes rest rest' : Bytes) (words : List Bytes) (first k g : ℕ) (why : Stopped) → Serving told d e h i w x bytes rest → ReadsRequest rest words rest' → 0 < length words → first ≤ k
      → Answers told e f i j x y k g words (Err why) → Serves told d f h j w y first g bytes rest' (Err why)
  unfolding Serves Answers
  answer_stops d e f h i j w x y bytes rest rest' words first k g stopped.NoMem p reads some le q = absurd q
  answer_stops d e f h i j w x y bytes rest rest' words first k g stopped.WriteFault p reads some le q = (
    rest',
    record {
      served = p.served ++ words ∷ [];
      holds = one_more bytes rest rest' p.served words p.holds reads some;
      broken = broken_then d e f h i j w x p.served (words ∷ []) p.answered q.0;
      quits = few_quit_then p.served (words ∷ []) p.none (few_quit_one words);
    },
    rose_since first k g le q.1,
  )
  answer_stops d e f h i j w x y bytes rest rest' words first k g (stopped.Wire kind left) p reads some le q = absurd q
  answer_stops d e f h i j w x y bytes rest rest' words first k g stopped.Quit p reads some le q = (
    rest',
    record {
      served = p.served ++ words ∷ [];
      holds = one_more bytes rest rest' p.served words p.holds reads some;
      answered = answered_then d e f h i j w x y p.served (words ∷ []) p.answered q.0;
      quits = last_quits_then p.served (words ∷ []) p.none (last_quits_one words q.1);
    },
  )
