-- Requests up to a QUIT.
use Rattle.std.proofs.Common.{◌≡◌, Bool, true, false, ◌⊎◌, ⊎_elim, inl, inr, List, [], ◌∷◌, ◌++◌, Result, Ok, Err, refl, sym, ap, ◌∙◌, append_assoc}
use Rattle.std.proofs.lemmas.List.Elements.{All-nil, All-cons, All-append}
use Rattle.kv_base.specs.Map.{Bytes}
use Rattle.redis_model.specs.declared.desk.DeskFault.{DeskFault}
use Rattle.redis_model.specs.declared.reply.Reply.{Reply}
use Rattle.redis_model.specs.DeskState.{DeskState}
use Rattle.cmd_words.specs.Parsed.{parsed_as, IsParsed}
use Rattle.cmd_words.specs.declared.fault.CommandFault.{CommandFault}
use Rattle.cmd_words.specs.declared.fault.CommandFault.TheVariants as fault
use Rattle.cmd_words.specs.declared.parsed.Parsed.{Parsed}
use Rattle.cmd_words.specs.declared.parsed.Parsed.TheVariants as parsed
use Rattle.session.specs.declared.answer.Answer.{Answer}
use Rattle.session.specs.Answer.{desk_answer, quits}
use Rattle.session.specs.Talk.{Turn, TurnBy, asked}
use Rattle.session.specs.Quits.{is_quit, is_quit_by, NoneQuits, LastQuits}

-- ---- lists of requests

-- no request, so no QUIT
pub none_quits : NoneQuits []
none_quits = All-nil (λ (words : List Bytes). is_quit words ≡ false)

-- one request that is none
pub none_quits_one : (words : List Bytes) → is_quit words ≡ false → NoneQuits (words ∷ [])
none_quits_one words is = All-cons (λ (w : List Bytes). is_quit w ≡ false) words [] is none_quits

-- such requests one behind the other
pub none_quits_then : (first others : List (List Bytes)) → NoneQuits first → NoneQuits others → NoneQuits (first ++ others)
none_quits_then first others p q = All-append (λ (w : List Bytes). is_quit w ≡ false) first others p q

-- one request that is a QUIT
pub last_quits_one : (words : List Bytes) → is_quit words ≡ true → LastQuits (words ∷ [])
last_quits_one words is = record { before = []; last = words; are = refl; none = none_quits; quits = is }

-- a QUIT behind requests without one
pub last_quits_then : (first others : List (List Bytes)) → NoneQuits first → LastQuits others → LastQuits (first ++ others)
last_quits_then first others p q = record {
  before = first ++ q.before;
  last = q.last;
  are = ap (λ (rs : List (List Bytes)). first ++ rs) q.are ∙ sym (append_assoc first q.before (q.last ∷ []));
  none = none_quits_then first q.before p q.none;
  quits = q.quits;
}

-- at most the last is a QUIT, and so it is behind requests without one
pub few_quit_then : (first others : List (List Bytes)) → NoneQuits first → NoneQuits others ⊎ LastQuits others → NoneQuits (first ++ others) ⊎ LastQuits (first ++ others)
few_quit_then first others p q = ⊎_elim (λ (none : NoneQuits others). inl (none_quits_then first others p none)) (λ (last : LastQuits others). inr (last_quits_then first others p last)) q

-- of one request at most the last is a QUIT
pub few_quit_one : (words : List Bytes) → NoneQuits (words ∷ []) ⊎ LastQuits (words ∷ [])
few_quit_one words = by_test (is_quit words) refl
  where
    by_test : (b : Bool) → is_quit words ≡ b → NoneQuits (words ∷ []) ⊎ LastQuits (words ∷ [])
    by_test true is = inr (last_quits_one words is)
    by_test false is = inl (none_quits_one words is)

-- ---- the answer to a QUIT, and to no other request

module _ {D : Type 0} (told : D → DeskState) where
  -- a desk does not answer as QUIT is
  answered_on : (result : Result Reply DeskFault) → quits (desk_answer result) ≡ false
  answered_on (Ok reply) = refl
  answered_on (Err fault) = refl

  -- by what the words were read into
  by_read : (read all : Result Parsed CommandFault) (old new : D) (said : Answer) → IsParsed read all → TurnBy told old new (asked read) said → quits said ≡ is_quit_by all
  by_read (Ok (parsed.Data c)) all old new said is p = ap quits p.says ∙ answered_on p.result ∙ sym (ap is_quit_by is)
  by_read (Ok parsed.Quit) all old new said is p = ap quits p.0 ∙ sym (ap is_quit_by is)
  by_read (Ok _) all old new said is p = ap quits p.0 ∙ sym (ap is_quit_by is)
  by_read (Err fault.NoMem) all old new said is p = ap quits p.0 ∙ sym (no_quit all is)
    where
      no_quit : (all : Result Parsed CommandFault) → IsParsed (Err fault.NoMem) all → is_quit_by all ≡ false
      no_quit (Ok (parsed.Data c)) may = refl
      no_quit (Ok _) may = absurd may
      no_quit (Err e) may = refl
  by_read (Err _) all old new said is p = ap quits p.0 ∙ sym (ap is_quit_by is)

  -- QUIT is answered as such, and nothing else
  pub turn_quits : (old new : D) (words : List Bytes) (said : Answer) → Turn told old new words said → quits said ≡ is_quit words
  turn_quits old new words said turn = by_read turn.read (parsed_as words) old new said turn.is turn.turn
