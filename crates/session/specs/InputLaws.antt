-- Laws on what stands in `Input.antt`.
use Rattle.std.specs.Prelude.{◌≡◌, ◌-◌, ◌+◌, ℕ, Bool, true, List, [], ◌++◌, length, Option, Some, None, refl}
use Rattle.std.specs.Io.KnownBytes.{Consumes}
use Rattle.std.proofs.Common.{sym, ap, subst, ◌∙◌, append_assoc, ⊎_elim, inl, inr, arith}
use Rattle.std.proofs.lemmas.List.{append-nil, length-append}
use Rattle.kv_base.specs.Map.{Bytes}
use Rattle.resp_wire.specs.Fault.{wire_fault, fault_line as wire_line}
use Rattle.resp_wire.specs.Grammar.{requests, End, Whole, Open, Fault}
use Rattle.resp_wire.specs.HoldingLaws.{requests_go_on, faults_stay}
use Rattle.session.specs.declared.session.Outcome.{Outcome}
use Rattle.session.specs.declared.session.Outcome.TheVariants as outcome
use Rattle.session.specs.Quits.{NoneQuits, LastQuits, has_quit, up_to_quit}
use Rattle.session.specs.QuitLaws.{up_to_quit-none, has_quit-last, up_to_quit-last}
use Rattle.session.specs.Session.{EndsAs, AreFirst, AreAll, IsQuit, IsThrough, IsProtocol, IsUnder, IsBroken, end_line}
use Rattle.session.specs.Input.{IsOff, EndsInput}

-- ---- the bytes taken are a front of the input

module _ (taken left : Bytes) (served : List (List Bytes)) where
  -- what follows keeps the requests that were taken
  on : (others : List (List Bytes)) × ((requests (taken ++ left)).0 ≡ (requests taken).0 ++ others)
  on = requests_go_on taken left

  -- the first requests of the bytes taken are the first of the input
  first_on : AreFirst served (requests taken).0 → AreFirst served (requests (taken ++ left)).0
  first_on p = (p.0 ++ on.0, on.1 ∙ ap (λ (rs : List (List Bytes)). rs ++ on.0) p.1 ∙ append_assoc served p.0 on.0)

  -- all are the first
  all_first : AreAll taken served → AreFirst served (requests taken).0
  all_first p = ([], p.all ∙ sym (append-nil served))

  -- requests up to a QUIT are those of the input
  quit_on : IsQuit taken served → (served ≡ up_to_quit (requests (taken ++ left)).0) × (has_quit (requests (taken ++ left)).0 ≡ true)
  quit_on p =
      let first = first_on p.first in
      (sym (ap up_to_quit first.1 ∙ up_to_quit-last served first.0 p.quits), ap has_quit first.1 ∙ has_quit-last served first.0 p.quits)

  -- where no QUIT stands, all requests of the input are meant
  through_on : (ended : Bool) → IsThrough taken served (Some left) ended → (served ≡ up_to_quit (requests (taken ++ left)).0) × ((requests (taken ++ left)).1 ≡ Whole)
  through_on ended p =
      let same : taken ++ left ≡ taken = ap (λ (x : Bytes). taken ++ x) p.none_left ∙ append-nil taken in
      let none : up_to_quit served ≡ served = ap up_to_quit (sym (append-nil served)) ∙ up_to_quit-none served [] p.are.none ∙ append-nil served in
      (sym (ap (λ (x : Bytes). up_to_quit (requests x).0) same ∙ ap up_to_quit p.are.all ∙ none), ap (λ (x : Bytes). (requests x).1) same ∙ p.whole)

  -- what is under way has not passed a QUIT of the input
  under_on : IsUnder taken served → AreFirst served (up_to_quit (requests (taken ++ left)).0)
  under_on p =
      let first = first_on p.first in
      ⊎_elim
      (λ (none : NoneQuits served). (up_to_quit first.0, ap up_to_quit first.1 ∙ up_to_quit-none served first.0 none))
      (λ (last : LastQuits served). ([], ap up_to_quit first.1 ∙ up_to_quit-last served first.0 last ∙ sym (append-nil served)))
      p.quits

  -- a fault keeps its requests and its place however the input goes on
  off_on : (line : Bytes) (ended : Bool) → IsProtocol taken served line (Some left) ended → IsOff (taken ++ left) served line
  off_on line ended p = by_end (requests taken).1 refl (p.broken)
    where
      by_end : (x : End) → (requests taken).1 ≡ x → IsBroken (requests taken).1 ended (Some left) → IsOff (taken ++ left) served line
      by_end Whole at broken = absurd (subst (λ (x : End). IsBroken x ended (Some left)) at broken)
      by_end (Open unread) at broken =
          let over = subst (λ (x : End). IsBroken x ended (Some left)) at broken in
          let same : taken ++ left ≡ taken = ap (λ (x : Bytes). taken ++ x) over.1 ∙ append-nil taken in
          record {
            all = sym (ap (λ (x : Bytes). (requests x).0) same ∙ p.are.all);
            none = p.are.none;
            broken = λ whole. (let both : Open unread ≡ Whole = sym at ∙ ap (λ (x : Bytes). (requests x).1) (sym same) ∙ whole in cc);
            tells = p.tells ∙ ap (λ (x : Bytes). end_line (length x) (requests x).1) (sym same);
          }
      by_end (Fault kind unread) at broken =
          let stays = faults_stay taken left kind unread at in
          let end : (requests (taken ++ left)).1 ≡ Fault kind (unread + length left) = ap (λ (x : List (List Bytes) × End). x.1) stays in
          let place : length taken - unread ≡ length (taken ++ left) - (unread + length left) = omega (arith, length-append taken left) in
          record {
            all = sym (ap (λ (x : List (List Bytes) × End). x.0) stays ∙ p.are.all);
            none = p.are.none;
            broken = λ whole. (let both : Fault kind (unread + length left) ≡ Whole = sym end ∙ whole in cc);
            tells = p.tells ∙ ap (end_line (length taken)) at ∙ ap (wire_line (wire_fault kind)) place ∙ ap (end_line (length (taken ++ left))) (sym end);
          }

  -- by the outcome
  ends_on : (o : Outcome) (line : Bytes) (ended ended' : Bool) → EndsAs o taken served line (Some left) ended ended' → EndsInput o (taken ++ left) served line
  ends_on outcome.Closed line ended ended' p =
      ⊎_elim
      (λ (quit : IsQuit taken served). (let q = quit_on quit in (p.0, q.0, inl q.1)))
      (λ (through : IsThrough taken served (Some left) ended'). (let q = through_on ended' through in (p.0, q.0, inr q.1)))
      p.1
  ends_on outcome.NoMem line ended ended' p = (p.0, (first_on p.1, p.2))
  ends_on outcome.ReadFault line ended ended' p = (p.0, (first_on (all_first p.1), p.1.none))
  ends_on outcome.WriteFault line ended ended' p =
      ⊎_elim
      (λ (under : (line ≡ []) × IsUnder taken served). inl (under.0, under_on under.1))
      (λ (off : IsProtocol taken served line (Some left) ended'). inr (off_on line ended' off))
      p
  ends_on outcome.Protocol line ended ended' p = off_on line ended' p
  ends_on outcome.Spent line ended ended' p = (p.0, (first_on (all_first p.1), p.1.none), omega (arith, p.2, length-append taken left))

-- what is said of the bytes taken, said of the whole input
pub ends_input : (o : Outcome) (input taken : Bytes) (left : Option (List ℕ)) (served : List (List Bytes)) (line : Bytes) (ended ended' : Bool) → Consumes (Some input) left taken → EndsAs o taken served line left ended ended' → EndsInput o input served line
ends_input o input taken None served line ended ended' took p = absurd took
ends_input o input taken (Some left) served line ended ended' took p = subst (λ (x : Bytes). EndsInput o x served line) (sym took) (ends_on taken left served o line ended ended' p)
