-- Requests answered one after the other.
use Rattle.std.proofs.Common.{◌≡◌, ℕ, List, [], ◌∷◌, ◌++◌, refl, sym, ap, subst, ◌∙◌, append_assoc}
use Rattle.std.proofs.lemmas.List.{append-nil}
use Rattle.kv_base.specs.Map.{Bytes}
use Rattle.redis_model.specs.DeskState.{DeskState}
use Rattle.session.specs.declared.answer.Answer.{Answer}
use Rattle.session.specs.Answer.{say}
use Rattle.session.specs.Talk.{Turn, Talks, answers_text}

pub text-append : (xs ys : List Answer) → answers_text (xs ++ ys) ≡ answers_text xs ++ answers_text ys
text-append [] ys = refl
text-append (x ∷ xs) ys = ap (λ (l : List ℕ). say x ++ l) (text-append xs ys) ∙ sym (append_assoc (say x) (answers_text xs) (answers_text ys))

pub text_one : (answer : Answer) → answers_text (answer ∷ []) ≡ say answer
text_one answer = append-nil (say answer)

module _ {D : Type 0} (told : D → DeskState) where
  pub talks_then : (d e f : D) (first others : List (List Bytes)) (xs ys : List Answer) → Talks told d e first xs → Talks told e f others ys → Talks told d f (first ++ others) (xs ++ ys)
  talks_then d e f [] others [] ys p q = subst (λ (x : D). Talks told x f others ys) p q
  talks_then d e f [] others (x ∷ xs) ys p q = absurd p
  talks_then d e f (words ∷ first) others [] ys p q = absurd p
  talks_then d e f (words ∷ first) others (x ∷ xs) ys p q = (p.0, p.1, talks_then p.0 e f first others xs ys p.2 q)

  pub talks_one : (d e : D) (words : List Bytes) (answer : Answer) → Turn told d e words answer → Talks told d e (words ∷ []) (answer ∷ [])
  talks_one d e words answer turn = (e, turn, refl)
