-- Laws on what stands in `Quits.antt`.
use Rattle.std.specs.Prelude.{◌≡◌, true, false, List, [], ◌∷◌, ◌++◌, refl}
use Rattle.std.proofs.Common.{sym, ap, ◌∙◌, append_assoc}
use Rattle.std.proofs.lemmas.List.Elements.{All-head, All-tail}
use Rattle.kv_base.specs.Map.{Bytes}
use Rattle.session.specs.Quits.{is_quit, NoneQuits, LastQuits, has_quit, up_to_quit}

-- ---- an input as a whole

-- requests without a QUIT, before others
pub up_to_quit-none : (served others : List (List Bytes)) → NoneQuits served → up_to_quit (served ++ others) ≡ served ++ up_to_quit others
up_to_quit-none [] others none = refl
up_to_quit-none (words ∷ served) others none =
    let first : is_quit words ≡ false = All-head (λ (w : List Bytes). is_quit w ≡ false) words served none in
    rw first (ap (λ (rs : List (List Bytes)). words ∷ rs) (up_to_quit-none served others (All-tail (λ (w : List Bytes). is_quit w ≡ false) words served none)))

-- among requests without a QUIT there is none
pub has_quit-none : (served : List (List Bytes)) → NoneQuits served → has_quit served ≡ false
has_quit-none [] none = refl
has_quit-none (words ∷ served) none =
    let first : is_quit words ≡ false = All-head (λ (w : List Bytes). is_quit w ≡ false) words served none in
    rw first (has_quit-none served (All-tail (λ (w : List Bytes). is_quit w ≡ false) words served none))

-- requests of which the last is a QUIT, before others
pub up_to_quit-last : (served others : List (List Bytes)) → LastQuits served → up_to_quit (served ++ others) ≡ served
up_to_quit-last served others p =
    ap (λ (rs : List (List Bytes)). up_to_quit (rs ++ others)) p.are ∙ ap up_to_quit (append_assoc p.before (p.last ∷ []) others) ∙ up_to_quit-none p.before (p.last ∷ others) p.none ∙ ap (λ (rs : List (List Bytes)). p.before ++ rs) quit ∙ sym p.are
  where
    quit : up_to_quit (p.last ∷ others) ≡ p.last ∷ []
    quit = rw p.quits refl

-- among those whose last is one, there is one
pub has_quit-last : (served others : List (List Bytes)) → LastQuits served → has_quit (served ++ others) ≡ true
has_quit-last served others p = ap (λ (rs : List (List Bytes)). has_quit (rs ++ others)) p.are ∙ ap has_quit (append_assoc p.before (p.last ∷ []) others) ∙ behind p.before p.none
  where
    behind : (before : List (List Bytes)) → NoneQuits before → has_quit (before ++ p.last ∷ others) ≡ true
    behind [] none = rw p.quits refl
    behind (words ∷ before) none =
        let first : is_quit words ≡ false = All-head (λ (w : List Bytes). is_quit w ≡ false) words before none in
        rw first (behind before (All-tail (λ (w : List Bytes). is_quit w ≡ false) words before none))
