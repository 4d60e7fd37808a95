-- Flags that are read one after the other.
use Rattle.std.proofs.Common.{◌≡◌, ℕ, ◌<◌, ◌≤◌, ◌+◌, List, [], ◌∷◌, length, drop, get_or, Option, Some, None, ap, sym, ◌∙◌, refl, arith}
use Rattle.kv_base.specs.Map.{Bytes}
use Rattle.cmd_words.specs.Add.{with_flag, flags, or_else}
use Rattle.cmd_words.specs.declared.add.AddFlags.{AddFlags}
use Rattle.cmd_words.proofs.Walk.{drop-step}

flags_at : (f : AddFlags) (w : Bytes) (ws : List Bytes) (o : Option AddFlags) → o ≡ with_flag f w → flags f (w ∷ ws) ≡ or_else o (f, w ∷ ws) (λ g. flags g ws)
unfolding flags
flags_at f w ws o e = ap (λ o. or_else o (f, w ∷ ws) (λ g. flags g ws)) (sym e)

flags_end : (f : AddFlags) → flags f [] ≡ (f, [])
unfolding flags
flags_end f = refl

pub flag_more : (f g : AddFlags) (ws : List Bytes) (i : ℕ) (w : Bytes) (o : Option AddFlags) → i < length ws → w ≡ get_or ws i w → o ≡ with_flag f w → o ≡ Some g → flags f (drop i ws) ≡ flags g (drop (i + 1) ws)
flag_more f g ws i w o h e k m = ap (flags f) (drop-step ws i w h e) ∙ flags_at f w (drop (i + 1) ws) (Some g) (sym m ∙ k)

pub flag_none : (f : AddFlags) (ws : List Bytes) (i : ℕ) (w : Bytes) (o : Option AddFlags) → i < length ws → w ≡ get_or ws i w → o ≡ with_flag f w → o ≡ None → flags f (drop i ws) ≡ (f, drop i ws)
flag_none f ws i w o h e k m =
    let d = drop-step ws i w h e in
    ap (flags f) d ∙ flags_at f w (drop (i + 1) ws) None (sym m ∙ k) ∙ ap (λ r. (f, r)) (sym d)

empty_is : (ws : List Bytes) → length ws ≤ 0 → ws ≡ []
empty_is [] h = refl
empty_is (w ∷ ws) h = let no : ⊥ = omega arith in absurd no

pub flag_last : (f : AddFlags) (ws : List Bytes) → length ws ≤ 0 → flags f ws ≡ (f, ws)
flag_last f ws h = let e = empty_is ws h in ap (flags f) e ∙ flags_end f ∙ ap (λ r. (f, r)) (sym e)
