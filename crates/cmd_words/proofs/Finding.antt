-- A name is found among those that are like it.
use Rattle.std.proofs.lemmas.Bool.Decides.{nat_tests}
use Rattle.std.specs.Char.{to_ascii_lowercase}
use Rattle.std.proofs.Common.{◌≡◌, ◌<◌, ◌≤◌, arith, refl, ℕ, Bool, true, false, List, [], ◌∷◌, length, get_or, filter, Option, Some, None, ap, sym, ◌∙◌, rules}
use Rattle.std.specs.Prelude.{◌==◌, slice_get, not, nat_lt, if◌then◌else◌}
use Rattle.std.proofs.lemmas.Slice.Eq.{bytes_eq-Decides}
use Rattle.std.proofs.lemmas.List.{length-map}
use Rattle.std.specs.List.{list_any, list_all}
use Rattle.kv_base.specs.Map.{Bytes}
use Rattle.cmd_words.specs.Words.{is, lower}
use Rattle.cmd_words.specs.Names.{Names, names, find_name, named, starting, shorter, longer}
use Rattle.cmd_words.specs.declared.name.Name.{Name}

same_text : (name w : Bytes) → is name w ≡ true → lower w ≡ lower name
unfolding is
same_text name w h = search (rules, bytes_eq-Decides)

unlike : (g : Bytes → Bool) (name w : Bytes) (b : Bool) → g (lower w) ≡ b → g (lower name) ≡ not b → is name w ≡ false
unlike g name w b h k = elim (is name w) as (λ r. is name w ≡ r → r ≡ false) [ true ↦ λ e. let f : g (lower w) ≡ g (lower name) = ap g (same_text name w e) in elim b as (λ (b : Bool). g (lower w) ≡ b → g (lower name) ≡ not b → true ≡ false) [ true ↦ λ h k. cc | false ↦ λ h k. cc ] h k | false ↦ λ e. refl ] refl

abbrev kept : (Bytes → Bool) → Names → Names
kept g = filter (λ n. g (lower n.0))

-- one step, where it is known whether the first name is kept
step : (g : Bytes → Bool) (n : Bytes × Name) (ns : Names) (w : Bytes) (b : Bool) → g (lower n.0) ≡ b → g (lower w) ≡ true → find_name ns w ≡ find_name (kept g ns) w → find_name (n ∷ ns) w ≡ find_name (if b then n ∷ kept g ns else kept g ns) w
unfolding find_name
step g n ns w true e h i = ap (λ r. if is n.0 w then Some n.1 else r) i
step g n ns w false e h i = rw (unlike g n.0 w true h e) i

pub find-kept : (g : Bytes → Bool) (ns : Names) (w : Bytes) → g (lower w) ≡ true → find_name ns w ≡ find_name (kept g ns) w
find-kept g [] w h = refl
find-kept g (n ∷ ns) w h = step g n ns w (g (lower n.0)) refl h (find-kept g ns w h)

pub found_at : (byte : ℕ) (w : Bytes) → get_or (lower w) 0 0 ≡ byte → named w ≡ find_name (starting byte) w
unfolding named
found_at byte w h = find-kept (λ text. get_or text 0 0 == byte) names w (grind (rules, h))

initial : (text : Bytes) (i byte : ℕ) → Some i ≡ slice_get text 0 → i ≡ byte → get_or text 0 0 ≡ byte
initial [] i byte h e = cc
initial (x ∷ text) i byte h e = cc

pub found : (r : Option Name) (w : Bytes) (i byte : ℕ) → Some i ≡ slice_get (lower w) 0 → i ≡ byte → r ≡ find_name (starting byte) w → r ≡ named w
found r w i byte h e f = f ∙ sym (found_at byte w (initial (lower w) i byte h e))

-- ---- the bytes that names begin with

abbrev pub initials : List ℕ
initials = 115 ∷ 103 ∷ 104 ∷ 108 ∷ 122 ∷ 109 ∷ 100 ∷ 105 ∷ 101 ∷ 114 ∷ 116 ∷ 112 ∷ 97 ∷ 113 ∷ 107 ∷ []

abbrev is_initial : ℕ → Bool
is_initial byte = list_any (λ i. i == byte) initials

none_found : (ns : Names) (w : Bytes) → list_all (λ n. is_initial (get_or (lower n.0) 0 0)) ns ≡ true → is_initial (get_or (lower w) 0 0) ≡ false → find_name ns w ≡ None
unfolding find_name
none_found [] w h k = refl
none_found (n ∷ ns) w h k =
    let first : is_initial (get_or (lower n.0) 0 0) ≡ true = grind (rules, h) in
    let rest : list_all (λ n. is_initial (get_or (lower n.0) 0 0)) ns ≡ true = grind (rules, h) in
    rw (unlike (λ text. is_initial (get_or text 0 0)) n.0 w false k first) (none_found ns w rest k)

pub no_name : (w : Bytes) (i : ℕ) → Some i ≡ slice_get (lower w) 0 → is_initial i ≡ false → None ≡ named w
unfolding named
no_name w i h k = sym (none_found names w refl (rw (initial (lower w) i i h refl) k))

pub no_word : (w : Bytes) → None ≡ slice_get (lower w) 0 → None ≡ named w
unfolding named find_name is
no_word [] h = refl
no_word (x ∷ w) h = cc

-- ---- by length

pub found_short : (r : Option Name) (ns : Names) (n : ℕ) (w text : Bytes) → text ≡ w → length text < n → r ≡ find_name (shorter n ns) w → r ≡ find_name ns w
found_short r ns n w text e h f = f ∙ sym (find-kept (λ t. nat_lt (length t) n) ns w (rw (length-map w to_ascii_lowercase, ← e) (grind (arith, nat_tests))))

pub found_long : (r : Option Name) (ns : Names) (n : ℕ) (w text : Bytes) → text ≡ w → n ≤ length text → r ≡ find_name (longer n ns) w → r ≡ find_name ns w
found_long r ns n w text e h f = f ∙ sym (find-kept (λ t. not (nat_lt (length t) n)) ns w (rw (length-map w to_ascii_lowercase, ← e) (grind (arith, nat_tests))))
