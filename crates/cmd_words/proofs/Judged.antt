-- Words that are judged by their lengths alone.
use Rattle.std.proofs.Common.{◌≡◌, refl, Bool, true, false, ◌||◌, if◌then◌else◌, List, [], ◌∷◌, ◌++◌, map, Result, Ok, Err, ap, sym, ◌∙◌}
use Rattle.std.specs.Prelude.{is_none}
use Rattle.std.specs.List.{list_any}
use Rattle.std.proofs.Math.Bool.{or_assoc}
use Rattle.kv_base.specs.Map.{Bytes}
use Rattle.cmd_words.specs.Places.{Place, K, V, F, M, S, said, is_long, too_long, off_pattern, not_int, not_score, bad_time, no_database}
use Rattle.kv_base.specs.Score.{read_score}
use Rattle.cmd_words.specs.Add.{off, scored}
use Rattle.cmd_words.specs.declared.add.AddFlags.{AddFlags}
use Rattle.cmd_words.specs.Reading.{Placed, any, all_at, firsts, seconds, judged, judged_as}
use Rattle.cmd_words.specs.declared.fault.FaultKind.{FaultKind}
use Rattle.cmd_words.specs.declared.fault.FaultKind.TheVariants as wrong

quiet : (test : Place → Bytes → Bool) (p : Place) (ws : List Bytes) → ((w : Bytes) → test p w ≡ false) → any test (all_at p ws) ≡ false
quiet test p [] h = refl
quiet test p (w ∷ ws) h = rw h (quiet test p ws h)

along : (test : Place → Bytes → Bool) (p : Place) (ws : List Bytes) → any test (all_at p ws) ≡ list_any (test p) ws
along test p [] = refl
along test p (w ∷ ws) = ap (λ b. test p w || b) (along test p ws)

module _ {A : Type 0} (p : Place) (q : (w : Bytes) → off_pattern p w ≡ false) (r : (w : Bytes) → not_int p w ≡ false) (s : (w : Bytes) → not_score p w ≡ false) (t : (w : Bytes) → bad_time p w ≡ false) (u : (w : Bytes) → no_database p w ≡ false) where
  by_lengths : (ws : List Bytes) (a : A) → judged (all_at p ws) a ≡ (if list_any (too_long p) ws then Err wrong.TooLong else Ok a)
  by_lengths ws a = rw (along too_long p ws, quiet off_pattern p ws q, quiet not_int p ws r, quiet not_score p ws s, quiet bad_time p ws t, quiet no_database p ws u) refl

  k_by_lengths : (k : Bytes) (ws : List Bytes) (a : A) → judged ((K, k) ∷ all_at p ws) a ≡ (if is_long k || list_any (too_long p) ws then Err wrong.TooLong else Ok a)
  k_by_lengths k ws a = rw (along too_long p ws, quiet off_pattern p ws q, quiet not_int p ws r, quiet not_score p ws s, quiet bad_time p ws t, quiet no_database p ws u) refl

pub judged_K : {A : Type 0} (ws : List Bytes) (a : A) → judged (all_at K ws) a ≡ (if list_any is_long ws then Err wrong.TooLong else Ok a)
judged_K ws a = by_lengths K (λ _. refl) (λ _. refl) (λ _. refl) (λ _. refl) (λ _. refl) ws a

pub judged_K_K : {A : Type 0} (k : Bytes) (ws : List Bytes) (a : A) → judged ((K, k) ∷ all_at K ws) a ≡ (if is_long k || list_any is_long ws then Err wrong.TooLong else Ok a)
judged_K_K k ws a = k_by_lengths K (λ _. refl) (λ _. refl) (λ _. refl) (λ _. refl) (λ _. refl) k ws a

pub judged_K_F : {A : Type 0} (k : Bytes) (ws : List Bytes) (a : A) → judged ((K, k) ∷ all_at F ws) a ≡ (if is_long k || list_any is_long ws then Err wrong.TooLong else Ok a)
judged_K_F k ws a = k_by_lengths F (λ _. refl) (λ _. refl) (λ _. refl) (λ _. refl) (λ _. refl) k ws a

pub judged_K_M : {A : Type 0} (k : Bytes) (ws : List Bytes) (a : A) → judged ((K, k) ∷ all_at M ws) a ≡ (if is_long k || list_any is_long ws then Err wrong.TooLong else Ok a)
judged_K_M k ws a = k_by_lengths M (λ _. refl) (λ _. refl) (λ _. refl) (λ _. refl) (λ _. refl) k ws a

none_long : (ws : List Bytes) → list_any (too_long V) ws ≡ false
none_long [] = refl
none_long (w ∷ ws) = none_long ws

pub judged_K_V : {A : Type 0} (k : Bytes) (ws : List Bytes) (a : A) → judged ((K, k) ∷ all_at V ws) a ≡ (if is_long k || false then Err wrong.TooLong else Ok a)
judged_K_V k ws a = k_by_lengths V (λ _. refl) (λ _. refl) (λ _. refl) (λ _. refl) (λ _. refl) k ws a ∙ ap (λ b. if is_long k || b then Err wrong.TooLong else Ok a) (none_long ws)

pub ruleset judged_short = (judged_K, judged_K_K, judged_K_F, judged_K_M, judged_K_V)

-- ---- ZADD's scores and members

any-append : (test : Place → Bytes → Bool) (a b : Placed) → any test (a ++ b) ≡ (any test a || any test b)
any-append test [] b = refl
any-append test (x ∷ a) b = ap (λ r. test x.0 x.1 || r) (any-append test a b) ∙ sym (or_assoc (test x.0 x.1) (any test a) (any test b))

or_false : (b : Bool) → (b || false) ≡ b
or_false true = refl
or_false false = refl

abbrev bad_score : Bytes → Bool
bad_score w = is_none (read_score w)

at_places : (test : Place → Bytes → Bool) (ss ms : List Bytes) → any test (all_at S ss ++ all_at M ms) ≡ (list_any (test S) ss || list_any (test M) ms)
at_places test ss ms = any-append test (all_at S ss) (all_at M ms) ∙ ap (λ a. a || any test (all_at M ms)) (along test S ss) ∙ ap (λ b. list_any (test S) ss || b) (along test M ms)

never : (p : Bytes → Bool) (ws : List Bytes) → ((w : Bytes) → p w ≡ false) → list_any p ws ≡ false
never p [] h = refl
never p (w ∷ ws) h = rw h (never p ws h)

abbrev told : {A : Type 0} → Bool → Bool → Bool → A → Result A FaultKind
told long off bad a = if long then Err wrong.TooLong else if off then Err wrong.Syntax else if bad then Err wrong.NotScore else Ok a

judged_scores : {A : Type 0} (off : Bool) (ss ms : List Bytes) (a : A) → judged_as off (all_at S ss ++ all_at M ms) a ≡ told (list_any is_long ms) off (list_any bad_score ss) a
judged_scores off ss ms a =
    let long : any too_long (all_at S ss ++ all_at M ms) ≡ list_any is_long ms = at_places too_long ss ms ∙ ap (λ b. b || list_any is_long ms) (never (too_long S) ss (λ _. refl)) in
    let pattern : any off_pattern (all_at S ss ++ all_at M ms) ≡ false = at_places off_pattern ss ms ∙ ap (λ b. b || list_any (off_pattern M) ms) (never (off_pattern S) ss (λ _. refl)) ∙ never (off_pattern M) ms (λ _. refl) in
    let whole : any not_int (all_at S ss ++ all_at M ms) ≡ false = at_places not_int ss ms ∙ ap (λ b. b || list_any (not_int M) ms) (never (not_int S) ss (λ _. refl)) ∙ never (not_int M) ms (λ _. refl) in
    let score : any not_score (all_at S ss ++ all_at M ms) ≡ list_any bad_score ss = at_places not_score ss ms ∙ ap (λ b. list_any bad_score ss || b) (never (not_score M) ms (λ _. refl)) ∙ or_false (list_any bad_score ss) in
    let time : any bad_time (all_at S ss ++ all_at M ms) ≡ false = at_places bad_time ss ms ∙ ap (λ b. b || list_any (bad_time M) ms) (never (bad_time S) ss (λ _. refl)) ∙ never (bad_time M) ms (λ _. refl) in
    let index : any no_database (all_at S ss ++ all_at M ms) ≡ false = at_places no_database ss ms ∙ ap (λ b. b || list_any (no_database M) ms) (never (no_database S) ss (λ _. refl)) ∙ never (no_database M) ms (λ _. refl) in
    rw (long, pattern, whole, score, time, index) (ap (λ b. if list_any is_long ms then Err wrong.TooLong else if b then Err wrong.Syntax else if list_any bad_score ss then Err wrong.NotScore else Ok a) (or_false off))

pub scored_is : (f : AddFlags) (ws : List Bytes) → scored f ws ≡ told (list_any is_long (seconds ws)) (off f ws) (list_any bad_score (firsts ws)) (map (said S) (firsts ws), seconds ws)
unfolding scored
scored_is f ws = judged_scores (off f ws) (firsts ws) (seconds ws) (map (said S) (firsts ws), seconds ws)
