-- Words that were read had no fault.
use Rattle.std.proofs.Common.{◌≡◌, refl, ◌<◌, ◌+◌, ◌%◌, Bool, true, false, ◌||◌, if◌then◌else◌, List, [], ◌∷◌, ◌++◌, length, Result, Ok, Err, sym, subst, arith}
use Rattle.std.specs.Prelude.{All}
use Rattle.std.proofs.lemmas.List.Elements.{All-cons, All-head, All-tail, All-nil}
use Rattle.kv_base.specs.Map.{Bytes}
use Rattle.redis_model.specs.Limits.{IsShort}
use Rattle.cmd_words.specs.Places.{Place, Said, said, too_long, off_pattern, not_int, not_score, bad_time, no_database}
use Rattle.cmd_words.specs.Reading.{Placed, any, judged_as, ◌>>=◌, only, two_words, triple, four, some, one_and_some, one_and_two, two_and_any, three_and_any, firsts, seconds, all_at, said1, said2, said3, said4}
use Rattle.cmd_words.specs.declared.fault.FaultKind.{FaultKind}
use Rattle.cmd_words.specs.declared.fault.FaultKind.TheVariants as wrong
use Rattle.cmd_words.proofs.Fitting.{Fits, Passed, fit, or_false_left, or_false_right}

-- ---- words at their places

pub AllPassed : Placed → Type 0
AllPassed [] = Unit {0}
AllPassed (w ∷ ws) = Passed w.0 w.1 × AllPassed ws

pub record Right {A : Type 0} (ws : Placed) (a x : A) : Type 0 where
  pub value : x ≡ a
  pub passed : AllPassed ws

record Quiet {A : Type 0} (long pattern number time database : Bool) (a x : A) : Type 0 where
  pub long_ : long ≡ false
  pub pattern_ : pattern ≡ false
  pub number_ : number ≡ false
  pub time_ : time ≡ false
  pub database_ : database ≡ false
  pub value : x ≡ a

abbrev chosen : {A : Type 0} → Bool → Bool → Bool → Bool → Bool → Bool → A → Result A FaultKind
chosen a b c d e f x =
    if a then Err wrong.TooLong else if b then Err wrong.Syntax else if c then Err wrong.NotInt else if d then Err wrong.NotScore else if e then Err wrong.BadExpire else if f then Err wrong.BadIndex else Ok x

quiet : {A : Type 0} (a b c d e f : Bool) (x y : A) → chosen a b c d e f x ≡ Ok y → Quiet a b c e f x y
quiet true b c d e f x y h = cc
quiet false true c d e f x y h = cc
quiet false false true d e f x y h = cc
quiet false false false true e f x y h = cc
quiet false false false false true f x y h = cc
quiet false false false false false true x y h = cc
quiet false false false false false false x y h = record { long_ = refl; pattern_ = refl; number_ = refl; time_ = refl; database_ = refl; value = cc }

all_passed : (ws : Placed) → any too_long ws ≡ false → any not_int ws ≡ false → any bad_time ws ≡ false → any no_database ws ≡ false → AllPassed ws
unfolding AllPassed
all_passed [] a b c d = tt
all_passed (w ∷ ws) a b c d = (
  record {
    name = or_false_left (too_long w.0 w.1) _ a;
    whole = or_false_left (not_int w.0 w.1) _ b;
    time = or_false_left (bad_time w.0 w.1) _ c;
    database = or_false_left (no_database w.0 w.1) _ d;
  },
  all_passed ws (or_false_right (too_long w.0 w.1) _ a) (or_false_right (not_int w.0 w.1) _ b) (or_false_right (bad_time w.0 w.1) _ c) (or_false_right (no_database w.0 w.1) _ d),
)

pub judged_right : {A : Type 0} (syntax : Bool) (ws : Placed) (a x : A) → judged_as syntax ws a ≡ Ok x → Right ws a x
judged_right syntax ws a x h =
    let q = quiet (any too_long ws) (syntax || any off_pattern ws) (any not_int ws) (any not_score ws) (any bad_time ws) (any no_database ws) a x h in
    record { value = q.value; passed = all_passed ws q.long_ q.number_ q.time_ q.database_ }

pub judged_syntax : {A : Type 0} (syntax : Bool) (ws : Placed) (a x : A) → judged_as syntax ws a ≡ Ok x → syntax ≡ false
judged_syntax syntax ws a x h =
    let q = quiet (any too_long ws) (syntax || any off_pattern ws) (any not_int ws) (any not_score ws) (any bad_time ws) (any no_database ws) a x h in
    or_false_left syntax (any off_pattern ws) q.pattern_

pub first_passed : (p : Place) (w : Bytes) (ws : Placed) → AllPassed ((p, w) ∷ ws) → Passed p w
unfolding AllPassed
first_passed p w ws h = h.0

pub others_passed : (p : Place) (w : Bytes) (ws : Placed) → AllPassed ((p, w) ∷ ws) → AllPassed ws
unfolding AllPassed
others_passed p w ws h = h.1

pub list_passed : (p : Place) (ws : List Bytes) → AllPassed (all_at p ws) → All (Passed p) ws
list_passed p [] h = All-nil (Passed p)
list_passed p (w ∷ ws) h = All-cons (Passed p) w ws (first_passed p w (all_at p ws) h) (list_passed p ws (others_passed p w (all_at p ws) h))

pub passed_front : (a b : Placed) → AllPassed (a ++ b) → AllPassed a
unfolding AllPassed
passed_front [] b h = tt
passed_front (w ∷ a) b h = (h.0, passed_front a b h.1)

pub passed_back : (a b : Placed) → AllPassed (a ++ b) → AllPassed b
unfolding AllPassed
passed_back [] b h = h
passed_back (w ∷ a) b h = passed_back a b h.1

-- ---- one step and then the next

pub record Steps {A B : Type 0} (r : Result A FaultKind) (f : A → Result B FaultKind) (c : B) : Type 0 where
  pub middle : A
  pub first : r ≡ Ok middle
  pub next : f middle ≡ Ok c

pub steps : {A B : Type 0} (r : Result A FaultKind) (f : A → Result B FaultKind) (c : B) → (r >>= f) ≡ Ok c → Steps r f c
steps (Ok x) f c h = record { middle = x; first = refl; next = h }
steps (Err e) f c h = cc

-- ---- how many words

pub only_right : (ws : List Bytes) (a : Bytes) → only ws ≡ Ok a → ws ≡ a ∷ []
unfolding only
only_right [] a h = cc
only_right (x ∷ []) a h = cc
only_right (x ∷ y ∷ ws) a h = cc

pub pair_right : (ws : List Bytes) (x : Bytes × Bytes) → two_words ws ≡ Ok x → ws ≡ x.0 ∷ x.1 ∷ []
unfolding two_words
pair_right [] x h = cc
pair_right (a ∷ []) x h = cc
pair_right (a ∷ b ∷ []) x h = cc
pair_right (a ∷ b ∷ c ∷ ws) x h = cc

pub triple_right : (ws : List Bytes) (x : Bytes × Bytes × Bytes) → triple ws ≡ Ok x → ws ≡ x.0 ∷ x.1 ∷ x.2 ∷ []
unfolding triple
triple_right [] x h = cc
triple_right (a ∷ []) x h = cc
triple_right (a ∷ b ∷ []) x h = cc
triple_right (a ∷ b ∷ c ∷ []) x h = cc
triple_right (a ∷ b ∷ c ∷ d ∷ ws) x h = cc

pub four_right : (ws : List Bytes) (x : Bytes × Bytes × Bytes × Bytes) → four ws ≡ Ok x → ws ≡ x.0 ∷ x.1 ∷ x.2 ∷ x.3 ∷ []
unfolding four
four_right [] x h = cc
four_right (a ∷ []) x h = cc
four_right (a ∷ b ∷ []) x h = cc
four_right (a ∷ b ∷ c ∷ []) x h = cc
four_right (a ∷ b ∷ c ∷ d ∷ []) x h = cc
four_right (a ∷ b ∷ c ∷ d ∷ e ∷ ws) x h = cc

pub some_right : (ws xs : List Bytes) → some ws ≡ Ok xs → (ws ≡ xs) × (0 < length xs)
unfolding some
some_right [] xs h = cc
some_right (a ∷ ws) xs h = let e : a ∷ ws ≡ xs = cc in (e, subst (λ (ys : List Bytes). 0 < length ys) e (omega arith))

pub one_and_some_right : (ws : List Bytes) (x : Bytes × List Bytes) → one_and_some ws ≡ Ok x → (ws ≡ x.0 ∷ x.1) × (0 < length x.1)
unfolding one_and_some
one_and_some_right [] x h = cc
one_and_some_right (a ∷ []) x h = cc
one_and_some_right (a ∷ b ∷ ws) x h =
    let t : Bytes × List Bytes = (a, b ∷ ws) in
    let e : t ≡ x = cc in
    subst (λ (y : Bytes × List Bytes). (a ∷ b ∷ ws ≡ y.0 ∷ y.1) × (0 < length y.1)) e (refl, omega arith)

pub one_and_two_right : (ws : List Bytes) (x : Bytes × List Bytes) → one_and_two ws ≡ Ok x → ws ≡ x.0 ∷ x.1
unfolding one_and_two
one_and_two_right [] x h = cc
one_and_two_right (a ∷ []) x h = cc
one_and_two_right (a ∷ b ∷ []) x h = cc
one_and_two_right (a ∷ b ∷ c ∷ ws) x h = cc

pub two_and_any_right : (ws : List Bytes) (x : Bytes × Bytes × List Bytes) → two_and_any ws ≡ Ok x → ws ≡ x.0 ∷ x.1 ∷ x.2
unfolding two_and_any
two_and_any_right [] x h = cc
two_and_any_right (a ∷ []) x h = cc
two_and_any_right (a ∷ b ∷ ws) x h = cc

pub three_and_any_right : (ws : List Bytes) (x : Bytes × Bytes × Bytes × List Bytes) → three_and_any ws ≡ Ok x → ws ≡ x.0 ∷ x.1 ∷ x.2 ∷ x.3
unfolding three_and_any
three_and_any_right [] x h = cc
three_and_any_right (a ∷ []) x h = cc
three_and_any_right (a ∷ b ∷ []) x h = cc
three_and_any_right (a ∷ b ∷ c ∷ ws) x h = cc

-- ---- every second word

pub length-firsts-seconds : (ws : List Bytes) → length (firsts ws) + length (seconds ws) ≡ length ws
length-firsts-seconds [] = refl
length-firsts-seconds (a ∷ []) = refl
length-firsts-seconds (a ∷ b ∷ ws) = let h = length-firsts-seconds ws in omega arith

pub length-seconds : (ws : List Bytes) → length ws % 2 ≡ 0 → length (seconds ws) ≡ length (firsts ws)
length-seconds [] h = refl
length-seconds (a ∷ []) h = let no : ⊥ = omega arith in absurd no
length-seconds (a ∷ b ∷ ws) h = let k = length-seconds ws (omega arith) in omega arith

pub All-seconds : (P : Bytes → Type 0) (ws : List Bytes) → All P ws → All P (seconds ws)
All-seconds P [] h = All-nil P
All-seconds P (a ∷ []) h = All-nil P
All-seconds P (a ∷ b ∷ ws) h = let t = All-tail P a (b ∷ ws) h in All-cons P b (seconds ws) (All-head P b ws t) (All-seconds P ws (All-tail P b ws t))

-- ---- what the words say fits their places

pub said1_fits : (p : Place) (ws : List Bytes) (x : Said p) → All IsShort ws → said1 p ws ≡ Ok x → Fits p x
unfolding said1
said1_fits p ws x short h =
    let s = steps (only ws) _ x h in
    let short_ = subst (All IsShort) (only_right ws s.middle s.first) short in
    let j = judged_right false _ _ x s.next in
    subst (Fits p) (sym j.value) (fit p s.middle (All-head IsShort s.middle [] short_) (first_passed p s.middle [] j.passed))

pub said2_fits : (p q : Place) (ws : List Bytes) (x : Said p × Said q) → All IsShort ws → said2 p q ws ≡ Ok x → Fits p x.0 × Fits q x.1
unfolding said2
said2_fits p q ws x short h =
    let s = steps (two_words ws) _ x h in
    let w = s.middle in
    let short_ = subst (All IsShort) (pair_right ws w s.first) short in
    let short_1 = All-tail IsShort w.0 (w.1 ∷ []) short_ in
    let last : Placed = (q, w.1) ∷ [] in
    let value : Said p × Said q = (said p w.0, said q w.1) in
    let j = judged_right false ((p, w.0) ∷ last) value x s.next in
    let passed_1 = others_passed p w.0 last j.passed in
    subst (λ (y : Said p × Said q). Fits p y.0 × Fits q y.1) (sym j.value) (
      fit p w.0 (All-head IsShort w.0 (w.1 ∷ []) short_) (first_passed p w.0 last j.passed),
      fit q w.1 (All-head IsShort w.1 [] short_1) (first_passed q w.1 [] passed_1),
    )

pub said3_fits : (p q r : Place) (ws : List Bytes) (x : Said p × Said q × Said r) → All IsShort ws → said3 p q r ws ≡ Ok x → Fits p x.0 × Fits q x.1 × Fits r x.2
unfolding said3
said3_fits p q r ws x short h =
    let s = steps (triple ws) _ x h in
    let w = s.middle in
    let short_ = subst (All IsShort) (triple_right ws w s.first) short in
    let short_1 = All-tail IsShort w.0 (w.1 ∷ w.2 ∷ []) short_ in
    let short_2 = All-tail IsShort w.1 (w.2 ∷ []) short_1 in
    let last : Placed = (r, w.2) ∷ [] in
    let others : Placed = (q, w.1) ∷ last in
    let value : Said p × Said q × Said r = (said p w.0, said q w.1, said r w.2) in
    let j = judged_right false ((p, w.0) ∷ others) value x s.next in
    let passed_1 = others_passed p w.0 others j.passed in
    let passed_2 = others_passed q w.1 last passed_1 in
    subst (λ (y : Said p × Said q × Said r). Fits p y.0 × Fits q y.1 × Fits r y.2) (sym j.value) (
      fit p w.0 (All-head IsShort w.0 (w.1 ∷ w.2 ∷ []) short_) (first_passed p w.0 others j.passed),
      fit q w.1 (All-head IsShort w.1 (w.2 ∷ []) short_1) (first_passed q w.1 last passed_1),
      fit r w.2 (All-head IsShort w.2 [] short_2) (first_passed r w.2 [] passed_2),
    )

-- of the four words of one pattern the keys alone are judged by length
pub said4_fits : (p q r t : Place) (ws : List Bytes) (x : Said p × Said q × Said r × Said t) → All IsShort ws → said4 p q r t ws ≡ Ok x → Fits p x.0 × Fits q x.1
unfolding said4
said4_fits p q r t ws x short h =
    let s = steps (four ws) _ x h in
    let w = s.middle in
    let short_ = subst (All IsShort) (four_right ws w s.first) short in
    let short_1 = All-tail IsShort w.0 (w.1 ∷ w.2 ∷ w.3 ∷ []) short_ in
    let last : Placed = (r, w.2) ∷ (t, w.3) ∷ [] in
    let others : Placed = (q, w.1) ∷ last in
    let value : Said p × Said q × Said r × Said t = (said p w.0, said q w.1, said r w.2, said t w.3) in
    let j = judged_right false ((p, w.0) ∷ others) value x s.next in
    let passed_1 = others_passed p w.0 others j.passed in
    subst (λ (y : Said p × Said q × Said r × Said t). Fits p y.0 × Fits q y.1) (sym j.value) (
      fit p w.0 (All-head IsShort w.0 (w.1 ∷ w.2 ∷ w.3 ∷ []) short_) (first_passed p w.0 others j.passed),
      fit q w.1 (All-head IsShort w.1 (w.2 ∷ w.3 ∷ []) short_1) (first_passed q w.1 last passed_1),
    )
