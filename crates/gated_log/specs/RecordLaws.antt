-- What open records and a shut gate stand for.
use Rattle.std.proofs.Common.{◌≡◌, ◌≢◌, inl, inr, ℕ, zero, suc, ◌+◌, ◌<◌, ◌≤◌, ◌^◌, Bool, true, false, ◌==◌, ◌&&◌, if◌then◌else◌, leb, List, [], ◌∷◌, ◌++◌, length, take, drop, refl, sym, ◌∙◌, ap, arith, append_assoc, length-append, length-drop}
use Rattle.std.proofs.lemmas.List.{take_at, drop_at, append-nil, drop-drop}
use Rattle.std.proofs.lemmas.Bool.{cases_eq}
use Rattle.std.proofs.lemmas.Bool.Decides.{nat_tests}
use Rattle.kv_base.specs.Fields.{u32, text}
use Rattle.kv_base.specs.FieldLaws.{length-u32, length-text}
use Rattle.record_body.specs.Framed.{framed_number, framed}
use Rattle.record_body.specs.FramedLaws.{number_of-u32}
use Rattle.gated_log.specs.Gated.{open_bodies, records, gated, AllBodiesFit, IsEndOfRecords, EndsAt, IsShut, IsTried, HasShutGate, HasRecordsOrOneMore}

-- any number that is not below the file's length serves
open_bodies_same : (m n : ℕ) (file : List ℕ) → length file ≤ m → length file ≤ n → open_bodies m file ≡ open_bodies n file
unfolding open_bodies
open_bodies_same zero zero file le_m le_n = refl
open_bodies_same zero (suc n) [] le_m le_n = refl
open_bodies_same zero (suc n) (gate ∷ rest) le_m le_n = absurd (omega arith)
open_bodies_same (suc m) zero [] le_m le_n = refl
open_bodies_same (suc m) zero (gate ∷ rest) le_m le_n = absurd (omega arith)
open_bodies_same (suc m) (suc n) [] le_m le_n = refl
open_bodies_same (suc m) (suc n) (gate ∷ rest) le_m le_n =
    let k = framed_number (take 4 rest) in
    let again : open_bodies m (drop (4 + k) rest) ≡ open_bodies n (drop (4 + k) rest) =
    open_bodies_same m n (drop (4 + k) rest) (omega (arith, length-drop (4 + k) rest)) (omega (arith, length-drop (4 + k) rest)) in
    rw again refl

-- a gate that is not open
pub records_shut : (gate : ℕ) (rest : List ℕ) → gate ≢ 1 → records (gate ∷ rest) ≡ []
unfolding records open_bodies
records_shut gate rest shut =
    let closed : (gate == 1) ≡ false = grind (arith, nat_tests) in
    rw closed refl

pub records_none : records [] ≡ []
unfolding records open_bodies
records_none = refl

open_step : (fuel n : ℕ) (rest body tail : List ℕ) → framed_number (take 4 rest) ≡ n → 4 + n ≤ length rest → take n (drop 4 rest) ≡ body → drop (4 + n) rest ≡ tail
    → open_bodies (suc fuel) (1 ∷ rest) ≡ body ∷ open_bodies fuel tail
unfolding open_bodies
open_step fuel n rest body tail number room is_body is_tail =
    let fits : leb (4 + n) (length rest) ≡ true = grind (arith, nat_tests) in
    rw (number, fits, is_body, is_tail) refl

-- an open record, and what stands behind it
pub records_open : (body rest : List ℕ) → length body < 2 ^ 32 → records (1 ∷ (text body ++ rest)) ≡ body ∷ records rest
unfolding records text
records_open body rest fits =
    let n = length body in
    let all = text body ++ rest in
    let split : all ≡ u32 n ++ (body ++ rest) = append_assoc (u32 n) body rest in
    let head : take 4 all ≡ u32 n = ap (λ (l : List ℕ). take 4 l) split ∙ take_at (u32 n) (body ++ rest) 4 (length-u32 n) in
    let behind : drop 4 all ≡ body ++ rest = ap (λ (l : List ℕ). drop 4 l) split ∙ drop_at (u32 n) (body ++ rest) 4 (length-u32 n) in
    let number : framed_number (take 4 all) ≡ n = ap framed_number head ∙ number_of-u32 n fits in
    let long : length all ≡ 4 + n + length rest = omega (arith, ap length split, length-append (u32 n) (body ++ rest), length-u32 n, length-append body rest) in
    open_step (length all) n all body rest number (omega arith) (ap (λ (l : List ℕ). take n l) behind ∙ take_at body rest n refl)
    (sym (drop-drop n 4 all) ∙ ap (λ (l : List ℕ). drop n l) behind ∙ drop_at body rest n refl)
    ∙ ap (λ (bs : List (List ℕ)). body ∷ bs) (open_bodies_same (length all) (length rest) rest (omega arith) (omega arith))

-- open records, and what stands behind them
pub records-gated : (bodies : List (List ℕ)) (rest : List ℕ) → AllBodiesFit bodies → records (gated bodies ++ rest) ≡ bodies ++ records rest
unfolding gated
records-gated [] rest fit = refl
records-gated (body ∷ bodies) rest fit =
    ap (λ (l : List ℕ). records (1 ∷ l)) (append_assoc (text body) (gated bodies) rest)
    ∙ records_open body (gated bodies ++ rest) fit.0
    ∙ ap (λ (bs : List (List ℕ)). body ∷ bs) (records-gated bodies rest fit.1)

-- an open record whose body is not whole
pub records_cut : (rest : List ℕ) (n : ℕ) → framed_number (take 4 rest) ≡ n → length rest < 4 + n → records (1 ∷ rest) ≡ []
unfolding records open_bodies
records_cut rest n number short =
    let fits : leb (4 + n) (length rest) ≡ false = grind (arith, nat_tests) in
    rw (number, fits) refl

-- one byte is no record
pub small_records : (file : List ℕ) → length file ≤ 1 → records file ≡ []
unfolding records open_bodies
small_records [] small = refl
small_records (gate ∷ []) small =
    let fits : leb (4 + framed_number []) 0 ≡ false = grind (arith, nat_tests) in
    rw fits (both_false (gate == 1) _)
  where
    both_false : (b : Bool) (x : List (List ℕ)) → (if b && false then x else []) ≡ []
    both_false true x = refl
    both_false false x = refl
small_records (gate ∷ b ∷ rest) small = absurd (omega arith)

-- ---- one record more

pub gated-push : (bodies : List (List ℕ)) (body rest : List ℕ) → gated (bodies ++ body ∷ []) ++ rest ≡ gated bodies ++ 1 ∷ (text body ++ rest)
unfolding gated
gated-push [] body rest = ap (λ (l : List ℕ). 1 ∷ l ++ rest) (append-nil (text body))
gated-push (b ∷ bodies) body rest =
    ap (λ (l : List ℕ). 1 ∷ l) (append_assoc (text b) (gated (bodies ++ body ∷ [])) rest ∙ ap (λ (l : List ℕ). text b ++ l) (gated-push bodies body rest) ∙ sym (append_assoc (text b) (gated bodies) (1 ∷ (text body ++ rest))))

pub length-gated-push : (bodies : List (List ℕ)) (body : List ℕ) → length (gated (bodies ++ body ∷ [])) ≡ length (gated bodies) + 5 + length body
length-gated-push bodies body =
    let is : gated (bodies ++ body ∷ []) ≡ gated bodies ++ 1 ∷ text body = sym (append-nil (gated (bodies ++ body ∷ []))) ∙ gated-push bodies body [] ∙ ap (λ (l : List ℕ). gated bodies ++ 1 ∷ l) (append-nil (text body)) in
    omega (arith, ap length is, length-append (gated bodies) (1 ∷ text body), length-text body)

AllFit-push : (bodies : List (List ℕ)) (body : List ℕ) → AllBodiesFit bodies → length body < 2 ^ 32 → AllBodiesFit (bodies ++ body ∷ [])
AllFit-push [] body fit fits = (fits, tt)
AllFit-push (b ∷ bodies) body fit fits = (fit.0, AllFit-push bodies body fit.1 fits)

-- where no record is, the end is at 0
pub end_none : IsEndOfRecords 0 []
unfolding gated
end_none = record { fits = tt; place = refl }

-- the end moves by the record's length: a gate, four bytes and the body
pub end_more : (end : ℕ) (bodies : List (List ℕ)) (body : List ℕ) → IsEndOfRecords end bodies → length body < 2 ^ 32 → IsEndOfRecords (end + 5 + length body) (bodies ++ body ∷ [])
end_more end bodies body at fits = record {
  fits = AllFit-push bodies body at.fits fits;
  place = omega (arith, at.place, length-gated-push bodies body);
}

-- ---- what the states of a file stand for

pub ends_records : (end : ℕ) (bodies : List (List ℕ)) (file : List ℕ) → EndsAt end bodies file → records file ≡ bodies
ends_records end bodies file ends =
    ap records ends.is ∙ records-gated bodies ends.tail ends.at.fits ∙ ap (λ (bs : List (List ℕ)). bodies ++ bs) ends.none ∙ append-nil bodies

pub shut_ends : (end : ℕ) (bodies : List (List ℕ)) (file : List ℕ) → IsShut end bodies file → EndsAt end bodies file
shut_ends end bodies file shut = record { at = shut.at; tail = shut.gate ∷ shut.rest; none = records_shut shut.gate shut.rest shut.closed; is = shut.is }

pub shut_records : (end : ℕ) (bodies : List (List ℕ)) (file : List ℕ) → IsShut end bodies file → records file ≡ bodies
shut_records end bodies file shut = ends_records end bodies file (shut_ends end bodies file shut)

-- what stands at the end
pub tail_at : (end : ℕ) (bodies : List (List ℕ)) (d : List ℕ) (ends : EndsAt end bodies d) → drop end d ≡ ends.tail
tail_at end bodies d ends = ap (λ (l : List ℕ). drop end l) ends.is ∙ drop_at (gated bodies) ends.tail end (sym ends.at.place)

-- the end, where the gate that stands there is not open
pub shut_here : (end : ℕ) (bodies : List (List ℕ)) (d : List ℕ) → EndsAt end bodies d → HasShutGate end d → IsShut end bodies d
shut_here end bodies d ends gate = record {
  at = ends.at;
  gate = gate.gate;
  rest = gate.rest;
  closed = gate.closed;
  is = ends.is ∙ ap (λ (l : List ℕ). gated bodies ++ l) (sym (tail_at end bodies d ends) ∙ gate.is);
}

pub tried_records : (end : ℕ) (bodies : List (List ℕ)) (body file : List ℕ) → IsTried end bodies body file → HasRecordsOrOneMore bodies body file
unfolding framed
tried_records end bodies body file tried = elim (cases_eq tried.gate 1) [
  | inl is_open ↦
      let added : file ≡ gated (bodies ++ body ∷ []) ++ 0 ∷ tried.rest =
      tried.is ∙ ap (λ (g : ℕ). gated bodies ++ g ∷ (framed body ++ tried.rest)) is_open
      ∙ ap (λ (l : List ℕ). gated bodies ++ 1 ∷ l) (append_assoc (text body) (0 ∷ []) tried.rest)
      ∙ sym (gated-push bodies body (0 ∷ tried.rest)) in
      inr (shut_records (end + 5 + length body) (bodies ++ body ∷ []) file (record { at = end_more end bodies body tried.at tried.fits; gate = 0; rest = tried.rest; closed = (λ same. absurd (omega arith)); is = added }))
  | inr shut ↦ inl (shut_records end bodies file (record { at = tried.at; gate = tried.gate; rest = framed body ++ tried.rest; closed = shut; is = tried.is }))
]
