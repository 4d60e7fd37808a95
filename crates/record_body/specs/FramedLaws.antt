-- Laws on what stands in `Framed.antt`.
use Rattle.std.specs.Prelude.{◌≡◌, ℕ, ◌+◌, ◌-◌, ◌<◌, ◌≤◌, ◌^◌, List, [], ◌∷◌, ◌++◌, length, take, drop}
use Rattle.std.proofs.Common.{sym, ◌∙◌, ap, arith, append_assoc, length-append}
use Rattle.std.proofs.lemmas.List.{take_at, drop_at, drop-append-le}
use Rattle.std.proofs.lemmas.Nat.{from_be_bytes-to_be_bytes_4}
use Rattle.kv_base.specs.Fields.{u32, text}
use Rattle.kv_base.specs.FieldLaws.{length-u32, length-text}
use Rattle.record_body.specs.Framed.{framed_number, framed, framed_body, IsFramed}

-- ---- laws

pub number_of-u32 : (n : ℕ) → n < 2 ^ 32 → framed_number (u32 n) ≡ n
unfolding u32 framed_number
number_of-u32 n lt = from_be_bytes-to_be_bytes_4 n lt

pub length-framed : (body : List ℕ) → length (framed body) ≡ length body + 5
unfolding framed
length-framed body = omega (arith, length-append (text body) (0 ∷ []), length-text body)

pub body_of-framed : (body : List ℕ) → framed_body (framed body) ≡ body
unfolding framed_body framed text
body_of-framed body =
    let behind : drop 4 (framed body) ≡ body ++ 0 ∷ [] =
    ap (λ (l : List ℕ). drop 4 l) (append_assoc (u32 (length body)) body (0 ∷ [])) ∙ drop_at (u32 (length body)) (body ++ 0 ∷ []) 4 (length-u32 (length body)) in
    ap (λ (l : List ℕ). take (length (framed body) - 5) l) behind ∙ take_at body (0 ∷ []) (length (framed body) - 5) (omega (arith, length-framed body))

pub is_framed : (bytes body : List ℕ) → bytes ≡ framed body → length body < 2 ^ 32 → IsFramed bytes
is_framed bytes body is limit =
    let same : framed_body bytes ≡ body = ap framed_body is ∙ body_of-framed body in
    record {
      is = is ∙ ap framed (sym same);
      long = omega (arith, ap length is, length-framed body, ap length same);
      limit = omega (arith, ap length same);
    }

-- a body with room before it and a closed gate behind it, once the length is filled in
pub framed_of : (buffer : List ℕ) (n : ℕ) → n ≡ length (drop 4 buffer) → 4 ≤ length buffer → u32 n ++ drop 4 (buffer ++ 0 ∷ []) ≡ framed (drop 4 buffer)
unfolding framed text
framed_of buffer n is room =
    ap (λ (l : List ℕ). u32 n ++ l) (drop-append-le 4 buffer (0 ∷ []) room)
    ∙ sym (append_assoc (u32 n) (drop 4 buffer) (0 ∷ []))
    ∙ ap (λ (k : ℕ). (u32 k ++ drop 4 buffer) ++ 0 ∷ []) is

-- what stands between the length and the gate, as it is read
pub framed_body_is_read : (bytes : List ℕ) (n : ℕ) → IsFramed bytes → n ≡ length bytes → drop 4 (take (n - 1) bytes) ≡ framed_body bytes
unfolding framed text
framed_body_is_read bytes n frame is =
    let body = framed_body bytes in
    let before = u32 (length body) in
    let front : take (n - 1) bytes ≡ text body =
    ap (λ (l : List ℕ). take (n - 1) l) frame.is ∙ take_at (text body) (0 ∷ []) (n - 1) (omega (arith, frame.long, length-text body)) in
    ap (λ (l : List ℕ). drop 4 l) front ∙ drop_at before body 4 (length-u32 (length body))
