-- Laws on what stands in `Requests.antt`.
use Rattle.std.specs.Prelude.{◌≡◌, ℕ, zero, suc, ◌+◌, ◌≤◌, ◌<◌, List, [], ◌∷◌, ◌++◌, length, Ok, Err, refl}
use Rattle.std.proofs.Common.{sym, ap, subst, ◌∙◌, arith}
use Rattle.resp_wire.specs.declared.stop.ProtocolFault.{ProtocolFault}
use Rattle.resp_wire.specs.declared.stop.Stop.TheVariants.{More, Bad}
use Rattle.resp_wire.specs.Grammar.{Part, request, requests_within, requests, after_request, with_request, open_end}
use Rattle.resp_wire.specs.Reading.{ReadsRequest, IsFaulty, IsUnfinished, IsEnd}
use Rattle.resp_wire.specs.Behind.{Shortens}
use Rattle.resp_wire.specs.BehindLaws.{request_shortens}
use Rattle.resp_wire.specs.Longer.{Stays, part_on}
use Rattle.resp_wire.specs.LongerLaws.{request_stays}
use Rattle.resp_wire.specs.Requests.{Found}

-- only what a request leaves is asked of the others
same_after : (f g : List ℕ → Found) (bytes : List ℕ) (r : Part (List (List ℕ))) → Shortens bytes r → ((rest : List ℕ) → length rest < length bytes → f rest ≡ g rest) → after_request f bytes r ≡ after_request g bytes r
same_after f g bytes (Ok x) s h = ap (with_request x.0) (h x.1 s.1)
same_after f g bytes (Err More) s h = refl
same_after f g bytes (Err (Bad kind left)) s h = refl

nothing_read : (f : List ℕ → Found) → after_request f [] (request []) ≡ ([], open_end [])
unfolding request
nothing_read f = refl

enough : (n m : ℕ) (bytes : List ℕ) → length bytes ≤ n → length bytes ≤ m → requests_within n bytes ≡ requests_within m bytes
unfolding requests_within
enough zero zero bytes p q = refl
enough zero (suc m) [] p q = sym (nothing_read (requests_within m))
enough zero (suc m) (c ∷ bytes) p q = absurd (omega arith)
enough (suc n) zero [] p q = nothing_read (requests_within n)
enough (suc n) zero (c ∷ bytes) p q = absurd (omega arith)
enough (suc n) (suc m) bytes p q = same_after (requests_within n) (requests_within m) bytes _ (request_shortens bytes) (λ rest lt. enough n m rest (omega arith) (omega arith))

pub requests_is : (bytes : List ℕ) → requests bytes ≡ after_request requests bytes (request bytes)
unfolding requests requests_within
requests_is [] = sym (nothing_read requests)
requests_is (c ∷ bytes) = same_after (requests_within (length bytes)) requests (c ∷ bytes) _ (request_shortens (c ∷ bytes)) (λ rest lt. enough (length bytes) (length rest) rest (omega arith) (omega arith))

-- ---- the first request

pub reads_request : (bytes : List ℕ) (words : List (List ℕ)) (rest : List ℕ) → request bytes ≡ Ok (words, rest) → ReadsRequest bytes words rest
reads_request bytes words rest e more =
    let h : request (bytes ++ more) ≡ Ok (words, rest ++ more) = subst (λ (r : Part (List (List ℕ))). Stays part_on r (request (bytes ++ more)) more) e (request_stays bytes more) in
    requests_is (bytes ++ more) ∙ ap (after_request requests (bytes ++ more)) h

pub is_faulty : (bytes : List ℕ) (kind : ProtocolFault) (left : ℕ) → request bytes ≡ Err (Bad kind left) → IsFaulty bytes kind left
is_faulty bytes kind left e more =
    let h : request (bytes ++ more) ≡ Err (Bad kind (left + length more)) = subst (λ (r : Part (List (List ℕ))). Stays part_on r (request (bytes ++ more)) more) e (request_stays bytes more) in
    requests_is (bytes ++ more) ∙ ap (after_request requests (bytes ++ more)) h

pub is_unfinished : (bytes : List ℕ) → request bytes ≡ Err More → IsUnfinished bytes
is_unfinished bytes e = requests_is bytes ∙ ap (after_request requests bytes) e

pub request_leaves : (bytes : List ℕ) (words : List (List ℕ)) (rest : List ℕ) → request bytes ≡ Ok (words, rest) → IsEnd bytes rest × (length rest < length bytes)
request_leaves bytes words rest e = subst (Shortens bytes) e (request_shortens bytes)
