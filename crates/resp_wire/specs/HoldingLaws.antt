-- Laws on what stands in `Holding.antt`.
use Rattle.std.specs.Prelude.{◌≡◌, ℕ, zero, suc, ◌+◌, ◌<◌, List, [], ◌∷◌, ◌++◌, length, Ok, Err, refl}
use Rattle.std.proofs.Common.{sym, ap, subst, ◌∙◌, append_assoc, inl, inr, arith}
use Rattle.std.proofs.lemmas.List.{append-nil, length-append}
use Rattle.resp_wire.specs.declared.stop.ProtocolFault.{ProtocolFault}
use Rattle.resp_wire.specs.declared.stop.Stop.TheVariants.{More, Bad}
use Rattle.resp_wire.specs.Grammar.{End, Whole, Open, Fault, Part, open_end, request, requests, with_request}
use Rattle.resp_wire.specs.Reading.{ReadsRequest, IsFaulty, IsUnfinished}
use Rattle.resp_wire.specs.Behind.{Shortens}
use Rattle.resp_wire.specs.BehindLaws.{request_shortens}
use Rattle.resp_wire.specs.Longer.{Stays, part_on}
use Rattle.resp_wire.specs.LongerLaws.{request_stays}
use Rattle.resp_wire.specs.RequestLaws.{reads_request, is_faulty, is_unfinished}
use Rattle.resp_wire.specs.Holding.{Words, Requests, HoldsRequests, Split, RequestsGoOn, FaultsStay, WholesJoin, NoneIsAFront}

-- ---- what was read

pub reads_here : (a : List ℕ) → ReadsRequest a [] a
reads_here a more = refl

pub reads_both_requests : (a b : List ℕ) (words : Words) (c : List ℕ) → ReadsRequest a [] b → ReadsRequest b words c → ReadsRequest a words c
reads_both_requests a b words c p q more = p more ∙ q more

pub reads_fed : (a : List ℕ) (words : Words) (b piece : List ℕ) → ReadsRequest a words b → ReadsRequest (a ++ piece) words (b ++ piece)
reads_fed a words b piece p more =
    ap requests (append_assoc a piece more) ∙ p (piece ++ more) ∙ ap (λ (bytes : List ℕ). with_request words (requests bytes)) (sym (append_assoc b piece more))

same_end : (words : Words) (found : Requests) → (with_request words found).1 ≡ found.1
same_end [] found = refl
same_end (word ∷ words) found = refl

-- what was read leaves the end as it is
pub reads_end : (old : List ℕ) (words : Words) (new more : List ℕ) → ReadsRequest old words new → (requests (old ++ more)).1 ≡ (requests (new ++ more)).1
reads_end old words new more p = ap (λ (found : Requests). found.1) (p more) ∙ same_end words (requests (new ++ more))

-- ---- what was handed out

pub holds_here : (a : List ℕ) → HoldsRequests a [] a
holds_here a more = refl

one_more : (words : Words) (found : Requests) → 0 < length words → with_request words found ≡ ((words ∷ []) ++ found.0, found.1)
one_more [] found some = absurd (omega arith)
one_more (word ∷ words) found some = refl

pub holds_one : (old : List ℕ) (words : Words) (new : List ℕ) → 0 < length words → ReadsRequest old words new → HoldsRequests old (words ∷ []) new
holds_one old words new some p more = p more ∙ one_more words (requests (new ++ more)) some

pub holds_skip : (old new : List ℕ) → ReadsRequest old [] new → HoldsRequests old [] new
holds_skip old new p more = p more

pub holds_then : (a : List ℕ) (first : List Words) (b : List ℕ) (then : List Words) (c : List ℕ) → HoldsRequests a first b → HoldsRequests b then c → HoldsRequests a (first ++ then) c
holds_then a first b then c p q more = p more ∙ ap (λ (found : Requests). (first ++ found.0, found.1)) (q more) ∙ ap (λ (all : List Words). (all, (requests (c ++ more)).1)) (sym (append_assoc first then (requests (c ++ more)).0))

pub holds_fed : (a : List ℕ) (served : List Words) (b piece : List ℕ) → HoldsRequests a served b → HoldsRequests (a ++ piece) served (b ++ piece)
holds_fed a served b piece p more =
    ap requests (append_assoc a piece more) ∙ p (piece ++ more) ∙ ap (λ (bytes : List ℕ). (served ++ (requests bytes).0, (requests bytes).1)) (sym (append_assoc b piece more))

-- what was handed out leaves the end as it is
pub holds_end : (old : List ℕ) (served : List Words) (new more : List ℕ) → HoldsRequests old served new → (requests (old ++ more)).1 ≡ (requests (new ++ more)).1
holds_end old served new more p = ap (λ (found : Requests). found.1) (p more)

-- the same where the input ends here
holds_now : (old : List ℕ) (served : List Words) (new : List ℕ) → HoldsRequests old served new → requests old ≡ (served ++ (requests new).0, (requests new).1)
holds_now old served new p = ap requests (sym (append-nil old)) ∙ p [] ∙ ap (λ (bytes : List ℕ). (served ++ (requests bytes).0, (requests bytes).1)) (append-nil new)

pub holds_unfinished : (taken : List ℕ) (served : List Words) (rest : List ℕ) → IsUnfinished rest → HoldsRequests taken served rest → requests taken ≡ (served, open_end rest)
holds_unfinished taken served rest h p =
    holds_now taken served rest p ∙ ap (λ (found : Requests). (served ++ found.0, found.1)) h ∙ ap (λ (all : List Words). (all, open_end rest)) (append-nil served)

pub unfinished_left : (bytes : List ℕ) (n : ℕ) → length bytes ≡ n → 0 < n → IsUnfinished bytes → (requests bytes).1 ≡ Open n
unfinished_left [] n e some h = absurd (omega arith)
unfinished_left (c ∷ bytes) n e some h = ap (λ (found : Requests). found.1) h ∙ ap Open (omega arith)

-- a text of which less than a request is left holds what was handed out, and no more
pub holds_all : (taken : List ℕ) (served : List Words) (rest : List ℕ) → IsUnfinished rest → HoldsRequests taken served rest → (requests taken).0 ≡ served
holds_all taken served rest h p = ap (λ (found : Requests). found.0) (holds_unfinished taken served rest h p)

-- ---- faults

pub faulty_then : (a b : List ℕ) (kind : ProtocolFault) (left : ℕ) → ReadsRequest a [] b → IsFaulty b kind left → IsFaulty a kind left
faulty_then a b kind left p q more = p more ∙ q more

-- a fault comes again
pub faulty_on : (a b : List ℕ) (kind : ProtocolFault) (left : ℕ) → ReadsRequest a [] b → IsFaulty a kind left → IsFaulty b kind left
faulty_on a b kind left p q more = sym (p more) ∙ q more

pub faulty_fed : (a : List ℕ) (kind : ProtocolFault) (left : ℕ) (piece : List ℕ) → IsFaulty a kind left → IsFaulty (a ++ piece) kind (left + length piece)
faulty_fed a kind left piece p more =
    let e : left + length (piece ++ more) ≡ left + length piece + length more = omega (arith, length-append piece more) in
    ap requests (append_assoc a piece more) ∙ p (piece ++ more) ∙ ap (λ (n : ℕ). ([], Fault kind n)) e

pub faulty_here : (a : List ℕ) (kind : ProtocolFault) (left : ℕ) → IsFaulty a kind left → requests a ≡ ([], Fault kind left)
faulty_here a kind left p = ap requests (sym (append-nil a)) ∙ p [] ∙ ap (λ (n : ℕ). ([], Fault kind n)) (omega arith)

pub faulty_same : (a : List ℕ) (kind : ProtocolFault) (left : ℕ) (kind' : ProtocolFault) (left' : ℕ) → IsFaulty a kind left → IsFaulty a kind' left' → (kind ≡ kind') × (left ≡ left')
faulty_same a kind left kind' left' p q =
    let same : Fault kind left ≡ Fault kind' left' = ap (λ (found : Requests). found.1) (sym (faulty_here a kind left p) ∙ faulty_here a kind' left' q) in
    (cc, cc)

open_is_none : (rest : List ℕ) (kind : ProtocolFault) (left : ℕ) → open_end rest ≡ Fault kind left → ⊥
open_is_none [] kind left e = cc
open_is_none (c ∷ rest) kind left e = cc

pub faulty_not_unfinished : (a : List ℕ) (kind : ProtocolFault) (left : ℕ) → IsFaulty a kind left → IsUnfinished a → ⊥
faulty_not_unfinished a kind left p q = open_is_none a kind left (ap (λ (found : Requests). found.1) (sym q ∙ faulty_here a kind left p))

no_more : (words : Words) (found : Requests) (end : End) → with_request words found ≡ ([], end) → words ≡ []
no_more [] found end e = refl
no_more (word ∷ words) found end e = absurd (let k : (word ∷ words) ∷ found.0 ≡ [] = ap (λ (f : Requests). f.0) e in cc)

pub faulty_no_words : (a : List ℕ) (kind : ProtocolFault) (left : ℕ) (words : Words) (b : List ℕ) → IsFaulty a kind left → ReadsRequest a words b → words ≡ []
faulty_no_words a kind left words b p q = no_more words (requests (b ++ [])) (Fault kind (left + 0)) (sym (q []) ∙ p [])

pub holds_faulty : (taken : List ℕ) (served : List Words) (rest : List ℕ) (kind : ProtocolFault) (left : ℕ) → IsFaulty rest kind left → HoldsRequests taken served rest → requests taken ≡ (served, Fault kind left)
holds_faulty taken served rest kind left h p =
    holds_now taken served rest p ∙ ap (λ (found : Requests). (served ++ found.0, found.1)) (faulty_here rest kind left h) ∙ ap (λ (all : List Words). (all, Fault kind left)) (append-nil served)

-- ---- every text

read_split : (bytes : List ℕ) (words : Words) (rest : List ℕ) → ReadsRequest bytes words rest → Split rest → Split bytes
read_split bytes [] rest p s = record { served = s.served; rest = s.rest; holds = holds_then bytes [] rest s.served s.rest (holds_skip bytes rest p) s.holds; stops = s.stops }
read_split bytes (word ∷ words) rest p s = record {
  served = (word ∷ words) ∷ s.served;
  rest = s.rest;
  holds = holds_then bytes ((word ∷ words) ∷ []) rest s.served s.rest (holds_one bytes (word ∷ words) rest (omega arith) p) s.holds;
  stops = s.stops;
}

split_by : (bytes : List ℕ) (r : Part Words) → request bytes ≡ r → Shortens bytes r → ((rest : List ℕ) → length rest < length bytes → Split rest) → Split bytes
split_by bytes (Ok x) e s others = read_split bytes x.0 x.1 (reads_request bytes x.0 x.1 e) (others x.1 s.1)
split_by bytes (Err More) e s others = record { served = []; rest = bytes; holds = holds_here bytes; stops = inl (is_unfinished bytes e) }
split_by bytes (Err (Bad kind left)) e s others = record { served = []; rest = bytes; holds = holds_here bytes; stops = inr (kind, (left, is_faulty bytes kind left e)) }

split_within : (n : ℕ) (bytes : List ℕ) → length bytes < n → Split bytes
split_within zero bytes h = absurd (omega arith)
split_within (suc n) bytes h = split_by bytes (request bytes) refl (request_shortens bytes) (λ rest lt. split_within n rest (omega arith))

pub split : (bytes : List ℕ) → Split bytes
split bytes = split_within (length bytes + 1) bytes (omega arith)

pub split_served : (bytes : List ℕ) (s : Split bytes) → (requests bytes).0 ≡ s.served
split_served bytes s = elim s.stops [
  | inl unfinished ↦ holds_all bytes s.served s.rest unfinished s.holds
  | inr fault ↦ ap (λ (found : Requests). found.0) (holds_faulty bytes s.served s.rest fault.0 fault.1.0 fault.1.1 s.holds)
]

pub requests_go_on : RequestsGoOn
requests_go_on bytes more =
    let s = split bytes in
    ((requests (s.rest ++ more)).0, ap (λ (found : Requests). found.0) (s.holds more) ∙ ap (λ (all : List Words). all ++ (requests (s.rest ++ more)).0) (sym (split_served bytes s)))

pub faults_stay : FaultsStay
faults_stay bytes more kind left e =
    let s = split bytes in
    elim s.stops [
      | inl unfinished ↦ absurd (open_is_none s.rest kind left (sym (ap (λ (found : Requests). found.1) (holds_unfinished bytes s.served s.rest unfinished s.holds)) ∙ e))
      | inr fault ↦
          let same : Fault fault.0 fault.1.0 ≡ Fault kind left = sym (ap (λ (found : Requests). found.1) (holds_faulty bytes s.served s.rest fault.0 fault.1.0 fault.1.1 s.holds)) ∙ e in
          let kinds : fault.0 ≡ kind = cc in
          let lefts : fault.1.0 ≡ left = cc in
          s.holds more ∙ ap (λ (found : Requests). (s.served ++ found.0, found.1)) (fault.1.1 more) ∙ ap (λ (all : List Words). (all, Fault fault.0 (fault.1.0 + length more))) (append-nil s.served ∙ sym (split_served bytes s))
          ∙ ap (λ (k : ProtocolFault). ((requests bytes).0, Fault k (fault.1.0 + length more))) kinds ∙ ap (λ (n : ℕ). ((requests bytes).0, Fault kind (n + length more))) lefts
    ]

open_is_whole : (rest : List ℕ) → open_end rest ≡ Whole → rest ≡ []
open_is_whole [] e = refl
open_is_whole (c ∷ rest) e = absurd cc

pub wholes_join : WholesJoin
wholes_join bytes e =
    let s = split bytes in
    elim s.stops [
      | inl unfinished ↦
          let none : s.rest ≡ [] = open_is_whole s.rest (sym (ap (λ (found : Requests). found.1) (holds_unfinished bytes s.served s.rest unfinished s.holds)) ∙ e) in
          subst (λ (served : List Words). HoldsRequests bytes served []) (sym (split_served bytes s)) (subst (λ (rest : List ℕ). HoldsRequests bytes s.served rest) none s.holds)
      | inr fault ↦
          let same : Fault fault.0 fault.1.0 ≡ Whole = sym (ap (λ (found : Requests). found.1) (holds_faulty bytes s.served s.rest fault.0 fault.1.0 fault.1.1 s.holds)) ∙ e in
          absurd cc
    ]

same_rest : (r : Part Words) (first : Words) (a : List ℕ) (second : Words) (b : List ℕ) → r ≡ Ok (first, a) → r ≡ Ok (second, b) → a ≡ b
same_rest r first a second b p q = let k : (first, a) ≡ (second, b) = cc in ap (λ (x : Words × List ℕ). x.1) k

pub none_is_a_front : NoneIsAFront
none_is_a_front bytes more first second p q =
    let h : request (bytes ++ more) ≡ Ok (first, more) = subst (λ (r : Part Words). Stays part_on r (request (bytes ++ more)) more) p (request_stays bytes more) in
    same_rest (request (bytes ++ more)) first more second [] h q
