-- What writes make of the bytes of a gated file.
use Rattle.std.proofs.Common.{◌≡◌, ◌≢◌, ◌⊎◌, inl, inr, ℕ, ◌+◌, ◌<◌, ◌≤◌, ◌^◌, min, List, [], ◌∷◌, ◌++◌, length, get_or, take, drop, refl, sym, ◌∙◌, ap, subst, arith, append_assoc, length-append, take-append-drop}
use Rattle.std.proofs.lemmas.List.{take_at, drop_at, drop_more, drop-drop, length-take-le}
use Rattle.std.proofs.lemmas.Bool.{cases_eq}
use Rattle.kv_outside.specs.Files.{HasWritten, Torn}
use Rattle.kv_outside.specs.ToldLaws.{holds_written, torn_behind}
use Rattle.kv_base.specs.Fields.{text}
use Rattle.record_body.specs.Framed.{framed}
use Rattle.gated_log.specs.Gated.{records, gated, EndsAt, IsShut, IsTried, HasShutGate, HasNoShutGate}
use Rattle.gated_log.specs.RecordLaws.{tail_at, gated-push, end_none, end_more, records_shut, small_records}

-- these bytes stand at this place
pub record Written (at : ℕ) (bytes file : List ℕ) : Type 0 where
  pub behind : List ℕ
  pub is : drop at file ≡ bytes ++ behind

pub held_written : (at : ℕ) (bytes d c : List ℕ) → at ≤ length d → HasWritten at bytes d c → Written at bytes c
held_written at bytes d c within holds =
    let front = take at d in
    let rest = drop (length bytes) (drop at d) in
    let long : length front ≡ at = length-take-le at d within in
    let is : c ≡ front ++ (bytes ++ rest) = holds_written at front (drop at d) bytes d c (sym (take-append-drop at d)) long holds in
    record { behind = rest; is = ap (λ (l : List ℕ). drop at l) is ∙ drop_at front (bytes ++ rest) at long }

not_open : (gate : ℕ) → gate ≡ 0 → gate ≢ 1
not_open gate shut same = absurd (omega arith)

-- ---- behind the gate

-- a write behind the gate that may be cut short
pub torn_shut : (end at n : ℕ) (bodies : List (List ℕ)) (d c : List ℕ) → end < at → IsShut end bodies d → Torn at n d c → IsShut end bodies c
torn_shut end at n bodies d c behind shut torn =
    let front = gated bodies ++ shut.gate ∷ [] in
    let split : d ≡ front ++ shut.rest = shut.is ∙ sym (append_assoc (gated bodies) (shut.gate ∷ []) shut.rest) in
    let new = torn_behind at n front shut.rest d c split (omega (arith, shut.at.place, length-append (gated bodies) (shut.gate ∷ []))) torn in
    record { at = shut.at; gate = shut.gate; rest = new.0; closed = shut.closed; is = new.1 ∙ append_assoc (gated bodies) (shut.gate ∷ []) new.0 }

-- a framed body that stands behind the gate
pub written_framed : (end : ℕ) (bodies : List (List ℕ)) (body bytes c : List ℕ) → bytes ≡ framed body → length body < 2 ^ 32 → IsShut end bodies c → Written (end + 1) bytes c → IsTried end bodies body c
written_framed end bodies body bytes c frame fits shut written =
    let split : c ≡ (gated bodies ++ shut.gate ∷ []) ++ shut.rest = shut.is ∙ sym (append_assoc (gated bodies) (shut.gate ∷ []) shut.rest) in
    let stands : drop (end + 1) c ≡ shut.rest = ap (λ (l : List ℕ). drop (end + 1) l) split ∙ drop_at (gated bodies ++ shut.gate ∷ []) shut.rest (end + 1) (omega (arith, shut.at.place, length-append (gated bodies) (shut.gate ∷ []))) in
    record {
      at = shut.at;
      fits = fits;
      gate = shut.gate;
      rest = written.behind;
      is = shut.is ∙ ap (λ (l : List ℕ). gated bodies ++ shut.gate ∷ l) (sym stands ∙ written.is) ∙ ap (λ (l : List ℕ). gated bodies ++ shut.gate ∷ (l ++ written.behind)) frame;
    }

-- ---- the gate

-- a write of the gate that may be cut short
pub torn_gate : (end : ℕ) (bodies : List (List ℕ)) (body d c : List ℕ) → IsTried end bodies body d → Torn end 1 d c → IsTried end bodies body c
torn_gate end bodies body d c tried torn =
    let tail = framed body ++ tried.rest in
    let is = tried.at.place in
    let front : take end c ≡ gated bodies = torn.before ∙ ap (λ (l : List ℕ). take end l) tried.is ∙ take_at (gated bodies) (tried.gate ∷ tail) end (sym is) in
    let split : d ≡ (gated bodies ++ tried.gate ∷ []) ++ tail = tried.is ∙ sym (append_assoc (gated bodies) (tried.gate ∷ []) tail) in
    let back : drop (end + 1) c ≡ tail = torn.after ∙ ap (λ (l : List ℕ). drop (end + 1) l) split ∙ drop_at (gated bodies ++ tried.gate ∷ []) tail (end + 1) (omega (arith, is, length-append (gated bodies) (tried.gate ∷ []))) in
    let long : end < length c = omega (arith, torn.no_shorter, is, ap length tried.is, length-append (gated bodies) (tried.gate ∷ tail)) in
    let behind : drop end c ≡ get_or c end 0 ∷ tail = drop_more c end 0 long ∙ ap (λ (l : List ℕ). get_or c end 0 ∷ l) back in
    record {
      at = tried.at;
      fits = tried.fits;
      gate = get_or c end 0;
      rest = tried.rest;
      is = sym (take-append-drop end c) ∙ ap (λ (l : List ℕ). l ++ drop end c) front ∙ ap (λ (l : List ℕ). gated bodies ++ l) behind;
    }

-- the gate that was written is the one that stands there
gate_is : (end gate : ℕ) (bodies : List (List ℕ)) (body c : List ℕ) (tried : IsTried end bodies body c) → Written end (gate ∷ []) c → tried.gate ≡ gate
gate_is end gate bodies body c tried written =
    first tried.gate gate (framed body ++ tried.rest) written.behind
    (sym (ap (λ (l : List ℕ). drop end l) tried.is ∙ drop_at (gated bodies) (tried.gate ∷ (framed body ++ tried.rest)) end (sym tried.at.place)) ∙ written.is)
  where
    first : (a b : ℕ) (x y : List ℕ) → a ∷ x ≡ b ∷ y → a ≡ b
    first a b x y same = cc

-- the gate that was opened, and the gate that was closed again
pub opened : (end : ℕ) (bodies : List (List ℕ)) (body c : List ℕ) → IsTried end bodies body c → Written end (1 ∷ []) c → IsShut (end + 5 + length body) (bodies ++ body ∷ []) c
unfolding framed
opened end bodies body c tried written = record {
  at = end_more end bodies body tried.at tried.fits;
  gate = 0;
  rest = tried.rest;
  closed = not_open 0 refl;
  is = tried.is
      ∙ ap (λ (gate : ℕ). gated bodies ++ gate ∷ (framed body ++ tried.rest)) (gate_is end 1 bodies body c tried written)
      ∙ ap (λ (l : List ℕ). gated bodies ++ 1 ∷ l) (append_assoc (text body) (0 ∷ []) tried.rest)
      ∙ sym (gated-push bodies body (0 ∷ tried.rest));
}

pub closed_again : (end : ℕ) (bodies : List (List ℕ)) (body c : List ℕ) → IsTried end bodies body c → Written end (0 ∷ []) c → IsShut end bodies c
closed_again end bodies body c tried written = record {
  at = tried.at;
  gate = tried.gate;
  rest = framed body ++ tried.rest;
  closed = not_open tried.gate (gate_is end 0 bodies body c tried written);
  is = tried.is;
}

-- ---- the end, which may have no closed gate

-- the end is not behind the file
pub end_within : (end n place : ℕ) (bodies : List (List ℕ)) (d : List ℕ) → EndsAt end bodies d → n ≡ length d → place ≡ min end n → place ≡ end
end_within end n place bodies d ends is least = omega (arith, ends.at.place, ap length ends.is, length-append (gated bodies) ends.tail)

pub closed_here : (end : ℕ) (bodies : List (List ℕ)) (d c : List ℕ) → EndsAt end bodies d → HasWritten end (0 ∷ []) d c → IsShut end bodies c
closed_here end bodies d c ends holds = record {
  at = ends.at;
  gate = 0;
  rest = drop 1 ends.tail;
  closed = not_open 0 refl;
  is = holds_written end (gated bodies) ends.tail (0 ∷ []) d c ends.is (sym ends.at.place) holds;
}

-- a closed gate that was written is one
pub gate_written : (place : ℕ) (c : List ℕ) → Written place (0 ∷ []) c → HasShutGate place c
gate_written place c written = record { gate = 0; rest = written.behind; closed = not_open 0 refl; is = written.is }

-- over no record and no closed gate, whatever the gate is made, no record is there
any_gate : (tail : List ℕ) (gate : ℕ) → records tail ≡ [] → (tail ≡ []) ⊎ ((rest : List ℕ) × (tail ≡ 1 ∷ rest)) → records (gate ∷ drop 1 tail) ≡ []
any_gate tail gate none (inl empty) = small_records (gate ∷ drop 1 tail) (omega (arith, ap (λ (l : List ℕ). length (drop 1 l)) empty))
any_gate tail gate none (inr is) =
    let behind : drop 1 tail ≡ is.0 = ap (λ (l : List ℕ). drop 1 l) is.1 in
    elim (cases_eq gate 1) [
      | inl is_open ↦ ap (λ (l : List ℕ). records (gate ∷ l)) behind ∙ ap (λ (g : ℕ). records (g ∷ is.0)) is_open ∙ ap records (sym is.1) ∙ none
      | inr shut ↦ records_shut gate (drop 1 tail) shut
    ]

-- a write of the gate there that may be cut short
pub torn_end : (end : ℕ) (bodies : List (List ℕ)) (d c : List ℕ) → EndsAt end bodies d → HasNoShutGate end d → Torn end 1 d c → EndsAt end bodies c
torn_end end bodies d c ends not_shut torn =
    let old = tail_at end bodies d ends in
    let front : take end c ≡ gated bodies = torn.before ∙ ap (λ (l : List ℕ). take end l) ends.is ∙ take_at (gated bodies) ends.tail end (sym ends.at.place) in
    let behind : drop 1 (drop end c) ≡ drop 1 ends.tail = drop-drop 1 end c ∙ torn.after ∙ sym (drop-drop 1 end d) ∙ ap (λ (l : List ℕ). drop 1 l) old in
    let same = subst (λ (l : List ℕ). (l ≡ []) ⊎ ((rest : List ℕ) × (l ≡ 1 ∷ rest))) old not_shut in
    record {
      at = ends.at;
      tail = drop end c;
      none = whatever (drop end c) ends.tail behind ends.none same;
      is = sym (take-append-drop end c) ∙ ap (λ (l : List ℕ). l ++ drop end c) front;
    }
  where
    whatever : (new tail : List ℕ) → drop 1 new ≡ drop 1 tail → records tail ≡ [] → (tail ≡ []) ⊎ ((rest : List ℕ) × (tail ≡ 1 ∷ rest)) → records new ≡ []
    whatever [] tail behind none not_shut = small_records [] (omega arith)
    whatever (gate ∷ new) tail behind none not_shut = ap (λ (l : List ℕ). records (gate ∷ l)) behind ∙ any_gate tail gate none not_shut

-- ---- a new file

pub made_shut : (d c : List ℕ) → d ≡ [] → HasWritten 0 (0 ∷ []) d c → IsShut 0 [] c
unfolding gated
made_shut d c empty holds = record { at = end_none; gate = 0; rest = []; closed = not_open 0 refl; is = holds_written 0 [] [] (0 ∷ []) d c empty refl holds }

pub small_write : (d c : List ℕ) → length d ≤ 1 → Torn 0 1 d c → length c ≤ 1
small_write d c small torn = omega (arith, small, torn.no_longer)
