-- Reading the words of a request one after the other, however the input goes on.
use Rattle.std.proofs.Common.{◌≡◌, ℕ, zero, suc, ◌-◌, ◌+◌, ◌≤◌, ◌<◌, List, [], ◌∷◌, ◌++◌, length, drop, MatchBool, Result, Ok, Err, refl, sym, ap, subst, ◌∙◌, append_assoc, arith}
use Rattle.std.specs.Prelude.{IfOk, IfErr, OnErr, IsOkAnd, IsErrAnd, IsTrue, false}
use Rattle.std.proofs.lemmas.List.{get_or_append_left, append-nil, drop-drop, length-drop, drop-append-le, length-append}
use Rattle.resp_wire.specs.declared.stop.Stop.{Stop}
use Rattle.resp_wire.specs.declared.stop.Stop.TheVariants.{More, Bad}
use Rattle.resp_wire.specs.declared.pending.Pending.{Pending}
use Rattle.resp_wire.specs.Grammar.{Part, ◌>>=◌, bulk, bulk_words, count, array, line, line_words, header, request}
use Rattle.resp_wire.specs.Lines.{BeginsLine, IsSearched}
use Rattle.resp_wire.specs.LineLaws.{line_open, line_request, line_header, inline_read, inline_fails}
use Rattle.resp_wire.specs.Reading.{ReadsRequest, IsEnd, IsUnfinished, IsHeaded, Refused}
use Rattle.resp_wire.specs.Held.{with_front, HasHeader, IsHeld, IsIdle, Opens, Fails, opening_of, after_search, answer_of}
use Rattle.resp_wire.specs.Behind.{LeavesRest, behind_of, Shortens}
use Rattle.resp_wire.specs.BehindLaws.{bulk_leaves, header_shortens, request_shortens}
use Rattle.resp_wire.specs.Longer.{Stays, part_on}
use Rattle.resp_wire.specs.LongerLaws.{bulk_stays, count_stays, header_stays, request_stays}
use Rattle.resp_wire.specs.RequestLaws.{reads_request, is_faulty, is_unfinished}
use Rattle.resp_wire.specs.HoldingLaws.{reads_both_requests}

abbrev Words : Type 0
Words = List (List ℕ)

-- ---- places

-- where the end of what stands from a place on begins
pub end_at : (bytes : List ℕ) (at : ℕ) (rest : List ℕ) → at ≤ length bytes → IsEnd (drop at bytes) rest → drop (length bytes - length rest) bytes ≡ rest
end_at bytes at rest inside e =
    let k : length bytes - length rest ≡ at + (length (drop at bytes) - length rest) = omega (arith, length-drop at bytes, e.fits) in
    rw k (sym (drop-drop (length (drop at bytes) - length rest) at bytes) ∙ e.end)

end_within : (bytes : List ℕ) (at : ℕ) (rest : List ℕ) → at ≤ length bytes → IsEnd (drop at bytes) rest → length rest ≤ length bytes - at
end_within bytes at rest inside e = omega (arith, length-drop at bytes, e.fits)

-- ---- beginnings

header_leaves : (bytes : List ℕ) (n : ℕ) (behind : List ℕ) → header bytes ≡ Ok (n, behind) → IsEnd bytes behind × (length behind < length bytes)
header_leaves bytes n behind e = subst (Shortens bytes) e (header_shortens bytes)

header_on : (bytes : List ℕ) (n : ℕ) (behind more : List ℕ) → header bytes ≡ Ok (n, behind) → header (bytes ++ more) ≡ Ok (n, behind ++ more)
header_on bytes n behind more e = subst (λ (r : Part ℕ). Stays part_on r (header (bytes ++ more)) more) e (header_stays bytes more)

headed_on : (bytes more : List ℕ) (r : Part ℕ) → header bytes ≡ r → IsOkAnd r (λ n. 0 < n.0) → IsHeaded (bytes ++ more)
headed_on bytes more (Ok x) e h = subst (λ (r : Part ℕ). IsOkAnd r (λ n. 0 < n.0)) (sym (header_on bytes x.0 x.1 more e)) h
headed_on bytes more (Err e') e h = absurd h

with_nothing : (read : Part Words) → with_front [] read ≡ read
with_nothing (Ok x) = refl
with_nothing (Err e) = refl

all_words : (words : Words) (room : ℕ) (bytes : List ℕ) → with_front words (bulk_words 0 room bytes) ≡ Ok (words, bytes)
unfolding bulk_words
all_words words room bytes = ap (λ (all : Words). Ok (all, bytes)) (append-nil words)

-- ---- arrays

array_request : (behind : List ℕ) → request (42 ∷ behind) ≡ array behind
unfolding request
array_request behind = refl

array_header : (behind : List ℕ) → header (42 ∷ behind) ≡ count behind
unfolding header
array_header behind = refl

count_on : (bytes : List ℕ) (n : ℕ) (rest more : List ℕ) → count bytes ≡ Ok (n, rest) → count (bytes ++ more) ≡ Ok (n, rest ++ more)
count_on bytes n rest more e = subst (λ (r : Part ℕ). Stays part_on r (count (bytes ++ more)) more) e (count_stays bytes more)

array_on : (bytes : List ℕ) (n : ℕ) (rest more : List ℕ) → count bytes ≡ Ok (n, rest) → array (bytes ++ more) ≡ bulk_words n 16777216 (rest ++ more)
unfolding array
array_on bytes n rest more e = rw (count_on bytes n rest more e) refl

no_bulks : (bytes : List ℕ) (n : ℕ) (rest : List ℕ) → count bytes ≡ Ok (n, rest) → n ≤ 0 → array bytes ≡ Ok ([], rest)
unfolding array bulk_words
no_bulks bytes zero rest e none = rw e refl
no_bulks bytes (suc n) rest e none = absurd (omega arith)

array_fails : (bytes : List ℕ) (stop : Stop) → count bytes ≡ Err stop → array bytes ≡ Err stop
unfolding array
array_fails bytes stop e = rw e refl

-- an array at a place, by what stands behind its `*`
module _ (bytes : List ℕ) (at : ℕ) (behind : List ℕ) (inside : at ≤ length bytes) (here : drop at bytes ≡ 42 ∷ behind) where
  pub array_stops : (stop : Stop) → count behind ≡ Err stop → request (drop at bytes) ≡ Err stop
  array_stops stop e = ap request here ∙ array_request behind ∙ array_fails behind stop e

  module _ (n : ℕ) (rest : List ℕ) (read : count behind ≡ Ok (n, rest)) where
    first_line : header (drop at bytes) ≡ Ok (n, rest)
    first_line = ap header here ∙ array_header behind ∙ read

    leaves : IsEnd (drop at bytes) rest × (length rest < length (drop at bytes))
    leaves = header_leaves (drop at bytes) n rest first_line

    pub array_within : length rest + at < length bytes
    array_within = omega (arith, leaves.1, length-drop at bytes)

    on_from : (more : List ℕ) → request (drop at bytes ++ more) ≡ with_front [] (bulk_words n 16777216 (rest ++ more))
    on_from more = ap (λ (text : List ℕ). request (text ++ more)) here ∙ array_request (behind ++ more) ∙ array_on behind n rest more read ∙ sym (with_nothing (bulk_words n 16777216 (rest ++ more)))

    pub array_begins : 0 < n → HasHeader bytes (record { start = at; next = length bytes - length rest; words = []; missing = n; room = 16777216 })
    array_begins some = record {
      before = omega (arith, array_within);
      inside = omega arith;
      some = omega arith;
      headed = rw first_line some;
      goes_on = λ more. rw (end_at bytes at rest inside leaves.0) (on_from more);
    }

    pub array_skips : n ≤ 0 → ReadsRequest (drop at bytes) [] (drop (length bytes - length rest) bytes)
    array_skips none = rw (end_at bytes at rest inside leaves.0) (reads_request (drop at bytes) [] rest (ap request here ∙ array_request behind ∙ no_bulks behind n rest read none))

-- ---- inline lines

request_on : (bytes : List ℕ) (words : Words) (rest more : List ℕ) → request bytes ≡ Ok (words, rest) → request (bytes ++ more) ≡ Ok (words, rest ++ more)
request_on bytes words rest more e = subst (λ (r : Part Words). Stays part_on r (request (bytes ++ more)) more) e (request_stays bytes more)

-- an inline line at a place
module _ (bytes : List ℕ) (at : ℕ) (inside : at ≤ length bytes) (begins : BeginsLine (drop at bytes)) where
  pub line_stops : (stop : Stop) → line (drop at bytes) ≡ Err stop → request (drop at bytes) ≡ Err stop
  line_stops stop e = line_request (drop at bytes) begins ∙ inline_fails (drop at bytes) stop e

  module _ (found rest : List ℕ) (read : line (drop at bytes) ≡ Ok (found, rest)) where
    is_read : request (drop at bytes) ≡ Ok (line_words found, rest)
    is_read = line_request (drop at bytes) begins ∙ inline_read (drop at bytes) found rest read

    line_leaves : IsEnd (drop at bytes) rest × (length rest < length (drop at bytes))
    line_leaves = subst (Shortens (drop at bytes)) is_read (request_shortens (drop at bytes))

    pub line_within : length rest + at < length bytes
    line_within = omega (arith, line_leaves.1, length-drop at bytes)

    pub line_headed : 0 < length (line_words found) → IsHeaded (drop at bytes)
    line_headed some = rw (line_header (drop at bytes) begins, inline_read (drop at bytes) found rest read) some

    pub line_begins : (room : ℕ) → 0 < length (line_words found) → HasHeader bytes (record { start = at; next = length bytes - length rest; words = line_words found; missing = 0; room = room })
    line_begins room some = record {
      before = omega (arith, line_within);
      inside = omega arith;
      some = omega arith;
      headed = line_headed some;
      goes_on = λ more. rw (end_at bytes at rest inside line_leaves.0) (request_on (drop at bytes) (line_words found) rest more is_read ∙ sym (all_words (line_words found) room (rest ++ more)));
    }

    pub line_skips : line_words found ≡ [] → ReadsRequest (drop at bytes) [] (drop (length bytes - length rest) bytes)
    line_skips none = rw (end_at bytes at rest inside line_leaves.0) (reads_request (drop at bytes) [] rest (is_read ∙ ap (λ (words : Words). Ok (words, rest)) none))

-- ---- words

regroup : (front : Words) (word : List ℕ) (read : Part Words) → with_front front (read >>= λ x. Ok (word ∷ x.0, x.1)) ≡ with_front (front ++ word ∷ []) read
regroup front word (Ok x) = ap (λ (words : Words). Ok (words, x.1)) (simp append_assoc)
regroup front word (Err e) = refl

bulk_on : (room : ℕ) (bytes word behind more : List ℕ) → bulk room bytes ≡ Ok (word, behind) → bulk room (bytes ++ more) ≡ Ok (word, behind ++ more)
bulk_on room bytes word behind more e = subst (λ (r : Part (List ℕ)). Stays part_on r (bulk room (bytes ++ more)) more) e (bulk_stays room bytes more)

one_word : (front : Words) (missing room : ℕ) (bytes word behind : List ℕ) → bulk room bytes ≡ Ok (word, behind) → with_front front (bulk_words (suc missing) room bytes) ≡ with_front (front ++ word ∷ []) (bulk_words missing (room - (length word + 16)) behind)
unfolding bulk_words
one_word front missing room bytes word behind e = rw e (regroup front word (bulk_words missing (room - (length word + 16)) behind))

word_read : (front : Words) (missing room : ℕ) (bytes word behind more : List ℕ) → 0 < missing → bulk room bytes ≡ Ok (word, behind)
    → with_front front (bulk_words missing room (bytes ++ more)) ≡ with_front (front ++ word ∷ []) (bulk_words (missing - 1) (room - (length word + 16)) (behind ++ more))
word_read front zero room bytes word behind more some e = absurd (omega arith)
word_read front (suc missing) room bytes word behind more some e =
    let k : suc missing - 1 ≡ missing = omega arith in
    rw k (one_word front missing room (bytes ++ more) word (behind ++ more) (bulk_on room bytes word behind more e))

word_stops : (front : Words) (missing room : ℕ) (bytes : List ℕ) (stop : Stop) → 0 < missing → bulk room bytes ≡ Err stop → with_front front (bulk_words missing room bytes) ≡ Err stop
unfolding bulk_words
word_stops front zero room bytes stop some e = absurd (omega arith)
word_stops front (suc missing) room bytes stop some e = rw e refl

-- all words were read
no_word : (front : Words) (room : ℕ) (bytes : List ℕ) → with_front front (bulk_words 0 room bytes) ≡ Ok (front, bytes)
unfolding bulk_words
no_word front room bytes = ap (λ (words : Words). Ok (words, bytes)) (append-nil front)

-- a request that is begun
module _ (bytes : List ℕ) (p : Pending) (begun : HasHeader bytes p) where
  goes_on_here : request (drop p.start bytes) ≡ with_front p.words (bulk_words p.missing p.room (drop p.next bytes))
  goes_on_here = ap request (sym (append-nil (drop p.start bytes))) ∙ begun.goes_on [] ∙ ap (λ (rest : List ℕ). with_front p.words (bulk_words p.missing p.room rest)) (append-nil (drop p.next bytes))

  pub request_stops : (stop : Stop) → 0 < p.missing → bulk p.room (drop p.next bytes) ≡ Err stop → request (drop p.start bytes) ≡ Err stop
  request_stops stop some e = goes_on_here ∙ word_stops p.words p.missing p.room (drop p.next bytes) stop some e

  pub request_is : p.missing ≡ 0 → request (drop p.start bytes) ≡ Ok (p.words, drop p.next bytes)
  request_is none = goes_on_here ∙ ap (λ (n : ℕ). with_front p.words (bulk_words n p.room (drop p.next bytes))) none ∙ no_word p.words p.room (drop p.next bytes)

  module _ (word behind : List ℕ) (read : bulk p.room (drop p.next bytes) ≡ Ok (word, behind)) where
    behind_end : IsEnd (drop p.next bytes) behind
    behind_end = subst (LeavesRest behind_of (drop p.next bytes)) read (bulk_leaves p.room (drop p.next bytes))

    pub word_within : length behind + p.next ≤ length bytes
    word_within = omega (arith, end_within bytes p.next behind begun.inside behind_end, begun.inside)

    pub word_begins : 0 < p.missing → HasHeader bytes (record { start = p.start; next = length bytes - length behind; words = p.words ++ word ∷ []; missing = p.missing - 1; room = p.room - (length word + 16) })
    word_begins some = record {
      before = omega (arith, word_within, begun.before);
      inside = omega arith;
      some = omega (arith, length-append p.words (word ∷ []));
      headed = begun.headed;
      goes_on = λ more. begun.goes_on more ∙ rw (end_at bytes p.next behind begun.inside behind_end) (word_read p.words p.missing p.room (drop p.next bytes) word behind more some read);
    }

-- ---- what is kept

pub begun_held : (bytes : List ℕ) (p : Pending) → 0 < p.missing → HasHeader bytes p → IsHeld bytes p
begun_held bytes p some begun = record {
  before = omega (arith, begun.before);
  inside = begun.inside;
  searched = λ none. absurd (omega arith);
  none = λ none. absurd (omega arith);
  begun = λ _. begun;
}

-- nothing was searched
pub idle_at : (bytes : List ℕ) (p : Pending) → p.start ≡ p.next → p.next ≤ length bytes → p.missing ≡ 0 → p.words ≡ [] → IsIdle bytes p
idle_at bytes p here inside none empty = record {
  held = record {
    before = omega arith;
    inside = inside;
    searched = λ _. record { inside = omega arith; short = omega arith; plain = λ k lt. absurd (omega arith) };
    none = λ _. empty;
    begun = λ some. absurd (omega arith);
  };
  idle = none;
}

pub idle_inside : (bytes : List ℕ) (p : Pending) → IsIdle bytes p → p.start ≤ length bytes
idle_inside bytes p idle = omega (arith, idle.held.before, idle.held.inside)

-- all bytes were searched
pub idle_searched : (bytes : List ℕ) (p : Pending) → IsIdle bytes p → line (drop p.start bytes) ≡ Err More → IsIdle bytes (record { start = p.start; next = length bytes; words = p.words; missing = p.missing; room = p.room })
idle_searched bytes p idle e =
    let k : length bytes - p.start ≡ length (drop p.start bytes) = omega (arith, length-drop p.start bytes) in
    record {
      held = record {
        before = omega (arith, idle.held.before, idle.held.inside);
        inside = omega arith;
        searched = λ _. rw k (line_open (drop p.start bytes) e);
        none = idle.held.none;
        begun = λ some. absurd (omega (arith, idle.idle));
      };
      idle = idle.idle;
    }

searched_on : (n : ℕ) (bytes piece : List ℕ) → IsSearched n bytes → IsSearched n (bytes ++ piece)
searched_on n bytes piece s = record {
  inside = omega (arith, s.inside, length-append bytes piece);
  short = s.short;
  plain = λ k lt. let below : k < length bytes = omega (arith, s.inside) in rw (get_or_append_left bytes piece 0 k below) (s.plain k lt);
}

-- what stands before the first request is dropped
pub held_dropped : (bytes : List ℕ) (p : Pending) → IsHeld bytes p → IsHeld (drop p.start bytes) (record { start = 0; next = p.next - p.start; words = p.words; missing = p.missing; room = p.room })
held_dropped bytes p held =
    let k : p.start + (p.next - p.start) ≡ p.next = omega (arith, held.before) in
    let same : drop (p.next - p.start) (drop p.start bytes) ≡ drop p.next bytes = drop-drop (p.next - p.start) p.start bytes ∙ ap (λ (n : ℕ). drop n bytes) k in
    record {
      before = omega arith;
      inside = omega (arith, length-drop p.start bytes, held.inside);
      searched = λ none. let less : p.next - p.start - 0 ≡ p.next - p.start = omega arith in rw less (held.searched none);
      none = held.none;
      begun = λ some.
          (let begun = held.begun some in
          record {
            before = omega (arith, begun.before);
            inside = omega (arith, length-drop p.start bytes, held.inside);
            some = begun.some;
            headed = begun.headed;
            goes_on = λ more. begun.goes_on more ∙ ap (λ (rest : List ℕ). with_front p.words (bulk_words p.missing p.room (rest ++ more))) (sym same);
          });
    }

-- a piece is added
pub held_fed : (bytes : List ℕ) (p : Pending) (piece : List ℕ) → IsHeld bytes p → IsHeld (bytes ++ piece) p
held_fed bytes p piece held =
    let front : drop p.start (bytes ++ piece) ≡ drop p.start bytes ++ piece = drop-append-le p.start bytes piece (omega (arith, held.before, held.inside)) in
    let back : drop p.next (bytes ++ piece) ≡ drop p.next bytes ++ piece = drop-append-le p.next bytes piece held.inside in
    record {
      before = held.before;
      inside = omega (arith, length-append bytes piece, held.inside);
      searched = λ none. rw front (searched_on (p.next - p.start) (drop p.start bytes) piece (held.searched none));
      none = held.none;
      begun = λ some.
          (let begun = held.begun some in
          record {
            before = begun.before;
            inside = omega (arith, length-append bytes piece, held.inside);
            some = begun.some;
            headed = rw front (headed_on (drop p.start bytes) piece (header (drop p.start bytes)) refl begun.headed);
            goes_on = λ more. rw (front, back, append_assoc (drop p.start bytes) piece more, append_assoc (drop p.next bytes) piece more) (begun.goes_on (piece ++ more));
          });
    }

-- all words are handed out
pub handed_out : (bytes : List ℕ) (start : ℕ) (p : Pending) → start ≤ p.start → ReadsRequest (drop start bytes) [] (drop p.start bytes) → HasHeader bytes p → p.missing ≡ 0
    → ReadsRequest (drop start bytes) p.words (drop p.next bytes) × (length (drop p.next bytes) < length (drop start bytes)) × (0 < length p.words)
handed_out bytes start p forward skipped begun none = (
  reads_both_requests (drop start bytes) (drop p.start bytes) p.words (drop p.next bytes) skipped (reads_request (drop p.start bytes) p.words (drop p.next bytes) (request_is bytes p begun none)),
  omega (arith, length-drop p.next bytes, length-drop start bytes, begun.before, begun.inside),
  omega (arith, begun.some),
)

-- ---- what is answered where no request is begun

pub stop_opens : (bytes : List ℕ) (p : Pending) (stop : Stop) → IsIdle bytes p → request (drop p.start bytes) ≡ Err stop → IfOk (opening_of stop) (λ opening. Opens bytes p p opening)
stop_opens bytes p More idle e = (idle, refl, is_unfinished (drop p.start bytes) e)
stop_opens bytes p (Bad kind left) idle e = tt

pub stop_fails : (bytes : List ℕ) (p : Pending) (stop : Stop) → request (drop p.start bytes) ≡ Err stop → IfErr (opening_of stop) (λ e. Fails bytes p p e)
stop_fails bytes p More e = tt
stop_fails bytes p (Bad kind left) e = (refl, is_faulty (drop p.start bytes) kind left e, tt)

module _ (bytes : List ℕ) (p : Pending) (idle : IsIdle bytes p) (begins : BeginsLine (drop p.start bytes)) where
  within : p.start ≤ length bytes
  within = idle_inside bytes p idle

  pub search_opens : (stop : Stop) → line (drop p.start bytes) ≡ Err stop → IfOk (opening_of stop) (λ opening. Opens bytes p (after_search stop (length bytes) p) opening)
  search_opens More e = (idle_searched bytes p idle e, refl, is_unfinished (drop p.start bytes) (line_stops bytes p.start within begins More e))
  search_opens (Bad kind left) e = tt

  pub search_fails : (stop : Stop) → line (drop p.start bytes) ≡ Err stop → IfErr (opening_of stop) (λ e. Fails bytes p (after_search stop (length bytes) p) e)
  search_fails More e = tt
  search_fails (Bad kind left) e = (refl, is_faulty (drop p.start bytes) kind left (line_stops bytes p.start within begins (Bad kind left) e), tt)

pub nothing_there : (bytes : List ℕ) → length bytes < 1 → request bytes ≡ Err More
unfolding request
nothing_there [] h = refl
nothing_there (c ∷ bytes) h = absurd (omega arith)

-- ---- what is answered where a part was not read

pub stop_read : (bytes : List ℕ) (missing : ℕ) (stop : Stop) → 0 < missing → request bytes ≡ Err stop → IfOk (answer_of stop) (λ whole. MatchBool whole (missing ≡ 0) ((0 < missing) × IsUnfinished bytes))
stop_read bytes missing More some e = (some, is_unfinished bytes e)
stop_read bytes missing (Bad kind left) some e = tt

pub stop_fault : (bytes : List ℕ) (stop : Stop) → request bytes ≡ Err stop → IfErr (answer_of stop) (λ e. Refused bytes e)
stop_fault bytes More e = tt
stop_fault bytes (Bad kind left) e = is_faulty bytes kind left e

pub stop_fault_inside : (bytes : List ℕ) (missing : ℕ) (stop : Stop) → 0 < missing → request bytes ≡ Err stop → IfErr (answer_of stop) (λ e. (0 < missing) × Refused bytes e)
stop_fault_inside bytes missing More some e = tt
stop_fault_inside bytes missing (Bad kind left) some e = (some, is_faulty bytes kind left e)

-- ---- what a `?` answers

pub on_err : {T E : Type 0} (r : Result T E) (P : Type 0) → P → OnErr r P
on_err (Ok x) P h = tt
on_err (Err e) P h = h

pub if_err : {T E : Type 0} (r : Result T E) (e : E) (P : E → Type 0) → IsErrAnd r (λ x. x ≡ e) → P e → IfErr r P
if_err (Ok x) e P is h = tt
if_err (Err x) e P is h = subst P (sym is) h

pub some_of : (words all : Words) → words ≡ all → (words ≡ [] → IsTrue false) → 0 < length all
some_of [] all e other = absurd (let never = other refl in cc)
some_of (word ∷ words) all e other = rw (← e) (omega arith)
