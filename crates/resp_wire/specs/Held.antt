-- What a reader keeps of a request that it has not handed out.
use Rattle.std.specs.Prelude.{◌≡◌, ◌<◌, ◌≤◌, ◌+◌, ◌-◌, ℕ, Bool, false, List, [], ◌++◌, drop, length, IsOk, Result, Ok, Err}
use Rattle.resp_wire.specs.declared.stop.NextFault.{NextFault}
use Rattle.resp_wire.specs.declared.stop.NextFault.TheVariants.{NoMem, Wire}
use Rattle.resp_wire.specs.declared.stop.Stop.{Stop}
use Rattle.resp_wire.specs.declared.stop.Stop.TheVariants.{More, Bad}
use Rattle.resp_wire.specs.declared.pending.Opening.{Opening}
use Rattle.resp_wire.specs.declared.pending.Opening.TheVariants.{Unfinished, Empty, Begun}
use Rattle.resp_wire.specs.declared.pending.Pending.{Pending}
use Rattle.resp_wire.specs.Grammar.{Part, ◌>>=◌, bulk, bulk_words, request}
use Rattle.resp_wire.specs.Lines.{IsSearched}
use Rattle.resp_wire.specs.Reading.{AsksInside, IsHeaded, IsUnfinished, ReadsRequest, Refused}

-- words that were read before, and what is read behind them
abbrev pub with_front : List (List ℕ) → Part (List (List ℕ)) → Part (List (List ℕ))
with_front front read = read >>= λ x. Ok (front ++ x.0, x.1)

-- A header was read: however the input goes on, the request in front is the words that were read and those that are
-- read from `next` on.
pub record HasHeader (bytes : List ℕ) (p : Pending) : Type 0 where
  pub before : p.start < p.next
  pub inside : p.next ≤ length bytes
  pub some : 0 < length p.words + p.missing
  pub headed : IsHeaded (drop p.start bytes)
  pub goes_on : (more : List ℕ) → request (drop p.start bytes ++ more) ≡ with_front p.words (bulk_words p.missing p.room (drop p.next bytes ++ more))

-- Where no request is begun, the bytes that were passed over are the front of a line.
pub record IsHeld (bytes : List ℕ) (p : Pending) : Type 0 where
  pub before : p.start ≤ p.next
  pub inside : p.next ≤ length bytes
  pub searched : p.missing ≡ 0 → IsSearched (p.next - p.start) (drop p.start bytes)
  pub none : p.missing ≡ 0 → p.words ≡ []
  pub begun : 0 < p.missing → HasHeader bytes p

-- no request is begun
pub record IsIdle (bytes : List ℕ) (p : Pending) : Type 0 where
  pub held : IsHeld bytes p
  pub idle : p.missing ≡ 0

-- what stands where a request is to begin
abbrev pub Opens : List ℕ → Pending → Pending → Opening → Type 0
Opens bytes old new Unfinished = IsIdle bytes new × (new.start ≡ old.start) × IsUnfinished (drop old.start bytes)
Opens bytes old new Empty = IsIdle bytes new × (old.start < new.start) × ReadsRequest (drop old.start bytes) [] (drop new.start bytes)
Opens bytes old new Begun = HasHeader bytes new × (new.start ≡ old.start)

-- it does not stand there, for this cause
abbrev pub Fails : List ℕ → Pending → Pending → NextFault → Type 0
Fails bytes old new e = (new ≡ old) × Refused (drop old.start bytes) e × AsksInside (drop old.start bytes) e

abbrev pub opening_of : Stop → Result Opening NextFault
opening_of More = Ok Unfinished
opening_of (Bad kind left) = Err (Wire kind left)

-- how far a line was searched whose end was not found
abbrev pub after_search : Stop → ℕ → Pending → Pending
after_search More len p = record { start = p.start; next = len; words = p.words; missing = p.missing; room = p.room }
after_search (Bad kind left) len p = p

-- what is answered where a part was not read
abbrev pub answer_of : Stop → Result Bool NextFault
answer_of More = Ok false
answer_of (Bad kind left) = Err (Wire kind left)

-- memory is asked for where the next word is there
abbrev pub AsksWord : List ℕ → Pending → NextFault → Type 0
AsksWord bytes p NoMem = IsOk (bulk p.room (drop p.next bytes))
AsksWord bytes p (Wire kind left) = Unit {0}
