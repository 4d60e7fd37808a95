-- The engine's state, as far as the theorem on its events speaks of it.
use Rattle.std.specs.Prelude.{◌≡◌, ℕ, ◌==◌, Bool, max, List, [], ◌∷◌, ◌++◌, map, find, Option}
use Rattle.batch_codec.specs.Batches.{Batch}
use Rattle.kv_base.specs.declared.row.Row.{Row}
use Rattle.kv_base.specs.declared.name.TableId.{TableId}
use Rattle.row_model.specs.Rows.{at}
use Rattle.redis_model.specs.Apply.{counted_now}
use Rattle.lives_model.specs.Rows.{Rows}
use Rattle.filter_laws.specs.declared.watcher.Watcher.{Watcher}
use Rattle.core_model.specs.Sources.{Table, Sources, rows_in, all_rows, in_tables, AreBelow}
use Rattle.redis_model.specs.declared.history.Task.{Task}

-- ---- pins and watchers

-- a caller's pin: the sequence and the moment at which it reads
pub record PinAt : Type 0 where
  pub caller : ℕ
  pub seq : ℕ
  pub moment : ℕ

-- what a compaction has to leave it
abbrev pub watcher_of : PinAt → Watcher
watcher_of p = record { seq = p.seq; moment = p.moment }

-- the last of them is whoever reads the newest rows from then on
abbrev pub current : List Watcher → Watcher
current [] = record { seq = 0; moment = 0 }
current (w ∷ []) = w
current (w ∷ v ∷ ws) = current (v ∷ ws)

-- ---- jobs

-- an open flush: its caller, its run, and the rows that it writes
pub record Flush : Type 0 where
  pub caller : ℕ
  pub run : ℕ
  pub rows : List Row

-- what it has to do
abbrev pub flush_task : Flush → Task
flush_task f = record { run = f.run; level = 0; gone = []; rows = record { rows = f.rows } }

-- What a compaction chose of two levels, of which the tables stand between those that stay. In front are the levels above
-- them, behind those below.
pub record Choice : Type 0 where
  pub above : List (List Table)
  pub front : List Table
  pub chosen : List Table
  pub behind : List Table
  pub next_front : List Table
  pub next_chosen : List Table
  pub next_behind : List Table
  pub deeper : List (List Table)

-- the two levels with their tables in order, among the others
abbrev pub levels_of : Choice → List (List Table)
levels_of ch = ch.above ++ (ch.front ++ (ch.chosen ++ ch.behind)) ∷ (ch.next_front ++ (ch.next_chosen ++ ch.next_behind)) ∷ ch.deeper

-- the chosen tables go, and others come into the lower of the two levels
abbrev pub levels_with : Choice → List Table → List (List Table)
levels_with ch outputs = ch.above ++ (ch.front ++ ch.behind) ∷ (ch.next_front ++ (outputs ++ ch.next_behind)) ∷ ch.deeper

-- tables that were put in front of level 0 since
abbrev pub flushed_above : List Table → List (List Table) → List (List Table)
flushed_above more [] = []
flushed_above more (top ∷ deeper) = (more ++ top) ∷ deeper

-- the same where the chosen level is level 0 itself
abbrev pub flushed_front : List Table → List (List Table) → List Table → List Table
flushed_front more [] front = more ++ front
flushed_front more (top ∷ deeper) front = front

-- the choice with such tables in front
abbrev pub with_flushed : List Table → Choice → Choice
with_flushed more ch = record ch { above = flushed_above more ch.above; front = flushed_front more ch.above ch.front }

-- an open compaction: what it chose of which sources, who watches, and the rows that it is to leave
pub record Compaction : Type 0 where
  pub caller : ℕ
  pub run : ℕ
  pub level : ℕ
  pub choice : Choice
  pub all : List Row
  pub watch : List Watcher
  pub rows : List Row

-- the tables that go
abbrev pub inputs_of : Choice → List Table
inputs_of ch = ch.chosen ++ ch.next_chosen

-- Level 0 is taken whole, and no table of the next level that stays lies between those that go.
pub record IsCompactionChoice (ch : Choice) : Type 0 where
  pub whole : ch.above ≡ [] → (ch.front ≡ []) × (ch.behind ≡ [])
  pub below : AreBelow (all_rows (in_tables ch.next_front)) (all_rows (in_tables (inputs_of ch)))
  pub above_ : AreBelow (all_rows (in_tables (inputs_of ch))) (all_rows (in_tables ch.next_behind))

-- the name of a table
abbrev pub id_of : Table → TableId
id_of t = record { run = t.run; part = t.part }

-- what a compaction has to do
abbrev pub compact_task : Compaction → Task
compact_task job = record { run = job.run; level = job.level; gone = map id_of (inputs_of job.choice); rows = record { rows = job.rows } }

-- ---- what waits to be mended

-- a batch whose append failed at its gate: a crash may leave it or not
pub record Attempt : Type 0 where
  pub batch : Batch
  pub moment : ℕ

-- an edit of a compaction that failed at its gate: the levels that it gives, and its floor
pub record TriedEdit : Type 0 where
  pub levels : List (List Table)
  pub floor : ℕ

-- ---- the state

-- all that the core has
pub record CoreState : Type 0 where
  pub sources : Sources
  -- the sequence of the last batch
  pub last : ℕ
  -- the greatest moment so far
  pub floor : ℕ
  -- in the order in which they were made
  pub pins : List PinAt
  -- how many batches were appended of each of the sixteen stripes
  pub books : ℕ → ℕ
  pub flush : Option Flush
  pub compact : Option Compaction
  pub attempt : Option Attempt
  pub tried : Option TriedEdit
  -- what the manifest says, and the run of the next job
  pub log : ℕ
  pub manifest_floor : ℕ
  pub next_run : ℕ

-- the map of raw keys to values at the last sequence
abbrev pub newest_rows : CoreState → Rows
newest_rows core = at (rows_in core.sources) core.last

-- the pin of a caller
abbrev pub is_at : ℕ → PinAt → Bool
is_at caller p = p.caller == caller

-- the first pin of a caller, which is its only one
abbrev pub pin_at : CoreState → ℕ → Option PinAt
pin_at core caller = find (is_at caller) core.pins

-- the moment of an event at a reading: no moment is below the one before
abbrev pub event_moment : CoreState → ℕ → ℕ
event_moment core now = max core.floor (counted_now now)

-- the core after its floor has risen to the reading
abbrev pub raised : CoreState → ℕ → CoreState
raised core now = record core { floor = event_moment core now }
