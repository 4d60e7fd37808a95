-- The relation between a core, the state of the machine that it was opened with, and the history since: what holds between
-- any two events.
use Rattle.std.specs.Prelude.{◌≡◌, ℕ, ◌^◌, ◌<◌, ◌≤◌, nat_le, List, [], ◌∷◌, length, take, Option, Some, None, IsTrue, IfSome}
use Rattle.std.specs.List.{list_all, Contains}
use Rattle.kv_base.specs.Map.{Bytes}
use Rattle.kv_base.specs.Hash.{stripe}
use Rattle.kv_base.specs.RawKeys.{is_key}
use Rattle.kv_base.specs.declared.row.Row.{Row}
use Rattle.row_model.specs.Rows.{at, are_row_texts, are_upto, AreApart}
use Rattle.redis_model.specs.Value.{alive}
use Rattle.redis_model.specs.Machine.{State, Pin}
use Rattle.redis_model.specs.Legal.{IsLegal}
use Rattle.redis_model.specs.Desk.{last_sequence}
use Rattle.lives_model.specs.Rows.{IsOnGrammar}
use Rattle.lives_model.specs.RowKeys.{IsOfKey}
use Rattle.lives_model.specs.Means.{Means}
use Rattle.lives_model.specs.Issued.{IsIssued, AreIssued}
use Rattle.lives_model.specs.Lapses.{CountsAlike}
use Rattle.core_model.specs.Sources.{Table, Sources, rows_in, newest_first, AreNewestFirst, AreLevelled}
use Rattle.core_model.specs.Places.{OpenJob, sequences_of, HasMark, OfEachTick, open_flush, open_compact, task_in}
use Rattle.redis_model.specs.declared.history.Place.{Place}
use Rattle.redis_model.specs.declared.history.ReadView.{ReadView}
use Rattle.redis_model.specs.Places.{Opening, steps_of, state_at, sequences, GoUp}
use Rattle.core_model.specs.Core.{PinAt, Flush, Compaction, CoreState, IsCompactionChoice, newest_rows, flush_task, compact_task, levels_of, with_flushed}

-- ---- the keys

-- The floor is the machine's, and a moment. The newest rows mean what of the machine's keys is alive at it.
pub record MeansKeys (core : CoreState) (s : State) : Type 0 where
  pub floor : core.floor ≡ s.floor
  pub early : core.floor ≤ 2 ^ 61
  pub means : Means (newest_rows core) core.floor (alive s.keys core.floor)

-- ---- pins

-- The rows at the pin's sequence mean at its moment the map that the caller keeps.
pub record IsPinned (core : CoreState) (p : PinAt) (q : Pin) : Type 0 where
  pub caller : p.caller ≡ q.caller
  pub moment : p.moment ≡ q.moment
  pub means : Means (at (rows_in core.sources) p.seq) p.moment q.seen
  pub written : p.seq ≤ core.last
  pub past : p.moment ≤ core.floor

-- so it is with each pin, in their order
abbrev pub ArePinned : CoreState → List PinAt → List Pin → Type 0
ArePinned core [] [] = Unit {0}
ArePinned core (p ∷ ps) (q ∷ qs) = IsPinned core p q × ArePinned core ps qs
ArePinned core _ _ = ⊥

-- ---- rows

-- Each row is on the grammar, issued, and not above the last sequence. No two have raw key and sequence equal, and of each
-- raw key the newer source has the greater sequences. From level 1 on the tables of a level are disjoint.
pub record AreKept (sources : Sources) (last : ℕ) : Type 0 where
  pub grammar : IsTrue (are_row_texts (rows_in sources))
  pub upto : IsTrue (are_upto last (rows_in sources))
  pub issued : AreIssued (rows_in sources)
  pub apart : AreApart (rows_in sources)
  pub order : AreNewestFirst (newest_first sources)
  pub levels : AreLevelled sources.levels

-- ---- batches

-- The batches since the opening have their sequences, and each is counted on the stripes of its keys.
pub record AreCounted (opening : Opening) (core : CoreState) (seen : List Place) : Type 0 where
  pub rising : GoUp opening.last (sequences seen) core.last
  pub limit : core.last ≤ last_sequence
  pub books : (b : ℕ) → b < 16 → core.books b ≡ length (sequences_of b seen)
  pub rows : (row : Row) (k : Bytes) → Contains (rows_in core.sources) row → IsTrue (is_key k) → IsOfKey k row.raw → opening.last < row.seq
      → Contains (sequences_of (stripe k) seen) row.seq

-- ---- what was seen

-- Since a mark the stripe has at least as many batches, and so many of the first are not above the sequence that was seen.
-- Where it has no more, the same counts of its keys still.
pub record IsMarked (core : CoreState) (seen : List Place) (view : ReadView) (b mark : ℕ) : Type 0 where
  pub grown : mark ≤ length (sequences_of b seen)
  pub old : IsTrue (list_all (λ n. nat_le n view.seq) (take mark (sequences_of b seen)))
  pub same : mark ≡ length (sequences_of b seen) → (k : Bytes) → IsTrue (is_key k) → stripe k ≡ b → CountsAlike view.rows.map (newest_rows core) core.floor k

-- What a tick saw: rows of that moment, which mean the machine's keys right after it.
pub record IsSeenView (opening : Opening) (core : CoreState) (seen : List Place) (s : State) (view : ReadView) : Type 0 where
  pub since : opening.last ≤ view.seq
  pub written : view.seq ≤ core.last
  pub moment : view.moment ≡ s.floor
  pub past : view.moment ≤ core.floor
  pub grammar : IsOnGrammar view.rows.map
  pub means : Means view.rows.map view.moment s.keys
  pub issued : IsIssued view.rows.map view.seq
  pub marks : (b mark : ℕ) → HasMark view b mark → IsMarked core seen view b mark

-- ---- jobs

-- a flush is open in both or in neither, with the same caller and task
abbrev pub IsOpenFlush : Option Flush → Option OpenJob → Type 0
IsOpenFlush None None = Unit {0}
IsOpenFlush (Some f) (Some o) = (o.caller ≡ f.caller) × (task_in o.note ≡ Some (flush_task f))
IsOpenFlush _ _ = ⊥

-- and so it is with a compaction
abbrev pub IsOpenCompaction : Option Compaction → Option OpenJob → Type 0
IsOpenCompaction None None = Unit {0}
IsOpenCompaction (Some job) (Some o) = (o.caller ≡ job.caller) × (task_in o.note ≡ Some (compact_task job))
IsOpenCompaction _ _ = ⊥

-- Since a compaction began tables were put in front of level 0 alone.
pub record IsSince (core : CoreState) (job : Compaction) : Type 0 where
  pub choice : IsCompactionChoice job.choice
  pub flushed : List Table
  pub levels : core.sources.levels ≡ levels_of (with_flushed flushed job.choice)

-- The same jobs are open in core and history. An open flush writes the frozen rows.
pub record HasJobs (core : CoreState) (seen : List Place) : Type 0 where
  pub flush : IsOpenFlush core.flush (open_flush None seen)
  pub compact : IsOpenCompaction core.compact (open_compact None seen)
  pub frozen : IfSome core.flush (λ f. core.sources.frozen ≡ Some f.rows)
  pub since : IfSome core.compact (IsSince core)

-- ---- the relation

-- A core stands for what the machine comes to.
pub record Stands (opening : Opening) (core : CoreState) (seen : List Place) : Type 0 where
  pub legal : IsLegal opening.state (steps_of seen)
  pub keys : MeansKeys core (state_at opening.state seen)
  pub pins : ArePinned core core.pins (state_at opening.state seen).pins
  pub rows : AreKept core.sources core.last
  pub counts : AreCounted opening core seen
  pub views : OfEachTick (IsSeenView opening core seen) opening.state seen
  pub jobs : HasJobs core seen
