-- A run of a new core, written out: two writes of one key, of which the first goes through a flush and a compaction while a
-- caller keeps it, and two reads.
use Rattle.std.specs.Prelude.{List, [], ◌∷◌, Some, None, true}
use Rattle.kv_base.specs.Map.{Bytes}
use Rattle.kv_base.specs.Hash.{stripe}
use Rattle.redis_model.specs.declared.reply.Reply.TheVariants as reply
use Rattle.redis_model.specs.declared.command.Command.{Command}
use Rattle.redis_model.specs.declared.command.Command.TheVariants as cmd
use Rattle.redis_model.specs.declared.command.Cmds.TheVariants.{One}
use Rattle.redis_model.specs.declared.command.When.TheVariants.{Any}
use Rattle.redis_model.specs.declared.command.Expiry.TheVariants as expiry
use Rattle.redis_model.specs.declared.history.ReadView.{ReadView}
use Rattle.redis_model.specs.declared.history.Note.TheVariants.{Appended}
use Rattle.lives_model.specs.declared.plan.Plan.{Plan}
use Rattle.lives_model.specs.Clean.{live_at}
use Rattle.string_cmds.specs.Planned.{set_plan, get_plan}
use Rattle.row_model.specs.Rows.{at}
use Rattle.filter_laws.specs.Kept.{kept_rows}
use Rattle.core_model.specs.Sources.{Table, rows_in, together, all_rows, in_levels}
use Rattle.core_model.specs.Core.{CoreState, Choice, Compaction, newest_rows, raised}
use Rattle.core_model.specs.Opened.{new_core}
use Rattle.core_model.specs.Events.{Work, core_with_batch, with_flush, put_in_front, with_pin, watchers}
use Rattle.core_model.specs.Runs.{Event, Glance, Commit, Freeze, InstallFlush, Pin, Play, BeginCompact, InstallCompact, Look, Read}

-- ---- the commands

abbrev pub example_key : Bytes
example_key = 97 ∷ []

-- SET a 1, SET a 2 and GET a
abbrev pub first_set : Command
first_set = cmd.Set example_key (49 ∷ []) Any expiry.None 0

abbrev pub second_set : Command
second_set = cmd.Set example_key (50 ∷ []) Any expiry.None 0

abbrev pub example_get : Command
example_get = cmd.Get example_key 0

-- ---- a glance and a commit

abbrev pub glanced : CoreState
glanced = raised new_core 5

abbrev pub first_view : ReadView
first_view = record { seq = 0; moment = glanced.floor; rows = record { map = newest_rows new_core }; marks = record { stripe = stripe example_key; count = 0 } ∷ [] }

abbrev pub first_plan : Plan
first_plan = set_plan glanced.floor (live_at (newest_rows new_core) glanced.floor example_key) example_key (49 ∷ []) Any expiry.None

abbrev pub first_work : Work
first_work = record { caller = 1; now = 5; ds = One first_set; view = first_view; batch = first_plan.batch; answer = first_plan.reply; until = first_plan.until }

abbrev pub committed : CoreState
committed = core_with_batch glanced (One first_set) first_plan.batch

-- ---- a flush

abbrev pub frozen : CoreState
frozen = with_flush committed 2

abbrev pub flushed_table : Table
flushed_table = record { run = 1; part = 0; rows = committed.sources.memory }

abbrev pub flushed : CoreState
flushed = record frozen {
  sources = record frozen.sources { frozen = None; levels = put_in_front flushed_table frozen.sources.levels };
  flush = None;
  tried = None;
  log = 2;
  manifest_floor = frozen.floor;
}

-- ---- a pin, and another write

abbrev pub pinned_core : CoreState
pinned_core = with_pin (raised flushed 6) 3 None

abbrev pub second_plan : Plan
second_plan = set_plan (raised pinned_core 7).floor (live_at (newest_rows pinned_core) (raised pinned_core 7).floor example_key) example_key (50 ∷ []) Any expiry.None

abbrev pub second_written : CoreState
second_written = core_with_batch (raised pinned_core 7) (One second_set) second_plan.batch

-- ---- a compaction of level 0

abbrev pub example_choice : Choice
example_choice = record {
  above = [];
  front = [];
  chosen = flushed_table ∷ [];
  behind = [];
  next_front = [];
  next_chosen = [];
  next_behind = [];
  deeper = [] ∷ [] ∷ [] ∷ [];
}

abbrev pub example_job : Compaction
example_job = record {
  caller = 2;
  run = 2;
  level = 0;
  choice = example_choice;
  all = rows_in second_written.sources;
  watch = watchers second_written;
  rows = kept_rows (watchers second_written) (together (flushed_table ∷ [])) (all_rows (in_levels ([] ∷ [] ∷ [] ∷ []))) (rows_in second_written.sources);
}

abbrev pub compacting : CoreState
compacting = record second_written { compact = Some example_job; next_run = 3 }

abbrev pub compacted_table : Table
compacted_table = record { run = 2; part = 0; rows = example_job.rows }

abbrev pub compacted : CoreState
compacted = record compacting {
  sources = record compacting.sources { levels = [] ∷ (compacted_table ∷ []) ∷ [] ∷ [] ∷ [] ∷ [] };
  compact = None;
  attempt = None;
  tried = None;
  manifest_floor = compacting.floor;
}

-- ---- two reads

-- of the caller that keeps the first value
abbrev pub kept_plan : Plan
kept_plan = get_plan 6 (live_at (at (rows_in compacted.sources) 1) 6 example_key)

abbrev pub looked : CoreState
looked = raised compacted 8

-- and of another one
abbrev pub newest_plan : Plan
newest_plan = get_plan (raised looked 9).floor (live_at (newest_rows (raised looked 9)) (raised looked 9).floor example_key)

abbrev pub example_end : CoreState
example_end = raised looked 9

-- ---- the events

abbrev pub example_run : List Event
example_run =
    Glance 5 1 first_view
    ∷ Commit first_work (Appended 1)
    ∷ Freeze 2 true (record { run = 1; level = 0; gone = []; rows = record { rows = committed.sources.memory } })
    ∷ InstallFlush 2 flushed_table
    ∷ Pin 6 3 reply.Ok
    ∷ Play 1 7 (One second_set) second_plan.batch second_plan.reply (Appended 2)
    ∷ BeginCompact 2 None example_job
    ∷ InstallCompact 2 (compacted_table ∷ [])
    ∷ Look 8 3 example_get kept_plan.reply
    ∷ Read 9 1 example_get newest_plan.reply
    ∷ []
