-- The run is one of the core, from its opening on, and its reads are answered by the values that they should see.
use Rattle.std.proofs.Common.{◌≡◌, ℕ, zero, suc, ◌<◌, ◌≤◌, List, [], ◌∷◌, length, refl, sym, ap, subst, Bool, true, false, inr, append-nil, arith}
use Rattle.std.proofs.lemmas.List.Elements.{All-nil, All-cons}
use Rattle.std.proofs.lemmas.Bool.Decides.{nat_tests}
use Rattle.std.specs.Prelude.{◌≢◌, ◌||◌, nat_le, IsTrue, All}
use Rattle.kv_base.specs.Map.{Bytes, empty, insert, get, choose, same, same_is}
use Rattle.kv_base.specs.MetaValues.{meta_text, read_meta, is_value_text, is_meta_within, meta_parts}
use Rattle.kv_base.specs.RawKeys.{read_raw, raw_text, raw_parts, is_raw_within}
use Rattle.kv_base.specs.Fields.{u64, u32, text, read_u64}
use Rattle.kv_base.specs.Hash.{stripe}
use Rattle.kv_base.specs.declared.row.Row.{Row}
use Rattle.batch_codec.specs.Batches.{Batch, are_rows}
use Rattle.batch_codec.specs.Bodies.{body_of}
use Rattle.row_model.specs.Rows.{batch_rows, at, newest, seen_at}
use Rattle.row_model.specs.RowOrder.{merged, placed}
use Rattle.redis_model.specs.declared.reply.Reply.TheVariants as reply
use Rattle.redis_model.specs.declared.command.Cmds.TheVariants.{One}
use Rattle.redis_model.specs.declared.command.When.TheVariants.{Any}
use Rattle.redis_model.specs.declared.command.Expiry.TheVariants as expiry
use Rattle.redis_model.specs.declared.history.Note.TheVariants.{Appended}
use Rattle.redis_model.specs.declared.history.Mark.{Mark}
use Rattle.redis_model.specs.Limits.{IsWithin, IsName}
use Rattle.redis_model.specs.Desk.{longest_body}
use Rattle.lives_model.specs.Rows.{meta_key}
use Rattle.lives_model.specs.Clean.{live_at}
use Rattle.lives_model.specs.Plans.{IsPlanned}
use Rattle.core_model.specs.Places.{HasMark}
use Rattle.string_cmds.specs.Planned.{set_plan, get_plan}
use Rattle.string_cmds.specs.SetPlanLaws.{set_carries}
use Rattle.string_cmds.specs.ReadPlanLaws.{get_carries}
use Rattle.core_model.specs.Sources.{rows_in, together, AreBelow}
use Rattle.filter_laws.specs.Kept.{kept_rows}
use Rattle.core_model.specs.Runs.{IsCoreRun}
use Rattle.core_model.specs.Core.{newest_rows, raised}
use Rattle.core_model.specs.Opened.{new_core}
use Rattle.core_model.specs.Events.{Glances, Commits, Freezes, InstallsFlush, Pins, PlaysCommands, BeginsCompact, InstallsCompact, LooksPinned, Reads, tick}
use Rattle.core_example.specs.ExampleRun.{example_key, first_set, second_set, example_get, glanced, first_view, first_plan, first_work, committed, frozen, flushed_table, flushed, pinned_core, second_plan, second_written, example_job, compacting, compacted_table, compacted, kept_plan, looked, newest_plan, example_end, example_run}

-- ---- the commands can be asked for

short_name : All IsName (example_key ∷ [])
short_name = All-cons IsName example_key [] (omega arith) (All-nil IsName)

first_within : IsWithin first_set
first_within = record { names = short_name; fields = (omega arith, tt); few = omega arith; light = omega arith; weighed = omega arith }

second_within : IsWithin second_set
second_within = record { names = short_name; fields = (omega arith, tt); few = omega arith; light = omega arith; weighed = omega arith }

get_within : IsWithin example_get
get_within = record { names = short_name; fields = tt; few = omega arith; light = omega arith; weighed = omega arith }

-- the key is the only one that they name
only_key : (k : Bytes) → IsTrue (same k example_key || false) → k ≡ example_key
only_key k is = same_is k example_key (by_test (same k example_key) is)
  where
    by_test : (b : Bool) → (b || false) ≡ true → b ≡ true
    by_test true is = refl
    by_test false is = absurd (cc)

-- ---- a glance and a commit

glances : Glances new_core glanced 5 first_view
glances = record { core = refl; seq = refl; moment = refl; rows = refl; marks = marks }
  where
    low_stripe : stripe example_key < 16
    low_stripe = omega arith

    marks : (b mark : ℕ) → HasMark first_view b mark → (b < 16) × (mark ≡ 0)
    marks b mark (zero, low, is) = (subst (λ n. n < 16) (ap (λ (m : Mark). m.stripe) is) low_stripe, sym (ap (λ (m : Mark). m.count) is))
    marks b mark (suc i, low, is) = absurd (omega arith)

first_rows : IsTrue (are_rows first_plan.batch.entries)
unfolding empty insert get set_plan is_value_text read_raw meta_key raw_text raw_parts is_raw_within read_meta meta_text meta_parts read_u64 u64 is_meta_within
first_rows = refl

first_size : length first_plan.batch.entries ≡ 1
unfolding empty insert set_plan
first_size = refl

first_fits : IsTrue (nat_le (length (body_of 1 5 first_plan.batch)) 64)
unfolding empty insert get set_plan meta_key raw_text raw_parts meta_text meta_parts u64 u32 text body_of
first_fits = refl

-- a short body fits a record
short_body : (n : ℕ) → IsTrue (nat_le n 64) → n ≤ longest_body
short_body n h = grind (arith, nat_tests)

-- a batch with an entry is not empty
some_entry : (b : Batch) → length b.entries ≡ 1 → b ≢ empty
unfolding empty
some_entry b one none = absurd (omega (arith, one, ap (λ (x : Batch). length x.entries) none))

first_planned : IsPlanned (newest_rows new_core) glanced.floor 0 (One first_set) first_plan.batch first_plan.reply first_plan.until
first_planned = record { plan = λ m means ready. (set_carries (newest_rows new_core) glanced.floor _ example_key (49 ∷ []) Any expiry.None 0 first_within).law m means }

commits : Commits glanced committed (tick 5 1 first_view ∷ []) first_work (Appended 1)
commits = record {
  can = record {
    own = record { free = refl; asked = (first_within, tt); rows = first_rows };
    ticked = (0, omega arith, refl);
    plan = first_planned;
    marks = λ k named. subst (λ q. HasMark first_view (stripe q) 0) (sym (only_key k named)) (0, omega arith, refl);
  };
  current = refl;
  appends = inr (some_entry first_plan.batch first_size, record { room = omega arith; fits = short_body _ first_fits; core = refl; sequence = refl });
}

-- ---- a flush

committed_rows : length committed.sources.memory ≡ 1
unfolding empty insert set_plan merged batch_rows placed
committed_rows = refl

freezes : Freezes committed frozen 2 (record { run = 1; level = 0; gone = []; rows = record { rows = committed.sources.memory } })
freezes = record { none = refl; some = omega (arith, committed_rows); core = refl; task_is = refl }

installs_flush : InstallsFlush frozen flushed 2 flushed_table
installs_flush = record {
  flush = record { caller = 2; run = 1; rows = committed.sources.memory };
  open_ = refl;
  own = refl;
  run = refl;
  rows = refl;
  core = refl;
}

-- ---- a pin, and another write

pins : Pins flushed pinned_core 6 3 reply.Ok
pins = record { core = refl; reply = refl }

second_rows : IsTrue (are_rows second_plan.batch.entries)
unfolding empty insert get set_plan is_value_text read_raw meta_key raw_text raw_parts is_raw_within read_meta meta_text meta_parts read_u64 u64 is_meta_within
second_rows = refl

second_size : length second_plan.batch.entries ≡ 1
unfolding empty insert set_plan
second_size = refl

second_fits : IsTrue (nat_le (length (body_of 2 7 second_plan.batch)) 64)
unfolding empty insert get set_plan meta_key raw_text raw_parts meta_text meta_parts u64 u32 text body_of
second_fits = refl

second_planned : IsPlanned (newest_rows pinned_core) (raised pinned_core 7).floor 1 (One second_set) second_plan.batch second_plan.reply second_plan.until
second_planned = record { plan = λ m means ready. (set_carries (newest_rows pinned_core) (raised pinned_core 7).floor _ example_key (50 ∷ []) Any expiry.None 0 second_within).law m means }

plays : PlaysCommands pinned_core second_written 1 7 (One second_set) second_plan.batch second_plan.reply (Appended 2)
plays = record {
  own = record { free = refl; asked = (second_within, tt); rows = second_rows };
  until = second_plan.until;
  plan = second_planned;
  appends = inr (some_entry second_plan.batch second_size, record { room = omega arith; fits = short_body _ second_fits; core = refl; sequence = refl });
}

-- ---- a compaction

nothing_below : (rows : List Row) → AreBelow [] rows
nothing_below rows row other here there = absurd (omega (arith, here.1))

nothing_above : (rows : List Row) → AreBelow rows []
nothing_above rows row other here there = absurd (omega (arith, there.1))

begins : BeginsCompact kept_rows second_written compacting 2 example_job
begins = record {
  none = refl;
  own = refl;
  run = refl;
  level = refl;
  levels = refl;
  choice = record { whole = λ e. (refl, refl); below = nothing_below _; above_ = nothing_above _ };
  some = omega arith;
  all = refl;
  watch = refl;
  rows = refl;
  core = refl;
}

installs : InstallsCompact compacting compacted 2 (compacted_table ∷ [])
installs = record {
  job = example_job;
  open_ = refl;
  own = refl;
  rows = append-nil example_job.rows;
  ascending = (nothing_above compacted_table.rows, tt);
  flushed = [];
  since = refl;
  core = refl;
}

-- ---- two reads

looks : LooksPinned compacted looked 8 3 example_get kept_plan.reply
looks = record {
  core = refl;
  pin = record { caller = 3; seq = 1; moment = 6 };
  found = refl;
  asked = (get_within, tt);
  reads = refl;
  batch = kept_plan.batch;
  until = kept_plan.until;
  plan = record { plan = λ m means ready. (get_carries (at (rows_in compacted.sources) 1) 6 _ example_key 0).law m means };
}

reads : Reads looked example_end 9 1 example_get newest_plan.reply
reads = record {
  core = refl;
  free = refl;
  asked = (get_within, tt);
  reads = refl;
  batch = newest_plan.batch;
  until = newest_plan.until;
  plan = record { plan = λ m means ready. (get_carries (newest_rows example_end) example_end.floor _ example_key 0).law m means };
}

-- ---- the run

pub example_runs : IsCoreRun [] new_core example_run example_end
example_runs =
    (glanced, glances, (committed, commits, (frozen, freezes, (flushed, installs_flush, (pinned_core, pins, (second_written, plays, (compacting, begins, (compacted, installs, (looked, looks, (example_end, reads, refl))))))))))

-- The caller with a pin reads the first value,
pub kept_value_is_read : kept_plan.reply ≡ reply.Bulk (49 ∷ [])
unfolding get_plan live_at get at choose newest rows_in merged batch_rows set_plan insert empty placed kept_rows together seen_at meta_key raw_text raw_parts meta_text meta_parts u64 read_meta read_u64 is_meta_within read_raw is_raw_within
kept_value_is_read = refl

-- and the other one the second.
pub newest_value_is_read : newest_plan.reply ≡ reply.Bulk (50 ∷ [])
unfolding get_plan live_at get at choose newest rows_in merged batch_rows set_plan insert empty placed kept_rows together seen_at meta_key raw_text raw_parts meta_text meta_parts u64 read_meta read_u64 is_meta_within read_raw is_raw_within
newest_value_is_read = refl
