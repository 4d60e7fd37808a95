-- The plan of each command on hashes, by what it finds.
use Rattle.std.specs.Prelude.{ℕ, ◌-◌, [], ◌∷◌, List, length, map, zip, is_some, unwrap_or, Bool, true, false, if◌then◌else◌, Option, Some, None, Ok, Err, ℤ}
use Rattle.kv_base.specs.Map.{Bytes, empty}
use Rattle.kv_base.specs.Number.{int_text}
use Rattle.kv_base.specs.declared.kind.Kind.TheVariants as code
use Rattle.batch_codec.specs.Batches.{Batch}
use Rattle.redis_model.specs.declared.reply.Reply.{Reply}
use Rattle.redis_model.specs.declared.reply.Reply.TheVariants as reply
use Rattle.redis_model.specs.declared.reply.ReplyError.TheVariants.{HashNotInt}
use Rattle.redis_model.specs.Outcome.{Outcome, number, yes_no, bulk_or_null}
use Rattle.redis_model.specs.Strings.{added}
use Rattle.lives_model.specs.declared.plan.Plan.{Plan}
use Rattle.lives_model.specs.Rows.{Rows}
use Rattle.lives_model.specs.Clean.{live_at}
use Rattle.lives_model.specs.Plans.{same_row}
use Rattle.plan_base.specs.declared.life.LifeSight.{LifeSight}
use Rattle.plan_base.specs.Seen.{deadline_in}
use Rattle.plan_base.specs.Lives.{life_found, life_size, row_in_life}
use Rattle.plan_base.specs.LifePlans.{answering, life_reply}
use Rattle.plan_base.specs.LifeSteps.{life_on}
use Rattle.plan_base.specs.LifeChanges.{differing, added_rows, removed_rows}
use Rattle.life_plans.specs.ChangePlans.{changing_plan, by_life, size_after}
use Rattle.life_plans.specs.WantedRows.{wanted, puts, leaves}

-- ---- reading

-- a command that reads the hash at its key, by the life that is found there
abbrev pub hash_reading : Rows → ℕ → Bytes → (Option LifeSight → Reply) → Plan
hash_reading c t k answer = answering t (deadline_in (live_at c t k)) (life_reply answer (life_found code.Hash (live_at c t k)))

-- the value of a field in a life, or null
abbrev pub value_of_field : Rows → Bytes → Option LifeSight → Bytes → Reply
value_of_field c k found f = bulk_or_null (row_in_life c k found f)

-- HGET
unfoldable pub h_get_plan : Rows → ℕ → Bytes → Bytes → Plan
h_get_plan c t k f = hash_reading c t k (λ found. value_of_field c k found f)

-- HMGET: for each field its value, or null
unfoldable pub h_m_get_plan : Rows → ℕ → Bytes → List Bytes → Plan
h_m_get_plan c t k fs = hash_reading c t k (λ found. reply.Array (map (value_of_field c k found) fs))

-- HLEN
unfoldable pub h_len_plan : Rows → ℕ → Bytes → Plan
h_len_plan c t k = hash_reading c t k (λ found. number (life_size found))

-- HEXISTS
unfoldable pub h_exists_plan : Rows → ℕ → Bytes → Bytes → Plan
h_exists_plan c t k f = hash_reading c t k (λ found. yes_no (is_some (row_in_life c k found f)))

-- HSTRLEN
unfoldable pub h_str_len_plan : Rows → ℕ → Bytes → Bytes → Plan
h_str_len_plan c t k f = hash_reading c t k (λ found. number (length (unwrap_or (row_in_life c k found f) [])))

-- ---- changing

-- a command that changes the hash at its key, which has this deadline, by the life that is found there
abbrev pub hash_changing : Rows → ℕ → Bytes → (Option ℕ → Option LifeSight → Plan) → Plan
hash_changing c t k plan = by_life t (deadline_in (live_at c t k)) (plan (deadline_in (live_at c t k))) (life_found code.Hash (live_at c t k))

-- by the rows that it wants; the answer is told by the number of fields afterwards
abbrev pub changing_fields : Rows → ℕ → ℕ → Bytes → Option ℕ → Bool → Option LifeSight → Batch → (ℕ → Reply) → Plan
changing_fields c t fresh k old again found rows answer =
    let count = size_after found (added_rows c rows) (removed_rows c rows) in
    changing_plan t k code.Hash old fresh found again (differing c rows) count (answer count)

-- HSET: of a field that comes twice the last value; the key is written again also where nothing differs
abbrev pub setting_fields : Rows → ℕ → ℕ → Bytes → List Bytes → List Bytes → Option ℕ → Option LifeSight → Plan
setting_fields c t fresh k fs vs old found = changing_fields c t fresh k old true found (wanted k (life_on fresh found).version (puts (zip fs vs))) (λ count. number (count - life_size found))

unfoldable pub h_set_plan : Rows → ℕ → ℕ → Bytes → List Bytes → List Bytes → Plan
h_set_plan c t fresh k fs vs = hash_changing c t k (setting_fields c t fresh k fs vs)

-- HDEL: where there is no key nothing is looked up
abbrev pub deleting_fields : Rows → ℕ → ℕ → Bytes → List Bytes → Option ℕ → Option LifeSight → Plan
deleting_fields c t fresh k fs old None = answering t old (number 0)
deleting_fields c t fresh k fs old (Some life) = changing_fields c t fresh k old false (Some life) (wanted k life.version (leaves fs)) (λ count. number (life.size - count))

unfoldable pub h_del_plan : Rows → ℕ → ℕ → Bytes → List Bytes → Plan
h_del_plan c t fresh k fs = hash_changing c t k (deleting_fields c t fresh k fs)

-- ---- one field, at which this value was found

-- the row of the value that it is to have, if that is another one
abbrev pub field_rows : Bytes → ℕ → Bytes → Option Bytes → Bytes → Batch
field_rows k version f there v = if same_row there (Some v) then empty else wanted k version (puts ((f, v) ∷ []))

-- how many fields more there are with it
abbrev pub more_fields : Option Bytes → ℕ
more_fields there = if is_some there then 0 else 1

-- it gets a value
abbrev pub putting_field : ℕ → ℕ → Bytes → Option ℕ → Bool → Option LifeSight → Bytes → Option Bytes → Bytes → Reply → Plan
putting_field t fresh k old again found f there v answer =
    changing_plan t k code.Hash old fresh found again (field_rows k (life_on fresh found).version f there v) (size_after found (more_fields there) 0) answer

-- HSETNX: nothing is written where the field is there
abbrev pub adding_field : ℕ → ℕ → Bytes → Bytes → Bytes → Option ℕ → Option LifeSight → Option Bytes → Plan
adding_field t fresh k f v old found (Some there) = answering t old (number 0)
adding_field t fresh k f v old found None = putting_field t fresh k old false found f None v (number 1)

unfoldable pub h_set_nx_plan : Rows → ℕ → ℕ → Bytes → Bytes → Bytes → Plan
h_set_nx_plan c t fresh k f v = hash_changing c t k (λ old found. adding_field t fresh k f v old found (row_in_life c k found f))

-- HINCRBY, by the sum: the key is written again also where nothing differs
abbrev pub raising : ℕ → ℕ → Bytes → Bytes → Option ℕ → Option LifeSight → Option Bytes → Outcome ℤ → Plan
raising t fresh k f old found there (Ok z) = putting_field t fresh k old true found f there (int_text z) (reply.Int z)
raising t fresh k f old found there (Err e) = answering t old (reply.Error e)

abbrev pub raising_by : ℕ → ℕ → Bytes → Bytes → ℤ → Option ℕ → Option LifeSight → Option Bytes → Plan
raising_by t fresh k f n old found there = raising t fresh k f old found there (added HashNotInt there n)

unfoldable pub h_incr_by_plan : Rows → ℕ → ℕ → Bytes → Bytes → ℤ → Plan
h_incr_by_plan c t fresh k f n = hash_changing c t k (λ old found. raising_by t fresh k f n old found (row_in_life c k found f))
