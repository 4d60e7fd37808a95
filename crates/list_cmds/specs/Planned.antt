-- The plan of each command, by what it finds.
use Rattle.std.proofs.Common.{ℕ, ◌+◌, ◌-◌, List, [], length, map}
use Rattle.std.specs.Prelude.{Option, Some, None, if◌then◌else◌, ◌&&◌, ◌==◌, nat_le, ℤ}
use Rattle.kv_base.specs.Map.{Bytes, empty, insert}
use Rattle.kv_base.specs.RawKeys.{element_space, life_prefix}
use Rattle.redis_model.specs.declared.reply.Reply.{Reply}
use Rattle.redis_model.specs.declared.reply.Reply.TheVariants as reply
use Rattle.redis_model.specs.declared.reply.ReplyError.TheVariants.{NoSuchKey, IndexRange, TooLarge}
use Rattle.redis_model.specs.declared.command.End.{End}
use Rattle.redis_model.specs.Outcome.{number, bulk_or_null, bulks}
use Rattle.redis_model.specs.Lists.{place}
use Rattle.redis_model.specs.Strings.{start_at, end_at}
use Rattle.lives_model.specs.declared.plan.Plan.{Plan}
use Rattle.lives_model.specs.Rows.{Rows}
use Rattle.lives_model.specs.Page.{page}
use Rattle.plan_base.specs.LifePlans.{answering}
use Rattle.life_plans.specs.WantedRows.{wanted}
use Rattle.list_plans.specs.declared.sight.ListSight.{ListSight}
use Rattle.list_plans.specs.ListLives.{items_found, list_on}
use Rattle.list_plans.specs.ListRows.{end_index, pushes, trims, set_row}
use Rattle.list_plans.specs.ListPlans.{by_list, list_plan, gone_plan}
use Rattle.list_changes.specs.Ends.{sight_pushed, sight_popped, is_too_long}
use Rattle.list_changes.specs.declared.found.ListFound.{ListFound}
use Rattle.list_changes.specs.Found.{item_raw}

-- ---- reading

-- LLEN
unfoldable pub l_len_plan : ℕ → ListFound → Plan
l_len_plan t found = by_list t found.deadline (λ list. answering t found.deadline (number (items_found list))) found.list

-- LINDEX, by the item that was looked up
unfoldable pub l_index_plan : ℕ → ListFound → Option Bytes → Plan
l_index_plan t found item = by_list t found.deadline (λ list. answering t found.deadline (bulk_or_null item)) found.list

-- the items from one place up to another, as a page has them
abbrev pub items_between : Rows → Bytes → ListSight → ℕ → ℕ → List Bytes
items_between c k list from end =
    if nat_le end from then [] else map (λ row. row.1) (page c (item_raw k list (list.head + from)) (life_prefix element_space k list.version) (end - from))

abbrev pub items_in_range : Rows → Bytes → ℤ → ℤ → Option ListSight → List Bytes
items_in_range c k a b None = []
items_in_range c k a b (Some list) = items_between c k list (start_at (list.tail - list.head) a) (end_at (list.tail - list.head) b)

-- LRANGE
unfoldable pub l_range_plan : Rows → ℕ → ListFound → Bytes → ℤ → ℤ → Plan
l_range_plan c t found k a b = by_list t found.deadline (λ list. answering t found.deadline (bulks (items_in_range c k a b list))) found.list

-- ---- pushing

-- to a list that goes on, or a new one
unfoldable pub pushing : ℕ → Bytes → Option ℕ → End → List Bytes → ListSight → Plan
pushing t k old end vs list =
    if is_too_long end list (length vs) then answering t old (reply.Error TooLarge)
    else list_plan t k old (sight_pushed end (length vs) list) (wanted k list.version (pushes end list vs)) (number ((list.tail - list.head) + length vs))

-- LPUSH and RPUSH
unfoldable pub push_plan : ℕ → ℕ → ListFound → Bytes → End → List Bytes → Plan
push_plan t fresh found k end vs = by_list t found.deadline (λ list. pushing t k found.deadline end vs (list_on fresh list)) found.list

-- LPUSHX and RPUSHX: without a key 0, and nothing is written
abbrev pub pushing_x : ℕ → Bytes → Option ℕ → End → List Bytes → Option ListSight → Plan
pushing_x t k old end vs None = answering t old (number 0)
pushing_x t k old end vs (Some list) = pushing t k old end vs list

unfoldable pub push_x_plan : ℕ → ListFound → Bytes → End → List Bytes → Plan
push_x_plan t found k end vs = by_list t found.deadline (pushing_x t k found.deadline end vs) found.list

-- ---- popping

-- the item at an end goes, and the key with the last one
abbrev pub popping : ℕ → Bytes → Option ℕ → End → Reply → Option ListSight → Plan
popping t k old end answer None = answering t old reply.Null
popping t k old end answer (Some list) =
    if list.tail - list.head == 1 then gone_plan t k old answer
    else list_plan t k old (sight_popped end list) (insert empty (item_raw k list (end_index end list)) None) answer

-- LPOP and RPOP, by the item that was looked up
unfoldable pub pop_plan : ℕ → ListFound → Bytes → End → Option Bytes → Plan
pop_plan t found k end item = by_list t found.deadline (popping t k found.deadline end (bulk_or_null item)) found.list

-- ---- setting

abbrev pub setting_at : ℕ → Bytes → Option ℕ → Option Bytes → Bytes → ListSight → Option ℕ → Plan
setting_at t k old row v list None = answering t old (reply.Error IndexRange)
setting_at t k old row v list (Some i) = list_plan t k old list (set_row row (item_raw k list (list.head + i)) v) reply.Ok

abbrev pub setting : ℕ → Bytes → Option ℕ → Option Bytes → ℤ → Bytes → Option ListSight → Plan
setting t k old row at v None = answering t old (reply.Error NoSuchKey)
setting t k old row at v (Some list) = setting_at t k old row v list (place (list.tail - list.head) at)

-- LSET, by the item that was looked up
unfoldable pub l_set_plan : ℕ → ListFound → Bytes → ℤ → Bytes → Option Bytes → Plan
l_set_plan t found k at v row = by_list t found.deadline (setting t k found.deadline row at v) found.list

-- ---- trimming

-- the items from one place up to another stay: all of them, none, or some
unfoldable pub trimming_to : ℕ → Bytes → Option ℕ → ListSight → ℕ → ℕ → Plan
trimming_to t k old list from end =
    if (from == 0) && (end == list.tail - list.head) then answering t old reply.Ok
    else (if nat_le end from then gone_plan t k old reply.Ok
    else list_plan t k old (record { version = list.version; head = list.head + from; tail = list.head + end }) (wanted k list.version (trims list from end)) reply.Ok)

abbrev pub trimming : ℕ → Bytes → Option ℕ → ℤ → ℤ → Option ListSight → Plan
trimming t k old a b None = answering t old reply.Ok
trimming t k old a b (Some list) = trimming_to t k old list (start_at (list.tail - list.head) a) (end_at (list.tail - list.head) b)

-- LTRIM
unfoldable pub l_trim_plan : ℕ → ListFound → Bytes → ℤ → ℤ → Plan
l_trim_plan t found k a b = by_list t found.deadline (trimming t k found.deadline a b) found.list
