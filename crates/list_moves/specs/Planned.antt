-- The plan of a command that moves an item from one list to another, by what it finds at both keys.
use Rattle.std.proofs.Common.{ℕ, ◌-◌, [], ◌∷◌}
use Rattle.std.specs.Prelude.{Option, Some, None, Ok, Err, if◌then◌else◌, ◌==◌}
use Rattle.kv_base.specs.Map.{Bytes, same, empty, insert}
use Rattle.batch_codec.specs.Batches.{Batch}
use Rattle.redis_model.specs.declared.reply.Reply.{Reply}
use Rattle.redis_model.specs.declared.reply.Reply.TheVariants as reply
use Rattle.redis_model.specs.declared.reply.ReplyError.TheVariants.{TooLarge}
use Rattle.redis_model.specs.declared.command.End.{End}
use Rattle.redis_model.specs.declared.command.End.TheVariants.{Left, Right}
use Rattle.redis_model.specs.Outcome.{Outcome}
use Rattle.lives_model.specs.declared.plan.Plan.{Plan}
use Rattle.lives_model.specs.Rows.{Rows}
use Rattle.lives_model.specs.Plans.{least_above}
use Rattle.plan_base.specs.MetaRows.{meta_batch}
use Rattle.list_plans.specs.declared.sight.ListSight.{ListSight}
use Rattle.list_plans.specs.ListLives.{list_on}
use Rattle.list_plans.specs.ListRows.{end_index}
use Rattle.list_plans.specs.ListPlans.{list_batch, list_plan}
use Rattle.list_changes.specs.declared.found.ListFound.{ListFound}
use Rattle.list_changes.specs.Ends.{sight_pushed, sight_popped, is_too_long}
use Rattle.list_changes.specs.Found.{item_raw, found_at, item_at_end, item_found}

-- the plan that answers and writes nothing; the two keys have these deadlines
abbrev pub leaving : ℕ → Option ℕ → Option ℕ → Reply → Plan
leaving t old other answer = record { reply = answer; batch = empty; until = least_above t (old ∷ other ∷ []) }

-- the index of one more item at an end
abbrev pub next_index : End → ListSight → ℕ
next_index Left list = list.head - 1
next_index Right list = list.tail

-- ---- one list

-- An item goes from one end of a list to the other: it is put there, and taken away where it stood. From an end to the same
-- one it stays where it is.
abbrev pub turned_rows : Bytes → End → End → ListSight → Bytes → Batch
turned_rows k Left Right list v = insert (insert empty (item_raw k list list.tail) (Some v)) (item_raw k list list.head) None
turned_rows k Right Left list v = insert (insert empty (item_raw k list (list.tail - 1)) None) (item_raw k list (list.head - 1)) (Some v)
turned_rows k Left Left list v = empty
turned_rows k Right Right list v = empty

-- the list after it
abbrev pub sight_turned : End → End → ListSight → ListSight
sight_turned from to list = sight_pushed to 1 (sight_popped from list)

-- With one key twice the list is turned, and its deadline stays. It gets no longer, but its indices may run out.
abbrev pub turning : ℕ → Bytes → Option ℕ → End → End → ListSight → Bytes → Plan
turning t k old from to list v =
    if is_too_long to (sight_popped from list) 1 then leaving t old old (reply.Error TooLarge)
    else list_plan t k old (sight_turned from to list) (turned_rows k from to list v) (reply.Bulk v)

-- ---- two lists

-- the item at an end of the list at the first key goes, and the key with the last one
abbrev pub item_taken : Bytes → Option ℕ → End → ListSight → Batch
item_taken k old end list =
    if list.tail - list.head == 1 then meta_batch k None
    else list_batch k old (sight_popped end list) (insert empty (item_raw k list (end_index end list)) None)

-- an item comes to an end of the list at the second one, beside what a batch does already
abbrev pub brought : Bytes → Option ℕ → End → ListSight → Bytes → Batch → Batch
brought k old end list v b = list_batch k old (sight_pushed end 1 list) (insert b (item_raw k list (next_index end list)) (Some v))

-- The item is taken from one and brought to the other, and both keep their deadlines. A list that becomes too large is an
-- error.
abbrev pub moving : ℕ → Bytes → Bytes → Option ℕ → Option ℕ → End → End → ListSight → ListSight → Bytes → Plan
moving t a b old other from to list target v =
    if is_too_long to target 1 then leaving t old other (reply.Error TooLarge)
    else record { reply = reply.Bulk v; batch = brought b other to target v (item_taken a old from list); until = least_above t (old ∷ other ∷ []) }

-- ---- by what is found

-- an item that was looked up at the end of a list is moved
abbrev pub moving_item : ℕ → Bytes → Bytes → Option ℕ → Option ℕ → End → End → ListSight → ListSight → Option Bytes → Plan
moving_item t a b old other from to list target None = leaving t old other reply.Null
moving_item t a b old other from to list target (Some v) = if same a b then turning t a old from to list v else moving t a b old other from to list target v

-- Without a list at the first key the answer is null, whatever the second one holds. A key of another type is an error.
abbrev pub by_lists : ℕ → Option ℕ → Option ℕ → (ListSight → Option ListSight → Plan) → Outcome (Option ListSight) → Outcome (Option ListSight) → Plan
by_lists t old other plan (Err e) target = leaving t old other (reply.Error e)
by_lists t old other plan (Ok None) target = leaving t old other reply.Null
by_lists t old other plan (Ok (Some list)) (Err e) = leaving t old other (reply.Error e)
by_lists t old other plan (Ok (Some list)) (Ok target) = plan list target

-- by what is found at both keys, and the item at the end of the first list: it comes to the list that goes on at the second
-- key, or to a new one with this version
abbrev pub moving_found : ℕ → ℕ → Bytes → Bytes → End → End → ListFound → ListFound → Option Bytes → Plan
moving_found t fresh a b from to source target item =
    by_lists t source.deadline target.deadline (λ list other. moving_item t a b source.deadline target.deadline from to list (list_on fresh other) item) source.list target.list

-- RPOPLPUSH and LMOVE
unfoldable pub move_plan : Rows → ℕ → ℕ → Bytes → Bytes → End → End → Plan
move_plan c t fresh a b from to = moving_found t fresh a b from to (found_at c t a) (found_at c t b) (item_found (item_at_end c a from) (found_at c t a).list)
