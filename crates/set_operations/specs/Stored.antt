-- The plans of the commands that store what several sets come to, by what they find.
use Rattle.std.specs.Prelude.{ℕ, List, length, Option, Some, None, is_some, Bool, ◌==◌, nat_lt, if◌then◌else◌, Ok, Err, IfOk, All}
use Rattle.kv_base.specs.Map.{Bytes, empty, insert}
use Rattle.kv_base.specs.declared.kind.Kind.TheVariants as code
use Rattle.batch_codec.specs.Batches.{Batch}
use Rattle.redis_model.specs.declared.reply.Reply.{Reply}
use Rattle.redis_model.specs.declared.reply.Reply.TheVariants as reply
use Rattle.redis_model.specs.declared.reply.ReplyError.TheVariants.{TooLarge}
use Rattle.redis_model.specs.Value.{max_size}
use Rattle.redis_model.specs.Limits.{IsName}
use Rattle.redis_model.specs.Outcome.{Outcome, number}
use Rattle.lives_model.specs.declared.plan.Plan.{Plan}
use Rattle.lives_model.specs.Rows.{Rows, meta_key}
use Rattle.lives_model.specs.Clean.{live_at}
use Rattle.lives_model.specs.Plans.{sooner}
use Rattle.plan_base.specs.Seen.{deadline_in}
use Rattle.plan_base.specs.MetaRows.{meta_batch}
use Rattle.life_plans.specs.WantedRows.{wanted, joins}
use Rattle.life_plans.specs.ChangePlans.{life_text}
use Rattle.set_operations.specs.declared.combine.Combination.{Combination}
use Rattle.set_operations.specs.Combined.{combined_at, set_lives, soonest}

-- the number of the members is answered; too many are an error
abbrev pub stored_reply : List Bytes → Reply
stored_reply xs = if nat_lt max_size (length xs) then reply.Error TooLarge else number (length xs)

-- no members leave no key: the metadata is deleted, where there is a key
abbrev pub emptied_batch : Bytes → Bool → Batch
emptied_batch k there = if there then meta_batch k None else empty

-- the members are put in a new life without a deadline, with the metadata; too many are not
abbrev pub result_batch : Bytes → ℕ → List Bytes → Batch
result_batch k fresh xs = if nat_lt max_size (length xs) then empty else insert (wanted k fresh (joins xs)) (meta_key k) (Some (life_text code.Set None fresh (length xs)))

-- the plan by the members that are to be stored at a key
abbrev pub storing : Bytes → ℕ → Bool → Option ℕ → List Bytes → Plan
storing k fresh there until xs = record {
  reply = stored_reply xs;
  batch = if length xs == 0 then emptied_batch k there else result_batch k fresh xs;
  until = until;
}

-- or by the error at a key of another type
abbrev pub storing_or : Bytes → ℕ → Bool → Option ℕ → Outcome (List Bytes) → Plan
storing_or k fresh there until (Ok xs) = storing k fresh there until xs
storing_or k fresh there until (Err e) = record { reply = reply.Error e; batch = empty; until = until }

-- SINTERSTORE, SUNIONSTORE and SDIFFSTORE, which look ahead to the deadlines of the target and of the sets
unfoldable pub store_plan : Rows → ℕ → ℕ → Combination → Bytes → List Bytes → Plan
store_plan c t fresh how k ks =
    let lives = set_lives c t ks in
    storing_or k fresh (is_some (live_at c t k)) (sooner t (deadline_in (live_at c t k)) (soonest t lives)) (combined_at c how ks lives)

-- the members that sets come to fit into raw keys
abbrev pub ComesToNames : Rows → ℕ → Combination → List Bytes → Type 0
ComesToNames c t how ks = IfOk (combined_at c how ks (set_lives c t ks)) (λ xs. All IsName xs)
