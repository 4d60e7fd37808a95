-- A set that is stored at a key, over whatever the key held and without a deadline.
use Rattle.std.proofs.Common.{ℕ}
use Rattle.std.specs.Prelude.{◌==◌, nat_lt, if◌then◌else◌, List, ◌∷◌, Some, None, is_some}
use Rattle.kv_base.specs.Map.{Bytes, Set, empty, insert, size, keys}
use Rattle.kv_base.specs.declared.kind.Kind.TheVariants as code
use Rattle.batch_codec.specs.Batches.{Batch}
use Rattle.redis_model.specs.declared.reply.Reply.TheVariants as reply
use Rattle.redis_model.specs.declared.reply.ReplyError.TheVariants.{TooLarge}
use Rattle.redis_model.specs.Value.{max_size}
use Rattle.redis_model.specs.Outcome.{number}
use Rattle.lives_model.specs.declared.plan.Plan.{Plan}
use Rattle.lives_model.specs.Rows.{Rows, meta_key}
use Rattle.lives_model.specs.Clean.{live_at}
use Rattle.lives_model.specs.Plans.{least_above}
use Rattle.plan_base.specs.Ahead.{seen_deadlines}
use Rattle.plan_base.specs.MetaRows.{meta_batch}
use Rattle.life_plans.specs.WantedRows.{wanted, joins}
use Rattle.life_plans.specs.ChangePlans.{life_text}

-- its members in a new life; an empty set deletes the metadata of a key that is there
abbrev pub stored_batch : Rows → ℕ → ℕ → Bytes → Set → Batch
stored_batch c t fresh k s =
    if size s == 0 then (if is_some (live_at c t k) then meta_batch k None else empty)
    else insert (wanted k fresh (joins (keys s))) (meta_key k) (Some (life_text code.Set None fresh (size s)))

-- The plan of a command that stores this set at the first of its keys, and answers how many members it has; too many are
-- an error.
unfoldable pub storing_plan : Rows → ℕ → ℕ → Bytes → List Bytes → Set → Plan
storing_plan c t fresh k others s = record {
  reply = if nat_lt max_size (size s) then reply.Error TooLarge else number (size s);
  batch = if nat_lt max_size (size s) then empty else stored_batch c t fresh k s;
  until = least_above t (seen_deadlines c t (k ∷ others));
}
