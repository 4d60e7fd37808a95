-- Plans of commands that change the collection at one of their keys, by the life that is found there and the rows that
-- change.
use Rattle.std.proofs.Common.{ℕ, ◌+◌, ◌-◌, ◌≡◌, []}
use Rattle.std.specs.Prelude.{◌==◌, ◌&&◌, ◌∷◌, nat_lt, not, Bool, if◌then◌else◌, Option, Some, None, Ok, Err, length}
use Rattle.kv_base.specs.Map.{Bytes, insert, size}
use Rattle.kv_base.specs.MetaValues.{LifeValue, meta_text}
use Rattle.kv_base.specs.declared.kind.Kind.{Kind as Code}
use Rattle.batch_codec.specs.Batches.{Batch}
use Rattle.redis_model.specs.declared.reply.Reply.{Reply}
use Rattle.redis_model.specs.declared.reply.Reply.TheVariants as reply
use Rattle.redis_model.specs.declared.reply.ReplyError.TheVariants.{TooLarge}
use Rattle.redis_model.specs.Value.{max_size}
use Rattle.redis_model.specs.Outcome.{Outcome, Kind}
use Rattle.lives_model.specs.declared.plan.Plan.{Plan}
use Rattle.lives_model.specs.Rows.{Elements, Scores, meta_key}
use Rattle.lives_model.specs.Means.{HasWholeScores, row_of}
use Rattle.lives_model.specs.LifeRows.{HasIndices, value_rows}
use Rattle.lives_model.specs.Plans.{least_above}
use Rattle.plan_base.specs.declared.life.LifeSight.{LifeSight}
use Rattle.plan_base.specs.Lives.{life_size}
use Rattle.plan_base.specs.LifePlans.{answering}
use Rattle.plan_base.specs.LifeSteps.{life_on}
use Rattle.plan_base.specs.MetaRows.{expire_number, meta_batch}

-- how many elements a collection has after a change
abbrev pub size_after : Option LifeSight → ℕ → ℕ → ℕ
size_after found added removed = (life_size found + added) - removed

-- the metadata of a life
abbrev pub life_text : Code → Option ℕ → ℕ → ℕ → Bytes
life_text code deadline version size = meta_text (LifeValue code (expire_number deadline) version size)

-- a collection that becomes empty leaves no key; where there was none, nothing is written
abbrev pub emptied_plan : ℕ → Bytes → Option ℕ → Option LifeSight → Reply → Plan
emptied_plan t k old None answer = answering t old answer
emptied_plan t k old (Some life) answer = record { reply = answer; batch = meta_batch k None; until = least_above t (old ∷ None ∷ []) }

-- The plan of a command that changes the collection at its only key, which has this deadline: by the life that is found
-- there, whether the command writes its key again also where nothing changes, the rows that change, and the number of
-- elements afterwards. Too many are an error. The life goes on where one was found, and else begins with the version
-- `fresh`.
unfoldable pub changing_plan : ℕ → Bytes → Code → Option ℕ → ℕ → Option LifeSight → Bool → Batch → ℕ → Reply → Plan
changing_plan t k code old fresh found again rows count answer =
    if nat_lt max_size count then answering t old (reply.Error TooLarge)
    else (if count == 0 then emptied_plan t k old found answer
    else (if not again && (size rows == 0) then answering t old answer
    else record {
      reply = answer;
      batch = insert rows (meta_key k) (Some (life_text code old (life_on fresh found).version count));
      until = least_above t (old ∷ old ∷ []);
    }))

-- the plan by the life that is found; a key of another type is an error
abbrev pub by_life : ℕ → Option ℕ → (Option LifeSight → Plan) → Outcome (Option LifeSight) → Plan
by_life t old plan (Ok found) = plan found
by_life t old plan (Err e) = answering t old (reply.Error e)

-- A kind of collection is its elements: they alone have rows, one each, and two collections with the same rows are one.
pub record HasElements {A : Type 0} (kind : Kind A) (row : A → Bytes → Option Bytes) : Type 0 where
  pub no_scores : (a : A) (head : ℕ) (subkey : Bytes) → row_of (kind.value_of a) head Scores subkey ≡ None
  pub scores : (a : A) → HasWholeScores (kind.value_of a)
  pub indices : (a : A) (head : ℕ) → HasIndices (kind.value_of a) head
  pub count : (a : A) (head : ℕ) → kind.count a ≡ length (value_rows (kind.value_of a) head Elements)
  pub one : (a b : A) → ((subkey : Bytes) → row a subkey ≡ row b subkey) → a ≡ b
