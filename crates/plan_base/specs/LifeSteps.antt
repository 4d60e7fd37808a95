-- Steps of commands that change the collection at their only key, and leave one there.
use Rattle.std.proofs.Common.{ℕ, ◌≡◌}
use Rattle.std.specs.Prelude.{◌⊎◌, ◌^◌, Option, Some, None, IsTrue, IsSome}
use Rattle.kv_base.specs.Map.{Bytes, get}
use Rattle.kv_base.specs.RawKeys.{is_raw_text}
use Rattle.kv_base.specs.MetaValues.{is_meta_within, meta_text}
use Rattle.batch_codec.specs.Batches.{Batch}
use Rattle.redis_model.specs.Value.{Entry}
use Rattle.lives_model.specs.Rows.{Rows, Side, meta_key, row_key}
use Rattle.lives_model.specs.Clean.{deadline_from}
use Rattle.lives_model.specs.Means.{LifeAt, HasWholeScores, meta_for, row_of, has_life}
use Rattle.lives_model.specs.Plans.{changed}
use Rattle.plan_base.specs.declared.life.LifeSight.{LifeSight}

-- a raw key of a row of this life
pub record IsInLife (k : Bytes) (version : ℕ) (raw : Bytes) : Type 0 where
  pub side : Side
  pub subkey : Bytes
  pub is : raw ≡ row_key side k version subkey

-- The batch puts the metadata of an entry with a life, and of the rows of that life those that differ; it has no others.
pub record WritesLife (c : Rows) (b : Batch) (k : Bytes) (e : Entry) (life : LifeAt) (expire : ℕ) : Type 0 where
  pub deadline : e.deadline ≡ deadline_from expire
  pub fits : IsTrue (is_meta_within (meta_for e.value life expire))
  pub scores : HasWholeScores e.value
  pub collection : IsTrue (has_life e.value)
  pub meta : get b (meta_key k) ≡ Some (Some (meta_text (meta_for e.value life expire)))
  pub rows : (side : Side) (subkey : Bytes) → get b (row_key side k life.version subkey) ≡ changed (get c (row_key side k life.version subkey)) (row_of e.value life.head side subkey)
  pub raw : (raw : Bytes) → IsSome (get b raw) → IsTrue (is_raw_text raw)
  pub only : (raw : Bytes) → IsSome (get b raw) → (raw ≡ meta_key k) ⊎ IsInLife k life.version raw

-- the life that goes on where one was found, and else a new one with this version
abbrev pub life_on : ℕ → Option LifeSight → LifeAt
life_on fresh None = record { version = fresh; head = 2 ^ 63 }
life_on fresh (Some life) = record { version = life.version; head = 2 ^ 63 }
