-- The life of a collection, as the metadata of its key tells it, and how a kind of collection stands in it.
use Rattle.std.proofs.Common.{ℕ, ◌≡◌}
use Rattle.std.specs.Prelude.{◌<◌, ◌^◌, Bool, true, false, if◌then◌else◌, Option, Some, None, Ok, Err, IfSome, IsTrue}
use Rattle.kv_base.specs.Map.{Bytes, get}
use Rattle.kv_base.specs.RawKeys.{is_version}
use Rattle.kv_base.specs.MetaValues.{MetaValue, StringValue, LifeValue, ListValue}
use Rattle.kv_base.specs.declared.kind.Kind.{Kind as Code}
use Rattle.kv_base.specs.declared.kind.Kind.TheVariants as code
use Rattle.redis_model.specs.declared.reply.ReplyError.TheVariants.{WrongType}
use Rattle.redis_model.specs.Value.{Value}
use Rattle.redis_model.specs.Outcome.{Outcome, ◌>>=◌, Kind}
use Rattle.lives_model.specs.Rows.{Rows, Elements, row_key}
use Rattle.lives_model.specs.Means.{LifeAt, meta_for, row_of, has_life}
use Rattle.lives_model.specs.Plans.{same_type}
use Rattle.plan_base.specs.declared.life.LifeSight.{LifeSight}

-- ---- what metadata tells of a life

abbrev pub is_code : Code → Code → Bool
is_code code.Hash code.Hash = true
is_code code.Set code.Set = true
is_code code.ZSet code.ZSet = true
is_code _ _ = false

-- the life of a collection of this kind, nothing where there is no key; a key of another type is an error
abbrev pub life_found : Code → Option MetaValue → Outcome (Option LifeSight)
life_found kind None = Ok None
life_found kind (Some (StringValue expire payload)) = Err WrongType
life_found kind (Some (LifeValue other expire version size)) = if is_code kind other then Ok (Some (record { version = version; size = size })) else Err WrongType
life_found kind (Some (ListValue expire version head tail)) = Err WrongType

-- the number of its elements, 0 where there is no life
abbrev pub life_size : Option LifeSight → ℕ
life_size None = 0
life_size (Some life) = life.size

-- its version and its size are within their limits
abbrev pub HasVersionIn : Option LifeSight → Type 0
HasVersionIn found = IfSome found (λ life. IsTrue (is_version life.version))

abbrev pub HasSizeIn : Option LifeSight → Type 0
HasSizeIn found = IfSome found (λ life. life.size < 2 ^ 32)

-- what stands under a subkey in a life, on the side of elements
abbrev pub row_in_life : Rows → Bytes → Option LifeSight → Bytes → Option Bytes
row_in_life c k None subkey = None
row_in_life c k (Some life) subkey = get c (row_key Elements k life.version subkey)

-- ---- how a kind of collection stands there

-- A kind of collection, but lists, has metadata with this code, and under each subkey this row.
pub record StandsAs {A : Type 0} (kind : Kind A) (code : Code) (row : A → Bytes → Option Bytes) : Type 0 where
  pub meta : (a : A) (life : LifeAt) (expire : ℕ) → meta_for (kind.value_of a) life expire ≡ LifeValue code expire life.version (kind.count a)
  pub rows : (a : A) (head : ℕ) (subkey : Bytes) → row_of (kind.value_of a) head Elements subkey ≡ row a subkey
  pub none : (subkey : Bytes) → row kind.none subkey ≡ None
  pub empty : kind.count kind.none ≡ 0
  pub life : (a : A) → IsTrue (has_life (kind.value_of a))
  pub one_type : (a b : A) → IsTrue (same_type (kind.value_of a) (kind.value_of b))
  pub is : (v : Value) (a : A) → kind.seen_as v ≡ Ok a → v ≡ kind.value_of a
  pub found : (v : Value) (life : LifeAt) (expire : ℕ) → life_found code (Some (meta_for v life expire)) ≡ (kind.seen_as v >>= λ a. Ok (Some (record { version = life.version; size = kind.count a })))

-- What is found at a key is this collection: where there is no key the empty one, and else one with as many elements as
-- the metadata says, which stand under their subkeys.
abbrev pub IsLifeOf : {A : Type 0} → Kind A → (A → Bytes → Option Bytes) → Rows → Bytes → Option LifeSight → A → Type 0
IsLifeOf kind row c k None a = a ≡ kind.none
IsLifeOf kind row c k (Some life) a = (life.size ≡ kind.count a) × ((subkey : Bytes) → get c (row_key Elements k life.version subkey) ≡ row a subkey)

-- or both are the same error
abbrev pub SeesLife : {A : Type 0} → Kind A → (A → Bytes → Option Bytes) → Rows → Bytes → Outcome (Option LifeSight) → Outcome A → Type 0
SeesLife kind row c k (Ok found) (Ok a) = IsLifeOf kind row c k found a
SeesLife kind row c k (Err e) (Err f) = e ≡ f
SeesLife kind row c k (Ok found) (Err f) = ⊥
SeesLife kind row c k (Err e) (Ok a) = ⊥
