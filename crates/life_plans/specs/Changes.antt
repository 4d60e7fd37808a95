-- What a command that changes the collection at its only key finds there, and what it comes to.
use Rattle.std.proofs.Common.{ℕ, ◌<◌, ◌≡◌}
use Rattle.std.specs.Prelude.{Bool, List, [], ◌∷◌, Option, Ok, Err, IsTrue}
use Rattle.kv_base.specs.Map.{Bytes, get}
use Rattle.kv_base.specs.RawKeys.{is_key, is_version}
use Rattle.kv_base.specs.declared.kind.Kind.{Kind as Code}
use Rattle.batch_codec.specs.Batches.{Batch}
use Rattle.redis_model.specs.declared.reply.Reply.{Reply}
use Rattle.redis_model.specs.declared.reply.Reply.TheVariants as reply
use Rattle.redis_model.specs.declared.command.Command.{Command}
use Rattle.redis_model.specs.Value.{RedisMap}
use Rattle.redis_model.specs.Outcome.{Outcome, Kind, changing}
use Rattle.redis_model.specs.Keys.{among}
use Rattle.redis_model.specs.About.{keys_of}
use Rattle.redis_model.specs.Apply.{carried_out}
use Rattle.redis_model.specs.Touched.{written_again}
use Rattle.lives_model.specs.declared.plan.Plan.{Plan}
use Rattle.lives_model.specs.Rows.{Rows, Elements, row_key}
use Rattle.lives_model.specs.Clean.{live_at}
use Rattle.lives_model.specs.LifeRows.{HasRowsOf}
use Rattle.plan_base.specs.declared.life.LifeSight.{LifeSight}
use Rattle.plan_base.specs.Seen.{deadline_in}
use Rattle.plan_base.specs.Retimed.{KeepsLife}
use Rattle.plan_base.specs.Lives.{IsLifeOf, life_found}
use Rattle.plan_base.specs.LifePlans.{answering}
use Rattle.plan_base.specs.LifeSteps.{life_on}
use Rattle.plan_base.specs.LifeChanges.{WantsRows, differing, added_rows, removed_rows}
use Rattle.life_plans.specs.WantedRows.{Wish, wanted}
use Rattle.life_plans.specs.ChangePlans.{changing_plan, size_after, by_life}

-- ---- what it finds

-- What is found at a key is this collection, and its rows stand in the life that goes on, or in the new one, which has none.
pub record FindsLife {A : Type 0} (kind : Kind A) (row : A → Bytes → Option Bytes) (c : Rows) (k : Bytes) (fresh : ℕ) (found : Option LifeSight) (a : A) : Type 0 where
  pub life : IsLifeOf kind row c k found a
  pub version : IsTrue (is_version (life_on fresh found).version)
  pub elements : (subkey : Bytes) → get c (row_key Elements k (life_on fresh found).version subkey) ≡ row a subkey
  pub rows : HasRowsOf c k (life_on fresh found) (kind.value_of a)

-- ---- what it comes to

-- Its answer is that of the command, and the rows that it wants are those of the collection that the command leaves. A
-- command that writes its key also where nothing changes leaves no empty collection.
pub record WantsElements {A : Type 0} (kind : Kind A) (row : A → Bytes → Option Bytes) (c : Rows) (k : Bytes) (version : ℕ) (again : Bool) (wish : Reply × Batch) (left : Reply × A) : Type 0 where
  pub answer : wish.0 ≡ left.0
  pub rows : WantsRows c k version wish.1 (row left.1)
  pub filled : IsTrue again → 0 < kind.count left.1

-- or it is the same error
abbrev pub Wants : {A : Type 0} → Kind A → (A → Bytes → Option Bytes) → Rows → Bytes → ℕ → Bool → Outcome (Reply × Batch) → Outcome (Reply × A) → Type 0
Wants kind row c k version again (Ok wish) (Ok left) = WantsElements kind row c k version again wish left
Wants kind row c k version again (Err e) (Err x) = e ≡ x
Wants kind row c k version again (Ok wish) (Err x) = ⊥
Wants kind row c k version again (Err e) (Ok left) = ⊥

-- the rows of these wishes, with an answer by how many elements they add and how many they take away
abbrev pub wishing : Rows → Bytes → ℕ → (ℕ → ℕ → Reply) → List Wish → Reply × Batch
wishing c k version answer wishes = let rows = wanted k version wishes in (answer (added_rows c rows) (removed_rows c rows), rows)

-- the plan of a command that answers so and wants these rows, or is an error
abbrev pub wishing_plan : Rows → ℕ → Bytes → Code → Option ℕ → ℕ → Bool → Option LifeSight → Outcome (Reply × Batch) → Plan
wishing_plan c t k code old fresh again found (Ok wish) = changing_plan t k code old fresh found again (differing c wish.1) (size_after found (added_rows c wish.1) (removed_rows c wish.1)) wish.0
wishing_plan c t k code old fresh again found (Err e) = answering t old (reply.Error e)

-- and by the life that is found at its only key; a key of another type is an error
abbrev pub wished_plan : Code → Rows → ℕ → Bytes → ℕ → Bool → (Option LifeSight → Outcome (Reply × Batch)) → Plan
wished_plan code c t k fresh again wish =
    by_life t (deadline_in (live_at c t k)) (λ found. wishing_plan c t k code (deadline_in (live_at c t k)) fresh again found (wish found)) (life_found code (live_at c t k))

-- The command changes the collection at its only key by this function. By the life that is found it wants just what the
-- function comes to, and `again` says whether it writes its key also where nothing changes.
pub record ChangesBy {A : Type 0} (kind : Kind A) (row : A → Bytes → Option Bytes) (c : Rows) (t fresh : ℕ) (d : Command) (k : Bytes) (again : Bool) (f : A → Outcome (Reply × A)) (wish : Option LifeSight → Outcome (Reply × Batch)) : Type 0 where
  pub one : keys_of d ≡ k ∷ []
  pub short : IsTrue (is_key k)
  pub keeps : (m : RedisMap) → KeepsLife m d k
  pub is : (m : RedisMap) → carried_out m t d ≡ changing kind m k f
  pub rewrites : (m n : RedisMap) → among (written_again m n d) k ≡ again
  pub wants : (found : Option LifeSight) (a : A) → FindsLife kind row c k fresh found a → Wants kind row c k (life_on fresh found).version again (wish found) (f a)
