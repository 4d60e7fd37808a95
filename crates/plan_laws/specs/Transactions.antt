-- A transaction that is planned command by command: each on the rows after those before it.
use Rattle.std.specs.Prelude.{◌≡◌, ℕ, ◌+◌, List, [], ◌∷◌, map, Option, IsTrue}
use Rattle.kv_base.specs.Map.{empty}
use Rattle.kv_base.specs.RawKeys.{is_version}
use Rattle.batch_codec.specs.Batches.{Batch, after}
use Rattle.redis_model.specs.declared.reply.Reply.{Reply}
use Rattle.redis_model.specs.declared.command.Command.{Command}
use Rattle.redis_model.specs.declared.command.Cmds.TheVariants.{Many}
use Rattle.redis_model.specs.Value.{RedisMap}
use Rattle.lives_model.specs.Rows.{Rows}
use Rattle.lives_model.specs.Means.{Means}
use Rattle.lives_model.specs.Plans.{IsStep, IsPlan, IsReady, AreAsked, PlannedPart, join_parts, least_until, version}

-- The first of several commands is carried out, on rows that are ready for all of them. The others have versions left.
pub record IsFirstStep (c : Rows) (t fresh : ℕ) (m : RedisMap) (d : Command) (ds : List Command) (b : Batch) (answer : Reply) : Type 0 where
  pub asked : AreAsked (Many (d ∷ ds))
  pub means : Means c t m
  pub ready : IsReady c t fresh (Many (d ∷ ds))
  pub step : IsStep c t fresh m d b answer
  pub next : IsTrue (is_version (fresh + 1))

-- These are plans of these commands, the first of which has place i: each on the rows after those before it, whatever they
-- mean.
abbrev pub ArePlans : Rows → ℕ → ℕ → ℕ → List Command → List PlannedPart → Type 0
ArePlans c t base i [] [] = Unit {0}
ArePlans c t base i (d ∷ ds) (p ∷ ps) = IsPlan c t (version base i) d p.batch p.reply p.until × ArePlans (after c p.batch) t base (i + 1) ds ps
ArePlans c t base i [] (p ∷ ps) = ⊥
ArePlans c t base i (d ∷ ds) [] = ⊥

-- The first commands of a transaction are planned: their batches joined are this one, their replies these, and the least of
-- the deadlines that they look ahead to is this.
pub record IsBegun (c : Rows) (t base : ℕ) (ds : List Command) (b : Batch) (replies : List Reply) (until : Option ℕ) : Type 0 where
  pub parts : List PlannedPart
  pub plans : ArePlans c t base 0 ds parts
  pub batch : b ≡ join_parts empty parts
  pub answers : replies ≡ map (λ p. p.reply) parts
  pub ahead : until ≡ least_until parts
