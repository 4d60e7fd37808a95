-- The plans of commands that answer a hash or a set as a whole.
use Rattle.std.specs.Prelude.{ℕ, List, [], ◌∷◌}
use Rattle.std.specs.List.{flat_map}
use Rattle.kv_base.specs.Map.{Bytes}
use Rattle.kv_base.specs.declared.kind.Kind.{Kind as Code}
use Rattle.redis_model.specs.declared.reply.Reply.{Reply}
use Rattle.redis_model.specs.Outcome.{bulks}
use Rattle.lives_model.specs.declared.plan.Plan.{Plan}
use Rattle.lives_model.specs.Rows.{Rows}
use Rattle.lives_model.specs.Clean.{live_at}
use Rattle.lives_model.specs.LifeRows.{RowAt}
use Rattle.plan_base.specs.Seen.{deadline_in}
use Rattle.plan_base.specs.Lives.{life_found}
use Rattle.plan_base.specs.LifePlans.{answering, life_reply}
use Rattle.life_pages.specs.declared.whole.Whole.{Whole}
use Rattle.life_pages.specs.declared.whole.Whole.TheVariants.{Both, Subkeys, Values}
use Rattle.life_pages.specs.LifeElements.{elements_in}

-- what is answered of an element: its subkey and its value, or one of them
abbrev pub parts_in : Whole → RowAt → List Bytes
parts_in Both e = e.0 ∷ e.1 ∷ []
parts_in Subkeys e = e.0 ∷ []
parts_in Values e = e.1 ∷ []

-- and of all of them, in order
abbrev pub whole_reply : Whole → List RowAt → Reply
whole_reply form elements = bulks (flat_map (parts_in form) elements)

-- the plan of a command that answers the elements of the collection at its only key; a key of another type is an error
unfoldable pub whole_plan : Rows → ℕ → Bytes → Code → Whole → Plan
whole_plan c t k kind form = answering t (deadline_in (live_at c t k)) (life_reply (λ found. whole_reply form (elements_in c k found)) (life_found kind (live_at c t k)))
