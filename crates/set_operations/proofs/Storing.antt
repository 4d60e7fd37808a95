-- What a store form finds leads to its plan.
use Rattle.std.proofs.Common.{◌≡◌, ℕ, refl, ap, subst, ◌∙◌, Bool, List}
use Rattle.std.specs.Prelude.{Option, Some, None, IfSome, is_some, option_map, option_and_then}
use Rattle.kv_base.specs.Map.{Bytes}
use Rattle.kv_base.specs.MetaValues.{MetaValue}
use Rattle.redis_model.specs.Outcome.{Outcome}
use Rattle.lives_model.specs.declared.plan.Plan.{Plan}
use Rattle.lives_model.specs.Rows.{Rows}
use Rattle.lives_model.specs.Clean.{live_at}
use Rattle.lives_model.specs.Plans.{sooner}
use Rattle.plan_base.specs.declared.key_life.KeyLife.{KeyLife}
use Rattle.plan_base.specs.declared.sight.KeySight.{KeySight}
use Rattle.plan_base.specs.Seen.{deadline_in}
use Rattle.plan_base.specs.Sights.{sight_of}
use Rattle.set_operations.specs.declared.combine.Combination.{Combination}
use Rattle.set_operations.specs.Combined.{combined_at, set_lives, soonest}
use Rattle.set_operations.specs.Stored.{store_plan, storing_or}

-- a key that is seen is there
seen_there : (o : Option MetaValue) → is_some (option_map sight_of o) ≡ is_some o
seen_there None = refl
seen_there (Some meta) = refl

-- with its deadline
seen_deadline : (o : Option MetaValue) → option_and_then (λ (sight : KeySight). sight.deadline) (option_map sight_of o) ≡ deadline_in o
seen_deadline None = refl
seen_deadline (Some meta) = refl

-- the plan by what is seen of the target and found of the sets
pub store_is : (rows after later : Option Rows) (t fresh : ℕ) (how : Combination) (k meta : Bytes) (ks : List Bytes) (found : Option KeySight) (lives : List KeyLife) (deadline until : Option ℕ) (there : Bool) (members : Outcome (List Bytes)) (plan : Plan)
    → meta ≡ k → after ≡ rows → later ≡ rows
    → IfSome rows (λ c. found ≡ option_map sight_of (live_at c t meta)) → IfSome after (λ c. lives ≡ set_lives c t ks) → IfSome later (λ c. members ≡ combined_at c how ks lives)
    → there ≡ is_some found → deadline ≡ option_and_then (λ (sight : KeySight). sight.deadline) found → until ≡ sooner t deadline (soonest t lives)
    → plan ≡ storing_or meta fresh there until members → IfSome rows (λ c. plan ≡ store_plan c t fresh how k ks)
unfolding store_plan
store_is None after later t fresh how k meta ks found lives deadline until there members plan key first second sees looks comes there_is deadline_is until_is is = tt
store_is (Some c) after later t fresh how k meta ks found lives deadline until there members plan key first second sees looks comes there_is deadline_is until_is is =
    let sight : found ≡ option_map sight_of (live_at c t k) = sees ∙ ap (λ q. option_map sight_of (live_at c t q)) key in
    let sets : lives ≡ set_lives c t ks = subst (λ (o : Option Rows). IfSome o (λ c. lives ≡ set_lives c t ks)) first looks in
    let xs : members ≡ combined_at c how ks (set_lives c t ks) =
    subst (λ (o : Option Rows). IfSome o (λ c. members ≡ combined_at c how ks lives)) second comes ∙ ap (combined_at c how ks) sets in
    let held : there ≡ is_some (live_at c t k) = there_is ∙ ap is_some sight ∙ seen_there (live_at c t k) in
    let due : deadline ≡ deadline_in (live_at c t k) = deadline_is ∙ ap (option_and_then (λ (sight : KeySight). sight.deadline)) sight ∙ seen_deadline (live_at c t k) in
    let ahead : until ≡ sooner t (deadline_in (live_at c t k)) (soonest t (set_lives c t ks)) = until_is ∙ (λ i. sooner t (due i) (soonest t (sets i))) in
    is ∙ (λ i. storing_or (key i) fresh (held i) (ahead i) (xs i))
