-- What several sets come to together, and the plans of the commands that answer it, by what they find.
use Rattle.std.specs.Prelude.{ℕ, List, [], ◌∷◌, map, zip, filter, fold, Option, Some, None, Bool, true, false, not, Ok, Err, IfOk}
use Rattle.std.specs.List.{list_all}
use Rattle.kv_base.specs.Map.{Bytes, Set, empty, keys}
use Rattle.redis_model.specs.declared.reply.Reply.{Reply}
use Rattle.redis_model.specs.declared.reply.Reply.TheVariants as reply
use Rattle.redis_model.specs.declared.reply.ReplyError.{ReplyError}
use Rattle.redis_model.specs.Outcome.{Outcome, bulks}
use Rattle.redis_model.specs.Sets.{with_members}
use Rattle.lives_model.specs.declared.plan.Plan.{Plan}
use Rattle.lives_model.specs.declared.view.LiveRow.{LiveRow}
use Rattle.lives_model.specs.Rows.{Rows}
use Rattle.lives_model.specs.Plans.{least_above}
use Rattle.plan_base.specs.declared.key_life.KeyLife.{KeyLife}
use Rattle.plan_base.specs.declared.life.LifeSight.{LifeSight}
use Rattle.plan_base.specs.Lives.{HasVersionIn}
use Rattle.life_pages.specs.LifeElements.{elements_in, subkey_in}
use Rattle.set_operations.specs.declared.combine.Combination.{Combination}
use Rattle.set_operations.specs.declared.combine.Combination.TheVariants.{Inter, Union, Diff}
use Rattle.life_plans.specs.SetLives.{has_member, set_life}

-- ---- what is found of several sets

-- what is found at keys of sets
unfoldable pub set_lives : Rows → ℕ → List Bytes → List KeyLife
set_lives c t ks = map (set_life c t) ks

-- the error of a key, or else a later one
abbrev pub error_or : Outcome (Option LifeSight) → Option ReplyError → Option ReplyError
error_or (Ok life) later = later
error_or (Err e) later = Some e

-- the error at the first key that holds another type
abbrev pub first_error : List KeyLife → Option ReplyError
first_error [] = None
first_error (found ∷ lives) = error_or found.life (first_error lives)

-- the life of a set, none where the key holds another type
abbrev pub life_or_none : Outcome (Option LifeSight) → Option LifeSight
life_or_none (Ok life) = life
life_or_none (Err e) = None

-- its version is within its limits
abbrev pub HasFoundVersion : KeyLife → Type 0
HasFoundVersion found = IfOk found.life HasVersionIn

-- the soonest deadline of the keys
abbrev pub soonest : ℕ → List KeyLife → Option ℕ
soonest t lives = least_above t (map (λ found. found.deadline) lives)

-- a key with what is found there
abbrev pub SetAt : Type 0
SetAt = Bytes × KeyLife

-- the members of a life, in order
abbrev pub members_in : Rows → Bytes → Option LifeSight → List Bytes
members_in c k life = map (λ e. e.0) (elements_in c k life)

-- the members at a key, in order
abbrev pub members_at : Rows → SetAt → List Bytes
members_at c s = members_in c s.0 (life_or_none s.1.life)

-- the members whose rows these are
abbrev pub members_of : Bytes → List LiveRow → List Bytes
members_of k rows = map (λ row. subkey_in k row.raw) rows

-- whether the set at a key has a member
abbrev pub set_has : Rows → Bytes → SetAt → Bool
set_has c x s = has_member c s.0 (life_or_none s.1.life) x

-- ---- combined sets

-- whether a test is passed, or with `false` whether it is not
abbrev pub agrees : Bool → Bool → Bool
agrees true passed = passed
agrees false passed = not passed

-- whether each of the sets has a member, or with `false` none of them
abbrev pub all_answer : Rows → List SetAt → Bool → Bytes → Bool
all_answer c ss shared x = list_all (λ s. agrees shared (set_has c x s)) ss

-- the members of the first set that each other one has, or none of them
abbrev pub kept_members : Rows → Bool → List SetAt → List Bytes
kept_members c shared [] = []
kept_members c shared (s ∷ ss) = filter (all_answer c ss shared) (members_at c s)

-- the members of all sets, each once
abbrev pub gathered : Rows → List SetAt → Set
gathered c ss = fold (λ all s. with_members all (members_at c s)) empty ss

-- the members that sets come to together, in order
unfoldable pub combined_members : Rows → Combination → List SetAt → List Bytes
combined_members c Inter ss = kept_members c true ss
combined_members c Union ss = keys (gathered c ss)
combined_members c Diff ss = kept_members c false ss

-- an error, or else the members
abbrev pub members_or : Option ReplyError → List Bytes → Outcome (List Bytes)
members_or None xs = Ok xs
members_or (Some e) xs = Err e

-- the members that the sets at these keys come to, or the error at the first key that holds another type
abbrev pub combined_at : Rows → Combination → List Bytes → List KeyLife → Outcome (List Bytes)
combined_at c how ks lives = members_or (first_error lives) (combined_members c how (zip ks lives))

-- the members as the answer
abbrev pub members_reply : Outcome (List Bytes) → Reply
members_reply (Ok xs) = bulks xs
members_reply (Err e) = reply.Error e

-- the plan by what is found of the sets, which writes nothing
abbrev pub combining : Rows → ℕ → Combination → List Bytes → List KeyLife → Plan
combining c t how ks lives = record { reply = members_reply (combined_at c how ks lives); batch = empty; until = soonest t lives }

-- SINTER, SUNION and SDIFF
unfoldable pub combining_plan : Rows → ℕ → Combination → List Bytes → Plan
combining_plan c t how ks = combining c t how ks (set_lives c t ks)
