-- What is found at the keys of several sets is the sets there, and their members are read in order.
use Rattle.std.proofs.Common.{◌≡◌, ℕ, refl, ap, ◌∙◌, List, [], ◌∷◌}
use Rattle.std.specs.Prelude.{Option, Some, None, Ok, Err, zip, map}
use Rattle.kv_base.specs.Map.{Bytes, Set, keys}
use Rattle.kv_base.specs.declared.kind.Kind.TheVariants as code
use Rattle.redis_model.specs.declared.reply.ReplyError.{ReplyError}
use Rattle.redis_model.specs.Value.{RedisMap}
use Rattle.redis_model.specs.Outcome.{Outcome, ◌>>=◌, sets, at_key}
use Rattle.redis_model.specs.Sets.{sets_at}
use Rattle.lives_model.specs.Rows.{Rows}
use Rattle.lives_model.specs.Clean.{live_at}
use Rattle.lives_model.specs.Means.{Means}
use Rattle.lives_model.specs.Plans.{least_above}
use Rattle.plan_base.specs.declared.life.LifeSight.{LifeSight}
use Rattle.plan_base.specs.Ahead.{seen_deadlines}
use Rattle.plan_base.specs.Seen.{deadline_in}
use Rattle.plan_base.specs.Lives.{IsLifeOf, SeesLife, life_found}
use Rattle.plan_base.specs.LifeLaws.{set_stands, member_row_of, sees_life}
use Rattle.life_pages.specs.LifeElementLaws.{elements_are}
use Rattle.life_plans.specs.SetLives.{set_life}
use Rattle.set_operations.specs.Combined.{SetAt, error_or, first_error, life_or_none, members_in, set_lives, soonest}

-- ---- the sets

-- the lives at these keys are those of these sets
abbrev pub AreSets : Rows → List SetAt → List Set → Type 0
AreSets c [] [] = Unit {0}
AreSets c (s ∷ ss) (x ∷ xs) = IsLifeOf sets member_row_of c s.0 (life_or_none s.1.life) x × AreSets c ss xs
AreSets c [] (x ∷ xs) = ⊥
AreSets c (s ∷ ss) [] = ⊥

-- or the first error is the same
abbrev pub SeesSets : Rows → List SetAt → Option ReplyError → Outcome (List Set) → Type 0
SeesSets c ss None (Ok xs) = AreSets c ss xs
SeesSets c ss (Some e) (Err x) = e ≡ x
SeesSets c ss None (Err x) = ⊥
SeesSets c ss (Some e) (Ok xs) = ⊥

-- one set in front
sees_more : (c : Rows) (k : Bytes) (deadline : Option ℕ) (ss : List SetAt) (found : Outcome (Option LifeSight)) (o : Outcome Set) → SeesLife sets member_row_of c k found o
    → (later : Option ReplyError) (p : Outcome (List Set)) → SeesSets c ss later p
    → SeesSets c ((k, record { deadline = deadline; life = found }) ∷ ss) (error_or found later) (o >>= λ x. p >>= λ xs. Ok (x ∷ xs))
sees_more c k deadline ss (Ok life) (Ok x) here None (Ok xs) more = (here, more)
sees_more c k deadline ss (Ok life) (Ok x) here (Some e) (Err f) more = more
sees_more c k deadline ss (Ok life) (Ok x) here None (Err f) more = absurd more
sees_more c k deadline ss (Ok life) (Ok x) here (Some e) (Ok xs) more = absurd more
sees_more c k deadline ss (Err e) (Err f) here later p more = here
sees_more c k deadline ss (Ok life) (Err f) here later p more = absurd here
sees_more c k deadline ss (Err e) (Ok x) here later p more = absurd here

-- Where rows mean a map, the lives that are found at keys are those of the sets there, or the first error is the same.
pub sees_sets : {c : Rows} {t : ℕ} {m : RedisMap} (means : Means c t m) (ks : List Bytes) → SeesSets c (zip ks (set_lives c t ks)) (first_error (set_lives c t ks)) (sets_at m ks)
unfolding set_lives
sees_sets means [] = tt
sees_sets {c} {t} {m} means (k ∷ ks) =
    sees_more c k (deadline_in (live_at c t k)) (zip ks (map (set_life c t) ks)) (life_found code.Set (live_at c t k)) (at_key sets m k) (sees_life set_stands means k)
    (first_error (map (set_life c t) ks)) (sets_at m ks) (sees_sets means ks)

-- their deadlines are those of the keys
pub soonest_is : (c : Rows) (t : ℕ) (ks : List Bytes) → soonest t (set_lives c t ks) ≡ least_above t (seen_deadlines c t ks)
unfolding set_lives
soonest_is c t ks = ap (least_above t) (each ks)
  where
    each : (ks : List Bytes) → map (λ found. found.deadline) (map (set_life c t) ks) ≡ seen_deadlines c t ks
    each [] = refl
    each (k ∷ ks) = ap (λ ds. deadline_in (live_at c t k) ∷ ds) (each ks)

-- ---- their members

-- what stands under a member
abbrev no_bytes : Bytes
no_bytes = []

first_parts : (es : List (Bytes × Unit {0})) → map (λ (e : Bytes × Bytes). e.0) (map (λ (e : Bytes × Unit {0}). (e.0, no_bytes)) es) ≡ map (λ (e : Bytes × Unit {0}). e.0) es
first_parts [] = refl
first_parts (e ∷ es) = ap (λ xs. e.0 ∷ xs) (first_parts es)

-- the members that are read of a life are those of its set, in order
pub members_are : (c : Rows) (k : Bytes) (life : Option LifeSight) (x : Set) → IsLifeOf sets member_row_of c k life x → members_in c k life ≡ keys x
members_are c k life x is = ap (map (λ (e : Bytes × Bytes). e.0)) (elements_are set_stands c k life x 0 tt is) ∙ first_parts x.entries
