-- How it is shown that a plan carries a command out.
use Rattle.std.proofs.Common.{ℕ, ◌≡◌, ◌∷◌, [], sym, subst, List}
use Rattle.std.proofs.lemmas.List.Elements.{All-head}
use Rattle.std.specs.Prelude.{Option, Some, None, Result, Ok, Err, IfOk, IfSome, All}
use Rattle.kv_base.specs.Map.{Bytes}
use Rattle.kv_base.specs.declared.fault.StoreFault.{StoreFault}
use Rattle.kv_base.specs.declared.memory.NoMem.{NoMem}
use Rattle.batch_codec.specs.Batches.{Batch}
use Rattle.redis_model.specs.declared.command.Command.{Command}
use Rattle.redis_model.specs.declared.reply.Reply.{Reply}
use Rattle.redis_model.specs.Value.{RedisMap}
use Rattle.redis_model.specs.declared.command.Expiry.{Expiry}
use Rattle.redis_model.specs.declared.command.Expiry.TheVariants as expiry
use Rattle.redis_model.specs.Limits.{IsWithin, IsName, IsTime, IsGivenTime}
use Rattle.redis_model.specs.About.{keys_of}
use Rattle.lives_model.specs.declared.plan.Plan.{Plan}
use Rattle.lives_model.specs.Rows.{Rows}
use Rattle.lives_model.specs.Clean.{live_at}
use Rattle.lives_model.specs.Plans.{IsPlanOf, least_above}
use Rattle.plan_base.specs.Seen.{deadline_in}
use Rattle.plan_base.specs.Ahead.{seen_deadlines}
use Rattle.string_cmds.specs.Carried.{CarriesOut}

-- a result that is this plan of a command carries it out
pub carried : (r : Result Plan StoreFault) (rows : Option Rows) (q : Rows → Plan) (t fresh : ℕ) (d e : Command) → d ≡ e
    → IfOk r (λ p. IfSome rows (λ c. p ≡ q c)) → ((c : Rows) → CarriesOut c t fresh e (q c)) → IfOk r (λ p. IfSome rows (λ c. CarriesOut c t fresh d p))
carried (Ok p) None q t fresh d e is plan carries = tt
carried (Ok p) (Some c) q t fresh d e is plan carries = subst (λ (x : Command). CarriesOut c t fresh x p) (sym is) (subst (CarriesOut c t fresh e) (sym plan) (carries c))
carried (Err fault) rows q t fresh d e is plan carries = tt

-- the same of a command within its limits
pub carried_within : (r : Result Plan StoreFault) (rows : Option Rows) (q : Rows → Plan) (t fresh : ℕ) (d e : Command) → d ≡ e → IsWithin d
    → IfOk r (λ p. IfSome rows (λ c. p ≡ q c)) → (IsWithin e → (c : Rows) → CarriesOut c t fresh e (q c)) → IfOk r (λ p. IfSome rows (λ c. CarriesOut c t fresh d p))
carried_within r rows q t fresh d e is within plan carries = carried r rows q t fresh d e is plan (carries (subst IsWithin is within))

-- how far a command with one key looks ahead
pub with_one_key : (c : Rows) (t fresh : ℕ) (m : RedisMap) (d : Command) (b : Batch) (answer : Reply) (k : Bytes) → keys_of d ≡ k ∷ []
    → IsPlanOf c t fresh m d b answer (least_above t (seen_deadlines c t (keys_of d))) → IsPlanOf c t fresh m d b answer (least_above t (deadline_in (live_at c t k) ∷ []))
with_one_key c t fresh m d b answer k one plan = subst (λ (ks : List Bytes). IsPlanOf c t fresh m d b answer (least_above t (seen_deadlines c t ks))) one plan

-- a plan that carries a command out on any rows
pub carried_anywhere : (r : Result Plan NoMem) (d e : Command) (q : Plan) → d ≡ e → IfOk r (λ p. p ≡ q) → ((c : Rows) (t fresh : ℕ) → CarriesOut c t fresh e q)
    → IfOk r (λ p. (c : Rows) (t fresh : ℕ) → CarriesOut c t fresh d p)
carried_anywhere (Ok p) d e q is plan carries = λ c t fresh. subst (λ (x : Command). CarriesOut c t fresh x p) (sym is) (subst (CarriesOut c t fresh e) (sym plan) (carries c t fresh))
carried_anywhere (Err fault) d e q is plan carries = tt

-- ---- the limits of a command's words

-- the key of a command with one key
pub name_within : (k : Bytes) → All IsName (k ∷ []) → IsName k
name_within k names = All-head IsName k [] names

-- where a time has to be given it is within its limits
pub given_time : (x : Expiry) → IsGivenTime x → IsTime x
given_time expiry.None given = absurd given
given_time expiry.Keep given = absurd given
given_time (expiry.At n) given = given
given_time (expiry.After n) given = given
