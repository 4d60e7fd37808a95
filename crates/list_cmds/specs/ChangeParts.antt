-- What the plans of commands that change one list have in common.
use Rattle.std.proofs.Common.{ℕ, ◌≡◌, refl, ap, ◌∙◌, true, false, List, [], ◌∷◌, length, arith}
use Rattle.std.specs.Prelude.{Option, Some, None, Ok, Err, IsTrue, is_some}
use Rattle.kv_base.specs.Map.{Bytes, get, has}
use Rattle.kv_base.specs.MetaValues.{ListValue}
use Rattle.redis_model.specs.declared.reply.Reply.{Reply}
use Rattle.redis_model.specs.declared.reply.ReplyError.{ReplyError}
use Rattle.redis_model.specs.declared.command.Command.{Command}
use Rattle.redis_model.specs.declared.command.Cmds.TheVariants.{One}
use Rattle.redis_model.specs.Value.{Entry, RedisMap}
use Rattle.redis_model.specs.Outcome.{Outcome, ◌>>=◌, lists, seen, at_key, change, changing}
use Rattle.redis_model.specs.About.{keys_of}
use Rattle.redis_model.specs.Apply.{carried_out}
use Rattle.redis_model.specs.Deadlines.{keys_in}
use Rattle.redis_model.specs.Keys.{among}
use Rattle.redis_model.specs.Touched.{written_again}
use Rattle.lives_model.specs.declared.plan.Plan.{Plan}
use Rattle.lives_model.specs.Rows.{Rows}
use Rattle.lives_model.specs.Clean.{live_at}
use Rattle.lives_model.specs.Means.{Means}
use Rattle.lives_model.specs.Plans.{IsPlanOf}
use Rattle.plan_base.specs.KeyLimitLaws.{among_itself}
use Rattle.plan_base.specs.KeyPlanLaws.{still_plan}
use Rattle.plan_base.specs.LifePlans.{answering}
use Rattle.plan_base.specs.LifePlanLaws.{one_key_ahead}
use Rattle.plan_base.specs.Seen.{deadline_in}
use Rattle.plan_base.specs.SeenLaws.{seen_none, seen_some}
use Rattle.list_plans.specs.declared.sight.ListSight.{ListSight}
use Rattle.list_plans.specs.ListLives.{list_found}
use Rattle.list_plans.specs.ListLifeLaws.{list_meta, none_meta}

-- this is a plan of a command on rows that mean this map
abbrev pub PlansOn : Rows → ℕ → ℕ → RedisMap → Command → Plan → Type 0
PlansOn c t fresh m d p = IsPlanOf c t fresh m d p.batch p.reply p.until

-- ---- the key

-- the key of a command with one key is among those that it names
pub is_named : (d : Command) (k : Bytes) → keys_of d ≡ k ∷ [] → IsTrue (among (keys_in (One d)) k)
is_named d k one = ap (λ ks. among ks k) one ∙ among_itself k

-- it is there where a list was found
pub list_has : {c : Rows} {t : ℕ} {m : RedisMap} (means : Means c t m) (k : Bytes) (list : ListSight) → list_found (live_at c t k) ≡ Ok (Some list) → has m k ≡ true
list_has {c} {t} {m} means k list is =
    let meta = list_meta (live_at c t k) list is in
    let there = seen_some means k (ListValue meta.0 list.version list.head list.tail) meta.1 in
    ap is_some there.1

-- not where nothing was found
pub none_there : {c : Rows} {t : ℕ} {m : RedisMap} (means : Means c t m) (k : Bytes) → list_found (live_at c t k) ≡ Ok None → get m k ≡ None
none_there {c} {t} {m} means k is = seen_none means k (none_meta (live_at c t k) is)

-- and it is where it has another type
pub wrong_has : (o : Option Entry) (e : ReplyError) → seen lists o ≡ Err e → is_some o ≡ true
wrong_has None e h = absurd (cc)
wrong_has (Some x) e h = refl

-- ---- what a command comes to

-- a key of another type is an error
pub wrong_type : (m : RedisMap) (k : Bytes) (f : List Bytes → Outcome (Reply × List Bytes)) (e : ReplyError) → at_key lists m k ≡ Err e → changing lists m k f ≡ Err e
wrong_type m k f e at = ap (λ (a : Outcome (List Bytes)). a >>= λ l. f l >>= λ r. change lists m k r.1 >>= λ n. Ok (r.0, n)) at

-- and so is what the list at the key does not allow
pub wrong_place : (m : RedisMap) (k : Bytes) (f : List Bytes → Outcome (Reply × List Bytes)) (items : List Bytes) (e : ReplyError)
    → at_key lists m k ≡ Ok items → f items ≡ Err e → changing lists m k f ≡ Err e
wrong_place m k f items e at is =
    ap (λ (a : Outcome (List Bytes)). a >>= λ l. f l >>= λ r. change lists m k r.1 >>= λ n. Ok (r.0, n)) at
    ∙ ap (λ (r : Outcome (Reply × List Bytes)). r >>= λ r. change lists m k r.1 >>= λ n. Ok (r.0, n)) is

-- ---- the plan

-- A command with one key that leaves the map, and writes no key again, writes nothing.
pub left_alone : {c : Rows} {t : ℕ} {m : RedisMap} (fresh : ℕ) (d : Command) (k : Bytes) (answer : Reply) → Means c t m → keys_of d ≡ k ∷ []
    → carried_out m t d ≡ Ok (answer, m) → written_again m m d ≡ [] → PlansOn c t fresh m d (answering t (deadline_in (live_at c t k)) answer)
left_alone {c} {t} {m} fresh d k answer means one done quiet = one_key_ahead c t fresh m d answer k one (still_plan fresh d answer means done quiet)

-- ---- lists

-- no items are none
pub no_items : (l : List Bytes) → length l ≡ 0 → l ≡ []
no_items [] e = refl
no_items (x ∷ l) e = absurd (omega (arith, e))
