-- What is ready for several commands is ready for the first, and after it for the others. So plans of commands, each made on
-- the rows after those before it, are together the plan of a transaction.
use Rattle.std.proofs.Common.{◌≡◌, ℕ, ◌+◌, ◌<◌, ◌≤◌, List, [], ◌∷◌, ◌++◌, length, refl, sym, ap, subst, ◌∙◌, Bool, true, false, arith}
use Rattle.std.proofs.lemmas.Bool.Decides.{nat_tests}
use Rattle.std.proofs.lemmas.List.{map-append}
use Rattle.std.proofs.lemmas.List.Elements.{All-tail}
use Rattle.std.proofs.lemmas.List.Sums.{sum_by-cons}
use Rattle.std.specs.Prelude.{nat_lt, Option, Some, None, IsTrue, sum_by}
use Rattle.kv_base.specs.Map.{Bytes, empty}
use Rattle.kv_base.specs.RawKeys.{is_version}
use Rattle.batch_codec.specs.Batches.{Batch, after, joined}
use Rattle.redis_model.specs.declared.reply.Reply.{Reply}
use Rattle.redis_model.specs.declared.reply.Reply.TheVariants as reply
use Rattle.redis_model.specs.declared.command.Command.{Command}
use Rattle.redis_model.specs.declared.command.Cmds.TheVariants.{One, Many}
use Rattle.redis_model.specs.Desk.{last_sequence}
use Rattle.redis_model.specs.Keys.{among}
use Rattle.redis_model.specs.About.{keys_of}
use Rattle.redis_model.specs.Value.{RedisMap}
use Rattle.redis_model.specs.Machine.{apply_alive}
use Rattle.lives_model.specs.Rows.{Rows}
use Rattle.lives_model.specs.Clean.{live_at}
use Rattle.lives_model.specs.Means.{Means}
use Rattle.lives_model.specs.Plans.{IsPlan, IsPlanned, HasRoom, IsReady, IsAsked, AreAsked, PlannedPart, AreParts, join_parts, least, least_until, version, words, keys_of_each}
use Rattle.lives_model.specs.StepLaws.{step_means}
use Rattle.lives_model.specs.JoinedBatchLaws.{after-empty, after-joined}
use Rattle.lives_model.specs.WrittenKeyLaws.{in_front, among_second}
use Rattle.lives_model.specs.AskedKeyLaws.{asked_keys}
use Rattle.lives_model.specs.ListRoomLaws.{less_room, step_room}
use Rattle.plan_laws.specs.AfterSteps.{step_fresh}
use Rattle.plan_laws.specs.Transactions.{IsFirstStep, ArePlans, IsBegun}

-- ---- ready for several commands

-- the words of the first, and of the others
more_words : (d : Command) (ds : List Command) → sum_by words (d ∷ ds) ≡ words d + sum_by words ds
more_words d ds = sum_by-cons words d ds

-- what is ready for several commands is ready for the first
pub first_ready : (c : Rows) (t fresh : ℕ) (d : Command) (ds : List Command) → IsReady c t fresh (Many (d ∷ ds)) → IsReady c t fresh (One d)
first_ready c t fresh d ds ready =
    let sum = more_words d ds in
    record {
      fits = ready.fits;
      room = λ k named. less_room (sum_by words (d ∷ ds)) (words d) (live_at c t k) (omega arith) (ready.room k (in_front (keys_of d) (keys_of_each ds) k named));
      above = λ k named. ready.above k (in_front (keys_of d) (keys_of_each ds) k named);
    }

-- and after the first it is ready for the others
pub rest_ready : (c : Rows) (t fresh : ℕ) (m : RedisMap) (d : Command) (ds : List Command) (b : Batch) (answer : Reply) → IsFirstStep c t fresh m d ds b answer → IsReady (after c b) t (fresh + 1) (Many ds)
rest_ready c t fresh m d ds b answer first =
    let sum = more_words d ds in
    let few = first.asked.2 in
    record {
      fits = first.next;
      room = λ k named.
          step_room c t fresh (sum_by words ds) m d b k (omega arith)
          (subst (λ (n : ℕ). HasRoom n (live_at c t k)) sum (first.ready.room k (later k named))) first.means (first.step.keys k);
      above = λ k named.
          step_fresh c t fresh m d b k (first.ready.above k (later k named)) (first.means.stands k)
          (asked_keys (Many (d ∷ ds)) k first.asked (later k named)) (first.step.keys k);
    }
  where
    later : (k : Bytes) → IsTrue (among (keys_of_each ds) k) → IsTrue (among (keys_of_each (d ∷ ds)) k)
    later k named = among_second (keys_of d) (keys_of_each ds) k named

-- ---- plans one after the other are parts

-- commands that can be asked for together can be without the first
rest_asked : (d : Command) (ds : List Command) → AreAsked (Many (d ∷ ds)) → AreAsked (Many ds)
rest_asked d ds asked =
    let few = asked.0 in
    let low = asked.2 in
    let sum = more_words d ds in
    (omega arith, All-tail IsAsked d ds asked.1, omega arith)

-- a version that a sequence gives is within its limit
low_version : (base i : ℕ) → base ≤ last_sequence → i < 2048 → IsTrue (is_version (version base i))
low_version base i low few = grind (arith, nat_tests)

-- and a sequence that gives such a version is one of a batch
low_base : (base : ℕ) → IsTrue (is_version (version base 0)) → base ≤ last_sequence
low_base base fits = grind (arith, nat_tests)

-- the next place has the next version
next_version : (base i : ℕ) → version base i + 1 ≡ version base (i + 1)
next_version base i = omega arith

-- on rows that are ready for all of them, and mean a map
parts_of_plans : (c : Rows) (t base i : ℕ) (m : RedisMap) (ds : List Command) (ps : List PlannedPart) → base ≤ last_sequence → i + length ds ≤ 1024 → AreAsked (Many ds) → Means c t m
    → IsReady c t (version base i) (Many ds) → ArePlans c t base i ds ps → AreParts c t base i m ds ps
parts_of_plans c t base i m [] [] low few asked means ready are = are
parts_of_plans c t base i m [] (p ∷ ps) low few asked means ready are = are
parts_of_plans c t base i m (d ∷ ds) [] low few asked means ready are = are
parts_of_plans c t base i m (d ∷ ds) (p ∷ ps) low few asked means ready are =
    let plan = are.0.plan m means (first_ready c t (version base i) d ds ready) in
    let next : IsReady (after c p.batch) t (version base i + 1) (Many ds) =
    rest_ready c t (version base i) m d ds p.batch p.reply (record {
      asked = asked;
      means = means;
      ready = ready;
      step = plan.step;
      next = subst (λ (v : ℕ). IsTrue (is_version v)) (sym (next_version base i)) (low_version base (i + 1) low (omega arith));
    }) in (
      plan,
      parts_of_plans (after c p.batch) t base (i + 1) (apply_alive m t d).1 ds ps low (omega arith) (rest_asked d ds asked)
          (step_means c t (version base i) m d p.batch p.reply means plan.step)
          (subst (λ (v : ℕ). IsReady (after c p.batch) t v (Many ds)) (next_version base i) next) are.1,
    )

-- so they are together the plan of the transaction
pub begun_is_planned : (c : Rows) (t base : ℕ) (ds : List Command) (b : Batch) (replies : List Reply) (until : Option ℕ) → AreAsked (Many ds) → IsBegun c t base ds b replies until
    → IsPlanned c t base (Many ds) b (reply.Array replies) until
begun_is_planned c t base ds b replies until asked begun = record {
  plan = λ m means ready. record {
    parts = begun.parts;
    plans = parts_of_plans c t base 0 m ds begun.parts (low_base base ready.fits) (let few = asked.0 in omega arith) asked means ready begun.plans;
    batch = begun.batch;
    replies = ap reply.Array begun.answers;
    ahead = begun.ahead;
  };
}

-- ---- one command more

-- the least of deadlines
least_none : (u : Option ℕ) → least u None ≡ u
least_none None = refl
least_none (Some d) = refl

-- of three, by the order of the first two and of the others
least_by : (d u v : ℕ) (a b c : Bool) → nat_lt d u ≡ a → nat_lt u v ≡ b → nat_lt d v ≡ c → least (least (Some d) (Some u)) (Some v) ≡ least (Some d) (least (Some u) (Some v))
least_by d u v true true true p q r = simp (p, q, r)
least_by d u v true true false p q r = let never : ⊥ = grind (arith, nat_tests) in absurd never
least_by d u v true false c p q r = simp (p, q)
least_by d u v false true c p q r = simp (p, q)
least_by d u v false false true p q r = let never : ⊥ = grind (arith, nat_tests) in absurd never
least_by d u v false false false p q r = simp (p, q, r)

-- the least of some and of another one is the least of all
least_of : (a b c : Option ℕ) → least (least a b) c ≡ least a (least b c)
least_of None b c = refl
least_of (Some d) None c = refl
least_of (Some d) (Some u) None = least_none (least (Some d) (Some u))
least_of (Some d) (Some u) (Some v) = least_by d u v _ _ _ refl refl refl

-- the least of the deadlines of one part more
least_then : (ps : List PlannedPart) (p : PlannedPart) → least_until (ps ++ p ∷ []) ≡ least (least_until ps) p.until
least_then [] p = least_none p.until
least_then (q ∷ ps) p = ap (least q.until) (least_then ps p) ∙ sym (least_of q.until (least_until ps) p.until)

-- the batch of one part more
join_then : (b : Batch) (ps : List PlannedPart) (p : PlannedPart) → join_parts b (ps ++ p ∷ []) ≡ joined (join_parts b ps) p.batch
join_then b [] p = refl
join_then b (q ∷ ps) p = join_then (joined b q.batch) ps p

-- the plans of one command more
plans_then : (c : Rows) (b : Batch) (t base i : ℕ) (ds : List Command) (ps : List PlannedPart) (d : Command) (p : PlannedPart) → ArePlans (after c b) t base i ds ps
    → IsPlan (after c (join_parts b ps)) t (version base (i + length ds)) d p.batch p.reply p.until → ArePlans (after c b) t base i (ds ++ d ∷ []) (ps ++ p ∷ [])
plans_then c b t base i [] [] d p are plan =
    let here : i + 0 ≡ i = omega arith in
    (subst (λ (n : ℕ). IsPlan (after c b) t (version base n) d p.batch p.reply p.until) here plan, tt)
plans_then c b t base i [] (q ∷ ps) d p are plan = absurd are
plans_then c b t base i (a ∷ ds) [] d p are plan = absurd are
plans_then c b t base i (a ∷ ds) (q ∷ ps) d p are plan =
    let next = after-joined c b q.batch in
    let place : i + length (a ∷ ds) ≡ (i + 1) + length ds = omega arith in (
      are.0,
      subst (λ (e : Rows). ArePlans e t base (i + 1) (ds ++ d ∷ []) (ps ++ p ∷ [])) next
          (plans_then c (joined b q.batch) t base (i + 1) ds ps d p (subst (λ (e : Rows). ArePlans e t base (i + 1) ds ps) (sym next) are.1)
          (subst (λ (n : ℕ). IsPlan (after c (join_parts (joined b q.batch) ps)) t (version base n) d p.batch p.reply p.until) place plan)),
    )

-- no command is planned
pub begun_none : (c : Rows) (t base : ℕ) → IsBegun c t base [] empty [] None
begun_none c t base = record { parts = []; plans = tt; batch = refl; answers = refl; ahead = refl }

-- one command more is planned, on the rows after those before it
pub begun_then : (c : Rows) (t base : ℕ) (ds : List Command) (b : Batch) (replies : List Reply) (until : Option ℕ) (d : Command) (e : Batch) (answer : Reply) (later : Option ℕ)
    → IsBegun c t base ds b replies until → IsPlan (after c b) t (version base (length ds)) d e answer later
    → IsBegun c t base (ds ++ d ∷ []) (joined b e) (replies ++ answer ∷ []) (least until later)
begun_then c t base ds b replies until d e answer later begun plan =
    let part : PlannedPart = record { batch = e; reply = answer; until = later } in
    let start = after-empty c in
    let place : length ds ≡ 0 + length ds = omega arith in
    record {
      parts = begun.parts ++ part ∷ [];
      plans = subst (λ (n : Rows). ArePlans n t base 0 (ds ++ d ∷ []) (begun.parts ++ part ∷ [])) start
          (plans_then c empty t base 0 ds begun.parts d part (subst (λ (n : Rows). ArePlans n t base 0 ds begun.parts) (sym start) begun.plans)
          (subst (λ (n : ℕ). IsPlan (after c (join_parts empty begun.parts)) t (version base n) d e answer later) place
          (subst (λ (n : Batch). IsPlan (after c n) t (version base (length ds)) d e answer later) begun.batch plan)));
      batch = ap (λ (n : Batch). joined n e) begun.batch ∙ sym (join_then empty begun.parts part);
      answers = ap (λ rs. rs ++ answer ∷ []) begun.answers ∙ sym (map-append (λ (p : PlannedPart). p.reply) begun.parts (part ∷ []));
      ahead = ap (λ u. least u later) begun.ahead ∙ sym (least_then begun.parts part);
    }
