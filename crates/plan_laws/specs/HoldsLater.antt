-- The law over plans: a plan that has not lapsed is a plan on the rows as they are now, if the same counts of its commands'
-- keys there, so its batch carries the commands out on them, with the same reply.
use Rattle.std.proofs.Common.{◌≡◌, ℕ, ◌+◌, ◌≤◌, refl, subst, Bool, true, false, cond, ◌||◌, List, [], ◌∷◌, ◌++◌, inl, inr, arith}
use Rattle.std.proofs.lemmas.Bool.Decides.{nat_tests}
use Rattle.std.proofs.lemmas.Bool.{or_parts}
use Rattle.std.specs.Prelude.{nat_lt, Option, Some, None, IsTrue, IsFalse}
use Rattle.std.specs.List.{list_any}
use Rattle.kv_base.specs.Map.{Bytes}
use Rattle.kv_base.specs.RawKeys.{is_key}
use Rattle.batch_codec.specs.Batches.{Batch, after}
use Rattle.redis_model.specs.declared.reply.Reply.{Reply}
use Rattle.redis_model.specs.declared.command.Command.{Command}
use Rattle.redis_model.specs.declared.command.Cmds.{Cmds}
use Rattle.redis_model.specs.declared.command.Cmds.TheVariants.{One, Many}
use Rattle.redis_model.specs.Value.{RedisMap}
use Rattle.redis_model.specs.Keys.{among}
use Rattle.redis_model.specs.About.{keys_of}
use Rattle.redis_model.specs.Machine.{apply_alive}
use Rattle.lives_model.specs.Rows.{Rows, IsOnGrammar}
use Rattle.lives_model.specs.Means.{Means}
use Rattle.lives_model.specs.Plans.{IsPlanOf, IsPlanFor, IsReady, IsFresh, PlannedPart, AreParts, IsStep, version, least, least_until, deadlines, keys_of_each, keys_in}
use Rattle.lives_model.specs.Lapses.{reads_clock, is_past, lapses, IsStillReady, HoldsLater}
use Rattle.lives_model.specs.StepLaws.{step_means}
use Rattle.lives_model.specs.JoinedBatchLaws.{plan_means}
use Rattle.lives_model.specs.WrittenKeys.{touched_each, touched_in}
use Rattle.lives_model.specs.WrittenKeyLaws.{in_front, among_second}
use Rattle.plan_laws.specs.Ahead.{HoldsUntil, not_lapsed, holds_ahead, holds_clock}
use Rattle.plan_laws.specs.AlikeRows.{LivesAlike, counts_lives}
use Rattle.plan_laws.specs.StillPlan.{Meets, touched_same, step_too, plan_too}
use Rattle.plan_laws.specs.AfterSteps.{step_lives, step_fresh}

-- ---- what holds of all holds of the first, and of the others

-- the sooner of two deadlines
past_both : (later d u : ℕ) (b : Bool) → nat_lt d u ≡ b → is_past later (cond b (Some d) (Some u)) ≡ false → (is_past later (Some d) ≡ false) × (is_past later (Some u) ≡ false)
past_both later d u true is e = (e, grind (arith, nat_tests))
past_both later d u false is e = (grind (arith, nat_tests), e)

-- has not come: neither has come
past_least : (later : ℕ) (d u : Option ℕ) → is_past later (least d u) ≡ false → (is_past later d ≡ false) × (is_past later u ≡ false)
past_least later None u e = (refl, e)
past_least later (Some d) None e = (e, refl)
past_least later (Some d) (Some u) e = past_both later d u (nat_lt d u) refl e

-- and no command reads the clock: neither the first nor any other
holds_first : (t later : ℕ) (d u : Option ℕ) (a b : Bool) → HoldsUntil t later (least d u) (a || b) → HoldsUntil t later d a × HoldsUntil t later u b
holds_first t later d u a b (inl is) = (inl is, inl is)
holds_first t later d u a b (inr h) =
    let past = past_least later d u h.0 in
    let reads = or_parts a b h.1 in
    (inr (past.0, reads.0), inr (past.1, reads.1))

-- ---- several commands

-- What the commands still to come need of the rows c and d after those before them.
record Ahead (c d : Rows) (t later base i : ℕ) (m n : RedisMap) (ds : List Command) (ps : List PlannedPart) : Type 0 where
  le : t ≤ later
  means : Means c t m
  means_too : Means d later n
  lives : (k : Bytes) → IsTrue (among (keys_of_each ds) k) → IsTrue (is_key k) → LivesAlike c d later k
  above : (k : Bytes) → IsTrue (among (keys_of_each ds) k) → IsTrue (is_key k) → IsFresh c (version base i) k × IsFresh d (version base i) k
  holds : HoldsUntil t later (least_until ps) (list_any reads_clock ds)

module _ (c d : Rows) (t later base i : ℕ) (m n : RedisMap) (a : Command) (ds : List Command) (p : PlannedPart) (ps : List PlannedPart) (need : Ahead c d t later base i m n (a ∷ ds) (p ∷ ps)) (plan : IsPlanOf c t (version base i) m a p.batch p.reply p.until) where
  -- nothing that the first looked ahead to has come, and nothing that the others did
  first_holds : HoldsUntil t later p.until (reads_clock a) × HoldsUntil t later (least_until ps) (list_any reads_clock ds)
  first_holds = holds_first t later p.until (least_until ps) (reads_clock a) (list_any reads_clock ds) need.holds

  -- the first of them meets what it needs
  first_meets : Meets c d t later (version base i) m n a
  first_meets = record {
    le = need.le;
    means = need.means;
    means_too = need.means_too;
    lives = λ k named. need.lives k (in_front (keys_of a) (keys_of_each ds) k named);
    above = λ k named. need.above k (in_front (keys_of a) (keys_of_each ds) k named);
    ahead = holds_ahead t later p.until (reads_clock a) (deadlines m t a) plan.ahead first_holds.0;
    clock = holds_clock t later p.until a first_holds.0;
  }

  -- the next place has the next version
  next_fresh : version base i + 1 ≡ version base (i + 1)
  next_fresh = omega arith

  -- and after it the others do
  rest_ahead : Ahead (after c p.batch) (after d p.batch) t later base (i + 1) (apply_alive m t a).1 (apply_alive n later a).1 ds ps
  rest_ahead = record {
    le = need.le;
    means = step_means c t (version base i) m a p.batch p.reply need.means plan.step;
    means_too = step_means d later (version base i) n a p.batch p.reply need.means_too there;
    lives = λ k named key. step_lives c d t later (version base i) m n a p.batch first_meets k (need.lives k (later_named k named) key) (plan.step.keys k);
    above = λ k named key.
        let free = need.above k (later_named k named) key in (
          subst (λ (v : ℕ). IsFresh (after c p.batch) v k) next_fresh (step_fresh c t (version base i) m a p.batch k free.0 (need.means.stands k) key (plan.step.keys k)),
          subst (λ (v : ℕ). IsFresh (after d p.batch) v k) next_fresh (step_fresh d later (version base i) n a p.batch k free.1 (need.means_too.stands k) key (there.keys k)),
        );
    holds = first_holds.1;
  }
    where
      there : IsStep d later (version base i) n a p.batch p.reply
      there = step_too c d t later (version base i) m n a p.batch first_meets p.reply plan.step

      later_named : (k : Bytes) → among (keys_of_each ds) k ≡ true → among (keys_of a ++ keys_of_each ds) k ≡ true
      later_named k named = among_second (keys_of a) (keys_of_each ds) k named

-- the parts are parts on the other rows
parts_too : (c d : Rows) (t later base i : ℕ) (m n : RedisMap) (ds : List Command) (ps : List PlannedPart) → Ahead c d t later base i m n ds ps → AreParts c t base i m ds ps → AreParts d later base i n ds ps
parts_too c d t later base i m n [] [] need are = are
parts_too c d t later base i m n [] (p ∷ ps) need are = are
parts_too c d t later base i m n (a ∷ ds) [] need are = are
parts_too c d t later base i m n (a ∷ ds) (p ∷ ps) need are = (
  plan_too c d t later (version base i) m n a p.batch p.reply p.until (first_meets c d t later base i m n a ds p ps need are.0) are.0,
  parts_too (after c p.batch) (after d p.batch) t later base (i + 1) (apply_alive m t a).1 (apply_alive n later a).1 ds ps (rest_ahead c d t later base i m n a ds p ps need are.0) are.1,
)

-- where the same keys are touched
parts_touch : (c d : Rows) (t later base i : ℕ) (m n : RedisMap) (ds : List Command) (ps : List PlannedPart) → Ahead c d t later base i m n ds ps → AreParts c t base i m ds ps → touched_each m t ds ≡ touched_each n later ds
parts_touch c d t later base i m n [] [] need are = refl
parts_touch c d t later base i m n [] (p ∷ ps) need are = refl
parts_touch c d t later base i m n (a ∷ ds) [] need are = absurd are
parts_touch c d t later base i m n (a ∷ ds) (p ∷ ps) need are =
    let first = touched_same c d t later (version base i) m n a (first_meets c d t later base i m n a ds p ps need are.0) in
    let rest = parts_touch (after c p.batch) (after d p.batch) t later base (i + 1) (apply_alive m t a).1 (apply_alive n later a).1 ds ps (rest_ahead c d t later base i m n a ds p ps need are.0) are.1 in
    λ j. first j ++ rest j

-- ---- the law

-- A plan of commands was made on rows c at the moment t, and is carried out on rows d at a later one, where the same counts
-- of the commands' keys. It has not lapsed.
pub record IsCurrent (c d : Rows) (t later base : ℕ) (m n : RedisMap) (ds : Cmds) (b : Batch) (answer : Reply) (until : Option ℕ) : Type 0 where
  pub on_grammar : IsOnGrammar c
  pub on_grammar_too : IsOnGrammar d
  pub means : Means c t m
  pub means_too : Means d later n
  pub ready : IsReady c t (version base 0) ds
  pub plan : IsPlanFor c t base m ds b answer until
  pub moment : t ≤ later
  pub still : IsStillReady c d later base (keys_in ds)
  pub current : IsFalse (lapses t later until ds)

module _ (c d : Rows) (t later base : ℕ) (m n : RedisMap) (b : Batch) (answer : Reply) (until : Option ℕ) where
  -- one command meets what it needs
  one_meets : (a : Command) → IsCurrent c d t later base m n (One a) b answer until → Meets c d t later (version base 0) m n a
  one_meets a is =
      let holds = not_lapsed t later until (One a) is.moment is.current in
      record {
        le = is.moment;
        means = is.means;
        means_too = is.means_too;
        lives = λ k named key. counts_lives c d later k is.on_grammar is.on_grammar_too key (is.still.alike k named);
        above = λ k named key. (is.ready.above k named, is.still.above k named);
        ahead = holds_ahead t later until (reads_clock a) (deadlines m t a) is.plan.ahead holds;
        clock = holds_clock t later until a holds;
      }

  -- and so do several
  all_ahead : (ds : List Command) (is : IsCurrent c d t later base m n (Many ds) b answer until) → Ahead c d t later base 0 m n ds is.plan.parts
  all_ahead ds is = record {
    le = is.moment;
    means = is.means;
    means_too = is.means_too;
    lives = λ k named key. counts_lives c d later k is.on_grammar is.on_grammar_too key (is.still.alike k named);
    above = λ k named key. (is.ready.above k named, is.still.above k named);
    holds = subst (λ (u : Option ℕ). HoldsUntil t later u (list_any reads_clock ds)) is.plan.ahead (not_lapsed t later until (Many ds) is.moment is.current);
  }

  -- it is a plan on the rows as they are now
  pub still_plan : (ds : Cmds) → IsCurrent c d t later base m n ds b answer until → IsPlanFor d later base n ds b answer until
  still_plan (One a) is = plan_too c d t later (version base 0) m n a b answer until (one_meets a is) is.plan
  still_plan (Many ds) is = record {
    parts = is.plan.parts;
    plans = parts_too c d t later base 0 m n ds is.plan.parts (all_ahead ds is) is.plan.plans;
    batch = is.plan.batch;
    replies = is.plan.replies;
    ahead = is.plan.ahead;
  }

  -- the commands touch the keys there that they touched when it was made
  pub still_touched : (ds : Cmds) → IsCurrent c d t later base m n ds b answer until → touched_in m t ds ≡ touched_in n later ds
  still_touched (One a) is = touched_same c d t later (version base 0) m n a (one_meets a is)
  still_touched (Many ds) is = parts_touch c d t later base 0 m n ds is.plan.parts (all_ahead ds is) is.plan.plans

-- so its batch carries the commands out on them, with the same reply
pub holds_later : (ds : Cmds) → HoldsLater ds
holds_later ds = record {
  law = λ c d t later base m n b answer until on_grammar on_grammar_too means ready plan le means_too still current.
      plan_means d later base n ds b answer until means_too (still_plan c d t later base m n b answer until ds (record {
        on_grammar = on_grammar;
        on_grammar_too = on_grammar_too;
        means = means;
        means_too = means_too;
        ready = ready;
        plan = plan;
        moment = le;
        still = still;
        current = current;
      }));
}
