-- Laws on what stands in `WrittenKeys.antt`.
use Rattle.std.proofs.Common.{◌≡◌, ◌↔◌, ℕ, ◌+◌, List, [], ◌∷◌, ◌++◌, refl, sym, ap, subst, ◌∙◌, Bool, true, false}
use Rattle.std.specs.Prelude.{◌||◌, Option, IsSome, IsTrue, is_some}
use Rattle.kv_base.specs.Map.{Bytes, same, get, get-empty, empty}
use Rattle.batch_codec.specs.Batches.{Batch, after, joined}
use Rattle.redis_model.specs.declared.reply.Reply.{Reply}
use Rattle.redis_model.specs.declared.command.Command.{Command}
use Rattle.redis_model.specs.declared.command.Cmds.{Cmds}
use Rattle.redis_model.specs.declared.command.Cmds.TheVariants.{One, Many}
use Rattle.redis_model.specs.Value.{RedisMap}
use Rattle.redis_model.specs.Keys.{among}
use Rattle.redis_model.specs.About.{keys_of}
use Rattle.redis_model.specs.Touched.{touched}
use Rattle.redis_model.specs.TouchedLaws.{touched_is_named}
use Rattle.redis_model.specs.Machine.{apply_alive}
use Rattle.lives_model.specs.Rows.{Rows, meta_key}
use Rattle.lives_model.specs.Plans.{IsPlanFor, PlannedPart, AreParts, join_parts, version, keys_of_each, keys_in}
use Rattle.lives_model.specs.OwnKeys.{IsAmong}
use Rattle.lives_model.specs.OwnKeyLaws.{step_touches, touched_is_written, none_own, none_written}
use Rattle.lives_model.specs.JoinedBatchLaws.{joined_some}
use Rattle.lives_model.specs.WrittenKeys.{touched_each, touched_in}

-- ---- which keys a plan writes

-- a key is among two lists where it is among one of them
pub among-append : (ks js : List Bytes) (k : Bytes) → among (ks ++ js) k ≡ (among ks k || among js k)
among-append [] js k = refl
among-append (q ∷ ks) js k = ap (λ b. same k q || b) (among-append ks js k) ∙ or_assoc (same k q) (among ks k) (among js k)
  where
    or_assoc : (a b c : Bool) → (a || (b || c)) ≡ ((a || b) || c)
    or_assoc true b c = refl
    or_assoc false b c = refl

-- one of two tests passes where the first does
or_left : (a b : Bool) → a ≡ true → (a || b) ≡ true
or_left true b e = refl
or_left false b e = cc

-- and where the second does
or_right : (a b : Bool) → b ≡ true → (a || b) ≡ true
or_right true b e = refl
or_right false b e = e

-- a key among the first list is among both
pub in_front : (ks js : List Bytes) (k : Bytes) → among ks k ≡ true → among (ks ++ js) k ≡ true
in_front ks js k h = among-append ks js k ∙ or_left (among ks k) (among js k) h

-- and so is one among the second
pub among_second : (ks js : List Bytes) (k : Bytes) → among js k ≡ true → among (ks ++ js) k ≡ true
among_second ks js k h = among-append ks js k ∙ or_right (among ks k) (among js k) h

-- one of two tests has passed
pub either_passed : {A : Type 0} (a b : Bool) → (a || b) ≡ true → (a ≡ true → A) → (b ≡ true → A) → A
either_passed true b h left right = left refl
either_passed false b h left right = right h

-- each key that commands touch is named by one of them
pub touched_in_is_named : (m : RedisMap) (t : ℕ) (ds : Cmds) (k : Bytes) → IsTrue (among (touched_in m t ds) k) → IsTrue (among (keys_in ds) k)
touched_in_is_named m t (One d) k h = touched_is_named m t d k h
touched_in_is_named m t (Many ds) k h = each m ds h
  where
    each : (m : RedisMap) (ds : List Command) → among (touched_each m t ds) k ≡ true → among (keys_of_each ds) k ≡ true
    each m [] h = h
    each m (d ∷ ds) h =
        let rest = touched_each (apply_alive m t d).1 t ds in
        either_passed (among (touched m t d) k) (among rest k) (sym (among-append (touched m t d) rest k) ∙ h)
        (λ here. in_front (keys_of d) (keys_of_each ds) k (touched_is_named m t d k here))
        (λ later. among_second (keys_of d) (keys_of_each ds) k (each (apply_alive m t d).1 ds later))

-- ---- rows of touched keys alone

-- a raw key of a key among these is one of a key among those
widened : (ks js : List Bytes) (raw : Bytes) → ((k : Bytes) → among ks k ≡ true → among js k ≡ true) → IsAmong ks raw → IsAmong js raw
widened ks js raw within own = record { key = own.key; is = own.is; among = within own.key own.among }

-- where all raw keys of a batch, and all touched keys, are of keys among these, so are those of the batch with its parts
parts_touch : (c : Rows) (t base i : ℕ) (m : RedisMap) (ds : List Command) (b : Batch) (ps : List PlannedPart) (all : List Bytes) → AreParts c t base i m ds ps
    → ((k : Bytes) → among (touched_each m t ds) k ≡ true → among all k ≡ true) → ((raw : Bytes) → IsSome (get b raw) → IsAmong all raw)
    → (raw : Bytes) → IsSome (get (join_parts b ps) raw) → IsAmong all raw
parts_touch c t base i m [] b [] all are within own raw there = own raw there
parts_touch c t base i m [] b (p ∷ ps) all are within own raw there = absurd are
parts_touch c t base i m (d ∷ ds) b [] all are within own raw there = absurd are
parts_touch c t base i m (d ∷ ds) b (p ∷ ps) all are within own raw there =
    let later = touched_each (apply_alive m t d).1 t ds in
    parts_touch (after c p.batch) t base (i + 1) (apply_alive m t d).1 ds (joined b p.batch) ps all are.1
    (λ k h. within k (among_second (touched m t d) later k h))
    (λ raw there. either_passed (is_some (get p.batch raw)) (is_some (get b raw)) (sym (joined_some b p.batch raw) ∙ there)
    (λ new. widened (touched m t d) all raw (λ k h. within k (in_front (touched m t d) later k h)) (step_touches c t (version base i) m d p.batch p.reply are.0.step raw new))
    (λ old. own raw old))
    raw there

-- each raw key of a plan's batch is one of a key that the commands touch
pub plan_touches : (c : Rows) (t base : ℕ) (m : RedisMap) (ds : Cmds) (b : Batch) (answer : Reply) (until : Option ℕ) → IsPlanFor c t base m ds b answer until
    → (raw : Bytes) → IsSome (get b raw) → IsAmong (touched_in m t ds) raw
plan_touches c t base m (One d) b answer until plan raw there = step_touches c t (version base 0) m d b answer plan.step raw there
plan_touches c t base m (Many ds) b answer until plan raw there =
    parts_touch c t base 0 m ds empty plan.parts (touched_each m t ds) plan.plans (λ k h. h)
    (λ raw some. let none = get-empty {X = Option Bytes} raw in cc)
    raw (subst (λ (n : Batch). IsSome (get n raw)) plan.batch there)

-- and of one that they name
pub plan_names : (c : Rows) (t base : ℕ) (m : RedisMap) (ds : Cmds) (b : Batch) (answer : Reply) (until : Option ℕ) → IsPlanFor c t base m ds b answer until
    → (raw : Bytes) → IsSome (get b raw) → IsAmong (keys_in ds) raw
plan_names c t base m ds b answer until plan raw there = widened (touched_in m t ds) (keys_in ds) raw (touched_in_is_named m t ds) (plan_touches c t base m ds b answer until plan raw there)

-- ---- each touched key is written

-- a raw key of a batch stays one where parts are joined to it
parts_keep : (b : Batch) (ps : List PlannedPart) (raw : Bytes) → IsSome (get b raw) → IsSome (get (join_parts b ps) raw)
parts_keep b [] raw there = there
parts_keep b (p ∷ ps) raw there = parts_keep (joined b p.batch) ps raw (joined_some b p.batch raw ∙ or_right (is_some (get p.batch raw)) (is_some (get b raw)) there)

-- the metadata of a key that parts touch is in the batch to which they are joined
parts_write : (c : Rows) (t base i : ℕ) (m : RedisMap) (ds : List Command) (b : Batch) (ps : List PlannedPart) → AreParts c t base i m ds ps
    → (k : Bytes) → among (touched_each m t ds) k ≡ true → IsSome (get (join_parts b ps) (meta_key k))
parts_write c t base i m [] b ps are k h = cc
parts_write c t base i m (d ∷ ds) b [] are k h = absurd are
parts_write c t base i m (d ∷ ds) b (p ∷ ps) are k h =
    let later = touched_each (apply_alive m t d).1 t ds in
    either_passed (among (touched m t d) k) (among later k) (sym (among-append (touched m t d) later k) ∙ h)
    (λ here. parts_keep (joined b p.batch) ps (meta_key k)
    (joined_some b p.batch (meta_key k) ∙ or_left (is_some (get p.batch (meta_key k))) (is_some (get b (meta_key k))) (touched_is_written c t (version base i) m d p.batch p.reply are.0.step k here)))
    (λ rest. parts_write (after c p.batch) t base (i + 1) (apply_alive m t d).1 ds (joined b p.batch) ps are.1 k rest)

-- the batch has the metadata of each key that the commands touch
pub plan_writes : (c : Rows) (t base : ℕ) (m : RedisMap) (ds : Cmds) (b : Batch) (answer : Reply) (until : Option ℕ) → IsPlanFor c t base m ds b answer until
    → (k : Bytes) → IsTrue (among (touched_in m t ds) k) → IsSome (get b (meta_key k))
plan_writes c t base m (One d) b answer until plan k on = touched_is_written c t (version base 0) m d b answer plan.step k on
plan_writes c t base m (Many ds) b answer until plan k on =
    subst (λ (n : Batch). IsSome (get n (meta_key k))) (sym plan.batch) (parts_write c t base 0 m ds empty plan.parts plan.plans k on)

-- so it is empty exactly where they touch no key
pub quiet_plan : (c : Rows) (t base : ℕ) (m : RedisMap) (ds : Cmds) (b : Batch) (answer : Reply) (until : Option ℕ) → IsPlanFor c t base m ds b answer until
    → (touched_in m t ds ≡ []) ↔ (b ≡ empty)
quiet_plan c t base m ds b answer until plan = (
  none_own b (touched_in m t ds) (plan_touches c t base m ds b answer until plan),
  none_written b (touched_in m t ds) (plan_writes c t base m ds b answer until plan),
)
