-- A plan of one command, made on some rows at a moment, is a plan of it on other rows at a later one, where what counts of
-- its keys is the same.
use Rattle.std.proofs.Common.{◌≡◌, ℕ, ◌≤◌, refl, sym, ap, subst, ◌∙◌, Bool, true, false, cond, ◌&&◌, not, List, [], ◌∷◌, ◌++◌, map, inl, inr, arith}
use Rattle.std.specs.Prelude.{◌==◌, ◌+◌, length, Option, Some, None, IsTrue}
use Rattle.kv_base.specs.Map.{Bytes, get}
use Rattle.kv_base.specs.InversionLaws.{both_second, number_is}
use Rattle.kv_base.specs.RawKeys.{is_key, is_version}
use Rattle.batch_codec.specs.Batches.{Batch}
use Rattle.redis_model.specs.declared.reply.Reply.{Reply}
use Rattle.redis_model.specs.declared.command.Command.{Command}
use Rattle.redis_model.specs.declared.command.Command.TheVariants as cmd
use Rattle.redis_model.specs.Strings.{start_at}
use Rattle.redis_model.specs.Value.{Value, Str, Hash, ListOf, SetOf, ZSet, Entry, RedisMap, alive, deadline_at}
use Rattle.redis_model.specs.Keys.{among}
use Rattle.redis_model.specs.About.{keys_of}
use Rattle.redis_model.specs.Apply.{apply}
use Rattle.redis_model.specs.Touched.{touched}
use Rattle.redis_model.specs.TouchedLaws.{touched_is_named}
use Rattle.redis_model.specs.Machine.{apply_alive}
use Rattle.key_locality.specs.Agree.{AgreeOn, SameMoment}
use Rattle.key_locality.specs.Between.{IsNotBetween, NoneBetween, FindsTheSame}
use Rattle.key_locality.specs.Moments.{all_front, agree_later_moment}
use Rattle.key_locality.specs.Alike.{agree_first, agree_later, same_deadline_at}
use Rattle.key_locality.specs.Local.{apply_agrees}
use Rattle.key_locality.specs.AliveLocal.{apply_alive_replies, apply_alive_agrees, touched_later}
use Rattle.lives_model.specs.Rows.{Rows, Side, row_key}
use Rattle.lives_model.specs.Clean.{live_at}
use Rattle.lives_model.specs.Means.{Means, MeansAt, LifeAt, meta_for, row_of, has_life}
use Rattle.lives_model.specs.Moved.{items_of, head_after}
use Rattle.lives_model.specs.Plans.{is_store, same_type, holds_type, new_life, life_in, life_before, life_after, changed, WritesEntry, LeavesEntry, touches, KeyPlan, IsStep, deadlines, least_above, IsPlanOf, IsFresh}
use Rattle.lives_model.specs.StepLaws.{alive_means, version_fits, version_for}
use Rattle.lives_model.specs.MeansOneLaws.{stands_one}
use Rattle.lives_model.specs.CleanLaws.{means_later}
use Rattle.plan_laws.specs.Ahead.{least_later}
use Rattle.plan_laws.specs.AlikeRows.{life_of, RowsAlike, LivesAlike, stands_too, long_holds_none, same_live}

-- What a command needs, planned on rows c that mean m at t, to be carried out on rows d that mean n at a later moment: its
-- keys live alike, a new life finds no rows on either, and no deadline lies between.
pub record Meets (c d : Rows) (t later fresh : ℕ) (m n : RedisMap) (a : Command) : Type 0 where
  pub le : t ≤ later
  pub means : Means c t m
  pub means_too : Means d later n
  pub lives : (k : Bytes) → IsTrue (among (keys_of a) k) → IsTrue (is_key k) → LivesAlike c d later k
  pub above : (k : Bytes) → IsTrue (among (keys_of a) k) → IsTrue (is_key k) → IsFresh c fresh k × IsFresh d fresh k
  pub ahead : NoneBetween t later (deadlines m t a)
  pub clock : SameMoment a t later

-- ---- the first item of a list

-- where it stands depends on the key's own entry
head_same : (m n : RedisMap) (a : Command) (k : Bytes) (head : ℕ) → get m k ≡ get n k → head_after m a k head ≡ head_after n a k head
unfolding head_after
head_same m n (cmd.LTrim key i j w) k head is = ap (λ o. head + start_at (length (items_of o)) i) is
head_same m n _ k head is = refl

-- ---- a life that goes on

-- what has the type of a collection is one
pub collection : (v w : Value) → same_type v w ≡ true → has_life v ≡ true
collection (Str v) w e = by_value w e
  where
    by_value : (w : Value) → same_type (Str v) w ≡ true → has_life (Str v) ≡ true
    by_value (Str w) e = cc
    by_value (Hash w) e = cc
    by_value (ListOf w) e = cc
    by_value (SetOf w) e = cc
    by_value (ZSet w) e = cc
collection (Hash v) w e = refl
collection (ListOf v) w e = refl
collection (SetOf v) w e = refl
collection (ZSet v) w e = refl

-- the version that metadata of a collection names
pub version_in : (v : Value) (life new : LifeAt) (x : ℕ) → has_life v ≡ true → (life_in (Some (meta_for v life x)) new).version ≡ life.version
version_in (Str v) life new x h = cc
version_in (Hash v) life new x h = refl
version_in (ListOf v) life new x h = refl
version_in (SetOf v) life new x h = refl
version_in (ZSet v) life new x h = refl

module _ (c d : Rows) (t later fresh : ℕ) (m n : RedisMap) (a : Command) (meets : Meets c d t later fresh m n a) where
  -- ---- what the command finds

  -- a key that is too long holds nothing in either map
  long_agree : (k : Bytes) → is_key k ≡ false → get (alive m later) k ≡ get (alive n later) k
  long_agree k long =
      let le = meets.le in
      long_holds_none c later k (get (alive m later) k) long ((means_later c t later m le meets.means).stands k)
      ∙ sym (long_holds_none d later k (get (alive n later) k) long ((means_later d later later n (omega arith) meets.means_too).stands k))

  -- any other key that the command names lives alike
  key_agree : (k : Bytes) → IsTrue (among (keys_of a) k) → is_key k ≡ true → get (alive m later) k ≡ get (alive n later) k
  key_agree k named key =
      stands_one d later k (get (alive m later) k) (get (alive n later) k)
      (stands_too c d later k (get (alive m later) k) (meets.lives k named key) ((means_later c t later m meets.le meets.means).stands k))
      ((means_later d later later n (omega arith) meets.means_too).stands k)

  -- so what has not expired at the later moment is the same at its keys
  later_agree : AgreeOn (keys_of a) (alive m later) (alive n later)
  later_agree k named = elim (is_key k) as (λ b. is_key k ≡ b → get (alive m later) k ≡ get (alive n later) k) [ true ↦ key_agree k named | false ↦ long_agree k ] refl

  -- and the command finds the same
  finds : FindsTheSame m n t later a
  finds = record {
    later = meets.le;
    clock = meets.clock;
    ahead = subst (λ (o : RedisMap). NoneBetween t later (deadlines o t a)) (sym (alive_means c t m meets.means)) meets.ahead;
    agree = later_agree;
  }

  -- nothing of its keys expires in between
  now_later : AgreeOn (keys_of a) m (alive m later)
  now_later k named =
      ap (λ (o : RedisMap). get o k) (sym (alive_means c t m meets.means))
      ∙ agree_later_moment (keys_of a) m t later meets.le (all_front (IsNotBetween t later) (map (deadline_at (alive m t)) (keys_of a)) _ finds.ahead) k named

  -- its keys hold the same
  pub found : AgreeOn (keys_of a) m n
  found k named = now_later k named ∙ later_agree k named ∙ ap (λ (o : RedisMap). get o k) (alive_means d later n meets.means_too)

  -- it answers the same
  pub reply_same : (apply_alive m t a).0 ≡ (apply_alive n later a).0
  reply_same = apply_alive_replies m n t later a finds

  -- and leaves the same
  pub left_same : AgreeOn (keys_of a) (apply_alive m t a).1 (apply_alive n later a).1
  left_same = apply_alive_agrees m n t later a finds

  -- and touches the same keys
  pub touched_same : touched m t a ≡ touched n later a
  touched_same =
      ap (λ (o : RedisMap). touched o t a) (sym (alive_means c t m meets.means))
      ∙ touched_later m n t later a finds
      ∙ ap (λ (o : RedisMap). touched o later a) (alive_means d later n meets.means_too)

  -- ---- the lives that it goes on with

  module _ (k : Bytes) (named : IsTrue (among (keys_of a) k)) (key : IsTrue (is_key k)) where
    -- the live metadata of its key stays live
    live_later_same : live_at c later k ≡ live_at c t k
    live_later_same =
        same_live c t later k (get m k) meets.le (meets.means.stands k)
        (subst (MeansAt c later k) (sym (now_later k named)) ((means_later c t later m meets.le meets.means).stands k))

    -- and is the same on both
    live_same : live_at c t k ≡ live_at d later k
    live_same = sym live_later_same ∙ sym (meets.lives k named key).meta

    -- so a life goes on with the same version and place on both, or starts on both
    before_same : (v : Value) → life_before c t fresh m a k v ≡ life_before d later fresh n a k v
    before_same v = λ i. cond (not (is_store a) && holds_type (found k named i) v) (life_in (live_same i) (new_life fresh)) (new_life fresh)

    -- and is left the same
    pub life_same : (v : Value) → life_after c t fresh m a k v ≡ life_after d later fresh n a k v
    unfolding life_after
    life_same v =
        let before = before_same v in
        let head : head_after m a k (life_before c t fresh m a k v).head ≡ head_after n a k (life_before d later fresh n a k v).head =
        head_same m n a k (life_before c t fresh m a k v).head (found k named) ∙ ap (λ life. head_after n a k life.head) before in
        λ i. record { version = (before i).version; head = head i }

    -- a life that goes on has the same rows on both
    going_on : (v : Value) (o : Option Entry) → MeansAt c t k o → holds_type o v ≡ true → RowsAlike c d k (life_in (live_at c t k) (new_life fresh)).version
    going_on v None s e = absurd (cc)
    going_on v (Some x) s e =
        let h = collection x.value v e in
        let version : (life_in (live_at c t k) (new_life fresh)).version ≡ s.life.version = ap (λ o. (life_in o (new_life fresh)).version) s.meta ∙ version_in x.value s.life (new_life fresh) s.expire h in
        subst (RowsAlike c d k) (sym version) ((meets.lives k named key).rows s.life.version (ap life_of (live_later_same ∙ s.meta) ∙ version_for x.value s.life s.expire h))

    -- and a new one has none
    starting : is_version fresh ≡ true → RowsAlike c d k fresh
    starting low side subkey =
        let none = meets.above k named key in
        none.0 side fresh subkey (omega arith) low ∙ sym (none.1 side fresh subkey (omega arith) low)

    -- so the rows of either are the same
    life_rows_by : (v : Value) (b : Bool) → (not (is_store a) && holds_type (get m k) v) ≡ b → is_version (cond b (life_in (live_at c t k) (new_life fresh)) (new_life fresh)).version ≡ true
        → RowsAlike c d k (cond b (life_in (live_at c t k) (new_life fresh)) (new_life fresh)).version
    life_rows_by v true is low = going_on v (get m k) (meets.means.stands k) (both_second (not (is_store a)) (holds_type (get m k) v) is)
    life_rows_by v false is low = starting low

    -- and those of the life that a value is written to
    pub life_rows : (v : Value) → is_version (life_after c t fresh m a k v).version ≡ true → RowsAlike c d k (life_after c t fresh m a k v).version
    unfolding life_after
    life_rows v low = life_rows_by v (not (is_store a) && holds_type (get m k) v) refl low

-- ---- the same batch writes it

module _ (c d : Rows) (b : Batch) (k : Bytes) (e : Entry) (life : LifeAt) where
  -- a row that has to be changed is changed alike
  same_rows : (h s : Bool) (side : Side) (version : ℕ) (subkey : Bytes) → has_life e.value ≡ h → (version == life.version) ≡ s → (h ≡ true → RowsAlike c d k life.version)
      → cond (h && s) (changed (get c (row_key side k version subkey)) (row_of e.value life.head side subkey)) None ≡ cond (h && s) (changed (get d (row_key side k version subkey)) (row_of e.value life.head side subkey)) None
  same_rows true true side version subkey is at alike =
      let here : get c (row_key side k version subkey) ≡ get d (row_key side k version subkey) = subst (RowsAlike c d k) (sym (number_is version life.version at)) (alike refl) side subkey in
      ap (λ o. changed o (row_of e.value life.head side subkey)) here
  same_rows true false side version subkey is at alike = refl
  same_rows false s side version subkey is at alike = refl

  -- where the rows of the life are the same
  writes_too : (has_life e.value ≡ true → RowsAlike c d k life.version) → WritesEntry c b k e life → WritesEntry d b k e life
  writes_too alike w = record {
    expire = w.expire;
    deadline = w.deadline;
    fits = w.fits;
    key = w.key;
    scores = w.scores;
    meta = w.meta;
    rows = λ side version subkey low. w.rows side version subkey low ∙ same_rows (has_life e.value) (version == life.version) side version subkey refl refl alike;
  }

-- ---- the step, and the plan

module _ (c d : Rows) (t later fresh : ℕ) (m n : RedisMap) (a : Command) (b : Batch) (meets : Meets c d t later fresh m n a) where
  -- what the batch does at a touched key
  leaves_too : (k : Bytes) (o : Option Entry) → IsTrue (among (keys_of a) k) → LeavesEntry c t fresh m a b k o → LeavesEntry d later fresh n a b k o
  leaves_too k None named l = l
  leaves_too k (Some e) named l =
      subst (WritesEntry d b k e) (life_same c d t later fresh m n a meets k named l.key e.value)
      (writes_too c d b k e (life_after c t fresh m a k e.value)
      (λ h. life_rows c d t later fresh m n a meets k named l.key e.value (version_fits e.value (life_after c t fresh m a k e.value) l.expire h l.fits)) l)

  -- the same keys are touched
  touches_same : (k : Bytes) → touches m t a k ≡ touches n later a k
  touches_same k = ap (λ ks. among ks k) (touched_same c d t later fresh m n a meets)

  -- and each key is left or written as a plan there would
  key_too : (k : Bytes) → KeyPlan c t fresh m a b k → KeyPlan d later fresh n a b k
  key_too k (inl p) = inl (sym (touches_same k) ∙ p.0, p.1)
  key_too k (inr p) =
      let named = touched_is_named m t a k p.0 in
      inr (sym (touches_same k) ∙ p.0, leaves_too k (get (apply_alive n later a).1 k) named (subst (LeavesEntry c t fresh m a b k) (left_same c d t later fresh m n a meets k named) p.1))

  -- the step is one on the other rows
  pub step_too : (answer : Reply) → IsStep c t fresh m a b answer → IsStep d later fresh n a b answer
  step_too answer s = record { reply = s.reply ∙ reply_same c d t later fresh m n a meets; raw = s.raw; keys = λ k. key_too k (s.keys k) }

-- the deadlines of keys that hold the same
deadlines_same : (ks : List Bytes) (m n : RedisMap) → AgreeOn ks m n → map (deadline_at m) ks ≡ map (deadline_at n) ks
deadlines_same [] m n agree = refl
deadlines_same (k ∷ ks) m n agree =
    let first = same_deadline_at m n k (agree_first k ks m n agree) in
    let rest = deadlines_same ks m n (agree_later k ks m n agree) in
    λ i. first i ∷ rest i

module _ (c d : Rows) (t later fresh : ℕ) (m n : RedisMap) (a : Command) (b : Batch) (answer : Reply) (until : Option ℕ) where
  -- and the plan is a plan there, which looks ahead to the same deadline
  pub plan_too : Meets c d t later fresh m n a → IsPlanOf c t fresh m a b answer until → IsPlanOf d later fresh n a b answer until
  plan_too meets p = record {
    step = step_too c d t later fresh m n a b meets answer p.step;
    ahead = p.ahead ∙ least_later t later (deadlines m t a) meets.le meets.ahead ∙ ap (least_above later) same;
  }
    where
      agree : AgreeOn (keys_of a) m n
      agree = found c d t later fresh m n a meets

      same : deadlines m t a ≡ deadlines n later a
      same = λ i. deadlines_same (keys_of a) m n agree i ++ deadlines_same (keys_of a) (apply m t a).1 (apply n later a).1 (apply_agrees m n t later a agree meets.clock) i
