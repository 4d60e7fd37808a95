-- Laws on what stands in `IssuedRows.antt`.
use Rattle.std.proofs.Common.{◌≡◌, ℕ, ◌+◌, ◌*◌, ◌^◌, ◌<◌, ◌≤◌, List, [], ◌∷◌, ◌++◌, refl, sym, ap, subst, ◌∙◌, Bool, true, false, cond, length, inl, inr, arith}
use Rattle.std.proofs.lemmas.Bool.Decides.{nat_tests}
use Rattle.std.specs.Prelude.{◌⊎◌, nat_le, ◌==◌, ◌&&◌, Option, Some, None, IsTrue, IfSome, option_map, option_and_then}
use Rattle.std.specs.List.{Contains}
use Rattle.kv_base.specs.Map.{Bytes, get, get-empty, empty}
use Rattle.kv_base.specs.RawKeys.{is_key, is_version}
use Rattle.kv_base.specs.MetaValues.{MetaValue, StringValue, LifeValue, ListValue, read_meta, version_of}
use Rattle.batch_codec.specs.Batches.{Batch, after, joined, over}
use Rattle.batch_codec.specs.BatchLaws.{get-joined}
use Rattle.kv_base.specs.declared.row.Row.{Row}
use Rattle.row_model.specs.Rows.{at, seen_at, batch_rows}
use Rattle.row_model.specs.RowOrder.{merged}
use Rattle.row_model.specs.RowOrderLaws.{same_merged}
use Rattle.row_model.specs.RowLaws.{there_cases, there_never, there_first, there_behind, seen_is}
use Rattle.row_model.specs.RowMaps.{value_seen}
use Rattle.row_model.specs.RowMapLaws.{get_at}
use Rattle.row_model.specs.BatchRowLaws.{batch_row_is}
use Rattle.redis_model.specs.declared.reply.Reply.{Reply}
use Rattle.redis_model.specs.declared.command.Command.{Command}
use Rattle.redis_model.specs.declared.command.Cmds.{Cmds}
use Rattle.redis_model.specs.declared.command.Cmds.TheVariants.{One, Many}
use Rattle.redis_model.specs.Value.{Entry, RedisMap}
use Rattle.redis_model.specs.Machine.{apply_alive}
use Rattle.lives_model.specs.Rows.{Rows, Side, meta_key, row_key}
use Rattle.lives_model.specs.Means.{has_life, row_of}
use Rattle.lives_model.specs.Plans.{IsFresh, IsPlanFor, AreAsked, IsStep, KeyPlan, LeavesEntry, PlannedPart, AreParts, join_parts, changed, life_after, version}
use Rattle.lives_model.specs.Issued.{meta_at, HasVersionsBelow, IsNearMiddle, IsIssued, IsIssuedMeta, IsIssuedRow, AreIssued}
use Rattle.lives_model.specs.IssuedLaws.{step_below, below_more}
use Rattle.lives_model.specs.IssuedListLaws.{plan_issues_rows}
use Rattle.lives_model.specs.JoinedBatchLaws.{after-empty, after-joined}
use Rattle.lives_model.specs.StepLaws.{get-placed}
use Rattle.lives_model.specs.IssuedRows.{HasNoneFrom, IsCommitted}

-- ---- a later sequence

-- a version that a sequence has issued, a later one has issued too
pub later_version : (sequence later : ℕ) (o : Option ℕ) → sequence ≤ later → IfSome o (λ v. v < version sequence 0) → IfSome o (λ v. v < version later 0)
later_version sequence later None le h = tt
later_version sequence later (Some v) le h = omega arith

-- and so it is with the ends of a list
pub later_near : (sequence later : ℕ) (m : MetaValue) → sequence ≤ later → IsNearMiddle (sequence * 2 ^ 20) m → IsNearMiddle (later * 2 ^ 20) m
later_near sequence later (StringValue expire payload) le h = tt
later_near sequence later (LifeValue kind expire v size) le h = tt
later_near sequence later (ListValue expire v head tail) le h = let low = h.0 in let high = h.1 in (omega arith, omega arith)

-- so with metadata
pub later_meta : (sequence later : ℕ) (o : Option MetaValue) → sequence ≤ later → IfSome o (IsIssuedMeta sequence) → IfSome o (IsIssuedMeta later)
later_meta sequence later None le h = tt
later_meta sequence later (Some m) le h = (later_version sequence later (version_of m) le h.0, later_near sequence later m le h.1)

-- what is issued in metadata is its version, if it has one
meta_version : (sequence : ℕ) (o : Option MetaValue) → IfSome o (IsIssuedMeta sequence) → IfSome (option_and_then version_of o) (λ v. v < version sequence 0)
meta_version sequence None h = tt
meta_version sequence (Some m) h = h.0

-- and the ends of a list
meta_near : (sequence : ℕ) (o : Option MetaValue) → IfSome o (IsIssuedMeta sequence) → IfSome o (IsNearMiddle (sequence * 2 ^ 20))
meta_near sequence None h = tt
meta_near sequence (Some m) h = h.1

-- and both together
has_both : (sequence : ℕ) (o : Option MetaValue) → IfSome (option_and_then version_of o) (λ v. v < version sequence 0) → IfSome o (IsNearMiddle (sequence * 2 ^ 20)) → IfSome o (IsIssuedMeta sequence)
has_both sequence None low near = tt
has_both sequence (Some m) low near = (low, near)

-- rows that are issued up to a sequence are issued up to each later one
pub issued_later : (c : Rows) (sequence later : ℕ) → sequence ≤ later → IsIssued c sequence → IsIssued c later
issued_later c sequence later le issued = record {
  versions = below_more c (version sequence 0) (version later 0) (omega arith) issued.versions;
  lists = record { meta = λ k. meta_near later (meta_at c k) (later_meta sequence later (meta_at c k) le (has_both sequence (meta_at c k) (issued.versions.meta k) (issued.lists.meta k))) };
}

-- ---- what shows

-- where no row of a key is above q, no version of its rows comes behind q
pub fresh_by_rows : (rows : List Row) (s q : ℕ) (k : Bytes) → IsTrue (is_key k) → AreIssued rows
    → ((row : Row) (side : Side) (v : ℕ) (subkey : Bytes) → Contains rows row → row.seq ≤ s → IsTrue (is_version v) → row.raw ≡ row_key side k v subkey → row.seq ≤ q) → IsFresh (at rows s) (version q 0) k
fresh_by_rows rows s q k key issued low side v subkey above fits = get_at rows s (row_key side k v subkey) ∙ by_seen (seen_at rows s (row_key side k v subkey)) refl
  where
    by_seen : (o : Option Row) → seen_at rows s (row_key side k v subkey) ≡ o → value_seen o ≡ None
    by_seen None e = refl
    by_seen (Some row) e =
        let it = seen_is rows s (row_key side k v subkey) row e in
        let below = (issued row it.0).raw side k v subkey key fits it.1 in
        let older = low row side v subkey it.0 it.2 fits it.1 in
        absurd (omega (arith, below, older, above))

-- what issued rows show at a sequence is issued up to it
pub shown_is_issued : (rows : List Row) (s : ℕ) → AreIssued rows → IsIssued (at rows s) s
unfolding meta_at
shown_is_issued rows s issued = record {
  versions = record {
    meta = λ k. meta_version s (meta_at (at rows s) k) (of_meta k);
    rows = λ k key. fresh_by_rows rows s s k key issued (λ row side v subkey there low fits is. low);
  };
  lists = record { meta = λ k. meta_near s (meta_at (at rows s) k) (of_meta k) };
}
  where
    by_seen : (k : Bytes) (o : Option Row) → seen_at rows s (meta_key k) ≡ o → IfSome (option_and_then read_meta (value_seen o)) (IsIssuedMeta s)
    by_seen k None e = tt
    by_seen k (Some row) e =
        let it = seen_is rows s (meta_key k) row e in
        later_meta row.seq s (option_and_then read_meta row.value) it.2 ((issued row it.0).meta k it.1)

    of_meta : (k : Bytes) → IfSome (meta_at (at rows s) k) (IsIssuedMeta s)
    of_meta k = subst (λ (o : Option Bytes). IfSome (option_and_then read_meta o) (IsIssuedMeta s)) (sym (get_at rows s (meta_key k))) (by_seen k (seen_at rows s (meta_key k)) refl)

-- ---- lists of rows

-- no rows are issued
pub none_issued : AreIssued []
none_issued row there = absurd (there_never row there)

-- one more row
first_issued : (first : Row) (rows : List Row) → IsIssuedRow first → AreIssued rows → AreIssued (first ∷ rows)
first_issued first rows here behind row there = by_place (there_cases rows row first there)
  where
    by_place : (first ≡ row) ⊎ Contains rows row → IsIssuedRow row
    by_place (inl is) = subst IsIssuedRow is here
    by_place (inr later) = behind row later

-- rows in front of others
pub both_issued : (rows others : List Row) → AreIssued rows → AreIssued others → AreIssued (rows ++ others)
both_issued [] others issued more = more
both_issued (first ∷ rows) others issued more =
    first_issued first (rows ++ others) (issued first (there_first rows first)) (both_issued rows others (λ row there. issued row (there_behind rows row first there)) more)

-- rows among others, each at its place
pub merged_issued : (rows more : List Row) → AreIssued rows → AreIssued more → AreIssued (merged rows more)
merged_issued rows more issued new row there = both_issued more rows new issued row ((same_merged rows more).1 row there)

-- ---- the rows of a plan

-- a step on rows whose versions are below a bound, as are those that it starts
module _ (c : Rows) (bound t fresh : ℕ) (m : RedisMap) (d : Command) (b : Batch) (answer : Reply) (below : HasVersionsBelow c bound) (low : fresh < bound) (step : IsStep c t fresh m d b answer) where
  after_below : HasVersionsBelow (after c b) bound
  after_below = step_below c bound below t fresh m d b answer low step

  module _ (k : Bytes) (key : IsTrue (is_key k)) (side : Side) (v : ℕ) (subkey : Bytes) (above : bound ≤ v) (fits : IsTrue (is_version v)) where
    -- a row that is not there could only be put, and then it would be there
    none_put : (new : Option Bytes) → get b (row_key side k v subkey) ≡ changed None new → get b (row_key side k v subkey) ≡ None
    none_put None e = e
    none_put (Some x) e =
        let there = get-placed c b (row_key side k v subkey) (Some x) e in
        let none = after_below.rows k key side v subkey above fits in
        absurd (cc)

    -- it is not there
    by_guard : (g : Bool) (new : Option Bytes) → get b (row_key side k v subkey) ≡ cond g (changed (get c (row_key side k v subkey)) new) None → get b (row_key side k v subkey) ≡ None
    by_guard true new e = none_put new (e ∙ ap (λ o. changed o new) (below.rows k key side v subkey above fits))
    by_guard false new e = e

    -- at a touched key
    by_leaves : (o : Option Entry) → LeavesEntry c t fresh m d b k o → get b (row_key side k v subkey) ≡ None
    by_leaves None l = l.rows side v subkey fits
    by_leaves (Some e) l =
        by_guard (has_life e.value && v == (life_after c t fresh m d k e.value).version) (row_of e.value (life_after c t fresh m d k e.value).head side subkey) (l.rows side v subkey fits)

    -- and at any other
    by_plan : KeyPlan c t fresh m d b k → get b (row_key side k v subkey) ≡ None
    by_plan (inl p) = p.1.rows side v subkey fits key
    by_plan (inr p) = by_leaves (get (apply_alive m t d).1 k) p.1

  -- writes no row from there on
  step_none : HasNoneFrom b bound
  step_none k key side v subkey above fits = by_plan k key side v subkey above fits (step.keys k)

-- what neither of two batches has the joined one has not
join_none : (b later : Batch) (raw : Bytes) → get b raw ≡ None → get later raw ≡ None → get (joined b later) raw ≡ None
join_none b later raw none none_too = get-joined b later raw ∙ ap (λ (o : Option (Option Bytes)). over (option_map (λ x. Some x) o) (get b raw)) none_too ∙ none

-- nor do parts write one
parts_none : (c : Rows) (bound t base i : ℕ) (m : RedisMap) (ds : List Command) (b : Batch) (ps : List PlannedPart) → version base (i + length ds) ≤ bound → HasVersionsBelow (after c b) bound
    → AreParts (after c b) t base i m ds ps → HasNoneFrom b bound → HasNoneFrom (join_parts b ps) bound
parts_none c bound t base i m [] b [] h below are none = none
parts_none c bound t base i m [] b (p ∷ ps) h below are none = absurd are
parts_none c bound t base i m (d ∷ ds) b [] h below are none = absurd are
parts_none c bound t base i m (d ∷ ds) b (p ∷ ps) h below are none =
    let next = after-joined c b p.batch in
    parts_none c bound t base (i + 1) (apply_alive m t d).1 ds (joined b p.batch) ps (omega arith)
    (subst (λ (e : Rows). HasVersionsBelow e bound) (sym next) (step_below (after c b) bound below t (version base i) m d p.batch p.reply (omega arith) are.0.step))
    (subst (λ (e : Rows). AreParts e t base (i + 1) (apply_alive m t d).1 ds ps) (sym next) are.1)
    (λ k key side v subkey above fits.
    join_none b p.batch (row_key side k v subkey) (none k key side v subkey above fits)
    (step_none (after c b) bound t (version base i) m d p.batch p.reply below (omega arith) are.0.step k key side v subkey above fits))

-- a plan writes no row of a version that the next sequence issues
pub plan_has_none_from : (c : Rows) (t base : ℕ) (m : RedisMap) (ds : Cmds) (b : Batch) (answer : Reply) (until : Option ℕ) → AreAsked ds → HasVersionsBelow c (version base 0)
    → IsPlanFor c t base m ds b answer until → HasNoneFrom b (version (base + 1) 0)
plan_has_none_from c t base m (One d) b answer until asked below plan =
    step_none c (version (base + 1) 0) t (version base 0) m d b answer (below_more c (version base 0) (version (base + 1) 0) (omega arith) below) (omega arith) plan.step
plan_has_none_from c t base m (Many ds) b answer until asked below plan =
    let start = after-empty c in
    let few = asked.0 in
    subst (λ (n : Batch). HasNoneFrom n (version (base + 1) 0)) (sym plan.batch)
    (parts_none c (version (base + 1) 0) t base 0 m ds empty plan.parts (omega arith)
    (subst (λ (e : Rows). HasVersionsBelow e (version (base + 1) 0)) (sym start) (below_more c (version base 0) (version (base + 1) 0) (omega arith) below))
    (subst (λ (e : Rows). AreParts e t base 0 m ds plan.parts) (sym start) plan.plans)
    (λ k key side v subkey above fits. get-empty (row_key side k v subkey)))

module _ (c : Rows) (t base sequence : ℕ) (m : RedisMap) (ds : Cmds) (b : Batch) (answer : Reply) (until : Option ℕ) (is : IsCommitted c t base sequence m ds b answer until) where
  -- the rows after it are issued up to the sequence behind its base
  after_issued : IsIssued (after c b) (base + 1)
  after_issued = plan_issues_rows c t base m ds b answer until is.asked is.means is.issued is.plan

  -- so the version in a raw key of the batch is
  raw_issued : (side : Side) (k : Bytes) (v : ℕ) (subkey : Bytes) (row : Option Bytes) → IsTrue (is_key k) → IsTrue (is_version v) → get b (row_key side k v subkey) ≡ Some row → v < version sequence 0
  raw_issued side k v subkey row key fits there = by_test (nat_le (version (base + 1) 0) v) refl
    where
      by_test : (test : Bool) → nat_le (version (base + 1) 0) v ≡ test → v < version sequence 0
      by_test true e =
          let above : version (base + 1) 0 ≤ v = grind (arith, nat_tests) in
          let none = plan_has_none_from c t base m ds b answer until is.asked is.issued.versions is.plan k key side v subkey above fits in
          absurd (cc)
      by_test false e =
          let low : v < version (base + 1) 0 = grind (arith, nat_tests) in
          let later = is.later in
          omega (arith, low, later)

  -- and the metadata that it puts
  meta_issued : (k : Bytes) (row : Option Bytes) → get b (meta_key k) ≡ Some row → IfSome (option_and_then read_meta row) (IsIssuedMeta sequence)
  unfolding meta_at
  meta_issued k None there = tt
  meta_issued k (Some text) there =
      let later = is.later in
      let put : get (after c b) (meta_key k) ≡ Some text = get-placed c b (meta_key k) (Some text) there in
      later_meta (base + 1) sequence (read_meta text) (omega arith) (has_both (base + 1) (read_meta text)
      (subst (λ (o : Option Bytes). IfSome (option_and_then version_of (option_and_then read_meta o)) (λ v. v < version (base + 1) 0)) put (after_issued.versions.meta k))
      (subst (λ (o : Option Bytes). IfSome (option_and_then read_meta o) (IsNearMiddle ((base + 1) * 2 ^ 20))) put (after_issued.lists.meta k)))

  -- each row of the batch is issued by the sequence under which it is committed
  pub committed_rows_issued : AreIssued (batch_rows sequence b)
  committed_rows_issued row there =
      let it = batch_row_is sequence b row there in
      record {
        raw = λ side k v subkey key fits at. subst (λ (n : ℕ). v < version n 0) (sym it.0) (raw_issued side k v subkey row.value key fits (ap (get b) (sym at) ∙ it.1));
        meta = λ k at. subst (λ (n : ℕ). IfSome (option_and_then read_meta row.value) (IsIssuedMeta n)) (sym it.0) (meta_issued k row.value (ap (get b) (sym at) ∙ it.1));
      }
