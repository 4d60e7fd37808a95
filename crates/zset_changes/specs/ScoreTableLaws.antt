-- Laws on what stands in `ScoreTables.antt`: tracks lead from the sorted set that is there to the one that a command comes to.
use Rattle.std.proofs.Common.{◌≡◌, ℕ, zero, suc, ◌+◌, ◌<◌, ◌≤◌, length, take, get_or, refl, sym, ap, subst, ◌∙◌, Bool, true, false, cond, List, [], ◌∷◌, ◌++◌, arith}
use Rattle.std.proofs.Math.Seq.{take-length}
use Rattle.std.proofs.lemmas.List.{take_more}
use Rattle.std.proofs.lemmas.List.Sums.{fold-append}
use Rattle.std.specs.Prelude.{Option, Some, None, IfSome, is_some, not, ◌&&◌, ◌||◌, fold, zip, ℤ}
use Rattle.std.specs.declared.cmp.Ordering.{Ordering}
use Rattle.std.specs.declared.cmp.Ordering.TheVariants.{Less, Equal, Greater}
use Rattle.std.specs.Ordering.{is_eq, match_ordering, int_eq}
use Rattle.std.specs.BTreeMap.{insert_entry}
use Rattle.std.specs.List.{AllByRecursion}
use Rattle.std.specs.List.Sorted.{IsStrictlySortedBy}
use Rattle.std.specs.Map.{keys_of}
use Rattle.kv_base.specs.Map.{Bytes, Map, byte_cmp, exact, same, same_is, same_itself, get, insert, keep, kept, get-insert, get-keep, same_map}
use Rattle.kv_base.specs.InversionLaws.{same_some}
use Rattle.redis_model.specs.declared.command.When.{When}
use Rattle.redis_model.specs.Limits.{IsWholeScore}
use Rattle.redis_model.specs.Strings.{allowed}
use Rattle.redis_model.specs.Keys.{among}
use Rattle.redis_model.specs.SortedSets.{Scored, ZaddTally, score_set, all_set}
use Rattle.lives_model.specs.Rows.{Rows}
use Rattle.lives_model.specs.AskedKeyLaws.{name_is_key}
use Rattle.plan_base.specs.declared.life.LifeSight.{LifeSight}
use Rattle.zset_plans.specs.declared.scoring.Scoring.{Scoring}
use Rattle.zset_plans.specs.Scorings.{scored_as, rescored, all_rescored, IsScoring, scored_members, AreScorings, same_score}
use Rattle.zset_plans.specs.ScoringLaws.{get-scored}
use Rattle.zset_changes.specs.declared.table.Track.{Track}
use Rattle.zset_changes.specs.declared.add.Tally.{Tally}
use Rattle.zset_changes.specs.declared.add.ScoresAdded.{ScoresAdded}
use Rattle.zset_changes.specs.SeenScores.{member_score, TellsScores}
use Rattle.zset_changes.specs.ScoreTables.{CanStand, AllStand, Tracked, tracks_in, scoring_of, scorings_of, IsScoreTable, track_of, score_now, AreBefore, Leads, track_or, track_in, sets_score, AddsScore, TalliesTo, SetsScores, rest_of, TakesMember, Removes}

-- ---- one track more

stand_more : (es : List Tracked) (x : Bytes) (t : Track) → AllStand (scorings_of es) → CanStand (scoring_of (x, t)) → AllStand (scorings_of (insert_entry byte_cmp es x t))
stand_more [] x t all one = (one, tt)
stand_more (e ∷ es) x t all one = by_order (byte_cmp x e.0) refl (stand_more es x t all.1 one)
  where
    by_order : (o : Ordering) → byte_cmp x e.0 ≡ o → AllStand (scorings_of (insert_entry byte_cmp es x t)) → AllStand (scorings_of (match_ordering o ((x, t) ∷ e ∷ es) ((e.0, t) ∷ es) (e ∷ insert_entry byte_cmp es x t)))
    by_order Less is rest = (one, all)
    by_order Equal is rest = (subst (λ (y : Bytes). CanStand (scoring_of (y, t))) (exact x e.0 is) one, all.1)
    by_order Greater is rest = (all.0, rest)

-- a table stays one
pub table_more : (es next : List Tracked) (x : Bytes) (t : Track) → IsScoreTable es → CanStand (scoring_of (x, t)) → next ≡ insert_entry byte_cmp es x t → IsStrictlySortedBy byte_cmp (keys_of next) → IsScoreTable next
table_more es next x t table one is ordered = record {
  ordered = ordered;
  stand = subst (λ (ts : List Tracked). AllStand (scorings_of ts)) (sym is) (stand_more es x t table.stand one);
}

before_more : (z : Map ℤ) (es : List Tracked) (x : Bytes) (t : Track) → AreBefore z es → t.before ≡ get z x → AreBefore z (insert_entry byte_cmp es x t)
before_more z [] x t all one = (one, tt)
before_more z (e ∷ es) x t all one = by_order (byte_cmp x e.0) refl (before_more z es x t all.1 one)
  where
    by_order : (o : Ordering) → byte_cmp x e.0 ≡ o → AreBefore z (insert_entry byte_cmp es x t) → AreBefore z (match_ordering o ((x, t) ∷ e ∷ es) ((e.0, t) ∷ es) (e ∷ insert_entry byte_cmp es x t))
    by_order Less is rest = (one, all)
    by_order Equal is rest = (one ∙ ap (get z) (exact x e.0 is), all.1)
    by_order Greater is rest = (all.0, rest)

track_more : (es : List Tracked) (x : Bytes) (t : Track) (q : Bytes) → track_of (insert_entry byte_cmp es x t) q ≡ cond (same q x) (Some t) (track_of es q)
track_more [] x t q = refl
track_more (e ∷ es) x t q = by_order (byte_cmp x e.0) refl (track_more es x t q)
  where
    never : byte_cmp x e.0 ≡ Greater → same q e.0 ≡ true → same q x ≡ true → ⊥
    never is here there =
        let alike : x ≡ e.0 = sym (same_is q x there) ∙ same_is q e.0 here in
        let yes : same x e.0 ≡ true = subst (λ (y : Bytes). same x y ≡ true) alike (same_itself x) in
        let no : same x e.0 ≡ false = ap is_eq is in
        cc

    by_tests : (s r : Bool) → (s ≡ true → r ≡ true → ⊥) → cond s (Some e.1) (cond r (Some t) (track_of es q)) ≡ cond r (Some t) (cond s (Some e.1) (track_of es q))
    by_tests true true apart = absurd (apart refl refl)
    by_tests true false apart = refl
    by_tests false r apart = refl

    equal : (s : Bool) → cond s (Some t) (track_of es q) ≡ cond s (Some t) (cond s (Some e.1) (track_of es q))
    equal true = refl
    equal false = refl

    by_order : (o : Ordering) → byte_cmp x e.0 ≡ o → track_of (insert_entry byte_cmp es x t) q ≡ cond (same q x) (Some t) (track_of es q)
        → track_of (match_ordering o ((x, t) ∷ e ∷ es) ((e.0, t) ∷ es) (e ∷ insert_entry byte_cmp es x t)) q ≡ cond (same q x) (Some t) (cond (same q e.0) (Some e.1) (track_of es q))
    by_order Less is rest = refl
    by_order Equal is rest = equal (same q e.0) ∙ ap (λ (y : Bytes). cond (same q y) (Some t) (cond (same q e.0) (Some e.1) (track_of es q))) (sym (exact x e.0 is))
    by_order Greater is rest =
        ap (cond (same q e.0) (Some e.1)) rest
        ∙ by_tests (same q e.0) (same q x) (never is)

-- ---- the track of a member

tracked_before : (z : Map ℤ) (es : List Tracked) (x : Bytes) (t : Track) → AreBefore z es → track_of es x ≡ Some t → t.before ≡ get z x
tracked_before z [] x t all is = absurd (let no : ◌≡◌ {A = Option Track} None (Some t) = is in cc)
tracked_before z (e ∷ es) x t all is = by_test (same x e.0) refl is (tracked_before z es x t all.1)
  where
    by_test : (s : Bool) → same x e.0 ≡ s → cond s (Some e.1) (track_of es x) ≡ Some t → (track_of es x ≡ Some t → t.before ≡ get z x) → t.before ≡ get z x
    by_test true here this rest = ap (λ (y : Track). y.before) (sym (same_some e.1 t this)) ∙ all.0 ∙ ap (get z) (sym (same_is x e.0 here))
    by_test false other this rest = rest this

-- and it can stand
tracked_stands : (es : List Tracked) (x : Bytes) (t : Track) → AllStand (scorings_of es) → track_of es x ≡ Some t → IfSome t.before IsWholeScore
tracked_stands [] x t all is = absurd (let no : ◌≡◌ {A = Option Track} None (Some t) = is in cc)
tracked_stands (e ∷ es) x t all is = by_test (same x e.0) is (tracked_stands es x t all.1)
  where
    by_test : (s : Bool) → cond s (Some e.1) (track_of es x) ≡ Some t → (track_of es x ≡ Some t → IfSome t.before IsWholeScore) → IfSome t.before IsWholeScore
    by_test true this rest = subst (λ (y : Track). IfSome y.before IsWholeScore) (same_some e.1 t this) all.0.before
    by_test false this rest = rest this

pub track_stands : (es : List Tracked) (x : Bytes) (t : Track) → IsScoreTable es → Some t ≡ track_of es x → IfSome t.before IsWholeScore
track_stands es x t table is = tracked_stands es x t table.stand (sym is)

-- it begins with the score that the member has
track_begins : (z now : Map ℤ) (es : List Tracked) (x : Bytes) (score : Option ℤ) → Leads z now es → score ≡ get z x → (track_or (track_of es x) score).before ≡ get z x
track_begins z now es x score leads is = by_track (track_of es x) refl
  where
    by_track : (o : Option Track) → track_of es x ≡ o → (track_or o score).before ≡ get z x
    by_track None e = is
    by_track (Some t) e = tracked_before z es x t leads.before e

-- and has come to the score that it has so far
track_is : (z now : Map ℤ) (es : List Tracked) (x : Bytes) (score : Option ℤ) → Leads z now es → score ≡ get z x → (track_or (track_of es x) score).now ≡ get now x
track_is z now es x score leads is = by_track (track_of es x) ∙ ap (score_now (track_of es x)) is ∙ sym (leads.scores x)
  where
    by_track : (o : Option Track) → (track_or o score).now ≡ score_now o score
    by_track None = refl
    by_track (Some t) = refl

-- ---- what tracks lead to

-- no tracks lead nowhere else
pub leads_nowhere : (z : Map ℤ) (es : List Tracked) → es ≡ [] → Leads z z es
leads_nowhere z es is = subst (Leads z z) (sym is) (record { before = tt; scores = λ x. refl })

-- one track more leads to another score of its member
leads_more : (z now : Map ℤ) (es : List Tracked) (x : Bytes) (t : Track) → Leads z now es → t.before ≡ get z x → Leads z (scored_as now x t.now) (insert_entry byte_cmp es x t)
leads_more z now es x t leads is = record {
  before = before_more z es x t leads.before is;
  scores = λ q. get-scored now x t.now q ∙ by_test q (same q x) ∙ ap (λ (o : Option Track). score_now o (get z q)) (sym (track_more es x t q));
}
  where
    by_test : (q : Bytes) (s : Bool) → cond s t.now (get now q) ≡ score_now (cond s (Some t) (track_of es q)) (get z q)
    by_test q true = refl
    by_test q false = leads.scores q

-- members that stand once
none_among : (k : Bytes) (es : List Tracked) → AllByRecursion (λ y. byte_cmp k y ≡ Less) (keys_of es) → among (scored_members (scorings_of es)) k ≡ false
none_among k [] h = refl
none_among k (e ∷ es) h = λ i. is_eq (h.0 i) || none_among k es h.1 i

no_track : (k : Bytes) (es : List Tracked) → AllByRecursion (λ y. byte_cmp k y ≡ Less) (keys_of es) → track_of es k ≡ None
no_track k [] h = refl
no_track k (e ∷ es) h = λ i. cond (is_eq (h.0 i)) (Some e.1) (no_track k es h.1 i)

are_scorings : (z : Map ℤ) (es : List Tracked) → IsStrictlySortedBy byte_cmp (keys_of es) → AllStand (scorings_of es) → AreBefore z es → AreScorings z (scorings_of es)
unfolding IsStrictlySortedBy
are_scorings z [] ordered stand before = tt
are_scorings z (e ∷ es) ordered stand before = (
  record { before = before.0; key = name_is_key e.0 stand.0.name; whole = stand.0.after },
  none_among e.0 es ordered.0,
  are_scorings z es ordered.1 stand.1 before.1,
)

get-tracked : (now : Map ℤ) (es : List Tracked) (x : Bytes) → IsStrictlySortedBy byte_cmp (keys_of es) → get (all_rescored now (scorings_of es)) x ≡ score_now (track_of es x) (get now x)
unfolding IsStrictlySortedBy
get-tracked now [] x ordered = refl
get-tracked now (e ∷ es) x ordered =
    get-tracked (scored_as now e.0 e.1.now) es x ordered.1
    ∙ ap (score_now (track_of es x)) (get-scored now e.0 e.1.now x)
    ∙ by_test (same x e.0) refl
  where
    by_test : (s : Bool) → same x e.0 ≡ s → score_now (track_of es x) (cond s e.1.now (get now x)) ≡ score_now (cond s (Some e.1) (track_of es x)) (get now x)
    by_test true is = ap (λ (o : Option Track). score_now o e.1.now) (ap (track_of es) (same_is x e.0 is) ∙ no_track e.0 es ordered.0)
    by_test false is = refl

-- the scorings of a table
pub table_scorings : (z now : Map ℤ) (es : List Tracked) (ss : List Scoring) → IsScoreTable es → Leads z now es → ss ≡ scorings_of es → AreScorings z ss × (all_rescored z ss ≡ now)
table_scorings z now es ss table leads is =
    subst (λ (ts : List Scoring). AreScorings z ts × (all_rescored z ts ≡ now)) (sym is)
    (are_scorings z es table.ordered table.stand leads.before, same_map _ now (λ x. get-tracked z es x table.ordered ∙ sym (leads.scores x)))

-- ---- ZADD

-- what one pair comes to
set_scores : (w : When) (n : ZaddTally) (x : Bytes) (s : ℤ) (o : Option ℤ) → (score_set w n (x, s) o).scores ≡ cond (sets_score w o s) (insert n.scores x s) n.scores
set_scores w n x s None = by_test (allowed w false)
  where
    by_test : (b : Bool) → (cond b (record { scores = insert n.scores x s; added = n.added + 1; changed = n.changed }) n).scores ≡ cond (b && true) (insert n.scores x s) n.scores
    by_test true = refl
    by_test false = refl
set_scores w n x s (Some old) = by_test (allowed w true && not (int_eq old s))
  where
    by_test : (b : Bool) → (cond b (record { scores = insert n.scores x s; added = n.added; changed = n.changed + 1 }) n).scores ≡ cond b (insert n.scores x s) n.scores
    by_test true = refl
    by_test false = refl

set_added : (w : When) (n : ZaddTally) (x : Bytes) (s : ℤ) (o : Option ℤ) → (score_set w n (x, s) o).added ≡ n.added + cond (sets_score w o s && not (is_some o)) 1 0
set_added w n x s None = by_test (allowed w false)
  where
    by_test : (b : Bool) → (cond b (record { scores = insert n.scores x s; added = n.added + 1; changed = n.changed }) n).added ≡ n.added + cond ((b && true) && true) 1 0
    by_test true = refl
    by_test false = omega arith
set_added w n x s (Some old) = by_test (allowed w true && not (int_eq old s))
  where
    by_test : (b : Bool) → (cond b (record { scores = insert n.scores x s; added = n.added; changed = n.changed + 1 }) n).added ≡ n.added + cond (b && false) 1 0
    by_test true = omega arith
    by_test false = omega arith

set_changed : (w : When) (n : ZaddTally) (x : Bytes) (s : ℤ) (o : Option ℤ) → (score_set w n (x, s) o).changed ≡ n.changed + cond (sets_score w o s && is_some o) 1 0
set_changed w n x s None = by_test (allowed w false)
  where
    by_test : (b : Bool) → (cond b (record { scores = insert n.scores x s; added = n.added + 1; changed = n.changed }) n).changed ≡ n.changed + cond ((b && true) && false) 1 0
    by_test true = omega arith
    by_test false = omega arith
set_changed w n x s (Some old) = by_test (allowed w true && not (int_eq old s))
  where
    by_test : (b : Bool) → (cond b (record { scores = insert n.scores x s; added = n.added; changed = n.changed + 1 }) n).changed ≡ n.changed + cond (b && true) 1 0
    by_test true = refl
    by_test false = omega arith

set_more : (w : When) (z : Map ℤ) (pairs : List Scored) (x : Bytes) (s : ℤ) → all_set w z (pairs ++ (x, s) ∷ []) ≡ score_set w (all_set w z pairs) (x, s) (get (all_set w z pairs).scores x)
set_more w z pairs x s = fold-append (λ n e. score_set w n e (get n.scores e.0)) (record { scores = z; added = 0; changed = 0 }) pairs ((x, s) ∷ [])

-- none so far
pub tallied_none : (w : When) (z : Map ℤ) (tally : Tally) → tracks_in tally.table ≡ [] → tally.added ≡ 0 → tally.changed ≡ 0 → TalliesTo (all_set w z []) z tally
tallied_none w z tally none added changed = record { leads = leads_nowhere z (tracks_in tally.table) none; added = added; changed = changed }

-- and one pair more
tallied_more : (w : When) (z : Map ℤ) (n : ZaddTally) (score : Option ℤ) (x : Bytes) (s : ℤ) (old new : Tally) → score ≡ get z x
    → TalliesTo n z old → AddsScore w x s (track_or (track_of (tracks_in old.table) x) score) old new → TalliesTo (score_set w n (x, s) (get n.scores x)) z new
tallied_more w z n score x s old new is so_far one = record {
  leads =
      subst (λ (m : Map ℤ). Leads z m (tracks_in new.table)) (sym (set_scores w n x s (get n.scores x)))
      (subst (Leads z (cond (sets_score w (get n.scores x) s) (insert n.scores x s) n.scores)) (sym one.tracks)
      (subst (λ (o : Option ℤ). Leads z (cond (sets_score w o s) (insert n.scores x s) n.scores) (cond (sets_score w t.now s) (insert_entry byte_cmp (tracks_in old.table) x (record { before = t.before; now = Some s })) (tracks_in old.table))) now_is
      (by_set (sets_score w t.now s))));
  added = one.added ∙ (λ i. so_far.added i + cond (sets_score w (now_is i) s && not (is_some (now_is i))) 1 0) ∙ sym (set_added w n x s (get n.scores x));
  changed = one.changed ∙ (λ i. so_far.changed i + cond (sets_score w (now_is i) s && is_some (now_is i)) 1 0) ∙ sym (set_changed w n x s (get n.scores x));
}
  where
    t : Track
    t = track_or (track_of (tracks_in old.table) x) score

    now_is : t.now ≡ get n.scores x
    now_is = track_is z n.scores (tracks_in old.table) x score so_far.leads is

    by_set : (b : Bool) → Leads z (cond b (insert n.scores x s) n.scores) (cond b (insert_entry byte_cmp (tracks_in old.table) x (record { before = t.before; now = Some s })) (tracks_in old.table))
    by_set true = leads_more z n.scores (tracks_in old.table) x (record { before = t.before; now = Some s }) so_far.leads (track_begins z n.scores (tracks_in old.table) x score so_far.leads is)
    by_set false = so_far.leads

-- the pairs up to a place
abbrev pub pairs_to : List ℤ → List Bytes → ℕ → List Scored
pairs_to ss xs i = zip (take i xs) (take i ss)

pairs_more : (ss : List ℤ) (xs : List Bytes) (i : ℕ) (d : ℤ) (e : Bytes) → i < length xs → i < length ss → pairs_to ss xs (suc i) ≡ pairs_to ss xs i ++ (get_or xs i e, get_or ss i d) ∷ []
pairs_more [] xs i d e low few = absurd (omega (arith, few))
pairs_more (s ∷ ss) [] i d e low few = absurd (omega (arith, low))
pairs_more (s ∷ ss) (x ∷ xs) zero d e low few = refl
pairs_more (s ∷ ss) (x ∷ xs) (suc i) d e low few = ap (λ ps. (x, s) ∷ ps) (pairs_more ss xs i d e (omega arith) (omega arith))

pub tallied_next : (rows now : Option Rows) (k : Bytes) (found : Option LifeSight) (w : When) (ss : List ℤ) (xs : List Bytes) (i : ℕ) (x : Bytes) (s : ℤ) (d : ℤ) (e : Bytes) (old new : Tally)
    → i < length xs → length ss ≡ length xs → x ≡ get_or xs i e → s ≡ get_or ss i d → now ≡ rows
    → IfSome rows (λ c. (z : Map ℤ) → TellsScores c k found z → TalliesTo (all_set w z (pairs_to ss xs i)) z old)
    → IfSome now (λ c. AddsScore w x s (track_in c k found (tracks_in old.table) x) old new)
    → IfSome rows (λ c. (z : Map ℤ) → TellsScores c k found z → TalliesTo (all_set w z (pairs_to ss xs (i + 1))) z new)
tallied_next None now k found w ss xs i x s d e old new low count member score same so_far one = tt
tallied_next (Some c) now k found w ss xs i x s d e old new low count member score same so_far one = λ z tells.
    let next : i + 1 ≡ suc i = omega arith in
    let here : AddsScore w x s (track_in c k found (tracks_in old.table) x) old new = subst (λ (o : Option Rows). IfSome o (λ c. AddsScore w x s (track_in c k found (tracks_in old.table) x) old new)) same one in
    subst (λ (n : ZaddTally). TalliesTo n z new)
    (sym (ap (all_set w z) (ap (pairs_to ss xs) next ∙ pairs_more ss xs i d e low (omega (arith, low, count)) ∙ (λ j. pairs_to ss xs i ++ (sym member j, sym score j) ∷ [])) ∙ set_more w z (pairs_to ss xs i) x s))
    (tallied_more w z (all_set w z (pairs_to ss xs i)) (member_score c k found x) x s old new (tells.told x) (so_far z tells) here)

-- all pairs
pub all_tallied : (rows : Option Rows) (k : Bytes) (found : Option LifeSight) (w : When) (ss : List ℤ) (xs : List Bytes) (i : ℕ) (tally : Tally) (set : ScoresAdded)
    → i ≤ length xs → length xs ≤ i → length ss ≡ length xs → IsScoreTable (tracks_in tally.table)
    → IfSome rows (λ c. (z : Map ℤ) → TellsScores c k found z → TalliesTo (all_set w z (pairs_to ss xs i)) z tally)
    → set.scorings.items ≡ scorings_of (tracks_in tally.table) → set.added ≡ tally.added → set.changed ≡ tally.changed
    → IfSome rows (λ c. (z : Map ℤ) → TellsScores c k found z → SetsScores w z (zip xs ss) set)
all_tallied None k found w ss xs i tally set low high count table so_far are added changed = tt
all_tallied (Some c) k found w ss xs i tally set low high count table so_far are added changed = λ z tells.
    let whole : pairs_to ss xs i ≡ zip xs ss = (λ j. zip (take (end j) xs) (take (end_too j) ss)) ∙ (λ j. zip (take-length xs j) (take-length ss j)) in
    let n : TalliesTo (all_set w z (zip xs ss)) z tally = subst (λ (ps : List Scored). TalliesTo (all_set w z ps) z tally) whole (so_far z tells) in
    let done = table_scorings z (all_set w z (zip xs ss)).scores (tracks_in tally.table) set.scorings.items table n.leads are in
    record { are = done.0; leave = done.1; added = added ∙ n.added; changed = changed ∙ n.changed }
  where
    end : i ≡ length xs
    end = omega arith

    end_too : i ≡ length ss
    end_too = omega (arith, count)

-- ---- ZREM

rest_none : (z : Map ℤ) → rest_of z [] ≡ z
rest_none z = same_map _ z (λ q. get-keep (λ x _. not (among [] x)) z q ∙ all_kept (get z q))
  where
    all_kept : (o : Option ℤ) → kept (λ _. true) o ≡ o
    all_kept None = refl
    all_kept (Some s) = refl

-- none so far
pub none_removed : (z : Map ℤ) (es : List Tracked) → es ≡ [] → Leads z (rest_of z []) es
none_removed z es is = subst (λ (m : Map ℤ). Leads z m es) (sym (rest_none z)) (leads_nowhere z es is)

pub no_member_removed : (rows : Option Rows) (k : Bytes) (found : Option LifeSight) (es : List Tracked) → es ≡ [] → IfSome rows (λ c. (z : Map ℤ) → TellsScores c k found z → Leads z (rest_of z []) es)
no_member_removed None k found es is = tt
no_member_removed (Some c) k found es is = λ z tells. none_removed z es is

-- without one member more
among_more : (xs : List Bytes) (x q : Bytes) → among (xs ++ x ∷ []) q ≡ (among xs q || same q x)
among_more [] x q = by_test (same q x)
  where
    by_test : (b : Bool) → (b || false) ≡ (false || b)
    by_test true = refl
    by_test false = refl
among_more (y ∷ xs) x q = ap (λ b. same q y || b) (among_more xs x q) ∙ by_tests (same q y) (among xs q) (same q x)
  where
    by_tests : (a b c : Bool) → (a || (b || c)) ≡ ((a || b) || c)
    by_tests true b c = refl
    by_tests false b c = refl

rest_more : (z : Map ℤ) (xs : List Bytes) (x q : Bytes) → get (rest_of z (xs ++ x ∷ [])) q ≡ cond (same q x) None (get (rest_of z xs) q)
rest_more z xs x q =
    get-keep (λ y _. not (among (xs ++ x ∷ []) y)) z q
    ∙ ap (λ b. kept (λ _. not b) (get z q)) (among_more xs x q)
    ∙ by_tests (among xs q) (same q x) (get z q)
    ∙ ap (cond (same q x) None) (sym (get-keep (λ y _. not (among xs y)) z q))
  where
    by_tests : (a b : Bool) (o : Option ℤ) → kept (λ _. not (a || b)) o ≡ cond b None (kept (λ _. not a) o)
    by_tests true true None = refl
    by_tests true true (Some s) = refl
    by_tests true false o = refl
    by_tests false true None = refl
    by_tests false true (Some s) = refl
    by_tests false false o = refl

removed_more : (z : Map ℤ) (xs : List Bytes) (score : Option ℤ) (x : Bytes) (old new : List Tracked) → score ≡ get z x → Leads z (rest_of z xs) old → TakesMember x (track_or (track_of old x) score) old new → Leads z (rest_of z (xs ++ x ∷ [])) new
removed_more z xs score x old new is so_far one =
    subst (λ (m : Map ℤ). Leads z m new) (sym rest_is)
    (subst (Leads z (scored_as (rest_of z xs) x None)) (sym one) (by_there (track_or (track_of old x) score).now refl))
  where
    t : Track
    t = track_or (track_of old x) score

    rest_is : rest_of z (xs ++ x ∷ []) ≡ scored_as (rest_of z xs) x None
    rest_is = same_map _ _ (λ q. rest_more z xs x q ∙ sym (get-scored (rest_of z xs) x None q))

    now_is : t.now ≡ get (rest_of z xs) x
    now_is = track_is z (rest_of z xs) old x score so_far is

    by_there : (o : Option ℤ) → t.now ≡ o → Leads z (scored_as (rest_of z xs) x None) (cond (is_some o) (insert_entry byte_cmp old x (record { before = t.before; now = None })) old)
    by_there (Some s) e = leads_more z (rest_of z xs) old x (record { before = t.before; now = None }) so_far (track_begins z (rest_of z xs) old x score so_far is)
    by_there None e = subst (λ (m : Map ℤ). Leads z m old) (same_map _ _ (λ q. by_test q (same q x) refl ∙ sym (get-scored (rest_of z xs) x None q))) so_far
      where
        by_test : (q : Bytes) (b : Bool) → same q x ≡ b → get (rest_of z xs) q ≡ cond b None (get (rest_of z xs) q)
        by_test q true here = ap (get (rest_of z xs)) (same_is q x here) ∙ sym now_is ∙ e
        by_test q false other = refl

pub removed_next : (rows now : Option Rows) (k : Bytes) (found : Option LifeSight) (xs : List Bytes) (i : ℕ) (x e : Bytes) (old new : List Tracked)
    → i < length xs → x ≡ get_or xs i e → now ≡ rows
    → IfSome rows (λ c. (z : Map ℤ) → TellsScores c k found z → Leads z (rest_of z (take i xs)) old)
    → IfSome now (λ c. TakesMember x (track_in c k found old x) old new)
    → IfSome rows (λ c. (z : Map ℤ) → TellsScores c k found z → Leads z (rest_of z (take (i + 1) xs)) new)
removed_next None now k found xs i x e old new low member same so_far one = tt
removed_next (Some c) now k found xs i x e old new low member same so_far one = λ z tells.
    let here : TakesMember x (track_in c k found old x) old new = subst (λ (o : Option Rows). IfSome o (λ c. TakesMember x (track_in c k found old x) old new)) same one in
    subst (λ (ys : List Bytes). Leads z (rest_of z ys) new)
    (sym (take_more xs i e low ∙ ap (λ y. take i xs ++ y ∷ []) (sym member)))
    (removed_more z (take i xs) (member_score c k found x) x old new (tells.told x) (so_far z tells) here)

-- all members
pub all_removed : (rows : Option Rows) (k : Bytes) (found : Option LifeSight) (xs : List Bytes) (i : ℕ) (es : List Tracked) (ss : List Scoring)
    → i ≤ length xs → length xs ≤ i → IsScoreTable es
    → IfSome rows (λ c. (z : Map ℤ) → TellsScores c k found z → Leads z (rest_of z (take i xs)) es)
    → ss ≡ scorings_of es
    → IfSome rows (λ c. (z : Map ℤ) → TellsScores c k found z → Removes z xs ss)
all_removed None k found xs i es ss low high table so_far are = tt
all_removed (Some c) k found xs i es ss low high table so_far are = λ z tells.
    let end : i ≡ length xs = omega arith in
    let whole : take i xs ≡ xs = ap (λ n. take n xs) end ∙ take-length xs in
    let leads : Leads z (rest_of z xs) es = subst (λ (ys : List Bytes). Leads z (rest_of z ys) es) whole (so_far z tells) in
    let done = table_scorings z (rest_of z xs) es ss table leads are in
    record { are = done.0; leave = done.1 }
