-- The members that go by rank or by score are those that the command comes to, and a plan that takes them away carries it out.
use Rattle.std.proofs.Common.{◌≡◌, ℕ, ◌-◌, ◌<◌, ◌≤◌, refl, sym, ap, subst, ◌∙◌, inl, inr, true, List, ◌++◌, length, map, take, drop, reverse, arith}
use Rattle.std.proofs.lemmas.Bool.{cases_order}
use Rattle.std.proofs.lemmas.List.{length-drop, length-reverse, take-append-drop, take_at, take_all, reverse-append}
use Rattle.std.proofs.lemmas.List.Sums.{length-filter}
use Rattle.std.specs.Prelude.{Option, Some, None, IfSome, ◌⊎◌, filter, ℤ}
use Rattle.kv_base.specs.Map.{Bytes, Map, size}
use Rattle.redis_model.specs.declared.command.Bound.{Bound}
use Rattle.redis_model.specs.declared.reply.Reply.{Reply}
use Rattle.redis_model.specs.Strings.{start_at, end_at, range}
use Rattle.redis_model.specs.SortedSets.{Scored, ranked, told, between}
use Rattle.lives_model.specs.declared.plan.Plan.{Plan}
use Rattle.lives_model.specs.Rows.{Rows}
use Rattle.lives_model.specs.Passing.{passing, is_asked}
use Rattle.plan_base.specs.declared.life.LifeSight.{LifeSight}
use Rattle.life_changes.specs.declared.plan.LifeFound.{LifeFound}
use Rattle.zset_plans.specs.ScorePlans.{FindsScores, IsScoresPlan, scoring_plan}
use Rattle.zset_pages.specs.Ranks.{HasRanks, rank_in, ranks_prefix}
use Rattle.zset_pages.specs.FrontLaws.{none_kept, take_while-all}
use Rattle.zset_pages.specs.RankLaws.{none_ranked, ranks_are}
use Rattle.zset_pages.specs.RankCountLaws.{count-ranked, count-within, length-ranked}
use Rattle.zset_pages.specs.RankRangeLaws.{ranks_lie_between}
use Rattle.zset_changes.specs.ScoreTables.{rest_of}
use Rattle.zset_cmds.specs.declared.take.Taking.{Taking}
use Rattle.zset_cmds.specs.declared.take.Taking.TheVariants.{Lowest, Highest, Places, Within}
use Rattle.zset_cmds.specs.Planned.{PlansFound}
use Rattle.zset_cmds.specs.ScoreLaws.{gone_is}
use Rattle.zset_cmds.specs.Taken.{HasBounds, taking_outcome, members_taken, by_place, ranks_within, ranks_taken, member_names, AreMembers, scored_leaving, TakesMembers}
use Rattle.zset_cmds.specs.MemberLaws.{ranked_members, members-take, members-drop, members-filter, left_without, rest-reverse, rest-filter, members_leave}

-- ---- what is found

-- what is found at a key has the members of the sorted set
ranks_found : (c : Rows) (k : Bytes) (fresh : ℕ) (found : Option LifeSight) (z : Map ℤ) → FindsScores c k fresh found z → HasRanks c k found z
ranks_found c k fresh None z finds = finds.life
ranks_found c k fresh (Some life) z finds = (finds.life.0, record { scores = finds.rows.scores; indices = tt; rows = finds.rows.rows })

-- without bounds all of them are meant
placed_there : (c : Rows) (k : Bytes) (life : LifeSight) (z : Map ℤ) (skip count : ℕ) → HasRanks c k (Some life) z → ranks_within c k life (by_place skip count) ≡ take count (drop skip (ranked z))
placed_there c k life z skip count has =
    ap (λ es. take count (drop skip es))
    (ap (map (rank_in k)) (take_while-all (λ row. true) (passing (is_asked (ranks_prefix k life.version) (ranks_prefix k life.version)) c) (λ row. refl)) ∙ ranks_are c k (Some life) z has)

-- no more lie between bounds than there are
few_within : (low high : Bound) (all : ℕ) (z : Map ℤ) → all ≡ size z → length (filter (between low high) (ranked z)) ≤ all
few_within low high all z is =
    let many = length-filter (between low high) (ranked z) ∙ count-ranked (between low high) z in
    let within = count-within (between low high) z in
    omega (arith, is, many, within)

-- of the members that are found those go that the command takes
taken_there : (c : Rows) (k : Bytes) (taking : Taking) (found : Option LifeSight) (z : Map ℤ) → HasBounds taking → HasRanks c k found z → ranks_taken c k taking found ≡ members_taken taking z
taken_there c k (Lowest n) None z bounds has = sym (ap (take n) (none_ranked z has) ∙ none_kept n 0)
taken_there c k (Highest n) None z bounds has = sym (ap (λ es. take n (drop (size z - n) es)) (none_ranked z has) ∙ none_kept n (size z - n))
taken_there c k (Places a b) None z bounds has = sym (ap (λ es. range es a b) (none_ranked z has) ∙ none_kept (end_at 0 b - start_at 0 a) (start_at 0 a))
taken_there c k (Within low high) None z bounds has = sym (ap (filter (between low high)) (none_ranked z has))
taken_there c k (Lowest n) (Some life) z bounds has = placed_there c k life z 0 n has
taken_there c k (Highest n) (Some life) z bounds has = placed_there c k life z (life.size - n) n has ∙ ap (λ all. take n (drop (all - n) (ranked z))) has.0
taken_there c k (Places a b) (Some life) z bounds has =
    placed_there c k life z (start_at life.size a) (end_at life.size b - start_at life.size a) has
    ∙ ap (λ all. take (end_at all b - start_at all a) (drop (start_at all a) (ranked z))) (has.0 ∙ sym (length-ranked z))
taken_there c k (Within low high) (Some life) z bounds has =
    ap (take life.size) (ranks_lie_between c k life z has low high bounds.0 bounds.1)
    ∙ take_all life.size (filter (between low high) (ranked z)) (few_within low high life.size z has.0)

-- ---- the highest ones

-- the last n of a list, turned round, are the first n of it turned round
last_turned : (n : ℕ) (xs : List Scored) → reverse (take n (drop (length xs - n) xs)) ≡ take n (reverse xs)
last_turned n xs =
    ap reverse (take_all n behind (omega (arith, many)))
    ∙ by_order (cases_order n (length xs))
  where
    behind : List Scored
    behind = drop (length xs - n) xs

    many : length behind ≡ length xs - (length xs - n)
    many = length-drop (length xs - n) xs

    whole : reverse xs ≡ reverse behind ++ reverse (take (length xs - n) xs)
    whole = ap reverse (sym (take-append-drop (length xs - n) xs)) ∙ reverse-append (take (length xs - n) xs) behind

    within : n ≤ length xs → reverse behind ≡ take n (reverse xs)
    within low = sym (ap (take n) whole ∙ take_at (reverse behind) (reverse (take (length xs - n) xs)) n (length-reverse behind ∙ many ∙ omega (arith, low)))

    by_order : (n ≡ length xs) ⊎ ((n < length xs) ⊎ (length xs < n)) → reverse behind ≡ take n (reverse xs)
    by_order (inl e) = within (omega (arith, e))
    by_order (inr (inl l)) = within (omega (arith, l))
    by_order (inr (inr g)) =
        let none : length xs - n ≡ 0 = omega (arith, g) in
        ap (λ m. reverse (drop m xs)) none ∙ sym (take_all n (reverse xs) (omega (arith, g, length-reverse xs)))

highest_turned : (n : ℕ) (z : Map ℤ) → reverse (members_taken (Highest n) z) ≡ take n (reverse (ranked z))
highest_turned n z = ap (λ all. reverse (take n (drop (all - n) (ranked z)))) (sym (length-ranked z)) ∙ last_turned n (ranked z)

-- ---- that they go

-- they are members
are_members : (taking : Taking) (z : Map ℤ) → AreMembers z (members_taken taking z)
are_members (Lowest n) z = members-take z n (ranked z) (ranked_members z)
are_members (Highest n) z = members-take z n (drop (size z - n) (ranked z)) (members-drop z (size z - n) (ranked z) (ranked_members z))
are_members (Places a b) z =
    members-take z (end_at (length (ranked z)) b - start_at (length (ranked z)) a) (drop (start_at (length (ranked z)) a) (ranked z))
    (members-drop z (start_at (length (ranked z)) a) (ranked z) (ranked_members z))
are_members (Within low high) z = members-filter z (between low high) (ranked z) (ranked_members z)

module _ (c : Rows) (k : Bytes) (found : LifeFound) (z : Map ℤ) (there : FindsScores c k found.fresh found.life z) where
  -- the plan of these members, which go, with this answer
  abbrev planned : List Scored → Reply → Plan
  planned es answer = scoring_plan found.moment k found.old found.fresh found.life (map scored_leaving es) answer

  -- a plan that takes away the members that the command takes is one of it
  plans_taken : (taking : Taking) (plan : Plan) → TakesMembers k found taking (members_taken taking z) plan → IsScoresPlan found.moment k found.old found.fresh found.life z (taking_outcome taking z) plan
  plans_taken (Lowest n) plan p = record {
    scorings = map scored_leaving (members_taken (Lowest n) z);
    are = members_leave z (members_taken (Lowest n) z) (are_members (Lowest n) z) p.stand;
    leave = left_without z (members_taken (Lowest n) z);
    is = p.is;
  }
  plans_taken (Highest n) plan p = record {
    scorings = map scored_leaving (members_taken (Highest n) z);
    are = members_leave z (members_taken (Highest n) z) (are_members (Highest n) z) p.stand;
    leave =
        left_without z (members_taken (Highest n) z) ∙ rest-reverse z (members_taken (Highest n) z)
        ∙ ap (λ es. rest_of z (member_names es)) (highest_turned n z);
    is = p.is ∙ ap (λ es. planned (members_taken (Highest n) z) (told true es)) (highest_turned n z);
  }
  plans_taken (Places a b) plan p =
      let gone = members_taken (Places a b) z in
      let are = members_leave z gone (are_members (Places a b) z) p.stand in
      record {
        scorings = map scored_leaving gone;
        are = are;
        leave = left_without z gone;
        is = p.is ∙ ap (planned gone) (gone_is c k found.fresh found.life z (rest_of z (member_names gone)) (map scored_leaving gone) there are (left_without z gone));
      }
  plans_taken (Within low high) plan p =
      let gone = members_taken (Within low high) z in
      let are = members_leave z gone (are_members (Within low high) z) p.stand in
      let left = left_without z gone ∙ rest-filter z (between low high) in
      record {
        scorings = map scored_leaving gone;
        are = are;
        leave = left;
        is = p.is ∙ ap (planned gone) (gone_is c k found.fresh found.life z _ (map scored_leaving gone) there are left);
      }

pub takes_all : (rows now : Option Rows) (k : Bytes) (found : LifeFound) (taking : Taking) (es : List Scored) (plan : Plan) → now ≡ rows → HasBounds taking
    → IfSome rows (λ c. es ≡ ranks_taken c k taking found.life) → TakesMembers k found taking es plan → IfSome rows (λ c. PlansFound c k found (taking_outcome taking) plan)
takes_all None now k found taking es plan same bounds are takes = tt
takes_all (Some c) now k found taking es plan same bounds are takes = λ z there.
    plans_taken c k found z there taking plan
    (subst (λ fs. TakesMembers k found taking fs plan) (are ∙ taken_there c k taking found.life z bounds (ranks_found c k found.fresh found.life z there)) takes)
