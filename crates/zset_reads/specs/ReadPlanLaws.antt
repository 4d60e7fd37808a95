-- The commands that read a sorted set are carried out by their plans.
use Rattle.std.proofs.Common.{◌≡◌, ℕ, ◌+◌, ◌-◌, ◌<◌, ◌≤◌, refl, sym, ap, subst, ◌∙◌, inl, inr, Bool, true, false, List, [], ◌∷◌, ◌++◌, length, take, drop, reverse, append_assoc, arith}
use Rattle.std.proofs.lemmas.Bool.{cases_order}
use Rattle.std.proofs.lemmas.List.{length-take, length-drop, length-reverse, take-append-drop, take_at, drop_at, take_all, reverse-append}
use Rattle.std.proofs.lemmas.List.Sums.{length-filter}
use Rattle.std.specs.Prelude.{Option, Some, None, Ok, Err, IfSome, IsTrue, IsFalse, ◌⊎◌, min, option_map, filter, count_by, ℤ, pos, negsuc}
use Rattle.kv_base.specs.Map.{Bytes, Map, get, empty, size, get-empty}
use Rattle.kv_base.specs.Number.{fits}
use Rattle.kv_base.specs.declared.kind.Kind.TheVariants as code
use Rattle.subkey_codec.specs.NumberLaws.{score_bytes_are_read}
use Rattle.redis_model.specs.declared.reply.Reply.{Reply}
use Rattle.redis_model.specs.declared.reply.Reply.TheVariants as reply
use Rattle.redis_model.specs.declared.command.Command.{Command}
use Rattle.redis_model.specs.declared.command.Command.TheVariants as cmd
use Rattle.redis_model.specs.declared.command.Bound.{Bound}
use Rattle.redis_model.specs.declared.command.Limit.{Limit}
use Rattle.redis_model.specs.Value.{RedisMap}
use Rattle.redis_model.specs.Limits.{IsWholeScore, IsBound}
use Rattle.redis_model.specs.Outcome.{Outcome, ◌>>=◌, number, sorted_sets, answered, at_key, reading}
use Rattle.redis_model.specs.About.{writes, keys_of}
use Rattle.redis_model.specs.Apply.{apply, carried_out}
use Rattle.redis_model.specs.Strings.{start_at, end_at, range}
use Rattle.redis_model.specs.SortedSets.{Scored, ranked, between, score_or_null, rank_or_null, number_before, number_behind, told, within_limit}
use Rattle.lives_model.specs.Rows.{Rows}
use Rattle.lives_model.specs.Clean.{live_at}
use Rattle.lives_model.specs.Means.{score_text}
use Rattle.lives_model.specs.LifeRowLaws.{whole_fits}
use Rattle.plan_base.specs.declared.life.LifeSight.{LifeSight}
use Rattle.plan_base.specs.Carries.{Carries}
use Rattle.plan_base.specs.Lives.{life_found, life_size}
use Rattle.plan_base.specs.LifeLaws.{sorted_set_stands, element_there, size_there}
use Rattle.plan_base.specs.LifePlans.{life_reply}
use Rattle.plan_base.specs.LifePlanLaws.{one_key_ahead}
use Rattle.plan_base.specs.KeyPlanLaws.{reading_plan}
use Rattle.zset_pages.specs.Ranks.{HasRanks, SeesRanks}
use Rattle.zset_pages.specs.FrontLaws.{none_kept}
use Rattle.zset_pages.specs.RankLaws.{none_ranked, ranks_are, ranks_are_life, sees_ranks}
use Rattle.zset_pages.specs.RankRangeLaws.{ranks_lie_between, number_lies_between, number_is_ahead, number_is_from}
use Rattle.zset_pages.specs.RankCountLaws.{length-ranked, count-ranked, count-within}
use Rattle.zset_reads.specs.ReadPlans.{sorted_set_reading, score_in, score_in_life, z_score_plan, z_card_plan, count_in_life, z_count_plan, place_of, place_in_life, z_rank_plan, ranks_ranged, z_range_plan, ranks_turned, z_rev_range_plan, limit_skip, limit_count, ranks_limited, z_range_by_score_plan}

-- ---- a command that reads

-- what is answered by what is found is what is answered by what is there
answers : (c : Rows) (k : Bytes) (m : RedisMap) (f : Map ℤ → Reply) (g : Option LifeSight → Reply)
    → ((found : Option LifeSight) (z : Map ℤ) → HasRanks c k found z → g found ≡ f z)
    → (s : Outcome (Option LifeSight)) (o : Outcome (Map ℤ)) → SeesRanks c k s o → life_reply g s ≡ (answered m (o >>= λ z. Ok (f z, m))).0
answers c k m f g alike (Ok found) (Ok z) s = alike found z s
answers c k m f g alike (Err e) (Err x) s = ap reply.Error s
answers c k m f g alike (Ok found) (Err x) s = absurd s
answers c k m f g alike (Err e) (Ok z) s = absurd s

-- A command with one key that reads its sorted set answers by the members that are found, and writes nothing.
pub ranks_reading : (c : Rows) (t fresh : ℕ) (d : Command) (k : Bytes) (f : Map ℤ → Reply) (g : Option LifeSight → Reply)
    → IsFalse (writes d) → keys_of d ≡ k ∷ [] → ((m : RedisMap) → carried_out m t d ≡ reading sorted_sets m k f)
    → ((found : Option LifeSight) (z : Map ℤ) → HasRanks c k found z → g found ≡ f z)
    → Carries c t fresh d (sorted_set_reading c t k g)
unfolding apply
ranks_reading c t fresh d k f g reads one is alike = record {
  plan = λ m means ready.
      one_key_ahead c t fresh m d _ k one
      (reading_plan fresh d (life_reply g (life_found code.ZSet (live_at c t k))) means reads
      (answers c k m f g alike (life_found code.ZSet (live_at c t k)) (at_key sorted_sets m k) (sees_ranks means k)
      ∙ sym (ap (λ o. (answered m o).0) (is m))));
}

-- ---- ZSCORE and ZCARD

-- the scores of what is found are whole numbers
scores_are_whole : (c : Rows) (k : Bytes) (found : Option LifeSight) (z : Map ℤ) → HasRanks c k found z → (x : Bytes) → IfSome (get z x) IsWholeScore
scores_are_whole c k None z has x = subst (λ (o : Option ℤ). IfSome o IsWholeScore) (sym (ap (λ (y : Map ℤ). get y x) has ∙ get-empty x)) tt
scores_are_whole c k (Some life) z has x = has.1.scores x

-- a score is read back from its row
score_back : (o : Option ℤ) → IfSome o IsWholeScore → score_in (option_map score_text o) ≡ o
score_back None whole = refl
score_back (Some s) whole = score_bytes_are_read s (whole_fits s whole)

score_there : (c : Rows) (k x : Bytes) (found : Option LifeSight) (z : Map ℤ) → HasRanks c k found z → score_in_life c k x found ≡ get z x
score_there c k x found z has =
    ap score_in (element_there sorted_set_stands c k found z x (ranks_are_life c k found z has)) ∙ score_back (get z x) (scores_are_whole c k found z has x)

pub z_score_carries : (c : Rows) (t fresh : ℕ) (k x : Bytes) (w : ℕ) → Carries c t fresh (cmd.ZScore k x w) (z_score_plan c t k x)
unfolding carried_out z_score_plan
z_score_carries c t fresh k x w =
    ranks_reading c t fresh (cmd.ZScore k x w) k (λ z. score_or_null (get z x)) (λ found. score_or_null (score_in_life c k x found)) refl refl (λ m. refl)
    (λ found z has. ap score_or_null (score_there c k x found z has))

pub z_card_carries : (c : Rows) (t fresh : ℕ) (k : Bytes) (w : ℕ) → Carries c t fresh (cmd.ZCard k w) (z_card_plan c t k)
unfolding carried_out z_card_plan
z_card_carries c t fresh k w =
    ranks_reading c t fresh (cmd.ZCard k w) k (λ z. number (size z)) (λ found. number (life_size found)) refl refl (λ m. refl)
    (λ found z has. ap number (size_there sorted_set_stands c k found z (ranks_are_life c k found z has)))

-- ---- ZCOUNT

none_counted : (p : Scored → Bool) (z : Map ℤ) → z ≡ empty → 0 ≡ count_by p z.entries
unfolding empty
none_counted p z is = sym (ap (λ (y : Map ℤ). count_by p y.entries) is)

count_there : (c : Rows) (k : Bytes) (low high : Bound) (found : Option LifeSight) (z : Map ℤ) → IsBound low → IsBound high → HasRanks c k found z → count_in_life c k low high found ≡ count_by (between low high) z.entries
count_there c k low high None z l h has = none_counted (between low high) z has
count_there c k low high (Some life) z l h has = number_lies_between c k life z has low high l h

pub z_count_carries : (c : Rows) (t fresh : ℕ) (k : Bytes) (low high : Bound) (w : ℕ) → IsBound low → IsBound high → Carries c t fresh (cmd.ZCount k low high w) (z_count_plan c t k low high)
unfolding carried_out z_count_plan
z_count_carries c t fresh k low high w l h =
    ranks_reading c t fresh (cmd.ZCount k low high w) k (λ z. number (count_by (between low high) z.entries)) (λ found. number (count_in_life c k low high found)) refl refl (λ m. refl)
    (λ found z has. ap number (count_there c k low high found z l h has))

-- ---- ZRANK and ZREVRANK

-- how many members stand before one, or behind it
abbrev number_beside : Bool → Map ℤ → Bytes → ℤ → ℕ
number_beside false z x s = number_before z x s
number_beside true z x s = number_behind z x s

place_is : (c : Rows) (k x : Bytes) (highest : Bool) (life : LifeSight) (z : Map ℤ) → HasRanks c k (Some life) z → (s : ℤ) → IsTrue (fits s) → get z x ≡ Some s → place_of c k x life highest s ≡ number_beside highest z x s
place_is c k x false life z has s h there = number_is_ahead c k life z has x s h
place_is c k x true life z has s h there = let itself = number_is_from c k life z has x s h there in omega (arith, itself)

place_by : (c : Rows) (k x : Bytes) (highest : Bool) (life : LifeSight) (z : Map ℤ) → HasRanks c k (Some life) z → (o : Option ℤ) → get z x ≡ o → IfSome o IsWholeScore
    → option_map (place_of c k x life highest) o ≡ option_map (number_beside highest z x) o
place_by c k x highest life z has None there whole = refl
place_by c k x highest life z has (Some s) there whole = ap (λ (n : ℕ). Some n) (place_is c k x highest life z has s (whole_fits s whole) there)

place_there : (c : Rows) (k x : Bytes) (highest : Bool) (found : Option LifeSight) (z : Map ℤ) → HasRanks c k found z → place_in_life c k x highest found ≡ option_map (number_beside highest z x) (get z x)
place_there c k x highest None z has = sym (ap (option_map (number_beside highest z x)) (ap (λ (y : Map ℤ). get y x) has ∙ get-empty x))
place_there c k x highest (Some life) z has =
    ap (option_map (place_of c k x life highest)) (score_there c k x (Some life) z has) ∙ place_by c k x highest life z has (get z x) refl (scores_are_whole c k (Some life) z has x)

pub z_rank_carries : (c : Rows) (t fresh : ℕ) (k x : Bytes) (w : ℕ) → Carries c t fresh (cmd.ZRank k x w) (z_rank_plan c t k x false)
unfolding carried_out z_rank_plan
z_rank_carries c t fresh k x w =
    ranks_reading c t fresh (cmd.ZRank k x w) k (λ z. rank_or_null (option_map (number_before z x) (get z x))) (λ found. rank_or_null (place_in_life c k x false found)) refl refl (λ m. refl)
    (λ found z has. ap rank_or_null (place_there c k x false found z has))

pub z_rev_rank_carries : (c : Rows) (t fresh : ℕ) (k x : Bytes) (w : ℕ) → Carries c t fresh (cmd.ZRevRank k x w) (z_rank_plan c t k x true)
unfolding carried_out z_rank_plan
z_rev_rank_carries c t fresh k x w =
    ranks_reading c t fresh (cmd.ZRevRank k x w) k (λ z. rank_or_null (option_map (number_behind z x) (get z x))) (λ found. rank_or_null (place_in_life c k x true found)) refl refl (λ m. refl)
    (λ found z has. ap rank_or_null (place_there c k x true found z has))

-- ---- ZRANGE and ZREVRANGE

-- as many as the life has
long : (c : Rows) (k : Bytes) (life : LifeSight) (z : Map ℤ) → HasRanks c k (Some life) z → life.size ≡ length (ranked z)
long c k life z has = has.0 ∙ sym (length-ranked z)

range_there : (c : Rows) (k : Bytes) (a b : ℤ) (found : Option LifeSight) (z : Map ℤ) → HasRanks c k found z → ranks_ranged c k a b found ≡ range (ranked z) a b
range_there c k a b None z has =
    sym (ap (λ es. range es a b) (none_ranked z has) ∙ none_kept (end_at 0 b - start_at 0 a) (start_at 0 a))
range_there c k a b (Some life) z has =
    (λ i. take (end_at (long c k life z has i) b - start_at (long c k life z has i) a) (drop (start_at (long c k life z has i) a) (ranks_are c k (Some life) z has i)))

pub z_range_carries : (c : Rows) (t fresh : ℕ) (k : Bytes) (a b : ℤ) (scores : Bool) (w : ℕ) → Carries c t fresh (cmd.ZRange k a b scores w) (z_range_plan c t k a b scores)
unfolding carried_out z_range_plan
z_range_carries c t fresh k a b scores w =
    ranks_reading c t fresh (cmd.ZRange k a b scores w) k (λ z. told scores (range (ranked z) a b)) (λ found. told scores (ranks_ranged c k a b found)) refl refl (λ m. refl)
    (λ found z has. ap (told scores) (range_there c k a b found z has))

-- a part of a list that is turned round is a part of the list, turned round
turned_parts : {X : Type 0} (s n : ℕ) (front part behind : List X) → length behind ≡ s → length part ≡ n → take n (drop s (reverse (front ++ (part ++ behind)))) ≡ reverse part
turned_parts s n front part behind last size =
    ap (λ es. take n (drop s es))
    (reverse-append front (part ++ behind) ∙ ap (λ es. es ++ reverse front) (reverse-append part behind) ∙ append_assoc (reverse behind) (reverse part) (reverse front))
    ∙ ap (take n) (drop_at (reverse behind) (reverse part ++ reverse front) s (length-reverse behind ∙ last))
    ∙ take_at (reverse part) (reverse front) n (length-reverse part ∙ size)

turned_part : {X : Type 0} (s n : ℕ) (xs : List X) → s + n ≤ length xs → take n (drop s (reverse xs)) ≡ reverse (take n (drop (length xs - (s + n)) xs))
turned_part s n xs within =
    let rest = drop (length xs - (s + n)) xs in
    let whole : length rest ≡ length xs - (length xs - (s + n)) = length-drop (length xs - (s + n)) xs in
    let first : length (take n rest) ≡ min n (length rest) = length-take n rest in
    let last : length (drop n rest) ≡ length rest - n = length-drop n rest in
    ap (λ es. take n (drop s (reverse es))) (sym (take-append-drop (length xs - (s + n)) xs) ∙ ap (λ es. take (length xs - (s + n)) xs ++ es) (sym (take-append-drop n rest)))
    ∙ turned_parts s n (take (length xs - (s + n)) xs) (take n rest) (drop n rest) (omega (arith, whole, last, within)) (omega (arith, whole, first, within))

-- a range ends within the list
end_within : (n : ℕ) (b : ℤ) → end_at n b ≤ n
end_within n (pos b) = omega arith
end_within n (negsuc b) = omega arith

turned_range : (a b : ℤ) (xs : List Scored) → let n = length xs in reverse (take (end_at n b - start_at n a) (drop (n - end_at n b) xs)) ≡ range (reverse xs) a b
turned_range a b xs = by_order (cases_order (start_at (length xs) a) (end_at (length xs) b)) ∙ sym (ap (λ n. take (end_at n b - start_at n a) (drop (start_at n a) (reverse xs))) (length-reverse xs))
  where
    inside : start_at (length xs) a ≤ end_at (length xs) b
        → reverse (take (end_at (length xs) b - start_at (length xs) a) (drop (length xs - end_at (length xs) b) xs)) ≡ take (end_at (length xs) b - start_at (length xs) a) (drop (start_at (length xs) a) (reverse xs))
    inside low =
        let within = end_within (length xs) b in
        let ends : start_at (length xs) a + (end_at (length xs) b - start_at (length xs) a) ≡ end_at (length xs) b = omega (arith, low) in
        ap (λ e. reverse (take (end_at (length xs) b - start_at (length xs) a) (drop (length xs - e) xs))) (sym ends)
        ∙ sym (turned_part (start_at (length xs) a) (end_at (length xs) b - start_at (length xs) a) xs (omega (arith, ends, within)))

    by_order : (start_at (length xs) a ≡ end_at (length xs) b) ⊎ ((start_at (length xs) a < end_at (length xs) b) ⊎ (end_at (length xs) b < start_at (length xs) a))
        → reverse (take (end_at (length xs) b - start_at (length xs) a) (drop (length xs - end_at (length xs) b) xs)) ≡ take (end_at (length xs) b - start_at (length xs) a) (drop (start_at (length xs) a) (reverse xs))
    by_order (inl e) = inside (omega (arith, e))
    by_order (inr (inl l)) = inside (omega (arith, l))
    by_order (inr (inr g)) =
        let none : end_at (length xs) b - start_at (length xs) a ≡ 0 = omega (arith, g) in
        ap (λ n. reverse (take n (drop (length xs - end_at (length xs) b) xs))) none ∙ sym (ap (λ n. take n (drop (start_at (length xs) a) (reverse xs))) none)

turned_there : (c : Rows) (k : Bytes) (a b : ℤ) (found : Option LifeSight) (z : Map ℤ) → HasRanks c k found z → ranks_turned c k a b found ≡ range (reverse (ranked z)) a b
turned_there c k a b None z has =
    sym (ap (λ es. range (reverse es) a b) (none_ranked z has) ∙ none_kept (end_at 0 b - start_at 0 a) (start_at 0 a))
turned_there c k a b (Some life) z has =
    (λ i. reverse (take (end_at (long c k life z has i) b - start_at (long c k life z has i) a) (drop (long c k life z has i - end_at (long c k life z has i) b) (ranks_are c k (Some life) z has i))))
    ∙ turned_range a b (ranked z)

pub z_rev_range_carries : (c : Rows) (t fresh : ℕ) (k : Bytes) (a b : ℤ) (scores : Bool) (w : ℕ) → Carries c t fresh (cmd.ZRevRange k a b scores w) (z_rev_range_plan c t k a b scores)
unfolding carried_out z_rev_range_plan
z_rev_range_carries c t fresh k a b scores w =
    ranks_reading c t fresh (cmd.ZRevRange k a b scores w) k (λ z. told scores (range (reverse (ranked z)) a b)) (λ found. told scores (ranks_turned c k a b found)) refl refl (λ m. refl)
    (λ found z has. ap (told scores) (turned_there c k a b found z has))

-- ---- ZRANGEBYSCORE

-- what a limit leaves
limited : (n : ℕ) (limit : Option Limit) (es : List Scored) → length es ≤ n → take (limit_count n limit) (drop (limit_skip limit) es) ≡ within_limit limit es
limited n None es within = take_all n es within
limited n (Some l) es within = by_parts l.offset l.count
  where
    by_parts : (offset count : ℤ) → take (limit_count n (Some (record { offset = offset; count = count }))) (drop (limit_skip (Some (record { offset = offset; count = count }))) es) ≡ within_limit (Some (record { offset = offset; count = count })) es
    by_parts (pos a) (pos b) = refl
    by_parts (pos a) (negsuc b) = let size = length-drop a es in take_all n (drop a es) (omega (arith, size, within))
    by_parts (negsuc a) (pos b) = sym (none_kept b 0)
    by_parts (negsuc a) (negsuc b) = refl

few_between : (low high : Bound) (n : ℕ) (z : Map ℤ) → n ≡ size z → length (filter (between low high) (ranked z)) ≤ n
few_between low high n z is =
    let many = length-filter (between low high) (ranked z) ∙ count-ranked (between low high) z in
    let within = count-within (between low high) z in
    omega (arith, is, many, within)

limit_there : (c : Rows) (k : Bytes) (low high : Bound) (limit : Option Limit) (found : Option LifeSight) (z : Map ℤ) → IsBound low → IsBound high → HasRanks c k found z
    → ranks_limited c k low high limit found ≡ within_limit limit (filter (between low high) (ranked z))
limit_there c k low high limit None z l h has =
    sym (none_kept (limit_count 0 limit) (limit_skip limit)) ∙ limited 0 limit [] (omega arith) ∙ sym (ap (λ es. within_limit limit (filter (between low high) es)) (none_ranked z has))
limit_there c k low high limit (Some life) z l h has =
    ap (λ es. take (limit_count life.size limit) (drop (limit_skip limit) es)) (ranks_lie_between c k life z has low high l h)
    ∙ limited life.size limit (filter (between low high) (ranked z)) (few_between low high life.size z has.0)

pub z_range_by_score_carries : (c : Rows) (t fresh : ℕ) (k : Bytes) (low high : Bound) (scores : Bool) (limit : Option Limit) (w : ℕ) → IsBound low → IsBound high
    → Carries c t fresh (cmd.ZRangeByScore k low high scores limit w) (z_range_by_score_plan c t k low high scores limit)
unfolding carried_out z_range_by_score_plan
z_range_by_score_carries c t fresh k low high scores limit w l h =
    ranks_reading c t fresh (cmd.ZRangeByScore k low high scores limit w) k (λ z. told scores (within_limit limit (filter (between low high) (ranked z)))) (λ found. told scores (ranks_limited c k low high limit found)) refl refl (λ m. refl)
    (λ found z has. ap (told scores) (limit_there c k low high limit found z l h has))
