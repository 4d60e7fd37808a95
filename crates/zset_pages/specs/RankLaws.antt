-- What rows tell of the members by rank is what the sorted set has.
use Rattle.std.proofs.Common.{◌≡◌, ℕ, List, [], ◌∷◌, map, take, drop, refl, sym, ap, subst, ◌∙◌}
use Rattle.std.proofs.lemmas.List.{take_at, drop_at}
use Rattle.std.specs.Prelude.{Option, Some, None, Ok, Err, IsTrue, unwrap_or, ℤ, pos}
use Rattle.kv_base.specs.Map.{Bytes, Map, get, empty, size}
use Rattle.kv_base.specs.Number.{fits}
use Rattle.kv_base.specs.Fields.{u64}
use Rattle.kv_base.specs.FieldLaws.{length-u64}
use Rattle.kv_base.specs.RawKeys.{score_number}
use Rattle.subkey_codec.specs.Numbers.{read_score_bytes}
use Rattle.subkey_codec.specs.NumberLaws.{score_bytes_are_read}
use Rattle.kv_base.specs.MetaValues.{MetaValue}
use Rattle.kv_base.specs.declared.kind.Kind.TheVariants as code
use Rattle.redis_model.specs.Value.{Value, ZSet, Entry, RedisMap}
use Rattle.redis_model.specs.Outcome.{Outcome, ◌>>=◌, sorted_sets, seen, at_key}
use Rattle.redis_model.specs.SortedSets.{Scored, ranked}
use Rattle.lives_model.specs.Rows.{Rows, Elements, Scores, row_key}
use Rattle.lives_model.specs.Clean.{live_at}
use Rattle.lives_model.specs.Means.{Means, MeansAt, StandsForEntry, HasWholeScores, has_life}
use Rattle.lives_model.specs.LifeRows.{rank_key, in_life, HasRowsOf}
use Rattle.lives_model.specs.LifeRowLaws.{ScoresFit, all_fit, fit_order}
use Rattle.lives_model.specs.LifePageLaws.{life_whole, stands_rows}
use Rattle.plan_base.specs.declared.life.LifeSight.{LifeSight}
use Rattle.plan_base.specs.Lives.{IsLifeOf, life_found}
use Rattle.plan_base.specs.LifeLaws.{sorted_set_stands, score_row_of}
use Rattle.life_pages.specs.LifeElementLaws.{subkey_is}
use Rattle.zset_pages.specs.RankRowLaws.{rank_row}
use Rattle.zset_pages.specs.Ranks.{scored_in, rank_in, ranks_in, HasRanks, SeesRanks}

-- ---- members that are read back

-- behind eight bytes stands the member, and they are its score
pub scored_back : (k : Bytes) (version : ℕ) (e : Scored) → IsTrue (fits e.1) → scored_in k (row_key Scores k version (rank_key e)) ≡ e
scored_back k version e h =
    let eight = length-u64 (score_number e.1) in
    ap (λ (x : Bytes). (drop 8 x, unwrap_or (read_score_bytes (take 8 x)) (pos 0))) (subkey_is Scores k version (rank_key e))
    ∙ (λ i. (drop_at (u64 (score_number e.1)) e.0 8 eight i, unwrap_or (read_score_bytes (take_at (u64 (score_number e.1)) e.0 8 eight i)) (pos 0)))
    ∙ ap (λ (o : Option ℤ). (e.0, unwrap_or o (pos 0))) (score_bytes_are_read e.1 h)

-- so members are read back from their rows
pub ranks_back : (k : Bytes) (version : ℕ) (es : List Scored) → ScoresFit es → map (rank_in k) (in_life Scores k version (map rank_row es)) ≡ es
ranks_back k version [] h = refl
ranks_back k version (e ∷ es) h = λ i. scored_back k version e h.0 i ∷ ranks_back k version es h.1 i

-- the scores of a sorted set fit 64 bits
pub ranked_fit : (z : Map ℤ) → HasWholeScores (ZSet z) → ScoresFit (ranked z)
unfolding get
ranked_fit z whole = fit_order z.entries (all_fit z.entries z.sorted whole)

-- ---- all members

-- an empty one has none
pub none_ranked : (z : Map ℤ) → z ≡ empty → ranked z ≡ []
unfolding empty
none_ranked z is = ap ranked is

-- what is read of a life is the sorted set whose rows it has
pub ranks_are : (c : Rows) (k : Bytes) (found : Option LifeSight) (z : Map ℤ) → HasRanks c k found z → ranks_in c k found ≡ ranked z
ranks_are c k None z is = sym (none_ranked z is)
ranks_are c k (Some life) z is =
    ap (map (rank_in k)) (life_whole c k (record { version = life.version; head = 0 }) (ZSet z) is.1 Scores) ∙ ranks_back k life.version (ranked z) (ranked_fit z is.1.scores)

-- ---- of rows that mean a map

-- what is found by metadata that stands for an entry is the sorted set there
entry_has : (c : Rows) (t : ℕ) (k : Bytes) (e : Entry) (s : StandsForEntry c t k e) (z : Map ℤ) → sorted_sets.seen_as e.value ≡ Ok z
    → HasRowsOf c k (record { version = s.life.version; head = 0 }) (ZSet z)
entry_has c t k e s z is =
    let value : e.value ≡ ZSet z = sorted_set_stands.is e.value z is in
    let life : IsTrue (has_life e.value) = subst (λ (v : Value). IsTrue (has_life v)) (sym value) refl in
    let has : HasRowsOf c k s.life (ZSet z) = subst (λ (v : Value). HasRowsOf c k s.life v) value (stands_rows c t k e s life) in
    record { scores = has.scores; indices = tt; rows = has.rows }

sees_entry : (c : Rows) (t : ℕ) (k : Bytes) (e : Entry) (s : StandsForEntry c t k e) (o : Outcome (Map ℤ)) → sorted_sets.seen_as e.value ≡ o
    → SeesRanks c k (o >>= λ z. Ok (Some (record { version = s.life.version; size = size z }))) o
sees_entry c t k e s (Err fault) is = refl
sees_entry c t k e s (Ok z) is = (refl, entry_has c t k e s z is)

sees_by : (c : Rows) (t : ℕ) (k : Bytes) (o : Option Entry) → MeansAt c t k o → SeesRanks c k (life_found code.ZSet (live_at c t k)) (seen sorted_sets o)
sees_by c t k None s = subst (λ (f : Option MetaValue). SeesRanks c k (life_found code.ZSet f) (Ok sorted_sets.none)) (sym s) refl
sees_by c t k (Some e) s =
    subst (λ (f : Outcome (Option LifeSight)). SeesRanks c k f (sorted_sets.seen_as e.value))
    (sym (ap (life_found code.ZSet) s.meta ∙ sorted_set_stands.found e.value s.life s.expire))
    (sees_entry c t k e s (sorted_sets.seen_as e.value) refl)

-- Where rows mean a map, the life that is found at a key has the members of the sorted set there.
pub sees_ranks : {c : Rows} {t : ℕ} {m : RedisMap} (means : Means c t m) (k : Bytes) → SeesRanks c k (life_found code.ZSet (live_at c t k)) (at_key sorted_sets m k)
sees_ranks {c} {t} {m} means k = sees_by c t k (get m k) (means.stands k)

pub ranks_there : {c : Rows} {t : ℕ} {m : RedisMap} (means : Means c t m) (k : Bytes) (found : Option LifeSight) (z : Map ℤ)
    → life_found code.ZSet (live_at c t k) ≡ Ok found → at_key sorted_sets m k ≡ Ok z → HasRanks c k found z
ranks_there {c} {t} {m} means k found z life there =
    subst (λ (o : Outcome (Map ℤ)). SeesRanks c k (Ok found) o) there
    (subst (λ (f : Outcome (Option LifeSight)). SeesRanks c k f (at_key sorted_sets m k)) life (sees_ranks means k))

-- On the side of elements each member has its score.
pub ranks_are_life : (c : Rows) (k : Bytes) (found : Option LifeSight) (z : Map ℤ) → HasRanks c k found z → IsLifeOf sorted_sets score_row_of c k found z
ranks_are_life c k None z is = is
ranks_are_life c k (Some life) z is = (is.0, λ subkey. is.1.rows Elements subkey)
