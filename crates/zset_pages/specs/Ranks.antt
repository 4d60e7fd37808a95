-- The members of a sorted set by rank, as the rows of its life on the side of scores tell them.
use Rattle.std.specs.Prelude.{◌≡◌, ℕ, Bool, true, List, [], ◌++◌, map, take, drop, length, unwrap_or, Option, Some, None, Ok, Err, pos, ◌+ℤ◌, ℤ}
use Rattle.std.specs.List.{take_while}
use Rattle.std.specs.Ordering.{is_lt}
use Rattle.kv_base.specs.Map.{Bytes, Map, byte_cmp, empty, size}
use Rattle.kv_base.specs.RawKeys.{life_prefix, score_space}
use Rattle.subkey_codec.specs.Numbers.{read_score_bytes}
use Rattle.redis_model.specs.declared.command.Bound.{Bound}
use Rattle.redis_model.specs.declared.command.Bound.TheVariants.{Least, Greatest, Closed, Past}
use Rattle.redis_model.specs.Value.{ZSet}
use Rattle.redis_model.specs.Outcome.{Outcome}
use Rattle.redis_model.specs.SortedSets.{Scored}
use Rattle.lives_model.specs.Rows.{Rows}
use Rattle.lives_model.specs.Passing.{passing, is_asked}
use Rattle.lives_model.specs.LifeRows.{rank_key, HasRowsOf}
use Rattle.plan_base.specs.declared.life.LifeSight.{LifeSight}
use Rattle.life_pages.specs.LifeElements.{subkey_in}
use Rattle.zset_pages.specs.declared.ranks.Ranked.{Ranked}

-- ---- one member

-- a member and its score
abbrev pub scored_of : Ranked → Scored
scored_of rank = (rank.member, rank.score)

-- those in the raw key of a row of a life of this key: behind the prefix stand the score, in eight bytes, and the member.
-- Fewer bytes are the score 0.
abbrev pub scored_in : Bytes → Bytes → Scored
scored_in k raw = (drop 8 (subkey_in k raw), unwrap_or (read_score_bytes (take 8 (subkey_in k raw))) (pos 0))

abbrev pub rank_in : Bytes → Bytes × Bytes → Scored
rank_in k row = scored_in k row.0

-- ---- all of them

-- what the raw keys of the members of a life by score begin with
abbrev pub ranks_prefix : Bytes → ℕ → Bytes
ranks_prefix k version = life_prefix score_space k version

-- the members of the life that is found at a key, in the order of their raw keys, none where there is no life
abbrev pub ranks_in : Rows → Bytes → Option LifeSight → List Scored
ranks_in c k None = []
ranks_in c k (Some life) = map (rank_in k) (passing (is_asked (ranks_prefix k life.version) (ranks_prefix k life.version)) c)

-- ---- some of them

-- An edge is a raw key, or none, which is behind all of them. A raw key stands ahead of one that it is below.
abbrev pub is_ahead_of : Option Bytes → Bytes → Bool
is_ahead_of None raw = true
is_ahead_of (Some edge) raw = is_lt (byte_cmp raw edge)

-- of rows in order those ahead of an edge
abbrev pub rows_ahead : Option Bytes → List (Bytes × Bytes) → List (Bytes × Bytes)
rows_ahead until rows = take_while (λ row. is_ahead_of until row.0) rows

-- the rows under a prefix from an edge on, and ahead of another one
abbrev pub rows_between : Rows → Bytes → Option Bytes → Option Bytes → List (Bytes × Bytes)
rows_between c prefix None until = []
rows_between c prefix (Some from) until = rows_ahead until (passing (is_asked from prefix) c)

-- under the prefix of a life, where a member with this score stands; no bytes stand ahead of all members with it
abbrev pub rank_edge : Bytes → Scored → Option Bytes
rank_edge prefix e = Some (prefix ++ rank_key e)

-- where the members begin that are within a lower bound. Scores are whole numbers.
abbrev pub low_edge : Bytes → Bound → Option Bytes
low_edge prefix Least = Some prefix
low_edge prefix Greatest = None
low_edge prefix (Closed s) = rank_edge prefix ([], s)
low_edge prefix (Past s) = rank_edge prefix ([], s +ℤ pos 1)

-- and where those have ended that are within an upper one
abbrev pub high_edge : Bytes → Bound → Option Bytes
high_edge prefix Least = Some prefix
high_edge prefix Greatest = None
high_edge prefix (Closed s) = rank_edge prefix ([], s +ℤ pos 1)
high_edge prefix (Past s) = rank_edge prefix ([], s)

-- the members of a life between two bounds, by their rows
abbrev pub ranks_between : Rows → Bytes → LifeSight → Bound → Bound → List Scored
ranks_between c k life low high = map (rank_in k) (rows_between c (ranks_prefix k life.version) (low_edge (ranks_prefix k life.version) low) (high_edge (ranks_prefix k life.version) high))

-- how many there are, but no more than the life has
abbrev pub number_between : Rows → Bytes → LifeSight → Bound → Bound → ℕ
number_between c k life low high = length (take life.size (ranks_between c k life low high))

-- how many rows stand ahead of this member, and how many from it on, itself among them
abbrev pub number_ahead : Rows → Bytes → LifeSight → Scored → ℕ
number_ahead c k life e = length (take life.size (rows_between c (ranks_prefix k life.version) (Some (ranks_prefix k life.version)) (rank_edge (ranks_prefix k life.version) e)))

abbrev pub number_from : Rows → Bytes → LifeSight → Scored → ℕ
number_from c k life e = length (take life.size (rows_between c (ranks_prefix k life.version) (rank_edge (ranks_prefix k life.version) e) None))

-- ---- whose they are

-- What is found at a key has the rows of this sorted set, and as many members as it. Where there is no key it is the empty one.
abbrev pub HasRanks : Rows → Bytes → Option LifeSight → Map ℤ → Type 0
HasRanks c k None z = z ≡ empty
HasRanks c k (Some life) z = (life.size ≡ size z) × HasRowsOf c k (record { version = life.version; head = 0 }) (ZSet z)

-- or both are the same error
abbrev pub SeesRanks : Rows → Bytes → Outcome (Option LifeSight) → Outcome (Map ℤ) → Type 0
SeesRanks c k (Ok found) (Ok z) = HasRanks c k found z
SeesRanks c k (Err e) (Err f) = e ≡ f
SeesRanks c k (Ok found) (Err f) = ⊥
SeesRanks c k (Err e) (Ok z) = ⊥
