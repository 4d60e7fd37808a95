-- What the commands that change a sorted set make of it at their only key.
use Rattle.std.proofs.Common.{ℕ, List, refl}
use Rattle.std.specs.Prelude.{Option, ℤ}
use Rattle.kv_base.specs.Map.{Bytes}
use Rattle.redis_model.specs.declared.command.Bound.{Bound}
use Rattle.redis_model.specs.declared.command.Command.TheVariants as cmd
use Rattle.redis_model.specs.declared.command.ZAddHow.{ZAddHow}
use Rattle.redis_model.specs.Apply.{carried_out}
use Rattle.redis_model.specs.Limits.{IsWithin}
use Rattle.redis_model.specs.SortedSets.{pop_highest, pop_lowest, raise_score, remove_between, remove_ranks, remove_scored, set_scores}
use Rattle.lives_model.specs.Moved.{head_after}
use Rattle.plan_base.specs.KeyLimitLaws.{key_is_short}
use Rattle.zset_plans.specs.ScorePlans.{ChangesScores}

pub z_add_changes : (t : ℕ) (k : Bytes) (ss : List ℤ) (xs : List Bytes) (how : ZAddHow) (w : ℕ) → IsWithin (cmd.ZAdd k ss xs how w) → ChangesScores t (cmd.ZAdd k ss xs how w) k (set_scores ss xs how)
unfolding carried_out head_after
z_add_changes t k ss xs how w within = record { one = refl; short = key_is_short k within.names; keeps = λ m. record { no_store = refl; head = λ h. refl }; is = λ m. refl; rewrites = λ m n. refl }

pub z_incr_by_changes : (t : ℕ) (k : Bytes) (s : ℤ) (x : Bytes) (w : ℕ) → IsWithin (cmd.ZIncrBy k s x w) → ChangesScores t (cmd.ZIncrBy k s x w) k (raise_score s x)
unfolding carried_out head_after
z_incr_by_changes t k s x w within = record { one = refl; short = key_is_short k within.names; keeps = λ m. record { no_store = refl; head = λ h. refl }; is = λ m. refl; rewrites = λ m n. refl }

pub z_rem_changes : (t : ℕ) (k : Bytes) (xs : List Bytes) (w : ℕ) → IsWithin (cmd.ZRem k xs w) → ChangesScores t (cmd.ZRem k xs w) k (remove_scored xs)
unfolding carried_out head_after
z_rem_changes t k xs w within = record { one = refl; short = key_is_short k within.names; keeps = λ m. record { no_store = refl; head = λ h. refl }; is = λ m. refl; rewrites = λ m n. refl }

pub z_rem_range_by_rank_changes : (t : ℕ) (k : Bytes) (a b : ℤ) (w : ℕ) → IsWithin (cmd.ZRemRangeByRank k a b w) → ChangesScores t (cmd.ZRemRangeByRank k a b w) k (remove_ranks a b)
unfolding carried_out head_after
z_rem_range_by_rank_changes t k a b w within = record { one = refl; short = key_is_short k within.names; keeps = λ m. record { no_store = refl; head = λ h. refl }; is = λ m. refl; rewrites = λ m n. refl }

pub z_rem_range_by_score_changes : (t : ℕ) (k : Bytes) (low high : Bound) (w : ℕ) → IsWithin (cmd.ZRemRangeByScore k low high w) → ChangesScores t (cmd.ZRemRangeByScore k low high w) k (remove_between low high)
unfolding carried_out head_after
z_rem_range_by_score_changes t k low high w within = record { one = refl; short = key_is_short k within.names; keeps = λ m. record { no_store = refl; head = λ h. refl }; is = λ m. refl; rewrites = λ m n. refl }

pub z_pop_min_changes : (t : ℕ) (k : Bytes) (n : Option ℤ) (w : ℕ) → IsWithin (cmd.ZPopMin k n w) → ChangesScores t (cmd.ZPopMin k n w) k (pop_lowest n)
unfolding carried_out head_after
z_pop_min_changes t k n w within = record { one = refl; short = key_is_short k within.names; keeps = λ m. record { no_store = refl; head = λ h. refl }; is = λ m. refl; rewrites = λ m n. refl }

pub z_pop_max_changes : (t : ℕ) (k : Bytes) (n : Option ℤ) (w : ℕ) → IsWithin (cmd.ZPopMax k n w) → ChangesScores t (cmd.ZPopMax k n w) k (pop_highest n)
unfolding carried_out head_after
z_pop_max_changes t k n w within = record { one = refl; short = key_is_short k within.names; keeps = λ m. record { no_store = refl; head = λ h. refl }; is = λ m. refl; rewrites = λ m n. refl }
