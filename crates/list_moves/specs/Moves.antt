-- Which commands move an item from an end of the list at one key to an end of the list at another.
use Rattle.std.proofs.Common.{ℕ, ◌≡◌, [], ◌∷◌}
use Rattle.std.specs.Prelude.{if◌then◌else◌, IsFalse}
use Rattle.kv_base.specs.Map.{Bytes, has}
use Rattle.redis_model.specs.declared.command.Command.{Command}
use Rattle.redis_model.specs.declared.command.End.{End}
use Rattle.redis_model.specs.Value.{RedisMap}
use Rattle.redis_model.specs.About.{keys_of}
use Rattle.redis_model.specs.Apply.{carried_out}
use Rattle.redis_model.specs.Lists.{l_move}
use Rattle.redis_model.specs.Touched.{written_again}
use Rattle.lives_model.specs.Moved.{head_after, head_at_source, head_at_target}
use Rattle.lives_model.specs.Plans.{is_store}

-- The command does this at the moment t: it comes to what LMOVE comes to, writes both keys again where the first one is
-- there, and moves the heads of both lists.
pub record Moves (t : ℕ) (d : Command) (a b : Bytes) (from to : End) : Type 0 where
  pub keys : keys_of d ≡ a ∷ b ∷ []
  pub no_store : IsFalse (is_store d)
  pub is : (m : RedisMap) → carried_out m t d ≡ l_move m a b from to
  pub again : (m n : RedisMap) → written_again m n d ≡ (if has m a then a ∷ b ∷ [] else [])
  pub head : (m : RedisMap) (k : Bytes) (h : ℕ) → head_after m d k h ≡ head_at_target b to k (head_at_source a from k h)
