-- A command that only reads leaves the map as it is.
use Rattle.std.proofs.Common.{◌≡◌, ℕ, refl, false}
use Rattle.std.specs.Prelude.{Ok, Err}
use Rattle.redis_model.specs.declared.reply.Reply.{Reply}
use Rattle.redis_model.specs.declared.command.Command.{Command}
use Rattle.redis_model.specs.declared.command.Command.TheVariants as cmd
use Rattle.redis_model.specs.Value.{RedisMap}
use Rattle.redis_model.specs.Outcome.{Outcome, ◌>>=◌, answered}
use Rattle.redis_model.specs.Apply.{apply, carried_out}
use Rattle.redis_model.specs.About.{writes}

only_read : {A : Type 0} (m : RedisMap) (o : Outcome A) (f : A → Reply) → (answered m (o >>= λ a. Ok (f a, m))).1 ≡ m
only_read m (Ok a) f = refl
only_read m (Err e) f = refl

pub reading_keeps : (m : RedisMap) (t : ℕ) (c : Command) → writes c ≡ false → (apply m t c).1 ≡ m
unfolding apply carried_out
reading_keeps m t (cmd.Ping a b) h = refl
reading_keeps m t (cmd.Echo a b) h = refl
reading_keeps m t (cmd.Select a b) h = refl
reading_keeps m t (cmd.Get a b) h = only_read m _ _
reading_keeps m t (cmd.MGet a b) h = refl
reading_keeps m t (cmd.StrLen a b) h = only_read m _ _
reading_keeps m t (cmd.GetRange a b c d) h = only_read m _ _
reading_keeps m t (cmd.Exists a b) h = refl
reading_keeps m t (cmd.TypeOf a b) h = refl
reading_keeps m t (cmd.Ttl a b) h = refl
reading_keeps m t (cmd.PTtl a b) h = refl
reading_keeps m t (cmd.HGet a b c) h = only_read m _ _
reading_keeps m t (cmd.HMGet a b c) h = only_read m _ _
reading_keeps m t (cmd.HLen a b) h = only_read m _ _
reading_keeps m t (cmd.HExists a b c) h = only_read m _ _
reading_keeps m t (cmd.HStrLen a b c) h = only_read m _ _
reading_keeps m t (cmd.HGetAll a b) h = only_read m _ _
reading_keeps m t (cmd.HKeys a b) h = only_read m _ _
reading_keeps m t (cmd.HVals a b) h = only_read m _ _
reading_keeps m t (cmd.LLen a b) h = only_read m _ _
reading_keeps m t (cmd.LIndex a b c) h = only_read m _ _
reading_keeps m t (cmd.LRange a b c d) h = only_read m _ _
reading_keeps m t (cmd.SIsMember a b c) h = only_read m _ _
reading_keeps m t (cmd.SMIsMember a b c) h = only_read m _ _
reading_keeps m t (cmd.SCard a b) h = only_read m _ _
reading_keeps m t (cmd.SMembers a b) h = only_read m _ _
reading_keeps m t (cmd.SInter a b) h = only_read m _ _
reading_keeps m t (cmd.SUnion a b) h = only_read m _ _
reading_keeps m t (cmd.SDiff a b) h = only_read m _ _
reading_keeps m t (cmd.ZScore a b c) h = only_read m _ _
reading_keeps m t (cmd.ZCard a b) h = only_read m _ _
reading_keeps m t (cmd.ZCount a b c d) h = only_read m _ _
reading_keeps m t (cmd.ZRank a b c) h = only_read m _ _
reading_keeps m t (cmd.ZRevRank a b c) h = only_read m _ _
reading_keeps m t (cmd.ZRange a b c d e) h = only_read m _ _
reading_keeps m t (cmd.ZRevRange a b c d e) h = only_read m _ _
reading_keeps m t (cmd.ZRangeByScore a b c d e f) h = only_read m _ _
reading_keeps m t _ h = cc
