-- Which keys a command touches.
use Rattle.std.specs.Prelude.{ℕ, ◌==◌, Bool, true, false, not, ◌&&◌, ◌||◌, if◌then◌else◌, List, [], ◌∷◌, filter, Option, Some, None, Ok, Err}
use Rattle.std.specs.Cmp.Lexicographic.{pointwise}
use Rattle.std.specs.Ordering.{int_eq}
use Rattle.kv_base.specs.Map.{Bytes, same, get, has}
use Rattle.redis_model.specs.declared.reply.Reply.{Reply}
use Rattle.redis_model.specs.declared.command.Command.{Command}
use Rattle.redis_model.specs.declared.command.Command.TheVariants as cmd
use Rattle.redis_model.specs.Value.{Value, Str, Hash, ListOf, SetOf, ZSet, Entry, RedisMap}
use Rattle.redis_model.specs.Outcome.{Outcome}
use Rattle.redis_model.specs.Strings.{allowed}
use Rattle.redis_model.specs.Keys.{among}
use Rattle.redis_model.specs.About.{keys_of}
use Rattle.redis_model.specs.Apply.{carried_out}

-- ---- what differs

-- whether two values, two deadlines or two entries are equal
abbrev pub same_value : Value → Value → Bool
same_value (Str a) (Str b) = same a b
same_value (Hash a) (Hash b) = pointwise (λ e f. same e.0 f.0 && same e.1 f.1) a.entries b.entries
same_value (ListOf a) (ListOf b) = pointwise same a b
same_value (SetOf a) (SetOf b) = pointwise (λ e f. same e.0 f.0) a.entries b.entries
same_value (ZSet a) (ZSet b) = pointwise (λ e f. same e.0 f.0 && int_eq e.1 f.1) a.entries b.entries
same_value _ _ = false

abbrev pub same_deadline : Option ℕ → Option ℕ → Bool
same_deadline None None = true
same_deadline (Some d) (Some e) = d == e
same_deadline _ _ = false

abbrev pub same_entry : Option Entry → Option Entry → Bool
same_entry None None = true
same_entry (Some e) (Some f) = same_value e.value f.value && same_deadline e.deadline f.deadline
same_entry _ _ = false

-- the value or the deadline at this key is another one in the second map, or the key is in one of them alone
abbrev pub differs : RedisMap → RedisMap → Bytes → Bool
differs m n k = not (same_entry (get m k) (get n k))

-- ---- what is written again

-- a key, where it is there
abbrev pub if_there : RedisMap → Bytes → List Bytes
if_there m k = if has m k then k ∷ [] else []

-- The keys that a command writes also where nothing differs, where it led from the first map to the second one: SET and its
-- kin, counters and APPEND, HSET, HINCRBY, LSET, a deadline that is set, a moved item, and a result that is stored.
abbrev pub written_again : RedisMap → RedisMap → Command → List Bytes
written_again m n (cmd.Set k v c x w) = if allowed c (has m k) then k ∷ [] else []
written_again m n (cmd.SetEx k x v w) = k ∷ []
written_again m n (cmd.PSetEx k x v w) = k ∷ []
written_again m n (cmd.GetSet k v w) = k ∷ []
written_again m n (cmd.MSet ks vs w) = ks
written_again m n (cmd.Append k v w) = k ∷ []
written_again m n (cmd.Incr k w) = k ∷ []
written_again m n (cmd.Decr k w) = k ∷ []
written_again m n (cmd.IncrBy k i w) = k ∷ []
written_again m n (cmd.DecrBy k i w) = k ∷ []
written_again m n (cmd.Expire k x w) = if_there m k
written_again m n (cmd.PExpire k x w) = if_there m k
written_again m n (cmd.ExpireAt k x w) = if_there m k
written_again m n (cmd.PExpireAt k x w) = if_there m k
written_again m n (cmd.HSet k fs vs w) = k ∷ []
written_again m n (cmd.HIncrBy k f i w) = k ∷ []
written_again m n (cmd.LSet k i v w) = k ∷ []
written_again m n (cmd.RPopLPush a b w) = if has m a then a ∷ b ∷ [] else []
written_again m n (cmd.LMove a b from to w) = if has m a then a ∷ b ∷ [] else []
written_again m n (cmd.SInterStore d ks w) = if_there n d
written_again m n (cmd.SUnionStore d ks w) = if_there n d
written_again m n (cmd.SDiffStore d ks w) = if_there n d
written_again m n _ = []

-- ---- what is touched

-- each key once, at the first place where it stands
abbrev pub once : List Bytes → List Bytes
once [] = []
once (k ∷ ks) = k ∷ filter (λ q. not (same q k)) (once ks)

-- whether a key that a command names is touched, where the command led from the first map to the second one
abbrev pub is_touched : RedisMap → RedisMap → Command → Bytes → Bool
is_touched m n c k = among (written_again m n c) k || differs m n k

-- an error touches no key
abbrev pub touched_by : RedisMap → Command → Outcome (Reply × RedisMap) → List Bytes
touched_by m c (Ok r) = filter (is_touched m r.1 c) (once (keys_of c))
touched_by m c (Err e) = []

-- The keys that a command touches on the map m at the moment t, in the order of its words: those whose value or deadline
-- it changes, and those that it writes again. The rule is this server's own: Redis counts some commands that change
-- nothing as a touch, LTRIM among them, and others not. A key that only expires is not touched.
unfoldable pub touched : RedisMap → ℕ → Command → List Bytes
touched m t c = touched_by m c (carried_out m t c)
