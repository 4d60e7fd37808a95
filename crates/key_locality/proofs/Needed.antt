-- Each premise of the laws is needed: runs that would contradict them without it, as theorems that compute.
use Rattle.std.proofs.Common.{◌≡◌, refl, [], ◌∷◌}
use Rattle.std.specs.Prelude.{codes, pos, Some, None}
use Rattle.kv_base.specs.Map.{Bytes, empty, get, insert, keep}
use Rattle.redis_model.specs.declared.reply.Reply.TheVariants as reply
use Rattle.redis_model.specs.declared.command.Command.TheVariants as cmd
use Rattle.redis_model.specs.declared.command.Expiry.TheVariants as expiry
use Rattle.redis_model.specs.Value.{Str, RedisMap, alive, deadline_at}
use Rattle.redis_model.specs.Apply.{apply, carried_out}
use Rattle.redis_model.specs.Machine.{apply_alive}
use Rattle.redis_model.specs.Deadlines.{deadlines}

abbrev a : Bytes
a = codes "a"

-- one key, which expires at 10
abbrev held : RedisMap
held = insert empty a (record { value = Str (codes "1"); deadline = Some 10 })

-- PTTL reads the clock
pttl_reads_the_clock : ((apply held 4 (cmd.PTtl a 0)).0 ≡ reply.Int (pos 6)) × ((apply held 5 (cmd.PTtl a 0)).0 ≡ reply.Int (pos 5))
unfolding empty get insert apply carried_out
pttl_reads_the_clock = (refl, refl)

-- a deadline that the key had passes
get_until_the_deadline : ((apply_alive held 9 (cmd.Get a 0)).0 ≡ reply.Bulk (codes "1")) × ((apply_alive held 10 (cmd.Get a 0)).0 ≡ reply.Null)
unfolding empty get insert keep alive apply carried_out apply_alive
get_until_the_deadline = (refl, refl)

-- a deadline that the command gives the key passes: it is one of the command's, and what is left differs
given_deadline_counts : deadlines (alive held 4) 4 (cmd.PExpireAt a (expiry.At (pos 8)) 0) ≡ Some 10 ∷ Some 8 ∷ []
unfolding empty get insert keep alive apply carried_out
given_deadline_counts = refl

left_until_the_given_deadline : (deadline_at (apply_alive held 4 (cmd.PExpireAt a (expiry.At (pos 8)) 0)).1 a ≡ Some 8) × (get (apply_alive held 8 (cmd.PExpireAt a (expiry.At (pos 8)) 0)).1 a ≡ None)
unfolding empty get insert keep alive apply carried_out apply_alive
left_until_the_given_deadline = (refl, refl)

-- a deadline that has passed already is not in between: the key is gone at both moments
passed_deadline_removes_the_key : (get (apply_alive held 4 (cmd.PExpireAt a (expiry.At (pos 3)) 0)).1 a ≡ None) × (get (apply_alive held 9 (cmd.PExpireAt a (expiry.At (pos 3)) 0)).1 a ≡ None)
unfolding empty get insert keep alive apply carried_out apply_alive
passed_deadline_removes_the_key = (refl, refl)
