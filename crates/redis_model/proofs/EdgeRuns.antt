-- Runs at the edges of the rules, as theorems that compute.
use Rattle.std.proofs.Common.{◌≡◌, ◌^◌, [], ◌∷◌, refl}
use Rattle.std.specs.Prelude.{codes, pos, negsuc, Some, true, false}
use Rattle.std.specs.Fmt.{digits}
use Rattle.kv_base.specs.Map.{empty, get, insert, remove, keep, size}
use Rattle.kv_base.specs.Number.{read_int}
use Rattle.redis_model.specs.declared.reply.Reply.TheVariants as reply
use Rattle.redis_model.specs.declared.reply.TypeWord.TheVariants as word
use Rattle.redis_model.specs.declared.reply.ReplyError.TheVariants as error
use Rattle.redis_model.specs.declared.command.Command.TheVariants as cmd
use Rattle.redis_model.specs.declared.command.When.{When}
use Rattle.redis_model.specs.declared.command.When.TheVariants as when
use Rattle.redis_model.specs.declared.command.Bound.TheVariants as bound
use Rattle.redis_model.specs.declared.command.Expiry.TheVariants as expiry
use Rattle.redis_model.specs.declared.command.ZAddHow.{ZAddHow}
use Rattle.redis_model.specs.Value.{alive}
use Rattle.redis_model.specs.Outcome.{bulks}
use Rattle.redis_model.specs.Apply.{apply, carried_out}
use Rattle.redis_model.specs.Machine.{step, apply_alive}
use Rattle.redis_model.proofs.Calls.{calls, set, ok, null, bulk, int, refused, a, l, n, z}

-- a list of one item that is turned keeps its deadline, and so does a counter that goes up
turning_and_counting_keep_the_deadline : calls ((5, cmd.RPush l (a ∷ []) 0) ∷ (5, cmd.PExpire l (expiry.After (pos 100)) 0) ∷ (6, cmd.RPopLPush l l 0) ∷ (7, cmd.PTtl l 0)
    ∷ (7, cmd.Set n (codes "41") when.Any (expiry.After (pos 10)) 0) ∷ (8, cmd.Incr n 0) ∷ (9, cmd.PTtl n 0) ∷ [])
    ≡ int 1 ∷ int 1 ∷ bulk a ∷ int 98 ∷ ok ∷ int 42 ∷ int 8 ∷ []
unfolding empty get insert remove keep size alive read_int digits apply carried_out step apply_alive
turning_and_counting_keep_the_deadline = refl

-- a deadline that has passed, one below 0, and one that the floor has passed already
a_passed_deadline_removes_the_key : calls ((50, set a (codes "1")) ∷ (50, cmd.Expire a (expiry.After (negsuc 0)) 0) ∷ (50, cmd.Get a 0) ∷ (50, cmd.PExpireAt a (expiry.At (negsuc 4)) 0)
    ∷ (20, cmd.Set a (codes "1") when.Any (expiry.After (pos 10)) 0) ∷ (20, cmd.Exists (a ∷ []) 0) ∷ [])
    ≡ ok ∷ int 1 ∷ null ∷ int 0 ∷ ok ∷ int 0 ∷ []
unfolding empty get insert remove keep size alive read_int digits apply carried_out step apply_alive
a_passed_deadline_removes_the_key = refl

-- places from the end, and ranges that reach over
places_count_from_both_ends : calls ((5, cmd.RPush l (codes "a" ∷ codes "b" ∷ codes "c" ∷ []) 0) ∷ (5, cmd.LPush l (codes "y" ∷ codes "x" ∷ []) 0) ∷ (5, cmd.LIndex l (negsuc 0) 0) ∷ (5, cmd.LIndex l (negsuc 5) 0)
    ∷ (5, cmd.LRange l (negsuc 99) (pos 1) 0) ∷ (5, cmd.LRange l (negsuc 99) (negsuc 89) 0) ∷ (5, cmd.LSet l (negsuc 0) (codes "d") 0) ∷ (5, cmd.LTrim l (pos 1) (negsuc 0) 0) ∷ (5, cmd.LRange l (pos 0) (pos 99) 0) ∷ (5, cmd.LTrim l (pos 5) (pos 9) 0) ∷ (5, cmd.TypeOf l 0) ∷ [])
    ≡ int 3 ∷ int 5 ∷ bulk (codes "c") ∷ null ∷ Some (bulks (codes "x" ∷ codes "y" ∷ [])) ∷ Some (bulks []) ∷ ok ∷ ok ∷ Some (bulks (codes "y" ∷ codes "a" ∷ codes "b" ∷ codes "d" ∷ [])) ∷ ok ∷ Some (reply.Word word.None) ∷ []
unfolding empty get insert remove keep size alive read_int digits apply carried_out step apply_alive
places_count_from_both_ends = refl

-- ranges of bytes, and APPEND of nothing to no key
ranges_of_bytes_and_empty_strings : calls ((5, set a (codes "hello")) ∷ (5, cmd.GetRange a (pos 1) (negsuc 1) 0) ∷ (5, cmd.GetRange a (negsuc 99) (negsuc 89) 0) ∷ (5, cmd.Append l [] 0) ∷ (5, cmd.TypeOf l 0) ∷ (5, cmd.MGet (a ∷ l ∷ z ∷ []) 0) ∷ [])
    ≡ ok ∷ bulk (codes "ell") ∷ bulk [] ∷ int 0 ∷ Some (reply.Word word.Str) ∷ Some (reply.Array (reply.Bulk (codes "hello") ∷ reply.Bulk [] ∷ reply.Null ∷ [])) ∷ []
unfolding empty get insert remove keep size alive read_int digits apply carried_out step apply_alive
ranges_of_bytes_and_empty_strings = refl

abbrev how : When → ZAddHow
how w = record { when = w; changed = false; incr = true }

-- ranks, bounds, a limit, and what INCR may not do
ranks_bounds_and_limits : calls ((5, cmd.ZAdd z (pos 3 ∷ pos 1 ∷ pos 2 ∷ []) (codes "c" ∷ codes "a" ∷ codes "b" ∷ []) (record { when = when.Any; changed = false; incr = false }) 0)
    ∷ (5, cmd.ZAdd z (pos 9 ∷ []) (codes "d" ∷ []) (how when.IfPresent) 0) ∷ (5, cmd.ZAdd z (pos 9 ∷ []) (codes "a" ∷ []) (how when.IfAbsent) 0) ∷ (5, cmd.ZIncrBy z (pos (2 ^ 53)) (codes "a") 0)
    ∷ (5, cmd.ZRank z (codes "b") 0) ∷ (5, cmd.ZRevRank z (codes "a") 0) ∷ (5, cmd.ZRangeByScore z (bound.Past (pos 1)) bound.Greatest true (Some (record { offset = pos 1; count = negsuc 0 })) 0)
    ∷ (5, cmd.ZCount z bound.Greatest bound.Least 0) ∷ (5, cmd.ZRevRange z (pos 0) (pos 0) true 0) ∷ (5, cmd.ZPopMax z (Some (pos 2)) 0) ∷ (5, cmd.ZRemRangeByRank z (pos 0) (negsuc 0) 0) ∷ (5, cmd.Exists (z ∷ []) 0) ∷ [])
    ≡ int 3 ∷ null ∷ null ∷ refused error.ScoreRange ∷ int 1 ∷ int 2 ∷ Some (bulks (codes "c" ∷ codes "3" ∷ [])) ∷ int 0 ∷ Some (bulks (codes "c" ∷ codes "3" ∷ [])) ∷ Some (bulks (codes "c" ∷ codes "3" ∷ codes "b" ∷ codes "2" ∷ [])) ∷ int 1 ∷ int 0 ∷ []
unfolding empty get insert remove keep size alive read_int digits apply carried_out step apply_alive
ranks_bounds_and_limits = refl

-- a source that is not there, and types
moves_want_a_source_of_their_type : calls ((5, set a (codes "1")) ∷ (5, cmd.RPopLPush l a 0) ∷ (5, cmd.SMove l a (codes "x") 0) ∷ (5, cmd.RPush l (codes "x" ∷ []) 0) ∷ (5, cmd.RPopLPush l a 0) ∷ (5, cmd.LLen l 0) ∷ (5, cmd.SAdd z (codes "x" ∷ []) 0) ∷ (5, cmd.SMove z z (codes "x") 0) ∷ (5, cmd.SMove z z (codes "y") 0) ∷ (5, cmd.SMove z a (codes "y") 0)
    ∷ (5, cmd.SUnionStore a (z ∷ n ∷ []) 0) ∷ (5, cmd.TypeOf a 0) ∷ (5, cmd.SInter (n ∷ l ∷ []) 0) ∷ [])
    ≡ ok ∷ null ∷ int 0 ∷ int 1 ∷ refused error.WrongType ∷ int 1 ∷ int 1 ∷ int 1 ∷ int 0 ∷ refused error.WrongType ∷ int 1 ∷ Some (reply.Word word.Set) ∷ refused error.WrongType ∷ []
unfolding empty get insert remove keep size alive read_int digits apply carried_out step apply_alive
moves_want_a_source_of_their_type = refl
