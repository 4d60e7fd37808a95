-- Worked runs, as theorems that compute.
use Rattle.std.proofs.Common.{◌≡◌, ℕ, ◌-◌, ◌*◌, ◌^◌, List, [], ◌∷◌, refl, map}
use Rattle.std.specs.Prelude.{codes, pos, negsuc, ℤ, Some, None, true, false}
use Rattle.std.specs.Fmt.{digits}
use Rattle.kv_base.specs.Map.{Bytes, empty, get, insert, remove, keep, size}
use Rattle.kv_base.specs.Number.{read_int}
use Rattle.redis_model.specs.declared.reply.Reply.TheVariants as reply
use Rattle.redis_model.specs.declared.reply.TypeWord.TheVariants as word
use Rattle.redis_model.specs.declared.reply.ReplyError.TheVariants as error
use Rattle.redis_model.specs.declared.command.Command.{Command}
use Rattle.redis_model.specs.declared.command.Command.TheVariants as cmd
use Rattle.redis_model.specs.declared.command.When.TheVariants as when
use Rattle.redis_model.specs.declared.command.Expiry.{Expiry}
use Rattle.redis_model.specs.declared.command.Expiry.TheVariants as expiry
use Rattle.redis_model.specs.declared.command.Cmds.TheVariants as cmds
use Rattle.redis_model.specs.declared.command.ZAddHow.{ZAddHow}
use Rattle.redis_model.specs.declared.history.Step.TheVariants.{Call, Exec, PinNow, PinnedRead, PinnedRefused, Unpin}
use Rattle.redis_model.specs.Value.{alive}
use Rattle.redis_model.specs.Outcome.{bulks, number}
use Rattle.redis_model.specs.Apply.{apply, carried_out}
use Rattle.redis_model.specs.Machine.{start, step, replies, apply_alive}
use Rattle.redis_model.proofs.Calls.{calls, set, ok, null, bulk, int, refused, a, b, h, l, n, s, t, z}

-- an overflow leaves the counter
incr_stops_at_the_greatest_number : calls ((5, set n (codes "9223372036854775807"))
    ∷ (5, cmd.Incr n 0)
    ∷ (5, cmd.Get n 0) ∷ [])
    ≡ ok ∷ refused error.Overflow ∷ bulk (codes "9223372036854775807") ∷ []
unfolding empty get insert remove keep size alive read_int digits apply carried_out step apply_alive
incr_stops_at_the_greatest_number = refl

-- a number has one spelling
another_spelling_is_no_number : calls ((5, set n (codes "-0"))
    ∷ (5, cmd.Incr n 0)
    ∷ (5, set n (codes "+1"))
    ∷ (5, cmd.Incr n 0)
    ∷ (5, set n (codes "01"))
    ∷ (5, cmd.Incr n 0) ∷ [])
    ≡ ok ∷ refused error.NotInt ∷ ok ∷ refused error.NotInt ∷ ok ∷ refused error.NotInt ∷ []
unfolding empty get insert remove keep size alive read_int digits apply carried_out step apply_alive
another_spelling_is_no_number = refl

-- a key of another type, and the same key after its deadline
a_list_is_no_string_until_it_expires : calls ((100, cmd.LPush l (codes "x" ∷ []) 0)
    ∷ (100, cmd.Get l 0)
    ∷ (100, cmd.PExpire l (expiry.After (pos 10)) 0)
    ∷ (110, cmd.Get l 0) ∷ [])
    ≡ int 1 ∷ refused error.WrongType ∷ int 1 ∷ null ∷ []
unfolding empty get insert remove keep size alive read_int digits apply carried_out step apply_alive
a_list_is_no_string_until_it_expires = refl

-- there is 1 ms left, and then no key
a_key_expires_at_its_deadline : calls ((100, cmd.Set a (codes "1") when.Any (expiry.After (pos 10)) 0)
    ∷ (109, cmd.PTtl a 0)
    ∷ (110, cmd.PTtl a 0)
    ∷ (110, cmd.Exists (a ∷ a ∷ []) 0) ∷ [])
    ≡ ok ∷ int 1 ∷ Some (reply.Int (negsuc 1)) ∷ int 0 ∷ []
unfolding empty get insert remove keep size alive read_int digits apply carried_out step apply_alive
a_key_expires_at_its_deadline = refl

-- nothing of the first hash is in the second one
a_transaction_ends_a_hash_and_begins_another : replies start (Exec 5 0 (cmd.HSet h (a ∷ []) (codes "1" ∷ []) 0 ∷ cmd.Del (h ∷ []) 0 ∷ cmd.HSet h (b ∷ []) (codes "2" ∷ []) 0 ∷ []) ∷ Call 5 0 (cmd.HGetAll h 0) ∷ [])
    ≡ Some (reply.Array (number 1 ∷ number 1 ∷ number 1 ∷ [])) ∷ Some (bulks (b ∷ codes "2" ∷ [])) ∷ []
unfolding empty get insert remove keep size alive read_int digits apply carried_out step apply_alive
a_transaction_ends_a_hash_and_begins_another = refl

abbrev plain : ZAddHow
plain = record { when = when.Any; changed = false; incr = false }

abbrev z_add : List (ℤ × Bytes) → Command
z_add es = cmd.ZAdd z (map (λ e. e.0) es) (map (λ e. e.1) es) plain 0

-- the range of scores, and the order
members_of_one_score_stand_by_their_bytes : calls ((5, z_add ((pos (2 ^ 53), b) ∷ (negsuc (2 ^ 53 - 1), a) ∷ []))
    ∷ (5, z_add ((pos 0, codes "y") ∷ (pos 0, codes "x") ∷ []))
    ∷ (5, cmd.ZRange z (pos 0) (negsuc 0) false 0)
    ∷ (5, cmd.ZPopMin (codes "none") None 0) ∷ [])
    ≡ int 2 ∷ int 2 ∷ Some (bulks (a ∷ codes "x" ∷ codes "y" ∷ b ∷ [])) ∷ Some (bulks []) ∷ []
unfolding empty get insert remove keep size alive read_int digits apply carried_out step apply_alive
members_of_one_score_stand_by_their_bytes = refl

-- a field and a member that come twice
the_last_of_repeated_pairs_holds : calls ((5, cmd.HSet h (a ∷ a ∷ []) (codes "1" ∷ codes "2" ∷ []) 0)
    ∷ (5, cmd.HGet h a 0)
    ∷ (5, cmd.ZAdd z (pos 1 ∷ pos 2 ∷ []) (a ∷ a ∷ []) (record { when = when.Any; changed = true; incr = false }) 0)
    ∷ (5, cmd.ZScore z a 0) ∷ [])
    ≡ int 1 ∷ bulk (codes "2") ∷ int 2 ∷ bulk (codes "2") ∷ []
unfolding empty get insert remove keep size alive read_int digits apply carried_out step apply_alive
the_last_of_repeated_pairs_holds = refl

-- the item comes back to its list
a_list_of_one_item_can_be_turned : calls ((5, cmd.RPush l (a ∷ []) 0)
    ∷ (5, cmd.RPopLPush l l 0)
    ∷ (5, cmd.LRange l (pos 0) (negsuc 0) 0) ∷ [])
    ≡ int 1 ∷ bulk a ∷ Some (bulks (a ∷ [])) ∷ []
unfolding empty get insert remove keep size alive read_int digits apply carried_out step apply_alive
a_list_of_one_item_can_be_turned = refl

-- a pin, what it refuses, and its end
a_caller_keeps_one_pin : replies start (PinNow 5 0 ∷ PinNow 5 0 ∷ PinnedRefused 5 0 (cmds.One (set a (codes "1"))) ∷ Unpin 5 0 ∷ Unpin 5 0 ∷ [])
    ≡ ok ∷ refused error.AlreadyPinned ∷ refused error.Pinned ∷ ok ∷ refused error.NotPinned ∷ []
unfolding empty get insert remove keep size alive read_int digits apply carried_out step apply_alive
a_caller_keeps_one_pin = refl

-- what others write later, and what expires later, is not seen under the pin
a_pin_keeps_keys_and_moment : replies start (Call 5 1 (cmd.Set a (codes "1") when.Any (expiry.At (pos 9)) 0) ∷ PinNow 6 0 ∷ Call 10 1 (set b (codes "2")) ∷ PinnedRead 11 0 (cmd.MGet (a ∷ b ∷ []) 0) ∷ PinnedRead 12 0 (cmd.PTtl a 0) ∷ [])
    ≡ ok ∷ ok ∷ ok ∷ Some (reply.Array (reply.Bulk (codes "1") ∷ reply.Null ∷ [])) ∷ int 3 ∷ []
unfolding empty get insert remove keep size alive read_int digits apply carried_out step apply_alive
a_pin_keeps_keys_and_moment = refl

-- no key, and no such place
lset_wants_a_key_and_a_place : calls ((5, cmd.LSet (codes "none") (pos 0) a 0)
    ∷ (5, cmd.RPush l (a ∷ []) 0)
    ∷ (5, cmd.LSet l (pos 3) a 0) ∷ [])
    ≡ refused error.NoSuchKey ∷ int 1 ∷ refused error.IndexRange ∷ []
unfolding empty get insert remove keep size alive read_int digits apply carried_out step apply_alive
lset_wants_a_key_and_a_place = refl

-- no members leave no key
an_empty_set_is_not_stored : calls ((5, cmd.SInterStore s (codes "none" ∷ []) 0)
    ∷ (5, cmd.Exists (s ∷ []) 0) ∷ [])
    ≡ int 0 ∷ int 0 ∷ []
unfolding empty get insert remove keep size alive read_int digits apply carried_out step apply_alive
an_empty_set_is_not_stored = refl

-- NX finds the key, and XX does
set_if_absent_and_if_present : calls ((5, cmd.Set a (codes "1") when.IfAbsent expiry.None 0)
    ∷ (5, cmd.Set a (codes "2") when.IfAbsent expiry.None 0)
    ∷ (5, cmd.Set a (codes "3") when.IfPresent expiry.Keep 0)
    ∷ (5, cmd.TypeOf a 0)
    ∷ (5, cmd.Del (a ∷ a ∷ []) 0) ∷ [])
    ≡ ok ∷ null ∷ ok ∷ Some (reply.Word word.Str) ∷ int 1 ∷ []
unfolding empty get insert remove keep size alive read_int digits apply carried_out step apply_alive
set_if_absent_and_if_present = refl

abbrev cart : Bytes
cart = codes "cart:7"

abbrev recent : Bytes
recent = codes "recent:7"

abbrev in_seconds : ℕ → Expiry
in_seconds i = expiry.After (pos (i * 1000))

-- a shop's cart, what was seen last, and what sells
a_cart_lives_for_half_an_hour : calls ((5, cmd.HSet cart (codes "sku1" ∷ codes "sku2" ∷ codes "sku3" ∷ codes "sku4" ∷ codes "sku5" ∷ codes "note" ∷ []) (codes "2" ∷ codes "1" ∷ codes "1" ∷ codes "5" ∷ codes "1" ∷ codes "gift" ∷ []) 0)
    ∷ (5, cmd.Expire cart (in_seconds 1800) 0)
    ∷ (5, cmd.LPush recent (codes "p1" ∷ codes "p2" ∷ codes "p3" ∷ []) 0)
    ∷ (5, cmd.LTrim recent (pos 0) (pos 99) 0)
    ∷ (5, cmd.ZIncrBy (codes "rank") (pos 1) (codes "p3") 0)
    ∷ (5, cmd.Ttl cart 0) ∷ [])
    ≡ int 6 ∷ int 1 ∷ int 3 ∷ ok ∷ bulk (codes "1") ∷ int 1800 ∷ []
unfolding empty get insert remove keep size alive read_int digits apply carried_out step apply_alive
a_cart_lives_for_half_an_hour = refl

-- what is in both, in one, in the first alone
set_algebra_is_by_bytes : calls ((5, cmd.SAdd s (codes "c" ∷ a ∷ b ∷ a ∷ []) 0)
    ∷ (5, cmd.SAdd t (b ∷ codes "d" ∷ []) 0)
    ∷ (5, cmd.SInter (s ∷ t ∷ []) 0)
    ∷ (5, cmd.SUnion (s ∷ t ∷ []) 0)
    ∷ (5, cmd.SDiff (s ∷ t ∷ []) 0)
    ∷ (5, cmd.SMove s t a 0)
    ∷ (5, cmd.SMembers t 0)
    ∷ (5, cmd.SRem s (b ∷ codes "c" ∷ []) 0)
    ∷ (5, cmd.TypeOf s 0) ∷ [])
    ≡ int 3 ∷ int 2 ∷ Some (bulks (b ∷ [])) ∷ Some (bulks (a ∷ b ∷ codes "c" ∷ codes "d" ∷ [])) ∷ Some (bulks (a ∷ codes "c" ∷ [])) ∷ int 1 ∷ Some (bulks (a ∷ b ∷ codes "d" ∷ [])) ∷ int 2 ∷ Some (reply.Word word.None) ∷ []
unfolding empty get insert remove keep size alive read_int digits apply carried_out step apply_alive
set_algebra_is_by_bytes = refl
