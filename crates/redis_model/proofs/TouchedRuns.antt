-- Which keys commands touch, as theorems that compute.
use Rattle.std.proofs.Common.{◌≡◌, [], ◌∷◌, refl}
use Rattle.std.specs.Prelude.{codes, pos, negsuc, true, false}
use Rattle.std.specs.Fmt.{digits}
use Rattle.kv_base.specs.Map.{empty, get, insert, remove, keep, size}
use Rattle.kv_base.specs.Number.{read_int}
use Rattle.redis_model.specs.declared.command.Command.TheVariants as cmd
use Rattle.redis_model.specs.declared.command.When.TheVariants as when
use Rattle.redis_model.specs.declared.command.End.TheVariants.{Left}
use Rattle.redis_model.specs.declared.command.Expiry.TheVariants as expiry
use Rattle.redis_model.specs.Value.{alive}
use Rattle.redis_model.specs.Apply.{apply, carried_out}
use Rattle.redis_model.specs.Touched.{touched}
use Rattle.redis_model.specs.Machine.{step, apply_alive}
use Rattle.redis_model.proofs.Calls.{keys_after, set, a, b, h, l, n, s, t, z}

-- SET writes its key also where nothing differs
setting_the_same_value_touches : touched (keys_after ((5, set a b) ∷ [])) 5 (set a b) ≡ a ∷ []
unfolding empty get insert remove keep size alive read_int digits apply carried_out touched step apply_alive
setting_the_same_value_touches = refl

-- NX finds the key
set_that_finds_its_key_touches_nothing : touched (keys_after ((5, set a b) ∷ [])) 5 (cmd.Set a b when.IfAbsent expiry.None 0) ≡ []
unfolding empty get insert remove keep size alive read_int digits apply carried_out touched step apply_alive
set_that_finds_its_key_touches_nothing = refl

-- a list is no string
an_error_touches_nothing : touched (keys_after ((5, cmd.RPush l (a ∷ []) 0) ∷ [])) 5 (cmd.Append l b 0) ≡ []
unfolding empty get insert remove keep size alive read_int digits apply carried_out touched step apply_alive
an_error_touches_nothing = refl

-- in the order of the words
each_key_is_touched_once : touched (keys_after ((5, set a b) ∷ (5, set b b) ∷ [])) 5 (cmd.Del (b ∷ n ∷ a ∷ b ∷ []) 0) ≡ b ∷ a ∷ []
unfolding empty get insert remove keep size alive read_int digits apply carried_out touched step apply_alive
each_key_is_touched_once = refl

-- HINCRBY writes its key also where nothing differs
hincrby_by_zero_touches : touched (keys_after ((5, cmd.HSet h (a ∷ []) (codes "1" ∷ []) 0) ∷ [])) 5 (cmd.HIncrBy h a (pos 0) 0) ≡ h ∷ []
unfolding empty get insert remove keep size alive read_int digits apply carried_out touched step apply_alive
hincrby_by_zero_touches = refl

-- the score stays
zincrby_by_zero_touches_nothing : touched (keys_after ((5, cmd.ZIncrBy z (pos 1) a 0) ∷ [])) 5 (cmd.ZIncrBy z (pos 0) a 0) ≡ []
unfolding empty get insert remove keep size alive read_int digits apply carried_out touched step apply_alive
zincrby_by_zero_touches_nothing = refl

-- the score stays
zadd_of_the_same_score_touches_nothing : touched (keys_after ((5, cmd.ZIncrBy z (pos 1) a 0) ∷ [])) 5 (cmd.ZAdd z (pos 1 ∷ []) (a ∷ []) (record { when = when.Any; changed = true; incr = false }) 0) ≡ []
unfolding empty get insert remove keep size alive read_int digits apply carried_out touched step apply_alive
zadd_of_the_same_score_touches_nothing = refl

-- all items stay
ltrim_that_cuts_nothing_touches_nothing : touched (keys_after ((5, cmd.RPush l (a ∷ []) 0) ∷ [])) 5 (cmd.LTrim l (pos 0) (negsuc 0) 0) ≡ []
unfolding empty get insert remove keep size alive read_int digits apply carried_out touched step apply_alive
ltrim_that_cuts_nothing_touches_nothing = refl

-- the item is moved, and the key is named once
turning_a_list_of_one_item_touches_it : touched (keys_after ((5, cmd.RPush l (a ∷ []) 0) ∷ [])) 5 (cmd.LMove l l Left Left 0) ≡ l ∷ []
unfolding empty get insert remove keep size alive read_int digits apply carried_out touched step apply_alive
turning_a_list_of_one_item_touches_it = refl

-- the source goes
moving_an_item_touches_both_keys : touched (keys_after ((5, cmd.RPush l (a ∷ []) 0) ∷ [])) 5 (cmd.RPopLPush l n 0) ≡ l ∷ n ∷ []
unfolding empty get insert remove keep size alive read_int digits apply carried_out touched step apply_alive
moving_an_item_touches_both_keys = refl

-- null is answered
moving_from_no_key_touches_nothing : touched (keys_after ((5, cmd.RPush l (a ∷ []) 0) ∷ [])) 5 (cmd.RPopLPush n l 0) ≡ []
unfolding empty get insert remove keep size alive read_int digits apply carried_out touched step apply_alive
moving_from_no_key_touches_nothing = refl

-- the destination stays
smove_to_a_set_that_has_the_member_touches_the_source : touched (keys_after ((5, cmd.SAdd s (a ∷ b ∷ []) 0) ∷ (5, cmd.SAdd t (a ∷ []) 0) ∷ [])) 5 (cmd.SMove s t a 0) ≡ s ∷ []
unfolding empty get insert remove keep size alive read_int digits apply carried_out touched step apply_alive
smove_to_a_set_that_has_the_member_touches_the_source = refl

-- nothing changes
smove_within_one_set_touches_nothing : touched (keys_after ((5, cmd.SAdd s (a ∷ []) 0) ∷ [])) 5 (cmd.SMove s s a 0) ≡ []
unfolding empty get insert remove keep size alive read_int digits apply carried_out touched step apply_alive
smove_within_one_set_touches_nothing = refl

-- 0 is answered
persist_without_a_deadline_touches_nothing : touched (keys_after ((5, set a b) ∷ [])) 5 (cmd.Persist a 0) ≡ []
unfolding empty get insert remove keep size alive read_int digits apply carried_out touched step apply_alive
persist_without_a_deadline_touches_nothing = refl

-- also where the deadline stays
expire_of_a_key_touches_it : touched (keys_after ((5, cmd.Set a b when.Any (expiry.At (pos 9)) 0) ∷ [])) 5 (cmd.PExpireAt a (expiry.At (pos 9)) 0) ≡ a ∷ []
unfolding empty get insert remove keep size alive read_int digits apply carried_out touched step apply_alive
expire_of_a_key_touches_it = refl

-- the destination goes
an_empty_result_is_stored_over_a_key : touched (keys_after ((5, set a b) ∷ [])) 5 (cmd.SUnionStore a (s ∷ t ∷ []) 0) ≡ a ∷ []
unfolding empty get insert remove keep size alive read_int digits apply carried_out touched step apply_alive
an_empty_result_is_stored_over_a_key = refl

-- nothing is there before and after
an_empty_result_over_no_key_touches_nothing : touched (keys_after ([])) 5 (cmd.SUnionStore a (s ∷ t ∷ []) 0) ≡ []
unfolding empty get insert remove keep size alive read_int digits apply carried_out touched step apply_alive
an_empty_result_over_no_key_touches_nothing = refl

-- a STORE form writes its key also where nothing differs
the_same_result_stored_again_touches : touched (keys_after ((5, cmd.SAdd s (a ∷ []) 0) ∷ [])) 5 (cmd.SUnionStore s (s ∷ t ∷ []) 0) ≡ s ∷ []
unfolding empty get insert remove keep size alive read_int digits apply carried_out touched step apply_alive
the_same_result_stored_again_touches = refl

-- GET only reads
reading_touches_nothing : touched (keys_after ((5, set a b) ∷ [])) 5 (cmd.Get a 0) ≡ []
unfolding empty get insert remove keep size alive read_int digits apply carried_out touched step apply_alive
reading_touches_nothing = refl
