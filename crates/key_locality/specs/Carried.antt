-- What a command comes to depends on its own keys alone.
use Rattle.std.proofs.Common.{ℕ, [], ◌∷◌, refl}
use Rattle.std.specs.Prelude.{pos, negsuc, neg_ℤ}
use Rattle.redis_model.specs.declared.command.Command.{Command}
use Rattle.redis_model.specs.declared.command.Command.TheVariants as cmd
use Rattle.redis_model.specs.declared.command.End.TheVariants.{Left, Right}
use Rattle.redis_model.specs.declared.command.When.TheVariants as when
use Rattle.redis_model.specs.Value.{RedisMap}
use Rattle.redis_model.specs.Outcome.{hashes, lists, sets, sorted_sets}
use Rattle.redis_model.specs.Hashes.{set_fields, add_field, remove_fields, raise_field}
use Rattle.redis_model.specs.Lists.{push_items, pop_item, trim}
use Rattle.redis_model.specs.Sets.{add_members, remove_members, inter, union, diff}
use Rattle.redis_model.specs.SortedSets.{set_scores, raise_score, remove_scored, remove_ranks, remove_between, pop_lowest, pop_highest}
use Rattle.redis_model.specs.About.{keys_of}
use Rattle.redis_model.specs.Apply.{carried_out}
use Rattle.key_locality.specs.Agree.{AgreeOn, SameMoment, Alike}
use Rattle.key_locality.specs.Alike.{among_first, among_later, agree_first, read_alone, changed_alone}
use Rattle.key_locality.specs.Strings.{set_alike, set_nx_alike, read_alike, get_set_alike, get_del_alike, m_get_alike, m_set_alike, append_alike, str_len_alike, get_range_alike, incr_alike}
use Rattle.key_locality.specs.Keys.{del_alike, exists_alike, type_of_alike, expire_alike, ttl_alike, p_ttl_alike, persist_alike}
use Rattle.key_locality.specs.Lists.{push_x_alike, l_set_alike, l_move_alike}
use Rattle.key_locality.specs.Sets.{s_move_alike, combined_alike, stored_alike}

-- Carried out on maps that agree on its keys, a command comes to one error, or to one reply and maps that agree on its keys.
pub carried_alike : (m n : RedisMap) (t u : ℕ) (c : Command) → AgreeOn (keys_of c) m n → SameMoment c t u → Alike (keys_of c) (carried_out m t c) (carried_out n u c)
unfolding carried_out
carried_alike m n t u (cmd.Ping v w) agree clock = (refl, agree)
carried_alike m n t u (cmd.Echo v w) agree clock = (refl, agree)
carried_alike m n t u (cmd.Select i w) agree clock = (refl, agree)
carried_alike m n t u (cmd.Get k w) agree clock = read_alike (k ∷ []) m n agree k (agree_first k [] m n agree)
carried_alike m n t u (cmd.Set k v c x w) agree clock = set_alike (k ∷ []) m n agree k (agree_first k [] m n agree) v c x
carried_alike m n t u (cmd.SetNx k v w) agree clock = set_nx_alike (k ∷ []) m n agree k (agree_first k [] m n agree) v
carried_alike m n t u (cmd.SetEx k x v w) agree clock = set_alike (k ∷ []) m n agree k (agree_first k [] m n agree) v when.Any x
carried_alike m n t u (cmd.PSetEx k x v w) agree clock = set_alike (k ∷ []) m n agree k (agree_first k [] m n agree) v when.Any x
carried_alike m n t u (cmd.GetSet k v w) agree clock = get_set_alike (k ∷ []) m n agree k (agree_first k [] m n agree) v
carried_alike m n t u (cmd.GetDel k w) agree clock = get_del_alike (k ∷ []) m n agree k (agree_first k [] m n agree)
carried_alike m n t u (cmd.MGet ks w) agree clock = m_get_alike ks m n agree
carried_alike m n t u (cmd.MSet ks vs w) agree clock = m_set_alike ks ks vs m n agree
carried_alike m n t u (cmd.Append k v w) agree clock = append_alike (k ∷ []) m n agree k (agree_first k [] m n agree) v
carried_alike m n t u (cmd.StrLen k w) agree clock = str_len_alike (k ∷ []) m n agree k (agree_first k [] m n agree)
carried_alike m n t u (cmd.GetRange k a b w) agree clock = get_range_alike (k ∷ []) m n agree k (agree_first k [] m n agree) a b
carried_alike m n t u (cmd.Incr k w) agree clock = incr_alike (k ∷ []) m n agree k (agree_first k [] m n agree) (pos 1)
carried_alike m n t u (cmd.Decr k w) agree clock = incr_alike (k ∷ []) m n agree k (agree_first k [] m n agree) (negsuc 0)
carried_alike m n t u (cmd.IncrBy k i w) agree clock = incr_alike (k ∷ []) m n agree k (agree_first k [] m n agree) i
carried_alike m n t u (cmd.DecrBy k i w) agree clock = incr_alike (k ∷ []) m n agree k (agree_first k [] m n agree) (neg_ℤ i)
carried_alike m n t u (cmd.Del ks w) agree clock = del_alike ks m n agree
carried_alike m n t u (cmd.Exists ks w) agree clock = exists_alike ks m n agree
carried_alike m n t u (cmd.TypeOf k w) agree clock = type_of_alike (k ∷ []) m n agree k (agree_first k [] m n agree)
carried_alike m n t u (cmd.Expire k x w) agree clock = expire_alike (k ∷ []) m n agree k (agree_first k [] m n agree) x
carried_alike m n t u (cmd.PExpire k x w) agree clock = expire_alike (k ∷ []) m n agree k (agree_first k [] m n agree) x
carried_alike m n t u (cmd.ExpireAt k x w) agree clock = expire_alike (k ∷ []) m n agree k (agree_first k [] m n agree) x
carried_alike m n t u (cmd.PExpireAt k x w) agree clock = expire_alike (k ∷ []) m n agree k (agree_first k [] m n agree) x
carried_alike m n t u (cmd.Ttl k w) agree clock = ttl_alike (k ∷ []) m n agree k (agree_first k [] m n agree) t u (clock refl)
carried_alike m n t u (cmd.PTtl k w) agree clock = p_ttl_alike (k ∷ []) m n agree k (agree_first k [] m n agree) t u (clock refl)
carried_alike m n t u (cmd.Persist k w) agree clock = persist_alike (k ∷ []) m n agree k (agree_first k [] m n agree)
carried_alike m n t u (cmd.HSet k fs vs w) agree clock = changed_alone hashes m n k agree (set_fields fs vs)
carried_alike m n t u (cmd.HSetNx k f v w) agree clock = changed_alone hashes m n k agree (add_field f v)
carried_alike m n t u (cmd.HGet k f w) agree clock = read_alone hashes m n k agree _
carried_alike m n t u (cmd.HMGet k fs w) agree clock = read_alone hashes m n k agree _
carried_alike m n t u (cmd.HDel k fs w) agree clock = changed_alone hashes m n k agree (remove_fields fs)
carried_alike m n t u (cmd.HLen k w) agree clock = read_alone hashes m n k agree _
carried_alike m n t u (cmd.HExists k f w) agree clock = read_alone hashes m n k agree _
carried_alike m n t u (cmd.HStrLen k f w) agree clock = read_alone hashes m n k agree _
carried_alike m n t u (cmd.HGetAll k w) agree clock = read_alone hashes m n k agree _
carried_alike m n t u (cmd.HKeys k w) agree clock = read_alone hashes m n k agree _
carried_alike m n t u (cmd.HVals k w) agree clock = read_alone hashes m n k agree _
carried_alike m n t u (cmd.HIncrBy k f i w) agree clock = changed_alone hashes m n k agree (raise_field f i)
carried_alike m n t u (cmd.LPush k vs w) agree clock = changed_alone lists m n k agree (push_items Left vs)
carried_alike m n t u (cmd.RPush k vs w) agree clock = changed_alone lists m n k agree (push_items Right vs)
carried_alike m n t u (cmd.LPushX k vs w) agree clock = push_x_alike (k ∷ []) m n agree k (agree_first k [] m n agree) Left vs
carried_alike m n t u (cmd.RPushX k vs w) agree clock = push_x_alike (k ∷ []) m n agree k (agree_first k [] m n agree) Right vs
carried_alike m n t u (cmd.LPop k w) agree clock = changed_alone lists m n k agree (pop_item Left)
carried_alike m n t u (cmd.RPop k w) agree clock = changed_alone lists m n k agree (pop_item Right)
carried_alike m n t u (cmd.LLen k w) agree clock = read_alone lists m n k agree _
carried_alike m n t u (cmd.LIndex k i w) agree clock = read_alone lists m n k agree _
carried_alike m n t u (cmd.LSet k i v w) agree clock = l_set_alike (k ∷ []) m n agree k (agree_first k [] m n agree) i v
carried_alike m n t u (cmd.LRange k a b w) agree clock = read_alone lists m n k agree _
carried_alike m n t u (cmd.LTrim k a b w) agree clock = changed_alone lists m n k agree (trim a b)
carried_alike m n t u (cmd.RPopLPush a b w) agree clock = l_move_alike (a ∷ b ∷ []) m n agree a b (among_first a (b ∷ [])) (among_later a b (b ∷ []) (among_first b [])) Right Left
carried_alike m n t u (cmd.LMove a b from to w) agree clock = l_move_alike (a ∷ b ∷ []) m n agree a b (among_first a (b ∷ [])) (among_later a b (b ∷ []) (among_first b [])) from to
carried_alike m n t u (cmd.SAdd k xs w) agree clock = changed_alone sets m n k agree (add_members xs)
carried_alike m n t u (cmd.SRem k xs w) agree clock = changed_alone sets m n k agree (remove_members xs)
carried_alike m n t u (cmd.SIsMember k x w) agree clock = read_alone sets m n k agree _
carried_alike m n t u (cmd.SMIsMember k xs w) agree clock = read_alone sets m n k agree _
carried_alike m n t u (cmd.SCard k w) agree clock = read_alone sets m n k agree _
carried_alike m n t u (cmd.SMembers k w) agree clock = read_alone sets m n k agree _
carried_alike m n t u (cmd.SMove a b x w) agree clock = s_move_alike (a ∷ b ∷ []) m n agree a b (among_first a (b ∷ [])) (among_later a b (b ∷ []) (among_first b [])) x
carried_alike m n t u (cmd.SInter ks w) agree clock = combined_alike inter ks m n agree
carried_alike m n t u (cmd.SUnion ks w) agree clock = combined_alike union ks m n agree
carried_alike m n t u (cmd.SDiff ks w) agree clock = combined_alike diff ks m n agree
carried_alike m n t u (cmd.SInterStore d ks w) agree clock = stored_alike inter d ks m n agree
carried_alike m n t u (cmd.SUnionStore d ks w) agree clock = stored_alike union d ks m n agree
carried_alike m n t u (cmd.SDiffStore d ks w) agree clock = stored_alike diff d ks m n agree
carried_alike m n t u (cmd.ZAdd k ss xs how w) agree clock = changed_alone sorted_sets m n k agree (set_scores ss xs how)
carried_alike m n t u (cmd.ZRem k xs w) agree clock = changed_alone sorted_sets m n k agree (remove_scored xs)
carried_alike m n t u (cmd.ZScore k x w) agree clock = read_alone sorted_sets m n k agree _
carried_alike m n t u (cmd.ZCard k w) agree clock = read_alone sorted_sets m n k agree _
carried_alike m n t u (cmd.ZCount k low high w) agree clock = read_alone sorted_sets m n k agree _
carried_alike m n t u (cmd.ZRank k x w) agree clock = read_alone sorted_sets m n k agree _
carried_alike m n t u (cmd.ZRevRank k x w) agree clock = read_alone sorted_sets m n k agree _
carried_alike m n t u (cmd.ZRange k a b s w) agree clock = read_alone sorted_sets m n k agree _
carried_alike m n t u (cmd.ZRevRange k a b s w) agree clock = read_alone sorted_sets m n k agree _
carried_alike m n t u (cmd.ZRangeByScore k low high s l w) agree clock = read_alone sorted_sets m n k agree _
carried_alike m n t u (cmd.ZIncrBy k s x w) agree clock = changed_alone sorted_sets m n k agree (raise_score s x)
carried_alike m n t u (cmd.ZRemRangeByRank k a b w) agree clock = changed_alone sorted_sets m n k agree (remove_ranks a b)
carried_alike m n t u (cmd.ZRemRangeByScore k low high w) agree clock = changed_alone sorted_sets m n k agree (remove_between low high)
carried_alike m n t u (cmd.ZPopMin k i w) agree clock = changed_alone sorted_sets m n k agree (pop_lowest i)
carried_alike m n t u (cmd.ZPopMax k i w) agree clock = changed_alone sorted_sets m n k agree (pop_highest i)
