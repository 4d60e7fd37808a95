-- A command leaves each key that it does not name.
use Rattle.std.proofs.Common.{◌≡◌, ℕ, Bool, true, false, cond, ◌||◌, List, [], ◌∷◌, refl, ap, ◌∙◌}
use Rattle.std.specs.Prelude.{not, ℤ, pos, negsuc, neg_ℤ, unwrap_or, length, ◌++◌, Option, Some, None, Ok, Err, zip, fold, nat_lt, ◌==◌, is_some}
use Rattle.kv_base.specs.Map.{Bytes, Set, same, get, has, insert, remove, kept, get-insert, get-remove, get-keep}
use Rattle.redis_model.specs.declared.reply.Reply.{Reply}
use Rattle.redis_model.specs.declared.reply.ReplyError.TheVariants.{NotInt, TooLarge}
use Rattle.redis_model.specs.declared.command.Command.{Command}
use Rattle.redis_model.specs.declared.command.Command.TheVariants as cmd
use Rattle.redis_model.specs.declared.command.End.{End}
use Rattle.redis_model.specs.declared.command.End.TheVariants.{Left, Right}
use Rattle.redis_model.specs.declared.command.Expiry.{Expiry}
use Rattle.redis_model.specs.Value.{Entry, RedisMap, deadline_at, max_size}
use Rattle.redis_model.specs.Outcome.{Outcome, ◌>>=◌, answered, Kind, hashes, lists, sets, sorted_sets, at_key, put, change, changing, string_at, put_string}
use Rattle.redis_model.specs.Strings.{allowed, append, added, incr_by, max_string}
use Rattle.redis_model.specs.Keys.{among, del, expire_entry, persist_entry}
use Rattle.redis_model.specs.Hashes.{set_fields, add_field, remove_fields, raise_field}
use Rattle.redis_model.specs.Lists.{push_items, pop_item, set_item, trim, moved, popped, pushed, l_move}
use Rattle.redis_model.specs.Sets.{add_members, remove_members, sets_at, inter, union, diff, stored, s_move}
use Rattle.redis_model.specs.SortedSets.{set_scores, raise_score, remove_scored, remove_ranks, remove_between, pop_lowest, pop_highest}
use Rattle.redis_model.specs.About.{keys_of}
use Rattle.redis_model.specs.Apply.{apply, carried_out}
use Rattle.redis_model.specs.ReadingLaws.{reading_keeps}

first_apart : (a b : Bool) → (a || b) ≡ false → a ≡ false
first_apart true b h = h
first_apart false b h = refl

second_apart : (a b : Bool) → (a || b) ≡ false → b ≡ false
second_apart true b h = cc
second_apart false b h = h

module _ (q : Bytes) where
  -- what a command comes to leaves the entry at q
  abbrev Stays : RedisMap → Outcome (Reply × RedisMap) → Type 0
  Stays m o = get (answered m o).1 q ≡ get m q

  stays_then : {A : Type 0} (m : RedisMap) (o : Outcome A) (f : A → Outcome (Reply × RedisMap)) → ((a : A) → Stays m (f a)) → Stays m (o >>= f)
  stays_then m (Ok a) f h = h a
  stays_then m (Err e) f h = refl

  stays_if : (m : RedisMap) (b : Bool) (x y : Outcome (Reply × RedisMap)) → Stays m x → Stays m y → Stays m (cond b x y)
  stays_if m true x y h k = h
  stays_if m false x y h k = k

  module _ (k : Bytes) (apart : same q k ≡ false) where
    insert_stays : (m : RedisMap) (e : Entry) → get (insert m k e) q ≡ get m q
    insert_stays m e = get-insert m k e q ∙ ap (λ b. cond b (Some e) (get m q)) apart

    remove_stays : (m : RedisMap) → get (remove m k) q ≡ get m q
    remove_stays m = get-remove m k q ∙ ap (λ b. cond b None (get m q)) apart

    module _ {A : Type 0} (kind : Kind A) where
      put_stays : (m n : RedisMap) (a : A) (d : Option ℕ) (f : RedisMap → Outcome (Reply × RedisMap)) → get n q ≡ get m q → ((o : RedisMap) → get o q ≡ get m q → Stays m (f o)) → Stays m (put kind n k a d >>= f)
      put_stays m n a d f is h =
          elim (nat_lt max_size (kind.count a)) as (λ big. Stays m (cond big (Err TooLarge) (cond (kind.count a == 0) (Ok (remove n k)) (Ok (insert n k (record { value = kind.value_of a; deadline = d })))) >>= f)) [
            | true ↦ refl
            | false ↦ elim (kind.count a == 0) as (λ none. Stays m (cond none (Ok (remove n k)) (Ok (insert n k (record { value = kind.value_of a; deadline = d }))) >>= f)) [
              | true ↦ h _ (remove_stays n ∙ is)
              | false ↦ h _ (insert_stays n _ ∙ is)
            ]
          ]

      change_stays : (m n : RedisMap) (a : A) (f : RedisMap → Outcome (Reply × RedisMap)) → get n q ≡ get m q → ((o : RedisMap) → get o q ≡ get m q → Stays m (f o)) → Stays m (change kind n k a >>= f)
      change_stays m n a f = put_stays m n a (deadline_at n k) f

      changing_stays : (m : RedisMap) (f : A → Outcome (Reply × A)) → Stays m (changing kind m k f)
      changing_stays m f =
          stays_then m (at_key kind m k) _ (λ a. stays_then m (f a) _ (λ r. change_stays m m r.1 _ refl (λ o is. is)))

    incr_stays : (m : RedisMap) (n : ℤ) → Stays m (incr_by m k n)
    incr_stays m n = stays_then m (string_at m k) _ (λ o. stays_then m (added NotInt o n) _ (λ z. insert_stays m _))

    append_stays : (m : RedisMap) (v : Bytes) → Stays m (append m k v)
    append_stays m v =
        stays_then m (string_at m k) _ (λ o. stays_if m (nat_lt max_string (length (unwrap_or o [] ++ v))) _ _ refl (insert_stays m _))

    expire_stays : (m : RedisMap) (x : Expiry) (o : Option Entry) → Stays m (expire_entry m k x o)
    expire_stays m x None = refl
    expire_stays m x (Some e) = insert_stays m _

    persist_stays : (m : RedisMap) (o : Option Entry) → Stays m (persist_entry m k o)
    persist_stays m None = refl
    persist_stays m (Some e) = stays_if m (is_some e.deadline) _ _ (insert_stays m (record e { deadline = None })) refl

    stored_stays : (m : RedisMap) (f : List Set → Set) (ks : List Bytes) → Stays m (stored m f k ks)
    stored_stays m f ks = stays_then m (sets_at m ks) _ (λ ss. put_stays sets m m (f ss) _ _ refl (λ o is. is))

  -- two keys
  module _ (a b : Bytes) (a_apart : same q a ≡ false) (b_apart : same q b ≡ false) where
    moved_stays : (m : RedisMap) (to : End) (o : Option Bytes) (rest target : List Bytes) → Stays m (moved m a b to (o, rest) target)
    moved_stays m to None rest target = refl
    moved_stays m to (Some v) rest target =
        stays_if m (same a b) _ _
        (change_stays a a_apart lists m m (pushed to rest (v ∷ [])) _ refl (λ o is. is))
        (change_stays a a_apart lists m m rest _ refl (λ n is. change_stays b b_apart lists m n (pushed to target (v ∷ [])) _ is (λ o is. is)))

    l_move_stays : (m : RedisMap) (from to : End) → Stays m (l_move m a b from to)
    l_move_stays m from to =
        stays_if m (has m a) _ _
        (stays_then m (at_key lists m a) _ (λ l. stays_then m (at_key lists m b) _ (λ target. moved_stays m to (popped from l).0 (popped from l).1 target)))
        refl

    s_move_stays : (m : RedisMap) (x : Bytes) → Stays m (s_move m a b x)
    s_move_stays m x =
        stays_if m (has m a) _ _
        (stays_then m (at_key sets m a) _ (λ s. stays_then m (at_key sets m b) _ (λ t.
        stays_if m (not (has s x)) _ _ refl (stays_if m (same a b) _ _ refl
        (change_stays a a_apart sets m m (remove s x) _ refl (λ n is. change_stays b b_apart sets m n (insert t x tt) _ is (λ o is. is)))))))
        refl

  -- any number of keys
  all_kept : (o : Option Entry) (ks : List Bytes) → among ks q ≡ false → kept (λ _. not (among ks q)) o ≡ o
  all_kept None ks apart = refl
  all_kept (Some e) ks apart = ap (λ b. cond (not b) (Some e) None) apart

  del_stays : (m : RedisMap) (ks : List Bytes) → among ks q ≡ false → Stays m (del m ks)
  del_stays m ks apart = get-keep (λ k _. not (among ks k)) m q ∙ all_kept (get m q) ks apart

  m_set_stays : (m : RedisMap) (ks vs : List Bytes) (n : RedisMap) → among ks q ≡ false → get n q ≡ get m q → get (fold (λ n e. put_string n e.0 e.1 None) n (zip ks vs)) q ≡ get m q
  m_set_stays m [] vs n apart is = is
  m_set_stays m (k ∷ ks) [] n apart is = is
  m_set_stays m (k ∷ ks) (v ∷ vs) n apart is =
      m_set_stays m ks vs (put_string n k v None) (second_apart (same q k) _ apart) (insert_stays k (first_apart (same q k) _ apart) n _ ∙ is)

-- apart from one key, and from two
one_apart : (q k : Bytes) → among (k ∷ []) q ≡ false → same q k ≡ false
one_apart q k h = first_apart (same q k) false h

pub apply_elsewhere : (m : RedisMap) (t : ℕ) (c : Command) (q : Bytes) → among (keys_of c) q ≡ false → get (apply m t c).1 q ≡ get m q
unfolding apply carried_out
apply_elsewhere m t (cmd.Set k v c x w) q h = stays_if q m (allowed c (has m k)) _ _ (insert_stays q k (one_apart q k h) m _) refl
apply_elsewhere m t (cmd.SetNx k v w) q h = stays_if q m (has m k) _ _ refl (insert_stays q k (one_apart q k h) m _)
apply_elsewhere m t (cmd.SetEx k x v w) q h = insert_stays q k (one_apart q k h) m _
apply_elsewhere m t (cmd.PSetEx k x v w) q h = insert_stays q k (one_apart q k h) m _
apply_elsewhere m t (cmd.GetSet k v w) q h = stays_then q m (string_at m k) _ (λ o. insert_stays q k (one_apart q k h) m _)
apply_elsewhere m t (cmd.GetDel k w) q h = stays_then q m (string_at m k) _ (λ o. remove_stays q k (one_apart q k h) m)
apply_elsewhere m t (cmd.MSet ks vs w) q h = m_set_stays q m ks vs m h refl
apply_elsewhere m t (cmd.Append k v w) q h = append_stays q k (one_apart q k h) m v
apply_elsewhere m t (cmd.Incr k w) q h = incr_stays q k (one_apart q k h) m (pos 1)
apply_elsewhere m t (cmd.Decr k w) q h = incr_stays q k (one_apart q k h) m (negsuc 0)
apply_elsewhere m t (cmd.IncrBy k n w) q h = incr_stays q k (one_apart q k h) m n
apply_elsewhere m t (cmd.DecrBy k n w) q h = incr_stays q k (one_apart q k h) m (neg_ℤ n)
apply_elsewhere m t (cmd.Del ks w) q h = del_stays q m ks h
apply_elsewhere m t (cmd.Expire k x w) q h = expire_stays q k (one_apart q k h) m x (get m k)
apply_elsewhere m t (cmd.PExpire k x w) q h = expire_stays q k (one_apart q k h) m x (get m k)
apply_elsewhere m t (cmd.ExpireAt k x w) q h = expire_stays q k (one_apart q k h) m x (get m k)
apply_elsewhere m t (cmd.PExpireAt k x w) q h = expire_stays q k (one_apart q k h) m x (get m k)
apply_elsewhere m t (cmd.Persist k w) q h = persist_stays q k (one_apart q k h) m (get m k)
apply_elsewhere m t (cmd.HSet k fs vs w) q h = changing_stays q k (one_apart q k h) hashes m (set_fields fs vs)
apply_elsewhere m t (cmd.HSetNx k f v w) q h = changing_stays q k (one_apart q k h) hashes m (add_field f v)
apply_elsewhere m t (cmd.HDel k fs w) q h = changing_stays q k (one_apart q k h) hashes m (remove_fields fs)
apply_elsewhere m t (cmd.HIncrBy k f n w) q h = changing_stays q k (one_apart q k h) hashes m (raise_field f n)
apply_elsewhere m t (cmd.LPush k vs w) q h = changing_stays q k (one_apart q k h) lists m (push_items Left vs)
apply_elsewhere m t (cmd.RPush k vs w) q h = changing_stays q k (one_apart q k h) lists m (push_items Right vs)
apply_elsewhere m t (cmd.LPushX k vs w) q h = stays_if q m (has m k) _ _ (changing_stays q k (one_apart q k h) lists m (push_items Left vs)) refl
apply_elsewhere m t (cmd.RPushX k vs w) q h = stays_if q m (has m k) _ _ (changing_stays q k (one_apart q k h) lists m (push_items Right vs)) refl
apply_elsewhere m t (cmd.LPop k w) q h = changing_stays q k (one_apart q k h) lists m (pop_item Left)
apply_elsewhere m t (cmd.RPop k w) q h = changing_stays q k (one_apart q k h) lists m (pop_item Right)
apply_elsewhere m t (cmd.LSet k i v w) q h = stays_if q m (has m k) _ _ (changing_stays q k (one_apart q k h) lists m (set_item i v)) refl
apply_elsewhere m t (cmd.LTrim k a b w) q h = changing_stays q k (one_apart q k h) lists m (trim a b)
apply_elsewhere m t (cmd.RPopLPush a b w) q h = l_move_stays q a b (first_apart (same q a) _ h) (one_apart q b (second_apart (same q a) _ h)) m Right Left
apply_elsewhere m t (cmd.LMove a b from to w) q h = l_move_stays q a b (first_apart (same q a) _ h) (one_apart q b (second_apart (same q a) _ h)) m from to
apply_elsewhere m t (cmd.SAdd k xs w) q h = changing_stays q k (one_apart q k h) sets m (add_members xs)
apply_elsewhere m t (cmd.SRem k xs w) q h = changing_stays q k (one_apart q k h) sets m (remove_members xs)
apply_elsewhere m t (cmd.SMove a b x w) q h = s_move_stays q a b (first_apart (same q a) _ h) (one_apart q b (second_apart (same q a) _ h)) m x
apply_elsewhere m t (cmd.SInterStore d ks w) q h = stored_stays q d (first_apart (same q d) _ h) m inter ks
apply_elsewhere m t (cmd.SUnionStore d ks w) q h = stored_stays q d (first_apart (same q d) _ h) m union ks
apply_elsewhere m t (cmd.SDiffStore d ks w) q h = stored_stays q d (first_apart (same q d) _ h) m diff ks
apply_elsewhere m t (cmd.ZAdd k ss xs how w) q h = changing_stays q k (one_apart q k h) sorted_sets m (set_scores ss xs how)
apply_elsewhere m t (cmd.ZRem k xs w) q h = changing_stays q k (one_apart q k h) sorted_sets m (remove_scored xs)
apply_elsewhere m t (cmd.ZIncrBy k s x w) q h = changing_stays q k (one_apart q k h) sorted_sets m (raise_score s x)
apply_elsewhere m t (cmd.ZRemRangeByRank k a b w) q h = changing_stays q k (one_apart q k h) sorted_sets m (remove_ranks a b)
apply_elsewhere m t (cmd.ZRemRangeByScore k low high w) q h = changing_stays q k (one_apart q k h) sorted_sets m (remove_between low high)
apply_elsewhere m t (cmd.ZPopMin k n w) q h = changing_stays q k (one_apart q k h) sorted_sets m (pop_lowest n)
apply_elsewhere m t (cmd.ZPopMax k n w) q h = changing_stays q k (one_apart q k h) sorted_sets m (pop_highest n)
apply_elsewhere m t c q h = ap (λ n. get n q) (reading_keeps m t c refl)
