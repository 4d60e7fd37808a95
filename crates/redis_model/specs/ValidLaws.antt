-- A command leaves a valid map.
use Rattle.std.proofs.Common.{◌≡◌, ℕ, suc, ◌^◌, ◌<◌, ◌≤◌, Bool, true, false, cond, List, [], ◌∷◌, ◌++◌, length, refl, sym, subst, ap, ◌∙◌, arith}
use Rattle.std.proofs.lemmas.Bool.Decides.{nat_tests}
use Rattle.std.proofs.lemmas.Fmt.{length-decimal-le}
use Rattle.std.specs.Prelude.{not, ℤ, ◌+ℤ◌, pos, negsuc, neg_ℤ, Option, Some, None, IfSome, Ok, Err, nat_lt, ◌==◌, is_some, unwrap_or, zip, fold, All}
use Rattle.std.proofs.lemmas.List.Elements.{All-head, All-tail}
use Rattle.kv_base.specs.Map.{Bytes, Map, Set, same, get, has, insert, remove, keep, kept, size, get-empty, get-insert, get-remove, get-keep}
use Rattle.kv_base.specs.Number.{int_text, fits}
use Rattle.redis_model.specs.declared.reply.Reply.{Reply}
use Rattle.redis_model.specs.declared.reply.ReplyError.TheVariants.{NotInt, Overflow, TooLarge}
use Rattle.redis_model.specs.declared.command.Command.{Command}
use Rattle.redis_model.specs.declared.command.Command.TheVariants as cmd
use Rattle.redis_model.specs.declared.command.End.{End}
use Rattle.redis_model.specs.declared.command.End.TheVariants.{Left, Right}
use Rattle.redis_model.specs.declared.command.Expiry.{Expiry}
use Rattle.redis_model.specs.Value.{Hash, ListOf, SetOf, ZSet, Entry, RedisMap, alive, deadline_at, max_size}
use Rattle.redis_model.specs.Outcome.{Outcome, ◌>>=◌, answered, Kind, hashes, lists, sets, sorted_sets, at_key, put, change, changing, string_at, put_string}
use Rattle.redis_model.specs.Strings.{allowed, append, added, counter, incr_by, max_string}
use Rattle.redis_model.specs.Keys.{expire_entry, persist_entry}
use Rattle.redis_model.specs.Hashes.{set_fields, add_field, remove_fields, raise_field}
use Rattle.redis_model.specs.Lists.{push_items, pop_item, set_item, trim, moved, popped, pushed, l_move}
use Rattle.redis_model.specs.Sets.{add_members, remove_members, sets_at, inter, union, diff, stored, s_move}
use Rattle.redis_model.specs.SortedSets.{set_scores, raise_score, remove_scored, remove_ranks, remove_between, pop_lowest, pop_highest}
use Rattle.redis_model.specs.Apply.{apply, carried_out}
use Rattle.redis_model.specs.ReadingLaws.{reading_keeps}
use Rattle.redis_model.specs.declared.history.Step.{Step}
use Rattle.redis_model.specs.declared.history.Step.TheVariants.{Tick, Call, Exec, PinNow, PinnedRead, PinnedRefused, Unpin, Job}
use Rattle.redis_model.specs.Machine.{State, Pin, start, apply_alive, apply_each, moment_at, at_moment, pin_of, pinned, unpinned, step, run}
use Rattle.redis_model.specs.Limits.{IsShort}
use Rattle.redis_model.specs.Valid.{IsValue, IsRedisMap, HasShortValues, SetsShortValues}

abbrev IsFine : Option Entry → Type 0
IsFine o = IfSome o (λ e. IsValue e.value)

insert_valid : (m : RedisMap) (k : Bytes) (e : Entry) → IsRedisMap m → IsValue e.value → IsRedisMap (insert m k e)
insert_valid m k e ok v q =
    subst IsFine (sym (get-insert m k e q)) (elim (same q k) as (λ b. IsFine (cond b (Some e) (get m q))) [ true ↦ v | false ↦ ok q ])

remove_valid : (m : RedisMap) (k : Bytes) → IsRedisMap m → IsRedisMap (remove m k)
remove_valid m k ok q =
    subst IsFine (sym (get-remove m k q)) (elim (same q k) as (λ b. IsFine (cond b None (get m q))) [ true ↦ tt | false ↦ ok q ])

kept_fine : (p : Entry → Bool) (o : Option Entry) → IsFine o → IsFine (kept p o)
kept_fine p None ok = tt
kept_fine p (Some e) ok = elim (p e) as (λ b. IsFine (cond b (Some e) None)) [ true ↦ ok | false ↦ tt ]

keep_valid : (p : Bytes → Entry → Bool) (m : RedisMap) → IsRedisMap m → IsRedisMap (keep p m)
keep_valid p m ok q = subst IsFine (sym (get-keep p m q)) (kept_fine (p q) (get m q) (ok q))

-- what has not expired is valid
pub alive_valid : (m : RedisMap) (t : ℕ) → IsRedisMap m → IsRedisMap (alive m t)
unfolding alive
alive_valid m t ok = keep_valid _ m ok

-- ---- a number's text is short

short_number : (z : ℤ) → fits z ≡ true → IsShort (int_text z)
short_number (pos n) h =
    let small : n < 2 ^ 63 = grind (arith, nat_tests) in
    let few = length-decimal-le 20 n (omega arith) (omega arith) (omega arith) in
    omega arith
short_number (negsuc n) h =
    let small : n < 2 ^ 63 = grind (arith, nat_tests) in
    let few = length-decimal-le 20 (suc n) (omega arith) (omega arith) (omega arith) in
    omega arith

checked_fits : (y z : ℤ) (b : Bool) → fits y ≡ b → cond b (Ok y) (Err Overflow) ≡ Ok z → fits z ≡ true
checked_fits y z true e h = let is : y ≡ z = cc in ap fits (sym is) ∙ e
checked_fits y z false e h = cc

sum_fits : (c : Outcome ℤ) (n z : ℤ) → (c >>= λ a. cond (fits (a +ℤ n)) (Ok (a +ℤ n)) (Err Overflow)) ≡ Ok z → fits z ≡ true
sum_fits (Ok a) n z h = checked_fits (a +ℤ n) z (fits (a +ℤ n)) refl h
sum_fits (Err e) n z h = cc

-- ---- what a command comes to

above : (n : ℕ) → nat_lt max_size n ≡ false → n ≤ max_size
above n e = grind (arith, nat_tests)

some_there : (n : ℕ) → (n == 0) ≡ false → 0 < n
some_there n e = grind (arith, nat_tests)

short_enough : (n : ℕ) → nat_lt max_string n ≡ false → n ≤ max_string
short_enough n e = grind (arith, nat_tests)

module _ (m : RedisMap) (ok : IsRedisMap m) where
  abbrev After : Outcome (Reply × RedisMap) → Type 0
  After o = IsRedisMap (answered m o).1

  after_then : {A : Type 0} (o : Outcome A) (f : A → Outcome (Reply × RedisMap)) → ((a : A) → o ≡ Ok a → After (f a)) → After (o >>= f)
  after_then (Ok a) f h = h a refl
  after_then (Err e) f h = ok

  after_if : (b : Bool) (x y : Outcome (Reply × RedisMap)) → (b ≡ true → After x) → (b ≡ false → After y) → After (cond b x y)
  after_if true x y h k = h refl
  after_if false x y h k = k refl

  string_valid : (n : RedisMap) (k v : Bytes) (d : Option ℕ) → IsRedisMap n → IsShort v → IsRedisMap (put_string n k v d)
  string_valid n k v d valid short = insert_valid n k _ valid short

  module _ {A : Type 0} (kind : Kind A) (fine : (a : A) → 0 < kind.count a → kind.count a ≤ max_size → IsValue (kind.value_of a)) where
    put_valid : (n : RedisMap) (k : Bytes) (a : A) (d : Option ℕ) (f : RedisMap → Outcome (Reply × RedisMap)) → IsRedisMap n → ((o : RedisMap) → IsRedisMap o → After (f o)) → After (put kind n k a d >>= f)
    put_valid n k a d f valid h =
        elim (nat_lt max_size (kind.count a)) as (λ big. nat_lt max_size (kind.count a) ≡ big → After (cond big (Err TooLarge) (cond (kind.count a == 0) (Ok (remove n k)) (Ok (insert n k (record { value = kind.value_of a; deadline = d })))) >>= f)) [
          | true ↦ λ e. ok
          | false ↦ λ small. elim (kind.count a == 0) as (λ none. (kind.count a == 0) ≡ none → After (cond none (Ok (remove n k)) (Ok (insert n k (record { value = kind.value_of a; deadline = d }))) >>= f)) [
            | true ↦ λ e. h _ (remove_valid n k valid)
            | false ↦ λ there. h _ (insert_valid n k _ valid (fine a (some_there _ there) (above _ small)))
          ] refl
        ] refl

    change_valid : (n : RedisMap) (k : Bytes) (a : A) (f : RedisMap → Outcome (Reply × RedisMap)) → IsRedisMap n → ((o : RedisMap) → IsRedisMap o → After (f o)) → After (change kind n k a >>= f)
    change_valid n k a f = put_valid n k a (deadline_at n k) f

    changing_valid : (k : Bytes) (f : A → Outcome (Reply × A)) → After (changing kind m k f)
    changing_valid k f =
        after_then (at_key kind m k) _ (λ a _. after_then (f a) _ (λ r _. change_valid m k r.1 _ ok (λ o valid. valid)))

  fine_hash : (h : Map Bytes) → 0 < size h → size h ≤ max_size → IsValue (Hash h)
  fine_hash h some few = (some, few)

  fine_list : (l : List Bytes) → 0 < length l → length l ≤ max_size → IsValue (ListOf l)
  fine_list l some few = (some, few)

  fine_set : (s : Set) → 0 < size s → size s ≤ max_size → IsValue (SetOf s)
  fine_set s some few = (some, few)

  fine_sorted_set : (z : Map ℤ) → 0 < size z → size z ≤ max_size → IsValue (ZSet z)
  fine_sorted_set z some few = (some, few)

  append_valid : (k v : Bytes) → After (append m k v)
  append_valid k v =
      after_then (string_at m k) _ (λ o _. after_if (nat_lt max_string (length (unwrap_or o [] ++ v))) _ _ (λ _. ok)
      (λ short. string_valid m k (unwrap_or o [] ++ v) _ ok (short_enough _ short)))

  incr_valid : (k : Bytes) (n : ℤ) → After (incr_by m k n)
  incr_valid k n =
      after_then (string_at m k) _ (λ o _. after_then (added NotInt o n) _ (λ z is. string_valid m k (int_text z) _ ok (short_number z (sum_fits (counter NotInt o) n z is))))

  expire_valid : (k : Bytes) (x : Expiry) (o : Option Entry) → IsFine o → After (expire_entry m k x o)
  expire_valid k x None fine = ok
  expire_valid k x (Some e) fine = insert_valid m k _ ok fine

  persist_valid : (k : Bytes) (o : Option Entry) → IsFine o → After (persist_entry m k o)
  persist_valid k None fine = ok
  persist_valid k (Some e) fine = after_if (is_some e.deadline) _ _ (λ _. insert_valid m k (record e { deadline = None }) ok fine) (λ _. ok)

  stored_valid : (f : List Set → Set) (d : Bytes) (ks : List Bytes) → After (stored m f d ks)
  stored_valid f d ks = after_then (sets_at m ks) _ (λ ss _. put_valid sets fine_set m d (f ss) None _ ok (λ o valid. valid))

  moved_valid : (a b : Bytes) (to : End) (o : Option Bytes) (rest target : List Bytes) → After (moved m a b to (o, rest) target)
  moved_valid a b to None rest target = ok
  moved_valid a b to (Some v) rest target =
      after_if (same a b) _ _
      (λ _. change_valid lists fine_list m a (pushed to rest (v ∷ [])) _ ok (λ o valid. valid))
      (λ _. change_valid lists fine_list m a rest _ ok (λ n valid. change_valid lists fine_list n b (pushed to target (v ∷ [])) _ valid (λ o valid. valid)))

  l_move_valid : (a b : Bytes) (from to : End) → After (l_move m a b from to)
  l_move_valid a b from to =
      after_if (has m a) _ _
      (λ _. after_then (at_key lists m a) _ (λ l _. after_then (at_key lists m b) _ (λ target _. moved_valid a b to (popped from l).0 (popped from l).1 target)))
      (λ _. ok)

  s_move_valid : (a b x : Bytes) → After (s_move m a b x)
  s_move_valid a b x =
      after_if (has m a) _ _
      (λ _. after_then (at_key sets m a) _ (λ s _. after_then (at_key sets m b) _ (λ t _.
      after_if (not (has s x)) _ _ (λ _. ok) (λ _. after_if (same a b) _ _ (λ _. ok)
      (λ _. change_valid sets fine_set m a (remove s x) _ ok (λ n valid. change_valid sets fine_set n b (insert t x tt) _ valid (λ o valid. valid)))))))
      (λ _. ok)

m_set_valid : (ks vs : List Bytes) (n : RedisMap) → All IsShort vs → IsRedisMap n → IsRedisMap (fold (λ n e. put_string n e.0 e.1 None) n (zip ks vs))
m_set_valid [] vs n short valid = valid
m_set_valid (k ∷ ks) [] n short valid = valid
m_set_valid (k ∷ ks) (v ∷ vs) n short valid =
    m_set_valid ks vs (put_string n k v None) (All-tail IsShort v vs short) (insert_valid n k _ valid (All-head IsShort v vs short))

-- a command leaves a valid map, where the strings that it sets are short enough
pub apply_valid : (m : RedisMap) (t : ℕ) (c : Command) → HasShortValues c → IsRedisMap m → IsRedisMap (apply m t c).1
unfolding apply carried_out
apply_valid m t (cmd.Set k v c x w) short ok = after_if m ok (allowed c (has m k)) _ _ (λ _. insert_valid m k _ ok short) (λ _. ok)
apply_valid m t (cmd.SetNx k v w) short ok = after_if m ok (has m k) _ _ (λ _. ok) (λ _. insert_valid m k _ ok short)
apply_valid m t (cmd.SetEx k x v w) short ok = insert_valid m k _ ok short
apply_valid m t (cmd.PSetEx k x v w) short ok = insert_valid m k _ ok short
apply_valid m t (cmd.GetSet k v w) short ok = after_then m ok (string_at m k) _ (λ o _. insert_valid m k _ ok short)
apply_valid m t (cmd.GetDel k w) short ok = after_then m ok (string_at m k) _ (λ o _. remove_valid m k ok)
apply_valid m t (cmd.MSet ks vs w) short ok = m_set_valid ks vs m short ok
apply_valid m t (cmd.Append k v w) short ok = append_valid m ok k v
apply_valid m t (cmd.Incr k w) short ok = incr_valid m ok k (pos 1)
apply_valid m t (cmd.Decr k w) short ok = incr_valid m ok k (negsuc 0)
apply_valid m t (cmd.IncrBy k n w) short ok = incr_valid m ok k n
apply_valid m t (cmd.DecrBy k n w) short ok = incr_valid m ok k (neg_ℤ n)
apply_valid m t (cmd.Del ks w) short ok = keep_valid _ m ok
apply_valid m t (cmd.Expire k x w) short ok = expire_valid m ok k x (get m k) (ok k)
apply_valid m t (cmd.PExpire k x w) short ok = expire_valid m ok k x (get m k) (ok k)
apply_valid m t (cmd.ExpireAt k x w) short ok = expire_valid m ok k x (get m k) (ok k)
apply_valid m t (cmd.PExpireAt k x w) short ok = expire_valid m ok k x (get m k) (ok k)
apply_valid m t (cmd.Persist k w) short ok = persist_valid m ok k (get m k) (ok k)
apply_valid m t (cmd.HSet k fs vs w) short ok = changing_valid m ok hashes (fine_hash m ok) k (set_fields fs vs)
apply_valid m t (cmd.HSetNx k f v w) short ok = changing_valid m ok hashes (fine_hash m ok) k (add_field f v)
apply_valid m t (cmd.HDel k fs w) short ok = changing_valid m ok hashes (fine_hash m ok) k (remove_fields fs)
apply_valid m t (cmd.HIncrBy k f n w) short ok = changing_valid m ok hashes (fine_hash m ok) k (raise_field f n)
apply_valid m t (cmd.LPush k vs w) short ok = changing_valid m ok lists (fine_list m ok) k (push_items Left vs)
apply_valid m t (cmd.RPush k vs w) short ok = changing_valid m ok lists (fine_list m ok) k (push_items Right vs)
apply_valid m t (cmd.LPushX k vs w) short ok = after_if m ok (has m k) _ _ (λ _. changing_valid m ok lists (fine_list m ok) k (push_items Left vs)) (λ _. ok)
apply_valid m t (cmd.RPushX k vs w) short ok = after_if m ok (has m k) _ _ (λ _. changing_valid m ok lists (fine_list m ok) k (push_items Right vs)) (λ _. ok)
apply_valid m t (cmd.LPop k w) short ok = changing_valid m ok lists (fine_list m ok) k (pop_item Left)
apply_valid m t (cmd.RPop k w) short ok = changing_valid m ok lists (fine_list m ok) k (pop_item Right)
apply_valid m t (cmd.LSet k i v w) short ok = after_if m ok (has m k) _ _ (λ _. changing_valid m ok lists (fine_list m ok) k (set_item i v)) (λ _. ok)
apply_valid m t (cmd.LTrim k a b w) short ok = changing_valid m ok lists (fine_list m ok) k (trim a b)
apply_valid m t (cmd.RPopLPush a b w) short ok = l_move_valid m ok a b Right Left
apply_valid m t (cmd.LMove a b from to w) short ok = l_move_valid m ok a b from to
apply_valid m t (cmd.SAdd k xs w) short ok = changing_valid m ok sets (fine_set m ok) k (add_members xs)
apply_valid m t (cmd.SRem k xs w) short ok = changing_valid m ok sets (fine_set m ok) k (remove_members xs)
apply_valid m t (cmd.SMove a b x w) short ok = s_move_valid m ok a b x
apply_valid m t (cmd.SInterStore d ks w) short ok = stored_valid m ok inter d ks
apply_valid m t (cmd.SUnionStore d ks w) short ok = stored_valid m ok union d ks
apply_valid m t (cmd.SDiffStore d ks w) short ok = stored_valid m ok diff d ks
apply_valid m t (cmd.ZAdd k ss xs how w) short ok = changing_valid m ok sorted_sets (fine_sorted_set m ok) k (set_scores ss xs how)
apply_valid m t (cmd.ZRem k xs w) short ok = changing_valid m ok sorted_sets (fine_sorted_set m ok) k (remove_scored xs)
apply_valid m t (cmd.ZIncrBy k s x w) short ok = changing_valid m ok sorted_sets (fine_sorted_set m ok) k (raise_score s x)
apply_valid m t (cmd.ZRemRangeByRank k a b w) short ok = changing_valid m ok sorted_sets (fine_sorted_set m ok) k (remove_ranks a b)
apply_valid m t (cmd.ZRemRangeByScore k low high w) short ok = changing_valid m ok sorted_sets (fine_sorted_set m ok) k (remove_between low high)
apply_valid m t (cmd.ZPopMin k n w) short ok = changing_valid m ok sorted_sets (fine_sorted_set m ok) k (pop_lowest n)
apply_valid m t (cmd.ZPopMax k n w) short ok = changing_valid m ok sorted_sets (fine_sorted_set m ok) k (pop_highest n)
apply_valid m t c short ok = subst IsRedisMap (sym (reading_keeps m t c refl)) ok

-- ---- what a history leaves

pub apply_alive_valid : (m : RedisMap) (t : ℕ) (c : Command) → HasShortValues c → IsRedisMap m → IsRedisMap (apply_alive m t c).1
unfolding apply_alive
apply_alive_valid m t c short ok = alive_valid _ t (apply_valid (alive m t) t c short (alive_valid m t ok))

pub apply_each_valid : (m : RedisMap) (t : ℕ) (cs : List Command) → All HasShortValues cs → IsRedisMap m → IsRedisMap (apply_each m t cs).1
apply_each_valid m t [] short ok = ok
apply_each_valid m t (c ∷ cs) short ok =
    apply_each_valid (apply_alive m t c).1 t cs (All-tail HasShortValues c cs short) (apply_alive_valid m t c (All-head HasShortValues c cs short) ok)

pinned_keys : (s : State) (caller : ℕ) (p : Option Pin) → (pinned s caller p).1.keys ≡ s.keys
pinned_keys s caller None = refl
pinned_keys s caller (Some p) = refl

unpinned_keys : (s : State) (caller : ℕ) (p : Option Pin) → (unpinned s caller p).1.keys ≡ s.keys
unpinned_keys s caller None = refl
unpinned_keys s caller (Some p) = refl

pub step_valid : (s : State) (e : Step) → SetsShortValues e → IsRedisMap s.keys → IsRedisMap (step s e).1.keys
unfolding step
step_valid s (Tick now caller) short ok = alive_valid s.keys (moment_at s now) ok
step_valid s (Call now caller c) short ok = apply_alive_valid _ (moment_at s now) c short (alive_valid s.keys (moment_at s now) ok)
step_valid s (Exec now caller cs) short ok = apply_each_valid _ (moment_at s now) cs short (alive_valid s.keys (moment_at s now) ok)
step_valid s (PinNow now caller) short ok =
    subst IsRedisMap (sym (pinned_keys (at_moment s now) caller (pin_of s caller))) (alive_valid s.keys (moment_at s now) ok)
step_valid s (PinnedRead now caller c) short ok = alive_valid s.keys (moment_at s now) ok
step_valid s (PinnedRefused now caller cs) short ok = alive_valid s.keys (moment_at s now) ok
step_valid s (Unpin now caller) short ok =
    subst IsRedisMap (sym (unpinned_keys (at_moment s now) caller (pin_of s caller))) (alive_valid s.keys (moment_at s now) ok)
step_valid s (Job caller kind mark) short ok = ok

-- a history leaves valid keys, where the strings that it sets are short enough
pub run_valid : (s : State) (es : List Step) → All SetsShortValues es → IsRedisMap s.keys → IsRedisMap (run s es).keys
run_valid s [] short ok = ok
run_valid s (e ∷ es) short ok = run_valid (step s e).1 es (All-tail SetsShortValues e es short) (step_valid s e (All-head SetsShortValues e es short) ok)

pub start_valid : IsRedisMap start.keys
start_valid k = subst IsFine (sym (get-empty k)) tt
