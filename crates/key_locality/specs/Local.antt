-- What a command answers, changes and touches depends on its own keys alone.
use Rattle.std.proofs.Common.{◌≡◌, ℕ, Bool, true, false, cond, ◌||◌, List, [], ◌∷◌, refl, sym, ap, ◌∙◌}
use Rattle.std.specs.Prelude.{not, filter, Ok, Err}
use Rattle.kv_base.specs.Map.{Bytes, get}
use Rattle.redis_model.specs.declared.reply.Reply.{Reply}
use Rattle.redis_model.specs.declared.reply.Reply.TheVariants as reply
use Rattle.redis_model.specs.declared.command.Command.{Command}
use Rattle.redis_model.specs.declared.command.Command.TheVariants as cmd
use Rattle.redis_model.specs.Value.{RedisMap}
use Rattle.redis_model.specs.Outcome.{Outcome, answered}
use Rattle.redis_model.specs.Strings.{allowed}
use Rattle.redis_model.specs.Keys.{among}
use Rattle.redis_model.specs.About.{keys_of}
use Rattle.redis_model.specs.Apply.{apply}
use Rattle.redis_model.specs.Touched.{same_entry, if_there, written_again, once, is_touched, touched_by, touched}
use Rattle.redis_model.specs.TouchedLaws.{among_once}
use Rattle.redis_model.specs.ElsewhereLaws.{apply_elsewhere}
use Rattle.key_locality.specs.Agree.{AgreeOn, Covers, SameMoment, Alike}
use Rattle.key_locality.specs.Alike.{among_first, among_later, agree_first}
use Rattle.key_locality.specs.Strings.{same_has}
use Rattle.key_locality.specs.Carried.{carried_alike}

-- ---- the reply, and the keys afterwards

-- outcomes that are alike give one reply, and maps that agree
answered_reply : (ks : List Bytes) (m n : RedisMap) (o p : Outcome (Reply × RedisMap)) → Alike ks o p → (answered m o).0 ≡ (answered n p).0
answered_reply ks m n (Ok r) (Ok s) alike = alike.0
answered_reply ks m n (Err e) (Err f) alike = ap reply.Error alike
answered_reply ks m n (Ok r) (Err f) alike = absurd alike
answered_reply ks m n (Err e) (Ok s) alike = absurd alike

answered_keys : (ks : List Bytes) (m n : RedisMap) (o p : Outcome (Reply × RedisMap)) → AgreeOn ks m n → Alike ks o p → AgreeOn ks (answered m o).1 (answered n p).1
answered_keys ks m n (Ok r) (Ok s) agree alike = alike.1
answered_keys ks m n (Err e) (Err f) agree alike = agree
answered_keys ks m n (Ok r) (Err f) agree alike = absurd alike
answered_keys ks m n (Err e) (Ok s) agree alike = absurd alike

-- a command answers maps that agree on its keys alike
pub apply_replies : (m n : RedisMap) (t u : ℕ) (c : Command) → AgreeOn (keys_of c) m n → SameMoment c t u → (apply m t c).0 ≡ (apply n u c).0
unfolding apply
apply_replies m n t u c agree clock = answered_reply (keys_of c) m n _ _ (carried_alike m n t u c agree clock)

-- and leaves maps that agree on them
pub apply_agrees : (m n : RedisMap) (t u : ℕ) (c : Command) → AgreeOn (keys_of c) m n → SameMoment c t u → AgreeOn (keys_of c) (apply m t c).1 (apply n u c).1
unfolding apply
apply_agrees m n t u c agree clock = answered_keys (keys_of c) m n _ _ agree (carried_alike m n t u c agree clock)

-- a command answers alike, and changes its keys alike, where the maps agree on its keys
pub apply_local : (m n : RedisMap) (t u : ℕ) (c : Command) → AgreeOn (keys_of c) m n → SameMoment c t u → ((apply m t c).0 ≡ (apply n u c).0) × AgreeOn (keys_of c) (apply m t c).1 (apply n u c).1
apply_local m n t u c agree clock = (apply_replies m n t u c agree clock, apply_agrees m n t u c agree clock)

-- ---- what is touched

-- a test that comes out the same on each of these keeps the same of them
same_filter : (p r : Bytes → Bool) (ks : List Bytes) → ((q : Bytes) → among ks q ≡ true → p q ≡ r q) → filter p ks ≡ filter r ks
same_filter p r [] is = refl
same_filter p r (k ∷ ks) is =
    λ i. cond (is k (among_first k ks) i) (k ∷ same_filter p r ks (λ q h. is q (among_later k q ks h)) i) (same_filter p r ks (λ q h. is q (among_later k q ks h)) i)

-- a key that is written again where it is there
same_there : (m n : RedisMap) (k : Bytes) → get m k ≡ get n k → if_there m k ≡ if_there n k
same_there m n k here = λ i. cond (same_has m n k here i) (k ∷ []) []

-- the keys that a command writes again
same_again : (m n a b : RedisMap) (c : Command) → AgreeOn (keys_of c) m n → AgreeOn (keys_of c) a b → written_again m a c ≡ written_again n b c
same_again m n a b (cmd.Set k v c x w) agree after = λ i. cond (allowed c (same_has m n k (agree_first k [] m n agree) i)) (k ∷ []) []
same_again m n a b (cmd.Expire k x w) agree after = same_there m n k (agree_first k [] m n agree)
same_again m n a b (cmd.PExpire k x w) agree after = same_there m n k (agree_first k [] m n agree)
same_again m n a b (cmd.ExpireAt k x w) agree after = same_there m n k (agree_first k [] m n agree)
same_again m n a b (cmd.PExpireAt k x w) agree after = same_there m n k (agree_first k [] m n agree)
same_again m n a b (cmd.RPopLPush k q w) agree after = λ i. cond (same_has m n k (agree_first k (q ∷ []) m n agree) i) (k ∷ q ∷ []) []
same_again m n a b (cmd.LMove k q from to w) agree after = λ i. cond (same_has m n k (agree_first k (q ∷ []) m n agree) i) (k ∷ q ∷ []) []
same_again m n a b (cmd.SInterStore d ks w) agree after = same_there a b d (agree_first d ks a b after)
same_again m n a b (cmd.SUnionStore d ks w) agree after = same_there a b d (agree_first d ks a b after)
same_again m n a b (cmd.SDiffStore d ks w) agree after = same_there a b d (agree_first d ks a b after)
same_again m n a b _ agree after = refl

-- one key is touched in both maps or in neither
same_touch : (m n a b : RedisMap) (c : Command) → AgreeOn (keys_of c) m n → AgreeOn (keys_of c) a b → (q : Bytes) → among (keys_of c) q ≡ true → is_touched m a c q ≡ is_touched n b c q
same_touch m n a b c agree after q h = λ i. among (same_again m n a b c agree after i) q || not (same_entry (agree q h i) (after q h i))

-- outcomes that are alike touch the same keys
same_touched : (m n : RedisMap) (c : Command) (o p : Outcome (Reply × RedisMap)) → AgreeOn (keys_of c) m n → Alike (keys_of c) o p → touched_by m c o ≡ touched_by n c p
same_touched m n c (Ok r) (Ok s) agree alike =
    same_filter (is_touched m r.1 c) (is_touched n s.1 c) (once (keys_of c))
    (λ q h. same_touch m n r.1 s.1 c agree alike.1 q (sym (among_once q (keys_of c)) ∙ h))
same_touched m n c (Err e) (Err f) agree alike = refl
same_touched m n c (Ok r) (Err f) agree alike = absurd alike
same_touched m n c (Err e) (Ok s) agree alike = absurd alike

-- a command touches the same keys in maps that agree on its keys
pub touched_local : (m n : RedisMap) (t u : ℕ) (c : Command) → AgreeOn (keys_of c) m n → SameMoment c t u → touched m t c ≡ touched n u c
unfolding touched
touched_local m n t u c agree clock = same_touched m n c _ _ agree (carried_alike m n t u c agree clock)

-- ---- other keys too

-- a key is named or not
pub named_or_other : (b : Bool) (q : Bytes) (ks : List Bytes) (A : Type 0) → among ks q ≡ b → (among ks q ≡ true → A) → (among ks q ≡ false → A) → A
named_or_other true q ks A is h k = h is
named_or_other false q ks A is h k = k is

-- maps that agree on any keys, the command's own among them, agree on these afterwards
pub apply_agrees_on : (ks : List Bytes) (m n : RedisMap) (t u : ℕ) (c : Command) → Covers ks (keys_of c) → AgreeOn ks m n → SameMoment c t u → AgreeOn ks (apply m t c).1 (apply n u c).1
apply_agrees_on ks m n t u c covers agree clock q h =
    named_or_other (among (keys_of c) q) q (keys_of c) (get (apply m t c).1 q ≡ get (apply n u c).1 q) refl
    (λ named. apply_agrees m n t u c (λ k is. agree k (covers k is)) clock q named)
    (λ other. apply_elsewhere m t c q other ∙ agree q h ∙ sym (apply_elsewhere n u c q other))
