-- Several commands at one moment depend on their own keys alone, also at a later moment by which none of them expires.
use Rattle.std.proofs.Common.{◌≡◌, ℕ, ◌≤◌, List, [], ◌∷◌, ◌++◌, refl, sym, ap, ◌∙◌, arith}
use Rattle.std.proofs.lemmas.Bool.{or_left, or_right, or_parts}
use Rattle.std.proofs.lemmas.List.Elements.{All-head, All-tail}
use Rattle.std.proofs.lemmas.List.Folds.{list_any-append}
use Rattle.std.specs.Prelude.{IsFalse}
use Rattle.kv_base.specs.Map.{Bytes, same, get}
use Rattle.redis_model.specs.declared.reply.Reply.TheVariants as reply
use Rattle.redis_model.specs.declared.command.Command.{Command}
use Rattle.redis_model.specs.declared.command.Cmds.{Cmds}
use Rattle.redis_model.specs.declared.command.Cmds.TheVariants.{One, Many}
use Rattle.redis_model.specs.Value.{RedisMap, alive}
use Rattle.redis_model.specs.Keys.{among}
use Rattle.redis_model.specs.About.{keys_of}
use Rattle.redis_model.specs.Deadlines.{deadlines, keys_of_each, keys_in}
use Rattle.redis_model.specs.Machine.{apply_alive, apply_each, fold}
use Rattle.key_locality.specs.Agree.{AgreeOn, Covers, SameMoment}
use Rattle.key_locality.specs.Between.{IsNotBetween, FindsTheSame, FindTheSame, deadlines_of_each}
use Rattle.key_locality.specs.Moments.{standing, get-alive-standing, alive-later, all_front, all_behind}
use Rattle.key_locality.specs.Local.{named_or_other}
use Rattle.key_locality.specs.AliveLocal.{apply_alive_elsewhere, apply_alive_replies, apply_alive_agrees}

-- ---- keys among those of several commands

-- keys that cover two lists cover each of them
covers_front : (ks xs ys : List Bytes) → Covers ks (xs ++ ys) → Covers ks xs
covers_front ks xs ys covers k h = covers k (list_any-append (same k) xs ys ∙ or_left _ _ h)

covers_behind : (ks xs ys : List Bytes) → Covers ks (xs ++ ys) → Covers ks ys
covers_behind ks xs ys covers k h = covers k (list_any-append (same k) xs ys ∙ or_right (among xs k) _ h)

-- ---- one command, and more keys than its own

-- what it leaves unnamed is at a later moment what it was
pub unnamed_later : (m : RedisMap) (t u : ℕ) (c : Command) (k : Bytes) → t ≤ u → IsFalse (among (keys_of c) k) → get (alive (apply_alive m t c).1 u) k ≡ get (alive m u) k
unnamed_later m t u c k later other =
    get-alive-standing (apply_alive m t c).1 u k ∙ ap (standing u) (apply_alive_elsewhere m t c k other)
    ∙ sym (get-alive-standing (alive m t) u k) ∙ ap (λ (n : RedisMap). get n k) (alive-later m t u later)

-- maps that agree on any keys, the command's own among them, agree on these afterwards
pub apply_alive_agrees_on : (ks : List Bytes) (m n : RedisMap) (t u : ℕ) (c : Command) → FindsTheSame m n t u c → AgreeOn ks (alive m u) (alive n u) → AgreeOn ks (alive (apply_alive m t c).1 u) (alive (apply_alive n u c).1 u)
apply_alive_agrees_on ks m n t u c same agree k h =
    named_or_other (among (keys_of c) k) k (keys_of c) (get (alive (apply_alive m t c).1 u) k ≡ get (alive (apply_alive n u c).1 u) k) refl
    (λ named. get-alive-standing (apply_alive m t c).1 u k ∙ ap (standing u) (apply_alive_agrees m n t u c same k named) ∙ sym (get-alive-standing (apply_alive n u c).1 u k))
    (λ other. unnamed_later m t u c k same.later other ∙ agree k h ∙ sym (unnamed_later n u u c k (omega arith) other))

-- ---- several commands

module _ (ks : List Bytes) (m n : RedisMap) (t u : ℕ) (c : Command) (cs : List Command) (same : FindTheSame ks m n t u (Many (c ∷ cs))) where
  -- the first of several commands finds the same
  first_finds : FindsTheSame m n t u c
  first_finds = record {
    later = same.later;
    clock = All-head (λ (d : Command). SameMoment d t u) c cs same.clock;
    ahead = all_front (IsNotBetween t u) (deadlines (alive m t) t c) (deadlines_of_each (apply_alive m t c).1 t cs) same.ahead;
    agree = λ k named. same.agree k (covers_front ks (keys_of c) (keys_of_each cs) same.covers k named);
  }

  -- and so do the others, behind it
  others_find : FindTheSame ks (apply_alive m t c).1 (apply_alive n u c).1 t u (Many cs)
  others_find = record {
    covers = covers_behind ks (keys_of c) (keys_of_each cs) same.covers;
    later = same.later;
    clock = All-tail (λ (d : Command). SameMoment d t u) c cs same.clock;
    ahead = all_behind (IsNotBetween t u) (deadlines (alive m t) t c) (deadlines_of_each (apply_alive m t c).1 t cs) same.ahead;
    agree = apply_alive_agrees_on ks m n t u c first_finds same.agree;
  }

-- the same replies, and then the same at these keys
abbrev ComesToTheSame : List Bytes → RedisMap → RedisMap → ℕ → ℕ → List Command → Type 0
ComesToTheSame ks m n t u cs = ((apply_each m t cs).0 ≡ (apply_each n u cs).0) × AgreeOn ks (alive (apply_each m t cs).1 u) (alive (apply_each n u cs).1 u)

-- several commands answer at u as at t, and leave the same at these keys
apply_each_local : (cs : List Command) (ks : List Bytes) (m n : RedisMap) (t u : ℕ) → FindTheSame ks m n t u (Many cs) → ComesToTheSame ks m n t u cs
apply_each_local [] ks m n t u same = (refl, same.agree)
apply_each_local (c ∷ cs) ks m n t u same =
    let rest = apply_each_local cs ks (apply_alive m t c).1 (apply_alive n u c).1 t u (others_find ks m n t u c cs same) in
    (λ i. apply_alive_replies m n t u c (first_finds ks m n t u c cs same) i ∷ rest.0 i, rest.1)

-- one command finds the same, where the keys are more than its own
one_finds : (ks : List Bytes) (m n : RedisMap) (t u : ℕ) (c : Command) → FindTheSame ks m n t u (One c) → FindsTheSame m n t u c
one_finds ks m n t u c same = record { later = same.later; clock = same.clock; ahead = same.ahead; agree = λ k named. same.agree k (same.covers k named) }

-- commands answer at u as at t
pub fold_replies : (ks : List Bytes) (m n : RedisMap) (t u : ℕ) (cs : Cmds) → FindTheSame ks m n t u cs → (fold m t cs).0 ≡ (fold n u cs).0
fold_replies ks m n t u (One c) same = apply_alive_replies m n t u c (one_finds ks m n t u c same)
fold_replies ks m n t u (Many cs) same = ap reply.Array (apply_each_local cs ks m n t u same).0

-- and leave the same at these keys
pub fold_agrees : (ks : List Bytes) (m n : RedisMap) (t u : ℕ) (cs : Cmds) → FindTheSame ks m n t u cs → AgreeOn ks (alive (fold m t cs).1 u) (alive (fold n u cs).1 u)
fold_agrees ks m n t u (One c) same = apply_alive_agrees_on ks m n t u c (one_finds ks m n t u c same) same.agree
fold_agrees ks m n t u (Many cs) same = (apply_each_local cs ks m n t u same).1

-- ---- keys that they do not name

-- several commands leave the keys that none of them names
each_elsewhere : (cs : List Command) (m : RedisMap) (t : ℕ) (k : Bytes) → IsFalse (among (keys_of_each cs) k) → get (alive (apply_each m t cs).1 t) k ≡ get (alive m t) k
each_elsewhere [] m t k other = refl
each_elsewhere (c ∷ cs) m t k other =
    let parts = or_parts (among (keys_of c) k) (among (keys_of_each cs) k) (sym (list_any-append (same k) (keys_of c) (keys_of_each cs)) ∙ other) in
    each_elsewhere cs (apply_alive m t c).1 t k parts.1
    ∙ unnamed_later m t t c k (omega arith) parts.0

-- they stay as they are, but for those that have expired
pub fold_elsewhere : (cs : Cmds) (m : RedisMap) (t : ℕ) (k : Bytes) → IsFalse (among (keys_in cs) k) → get (alive (fold m t cs).1 t) k ≡ get (alive m t) k
fold_elsewhere (One c) m t k other = unnamed_later m t t c k (omega arith) other
fold_elsewhere (Many cs) m t k other = each_elsewhere cs m t k other
