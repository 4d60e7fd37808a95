-- The commands on keys of any type look at their own keys alone.
use Rattle.std.proofs.Common.{◌≡◌, ℕ, ◌+◌, ◌-◌, Bool, true, false, cond, List, [], ◌∷◌, length, refl, sym, subst, ap, ◌∙◌, arith}
use Rattle.std.specs.Prelude.{not, fold, filter, Option, Some, None, is_some}
use Rattle.std.proofs.lemmas.List.Filters.{length-filter_both}
use Rattle.kv_base.specs.Map.{Bytes, get, has, keep, kept, size, get-keep, same_map}
use Rattle.redis_model.specs.declared.reply.Reply.TheVariants as reply
use Rattle.redis_model.specs.declared.command.Expiry.{Expiry}
use Rattle.redis_model.specs.Value.{Entry, RedisMap}
use Rattle.redis_model.specs.Outcome.{number}
use Rattle.redis_model.specs.Keys.{among, del, exists, word_at, type_of, expire_entry, expire, left, rounded_seconds, ttl, p_ttl, persist_entry, persist}
use Rattle.key_locality.specs.Agree.{AgreeOn, Alike}
use Rattle.key_locality.specs.Alike.{agree_first, agree_later, agree_insert, alike_if}
use Rattle.key_locality.specs.Strings.{same_has}

-- ---- one key

module _ (ks : List Bytes) (m n : RedisMap) (agree : AgreeOn ks m n) (k : Bytes) (here : get m k ≡ get n k) where
  -- TYPE, EXPIRE and its kin, PTTL and TTL, PERSIST
  pub type_of_alike : Alike ks (type_of m k) (type_of n k)
  type_of_alike = (λ i. reply.Word (word_at (here i)), agree)

  -- EXPIRE of the same entry
  expire_entry_alike : (x : Expiry) (o : Option Entry) → Alike ks (expire_entry m k x o) (expire_entry n k x o)
  expire_entry_alike x None = (refl, agree)
  expire_entry_alike x (Some e) = (refl, agree_insert ks m n k _ _ refl agree)

  pub expire_alike : (x : Expiry) → Alike ks (expire m k x) (expire n k x)
  expire_alike x = subst (λ (o : Option Entry). Alike ks (expire m k x) (expire_entry n k x o)) here (expire_entry_alike x (get m k))

  pub p_ttl_alike : (t u : ℕ) → t ≡ u → Alike ks (p_ttl m t k) (p_ttl n u k)
  p_ttl_alike t u is = (λ i. reply.Int (left (is i) (here i)), agree)

  pub ttl_alike : (t u : ℕ) → t ≡ u → Alike ks (ttl m t k) (ttl n u k)
  ttl_alike t u is = (λ i. reply.Int (rounded_seconds (left (is i) (here i))), agree)

  -- PERSIST of the same entry
  persist_entry_alike : (o : Option Entry) → Alike ks (persist_entry m k o) (persist_entry n k o)
  persist_entry_alike None = (refl, agree)
  persist_entry_alike (Some e) =
      alike_if ks (is_some e.deadline) _ _ _ _ _ refl (refl, agree_insert ks m n k (record e { deadline = None }) _ refl agree) (refl, agree)

  pub persist_alike : Alike ks (persist m k) (persist n k)
  persist_alike = subst (λ (o : Option Entry). Alike ks (persist m k) (persist_entry n k o)) here (persist_entry_alike (get m k))

-- ---- any number of keys

-- EXISTS: as many are there in both maps
same_count : (ks : List Bytes) (m n : RedisMap) (a b : ℕ) → a ≡ b → AgreeOn ks m n → fold (λ c k. c + cond (has m k) 1 0) a ks ≡ fold (λ c k. c + cond (has n k) 1 0) b ks
same_count [] m n a b is agree = is
same_count (k ∷ ks) m n a b is agree =
    same_count ks m n _ _ (λ i. is i + cond (same_has m n k (agree_first k ks m n agree) i) 1 0) (agree_later k ks m n agree)

pub exists_alike : (ks : List Bytes) (m n : RedisMap) → AgreeOn ks m n → Alike ks (exists m ks) (exists n ks)
exists_alike ks m n agree = (ap number (same_count ks m n 0 0 refl agree), agree)

-- as many go as are named
number_gone : (ks : List Bytes) (m : RedisMap) → size m - size (keep (λ k _. not (among ks k)) m) ≡ size (keep (λ k _. among ks k) m)
unfolding size keep
number_gone ks m =
    let both : length (filter (λ (e : Bytes × Entry). among ks e.0) m.entries) + length (filter (λ (e : Bytes × Entry). not (among ks e.0)) m.entries) ≡ length m.entries
    = length-filter_both (λ (e : Bytes × Entry). among ks e.0) (λ (e : Bytes × Entry). not (among ks e.0)) (λ e. refl) m.entries in
    omega arith

-- entries that agree where a key is named
same_kept : (b : Bool) (o p : Option Entry) → (b ≡ true → o ≡ p) → kept (λ _. b) o ≡ kept (λ _. b) p
same_kept true o p is = ap (kept (λ _. true)) (is refl)
same_kept false None None is = refl
same_kept false None (Some e) is = refl
same_kept false (Some e) None is = refl
same_kept false (Some e) (Some f) is = refl

-- the keys that are named, with what they hold
same_named : (ks : List Bytes) (m n : RedisMap) → AgreeOn ks m n → keep (λ k _. among ks k) m ≡ keep (λ k _. among ks k) n
same_named ks m n agree =
    same_map _ _ (λ q. get-keep (λ k _. among ks k) m q ∙ same_kept (among ks q) (get m q) (get n q) (agree q) ∙ sym (get-keep (λ k _. among ks k) n q))

-- DEL: as many go, and what stays agrees
pub del_alike : (ks : List Bytes) (m n : RedisMap) → AgreeOn ks m n → Alike ks (del m ks) (del n ks)
del_alike ks m n agree =
    (ap number (number_gone ks m ∙ ap size (same_named ks m n agree) ∙ sym (number_gone ks n)), λ q h. get-keep (λ k _. not (among ks k)) m q ∙ ap (kept (λ _. not (among ks q))) (agree q h) ∙ sym (get-keep (λ k _. not (among ks k)) n q))
