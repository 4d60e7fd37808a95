-- Outcomes that are alike, composed as commands are: step by step, by cases, and by a collection that is put back.
use Rattle.std.proofs.Common.{◌≡◌, ℕ, Bool, true, false, cond, ◌||◌, List, [], ◌∷◌, refl, sym, subst, ap, ◌∙◌}
use Rattle.std.proofs.lemmas.Bool.{or_right}
use Rattle.std.specs.Prelude.{Option, Some, None, option_and_then, Ok, Err, nat_lt, ◌==◌}
use Rattle.kv_base.specs.Map.{Bytes, same, get, insert, remove, get-insert, get-remove, same_itself}
use Rattle.redis_model.specs.declared.reply.Reply.{Reply}
use Rattle.redis_model.specs.declared.reply.ReplyError.TheVariants.{TooLarge}
use Rattle.redis_model.specs.Value.{Entry, RedisMap, deadline_at, max_size}
use Rattle.redis_model.specs.Outcome.{Outcome, ◌>>=◌, Kind, seen, at_key, put, change, reading, changing}
use Rattle.redis_model.specs.Keys.{among}
use Rattle.key_locality.specs.Agree.{AgreeOn, Alike}

-- ---- keys among others

-- the first of some keys is among them
pub among_first : (k : Bytes) (ks : List Bytes) → among (k ∷ ks) k ≡ true
among_first k ks = ap (λ (b : Bool). b || among ks k) (same_itself k)

-- and so is each of the others
pub among_later : (k q : Bytes) (ks : List Bytes) → among ks q ≡ true → among (k ∷ ks) q ≡ true
among_later k q ks h = or_right (same q k) (among ks q) h

-- maps that agree on some keys agree at the first
pub agree_first : (k : Bytes) (ks : List Bytes) (m n : RedisMap) → AgreeOn (k ∷ ks) m n → get m k ≡ get n k
agree_first k ks m n agree = agree k (among_first k ks)

-- and on the others
pub agree_later : (k : Bytes) (ks : List Bytes) (m n : RedisMap) → AgreeOn (k ∷ ks) m n → AgreeOn ks m n
agree_later k ks m n agree q h = agree q (among_later k q ks h)

-- the deadline of a key at which two maps agree
pub same_deadline_at : (m n : RedisMap) (k : Bytes) → get m k ≡ get n k → deadline_at m k ≡ deadline_at n k
same_deadline_at m n k here = ap (option_and_then (λ (e : Entry). e.deadline)) here

module _ (ks : List Bytes) where
  -- the same entry put into both maps, or the same key taken out
  pub agree_insert : (m n : RedisMap) (k : Bytes) (e f : Entry) → e ≡ f → AgreeOn ks m n → AgreeOn ks (insert m k e) (insert n k f)
  agree_insert m n k e f is agree q h =
      get-insert m k e q ∙ ap (λ (x : Option Entry). cond (same q k) (Some e) x) (agree q h)
      ∙ ap (λ (x : Entry). cond (same q k) (Some x) (get n q)) is ∙ sym (get-insert n k f q)

  -- the same key taken out of both maps
  pub agree_remove : (m n : RedisMap) (k : Bytes) → AgreeOn ks m n → AgreeOn ks (remove m k) (remove n k)
  agree_remove m n k agree q h =
      get-remove m k q ∙ ap (λ (x : Option Entry). cond (same q k) None x) (agree q h) ∙ sym (get-remove n k q)

  -- ---- steps and cases

  -- a step that comes to the same, and then alike
  pub alike_then : {A : Type 0} (o p : Outcome A) (f g : A → Outcome (Reply × RedisMap)) → o ≡ p → ((a : A) → Alike ks (f a) (g a)) → Alike ks (o >>= f) (p >>= g)
  alike_then (Ok a) p f g is h = subst (λ x. Alike ks (f a) (x >>= g)) is (h a)
  alike_then (Err e) p f g is h = subst (λ x. Alike ks (Err e) (x >>= g)) is refl

  -- a test that comes out the same, and both ways alike
  pub alike_if : (b c : Bool) (x y z w : Outcome (Reply × RedisMap)) → b ≡ c → Alike ks x y → Alike ks z w → Alike ks (cond b x z) (cond c y w)
  alike_if true c x y z w is h k = subst (λ d. Alike ks x (cond d y w)) is h
  alike_if false c x y z w is h k = subst (λ d. Alike ks z (cond d y w)) is k

  -- ---- collections

  module _ {A : Type 0} (kind : Kind A) where
    -- one collection put with one deadline, and then alike
    pub put_alike : (m n : RedisMap) (k : Bytes) (a : A) (d e : Option ℕ) (f g : RedisMap → Outcome (Reply × RedisMap)) → AgreeOn ks m n → d ≡ e → ((o p : RedisMap) → AgreeOn ks o p → Alike ks (f o) (g p)) → Alike ks (put kind m k a d >>= f) (put kind n k a e >>= g)
    put_alike m n k a d e f g agree is h =
        elim (nat_lt max_size (kind.count a)) as (λ big. Alike ks (cond big (Err TooLarge) (cond (kind.count a == 0) (Ok (remove m k)) (Ok (insert m k (record { value = kind.value_of a; deadline = d })))) >>= f) (cond big (Err TooLarge) (cond (kind.count a == 0) (Ok (remove n k)) (Ok (insert n k (record { value = kind.value_of a; deadline = e })))) >>= g)) [
          | true ↦ refl
          | false ↦ elim (kind.count a == 0) as (λ none. Alike ks (cond none (Ok (remove m k)) (Ok (insert m k (record { value = kind.value_of a; deadline = d }))) >>= f) (cond none (Ok (remove n k)) (Ok (insert n k (record { value = kind.value_of a; deadline = e }))) >>= g)) [
            | true ↦ h _ _ (agree_remove m n k agree)
            | false ↦ h _ _ (agree_insert m n k _ _ (λ i. record { value = kind.value_of a; deadline = is i }) agree)
          ]
        ]

    -- what a key's collection becomes, where the maps agree at the key
    pub change_alike : (m n : RedisMap) (k : Bytes) (a : A) (f g : RedisMap → Outcome (Reply × RedisMap)) → AgreeOn ks m n → get m k ≡ get n k → ((o p : RedisMap) → AgreeOn ks o p → Alike ks (f o) (g p)) → Alike ks (change kind m k a >>= f) (change kind n k a >>= g)
    change_alike m n k a f g agree here = put_alike m n k a _ _ f g agree (same_deadline_at m n k here)

    module _ (m n : RedisMap) (agree : AgreeOn ks m n) (k : Bytes) (here : get m k ≡ get n k) where
      -- the collection at a key, and then alike
      pub at_key_alike : (f g : A → Outcome (Reply × RedisMap)) → ((a : A) → Alike ks (f a) (g a)) → Alike ks (at_key kind m k >>= f) (at_key kind n k >>= g)
      at_key_alike f g = alike_then (at_key kind m k) (at_key kind n k) f g (ap (seen kind) here)

      -- a command that only reads
      pub reading_alike : (f : A → Reply) → Alike ks (reading kind m k f) (reading kind n k f)
      reading_alike f = at_key_alike _ _ (λ a. (refl, agree))

      -- a command that answers and changes the collection
      pub changing_alike : (f : A → Outcome (Reply × A)) → Alike ks (changing kind m k f) (changing kind n k f)
      changing_alike f =
          at_key_alike _ _ (λ a. alike_then (f a) (f a) _ _ refl (λ r. change_alike m n k r.1 _ _ agree here (λ o p same. (refl, same))))

-- ---- commands of one key

module _ {A : Type 0} (kind : Kind A) (m n : RedisMap) (k : Bytes) (agree : AgreeOn (k ∷ []) m n) where
  -- a command that only reads the collection at its one key
  pub read_alone : (f : A → Reply) → Alike (k ∷ []) (reading kind m k f) (reading kind n k f)
  read_alone = reading_alike (k ∷ []) kind m n agree k (agree_first k [] m n agree)

  -- a command that answers and changes it
  pub changed_alone : (f : A → Outcome (Reply × A)) → Alike (k ∷ []) (changing kind m k f) (changing kind n k f)
  changed_alone = changing_alike (k ∷ []) kind m n agree k (agree_first k [] m n agree)
