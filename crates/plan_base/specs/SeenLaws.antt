-- What the metadata of a key tells of its entry, of rows that mean a map.
use Rattle.std.proofs.Common.{ℕ, ◌≡◌, refl, sym, ap, ◌∙◌}
use Rattle.std.specs.Prelude.{Option, Some, None, IfSome, is_some, option_and_then}
use Rattle.kv_base.specs.Map.{Bytes, get, has}
use Rattle.kv_base.specs.MetaValues.{MetaValue}
use Rattle.redis_model.specs.Value.{Value, Str, Hash, ListOf, SetOf, ZSet, Entry, RedisMap, deadline_at}
use Rattle.redis_model.specs.Outcome.{as_string, string_of, string_at}
use Rattle.redis_model.specs.Keys.{word_of, word_at}
use Rattle.lives_model.specs.Rows.{Rows, meta_key}
use Rattle.lives_model.specs.Clean.{deadline_from, live_at}
use Rattle.lives_model.specs.Means.{Means, MeansAt, LifeAt, meta_for}
use Rattle.lives_model.specs.StepLaws.{expire_for}
use Rattle.plan_base.specs.Seen.{live_in, deadline_in, string_in, word_of_meta, word_in}

-- ---- what metadata tells, where there is some

-- what is live of the bytes at the metadata of a key is what is live at the key
pub seen_live : (rows : Option Rows) (t : ℕ) (k : Bytes) (text : Option Bytes) (found : Option MetaValue) → IfSome rows (λ c. text ≡ get c (meta_key k)) → found ≡ live_in t text
    → IfSome rows (λ c. found ≡ live_at c t k)
unfolding live_at
seen_live None t k text found there live = tt
seen_live (Some c) t k text found there live = live ∙ ap (live_in t) there

-- ---- of rows that mean a map

-- an entry is there where metadata is
there_by : (c : Rows) (t : ℕ) (k : Bytes) (o : Option Entry) → MeansAt c t k o → is_some o ≡ is_some (live_at c t k)
there_by c t k None s = sym (ap is_some s)
there_by c t k (Some e) s = sym (ap is_some s.meta)

-- a key is there exactly where its metadata is
pub seen_there : {c : Rows} {t : ℕ} {m : RedisMap} (means : Means c t m) (k : Bytes) → has m k ≡ is_some (live_at c t k)
seen_there {c} {t} {m} means k = there_by c t k (get m k) (means.stands k)

-- no metadata, no entry
none_by : (c : Rows) (t : ℕ) (k : Bytes) (o : Option Entry) → MeansAt c t k o → live_at c t k ≡ None → o ≡ None
none_by c t k None s e = refl
none_by c t k (Some entry) s e = let no : Some (meta_for entry.value s.life s.expire) ≡ None = sym s.meta ∙ e in cc

-- where there is no metadata there is no entry
pub seen_none : {c : Rows} {t : ℕ} {m : RedisMap} (means : Means c t m) (k : Bytes) → live_at c t k ≡ None → get m k ≡ None
seen_none {c} {t} {m} means k e = none_by c t k (get m k) (means.stands k) e

-- metadata, and so an entry
some_by : (c : Rows) (t : ℕ) (k : Bytes) (o : Option Entry) (meta : MetaValue) → MeansAt c t k o → live_at c t k ≡ Some meta → (e : Entry) × (o ≡ Some e)
some_by c t k None meta s e = let no : Some meta ≡ None = sym e ∙ s in cc
some_by c t k (Some entry) meta s e = (entry, refl)

-- where there is metadata there is an entry
pub seen_some : {c : Rows} {t : ℕ} {m : RedisMap} (means : Means c t m) (k : Bytes) (meta : MetaValue) → live_at c t k ≡ Some meta → (e : Entry) × (get m k ≡ Some e)
seen_some {c} {t} {m} means k meta e = some_by c t k (get m k) meta (means.stands k) e

-- the deadline of an entry is the one in its metadata
deadline_by : (c : Rows) (t : ℕ) (k : Bytes) (o : Option Entry) → MeansAt c t k o → option_and_then (λ e. e.deadline) o ≡ deadline_in (live_at c t k)
deadline_by c t k None s = sym (ap deadline_in s)
deadline_by c t k (Some e) s = s.deadline ∙ sym (ap deadline_in s.meta ∙ ap deadline_from (expire_for e.value s.life s.expire))

-- the deadline of a key is the one in its metadata
pub seen_deadline : {c : Rows} {t : ℕ} {m : RedisMap} (means : Means c t m) (k : Bytes) → deadline_at m k ≡ deadline_in (live_at c t k)
seen_deadline {c} {t} {m} means k = deadline_by c t k (get m k) (means.stands k)

-- the string of a value is the payload of its metadata
string_for : (v : Value) (life : LifeAt) (x : ℕ) → as_string v ≡ string_in (Some (meta_for v life x))
string_for (Str v) life x = refl
string_for (Hash v) life x = refl
string_for (ListOf v) life x = refl
string_for (SetOf v) life x = refl
string_for (ZSet v) life x = refl

-- the same of an entry
string_by : (c : Rows) (t : ℕ) (k : Bytes) (o : Option Entry) → MeansAt c t k o → string_of o ≡ string_in (live_at c t k)
string_by c t k None s = sym (ap string_in s)
string_by c t k (Some e) s = string_for e.value s.life s.expire ∙ sym (ap string_in s.meta)

-- the string at a key is the payload of its metadata
pub seen_string : {c : Rows} {t : ℕ} {m : RedisMap} (means : Means c t m) (k : Bytes) → string_at m k ≡ string_in (live_at c t k)
seen_string {c} {t} {m} means k = string_by c t k (get m k) (means.stands k)

-- the word for a value is the one for its metadata
word_for : (v : Value) (life : LifeAt) (x : ℕ) → word_of v ≡ word_of_meta (meta_for v life x)
word_for (Str v) life x = refl
word_for (Hash v) life x = refl
word_for (ListOf v) life x = refl
word_for (SetOf v) life x = refl
word_for (ZSet v) life x = refl

-- the same of an entry
word_by : (c : Rows) (t : ℕ) (k : Bytes) (o : Option Entry) → MeansAt c t k o → word_at o ≡ word_in (live_at c t k)
word_by c t k None s = sym (ap word_in s)
word_by c t k (Some e) s = word_for e.value s.life s.expire ∙ sym (ap word_in s.meta)

-- the word for the type of a key is the one of its metadata
pub seen_word : {c : Rows} {t : ℕ} {m : RedisMap} (means : Means c t m) (k : Bytes) → word_at (get m k) ≡ word_in (live_at c t k)
seen_word {c} {t} {m} means k = word_by c t k (get m k) (means.stands k)
