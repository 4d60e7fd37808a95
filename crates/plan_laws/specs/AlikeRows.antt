-- Rows on which a key has the same live metadata and the same rows of its life.
use Rattle.std.proofs.Common.{◌≡◌, ℕ, ◌≤◌, refl, sym, ap, subst, ◌∙◌, true, false, ◌-◌, ◌^◌, ◌&&◌}
use Rattle.std.specs.Prelude.{nat_lt, Option, Some, None, IsTrue, option_and_then}
use Rattle.kv_base.specs.Map.{Bytes, get}
use Rattle.kv_base.specs.InversionLaws.{same_some, kept_is, both_first, both_second}
use Rattle.kv_base.specs.RawKeys.{is_key, is_version}
use Rattle.kv_base.specs.MetaValues.{MetaValue, StringValue, LifeValue, ListValue, is_deadline, is_size, is_life, is_meta_within, version_of}
use Rattle.redis_model.specs.Value.{Entry}
use Rattle.lives_model.specs.Rows.{Rows, IsOnGrammar, Side, row_key}
use Rattle.lives_model.specs.Clean.{is_live, live_at}
use Rattle.lives_model.specs.Means.{MeansAt, meta_for}
use Rattle.lives_model.specs.Lapses.{CountsAlike}
use Rattle.lives_model.specs.StepLaws.{live_fits, version_for}
use Rattle.lives_model.specs.CleanLaws.{row_clean, live_alike, live_later}

-- the version of the life that metadata names
abbrev pub life_of : Option MetaValue → Option ℕ
life_of meta = option_and_then version_of meta

-- the rows of one version of a key are the same
abbrev pub RowsAlike : Rows → Rows → Bytes → ℕ → Type 0
RowsAlike c d k version = (side : Side) (subkey : Bytes) → get c (row_key side k version subkey) ≡ get d (row_key side k version subkey)

-- the live metadata of a key is the same at a moment, and so are the rows of the life that it names
pub record LivesAlike (c d : Rows) (t : ℕ) (k : Bytes) : Type 0 where
  pub meta : live_at d t k ≡ live_at c t k
  pub rows : (version : ℕ) → life_of (live_at c t k) ≡ Some version → RowsAlike c d k version

-- ---- where what counts is the same

-- the version of metadata within its limits is within its own
meta_version : (meta : MetaValue) (version : ℕ) → is_meta_within meta ≡ true → version_of meta ≡ Some version → is_version version ≡ true
unfolding is_meta_within
meta_version (StringValue deadline payload) version fits e = cc
meta_version (LifeValue kind deadline v size) version fits e = subst (λ (n : ℕ). is_version n ≡ true) (same_some v version e) (both_second (is_deadline deadline) (is_version v) (both_first (is_deadline deadline && is_version v) (is_size size) fits))
meta_version (ListValue deadline v head tail) version fits e =
    let life = both_first (is_life deadline v (tail - head)) (nat_lt tail (2 ^ 64)) fits in
    subst (λ (n : ℕ). is_version n ≡ true) (same_some v version e) (both_second (is_deadline deadline) (is_version v) (both_first (is_deadline deadline && is_version v) (is_size (tail - head)) life))

-- what counts being the same, so is what lives
pub counts_lives : (c d : Rows) (t : ℕ) (k : Bytes) → IsOnGrammar c → IsOnGrammar d → IsTrue (is_key k) → CountsAlike c d t k → LivesAlike c d t k
counts_lives c d t k on on_too key alike = record { meta = same; rows = λ version e. there version (live_at c t k) refl e }
  where
    same : live_at d t k ≡ live_at c t k
    same = live_alike c d t k on on_too alike

    there : (version : ℕ) (o : Option MetaValue) → live_at c t k ≡ o → life_of o ≡ Some version → RowsAlike c d k version
    there version None is e = absurd (cc)
    there version (Some meta) is e = λ side subkey.
        let low = meta_version meta version (live_fits c t k meta is) e in
        sym (row_clean c t side k version subkey meta on key low is e)
        ∙ alike.rows side version subkey
        ∙ row_clean d t side k version subkey meta on_too key low (same ∙ is) e

-- ---- what stands on one stands on the other

-- a key stands for the same entry on both
pub stands_too : (c d : Rows) (t : ℕ) (k : Bytes) (o : Option Entry) → LivesAlike c d t k → MeansAt c t k o → MeansAt d t k o
stands_too c d t k None alike s = alike.meta ∙ s
stands_too c d t k (Some e) alike s = record {
  life = s.life;
  expire = s.expire;
  deadline = s.deadline;
  key = s.key;
  scores = s.scores;
  meta = alike.meta ∙ s.meta;
  rows = λ h side subkey.
      sym (alike.rows s.life.version (ap life_of s.meta ∙ version_for e.value s.life s.expire h) side subkey) ∙ s.rows h side subkey;
}

-- a key that is too long holds nothing
pub long_holds_none : (c : Rows) (t : ℕ) (k : Bytes) (o : Option Entry) → is_key k ≡ false → MeansAt c t k o → o ≡ None
long_holds_none c t k None long s = refl
long_holds_none c t k (Some e) long s = let key : is_key k ≡ true = s.key in cc

-- metadata that stands for an entry at two moments is the same at both
pub same_live : (c : Rows) (t later : ℕ) (k : Bytes) (o : Option Entry) → t ≤ later → MeansAt c t k o → MeansAt c later k o → live_at c later k ≡ live_at c t k
same_live c t later k None le s r = r ∙ sym s
same_live c t later k (Some e) le s r =
    let meta = meta_for e.value r.life r.expire in
    r.meta ∙ sym (kept_is (is_live later) (live_at c t k) meta (sym (live_later c t later k le) ∙ r.meta)).0
