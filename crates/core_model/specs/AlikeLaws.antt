-- What counts of one key depends on the rows of that key alone.
use Rattle.std.proofs.Common.{◌≡◌, ℕ, ◌<◌, ◌≤◌, ◌^◌, refl, sym, ap, subst, ◌∙◌, true, length, ◌++◌, append_assoc, inl, inr, arith}
use Rattle.std.proofs.lemmas.Bool.Decides.{nat_tests}
use Rattle.std.specs.Prelude.{Option, Some, None, IsTrue, IfSome, option_and_then}
use Rattle.kv_base.specs.Map.{Bytes, kept, get}
use Rattle.kv_base.specs.InversionLaws.{same_some}
use Rattle.kv_base.specs.Fields.{u64, text, read_text}
use Rattle.kv_base.specs.FieldLaws.{text_is_read}
use Rattle.kv_base.specs.RawKeys.{RawKey, MetaKey, ElementKey, ScoreKey, is_key, raw_text, read_raw}
use Rattle.kv_base.specs.RawKeyLaws.{only_raw_is_read}
use Rattle.kv_base.specs.MetaValues.{read_meta, version_of}
use Rattle.batch_codec.specs.Batches.{Batch, after}
use Rattle.lives_model.specs.Rows.{Rows, IsOnGrammar, Side, meta_key, row_key}
use Rattle.lives_model.specs.RowKeys.{IsOfKey, key_of}
use Rattle.lives_model.specs.RowKeyLaws.{raw_is_of_key, only_meta_key_is_read, row_key_is_no_meta_key}
use Rattle.lives_model.specs.Clean.{is_live, live_at, is_version_of, counts, clean}
use Rattle.lives_model.specs.CleanLaws.{get-clean, kept_alike, clean_later}
use Rattle.lives_model.specs.StepLaws.{still}
use Rattle.lives_model.specs.Lapses.{CountsAlike}

-- ---- the key of a raw key

short : (key : Bytes) → is_key key ≡ true → length key < 2 ^ 32
short key h = grind (arith, nat_tests)

-- what begins with the text of a key tells the key
same_text : (k j a b : Bytes) → IsTrue (is_key k) → IsTrue (is_key j) → text k ++ a ≡ text j ++ b → k ≡ j
same_text k j a b hk hj e =
    let both : Some (k, a) ≡ Some (j, b) = sym (text_is_read k (short k hk) a) ∙ ap read_text e ∙ text_is_read j (short j hj) b in
    ap (λ (p : Bytes × Bytes). p.0) (same_some {X = Bytes × Bytes} (k, a) (j, b) both)

-- two rows at one place are of one key, whatever the versions
pub row_tells_key : (side other : Side) (k j : Bytes) (version v : ℕ) (subkey x : Bytes) → IsTrue (is_key k) → IsTrue (is_key j) → row_key side k version subkey ≡ row_key other j v x → k ≡ j
unfolding row_key
row_tells_key side other k j version v subkey x hk hj e =
    let behind : (text k ++ u64 version) ++ subkey ≡ (text j ++ u64 v) ++ x = cc in
    same_text k j (u64 version ++ subkey) (u64 v ++ x) hk hj (sym (append_assoc (text k) (u64 version) subkey) ∙ behind ∙ append_assoc (text j) (u64 v) x)

key_behind : (side : Side) (k : Bytes) (version : ℕ) (subkey j raw : Bytes) → IsTrue (is_key k) → IsTrue (is_key j) → row_key side k version subkey ≡ raw → IsOfKey j raw → j ≡ k
key_behind side k version subkey j raw hk hj e (inl is) = absurd (row_key_is_no_meta_key side k version subkey j (e ∙ is))
key_behind side k version subkey j raw hk hj e (inr row) = sym (row_tells_key side row.side k j version row.version subkey row.subkey hk hj (e ∙ row.is))

-- a row of a key that is read is read as one of that key
pub read_row_has_key : (side : Side) (k : Bytes) (version : ℕ) (subkey : Bytes) (r : RawKey) → IsTrue (is_key k) → read_raw (row_key side k version subkey) ≡ Some r → key_of r ≡ k
read_row_has_key side k version subkey r hk e =
    let whole = only_raw_is_read (row_key side k version subkey) r e in
    let own = raw_is_of_key r whole.1 in
    key_behind side k version subkey (key_of r) (raw_text r) hk own.0 whole.0 own.1

if_read : (P : RawKey → Type 0) (o : Option RawKey) → ((r : RawKey) → o ≡ Some r → P r) → IfSome o P
if_read P None h = tt
if_read P (Some r) h = h r refl

-- ---- what counts

-- metadata tells what is live
pub live_by_meta : (c d : Rows) (t : ℕ) (k : Bytes) → get c (meta_key k) ≡ get d (meta_key k) → live_at c t k ≡ live_at d t k
unfolding live_at
live_by_meta c d t k e = ap (λ o. kept (is_live t) (option_and_then read_meta o)) e

-- a raw key of a key counts by what is live of that key
counts_by_live : (c d : Rows) (t : ℕ) (k : Bytes) (r : Option RawKey) (value : Bytes) → IfSome r (λ x. key_of x ≡ k) → live_at c t k ≡ live_at d t k → counts c t r value ≡ counts d t r value
counts_by_live c d t k None value h e = refl
counts_by_live c d t k (Some (MetaKey j)) value h e = refl
counts_by_live c d t k (Some (ElementKey j version subkey)) value h e =
    ap (λ o. is_version_of (option_and_then version_of o) version) (subst (λ (x : Bytes). live_at c t x ≡ live_at d t x) (sym h) e)
counts_by_live c d t k (Some (ScoreKey j version score member)) value h e =
    ap (λ o. is_version_of (option_and_then version_of o) version) (subst (λ (x : Bytes). live_at c t x ≡ live_at d t x) (sym h) e)

clean_by_live : (c d : Rows) (t : ℕ) (k raw : Bytes) → IfSome (read_raw raw) (λ x. key_of x ≡ k) → live_at c t k ≡ live_at d t k → get c raw ≡ get d raw → get (clean c t) raw ≡ get (clean d t) raw
clean_by_live c d t k raw h e same =
    get-clean c t raw
    ∙ kept_alike (counts c t (read_raw raw)) (counts d t (read_raw raw)) (get c raw) (λ value there. counts_by_live c d t k (read_raw raw) value h e)
    ∙ ap (kept (counts d t (read_raw raw))) same
    ∙ sym (get-clean d t raw)

-- the rows of a key are the same in both
pub record HasSameRows (c d : Rows) (k : Bytes) : Type 0 where
  pub meta : get c (meta_key k) ≡ get d (meta_key k)
  pub rows : (side : Side) (version : ℕ) (subkey : Bytes) → get c (row_key side k version subkey) ≡ get d (row_key side k version subkey)

-- so the same of it counts
pub same_rows_count : (c d : Rows) (t : ℕ) (k : Bytes) → IsTrue (is_key k) → HasSameRows c d k → CountsAlike c d t k
same_rows_count c d t k key same = record {
  meta = clean_by_live c d t k (meta_key k) (if_read (λ x. key_of x ≡ k) (read_raw (meta_key k)) (λ r e. ap key_of (only_meta_key_is_read k r e))) live same.meta;
  rows = λ side version subkey.
      clean_by_live c d t k (row_key side k version subkey) (if_read (λ x. key_of x ≡ k) (read_raw (row_key side k version subkey)) (λ r e. read_row_has_key side k version subkey r key e)) live
      (same.rows side version subkey);
}
  where
    live : live_at c t k ≡ live_at d t k
    live = live_by_meta c d t k same.meta

-- what counts alike counts alike later
pub alike_later : (c d : Rows) (t u : ℕ) (k : Bytes) → IsOnGrammar c → IsOnGrammar d → IsTrue (is_key k) → t ≤ u → CountsAlike c d t k → CountsAlike c d u k
alike_later c d t u k on on_too key le alike = record {
  meta = ap (λ (e : Rows). get e (meta_key k)) (sym (clean_later c t u on le)) ∙ there.meta ∙ ap (λ (e : Rows). get e (meta_key k)) (clean_later d t u on_too le);
  rows = λ side version subkey.
      ap (λ (e : Rows). get e (row_key side k version subkey)) (sym (clean_later c t u on le)) ∙ there.rows side version subkey ∙ ap (λ (e : Rows). get e (row_key side k version subkey)) (clean_later d t u on_too le);
}
  where
    there : CountsAlike (clean c t) (clean d t) u k
    there = same_rows_count (clean c t) (clean d t) u k key (record { meta = alike.meta; rows = alike.rows })

-- and so does what counts alike with that
pub alike_through : (c d e : Rows) (t : ℕ) (k : Bytes) → CountsAlike c d t k → CountsAlike d e t k → CountsAlike c e t k
alike_through c d e t k one two = record { meta = one.meta ∙ two.meta; rows = λ side version subkey. one.rows side version subkey ∙ two.rows side version subkey }

-- where the same clean rows show the same counts of each key
pub alike_clean : (c d : Rows) (t : ℕ) (k : Bytes) → clean c t ≡ clean d t → CountsAlike c d t k
alike_clean c d t k is = record { meta = ap (λ (e : Rows). get e (meta_key k)) is; rows = λ side version subkey. ap (λ (e : Rows). get e (row_key side k version subkey)) is }

-- a batch without rows of a key leaves what counts of it
pub alike_after : (c : Rows) (b : Batch) (t : ℕ) (k : Bytes) → IsTrue (is_key k) → get b (meta_key k) ≡ None
    → ((side : Side) (version : ℕ) (subkey : Bytes) → get b (row_key side k version subkey) ≡ None) → CountsAlike c (after c b) t k
alike_after c b t k key none rows = same_rows_count c (after c b) t k key (record {
  meta = sym (still c b (meta_key k) none);
  rows = λ side version subkey. sym (still c b (row_key side k version subkey) (rows side version subkey));
})
