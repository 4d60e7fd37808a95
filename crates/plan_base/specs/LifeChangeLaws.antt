-- Laws on what stands in `LifeChanges.antt`: the entries of a batch that differ, with metadata, write a life.
use Rattle.std.proofs.Common.{ℕ, ◌≡◌, refl, sym, ap, ◌∙◌, Bool, true, false, cond, inl, inr}
use Rattle.std.specs.Prelude.{◌⊎◌, Option, Some, None, IsTrue, IsSome, is_some, not}
use Rattle.kv_base.specs.Map.{Bytes, same, same_is, same_itself, kept, get, empty, insert, get-empty, get-insert, get-keep}
use Rattle.kv_base.specs.RawKeys.{is_key, is_version, is_raw_text}
use Rattle.kv_base.specs.MetaValues.{is_meta_within, meta_text}
use Rattle.batch_codec.specs.Batches.{Batch, over}
use Rattle.redis_model.specs.Value.{Entry}
use Rattle.lives_model.specs.Rows.{Rows, Side, Elements, Scores, meta_key, row_key}
use Rattle.lives_model.specs.RowKeyLaws.{same_row_key, same_row_meta, element_row_is_read, meta_key_is_read, row_key_is}
use Rattle.lives_model.specs.Clean.{deadline_from}
use Rattle.lives_model.specs.Means.{LifeAt, HasWholeScores, meta_for, row_of, has_life}
use Rattle.lives_model.specs.Plans.{same_row, changed}
use Rattle.lives_model.specs.StepLaws.{changed_itself, version_fits}
use Rattle.plan_base.specs.LifeSteps.{IsInLife, WritesLife}
use Rattle.plan_base.specs.LifeChanges.{row_differs, differing, IsElementRaw, WantsRows}

-- ---- the entries that differ

abbrev pub done : Option Bytes → Option (Option Bytes) → Option (Option Bytes)
done old None = None
done old (Some row) = changed old row

kept_changed : (old : Option Bytes) (o : Option (Option Bytes)) → kept (λ row. not (same_row old row)) o ≡ done old o
kept_changed old None = refl
kept_changed old (Some row) = by_test (same_row old row)
  where
    by_test : (b : Bool) → cond (not b) (Some row) None ≡ cond b None (Some row)
    by_test true = refl
    by_test false = refl

-- at each raw key the change that the batch makes there, if it makes one
pub differing_at : (c : Rows) (wanted : Batch) (raw : Bytes) → get (differing c wanted) raw ≡ done (get c raw) (get wanted raw)
unfolding differing
differing_at c wanted raw = get-keep (row_differs c) wanted raw ∙ kept_changed (get c raw) (get wanted raw)

-- where the row is to become this one, the change to it
done_over : (old row : Option Bytes) (o : Option (Option Bytes)) → over o old ≡ row → done old o ≡ changed old row
done_over old row None is = sym (changed_itself old) ∙ ap (changed old) is
done_over old row (Some x) is = ap (changed old) is

-- nothing differs that the batch has not
done_there : (old : Option Bytes) (o : Option (Option Bytes)) → is_some (done old o) ≡ true → is_some o ≡ true
done_there old None h = h
done_there old (Some x) h = refl

-- ---- what a batch wants of a life

-- no entry wants what is there
pub wants_nothing : (c : Rows) (k : Bytes) (version : ℕ) (rows : Bytes → Option Bytes) → ((subkey : Bytes) → get c (row_key Elements k version subkey) ≡ rows subkey) → WantsRows c k version empty rows
wants_nothing c k version rows there = record {
  only = λ raw h. let none : is_some (get (empty {X = Option Bytes}) raw) ≡ false = ap is_some (get-empty raw) in absurd (cc);
  after = λ subkey. ap (λ o. over o (get c (row_key Elements k version subkey))) (get-empty (row_key Elements k version subkey)) ∙ there subkey;
}

-- the rows with another one under a subkey
abbrev pub with_element : Bytes → Option Bytes → (Bytes → Option Bytes) → Bytes → Option Bytes
with_element x row rows subkey = cond (same subkey x) row (rows subkey)

over_one : {X : Type 0} (b : Bool) (row old : Option X) (o : Option (Option X)) → over (cond b (Some row) o) old ≡ cond b row (over o old)
over_one true row old o = refl
over_one false row old o = refl

-- one entry more
pub wants_one : (c : Rows) (k : Bytes) (version : ℕ) (wanted : Batch) (rows : Bytes → Option Bytes) (x : Bytes) (row : Option Bytes) → IsTrue (is_key k) → IsTrue (is_version version) → IsTrue (is_key x)
    → WantsRows c k version wanted rows → WantsRows c k version (insert wanted (row_key Elements k version x) row) (with_element x row rows)
wants_one c k version wanted rows x row short fits low w = record {
  only = λ raw h. by_test raw (same raw (row_key Elements k version x)) refl h;
  after = λ subkey.
      ap (λ o. over o (get c (row_key Elements k version subkey))) (get-insert wanted (row_key Elements k version x) row (row_key Elements k version subkey)
      ∙ ap (λ s. cond s (Some row) (get wanted (row_key Elements k version subkey))) (same_row_key Elements k version subkey x short fits))
      ∙ over_one (same subkey x) row (get c (row_key Elements k version subkey)) (get wanted (row_key Elements k version subkey))
      ∙ ap (λ o. cond (same subkey x) row o) (w.after subkey);
}
  where
    by_test : (raw : Bytes) (s : Bool) → same raw (row_key Elements k version x) ≡ s → IsSome (get (insert wanted (row_key Elements k version x) row) raw) → IsElementRaw k version raw
    by_test raw true e there = record { subkey = x; short = low; is = same_is raw (row_key Elements k version x) e }
    by_test raw false e there = w.only raw (sym (ap is_some (get-insert wanted (row_key Elements k version x) row raw ∙ ap (λ s. cond s (Some row) (get wanted raw)) e)) ∙ there)

-- ---- with metadata

-- the batch of a command that changes a collection: its metadata, and the rows that differ
abbrev pub life_batch : Rows → Bytes → Batch → Bytes → Batch
life_batch c k wanted meta = insert (differing c wanted) (meta_key k) (Some meta)

-- It writes the life of a value whose rows are those that are wanted, where no row stands on the side of scores.
pub writes_life : (c : Rows) (k : Bytes) (e : Entry) (life : LifeAt) (expire : ℕ) (wanted : Batch) (rows : Bytes → Option Bytes)
    → IsTrue (is_key k) → e.deadline ≡ deadline_from expire → IsTrue (is_meta_within (meta_for e.value life expire)) → HasWholeScores e.value → IsTrue (has_life e.value)
    → WantsRows c k life.version wanted rows → ((subkey : Bytes) → row_of e.value life.head Elements subkey ≡ rows subkey)
    → ((subkey : Bytes) → get c (row_key Scores k life.version subkey) ≡ None) → ((subkey : Bytes) → row_of e.value life.head Scores subkey ≡ None)
    → WritesLife c (life_batch c k wanted (meta_text (meta_for e.value life expire))) k e life expire
writes_life c k e life expire wanted rows short dl fits scores has w are none no_scores =
    record {
      deadline = dl;
      fits = fits;
      scores = scores;
      collection = has;
      meta = get-insert (differing c wanted) (meta_key k) (Some (meta_text (meta_for e.value life expire))) (meta_key k) ∙ ap (λ s. cond s (Some (Some (meta_text (meta_for e.value life expire)))) (get (differing c wanted) (meta_key k))) (same_itself (meta_key k));
      rows = by_side;
      raw = λ raw h. grammar raw (place raw (same raw (meta_key k)) refl h);
      only = λ raw h. in_life raw (place raw (same raw (meta_key k)) refl h);
    }
  where
    version : IsTrue (is_version life.version)
    version = version_fits e.value life expire has fits

    -- a raw key that the batch has is that of the metadata, or of an element
    place : (raw : Bytes) (s : Bool) → same raw (meta_key k) ≡ s → IsSome (get (life_batch c k wanted (meta_text (meta_for e.value life expire))) raw) → (raw ≡ meta_key k) ⊎ IsElementRaw k life.version raw
    place raw true is h = inl (same_is raw (meta_key k) is)
    place raw false is h =
        inr (w.only raw (done_there (get c raw) (get wanted raw)
        (sym (ap is_some (get-insert (differing c wanted) (meta_key k) (Some (meta_text (meta_for e.value life expire))) raw ∙ ap (λ s. cond s (Some (Some (meta_text (meta_for e.value life expire)))) (get (differing c wanted) raw)) is ∙ differing_at c wanted raw)) ∙ h)))

    in_life : (raw : Bytes) → (raw ≡ meta_key k) ⊎ IsElementRaw k life.version raw → (raw ≡ meta_key k) ⊎ IsInLife k life.version raw
    in_life raw (inl is) = inl is
    in_life raw (inr r) = inr (record { side = Elements; subkey = r.subkey; is = r.is })

    grammar : (raw : Bytes) → (raw ≡ meta_key k) ⊎ IsElementRaw k life.version raw → IsTrue (is_raw_text raw)
    grammar raw (inl is) = ap is_raw_text is ∙ ap is_some (meta_key_is_read k short)
    grammar raw (inr r) = ap is_raw_text r.is ∙ ap is_some (element_row_is_read k life.version r.subkey short version r.short)

    -- what stands at a row of the life is what differs there
    differs_there : (side : Side) (subkey : Bytes) → get (life_batch c k wanted (meta_text (meta_for e.value life expire))) (row_key side k life.version subkey) ≡ done (get c (row_key side k life.version subkey)) (get wanted (row_key side k life.version subkey))
    differs_there side subkey =
        get-insert (differing c wanted) (meta_key k) (Some (meta_text (meta_for e.value life expire))) (row_key side k life.version subkey)
        ∙ ap (λ s. cond s (Some (Some (meta_text (meta_for e.value life expire)))) (get (differing c wanted) (row_key side k life.version subkey))) (same_row_meta side k life.version subkey k)
        ∙ differing_at c wanted (row_key side k life.version subkey)

    -- nothing is wanted on the side of scores
    no_score : (subkey : Bytes) (o : Option (Option Bytes)) → get wanted (row_key Scores k life.version subkey) ≡ o → o ≡ None
    no_score subkey None is = refl
    no_score subkey (Some x) is =
        let r = w.only (row_key Scores k life.version subkey) (ap is_some is) in
        let side : Scores ≡ Elements = (row_key_is Scores Elements k k life.version life.version subkey r.subkey short short version version r.is).side_is in
        absurd (cc)

    by_side : (side : Side) (subkey : Bytes)
        → get (life_batch c k wanted (meta_text (meta_for e.value life expire))) (row_key side k life.version subkey) ≡ changed (get c (row_key side k life.version subkey)) (row_of e.value life.head side subkey)
    by_side Elements subkey =
        differs_there Elements subkey
        ∙ done_over (get c (row_key Elements k life.version subkey)) (row_of e.value life.head Elements subkey) (get wanted (row_key Elements k life.version subkey)) (w.after subkey ∙ sym (are subkey))
    by_side Scores subkey =
        differs_there Scores subkey
        ∙ ap (done (get c (row_key Scores k life.version subkey))) (no_score subkey (get wanted (row_key Scores k life.version subkey)) refl)
        ∙ sym (ap (λ old. changed old (row_of e.value life.head Scores subkey)) (none subkey) ∙ ap (changed None) (no_scores subkey))
