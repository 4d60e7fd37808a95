-- What an open compaction asks of the rows is kept by every event, and lets its rows be installed.
use Rattle.std.proofs.Common.{◌≡◌, ℕ, zero, suc, ◌+◌, ◌<◌, ◌≤◌, List, [], ◌∷◌, ◌++◌, refl, sym, ap, subst, ◌∙◌, Bool, true, false, cond, inl, inr, arith}
use Rattle.std.specs.Prelude.{◌⊎◌, not, Option, Some, None, option_and_then, IsTrue, IfSome}
use Rattle.std.specs.List.{list_any, Contains}
use Rattle.std.proofs.lemmas.List.Elements.{Contains-append_left, Contains-append_right, Contains-append_cases}
use Rattle.kv_base.specs.Map.{Bytes, kept}
use Rattle.kv_base.specs.RawKeys.{read_raw}
use Rattle.kv_base.specs.MetaValues.{MetaValue, version_of}
use Rattle.batch_codec.specs.Batches.{Batch, after}
use Rattle.redis_model.specs.declared.reply.Reply.{Reply}
use Rattle.redis_model.specs.declared.command.Cmds.{Cmds}
use Rattle.redis_model.specs.Value.{RedisMap}
use Rattle.redis_model.specs.Keys.{among}
use Rattle.kv_base.specs.declared.row.Row.{Row}
use Rattle.row_model.specs.Rows.{at, are_upto, AreApart}
use Rattle.row_model.specs.RowMapLaws.{same_rows_alike}
use Rattle.lives_model.specs.Rows.{Rows}
use Rattle.lives_model.specs.Clean.{is_live, live_at, is_version_of, clean}
use Rattle.lives_model.specs.CleanLaws.{live_later}
use Rattle.lives_model.specs.Plans.{IsPlanFor, version, keys_in}
use Rattle.filter_laws.specs.Watchers.{Watcher, IsLater, IsWatched}
use Rattle.filter_laws.specs.Kept.{row_life, watcher_has_life, is_orphaned}
use Rattle.filter_laws.specs.Kept as rules
use Rattle.filter_laws.specs.KeptRowLaws.{any_there}
use Rattle.filter_laws.specs.Replaced.{CanReplace, IsDead, AreDead}
use Rattle.filter_laws.specs.KeptCleanLaws.{kept_is_clean}
use Rattle.filter_laws.specs.KeptLaws.{kept_apart_from}
use Rattle.filter_laws.specs.DeadLifeLaws.{plan_stays_dead}
use Rattle.filter_laws.specs.Filtered.{Filtering, begun, AreIssuedBefore, StaysDead, IsPutInPlace}

-- ---- what is dead

none_there : {X : Type 0} (p : X → Bool) (xs : List X) (x : X) → Contains xs x → not (list_any p xs) ≡ true → p x ≡ false
none_there p xs x there h = by_test (p x) refl
  where
    by_test : (b : Bool) → p x ≡ b → b ≡ false
    by_test false e = refl
    by_test true e = let found : list_any p xs ≡ true = any_there p xs x there e in let no : false ≡ true = sym (ap not found) ∙ h in absurd (cc)

-- the rows that the third rule takes away are dead for each that watches
orphan_is_dead : (watch : List Watcher) (all : List Row) (v : Watcher) (life : Option (Bytes × ℕ)) → Contains watch v → is_orphaned watch all life ≡ true → IfSome life (IsDead (at all v.seq) v.moment)
orphan_is_dead watch all v None there h = tt
orphan_is_dead watch all v (Some life) there h = none_there (watcher_has_life all life) watch v there h

-- and what is dead is dead later
dead_later : (c : Rows) (t u : ℕ) (life : Bytes × ℕ) → t ≤ u → IsDead c t life → IsDead c u life
dead_later c t u life le dead = ap (λ (o : Option MetaValue). is_version_of (option_and_then version_of o) life.1) (live_later c t u life.0 le) ∙ by_meta (live_at c t life.0) dead
  where
    by_live : (b : Bool) (meta : MetaValue) → is_version_of (version_of meta) life.1 ≡ false → is_version_of (option_and_then version_of (cond b (Some meta) None)) life.1 ≡ false
    by_live true meta h = h
    by_live false meta h = refl

    by_meta : (o : Option MetaValue) → is_version_of (option_and_then version_of o) life.1 ≡ false → is_version_of (option_and_then version_of (kept (is_live u) o)) life.1 ≡ false
    by_meta None h = refl
    by_meta (Some meta) h = by_live (is_live u meta) meta h

if_later : (c : Rows) (t u : ℕ) (o : Option (Bytes × ℕ)) → t ≤ u → IfSome o (IsDead c t) → IfSome o (IsDead c u)
if_later c t u None le h = tt
if_later c t u (Some life) le h = dead_later c t u life le h

-- ---- the beginning

-- it holds where a compaction begins, with all pins and the newest rows as watchers
pub begins : (rows : List Row) (last floor : ℕ) (pins : List Watcher) (inputs : List Row) → IsTrue (are_upto last inputs) → ((v : Watcher) → Contains pins v → v.seq ≤ last) → StaysDead rows last pins (begun rows last floor pins inputs)
begins rows last floor pins inputs upto pinned = record {
  watching = record {
    present = here;
    upto = upto;
    written = λ v there. each v (Contains-append_cases pins (now ∷ []) v there);
    pinned = pinned;
    watched = λ v there. inl (Contains-append_left pins (now ∷ []) v there);
  };
  for_each = λ v kind row there orphan. orphan_is_dead (begun rows last floor pins inputs).watch rows v (row_life (read_raw row.raw)) (among_all v kind) orphan;
  from_now = λ t le row there orphan. if_later (at rows last) floor t (row_life (read_raw row.raw)) le (orphan_is_dead (begun rows last floor pins inputs).watch rows now (row_life (read_raw row.raw)) here orphan);
}
  where
    now : Watcher
    now = record { seq = last; moment = floor }

    here : Contains (pins ++ now ∷ []) now
    here = Contains-append_right pins (now ∷ []) now (0, omega arith, refl)

    each : (v : Watcher) → Contains pins v ⊎ Contains (now ∷ []) v → v.seq ≤ last
    each v (inl there) = pinned v there
    each v (inr (zero, low, is)) = let seq : last ≡ v.seq = ap (λ (w : Watcher). w.seq) is in omega arith
    each v (inr (suc k, low, is)) = absurd (omega arith)

    among_all : (v : Watcher) → Contains (pins ++ now ∷ []) v ⊎ Contains pins v → Contains (pins ++ now ∷ []) v
    among_all v (inl there) = there
    among_all v (inr there) = Contains-append_left pins (now ∷ []) v there

-- ---- events that change no rows

-- rows that show the same, as after a flush
pub dead_with_same_rows : (rows new : List Row) (last : ℕ) (pins : List Watcher) (job : Filtering) → ((s : ℕ) → at new s ≡ at rows s) → StaysDead rows last pins job → StaysDead new last pins job
dead_with_same_rows rows new last pins job alike is = record {
  watching = is.watching;
  for_each = λ v kind. subst (λ (c : Rows). AreDead job.watch job.inputs job.all c v.moment) (sym (alike v.seq)) (is.for_each v kind);
  from_now = λ t le. subst (λ (c : Rows). AreDead job.watch job.inputs job.all c t) (sym (alike last)) (is.from_now t le);
}

-- a pin that is made: it sees the newest rows
pub dead_with_pin : (rows : List Row) (last floor : ℕ) (pins : List Watcher) (job : Filtering) → job.now.moment ≤ floor → StaysDead rows last pins job → StaysDead rows last (pins ++ record { seq = last; moment = floor } ∷ []) job
dead_with_pin rows last floor pins job le is = record {
  watching = record {
    present = is.watching.present;
    upto = is.watching.upto;
    written = is.watching.written;
    pinned = λ v there. low v (Contains-append_cases pins (made ∷ []) v there);
    watched = λ v there. by_kind v (Contains-append_cases pins (made ∷ []) v there);
  };
  for_each = λ v kind. dead v (cases v kind);
  from_now = is.from_now;
}
  where
    made : Watcher
    made = record { seq = last; moment = floor }

    only : (v : Watcher) → Contains (made ∷ []) v → made ≡ v
    only v (zero, low, is) = is
    only v (suc k, low, is) = absurd (omega arith)

    low : (v : Watcher) → Contains pins v ⊎ Contains (made ∷ []) v → v.seq ≤ last
    low v (inl there) = is.watching.pinned v there
    low v (inr there) = let seq : last ≡ v.seq = ap (λ (w : Watcher). w.seq) (only v there) in omega arith

    later : IsLater job.now made
    later = record { seq = is.watching.written job.now is.watching.present; moment = le }

    by_kind : (v : Watcher) → Contains pins v ⊎ Contains (made ∷ []) v → IsWatched job.watch job.now v
    by_kind v (inl there) = is.watching.watched v there
    by_kind v (inr there) = inr (subst (λ (w : Watcher). IsLater job.now w) (only v there) later)

    cases : (v : Watcher) → Contains job.watch v ⊎ Contains (pins ++ made ∷ []) v → (Contains job.watch v ⊎ Contains pins v) ⊎ (made ≡ v)
    cases v (inl there) = inl (inl there)
    cases v (inr there) = elim (Contains-append_cases pins (made ∷ []) v there) [ inl old ↦ inl (inr old) | inr new ↦ inr (only v new) ]

    dead : (v : Watcher) → (Contains job.watch v ⊎ Contains pins v) ⊎ (made ≡ v) → AreDead job.watch job.inputs job.all (at rows v.seq) v.moment
    dead v (inl kind) = is.for_each v kind
    dead v (inr one) = subst (λ (w : Watcher). AreDead job.watch job.inputs job.all (at rows w.seq) w.moment) one (is.from_now floor le)

-- pins that are removed
pub dead_with_fewer_pins : (rows : List Row) (last : ℕ) (pins less : List Watcher) (job : Filtering) → ((v : Watcher) → Contains less v → Contains pins v) → StaysDead rows last pins job → StaysDead rows last less job
dead_with_fewer_pins rows last pins less job within is = record {
  watching = record {
    present = is.watching.present;
    upto = is.watching.upto;
    written = is.watching.written;
    pinned = λ v there. is.watching.pinned v (within v there);
    watched = λ v there. is.watching.watched v (within v there);
  };
  for_each = λ v kind. is.for_each v (wider v kind);
  from_now = is.from_now;
}
  where
    wider : (v : Watcher) → Contains job.watch v ⊎ Contains less v → Contains job.watch v ⊎ Contains pins v
    wider v (inl there) = inl there
    wider v (inr there) = inr (within v there)

-- ---- a batch

-- a plan on the newest rows, at a moment not before the compaction's
pub dead_with_batch : (rows new : List Row) (last : ℕ) (pins : List Watcher) (job : Filtering) (t base : ℕ) (m : RedisMap) (ds : Cmds) (b : Batch) (answer : Reply) (until : Option ℕ)
    → ((s : ℕ) → s ≤ last → at new s ≡ at rows s) → at new (last + 1) ≡ after (at rows last) b → IsPlanFor (at rows last) t base m ds b answer until → job.now.moment ≤ t → AreIssuedBefore job.inputs ds base
    → StaysDead rows last pins job → StaysDead new (last + 1) pins job
dead_with_batch rows new last pins job t base m ds b answer until old top plan late issued is = record {
  watching = record {
    present = is.watching.present;
    upto = is.watching.upto;
    written = λ v there. let low = is.watching.written v there in omega arith;
    pinned = λ v there. let low = is.watching.pinned v there in omega arith;
    watched = is.watching.watched;
  };
  for_each = λ v kind. subst (λ (c : Rows). AreDead job.watch job.inputs job.all c v.moment) (sym (old v.seq (low v kind))) (is.for_each v kind);
  from_now = λ u le row there orphan.
      subst (λ (c : Rows). IfSome (row_life (read_raw row.raw)) (IsDead c u)) (sym top)
      (by_life (row_life (read_raw row.raw)) (issued row there) (λ w up. is.from_now w up row there orphan) u le);
}
  where
    low : (v : Watcher) → Contains job.watch v ⊎ Contains pins v → v.seq ≤ last
    low v (inl there) = is.watching.written v there
    low v (inr there) = is.watching.pinned v there

    by_life : (o : Option (Bytes × ℕ)) → IfSome o (λ life. IsTrue (among (keys_in ds) life.0) → life.1 < version base 0) → ((w : ℕ) → job.now.moment ≤ w → IfSome o (IsDead (at rows last) w))
        → (u : ℕ) → job.now.moment ≤ u → IfSome o (IsDead (after (at rows last) b) u)
    by_life None low dead u le = tt
    by_life (Some life) low dead u le = plan_stays_dead (at rows last) t base m ds b answer until job.now.moment life.0 life.1 plan late low dead u le

-- ---- the install

module _ (rows new others deeper : List Row) (last : ℕ) (pins : List Watcher) (job : Filtering) (put : IsPutInPlace rows new others deeper job) (is : StaysDead rows last pins job) where
  apart_inputs : AreApart job.inputs
  apart_inputs row other there too = put.apart row other (Contains-append_right others job.inputs row there) (Contains-append_right others job.inputs other too)

  apart_others : AreApart others
  apart_others row other there too = put.apart row other (Contains-append_left others job.inputs row there) (Contains-append_left others job.inputs other too)

  can : CanReplace job.watch job.now others job.inputs deeper
  can = record { present = is.watching.present; upto = is.watching.upto; apart = apart_inputs; placed = put.placed }

  as_clean : (v : Watcher) → IsWatched job.watch job.now v → AreDead job.watch job.inputs job.all (at rows v.seq) v.moment → clean (at new v.seq) v.moment ≡ clean (at rows v.seq) v.moment
  as_clean v watched dead =
      ap (λ (c : Rows). clean c v.moment)
      (same_rows_alike (others ++ rules.kept_rows job.watch job.inputs deeper job.all) new v.seq (kept_apart_from job.watch job.inputs deeper job.all others apart_others apart_inputs put.placed) put.after_)
      ∙ kept_is_clean job.watch job.now others job.inputs deeper job.all v can watched (subst (λ (c : Rows). AreDead job.watch job.inputs job.all c v.moment) here dead)
      ∙ ap (λ (c : Rows). clean c v.moment) (sym here)
    where
      here : at rows v.seq ≡ at (others ++ job.inputs) v.seq
      here = same_rows_alike (others ++ job.inputs) rows v.seq put.apart put.before

  -- each pin sees what it saw
  pub pins_see_alike : (v : Watcher) → Contains pins v → clean (at new v.seq) v.moment ≡ clean (at rows v.seq) v.moment
  pins_see_alike v there = as_clean v (is.watching.watched v there) (is.for_each v (inr there))

  -- so does each watcher of the beginning
  pub watchers_see_alike : (v : Watcher) → Contains job.watch v → clean (at new v.seq) v.moment ≡ clean (at rows v.seq) v.moment
  watchers_see_alike v there = as_clean v (inl there) (is.for_each v (inl there))

  -- and of the newest rows the same counts at the compaction's moment and every later one
  pub newest_alike : (t : ℕ) → job.now.moment ≤ t → clean (at new last) t ≡ clean (at rows last) t
  newest_alike t le = as_clean (record { seq = last; moment = t }) (inr (record { seq = is.watching.written job.now is.watching.present; moment = le })) (is.from_now t le)
