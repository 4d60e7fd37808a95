-- What a recovery may find counts as the map that the core keeps, or as that map behind the batch that was tried.
use Rattle.std.proofs.Common.{◌≡◌, ℕ, ◌≤◌, sym, ap, subst, ◌∙◌}
use Rattle.std.specs.Prelude.{List, Option, Some, None, IfSome}
use Rattle.batch_codec.specs.Batches.{after}
use Rattle.row_model.specs.Rows.{at}
use Rattle.lives_model.specs.Rows.{Rows, IsOnGrammar}
use Rattle.lives_model.specs.Clean.{clean}
use Rattle.lives_model.specs.CleanLaws.{clean_means}
use Rattle.lives_model.specs.GrammarLaws.{after_on_grammar}
use Rattle.lives_model.specs.Means.{IsSound}
use Rattle.core_model.specs.Sources.{rows_in}
use Rattle.redis_model.specs.declared.history.Place.{Place}
use Rattle.core_model.specs.Core.{Attempt, TriedEdit, CoreState}
use Rattle.core_model.specs.Stands.{Stands}
use Rattle.redis_model.specs.Places.{Opening}
use Rattle.core_keeps.specs.Recovered.{rows_with, after_attempt, IsRecoveredCore}
use Rattle.core_keeps.specs.Keeps.{written_at, edited, KeepsAttempt, KeepsTried, KeepsAll}
use Rattle.core_model.specs.RowsLaws.{at_on_grammar}

module _ (opening : Opening) (core : CoreState) (seen : List Place) (c : Rows) (stands : Stands opening core seen) (keeps : KeepsAll opening core seen c) where
  tried_is : (e : TriedEdit) → core.tried ≡ Some e → KeepsTried core c e
  tried_is e is = subst (λ (o : Option TriedEdit). IfSome o (KeepsTried core c)) is keeps.tried

  attempt_is : (a : Attempt) → core.attempt ≡ Some a → KeepsAttempt opening core seen c a
  attempt_is a is = subst (λ (o : Option Attempt). IfSome o (KeepsAttempt opening core seen c)) is keeps.attempt

  on : (o : Option TriedEdit) (t : ℕ) → IfSome o (λ e. (core.tried ≡ Some e) × (e.floor ≤ t)) → IsOnGrammar (rows_with core o)
  on None t h = at_on_grammar (rows_in core.sources) core.last stands.rows.grammar
  on (Some e) t h = at_on_grammar (edited core e) core.last (tried_is e h.0).texts

  same : (o : Option TriedEdit) (a : Option Attempt) (t : ℕ) → core.manifest_floor ≤ t → IfSome o (λ e. (core.tried ≡ Some e) × (e.floor ≤ t)) → IfSome a (λ x. (core.attempt ≡ Some x) × (x.moment ≤ t))
      → clean (after_attempt a (rows_with core o)) t ≡ clean (after_attempt a c) t
  same None None t le h k = keeps.keeps.same t le
  same (Some e) None t le h k = (tried_is e h.0).same t le h.1
  same None (Some a) t le h k = (attempt_is a k.0).same t le k.1
  same (Some e) (Some a) t le h k = subst (λ (x : Option Attempt). IfSome x (λ y. (u : ℕ) → core.manifest_floor ≤ u → e.floor ≤ u → y.moment ≤ u → clean (after (at (edited core e) core.last) y.batch) u ≡ clean (after c y.batch) u)) k.0 (tried_is e h.0).attempt t le h.1 k.1

  on_behind : (a : Option Attempt) (t : ℕ) (rows : Rows) → IfSome a (λ x. (core.attempt ≡ Some x) × (x.moment ≤ t)) → IsOnGrammar rows → IsOnGrammar (after_attempt a rows)
  on_behind None t rows k h = h
  on_behind (Some a) t rows k h = after_on_grammar rows a.batch h (attempt_is a k.0).texts

  sound : (a : Option Attempt) (t : ℕ) → written_at opening seen ≤ t → IfSome a (λ x. (core.attempt ≡ Some x) × (x.moment ≤ t)) → IsSound (after_attempt a c) t
  sound None t late k = keeps.keeps.sound t late
  sound (Some a) t late k = (attempt_is a k.0).sound t k.1

  -- what is found counts as that map, and means keys
  pub recovered_counts : (rows kept : Rows) (floor : ℕ) → IsRecoveredCore opening core seen c rows kept floor → (clean rows floor ≡ clean kept floor) × IsSound rows floor
  recovered_counts rows kept floor is = (counts, record { map = there.map; means = clean_means kept rows floor there.map on_kept on_rows (sym counts) there.means })
    where
      counts : clean rows floor ≡ clean kept floor
      counts = ap (λ (x : Rows). clean x floor) is.rows_are ∙ same is.edit is.attempt floor is.from is.edit_is is.attempt_is ∙ ap (λ (x : Rows). clean x floor) (sym is.kept_is)

      there : IsSound kept floor
      there = subst (λ (x : Rows). IsSound x floor) (sym is.kept_is) (sound is.attempt floor is.late is.attempt_is)

      on_rows : IsOnGrammar rows
      on_rows = subst IsOnGrammar (sym is.rows_are) (on_behind is.attempt floor (rows_with core is.edit) is.attempt_is (on is.edit floor is.edit_is))

      on_kept : IsOnGrammar kept
      on_kept = subst IsOnGrammar (sym is.kept_is) (on_behind is.attempt floor c is.attempt_is keeps.keeps.grammar)
