-- A core as an opening gives it stands for the state that its rows mean, and an empty history.
use Rattle.std.proofs.Common.{◌≡◌, List, [], refl, sym, ap, subst, ◌∙◌, arith}
use Rattle.std.specs.Prelude.{nat_le, Some, None, IfSome}
use Rattle.std.specs.List.{Contains}
use Rattle.kv_base.specs.declared.row.Row.{Row}
use Rattle.row_model.specs.Rows.{at, is_row_text}
use Rattle.row_model.specs.ReplayLaws.{at_none}
use Rattle.row_model.specs.RowLaws.{there_never}
use Rattle.kv_base.specs.Map.{empty}
use Rattle.lives_model.specs.Rows.{Rows}
use Rattle.lives_model.specs.GrammarLaws.{empty_means}
use Rattle.lives_model.specs.Means.{Means}
use Rattle.lives_model.specs.StepLaws.{alive_means}
use Rattle.core_model.specs.Sources.{rows_in}
use Rattle.core_model.specs.Core.{CoreState, newest_rows}
use Rattle.core_model.specs.Stands.{ArePinned, IsOpenFlush, IsOpenCompaction, IsSince}
use Rattle.redis_model.specs.Places.{Opening}
use Rattle.core_model.specs.RowsLaws.{upto_each}
use Rattle.filter_laws.specs.KeptLaws.{all_pass}
use Rattle.core_model.specs.Filtered.{IsFiltered, StandsFiltered}
use Rattle.core_model.specs.Opened.{IsOpenedCore, new_core, new_opening}

-- a core as an opening gives it stands for the state that it was opened with
pub opened_core_stands : (opening : Opening) (core : CoreState) → IsOpenedCore core opening → StandsFiltered opening core []
opened_core_stands opening core is = record {
  stands = record {
    legal = tt;
    keys = record {
      floor = sym is.floor;
      early = is.early;
      means = subst (Means (newest_rows core) core.floor) (sym (alive_means (newest_rows core) core.floor opening.state.keys is.means)) is.means;
    };
    pins = subst (λ ps. ArePinned core ps opening.state.pins) (sym is.pins) (subst (ArePinned core []) (sym is.free) tt);
    rows = is.rows;
    counts = record {
      rising = sym is.last;
      limit = is.limit;
      books = λ b low. is.books b;
      rows = λ row k there key of later. let low = upto_each core.last (rows_in core.sources) row is.rows.upto there in absurd (omega (arith, low, later, is.last));
    };
    views = tt;
    jobs = record {
      flush = subst (λ o. IsOpenFlush o None) (sym is.flush) tt;
      compact = subst (λ o. IsOpenCompaction o None) (sym is.compact) tt;
      frozen = subst (λ o. IfSome o (λ f. core.sources.frozen ≡ Some f.rows)) (sym is.flush) tt;
      since = subst (λ o. IfSome o (IsSince core)) (sym is.compact) tt;
    };
  };
  filtered = subst (λ o. IfSome o (IsFiltered core)) (sym is.compact) tt;
}

-- ---- a new store

no_rows : rows_in new_core.sources ≡ []
unfolding rows_in
no_rows = refl

none_there : (row : Row) → Contains (rows_in new_core.sources) row → ⊥
none_there row there = there_never row (subst (λ (rows : List Row). Contains rows row) no_rows there)

-- is as an opening gives it
pub new_core_is_opened : IsOpenedCore new_core new_opening
new_core_is_opened = record {
  rows = record {
    grammar = all_pass is_row_text (rows_in new_core.sources) (λ row there. absurd (none_there row there));
    upto = all_pass (λ (r : Row). nat_le r.seq 0) (rows_in new_core.sources) (λ row there. absurd (none_there row there));
    issued = λ row there. absurd (none_there row there);
    apart = λ row other there too raw seq. absurd (none_there row there);
    order = ((λ row other there behind is. absurd (there_never row there)), tt);
    levels = (tt, (tt, (tt, (tt, tt))));
  };
  limit = omega arith;
  early = omega arith;
  means = subst (λ (c : Rows). Means c 0 empty) (sym (ap (λ (rows : List Row). at rows 0) no_rows ∙ at_none 0)) (empty_means 0);
  floor = refl;
  free = refl;
  last = refl;
  pins = refl;
  books = λ b. refl;
  flush = refl;
  compact = refl;
  attempt = refl;
  tried = refl;
}
