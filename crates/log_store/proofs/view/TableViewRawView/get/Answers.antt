use Rattle.std.proofs.Common.{◌≡◌, ℕ, List, Option, Some, None, option_and_then, sym, ap, ◌∙◌}
use Rattle.std.specs.Option.{option_map}
use Rattle.kv_base.specs.declared.row.Row.{Row}
use Rattle.row_model.specs.Rows.{at, seen_at}
use Rattle.kv_base.specs.RowRefs.{row_seen}
use Rattle.row_model.specs.RowMapLaws.{get_at}
use Rattle.kv_base.specs.Map.{Bytes, get}
use Rattle.log_store.proofs.view.TableViewRawView.get.Goals as goal

-- what shows has the value
value_shown : (rows : List Row) (s : ℕ) (raw : Bytes) (o : Option Row) → o ≡ seen_at rows s raw → option_and_then (λ (row : Row). row.value) o ≡ get (at rows s) raw
value_shown rows s raw o is = ap (option_and_then (λ (row : Row). row.value)) is ∙ sym (get_at rows s raw)

pub returns-in_default-clause-value : goal.returns-in_default-clause-value
returns-in_default-clause-value c = value_shown c.args.self.now.table.now c.args.self.now.sequence c.args.raw.now None c.in_default.ensures

pub returns-in_ok-copy-in-Some-value-clause-value : goal.returns-in_ok-copy-in-Some-value-clause-value
returns-in_ok-copy-in-Some-value-clause-value c =
    ap (λ (value : Bytes). Some value) c.in_ok-copy-in-Some-value.ensures
    ∙ sym (ap (option_map (λ value. value.now)) c.in-Some-value.is)
    ∙ value_shown c.args.self.now.table.now c.args.self.now.sequence c.args.raw.now (Some (row_seen c.in-Some.row)) c.in-Some.ensures

pub returns-in-None-clause-value : goal.returns-in-None-clause-value
returns-in-None-clause-value c =
    sym (ap (option_map (λ value. value.now)) c.in-None.is)
    ∙ value_shown c.args.self.now.table.now c.args.self.now.sequence c.args.raw.now (Some (row_seen c.in-Some.row)) c.in-Some.ensures
