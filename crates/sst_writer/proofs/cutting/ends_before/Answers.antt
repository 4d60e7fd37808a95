use Rattle.std.proofs.Common.{◌≡◌, Option, ℕ, Bool, sym, ap, ◌∙◌, rules}
use Rattle.std.specs.Prelude.{not, ◌&&◌}
use Rattle.kv_base.specs.Map.{same}
use Rattle.sst_writer.specs.Cutting.{ends_before}
use Rattle.sst_writer.specs.CutLaws.{no_last, some_last}
use Rattle.sst_writer.proofs.cutting.ends_before.Goals as goal

pub returns-in_default-last : goal.returns-in_default-last
returns-in_default-last c = λ rows built.
    sym (ap (λ (o : Option ℕ). ends_before o rows c.args.row.now) c.in-Some.is ∙ no_last c.in-Some.limit rows c.args.row.now (sym c.in_default-last.is ∙ built.sums.last_is))

pub returns-then-is_reached : goal.returns-then-is_reached
returns-then-is_reached c = λ rows built.
    let whole = ap (λ (o : Option ℕ). ends_before o rows c.args.row.now) c.in-Some.is ∙ some_last c.in-Some.limit rows c.in-Some-last.last c.args.row.now (sym c.in-Some-last.is ∙ built.sums.last_is) in
    let full = sym (c.is_reached.ensures rows built) ∙ c.if-is_reached.true in
    let other : c.is_ne.result ≡ not (same c.in-Some-last.last.raw c.args.row.now.raw) = search (rules, c.is_ne.ensures, c.cmp.ensures, c.bytes.ensures, c.bytes-then-is_reached.ensures) in
    other ∙ sym (whole ∙ ap (λ (b : Bool). b && not (same c.in-Some-last.last.raw c.args.row.now.raw)) full)
