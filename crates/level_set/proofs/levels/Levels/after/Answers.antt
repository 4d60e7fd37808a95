use Rattle.std.proofs.Common.{◌≡◌, Some, option_map, sym, ◌∙◌, ap}
use Rattle.level_set.specs.Edits.{tables_without, with_tables}
use Rattle.level_set.specs.EditLaws.{tables_staying, tables_with}
use Rattle.level_set.proofs.levels.Levels.after.Goals as goal

pub with_tables-requires : goal.with_tables-requires
with_tables-requires c =
    let is : tables_without c.args.self.now c.args.edit.now.removed ≡ Some c.in-Some.staying.items =
    sym (sym (ap (λ o. option_map (λ v. v.items) o) c.in-Some.is) ∙ c.in_ok-staying.ensures ∙ (λ i. tables_without (c.homes.ensures.all i) (c.as_slice.ensures i))) in
    tables_staying c.args.self.now c.args.edit.now.removed c.in-Some.staying.items is c.homes.ensures.order

pub invariant_of-result : goal.invariant_of-result
invariant_of-result c =
    let is : tables_without c.args.self.now c.args.edit.now.removed ≡ Some c.in-Some.staying.items =
    sym (sym (ap (λ o. option_map (λ v. v.items) o) c.in-Some.is) ∙ c.in_ok-staying.ensures ∙ (λ i. tables_without (c.homes.ensures.all i) (c.as_slice.ensures i))) in
    let more : with_tables c.in-Some.staying.items c.args.edit.now.added ≡ Some c.in-Some-2.homes.items =
    sym (sym (ap (λ o. option_map (λ v. v.items) o) c.in-Some-2.is) ∙ c.in_ok-homes.ensures ∙ ap (with_tables c.in-Some.staying.items) c.as_slice-2.ensures) in
    tables_with c.in-Some.staying.items c.args.edit.now.added c.in-Some-2.homes.items more
    (tables_staying c.args.self.now c.args.edit.now.removed c.in-Some.staying.items is c.homes.ensures.order)
