use Rattle.std.proofs.Common.{◌+◌, ◌++◌, List, [], ◌∷◌, drop, option_map, sym, ◌∙◌, ap, arith}
use Rattle.std.proofs.lemmas.List.{drop_all}
use Rattle.kv_base.specs.declared.name.TableId.{TableId}
use Rattle.level_set.specs.declared.home.Home.{Home}
use Rattle.level_set.specs.Edits.{tables_without}
use Rattle.level_set.specs.Tables.{is_table}
use Rattle.level_set.proofs.Loops.{dropped}
use Rattle.level_set.proofs.Placing.{goes, stays, not_there}
use Rattle.level_set.proofs.levels.without.Goals as goal
use Rattle.level_set.proofs.levels.without.Goals.{then-is_first, else-is_first+in_ok-try_copy+in_ok-push}

pub loop-home-preserved : goal.loop-home-preserved
loop-home-preserved c =
    let homes = c.args.homes.now in
    let i = c.loop-home.home-index in
    let x = c.home-item.result in
    let here = dropped is_table homes i x (omega arith) c.home-item.is in
    let was = c.loop-home.staying.items in
    elim c.if-is_first.branch [
      | then-is_first w ↦
          (λ j. option_map (λ (rest : List Home). (w.staying-is j).items ++ rest) (tables_without (drop (i + 1) homes) (((λ k. (w.left-is k).now) ∙ w.split_at.ensures.back) j)))
          ∙ ap (λ o. option_map (λ (rest : List Home). was ++ rest) o) (sym (goes (drop i homes) (drop (i + 1) homes) c.loop-home.left.now x here (sym w.if-is_first.ensures)))
          ∙ c.loop-home.invariant
      | else-is_first+in_ok-try_copy+in_ok-push w ↦
          ap (λ (l : List TableId). option_map (λ (rest : List Home). c.if-is_first.staying.items ++ rest) (tables_without (drop (i + 1) homes) l)) (λ k. (w.left-is k).now)
          ∙ sym (stays was (drop i homes) (drop (i + 1) homes) c.if-is_first.staying.items c.loop-home.left.now x here (sym w.if-is_first.ensures)
          ((λ j. (w.staying-is j).items) ∙ w.in_ok-push.ensures.items ∙ ap (λ (h : Home). was ++ h ∷ []) w.in_ok-try_copy.ensures))
          ∙ c.loop-home.invariant
    ]

pub returns-else-is_empty : goal.returns-else-is_empty
returns-else-is_empty c =
    let none = drop_all c.loop-home.home-index c.args.homes.now (omega arith) in
    sym (not_there c.loop-home.staying.items (drop c.loop-home.home-index c.args.homes.now) c.loop-home.left.now none (sym c.if-is_empty.ensures)) ∙ c.loop-home.invariant
