use Rattle.std.proofs.Common.{◌≡◌, length, arith, sym, ◌∙◌, true, ap, Some, drop, take, ◌-◌, length-drop}
use Rattle.std.proofs.lemmas.List.{take_all}
use Rattle.std.specs.Prelude.{is_none}
use Rattle.cmd_words.specs.Options.{range_options}
use Rattle.cmd_words.proofs.Steps.{range_limit_end, range_other_end, none_from_some}
use Rattle.cmd_words.proofs.range_options.+range_options.Goals as goal

pub returns-else-is_some : goal.returns-else-is_some
returns-else-is_some t c =
    let none : is_none c.args.so_far.limit ≡ true = none_from_some _ _ c.is_some.ensures c.if-is_some.false in
    range_limit_end c.args.so_far c.args.words.now _ _ _ _ _ c.in-len3-up.len_at_least c.word-item-2.is c.offset-item.is c.count-item.is (sym c.is_word.ensures ∙ c.if-is_word.true) none (take_all _ _ (omega (arith, length-drop 3 c.args.words.now)))
    (c.range_options.ensures ∙ ap (λ l. range_options (record c.args.so_far { limit = Some l }) (take (length c.args.words.now - 3) (drop 3 c.args.words.now))) c.limit.ensures)

pub returns-in_ok-more-in-len3-up : goal.returns-in_ok-more-in-len3-up
returns-in_ok-more-in-len3-up t c =
    range_other_end c.args.so_far c.in_ok-more-in-len3-up.more c.args.words.now _ _ _ c.in-len3-up.len_at_least c.word-item-2.is (sym c.is_word.ensures ∙ c.if-is_word.false) (sym c.with_scores-else-is_word.ensures ∙ c.in_ok-more-in-len3-up.was) (take_all _ _ (omega (arith, length-drop 1 c.args.words.now)))
    c.range_options-else-is_word.ensures
