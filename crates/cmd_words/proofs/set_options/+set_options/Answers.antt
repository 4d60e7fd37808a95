use Rattle.std.proofs.Common.{◌≡◌, ◌-◌, length, take, drop, length-drop, arith, sym, ◌∙◌, ap}
use Rattle.std.proofs.lemmas.List.{take_all}
use Rattle.cmd_words.specs.Options.{with_time, set_options}
use Rattle.cmd_words.proofs.Steps.{set_timed, set_other}
use Rattle.cmd_words.proofs.set_options.+set_options.Goals as goal

pub returns-in_ok-more-in-Some : goal.returns-in_ok-more-in-Some
returns-in_ok-more-in-Some t c =
    let rest : take (length c.args.words.now - 2) (drop 2 c.args.words.now) ≡ drop 2 c.args.words.now = take_all _ _ (omega (arith, length-drop 2 c.args.words.now)) in
    let e = set_timed c.args.so_far c.in_ok-more-in-Some.more c.args.words.now _ _ c.in-Some.unit c.in-len2-up.len_at_least c.word-item-2.is c.number-item.is (sym c.unit.ensures ∙ c.in-Some.is) (sym (c.with_time.ensures ∙ ap (with_time c.args.so_far) c.amount.ensures) ∙ c.in_ok-more-in-Some.was) in
    c.set_options.ensures ∙ ap (set_options c.in_ok-more-in-Some.more) rest ∙ sym e

pub returns-in_ok-more-in-None : goal.returns-in_ok-more-in-None
returns-in_ok-more-in-None t c =
    let rest : take (length c.args.words.now - 1) (drop 1 c.args.words.now) ≡ drop 1 c.args.words.now = take_all _ _ (omega (arith, length-drop 1 c.args.words.now)) in
    let e = set_other c.args.so_far c.in_ok-more-in-None.more c.args.words.now _ c.in-len2-up.len_at_least c.word-item-2.is (sym c.unit.ensures ∙ c.in-None.is) (sym c.with_word-in-None.ensures ∙ c.in_ok-more-in-None.was) in
    c.set_options-in-None.ensures ∙ ap (set_options c.in_ok-more-in-None.more) rest ∙ sym e
