use Rattle.std.proofs.Common.{◌<◌, length, rules}
use Rattle.resp_wire.proofs.Cutting.{kept_word, some_words}
use Rattle.resp_wire.proofs.WordsRead.{on_err}
use Rattle.resp_wire.proofs.words.line_words.Goals as goal

pub returns-in_err-keep-clause-err : goal.returns-in_err-keep-clause-err
returns-in_err-keep-clause-err c =
    let some : 0 < length c.cut.result.0.now = search rules in
    on_err c.from_residual.result _ (some_words c.loop-rest.words c.loop-rest.rest.now c.cut.result.0.now c.cut.result.1.now _ c.cut.ensures.part c.cut.ensures.behind some c.loop-rest.invariant)

pub loop-rest-preserved-in_ok-keep : goal.loop-rest-preserved-in_ok-keep
loop-rest-preserved-in_ok-keep c =
    let some : 0 < length c.cut.result.0.now = search rules in
    kept_word c.loop-rest.words c.loop-rest.rest.now c.cut.result.0.now c.cut.result.1.now _ c.cut.ensures.part c.cut.ensures.behind some c.loop-rest.invariant c.keep.new.words c.in_ok-keep.ensures.ok
