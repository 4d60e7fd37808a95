use Rattle.std.proofs.Common.{length, sym, ap, ◌∙◌, arith}
use Rattle.std.proofs.lemmas.List.{length-drop}
use Rattle.resp_wire.specs.HoldingLaws.{unfinished_left}
use Rattle.resp_wire.proofs.reader.Reader.finish.Goals as goal

pub returns-else-left-eq0-clause-end : goal.returns-else-left-eq0-clause-end
returns-else-left-eq0-clause-end c = unfinished_left c.args.self.now _ (ap length (sym c.self.view_is) ∙ omega (arith, length-drop c.self.inside.pending.start c.self.inside.buf.items)) (omega arith)
