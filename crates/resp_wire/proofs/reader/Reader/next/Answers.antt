use Rattle.std.proofs.Common.{arith}
use Rattle.resp_wire.proofs.WordsRead.{handed_out}
use Rattle.resp_wire.proofs.reader.Reader.next.Goals as goal

pub returns-clause-some : goal.returns-clause-some
returns-clause-some c =
    let skipped = rw (c.deref.ensures.value, ← c.in_ok-read_words.ensures.start) at c.in_ok-begin.ensures.skipped in
    let begun = rw c.deref-2.ensures.value at c.in_ok-read_words.ensures.begun in
    let none = rw c.if-not-branch-2.false at c.in_ok-read_words.ensures.read in
    rw (c.replace-words.ensures.value, ← c.self.view_is)
    (handed_out c.self.inside.buf.items c.self.inside.pending.start c.read_words.new.pending (omega arith) skipped begun none)
