use Rattle.std.proofs.Common.{◌≡◌, [], vec_len}
use Rattle.kv_base.specs.declared.name.FileName.{FileName}
use Rattle.kv_fakes.specs.Past.{read_after}
use Rattle.kv_fakes.specs.Content.{content}
use Rattle.kv_fakes.specs.Crash.{left_after}
use Rattle.kv_fakes.proofs.journal.Journal.crash.Given as goal

abbrev pub invariant-loop-file : goal.invariant-loop-file
invariant-loop-file l = (name : FileName) → content l.files.items name (read_after l.record name []) ≡ left_after l.fn.self l.fn.choice name []

abbrev pub decreases-loop-file : goal.decreases-loop-file
decreases-loop-file l = vec_len l.files
