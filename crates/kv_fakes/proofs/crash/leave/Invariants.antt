use Rattle.std.proofs.Common.{◌≡◌, [], drop}
use Rattle.kv_base.specs.declared.name.FileName.{FileName}
use Rattle.kv_fakes.specs.Content.{content}
use Rattle.kv_fakes.specs.Crash.{left_after}
use Rattle.kv_fakes.proofs.crash.leave.Given as goal

abbrev pub invariant-loop-at : goal.invariant-loop-at
invariant-loop-at l = (name : FileName) → left_after (drop l.at l.changes) l.number name (content l.files.items name []) ≡ left_after l.changes l.choice name []
