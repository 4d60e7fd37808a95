use Rattle.std.proofs.Common.{refl, inr}
use Rattle.kv_fakes.specs.declared.past.ChangeKind.TheVariants.{Gone}
use Rattle.kv_fakes.specs.MemDisk.{changes_of}
use Rattle.kv_fakes.proofs.Pushed.{reads_own, purge_changes}
use Rattle.kv_fakes.proofs.disk.MemDiskFiles.purge.Goals as goal

pub returns-then-fails-clause-torn : goal.returns-then-fails-clause-torn
returns-then-fails-clause-torn c = (_, refl, inr (reads_own (changes_of c.args.self.now) _ c.args.name Gone c.in-Ok.ensures.ok))

pub returns-then-fails-clause-disk : goal.returns-then-fails-clause-disk
returns-then-fails-clause-disk c = purge_changes (changes_of c.args.self.now) _ c.args.name c.in-Ok.ensures.ok

pub returns-else-fails-clause-gone : goal.returns-else-fails-clause-gone
returns-else-fails-clause-gone c = (_, refl, reads_own (changes_of c.args.self.now) _ c.args.name Gone c.in-Ok.ensures.ok)

pub returns-else-fails-clause-torn : goal.returns-else-fails-clause-torn
returns-else-fails-clause-torn c = (_, refl, inr (reads_own (changes_of c.args.self.now) _ c.args.name Gone c.in-Ok.ensures.ok))

pub returns-else-fails-clause-disk : goal.returns-else-fails-clause-disk
returns-else-fails-clause-disk c = purge_changes (changes_of c.args.self.now) _ c.args.name c.in-Ok.ensures.ok
