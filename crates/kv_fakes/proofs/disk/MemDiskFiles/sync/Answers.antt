use Rattle.kv_fakes.specs.MemDisk.{changes_of}
use Rattle.kv_fakes.proofs.Pushed.{sync_nothing, sync_durable}
use Rattle.kv_fakes.proofs.disk.MemDiskFiles.sync.Goals as goal

pub returns-in-Ok-clause-durable : goal.returns-in-Ok-clause-durable
returns-in-Ok-clause-durable c = λ agrees. sync_durable (changes_of c.args.self.now) _ c.args.log.now.name c.in-Ok.ensures.ok c.args.log.now.bytes.items agrees

pub returns-in-Ok-clause-disk : goal.returns-in-Ok-clause-disk
returns-in-Ok-clause-disk c = sync_nothing (changes_of c.args.self.now) _ c.args.log.now.name c.in-Ok.ensures.ok
