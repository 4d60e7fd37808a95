use Rattle.kv_fakes.specs.MemDisk.{changes_of}
use Rattle.kv_fakes.proofs.Calls.{crash_image}
use Rattle.kv_fakes.proofs.disk.MemDisk.crash.Goals as goal

pub returns-clause-image : goal.returns-clause-image
returns-clause-image c = λ name. crash_image (changes_of c.args.self.now) c.args.choice name _ (c.in_ok-past.ensures name)
