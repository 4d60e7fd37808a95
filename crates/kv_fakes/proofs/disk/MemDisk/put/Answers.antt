use Rattle.std.proofs.Common.{ap, Some, List, ℕ}
use Rattle.kv_fakes.specs.declared.past.ChangeKind.TheVariants.{Placed}
use Rattle.kv_fakes.specs.MemDisk.{changes_of}
use Rattle.kv_fakes.proofs.Outcomes.{on_ok}
use Rattle.kv_fakes.proofs.Pushed.{reads_own, placed_durable, placed_changes}
use Rattle.kv_fakes.proofs.disk.MemDisk.put.Goals as goal

pub returns-clause-reads : goal.returns-clause-reads
returns-clause-reads c = on_ok c.place.result (λ is. ap (λ (l : List ℕ). Some l) (reads_own (changes_of c.args.self.now) _ c.args.name (Placed c.args.bytes) is)) c.place.ensures.ok

pub returns-clause-durable : goal.returns-clause-durable
returns-clause-durable c = on_ok c.place.result (λ is. placed_durable (changes_of c.args.self.now) _ c.args.name c.args.bytes is) c.place.ensures.ok

pub returns-clause-others : goal.returns-clause-others
returns-clause-others c = on_ok c.place.result (λ is. placed_changes (changes_of c.args.self.now) _ c.args.name c.args.bytes is) c.place.ensures.ok
