use Rattle.redis_model.specs.Stripes.{contains}
use Rattle.key_locks.proofs.Rows.{all_taken}
use Rattle.key_locks.proofs.held.KeyLocks.lock.Goals as goal

pub returns : goal.returns
returns g c = λ k lt. all_taken (contains c.args.stripes) k c.take-a.result c.take-b.result c.take-c.result c.take-d.result c.take-a.ensures.held c.take-b.ensures.held c.take-c.ensures.held c.take-d.ensures.held lt
