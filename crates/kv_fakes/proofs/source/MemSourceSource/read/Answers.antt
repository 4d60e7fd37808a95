use Rattle.std.proofs.Common.{ap, arith}
use Rattle.kv_fakes.proofs.Pieces.{sizes_used}
use Rattle.kv_fakes.proofs.source.MemSourceSource.read.Goals as goal

pub returns-clause-pieces : goal.returns-clause-pieces
returns-clause-pieces c = sizes_used c.self.inside.pieces c.args.self.now.pieces c.self.inside.used c.min-self-inside.result (ap (λ v. v.pieces) c.self.view_is) (omega (arith, c.min-self-inside.ensures, c.saturating_add.ensures, c.len.ensures, c.len.type_inv))
