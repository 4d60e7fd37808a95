use Rattle.kv_server.proofs.Reopened.{begins_with}
use Rattle.kv_server.proofs.laws.a_run_begins_with_what_was_left.Goals as goal

pub returns : goal.returns
returns c = begins_with
