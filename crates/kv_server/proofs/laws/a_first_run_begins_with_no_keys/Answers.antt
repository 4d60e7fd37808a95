use Rattle.kv_server.proofs.Reopened.{begins_with_none}
use Rattle.kv_server.proofs.laws.a_first_run_begins_with_no_keys.Goals as goal

pub returns : goal.returns
returns c = begins_with_none
