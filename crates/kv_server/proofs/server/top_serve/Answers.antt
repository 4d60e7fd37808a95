use Rattle.kv_server.proofs.ServingAll.{attended_when, files_cause, door_cause}
use Rattle.kv_server.proofs.server.top_serve.Goals as goal

pub returns-clause-attended : goal.returns-clause-attended
returns-clause-attended g c = attended_when _ _ _ c.serve_all.ensures

pub returns-clause-files_fault : goal.returns-clause-files_fault
returns-clause-files_fault g c = files_cause _ _ _ c.serve_all.ensures

pub returns-clause-door_fault : goal.returns-clause-door_fault
returns-clause-door_fault g c = door_cause _ _ _ c.serve_all.ensures
