use Rattle.kv_server.proofs.Running.{good_run, front_run, protocol_run, damaged_run, whole_run}
use Rattle.kv_server.proofs.top.top_script.Goals as goal

pub returns-clause-good : goal.returns-clause-good
returns-clause-good g c = good_run _ _ _ c.run.ensures

pub returns-clause-front : goal.returns-clause-front
returns-clause-front g c = front_run _ _ _ c.run.ensures

pub returns-clause-protocol : goal.returns-clause-protocol
returns-clause-protocol g c = protocol_run _ _ _ c.run.ensures

pub returns-clause-damaged : goal.returns-clause-damaged
returns-clause-damaged g c = damaged_run _ _ _ c.run.ensures

pub returns-clause-whole : goal.returns-clause-whole
returns-clause-whole g c = λ other. whole_run _ _ _ c.run.ensures
