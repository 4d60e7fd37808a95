use Rattle.key_locality.specs.AliveLocal.{apply_alive_replies, apply_alive_agrees, touched_later}
use Rattle.key_locality.proofs.laws.commands_stay_right_until_a_deadline.Goals as goal

pub returns-clause-reply : goal.returns-clause-reply
returns-clause-reply c = apply_alive_replies

pub returns-clause-keys : goal.returns-clause-keys
returns-clause-keys c = apply_alive_agrees

pub returns-clause-touches : goal.returns-clause-touches
returns-clause-touches c = touched_later
