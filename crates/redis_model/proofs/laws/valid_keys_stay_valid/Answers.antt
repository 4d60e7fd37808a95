use Rattle.redis_model.specs.ValidLaws.{run_valid}
use Rattle.redis_model.proofs.laws.valid_keys_stay_valid.Goals as goal

pub returns : goal.returns
returns c = run_valid
