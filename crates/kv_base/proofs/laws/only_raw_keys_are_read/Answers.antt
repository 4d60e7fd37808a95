use Rattle.kv_base.specs.RawKeyLaws.{only_raw_is_read}
use Rattle.kv_base.proofs.laws.only_raw_keys_are_read.Goals as goal

pub returns : goal.returns
returns c = λ bytes raw e. only_raw_is_read bytes raw e
