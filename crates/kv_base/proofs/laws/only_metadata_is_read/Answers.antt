use Rattle.kv_base.specs.MetaValueLaws.{only_meta_is_read}
use Rattle.kv_base.proofs.laws.only_metadata_is_read.Goals as goal

pub returns : goal.returns
returns c = λ bytes meta e. only_meta_is_read bytes meta e
