use Rattle.batch_codec.specs.BodyLaws.{only_body_is_read}
use Rattle.batch_codec.proofs.laws.only_records_are_read.Goals as goal

pub returns : goal.returns
returns c = λ bytes read h. only_body_is_read bytes read h
