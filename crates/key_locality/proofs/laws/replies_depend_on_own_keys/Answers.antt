use Rattle.key_locality.specs.Local.{apply_replies}
use Rattle.key_locality.proofs.laws.replies_depend_on_own_keys.Goals as goal

pub returns : goal.returns
returns c = apply_replies
