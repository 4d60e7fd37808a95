use Rattle.redis_model.specs.RenderLaws.{render_is_spelled}
use Rattle.redis_model.proofs.laws.replies_have_one_rendering.Goals as goal

pub returns : goal.returns
returns c = render_is_spelled
