-- Replies as bytes, as theorems that compute, and the same by the equations.
use Rattle.std.proofs.Common.{◌≡◌, [], ◌∷◌, ◌++◌, refl, ◌∙◌}
use Rattle.std.specs.Prelude.{codes, pos}
use Rattle.std.specs.Fmt.{digits}
use Rattle.redis_model.specs.declared.reply.Reply.{Reply}
use Rattle.redis_model.specs.declared.reply.Reply.TheVariants as reply
use Rattle.redis_model.specs.declared.reply.Reply.TheBlock.{shape-the_row-Reply-0, hidden-the_row-Reply-0}
use Rattle.redis_model.specs.Render.{render, spelled, line_end}
use Rattle.redis_model.specs.RenderLaws.{render-Array, render-Int, render-Null}

two : Reply
two = reply.Array (reply.Int (pos 1) ∷ reply.Null ∷ [])

two_by_cases : spelled two ≡ codes "*2" ++ line_end ++ codes ":1" ++ line_end ++ codes "$-1" ++ line_end
unfolding shape-the_row-Reply-0 hidden-the_row-Reply-0 digits two denote.Hole.Carrier.hidden
two_by_cases = refl

two_by_equations : render two ≡ codes "*2" ++ line_end ++ codes ":1" ++ line_end ++ codes "$-1" ++ line_end
unfolding two digits
two_by_equations = render-Array (reply.Int (pos 1) ∷ reply.Null ∷ []) ∙ simp (render-Int, render-Null)
