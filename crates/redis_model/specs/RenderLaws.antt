-- The equations of `render`, one for each reply, and that its two readings are one.
use Rattle.std.proofs.Common.{◌≡◌, ℕ, suc, List, [], ◌∷◌, ◌++◌, length, refl, sym, subst, ◌∙◌, ap, map, flat_map}
use Rattle.std.specs.Prelude.{codes, ℤ, decimal}
use Rattle.kv_base.specs.Map.{Bytes}
use Rattle.kv_base.specs.Number.{int_text}
use Rattle.redis_model.specs.declared.reply.Reply.{Reply, Row_of-Reply, end_of-Reply, more_of-Reply, fold-roll-Reply, roll-Reply, ind-Reply, map-Reply, items-the_row-Reply, items_hidden-the_row-Reply-0}
use Rattle.redis_model.specs.declared.reply.Reply.TheOpen as layer
use Rattle.redis_model.specs.declared.reply.Reply.TheVariants as reply
use Rattle.redis_model.specs.declared.reply.Reply.TheBlock.{hidden-the_row-Reply-0}
use Rattle.redis_model.specs.declared.reply.TypeWord.{TypeWord}
use Rattle.redis_model.specs.declared.reply.ReplyError.{ReplyError}
use Rattle.redis_model.specs.Render.{render, rendered, spelled, spelled_row, line_end, word_text, error_text}

-- ---- one reply each

pub render-Ok : render reply.Ok ≡ codes "+OK" ++ line_end
unfolding render
render-Ok = ap render (sym reply.rolls-Ok) ∙ fold-roll-Reply Bytes rendered layer.Ok

pub render-Pong : render reply.Pong ≡ codes "+PONG" ++ line_end
unfolding render
render-Pong = ap render (sym reply.rolls-Pong) ∙ fold-roll-Reply Bytes rendered layer.Pong

pub render-Word : (w : TypeWord) → render (reply.Word w) ≡ codes "+" ++ word_text w ++ line_end
unfolding render
render-Word w = ap render (sym (reply.rolls-Word w)) ∙ fold-roll-Reply Bytes rendered (layer.Word w)

pub render-Int : (n : ℤ) → render (reply.Int n) ≡ codes ":" ++ int_text n ++ line_end
unfolding render
render-Int n = ap render (sym (reply.rolls-Int n)) ∙ fold-roll-Reply Bytes rendered (layer.Int n)

pub render-Bulk : (v : Bytes) → render (reply.Bulk v) ≡ codes "$" ++ decimal (length v) ++ line_end ++ v ++ line_end
unfolding render
render-Bulk v = ap render (sym (reply.rolls-Bulk v)) ∙ fold-roll-Reply Bytes rendered (layer.Bulk v)

pub render-Null : render reply.Null ≡ codes "$-1" ++ line_end
unfolding render
render-Null = ap render (sym reply.rolls-Null) ∙ fold-roll-Reply Bytes rendered layer.Null

pub render-NullArray : render reply.NullArray ≡ codes "*-1" ++ line_end
unfolding render
render-NullArray = ap render (sym reply.rolls-NullArray) ∙ fold-roll-Reply Bytes rendered layer.NullArray

pub render-Error : (e : ReplyError) → render (reply.Error e) ≡ codes "-" ++ error_text e ++ line_end
unfolding render
render-Error e = ap render (sym (reply.rolls-Error e)) ∙ fold-roll-Reply Bytes rendered (layer.Error e)

length_map : {A B : Type 0} (f : A → B) (xs : List A) → length (map f xs) ≡ length xs
length_map f [] = refl
length_map f (x ∷ xs) = ap suc (length_map f xs)

joined : {A : Type 0} (f : A → Bytes) (xs : List A) → flat_map (λ p. p) (map f xs) ≡ flat_map f xs
joined f [] = refl
joined f (x ∷ xs) = ap (λ (t : Bytes). f x ++ t) (joined f xs)

render_parts : (rs : List Reply) → render (reply.Array rs) ≡ rendered (layer.Array (map render rs))
unfolding render
render_parts rs = ap render (sym (reply.rolls-Array rs)) ∙ fold-roll-Reply Bytes rendered (layer.Array rs)

pub render-Array : (rs : List Reply) → render (reply.Array rs) ≡ codes "*" ++ decimal (length rs) ++ line_end ++ flat_map render rs
render-Array rs =
    render_parts rs
    ∙ ap (λ (n : ℕ). codes "*" ++ decimal n ++ line_end ++ flat_map (λ (p : Bytes). p) (map render rs)) (length_map render rs)
    ∙ ap (λ (t : Bytes). codes "*" ++ decimal (length rs) ++ line_end ++ t) (joined render rs)

-- ---- the reading by cases

spelled_items : (n : _) (row : Row_of-Reply n) → spelled_row row ≡ map spelled (items-the_row-Reply n row)
spelled_items n end_of-Reply = refl
spelled_items n (more_of-Reply r rest) = ap (λ (ts : List Bytes). spelled r ∷ ts) (spelled_items _ rest)

pub spelled-Array : (rs : List Reply) → spelled (reply.Array rs) ≡ rendered (layer.Array (map spelled rs))
spelled-Array rs =
    ap (λ (ts : List Bytes). rendered (layer.Array ts)) (spelled_items _ (hidden-the_row-Reply-0 rs) ∙ ap (map spelled) (items_hidden-the_row-Reply-0 rs))

abbrev IsSpelled : Reply → Type 0
IsSpelled r = render r ≡ spelled r

-- of parts that are spelled so
each_spelled : (rs : List ((r : Reply) × IsSpelled r)) → map render (map (λ e. e.0) rs) ≡ map spelled (map (λ e. e.0) rs)
each_spelled [] = refl
each_spelled (e ∷ rs) = λ i. e.1 i ∷ each_spelled rs i

array_spelled : (rs : List Reply) → map render rs ≡ map spelled rs → IsSpelled (reply.Array rs)
array_spelled rs e = render_parts rs ∙ ap (λ (ts : List Bytes). rendered (layer.Array ts)) e ∙ sym (spelled-Array rs)

of_layer : (y : layer.Reply-F ((r : Reply) × IsSpelled r)) → IsSpelled (roll-Reply (map-Reply ((r : Reply) × IsSpelled r) Reply (λ e. e.0) y))
of_layer layer.Ok = subst IsSpelled (sym reply.rolls-Ok) render-Ok
of_layer layer.Pong = subst IsSpelled (sym reply.rolls-Pong) render-Pong
of_layer (layer.Word w) = subst IsSpelled (sym (reply.rolls-Word w)) (render-Word w)
of_layer (layer.Int n) = subst IsSpelled (sym (reply.rolls-Int n)) (render-Int n)
of_layer (layer.Bulk v) = subst IsSpelled (sym (reply.rolls-Bulk v)) (render-Bulk v)
of_layer layer.Null = subst IsSpelled (sym reply.rolls-Null) render-Null
of_layer layer.NullArray = subst IsSpelled (sym reply.rolls-NullArray) render-NullArray
of_layer (layer.Array parts) = subst IsSpelled (sym (reply.rolls-Array (map (λ e. e.0) parts))) (array_spelled _ (each_spelled parts))
of_layer (layer.Error e) = subst IsSpelled (sym (reply.rolls-Error e)) (render-Error e)

pub render_is_spelled : (r : Reply) → render r ≡ spelled r
render_is_spelled = ind-Reply IsSpelled (λ x y is. subst (λ z. IsSpelled (roll-Reply z)) is (of_layer y))
