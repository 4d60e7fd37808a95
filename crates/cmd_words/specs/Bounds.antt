-- The ends of ranges of scores, as texts (Redis command reference, ZRANGEBYSCORE).
use Rattle.std.specs.Prelude.{◌==◌, Bool, true, false, ◌||◌, if◌then◌else◌, [], ◌∷◌, Option, Some, None, ℤ, codes}
use Rattle.kv_base.specs.Map.{Bytes}
use Rattle.kv_base.specs.Score.{read_score}
use Rattle.redis_model.specs.declared.command.Bound.{Bound}
use Rattle.redis_model.specs.declared.command.Bound.TheVariants as bound
use Rattle.cmd_words.specs.Words.{is}

-- a score, which is left out or counted in
abbrev pub bound_at : Bool → Option ℤ → Option Bound
bound_at past None = None
bound_at past (Some z) = if past then Some (bound.Past z) else Some (bound.Closed z)

abbrev pub end_by : Bool → Bytes → Option Bound
end_by past w =
    if is (codes "-inf") w then Some bound.Least
    else if is (codes "+inf") w || is (codes "inf") w then Some bound.Greatest
    else bound_at past (read_score w)

-- `-inf`, `+inf`, `inf` or a score, which a `(` before it leaves out
unfoldable pub read_bound : Bytes → Option Bound
read_bound [] = None
read_bound (b ∷ bs) = if b == 40 then end_by true bs else end_by false (b ∷ bs)
