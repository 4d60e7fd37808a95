-- The rows for a map, spelled out byte by byte.
use Rattle.std.proofs.Common.{◌≡◌, refl, [], ◌∷◌}
use Rattle.std.specs.Prelude.{Some, None, pos, codes}
use Rattle.kv_base.specs.Map.{empty, get, insert, size}
use Rattle.kv_base.specs.Fields.{u32, u64, text, read_u32, read_u64, read_text}
use Rattle.kv_base.specs.RawKeys.{is_raw_within, raw_text, read_life, raw_parts, read_raw}
use Rattle.kv_base.specs.MetaValues.{meta_text}
use Rattle.redis_model.specs.Value.{ZSet, ListOf, RedisMap}
use Rattle.lives_model.specs.Rows.{meta_key, row_key}
use Rattle.plan_laws.specs.Tabulated.{tabulated}
use Rattle.plan_laws.specs.RowsFor.{rows_for}

-- a list l of one item v with the deadline 7, and a sorted set z with the member a of score 0
keys : RedisMap
keys = insert (insert empty (codes "l") (record { value = ListOf (codes "v" ∷ []); deadline = Some 7 })) (codes "z") (record { value = ZSet (insert empty (codes "a") (pos 0)); deadline = None })

spelled : (rows_for keys).entries ≡
    (109 ∷ 0 ∷ 108 ∷ [], 131 ∷ 0 ∷ 0 ∷ 0 ∷ 0 ∷ 0 ∷ 0 ∷ 0 ∷ 7 ∷ 0 ∷ 0 ∷ 0 ∷ 0 ∷ 0 ∷ 0 ∷ 8 ∷ 0 ∷ 0 ∷ 0 ∷ 0 ∷ 0 ∷ 0 ∷ 0 ∷ 0 ∷ 1 ∷ 128 ∷ 0 ∷ 0 ∷ 0 ∷ 0 ∷ 0 ∷ 0 ∷ 0 ∷ 128 ∷ 0 ∷ 0 ∷ 0 ∷ 0 ∷ 0 ∷ 0 ∷ 1 ∷ [])
    ∷ (109 ∷ 0 ∷ 122 ∷ [], 133 ∷ 0 ∷ 0 ∷ 0 ∷ 0 ∷ 0 ∷ 0 ∷ 0 ∷ 0 ∷ 0 ∷ 0 ∷ 0 ∷ 0 ∷ 0 ∷ 0 ∷ 8 ∷ 0 ∷ 0 ∷ 0 ∷ 0 ∷ 0 ∷ 0 ∷ 0 ∷ 0 ∷ 1 ∷ [])
    ∷ (115 ∷ 0 ∷ 0 ∷ 0 ∷ 0 ∷ 1 ∷ 108 ∷ 0 ∷ 0 ∷ 0 ∷ 0 ∷ 0 ∷ 0 ∷ 8 ∷ 0 ∷ 128 ∷ 0 ∷ 0 ∷ 0 ∷ 0 ∷ 0 ∷ 0 ∷ 0 ∷ [], 118 ∷ [])
    ∷ (115 ∷ 0 ∷ 0 ∷ 0 ∷ 0 ∷ 1 ∷ 122 ∷ 0 ∷ 0 ∷ 0 ∷ 0 ∷ 0 ∷ 0 ∷ 8 ∷ 0 ∷ 97 ∷ [], 128 ∷ 0 ∷ 0 ∷ 0 ∷ 0 ∷ 0 ∷ 0 ∷ 0 ∷ [])
    ∷ (122 ∷ 0 ∷ 0 ∷ 0 ∷ 0 ∷ 1 ∷ 122 ∷ 0 ∷ 0 ∷ 0 ∷ 0 ∷ 0 ∷ 0 ∷ 8 ∷ 0 ∷ 128 ∷ 0 ∷ 0 ∷ 0 ∷ 0 ∷ 0 ∷ 0 ∷ 0 ∷ 97 ∷ [], [])
    ∷ []
unfolding keys rows_for tabulated empty get insert size u32 u64 text read_u32 read_u64 read_text is_raw_within raw_text read_life raw_parts read_raw meta_text meta_key row_key
spelled = refl
