-- The definitions' values that the borrowed forms of code stand for.
use Rattle.std.specs.Prelude.{option_map}
use Rattle.kv_base.specs.declared.raw_ref.RawRef.{RawRef}
use Rattle.kv_base.specs.declared.raw_ref.RawRef.TheVariants.{Meta, Sub, Score}
use Rattle.kv_base.specs.declared.raw_ref.MetaRef.{MetaRef}
use Rattle.kv_base.specs.declared.raw_ref.MetaRef.TheVariants.{Str, Life, List}
use Rattle.kv_base.specs.declared.row.Row.{Row}
use Rattle.kv_base.specs.declared.row.RowRef.{RowRef}
use Rattle.kv_base.specs.RawKeys.{RawKey, MetaKey, ElementKey, ScoreKey}
use Rattle.kv_base.specs.MetaValues.{MetaValue, StringValue, LifeValue, ListValue}

abbrev pub raw_seen : RawRef → RawKey
raw_seen (Meta key) = MetaKey key.now
raw_seen (Sub key version subkey) = ElementKey key.now version subkey.now
raw_seen (Score key version score member) = ScoreKey key.now version score member.now

abbrev pub meta_seen : MetaRef → MetaValue
meta_seen (Str deadline payload) = StringValue deadline payload.now
meta_seen (Life kind deadline version size) = LifeValue kind deadline version size
meta_seen (List deadline version head tail) = ListValue deadline version head tail

abbrev pub row_seen : RowRef → Row
row_seen row = record { raw = row.raw.now; seq = row.seq; value = option_map (λ value. value.now) row.value }
