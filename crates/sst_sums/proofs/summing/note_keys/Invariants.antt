use Rattle.std.proofs.Common.{◌≡◌, ◌++◌, map, option_map}
use Rattle.kv_base.specs.RowRefs.{row_seen}
use Rattle.sst_parts.specs.Filter.{hash_of}
use Rattle.sst_sums.specs.Summing.{new_keys}
use Rattle.sst_sums.specs.SummingLaws.{still_new}
use Rattle.sst_sums.proofs.summing.note_keys.Given as goal

-- the raw keys that are left, behind those that are noted
abbrev pub invariant-loop-row : goal.invariant-loop-row
invariant-loop-row l = l.keys.items ++ still_new (option_map (λ bytes. bytes.now) l.last) l.row-index l.rows ≡ l.initial.keys.items ++ map hash_of (new_keys (option_map (λ bytes. bytes.now) l.before) (map row_seen l.rows))
