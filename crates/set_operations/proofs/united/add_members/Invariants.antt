use Rattle.std.proofs.Common.{◌≡◌, take}
use Rattle.std.specs.Prelude.{fold}
use Rattle.std.specs.BTreeSet.{insert_key}
use Rattle.kv_base.specs.Map.{byte_cmp}
use Rattle.set_operations.specs.Combined.{members_of}
use Rattle.set_operations.proofs.united.add_members.Given as goal

-- the members so far are added
abbrev pub invariant-loop-row : goal.invariant-loop-row
invariant-loop-row l = l.all.keys ≡ fold (insert_key byte_cmp) l.fn.all.keys (members_of l.key (take l.row-index l.rows))
