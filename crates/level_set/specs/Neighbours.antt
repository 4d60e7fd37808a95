-- Whether a table may stand among others, by its neighbours and the others' names.
use Rattle.std.specs.Prelude.{Bool, true, List, [], ◌∷◌}
use Rattle.std.specs.List.{list_any}
use Rattle.kv_base.specs.declared.name.TableId.{TableId}
use Rattle.level_set.specs.declared.home.Home.{Home}
use Rattle.level_set.specs.Tables.{same_id, stands_before}

-- the last of these stands before it
abbrev pub stands_next : List Home → Home → Bool
stands_next [] home = true
stands_next (last ∷ []) home = stands_before last home
stands_next (first ∷ second ∷ behind) home = stands_next (second ∷ behind) home

-- it stands before the first of these
abbrev pub stands_ahead : Home → List Home → Bool
stands_ahead home [] = true
stands_ahead home (first ∷ behind) = stands_before home first

-- one of these has this name
abbrev pub is_named : TableId → List Home → Bool
is_named id homes = list_any (λ t. same_id t.desc.id id) homes
