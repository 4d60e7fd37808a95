use Rattle.std.proofs.Common.{◌≡◌}
use Rattle.toml.specs.View.{members_view}
use Rattle.conf_file.specs.Configuration.{other_key}
use Rattle.conf_file.proofs.values.other_key.Given as goal

abbrev pub invariant-names : goal.invariant-names
invariant-names l =
    goal.iterator-names.can_next l.name-iterator ×
    goal.iterator-names.is_finite l.name-iterator ×
    (other_key (members_view l.name-iterator) ≡ other_key (members_view l.table.entries))
