use Rattle.std.proofs.Common.{rules, ap, ◌∙◌}
use Rattle.std.proofs.Common.{drop}
use Rattle.conf_file.proofs.Judging.{no_address, address_parts}
use Rattle.conf_file.proofs.values.is_address.Goals as goal

pub returns-in_default : goal.returns-in_default
returns-in_default c = no_address c.args.text.now (search rules)

pub returns : goal.returns
returns c =
    c.are_host_port.ensures
    ∙ address_parts c.args.text.now _ _ c.in-Some.place (search rules) c.split_at.ensures.front (c.split_at-2.ensures.back ∙ ap (λ l. drop 1 l) c.split_at.ensures.back)
