use Rattle.std.proofs.Common.{ap, ◌∙◌}
use Rattle.cmd_words.specs.Words.{weight_of}
use Rattle.cmd_words.proofs.Asked.{asked}
use Rattle.cmd_words.proofs.Parsing.{parts, unknown, done, refused}
use Rattle.cmd_words.proofs.words.parse.Goals as goal

pub returns-in_default-clause-table : goal.returns-in_default-clause-table
returns-in_default-clause-table c = unknown _ _ _ _ (parts _ _ _ c.remove-first.ensures.item c.remove-first.ensures.rest) c.name_of.ensures c.in_default.is

pub returns-in-Ok-clause-table : goal.returns-in-Ok-clause-table
returns-in-Ok-clause-table c = done _ _ _ _ c.in-Some.name c.weight-weight.result _ (parts _ _ _ c.remove-first.ensures.item c.remove-first.ensures.rest) c.name_of.ensures c.in-Some.is (c.weight-weight.ensures ∙ ap weight_of c.as_slice.ensures) c.in-Ok.ensures.table

pub returns-in-Ok-clause-within : goal.returns-in-Ok-clause-within
returns-in-Ok-clause-within c = asked _ _ _ c.weight-weight.result c.in-Some.name c.in-Ok.parsed c.requires (parts _ _ _ c.remove-first.ensures.item c.remove-first.ensures.rest) (c.weight-weight.ensures ∙ ap weight_of c.as_slice.ensures) c.in-Ok.ensures.table

pub returns-clause-table : goal.returns-clause-table
returns-clause-table c = refused _ _ _ _ c.in-Some.name c.weight-weight.result c.in-Err.kind c.told.result (parts _ _ _ c.remove-first.ensures.item c.remove-first.ensures.rest) c.name_of.ensures c.in-Some.is (c.weight-weight.ensures ∙ ap weight_of c.as_slice.ensures) c.in-Err.ensures.table c.in-Err.ensures.memory c.told.ensures
