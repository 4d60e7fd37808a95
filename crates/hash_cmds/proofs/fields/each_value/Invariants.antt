use Rattle.std.proofs.Common.{◌≡◌, take}
use Rattle.std.specs.Prelude.{IfSome, None, map}
use Rattle.lives_model.specs.Views.{ReadsOnly}
use Rattle.hash_cmds.specs.Planned.{value_of_field}
use Rattle.hash_cmds.proofs.fields.each_value.Given as goal

-- the fields so far are answered
abbrev pub invariant-loop-field : goal.invariant-loop-field
invariant-loop-field g l = record {
  shown : IfSome (g.V.RawView.told l.fn.view).rows (λ c. l.values ≡ map (value_of_field c l.key l.life) (take l.field-index l.fields));
  reads : ReadsOnly (g.V.RawView.told l.fn.view) (g.V.RawView.told l.view) None;
}
